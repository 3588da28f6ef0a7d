-- What is judged of values.
use Rattle.std.proofs.Common.{◌≡◌, ℕ, zero, suc, ◌<◌, List, [], ◌∷◌, ◌++◌, Some, Result, Ok, Err, refl, sym, ap, subst, ◌∙◌, arith}
use Rattle.std.proofs.lemmas.List.Elements.{All-head, All-tail}
use Rattle.std.specs.Prelude.{All, slice_index}
use Rattle.serde_json.specs.Data.{Data}
use Rattle.serde_json.specs.Find.{as_array, as_str}
use Rattle.serde_json.specs.View.{items_of}
use Rattle.span_io.specs.declared.cause.Cause.{Cause}
use Rattle.span_io.specs.declared.halt.Halt.{Halt}
use Rattle.span_io.specs.Paths.{Offences, nothing, here, each, valued, NothingOffends, Counts, Halts, JudgesValue}
use Rattle.span_io.proofs.PathLaws.{clean_nothing, clean_parts, clean_one_more, quiet_nothing, halts_first, halts_later, halts_at, counts_here, counts_only}
use Rattle.trace_model.specs.declared.noted.KeyValue.{KeyValue}
use Rattle.trace_model.specs.OtlpParts.{NotedValue}
use Rattle.json_members.specs.Members.{elements}
use Rattle.json_members.proofs.ElementLaws.{items_listed}
use Rattle.otlp_json.specs.private.Found.{AreFound}
use Rattle.otlp_json.specs.Numbers.{SpellsBytes, base64_offends}
use Rattle.otlp_json.specs.Values.{behind, values_offend, held_offends, json_value_in, json_key_value_in, json_value_at, json_key_value_at, inner_value_offends, inner_pair_offends, json_value_offends, json_key_value_offends}
use Rattle.otlp_json.proofs.ListLemmas.{finds_more}
use Rattle.otlp_json.proofs.Walks.{Passed, none_passed, stands, passed_on}

-- ---- the only member of a value

clean_behind : (before : ℕ) (Offends : Offences) → NothingOffends Offends → NothingOffends (behind before Offends)
clean_behind zero Offends clean = clean_parts Offends nothing clean clean_nothing
clean_behind (suc before) Offends clean = clean_parts nothing (behind before Offends) clean_nothing (clean_behind before Offends clean)

pub halts_behind : (before : ℕ) (halt : Halt Cause) (Offends : Offences) → Halts halt Offends → Halts halt (behind before Offends)
halts_behind zero halt Offends h = halts_first halt Offends nothing quiet_nothing h
halts_behind (suc before) halt Offends h = halts_later halt nothing (behind before Offends) clean_nothing (halts_behind before halt Offends h)

pub judged_behind : {T : Type 0} (before : ℕ) (r : Result T (Halt Cause)) (Offends : Offences) → JudgesValue r Offends → JudgesValue r (behind before Offends)
judged_behind before (Ok x) Offends h = clean_behind before Offends h
judged_behind before (Err halt) Offends h = halts_behind before halt Offends h

-- ---- elements, as a loop goes through them

-- no level is left below a list that holds something
pub none_below : (Offends : Data → Offences) (all seen rest : List Data) (d : Data) → all ≡ seen ++ d ∷ rest → (left : ℕ) → left ≡ 0
    → Counts (values_offend left Offends all) 5
none_below Offends all seen rest d split left none = rw (none, split) (some seen)
  where
    some : (before : List Data) → Counts (values_offend 0 Offends (before ++ d ∷ rest)) 5
    some [] = counts_only 5
    some (e ∷ before) = counts_only 5

module _ (Offends : Data → Offences) (left below : ℕ) (some : left ≡ suc below) where
  as_each : (ds : List Data) → values_offend left Offends ds ≡ each Offends ds
  as_each ds = ap (λ (l : ℕ). values_offend l Offends ds) some

  pub clean_next : (seen : List Data) (d : Data) → NothingOffends (values_offend left Offends seen) → NothingOffends (Offends d)
      → NothingOffends (values_offend left Offends (seen ++ d ∷ []))
  clean_next seen d all last = subst NothingOffends (sym (as_each _)) (clean_one_more Offends seen d (subst NothingOffends (as_each _) all) last)

  pub halts_next : (all seen rest : List Data) (d : Data) → all ≡ seen ++ d ∷ rest → (halt : Halt Cause)
      → NothingOffends (values_offend left Offends seen) → Halts halt (Offends d) → Halts halt (values_offend left Offends all)
  halts_next all seen rest d split halt clean h =
      subst (Halts halt) (sym (as_each all)) (subst (λ ds. Halts halt (each Offends ds)) (sym split)
      (halts_at Offends halt seen d rest (subst NothingOffends (as_each _) clean) h))

pub none_clean : (left : ℕ) (Offends : Data → Offences) → NothingOffends (values_offend left Offends [])
none_clean zero Offends = clean_nothing
none_clean (suc left) Offends = clean_nothing

-- ---- what was judged of the elements, of the array

module _ (left : ℕ) (Offends : Data → Offences) (ds : List Data) (d : Data) (is : Some (items_of ds) ≡ as_array d) where
  held_is : held_offends left Offends d ≡ values_offend left Offends ds
  held_is = ap (λ o. valued (λ es. values_offend left Offends (elements es)) o) (sym is) ∙ ap (λ es. values_offend left Offends es) (items_listed ds)

  pub clean_held : NothingOffends (values_offend left Offends ds) → NothingOffends (held_offends left Offends d)
  clean_held h = subst NothingOffends (sym held_is) h

  pub halts_held : (halt : Halt Cause) → Halts halt (values_offend left Offends ds) → Halts halt (held_offends left Offends d)
  halts_held halt h = subst (Halts halt) (sym held_is) h

-- ---- a level further down

module _ (left below : ℕ) (some : left ≡ suc below) (d : Data) where
  pub value_deeper : (r : NotedValue) → json_value_at below r d → json_value_in left r d
  unfolding json_value_in
  value_deeper r h = subst (λ (l : ℕ). json_value_in l r d) (sym some) h

  pub pair_deeper : (p : KeyValue) → json_key_value_at below p d → json_key_value_in left p d
  unfolding json_key_value_in
  pair_deeper p h = subst (λ (l : ℕ). json_key_value_in l p d) (sym some) h

  pub value_clean_deeper : NothingOffends (json_value_offends below d) → NothingOffends (inner_value_offends left d)
  unfolding inner_value_offends
  value_clean_deeper h = subst (λ (l : ℕ). NothingOffends (inner_value_offends l d)) (sym some) h

  pub value_halts_deeper : (halt : Halt Cause) → Halts halt (json_value_offends below d) → Halts halt (inner_value_offends left d)
  unfolding inner_value_offends
  value_halts_deeper halt h = subst (λ (l : ℕ). Halts halt (inner_value_offends l d)) (sym some) h

  pub pair_clean_deeper : NothingOffends (json_key_value_offends below d) → NothingOffends (inner_pair_offends left d)
  unfolding inner_pair_offends
  pair_clean_deeper h = subst (λ (l : ℕ). NothingOffends (inner_pair_offends l d)) (sym some) h

  pub pair_halts_deeper : (halt : Halt Cause) → Halts halt (json_key_value_offends below d) → Halts halt (inner_pair_offends left d)
  unfolding inner_pair_offends
  pair_halts_deeper halt h = subst (λ (l : ℕ). Halts halt (inner_pair_offends l d)) (sym some) h

-- ---- lists and maps, as a loop goes through them

-- what is found of the elements that were seen
pub record HeldSoFar {X V : Type 0} (Is : X → Data → Type 0) (Told : List X → V → Type 0) (Offends : Data → Offences) (left : ℕ) (rows : V)
    (seen : List Data) : Type 0 where
  pub read : AreFound Is Told seen rows
  pub clean : NothingOffends (values_offend left Offends seen)

module _ {X V : Type 0} (Is : X → Data → Type 0) (Told : List X → V → Type 0) (Offends : Data → Offences) (left : ℕ) (all : List Data) where
  abbrev pub HeldPassed : V → List Data → Type 0
  HeldPassed rows rest = Passed (HeldSoFar Is Told Offends left rows) all rest

  pub held_begin : (rows : V) → Told [] rows → HeldPassed rows all
  held_begin rows told =
      none_passed _ all (record { read = record { found = []; each = tt; told = told }; clean = none_clean left Offends })

  module _ (now rest : List Data) (d : Data) (step : now ≡ d ∷ rest) (old : V) (before : HeldPassed old now) where
    split : all ≡ before.seen ++ d ∷ rest
    split = stands _ all now rest d step before

    pub too_deep : left ≡ 0 → Counts (values_offend left Offends all) 5
    too_deep none = none_below Offends all before.seen rest d split left none

    module _ (below : ℕ) (some : left ≡ suc below) where
      pub held_more : (new : V) (x : X) → ((found : List X) → Told found old → Told (found ++ x ∷ []) new) → Is x d → NothingOffends (Offends d)
          → HeldPassed new rest
      held_more new x more is clean = passed_on _ all now rest d step before _ (record {
        read = finds_more Is Told d old new x is more before.seen before.holds.read;
        clean = clean_next Offends left below some before.seen d before.holds.clean clean;
      })

      pub held_stops : (halt : Halt Cause) → Halts halt (Offends d) → Halts halt (values_offend left Offends all)
      held_stops halt h = halts_next Offends left below some all before.seen rest d split halt before.holds.clean h

-- ---- base64

pub no_bytes : (d : Data) (text : List ℕ) → Some text ≡ as_str d → ((held : List ℕ) → ¬ SpellsBytes text held) → Counts (base64_offends d) 11
no_bytes d text is never =
    subst (λ o. Counts (valued (λ t. here (λ n. (n ≡ 11) × ((held : List ℕ) → ¬ SpellsBytes t held))) o) 11) is
    (counts_here _ 11 (refl, never) (λ n h. omega (arith, h.0)))

pub bytes_below : (held : List ℕ) → All (λ b. b < 256) held → (i : ℕ) → slice_index held i < 256
bytes_below [] h i = omega arith
bytes_below (b ∷ bs) h zero = All-head (λ c. c < 256) b bs h
bytes_below (b ∷ bs) h (suc i) = bytes_below bs (All-tail (λ c. c < 256) b bs h) i
