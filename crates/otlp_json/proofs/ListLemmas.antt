-- Lists of parts, one more element each.
use Rattle.std.proofs.Common.{◌≡◌, ℕ, ◌+◌, ◌≤◌, ◌<◌, ◌^◌, List, [], ◌∷◌, ◌++◌, Some, None, refl, sym, subst, arith}
use Rattle.std.specs.List.{AllZip}
use Rattle.serde_json.specs.Data.{Data}
use Rattle.serde_json.specs.Find.{as_array}
use Rattle.serde_json.specs.View.{items_of}
use Rattle.span_io.specs.declared.cause.Cause.{Cause}
use Rattle.span_io.specs.declared.halt.Halt.{Halt}
use Rattle.span_io.specs.Paths.{Offences, each, NothingOffends, Halts}
use Rattle.span_io.proofs.PathLaws.{clean_nothing, clean_one_more, halts_at}
use Rattle.json_members.specs.Counted.{values_in, values_in_items}
use Rattle.json_members.proofs.ElementLaws.{items_listed, each_more}
use Rattle.otlp_json.specs.private.Found.{AreFound, AreGiven, FindsMore}
use Rattle.otlp_json.proofs.CountedLists.{number_fits, number_on}
use Rattle.otlp_json.proofs.Walks.{Passed, none_passed, all_passed, stands, passed_on}

-- ---- rows

module _ {X V : Type 0} (Is : X → Data → Type 0) (Told : List X → V → Type 0) where
  -- one more element, told behind the others
  pub finds_more : (d : Data) (old new : V) (x : X) → Is x d → ((found : List X) → Told found old → Told (found ++ x ∷ []) new)
      → FindsMore Is Told d old new
  finds_more d old new x is more =
      λ ds h. record { found = h.found ++ x ∷ []; each = each_more Is ds h.found d x h.each is; told = more h.found h.told }

  pub found_given : (ds : List Data) (d : Data) (rows : V) → Some (items_of ds) ≡ as_array d → AreFound Is Told ds rows
      → AreGiven Is Told (Some d) rows
  found_given ds d rows is h = record {
    found = h.found;
    each = record { held = items_of ds; shape = sym is; means = subst (λ es. AllZip (λ y x. Is x y) es h.found) (sym (items_listed ds)) h.each };
    told = h.told;
  }

  pub none_given : (rows : V) → Told [] rows → AreGiven Is Told None rows
  none_given rows h = record { found = []; each = refl; told = h }

-- what is found of the elements that were seen, where `next` is the number that comes next
pub record RowsSoFar {X V : Type 0} (Is : X → Data → Type 0) (Told : List X → V → Type 0) (Offends : Data → Offences) (first next : ℕ) (rows : V)
    (seen : List Data) : Type 0 where
  pub read : AreFound Is Told seen rows
  pub clean : NothingOffends (each Offends seen)
  pub number : next ≤ first + values_in_items (items_of seen)

module _ {X V : Type 0} (Is : X → Data → Type 0) (Told : List X → V → Type 0) (Offends : Data → Offences) (first : ℕ) (all : List Data) where
  abbrev pub RowsPassed : ℕ → V → List Data → Type 0
  RowsPassed next rows left = Passed (RowsSoFar Is Told Offends first next rows) all left

  pub rows_begin : (next : ℕ) (rows : V) → Told [] rows → next ≤ first → RowsPassed next rows all
  rows_begin next rows told number =
      none_passed _ all (record { read = record { found = []; each = tt; told = told }; clean = clean_nothing; number = omega (arith, number) })

  module _ (next : ℕ) (rows : V) (left rest : List Data) (d : Data) (step : left ≡ d ∷ rest) (before : RowsPassed next rows left) where
    split : all ≡ before.seen ++ d ∷ rest
    split = stands _ all left rest d step before

    pub row_fits : first + values_in_items (items_of all) < 2 ^ 32 → next + values_in d < 2 ^ 32
    row_fits counted = number_fits all before.seen rest d split first next before.holds.number counted

    pub row_halts : (halt : Halt Cause) → Halts halt (Offends d) → Halts halt (each Offends all)
    row_halts halt h =
        subst (λ ds. Halts halt (each Offends ds)) (sym split) (halts_at Offends halt before.seen d rest before.holds.clean h)

    pub row_added : (later : ℕ) (new : V) → FindsMore Is Told d rows new → later ≤ next + values_in d → NothingOffends (Offends d)
        → RowsPassed later new rest
    row_added later new more number clean = passed_on _ all left rest d step before _ (record {
      read = more before.seen before.holds.read;
      clean = clean_one_more Offends before.seen d before.holds.clean clean;
      number = number_on all before.seen rest d split first next before.holds.number later number;
    })

  pub rows_end : (next : ℕ) (rows : V) (left : List Data) → left ≡ [] → RowsPassed next rows left
      → RowsSoFar Is Told Offends first next rows all
  rows_end next rows left none before = all_passed _ all left none before
