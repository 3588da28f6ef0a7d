-- Elements of an array, as a loop goes through them.
use Rattle.std.proofs.Common.{◌≡◌, ℕ, suc, ◌+◌, List, [], ◌∷◌, ◌++◌, length, Option, Some, refl, sym, ap, subst, ◌∙◌, append_assoc, arith}
use Rattle.std.proofs.lemmas.List.{append-nil, length-append}
use Rattle.serde_json.specs.Data.{Data, Items}
use Rattle.serde_json.specs.View.{items_of}
use Rattle.span_io.specs.declared.cause.Cause.{Cause}
use Rattle.span_io.specs.declared.halt.Halt.{Halt}
use Rattle.span_io.specs.declared.refusal.Refusal.{Refusal}
use Rattle.span_io.specs.Paths.{Offences, each, valued, NothingOffends, Halts, HaltsInput, in_unit}
use Rattle.span_io.proofs.PathLaws.{clean_nothing, clean_one_more, halts_at, halts_input_at}
use Rattle.std.specs.List.{AllZip}
use Rattle.json_members.specs.Members.{elements}

pub items_listed : (ds : List Data) → elements (items_of ds) ≡ ds
items_listed [] = refl
items_listed (d ∷ ds) = ap (λ l. d ∷ l) (items_listed ds)

-- one more of each
pub each_more : {A B : Type 0} (Is : B → A → Type 0) (ds : List A) (xs : List B) (d : A) (x : B) → AllZip (λ d x. Is x d) ds xs → Is x d → AllZip (λ d x. Is x d) (ds ++ d ∷ []) (xs ++ x ∷ [])
each_more Is [] [] d x all last = (last, tt)
each_more Is [] (y ∷ xs) d x all last = absurd all
each_more Is (e ∷ ds) [] d x all last = absurd all
each_more Is (e ∷ ds) (y ∷ xs) d x all last = (all.0, each_more Is ds xs d x all.1 last)

-- ---- what was answered of the elements, of the array

module _ (Offends : Data → Offences) (ds : List Data) (held : Option Items) (is : Some (items_of ds) ≡ held) where
  pub clean_array : NothingOffends (each Offends ds) → NothingOffends (valued (λ items. each Offends (elements items)) held)
  clean_array h =
      subst (λ o. NothingOffends (valued (λ items. each Offends (elements items)) o)) is (subst (λ l. NothingOffends (each Offends l)) (sym (items_listed ds)) h)

  pub halts_array : (halt : Halt Cause) → Halts halt (each Offends ds) → Halts halt (valued (λ items. each Offends (elements items)) held)
  halts_array halt h =
      subst (λ o. Halts halt (valued (λ items. each Offends (elements items)) o)) is (subst (λ l. Halts halt (each Offends l)) (sym (items_listed ds)) h)

  pub refuses_array : (halt : Halt Refusal) → HaltsInput halt (each Offends ds) → HaltsInput halt (valued (λ items. each Offends (elements items)) held)
  refuses_array halt h =
      subst (λ o. HaltsInput halt (valued (λ items. each Offends (elements items)) o)) is (subst (λ l. HaltsInput halt (each Offends l)) (sym (items_listed ds)) h)

-- ---- elements that are taken from their array, one after the other

-- so many elements were read, and these are left
pub record ElementsSoFar {B : Type 0} (Is : B → Data → Type 0) (Offends : Data → Offences) (all rest : List Data) (unit : ℕ) (read : List B) : Type 0 where
  pub seen : List Data
  pub split : all ≡ seen ++ rest
  pub counted : unit ≡ length seen
  pub means : AllZip (λ d x. Is x d) seen read
  pub clean : NothingOffends (each Offends seen)

module _ {B : Type 0} (Is : B → Data → Type 0) (Offends : Data → Offences) where
  pub elements_begin : (all : List Data) (read : List B) → read ≡ [] → ElementsSoFar Is Offends all all 0 read
  elements_begin all read none = record {
    seen = [];
    split = refl;
    counted = refl;
    means = rw none tt;
    clean = clean_nothing;
  }

  module _ (all left rest : List Data) (unit : ℕ) (d : Data) (read : List B) (split : left ≡ d ∷ rest) (before : ElementsSoFar Is Offends all left unit read) where
    whole : all ≡ before.seen ++ d ∷ rest
    whole = before.split ∙ ap (λ l. before.seen ++ l) split

    pub elements_more : (x : B) → Is x d → NothingOffends (Offends d) → ElementsSoFar Is Offends all rest (unit + 1) (read ++ x ∷ [])
    elements_more x is clean = record {
      seen = before.seen ++ d ∷ [];
      split = whole ∙ sym (append_assoc before.seen (d ∷ []) rest);
      counted = ap (λ (n : ℕ). n + 1) before.counted ∙ sym (length-append before.seen (d ∷ []));
      means = each_more Is before.seen read d x before.means is;
      clean = clean_one_more Offends before.seen d before.clean clean;
    }

    pub elements_halt : (halt : Halt Cause) → Halts halt (Offends d) → Halts halt (each Offends all)
    elements_halt halt h = rw whole (halts_at Offends halt before.seen d rest before.clean h)

    pub elements_refuse : (halt : Halt Cause) → Halts halt (Offends d) → HaltsInput (in_unit (unit + 1) halt) (each Offends all)
    elements_refuse halt h =
        let counted : suc (length before.seen) ≡ unit + 1 = omega (arith, before.counted) in
        rw whole (subst (λ (u : ℕ). HaltsInput (in_unit u halt) (each Offends (before.seen ++ d ∷ rest))) counted
        (halts_input_at Offends halt before.seen d rest before.clean h))

  module _ (all left : List Data) (unit : ℕ) (read : List B) (none : left ≡ []) (before : ElementsSoFar Is Offends all left unit read) where
    same : all ≡ before.seen
    same = before.split ∙ (ap (λ l. before.seen ++ l) none ∙ append-nil before.seen)

    pub elements_read : AllZip (λ d x. Is x d) all read
    elements_read = rw same before.means

    pub elements_clean : NothingOffends (each Offends all)
    elements_clean = rw same before.clean
