-- What an input is that is a document: one list of groups, or one refusal.
use Rattle.std.proofs.Common.{◌≡◌, ◌<◌, ◌≤◌, ◌++◌, ◌∷◌, ◌⊎◌, inl, inr, ℕ, List, [], length, All, refl, ap, sym, ◌∙◌, subst, arith, append_assoc, append-nil}
use Rattle.std.proofs.lemmas.Bool.{cases_lt}
use Rattle.std.proofs.lemmas.List.{map-append}
use Rattle.std.proofs.lemmas.List.Elements.{All-nil, All-cons, All-head, All-tail}
use Rattle.span_io.specs.Causes.{cause_number}
use Rattle.span_io.proofs.PathLaws.{one_least}
use Rattle.span_io.specs.Paths.{Counts, NothingOffends, unit_of}
use Rattle.span_io.specs.declared.cause.Cause.{Cause}
use Rattle.span_io.specs.declared.cause.Cause.TheVariants as causes
use Rattle.span_io.specs.declared.limits.Limits.{Limits}
use Rattle.span_io.specs.declared.refusal.Refusal.{Refusal}
use Rattle.trace_model.specs.Proper.{IsProperGroup}
use Rattle.trace_model.specs.Soundness.{IsSoundGroup, IsSoundTrace}
use Rattle.trace_model.specs.OtlpParts.{NotedGroup}
use Rattle.span_convert.specs.Documents.{DocumentForm, IsDocument, DocumentBegins, IsTooLongDocument, OffendsInDocument, DocumentRefused}
use Rattle.span_convert.specs.Units.{document_input, groups_in}
use Rattle.span_convert.specs.Verdicts.{IsProperTrace}
use Rattle.span_convert.proofs.CauseNumbers.{same_cause}
use Rattle.span_convert.proofs.InputForms.{ComesFirst, InputFormLaws, IsDecidedInput, SomeInput}

-- ---- lists

pub all_first : {A : Type 0} (P : A → Type 0) (a b : List A) → All P (a ++ b) → All P a
all_first P [] b all = All-nil P
all_first P (x ∷ a) b all = All-cons P x a (All-head P x (a ++ b) all) (all_first P a b (All-tail P x (a ++ b) all))

-- the groups of two parts
pub means_parts : (all first more : List NotedGroup) → all ≡ first ++ more → groups_in all ≡ groups_in first ++ groups_in more
means_parts all first more parts = ap groups_in parts ∙ map-append (λ (unit : NotedGroup). unit.means) first more

one_more : (group other : NotedGroup) (a b : List NotedGroup) → group ≡ other → ComesFirst a b → ComesFirst (group ∷ a) (other ∷ b)
one_more group other a b e first = record { more = first.more; parts = λ i. sym e i ∷ first.parts i }

-- of two fronts of one list the one comes first in the other
fronts : (a b more others : List NotedGroup) → a ++ more ≡ b ++ others → ComesFirst a b ⊎ ComesFirst b a
fronts [] b more others e = inl (record { more = b; parts = refl })
fronts (group ∷ a) [] more others e = inr (record { more = group ∷ a; parts = refl })
fronts (group ∷ a) (other ∷ b) more others e = on (fronts a b more others (cc))
  where
    same : group ≡ other
    same = cc

    on : ComesFirst a b ⊎ ComesFirst b a → ComesFirst (group ∷ a) (other ∷ b) ⊎ ComesFirst (other ∷ b) (group ∷ a)
    on (inl first) = inl (one_more group other a b same first)
    on (inr first) = inr (one_more other group b a (sym same) first)

-- ---- what a form of documents keeps

-- the bytes are a text of groups, or an offence in them counts
abbrev pub IsDecidedText : DocumentForm → List ℕ → Type 0
IsDecidedText from bytes = ((groups : List NotedGroup) × from.Reads bytes groups) ⊎ ((cause : Cause) × Counts (from.Offends bytes) (cause_number cause))

-- Bytes are a text of one list of groups at most, in which nothing offends, or an offence in them counts. The groups are sound and proper.
pub record DocumentLaws (from : DocumentForm) : Type 0 where
  pub once : (bytes : List ℕ) (a b : List NotedGroup) → from.Reads bytes a → from.Reads bytes b → a ≡ b
  pub fine : (bytes : List ℕ) (groups : List NotedGroup) → from.Reads bytes groups → NothingOffends (from.Offends bytes)
  pub decided : (bytes : List ℕ) → IsDecidedText from bytes
  pub sound : (bytes : List ℕ) (groups : List NotedGroup) → from.Reads bytes groups → IsSoundTrace (groups_in groups)
  pub proper : (bytes : List ℕ) (groups : List NotedGroup) → from.Reads bytes groups → IsProperTrace (groups_in groups)

module _ (from : DocumentForm) (L : DocumentLaws from) where
  -- ---- one list of groups

  same_document : (limits : Limits) (bytes : List ℕ) (a b : List NotedGroup) → IsDocument from limits bytes a → IsDocument from limits bytes b → a ≡ b
  same_document limits bytes a b h k = L.once bytes a b h.text k.text

  -- what is a document isn't refused
  not_refused : (limits : Limits) (bytes : List ℕ) (all groups : List NotedGroup) (r : Refusal) → IsDocument from limits bytes all → ¬ DocumentRefused from limits bytes groups r
  not_refused limits bytes all groups r document refused = on refused.why
    where
      on : IsTooLongDocument limits bytes r ⊎ OffendsInDocument from limits bytes r → ⊥
      on (inl long) = omega (arith, long.0, document.within)
      on (inr offends) = (L.fine bytes all document.text).none offends.1.path (cause_number r.cause) offends.1.is_least.offence

  one_refusal : (limits : Limits) (bytes : List ℕ) (r q : Refusal) → IsTooLongDocument limits bytes r ⊎ OffendsInDocument from limits bytes r
      → IsTooLongDocument limits bytes q ⊎ OffendsInDocument from limits bytes q → r ≡ q
  one_refusal limits bytes r q (inl h) (inl k) = h.1 ∙ sym k.1
  one_refusal limits bytes r q (inl h) (inr k) = absurd (omega (arith, h.0, k.0))
  one_refusal limits bytes r q (inr h) (inl k) = absurd (omega (arith, h.0, k.0))
  one_refusal limits bytes r q (inr h) (inr k) =
      let least = one_least (from.Offends bytes) h.1.path k.1.path (cause_number r.cause) (cause_number q.cause) h.1.is_least k.1.is_least in
      let unit : r.unit ≡ q.unit = h.1.unit ∙ ap unit_of least.0 ∙ sym k.1.unit in
      let cause : r.cause ≡ q.cause = same_cause r.cause q.cause least.1 in
      λ i. record { unit = unit i; cause = cause i }

  pub document_laws : InputFormLaws (document_input from)
  document_laws = record {
    compare = λ limits bytes a b h k. fronts a b h.more k.more (sym h.parts ∙ same_document limits bytes h.all k.all h.document k.document ∙ k.parts);
    shorter = λ limits bytes a b h. record { all = h.all; document = h.document; more = b ++ h.more; parts = h.parts ∙ append_assoc a b h.more };
    whole_begins = λ limits bytes a h. record { all = a; document = h; more = []; parts = sym (append-nil a) };
    whole_ends = λ limits bytes a b valid h k. record { more = k.more; parts = same_document limits bytes a k.all h k.document ∙ k.parts };
    refused_begins = λ limits bytes a r h. inl h.none;
    refused_ends = λ limits bytes a b r valid h k. absurd (not_refused limits bytes k.all a r k.document h);
    whole_or_refused = λ limits bytes a b r valid h k. not_refused limits bytes a b r h k;
    refused_once = λ limits bytes a b r q valid h k. (h.none ∙ sym k.none, one_refusal limits bytes r q h.why k.why);
  }

  -- ---- some list, or some refusal

  module _ (limits : Limits) (bytes : List ℕ) where
    abbrev Decided : Type 0
    Decided = IsDecidedInput (document_input from) limits bytes

    too_long : limits.json < length bytes → Decided
    too_long long = inr ([], record { unit = 0; cause = causes.InputTooLong }, record { none = refl; why = inl (long, refl) })

    of_text : length bytes ≤ limits.json → IsDecidedText from bytes → Decided
    of_text within (inl (groups, text)) = inl (groups, record { within = within; text = text })
    of_text within (inr (cause, counts)) = inr (
      [],
      record { unit = unit_of counts.path; cause = cause },
      record { none = refl; why = inr (within, record { path = counts.path; is_least = counts.is_least; unit = refl }) },
    )

    decided : (limits.json < length bytes) ⊎ (length bytes ≤ limits.json) → Decided
    decided (inl long) = too_long long
    decided (inr within) = of_text within (L.decided bytes)

  sound : (limits : Limits) (bytes : List ℕ) (groups : List NotedGroup) → DocumentBegins from limits bytes groups → IsSoundTrace (groups_in groups)
  sound limits bytes groups h = all_first IsSoundGroup (groups_in groups) (groups_in h.more) (subst (All IsSoundGroup) (means_parts h.all groups h.more h.parts) (L.sound bytes h.all h.document.text))

  proper : (limits : Limits) (bytes : List ℕ) (groups : List NotedGroup) → DocumentBegins from limits bytes groups → IsProperTrace (groups_in groups)
  proper limits bytes groups h = all_first IsProperGroup (groups_in groups) (groups_in h.more) (subst (All IsProperGroup) (means_parts h.all groups h.more h.parts) (L.proper bytes h.all h.document.text))

  pub document_some : SomeInput (document_input from)
  document_some = record {
    decided = λ limits bytes are_bytes. decided limits bytes (cases_lt limits.json (length bytes));
    sound = sound;
    proper = λ limits bytes groups are_bytes h. proper limits bytes groups h;
  }
