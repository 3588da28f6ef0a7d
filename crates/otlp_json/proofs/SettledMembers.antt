-- The members of an object of OTLP/JSON settle what they mean and what offends in them, each for itself.
use Rattle.std.proofs.Common.{◌≡◌, ℕ, ◌^◌, ◌<◌, ◌≤◌, ◌⊎◌, inl, inr, List, Option, Some, None, option_and_then, refl, sym, ap, ◌∙◌, arith}
use Rattle.serde_json.specs.Data.{Num, Data, unsigned, negative, float}
use Rattle.serde_json.specs.Find.{as_number, as_u64}
use Rattle.span_io.specs.declared.cause.Cause.TheVariants as causes
use Rattle.span_io.proofs.RowLaws.{EnumLaws}
use Rattle.span_io.specs.Paths.{here, optional, valued, Given, Never}
use Rattle.span_io.proofs.PathLaws.{clean_here, counts_here, counts_only}
use Rattle.span_io.proofs.PathDecisions.{IsSettled, one, none, decided_optional, decided_plain}
use Rattle.trace_model.specs.declared.noted.Noted.{Noted}
use Rattle.trace_model.specs.OtlpParts.{kind_number, code_number}
use Rattle.trace_model.proofs.OtlpEnums.{code_laws, code_numbered, kind_laws, kind_numbered}
use Rattle.trace_model.specs.declared.span.Code.TheVariants as statuses
use Rattle.trace_model.specs.declared.span.Kind.TheVariants as kinds
use Rattle.json_members.specs.Members.{member, Spelled, unspelled}
use Rattle.json_members.proofs.ChoiceLaws.{either_side, SpellsOne}
use Rattle.json_members.proofs.DecisionLaws.{spelled_decided}
use Rattle.otlp_json.specs.Identifiers.{SpellsJsonTrace, SpellsJsonSpan, SpellsTraceOrNone, SpellsSpanOrNone, json_trace_offends, json_span_offends, trace_or_none_offends, span_or_none_offends, identified}
use Rattle.otlp_json.specs.Numbers.{IsJsonCount, json_count_offends, IsJsonTime, json_time_offends, unsigned_in, enum_number_offends, enum_offends, IsJsonKind, IsJsonCode}
use Rattle.otlp_json.proofs.SpelledOnce.{trace_spelled, span_spelled, trace_or_none_spelled, span_or_none_spelled}

-- ---- members by what they hold

module _ (d : Data) (name : List ℕ) where
  pub count_settled : IsSettled (λ n. Given IsJsonCount (λ m. m ≡ 0) n (member name d)) (optional json_count_offends (member name d))
  count_settled = decided_optional IsJsonCount json_count_offends (λ inner. decided_plain (unsigned_in (2 ^ 32) inner)) 0 (member name d)

  pub time_settled : IsSettled (λ n. Given IsJsonTime (λ m. m ≡ 0) n (member name d)) (optional json_time_offends (member name d))
  time_settled = decided_optional IsJsonTime json_time_offends (λ inner. decided_plain (unsigned_in (2 ^ 64) inner)) 0 (member name d)

-- ---- enums

module _ {E : Type 0} (number_of : E → ℕ) (top : ℕ) (laws : EnumLaws E number_of top) (named : (n : ℕ) → n ≤ top → (e : E) × (n ≡ number_of e)) where
  number_settled : (o : Option Num) → IsSettled (λ e. option_and_then as_u64 o ≡ Some (number_of e)) (valued (enum_number_offends top) o)
  number_settled None = none causes.BadShape (counts_only 11) (λ e h. cc)
  number_settled (Some (negative z)) = none causes.BadEnum (counts_only 13) (λ e h. cc)
  number_settled (Some (float x)) = none causes.BadShape (counts_only 11) (λ e h. cc)
  number_settled (Some (unsigned n)) = on (either_side n top)
    where
      is_number : (e : E) → option_and_then as_u64 (Some (unsigned n)) ≡ Some (number_of e) → n ≡ number_of e
      is_number e h = cc

      on : (n ≤ top) ⊎ (top < n) → IsSettled (λ e. option_and_then as_u64 (Some (unsigned n)) ≡ Some (number_of e)) (here (λ number. (number ≡ 13) × (top < n)))
      on (inl h) =
          let this = named n h in
          one this.0 (ap Some this.1) (λ e k. laws.same this.0 e (sym this.1 ∙ is_number e k)) (clean_here _ (λ m k. let late = k.1 in omega arith))
      on (inr late) =
          none causes.BadEnum (counts_here _ 13 (refl, late) (λ m k. let is = k.0 in omega arith)) (λ e k. laws.within e n (let is = is_number e k in omega arith))

pub kind_settled : (d : Data) (name : List ℕ) → IsSettled (λ kind. Given IsJsonKind (λ k. k ≡ kinds.Unspecified) kind (member name d)) (optional (enum_offends 5) (member name d))
kind_settled d name = decided_optional IsJsonKind (enum_offends 5) (λ inner. number_settled kind_number 5 kind_laws kind_numbered (as_number inner)) kinds.Unspecified (member name d)

pub code_settled : (d : Data) (name : List ℕ) → IsSettled (λ code. Given IsJsonCode (λ c. c ≡ statuses.Unset) code (member name d)) (optional (enum_offends 2) (member name d))
code_settled d name = decided_optional IsJsonCode (enum_offends 2) (λ inner. number_settled code_number 2 code_laws code_numbered (as_number inner)) statuses.Unset (member name d)

-- ---- identifiers

identified_settled : (Spells : List ℕ → ℕ → Type 0) → ((text : List ℕ) → SpellsOne Spells text) → (o : Option Data)
    → IsSettled (λ id. Given (Spelled Spells) Never id o) (identified (λ d. unspelled Spells 12 d) o)
identified_settled Spells spelled None = none causes.BadId (counts_only 12) (λ id h. h)
identified_settled Spells spelled (Some d) = spelled_decided Spells causes.BadId spelled d

module _ (d : Data) (name : List ℕ) where
  pub trace_settled : IsSettled (λ id. Given (Spelled SpellsJsonTrace) Never id (member name d)) (identified json_trace_offends (member name d))
  trace_settled = identified_settled SpellsJsonTrace trace_spelled (member name d)

  pub span_id_settled : IsSettled (λ id. Given (Spelled SpellsJsonSpan) Never id (member name d)) (identified json_span_offends (member name d))
  span_id_settled = identified_settled SpellsJsonSpan span_spelled (member name d)

  pub trace_or_none_settled : IsSettled (λ id. Given (Spelled SpellsTraceOrNone) (λ i. i ≡ None) id (member name d)) (optional trace_or_none_offends (member name d))
  trace_or_none_settled =
      decided_optional (Spelled SpellsTraceOrNone) trace_or_none_offends (spelled_decided SpellsTraceOrNone causes.BadId trace_or_none_spelled) None (member name d)

  pub span_or_none_settled : IsSettled (λ id. Given (Spelled SpellsSpanOrNone) (λ i. i ≡ None) id (member name d)) (optional span_or_none_offends (member name d))
  span_or_none_settled =
      decided_optional (Spelled SpellsSpanOrNone) span_or_none_offends (spelled_decided SpellsSpanOrNone causes.BadId span_or_none_spelled) None (member name d)

-- a record of what is meant and what is noted, by its parts
pub noted_is : {A N : Type 0} (x : Noted A N) (means : A) (notes : N) → x.means ≡ means → x.notes ≡ notes → record { means = means; notes = notes } ≡ x
noted_is x means notes e k = rw (sym e, sym k) refl
