-- A walk over the records of a message that comes to its end, and the message in a record that is the first of its row.
use Rattle.std.proofs.Common.{◌≡◌, List, [], ℕ, Option, None, Result, Ok, Err, refl, sym, ap, subst, ◌∙◌}
use Rattle.std.specs.Prelude.{IsNone}
use Rattle.std.specs.Result.{IsErrAnd}
use Rattle.std.proofs.lemmas.Result.{err_from_is_err_and}
use Rattle.span_io.specs.declared.cause.Cause.{Cause}
use Rattle.span_io.specs.declared.halt.Halt.{Halt}
use Rattle.span_io.specs.private.Gathering.{GatheredAll}
use Rattle.span_io.proofs.GatheringLaws.{Seen, seen_end}
use Rattle.span_io.proofs.OffenceLaws.{judged_inside, none_in_item}
use Rattle.span_io.proofs.RowLaws.{first_item}
use Rattle.span_io.specs.Offences.{Rules, Cut, Offence, Judges}
use Rattle.span_io.specs.private.RowSteps.{OffendsAlone, JudgesMessage}
use Rattle.span_io.specs.Tables.{Twice}
use Rattle.proto_wire.specs.StatedLaws.{MessageCuts}
use Rattle.proto_wire.specs.Messages.{messages}
use Rattle.proto_wire.specs.Records.{Record}
use Rattle.proto_wire.specs.Wire.{Wire}

pub seen_to_end : MessageCuts → (K : Rules Record) (Gathered : List Record → Type 0) (whole rest : List ℕ) → Seen messages K Gathered whole rest → rest ≡ [] → GatheredAll messages K Wire Gathered whole
seen_to_end cuts K Gathered whole rest so_far ended =
    seen_end messages cuts.laws K Wire (λ text behind seen cut none. cuts.whole text seen (subst (λ (x : List ℕ). Cut messages text seen x) none cut)) Gathered whole rest so_far ended

module _ {B : Type 0} (Means : List ℕ → B → Type 0) (K : Rules Record) (row : Option B) (held : List ℕ) (none : row ≡ None) where
  pub row_set : ((p n : ℕ) → Offence messages K held p n → ⊥) → JudgesMessage messages {T = Unit {0}} Means K row held (Ok tt)
  row_set fine = λ earlier gave. none_in_item (Twice earlier) (Offence messages K held) (first_item Means earlier row (subst IsNone (sym none) refl) gave) fine

  pub row_refused : (halt : Halt Cause) → Judges {T = B} (Err halt) (Offence messages K held) → (answer : Result Unit (Halt Cause)) → IsErrAnd answer (λ h. h ≡ halt) → JudgesMessage messages Means K row held answer
  row_refused halt h answer is = λ earlier gave.
      let p = err_from_is_err_and answer is in
      subst (λ (a : Result Unit (Halt Cause)). Judges a (OffendsAlone messages K earlier held)) (sym (p.1 ∙ ap Err p.2))
      (judged_inside (Twice earlier) (Offence messages K held) B Unit halt (first_item Means earlier row (subst IsNone (sym none) refl) gave) h)
