-- A walk over the items of a message that gathers its rows: what its reader keeps in its loop, and a lemma for each way to leave it.
-- Readers of every wire format cite these.
use Rattle.std.proofs.Common.{◌≡◌, ℕ, List, [], ◌∷◌, ◌++◌, Result, Ok, Err, sym, ap, subst, ◌∙◌}
use Rattle.std.proofs.lemmas.Result.{err_from_is_err_and}
use Rattle.std.specs.Result.{IsErrAnd}
use Rattle.span_io.specs.Causes.{cause_number}
use Rattle.span_io.specs.declared.cause.Cause.{Cause}
use Rattle.span_io.specs.declared.halt.Halt.{Halt}
use Rattle.span_io.specs.declared.halt.Halt.TheVariants as halts
use Rattle.span_io.specs.private.Gathering.{GatheredAll}
use Rattle.span_io.specs.Offences.{FormatLaws, RulesLaws, Format, Rules, Cut, Offence, Least, ItemOffends, HereOrInside, Judges, JudgesHere, OnHalt}
use Rattle.span_io.proofs.OffenceLaws.{Walked, walked_start, walked_step, least_unread, least_end, none_at_end, judged_item, judged_here, judged_inside, none_in_item}
use Rattle.span_io.specs.private.RowSteps.{JudgesCause}
use Rattle.span_io.specs.Tables.{Row, table_here, table_inside}

-- the items that were passed, of which none offends, and what was gathered of them
pub record Seen (F : Format) (K : Rules F.Item) (Gathered : List F.Item → Type 0) (whole rest : F.Rest) : Type 0 where
  pub seen : List F.Item
  pub walked : Walked F K whole seen rest
  pub gathered : Gathered seen

-- ---- one item more

module _ {Item : Type 0} where
  -- what was answered of an item by its row, in which no message stands
  pub judged_at : (table : List (Row Item)) (seen : List Item) (r s : Item) → r ≡ s → ((p m : ℕ) → table_inside table s p m → ⊥) → (answer : Result Unit (Halt Cause)) → JudgesHere answer (λ n. table_here table seen s n)
      → Judges answer (HereOrInside (table_here table seen r) (table_inside table r))
  judged_at table seen r s e fine answer h =
      subst (λ (x : Item). Judges answer (HereOrInside (table_here table seen x) (table_inside table x))) (sym e) (judged_here (λ n. table_here table seen s n) (λ p n. table_inside table s p n) Unit fine answer h)

  -- the same of a row that needs no memory
  pub refused_at : (table : List (Row Item)) (seen : List Item) (r s : Item) → r ≡ s → ((p m : ℕ) → table_inside table s p m → ⊥) → (cause : Cause) → JudgesCause {T = Unit} (Err cause) (λ n. table_here table seen s n)
      → (answer : Result Unit (Halt Cause)) → IsErrAnd answer (λ halt. halt ≡ halts.Why cause) → Judges answer (HereOrInside (table_here table seen r) (table_inside table r))
  refused_at table seen r s e fine cause h answer is =
      let p = err_from_is_err_and answer is in
      subst (λ (a : Result Unit (Halt Cause)). Judges a (HereOrInside (table_here table seen r) (table_inside table r))) (sym (p.1 ∙ ap Err p.2)) (judged_at table seen r s e fine (Err (halts.Why cause)) h)

  -- what was answered of the message inside an item that doesn't offend by itself
  pub judged_inside_at : (table : List (Row Item)) (seen : List Item) (r s : Item) → r ≡ s → ((m : ℕ) → table_here table seen s m → ⊥) → (answer : Result Unit (Halt Cause)) → Judges answer (λ p n. table_inside table s p n)
      → Judges answer (HereOrInside (table_here table seen r) (table_inside table r))
  judged_inside_at table seen r s e fine answer h =
      subst (λ (x : Item). Judges answer (HereOrInside (table_here table seen x) (table_inside table x))) (sym e) (of answer h)
    where
      of : (answer : Result Unit (Halt Cause)) → Judges answer (λ p n. table_inside table s p n) → Judges answer (HereOrInside (table_here table seen s) (table_inside table s))
      of (Ok x) none = none_in_item (λ n. table_here table seen s n) (λ p n. table_inside table s p n) fine none
      of (Err halt) h = judged_inside (λ n. table_here table seen s n) (λ p n. table_inside table s p n) Unit Unit halt fine h

-- ---- the walk

module _ (F : Format) (L : FormatLaws F) (K : Rules F.Item) where
  pub seen_start : (Gathered : List F.Item → Type 0) (whole : F.Rest) → Gathered [] → Seen F K Gathered whole whole
  seen_start Gathered whole none = record { seen = []; walked = walked_start F L K whole; gathered = none }

  pub seen_step : (Old New : List F.Item → Type 0) (whole rest after : F.Rest) (r : F.Item) → Seen F K Old whole rest → F.Begins r rest after
      → ((seen : List F.Item) → Old seen → (p n : ℕ) → ItemOffends F.Item K seen r p n → ⊥) → ((seen : List F.Item) → Old seen → New (seen ++ r ∷ [])) → Seen F K New whole after
  seen_step Old New whole rest after r so_far begins fine adds = record {
    seen = so_far.seen ++ r ∷ [];
    walked = walked_step F L K whole rest after so_far.seen r so_far.walked begins (fine so_far.seen so_far.gathered);
    gathered = adds so_far.seen so_far.gathered;
  }

  pub seen_unread : (Old : List F.Item → Type 0) (whole rest : F.Rest) (n : ℕ) → Seen F K Old whole rest → F.Unread rest n → Least (Offence F K whole) n
  seen_unread Old whole rest n so_far none = least_unread F L K whole so_far.seen rest n so_far.walked none

  pub seen_end : (Are : List F.Item → F.Rest → Type 0) → ((whole rest : F.Rest) (seen : List F.Item) → Cut F whole seen rest → F.IsEnd rest → Are seen whole)
      → (Gathered : List F.Item → Type 0) (whole rest : F.Rest) → Seen F K Gathered whole rest → F.IsEnd rest → GatheredAll F K Are Gathered whole
  seen_end Are are Gathered whole rest so_far ended = record {
    items = so_far.seen;
    are = are whole rest so_far.seen so_far.walked.cut ended;
    gathered = so_far.gathered;
    fine = λ none. none_at_end F L K whole so_far.seen rest so_far.walked ended none;
    ended = λ n offends first. least_end F L K whole so_far.seen rest n so_far.walked ended offends first;
  }

  pub seen_item : RulesLaws F K → (Old : List F.Item → Type 0) (whole rest after : F.Rest) (r : F.Item) → Seen F K Old whole rest → F.Begins r rest after → (S T : Type 0) (halt : Halt Cause)
      → ((seen : List F.Item) → Old seen → Judges {T = S} (Err halt) (ItemOffends F.Item K seen r)) → Judges {T = T} (Err halt) (Offence F K whole)
  seen_item O Old whole rest after r so_far begins S T halt judged = judged_item F L K O whole so_far.seen rest after r so_far.walked begins S T halt (judged so_far.seen so_far.gathered)

  pub seen_halt : RulesLaws F K → (Old : List F.Item → Type 0) (whole rest after : F.Rest) (r : F.Item) → Seen F K Old whole rest → F.Begins r rest after → (S T : Type 0) (halt : Halt Cause)
      → ((seen : List F.Item) → Old seen → Judges {T = S} (Err halt) (ItemOffends F.Item K seen r)) → OnHalt {T = T} (Err halt) (Offence F K whole)
  seen_halt O Old whole rest after r so_far begins S T (halts.Why cause) judged = seen_item O Old whole rest after r so_far begins S T (halts.Why cause) judged
  seen_halt O Old whole rest after r so_far begins S T halts.OutOfMemory judged = tt

-- ---- the end

-- what was answered of a message at its end
pub judged_end : (F : Format) (K : Rules F.Item) (Are : List F.Item → F.Rest → Type 0) (Gathered : List F.Item → Type 0) (text : F.Rest) (all : GatheredAll F K Are Gathered text)
    → (T : Type 0) (answer : Result T (Halt Cause)) → JudgesHere answer (K.ends all.items) → Judges answer (Offence F K text)
judged_end F K Are Gathered text all T (Ok x) none = all.fine none
judged_end F K Are Gathered text all T (Err (halts.Why cause)) h = all.ended (cause_number cause) h.0 h.1
judged_end F K Are Gathered text all T (Err halts.OutOfMemory) h = tt

-- the same where no memory is wanted
pub refused_end : (T : Type 0) (Offends : ℕ → Type 0) (cause : Cause) → JudgesCause {T = T} (Err cause) Offends → (answer : Result T (Halt Cause)) → IsErrAnd answer (λ halt. halt ≡ halts.Why cause) → JudgesHere answer Offends
refused_end T Offends cause h answer is = let p = err_from_is_err_and answer is in subst (λ (a : Result T (Halt Cause)). JudgesHere a Offends) (sym (p.1 ∙ ap Err p.2)) h
