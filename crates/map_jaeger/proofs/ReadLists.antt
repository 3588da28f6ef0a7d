-- Logs and spans, one after the other.
use Rattle.std.proofs.Common.{◌≡◌, ℕ, ◌+◌, ◌<◌, ◌^◌, suc, List, [], ◌∷◌, ◌++◌, length, map, All, sym, ap, subst, ◌∙◌, append_assoc, arith}
use Rattle.std.proofs.lemmas.List.{append-nil}
use Rattle.std.proofs.lemmas.List.Elements.{All-head, All-tail}
use Rattle.jaeger_model.specs.Counted.{IsCountedSpan}
use Rattle.jaeger_model.specs.declared.span.JSpan.{JSpan}
use Rattle.jaeger_model.specs.declared.span.Log.{Log}
use Rattle.trace_model.specs.declared.noted.Noted.{Noted}
use Rattle.trace_model.specs.declared.remark.Remark.{Remark}
use Rattle.trace_model.specs.declared.span.Event.{Event}
use Rattle.trace_model.specs.declared.group.Scope.{Scope}
use Rattle.span_tags.specs.ReadRuns.{one_of, with_behind}
use Rattle.span_tags.specs.Runs.{in_front, runs}
use Rattle.span_tags.specs.declared.runs.ReadSpan.{ReadSpan}
use Rattle.span_tags.specs.declared.runs.Runs.{Runs}
use Rattle.map_jaeger.specs.private.Noted.{AddsNoted, AreNumbered, IsNumberedBy}
use Rattle.map_jaeger.specs.Reading.{event_of, scoped_of}
use Rattle.map_jaeger.specs.Remarks.{RepeatsOf, RepeatsOfSpan, log_remarks, jspan_remarks}
use Rattle.map_jaeger.proofs.Noted.{numbered_end, numbered_more}

noted_on : {A K : Type 0} (Noted : A → K → Type 0) (remarks : ℕ → A × K → List Remark) (xs rest : List A) (i number : ℕ) (x : A) (old new : List Remark)
    → number ≡ i + 1 → AddsNoted Noted remarks number x old new
    → IsNumberedBy Noted remarks i (x ∷ rest) xs old → IsNumberedBy Noted remarks number rest xs new
noted_on Noted remarks xs rest i number x old new counted added so_far =
    let next : number ≡ suc i = omega (arith, counted) in
    subst (λ n. IsNumberedBy Noted remarks n rest xs new) (sym next)
    (numbered_more Noted remarks i x rest xs old new (subst (λ n. AddsNoted Noted remarks n x old new) next added) so_far)

abbrev ReadEvents : Type 0
ReadEvents = Noted (List Event) (List Remark)

-- so many logs are read, and these are left
pub record EventsSoFar (span : ℕ) (logs : List Log) (i : ℕ) (rest : List Log) (read : ReadEvents) : Type 0 where
  pub count : i + length rest ≡ length logs
  pub events : read.means ++ map event_of rest ≡ map event_of logs
  pub remarks : IsNumberedBy RepeatsOf (log_remarks span) i rest logs read.notes

pub events_begin : (span : ℕ) (logs rest : List Log) (read : ReadEvents) → rest ≡ logs → read.means ≡ [] → read.notes ≡ []
    → EventsSoFar span logs 0 rest read
events_begin span logs rest read all no_events no_remarks = subst (λ l. EventsSoFar span logs 0 l read) (sym all) (record {
  count = omega arith;
  events = ap (λ l. l ++ map event_of logs) no_events;
  remarks = λ more its. subst (λ l. AreNumbered RepeatsOf (log_remarks span) 1 logs (l ++ more)) (sym no_remarks) its;
})

pub events_more : (span : ℕ) (logs left rest : List Log) (i number : ℕ) (log : Log) (old new : ReadEvents)
    → left ≡ log ∷ rest → number ≡ i + 1 → new.means ≡ old.means ++ event_of log ∷ [] → AddsNoted RepeatsOf (log_remarks span) number log old.notes new.notes
    → EventsSoFar span logs i left old → EventsSoFar span logs number rest new
events_more span logs left rest i number log old new split counted event added before = record {
  count = omega (arith, counted, so_far.count);
  events = ap (λ l. l ++ map event_of rest) event ∙ (append_assoc old.means (event_of log ∷ []) (map event_of rest) ∙ so_far.events);
  remarks = noted_on RepeatsOf (log_remarks span) logs rest i number log old.notes new.notes counted added so_far.remarks;
}
  where
    so_far : EventsSoFar span logs i (log ∷ rest) old
    so_far = subst (λ l. EventsSoFar span logs i l old) split before

-- one more has a number of 32 bits
pub number_fits : {A : Type 0} (members left rest : List A) (i : ℕ) (x : A) → length members < 2 ^ 32 → left ≡ x ∷ rest → i + length left ≡ length members → i + 1 < 2 ^ 32
number_fits members left rest i x counted split count =
    let longer : length left ≡ suc (length rest) = ap length split in
    omega (arith, counted, count, longer)

pub events_end : (span : ℕ) (logs left : List Log) (i : ℕ) (read : ReadEvents) → left ≡ [] → EventsSoFar span logs i left read
    → (read.means ≡ map event_of logs) × AreNumbered RepeatsOf (log_remarks span) 1 logs read.notes
events_end span logs left i read none before = (
  sym (append-nil read.means) ∙ so_far.events,
  numbered_end RepeatsOf (log_remarks span) i logs read.notes so_far.remarks,
)
  where
    so_far : EventsSoFar span logs i [] read
    so_far = subst (λ l. EventsSoFar span logs i l read) none before

-- so many spans are read, and these are left
pub record SpansSoFar (spans : List JSpan) (i : ℕ) (rest : List JSpan) (so_far : Runs) (found : List Remark) : Type 0 where
  pub count : i + length rest ≡ length spans
  pub each : All IsCountedSpan rest
  pub scopes : with_behind so_far (runs (map scoped_of rest)) ≡ runs (map scoped_of spans)
  pub remarks : IsNumberedBy RepeatsOfSpan jspan_remarks i rest spans found

pub spans_begin : (spans rest : List JSpan) (so_far : Runs) (found : List Remark) → rest ≡ spans → All IsCountedSpan spans
    → ((scopes : List Scope) → with_behind so_far scopes ≡ scopes) → found ≡ [] → SpansSoFar spans 0 rest so_far found
spans_begin spans rest so_far found all each empty no_remarks = subst (λ l. SpansSoFar spans 0 l so_far found) (sym all) (record {
  count = omega arith;
  each = each;
  scopes = empty (runs (map scoped_of spans));
  remarks = λ more its. subst (λ l. AreNumbered RepeatsOfSpan jspan_remarks 1 spans (l ++ more)) (sym no_remarks) its;
})

pub spans_more : (spans left rest : List JSpan) (i number : ℕ) (span : JSpan) (one : ReadSpan) (old new : Runs) (found more : List Remark)
    → left ≡ span ∷ rest → number ≡ i + 1 → one_of one ≡ scoped_of span
    → ((scopes : List Scope) → with_behind new scopes ≡ with_behind old (in_front (one_of one) scopes))
    → AddsNoted RepeatsOfSpan jspan_remarks number span found more → SpansSoFar spans i left old found → SpansSoFar spans number rest new more
spans_more spans left rest i number span one old new found more split counted is added noted before = record {
  count = omega (arith, counted, so_far.count);
  each = All-tail IsCountedSpan span rest so_far.each;
  scopes = added (runs (map scoped_of rest)) ∙ (ap (λ o. with_behind old (in_front o (runs (map scoped_of rest)))) is ∙ so_far.scopes);
  remarks = noted_on RepeatsOfSpan jspan_remarks spans rest i number span found more counted noted so_far.remarks;
}
  where
    so_far : SpansSoFar spans i (span ∷ rest) old found
    so_far = subst (λ l. SpansSoFar spans i l old found) split before

pub next_counted : (spans left rest : List JSpan) (i : ℕ) (span : JSpan) (so_far : Runs) (found : List Remark) → left ≡ span ∷ rest → SpansSoFar spans i left so_far found → IsCountedSpan span
next_counted spans left rest i span so_far found split before = All-head IsCountedSpan span rest (subst (All IsCountedSpan) split before.each)

pub spans_end : (spans left : List JSpan) (i : ℕ) (so_far : Runs) (found : List Remark) → left ≡ [] → SpansSoFar spans i left so_far found
    → (with_behind so_far [] ≡ runs (map scoped_of spans)) × AreNumbered RepeatsOfSpan jspan_remarks 1 spans found
spans_end spans left i so_far found none before = (here.scopes, numbered_end RepeatsOfSpan jspan_remarks i spans found here.remarks)
  where
    here : SpansSoFar spans i [] so_far found
    here = subst (λ l. SpansSoFar spans i l so_far found) none before
