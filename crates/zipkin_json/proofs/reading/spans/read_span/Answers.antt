use Rattle.std.proofs.Common.{◌≡◌, ℕ, Option, Some, None, Result, Ok, Err, codes, unwrap_or, refl, sym, ap, subst, rules}
use Rattle.std.specs.Result.{IsErr, IsErrAnd}
use Rattle.serde_json.specs.Data.{Data}
use Rattle.json_nodes.specs.Lents.{lent_view as view}
use Rattle.span_io.specs.declared.cause.Cause.{Cause}
use Rattle.span_io.specs.declared.halt.Halt.{Halt}
use Rattle.span_io.specs.Paths.{Given, JudgesByCause, optional}
use Rattle.json_members.specs.Members.{IsCount, member}
use Rattle.json_members.proofs.PartLaws.{reading_ends}
use Rattle.span_io.proofs.PathLaws.{exits}
use Rattle.zipkin_json.specs.Members.{count_offends, count_or_zero}
use Rattle.zipkin_json.specs.Span.{span_members}
use Rattle.zipkin_json.proofs.reading.spans.read_span.Goals as goal

err_told : {T : Type 0} (answer : Result T (Halt Cause)) (halt : Halt Cause) → (IsErr answer × IsErrAnd answer (λ e. e ≡ halt)) → answer ≡ Err halt
err_told (Ok x) halt h = absurd h.1
err_told (Err e) halt h = ap Err h.1

-- the timestamp that was read is the one from which the duration is counted
behind_start : (answer : Result ℕ Cause) (count : ℕ) (timestamp duration : Option Data) → Given IsCount (λ c. c ≡ 0) count timestamp
    → JudgesByCause answer (optional (count_offends count) duration) → JudgesByCause answer (optional (count_offends (count_or_zero timestamp)) duration)
behind_start answer count None duration given h = let P : ℕ → Type 0 = λ n. JudgesByCause answer (optional (count_offends n) duration) in subst P given h
behind_start answer count (Some d) duration given h =
    let P : ℕ → Type 0 = λ n. JudgesByCause answer (optional (count_offends n) duration) in
    subst P (sym (ap (λ (o : Option ℕ). unwrap_or o 0) given)) h

pub bare_member-requires-6-clause-offends : goal.bare_member-requires-6-clause-offends
unfolding span_members
bare_member-requires-6-clause-offends c =
    behind_start c.micros-2.result c.in_ok-timestamp.timestamp (member (codes "timestamp") (view c.args.v.now))
    (member (codes "duration") (view c.args.v.now))
    (rw (c.in_ok-timestamp.ensures.same, c.of-found.ensures.timestamp) at c.micros.ensures.value)
    (rw c.of-found.ensures.duration at c.micros-2.ensures.judged)

pub returns-in_err-duration-clause-judged : goal.returns-in_err-duration-clause-judged
returns-in_err-duration-clause-judged c = exits c.in_err-duration.field-0.0 _ _ (search rules) c.in_err-duration.ensures.stops

pub returns-in_err-debug-clause-judged : goal.returns-in_err-debug-clause-judged
returns-in_err-debug-clause-judged c = exits c.in_err-debug.field-0.0 _ _ (search rules) c.in_err-debug.ensures.stops

pub returns-in_err-shared-clause-judged : goal.returns-in_err-shared-clause-judged
returns-in_err-shared-clause-judged c = exits c.in_err-shared.field-0.0 _ _ (search rules) c.in_err-shared.ensures.stops

pub returns-in_err-local-clause-judged : goal.returns-in_err-local-clause-judged
returns-in_err-local-clause-judged c = exits c.in_err-local.field-0.0 _ _ (search rules) c.in_err-local.ensures.stops

pub returns-in_err-remote-clause-judged : goal.returns-in_err-remote-clause-judged
returns-in_err-remote-clause-judged c = exits c.in_err-remote.field-0.0 _ _ (search rules) c.in_err-remote.ensures.stops

pub returns-in_err-annotations-clause-judged : goal.returns-in_err-annotations-clause-judged
returns-in_err-annotations-clause-judged c =
    exits c.in_err-annotations.field-0.0 _ _ (search (rules, c.from_residual-in_err-annotations.ensures)) c.in_err-annotations.ensures.stops

pub returns-in_err-tags-clause-judged : goal.returns-in_err-tags-clause-judged
returns-in_err-tags-clause-judged c = exits c.in_err-tags.field-0.0 _ _ (err_told _ _ c.from_residual-in_err-tags.ensures) c.in_err-tags.ensures.stops

pub returns-clause-judged : goal.returns-clause-judged
unfolding span_members
returns-clause-judged c = reading_ends span_members _ 13 c.in_ok-tags.ensures.goes_on tt

pub returns-clause-value : goal.returns-clause-value
returns-clause-value c = record {
  shape = c.in_ok-object.ensures.begins.shape;
  trace = rw (c.in_ok-trace.ensures.same, c.of-found.ensures.trace) at c.required_trace.ensures.value;
  id = rw (c.in_ok-id.ensures.same, c.of-found.ensures.id) at c.required_span.ensures.value;
  parent = rw (c.in_ok-parent.ensures.same, c.of-found.ensures.parent) at c.parent.ensures.value;
  name = rw (c.in_ok-name.ensures.same, c.of-found.ensures.name) at c.text_found.ensures.value;
  kind = rw (c.in_ok-kind.ensures.same, c.of-found.ensures.kind) at c.kind.ensures.value;
  timestamp = c.in_ok-timestamp.timestamp;
  its_timestamp = rw (c.in_ok-timestamp.ensures.same, c.of-found.ensures.timestamp) at c.micros.ensures.value;
  start = refl;
  duration = c.in_ok-duration.duration;
  its_duration = rw (c.in_ok-duration.ensures.same, c.of-found.ensures.duration) at c.micros-2.ensures.value;
  sum = rw c.in_ok-duration.ensures.same at c.micros-2.ensures.sum;
  end = refl;
  debug = rw (c.in_ok-debug.ensures.same, c.of-found.ensures.debug) at c.truth.ensures.value;
  shared = rw (c.in_ok-shared.ensures.same, c.of-found.ensures.shared) at c.truth-2.ensures.value;
  local = rw (c.in_ok-local.ensures.same, c.of-found.ensures.local) at c.endpoint_of.ensures.value;
  remote = rw (c.in_ok-remote.ensures.same, c.of-found.ensures.remote) at c.endpoint_of-2.ensures.value;
  annotations = rw (c.in_ok-annotations.ensures.same, c.of-found.ensures.annotations) at c.annotations.ensures.value;
  tags = rw (c.in_ok-tags.ensures.same, c.of-found.ensures.tags) at c.tags_of.ensures.value;
}
