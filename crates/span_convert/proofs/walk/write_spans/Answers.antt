use Rattle.std.proofs.Common.{rules, ◌≡◌, ◌++◌, ◌∷◌, [], if◌then◌else◌, List, length, Err, ap, subst, inr, ◌∙◌, arith, get_or}
use Rattle.zipkin_json.specs.Canonical.{zspan_text}
use Rattle.zipkin_json.specs.declared.span.ZSpan.{ZSpan}
use Rattle.span_convert.specs.declared.tally.Tally.{Tally}
use Rattle.span_convert.proofs.LeftTexts.{less_left, next_left}
use Rattle.span_convert.proofs.WalkLemmas.{front_now, if_err}
use Rattle.span_convert.proofs.walk.write_spans.Goals as goal

pub returns-then-is_err-clause-stop : goal.returns-then-is_err-clause-stop
returns-then-is_err-clause-stop g c = λ what units unit said before w.
    inr (front_now what (units ++ unit ∷ []) said before _ _ (c.spans.invariant.walked what (units ++ unit ∷ []) said before w))

pub returns-in_err-write_full-clause-stop : goal.returns-in_err-write_full-clause-stop
returns-in_err-write_full-clause-stop g c =
    let same = c.as_slice-span-items.ensures in
    let parts = next_left c.spans.behind c.args.left.spans c.spans.span-index c.span-item.result (omega (arith, ap length same)) (subst (λ (l : List ZSpan). c.span-item.result ≡ get_or l c.spans.span-index c.span-item.result) same c.span-item.is) in
    let adds : c.add_span.new.self.unwritten ≡ c.spans.progress.unwritten ++ ((if c.spans.behind then 44 ∷ [] else []) ++ zspan_text c.span-item.result) = search rules in
    let stopped : c.from_residual.result ≡ Err c.in_err-write_full.field-0.0 = search rules in
    if_err _ c.from_residual.result c.in_err-write_full.field-0.0 stopped (λ what units unit said before w.
    c.in_err-write_full.ensures.stop what units unit _ said before
    (less_left what (units ++ unit ∷ []) said before _ c.spans.progress _ (c.spans.invariant.walked what (units ++ unit ∷ []) said before w) c.add_span.new.self c.add_span.ensures.tally c.add_span.ensures.pen _ _ parts adds))

pub spans-preserved : goal.spans-preserved
spans-preserved g c =
    let same = c.as_slice-span-items.ensures in
    let parts = next_left c.spans.behind c.args.left.spans c.spans.span-index c.span-item.result (omega (arith, ap length same)) (subst (λ (l : List ZSpan). c.span-item.result ≡ get_or l c.spans.span-index c.span-item.result) same c.span-item.is) in
    let adds : c.add_span.new.self.unwritten ≡ c.spans.progress.unwritten ++ ((if c.spans.behind then 44 ∷ [] else []) ++ zspan_text c.span-item.result) = search rules in
    record {
      walked = λ what units said before w.
          c.in_ok-write_full.ensures.ok what units _ said before
          (less_left what units said before _ c.spans.progress _ (c.spans.invariant.walked what units said before w) c.add_span.new.self c.add_span.ensures.tally c.add_span.ensures.pen _ _ parts adds);
      pen = c.in_ok-write_full.ensures.pen ∙ c.add_span.ensures.pen ∙ c.spans.invariant.pen;
      units = c.in_ok-write_full.ensures.units ∙ ap (λ (t : Tally). t.units) c.add_span.ensures.tally ∙ c.spans.invariant.units;
      holds = c.gains_then.ensures.holding _ _ _ c.spans.invariant.holds (c.in_ok-write_full.ensures.sink.holds (λ e. absurd (cc)));
    }
