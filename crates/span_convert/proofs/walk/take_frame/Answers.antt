use Rattle.std.proofs.Common.{rules, ◌≡◌, ◌≤◌, [], ◌++◌, List, ℕ, length, Err, sym, subst, arith}
use Rattle.std.proofs.lemmas.List.{nil_from_length}
use Rattle.std.proofs.lemmas.Result.{IfErr-weaker}
use Rattle.span_convert.specs.private.WalkSteps.{WalkedUnits}
use Rattle.span_convert.proofs.PieceWalks.{walk_stays}
use Rattle.span_convert.proofs.WalkLemmas.{if_err}
use Rattle.span_convert.proofs.walk.take_frame.Goals as goal

pub returns-then-len-eq0-clause-stop : goal.returns-then-len-eq0-clause-stop
returns-then-len-eq0-clause-stop g c =
    let none : c.args.held.now ≡ [] = nil_from_length c.args.held.now (omega arith) in
    IfErr-weaker c.convert_frame.result _ _ (λ stop done. λ what limits whole behind said before within w.
    done what limits whole behind said before (subst (λ (l : List ℕ). length (l ++ c.args.last.now) ≤ limits.unit) none within)
    (subst (λ (l : List ℕ). WalkedUnits g.R.UnitReader.form what limits whole ((l ++ c.args.last.now) ++ behind) said before (g.K.Sink.outlet c.args.out.now) c.args.progress.now) none w)) c.convert_frame.ensures.stop

pub returns-then-is_err-clause-stop : goal.returns-then-is_err-clause-stop
returns-then-is_err-clause-stop g c = λ what limits whole behind said before within w. walk_stays g.R.UnitReader.form what limits whole said before _ _ _ w

pub returns-in_err-convert_frame-clause-stop : goal.returns-in_err-convert_frame-clause-stop
returns-in_err-convert_frame-clause-stop g c =
    let stopped : c.from_residual.result ≡ Err c.in_err-convert_frame.field-0.0 = search rules in
    let is : c.as_slice.result.now ≡ c.args.held.now ++ c.args.last.now = search rules in
    if_err _ c.from_residual.result c.in_err-convert_frame.field-0.0 stopped (λ what limits whole behind said before within w.
    c.in_err-convert_frame.ensures.stop what limits whole behind said before (subst (λ (l : List ℕ). length l ≤ limits.unit) (sym is) within)
    (subst (λ (l : List ℕ). WalkedUnits g.R.UnitReader.form what limits whole (l ++ behind) said before (g.K.Sink.outlet c.args.out.now) c.args.progress.now) (sym is) w))
