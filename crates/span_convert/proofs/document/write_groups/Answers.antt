use Rattle.std.proofs.Common.{rules, arith, ap, length, ◌≡◌, [], ◌∷◌, map, All, Err, refl, sym, subst, ◌∙◌}
use Rattle.std.proofs.lemmas.List.{nil_from_length}
use Rattle.std.proofs.lemmas.List.Elements.{All-tail}
use Rattle.trace_model.specs.Soundness.{IsSoundGroup}
use Rattle.map_zipkin.specs.NotedGroups.{noted_group}
use Rattle.span_convert.specs.Reports.{written_target}
use Rattle.span_convert.specs.Units.{document_input}
use Rattle.span_convert.specs.private.WalkSteps.{EndsWalk}
use Rattle.span_convert.proofs.DocumentWalks.{ReadUnit, nothing_yet, walked_none, walked_more, walked_all, stops_unit}
use Rattle.span_convert.proofs.WalkLemmas.{holds_none, ends_whole}
use Rattle.span_convert.proofs.document.write_groups.Goals as goal

pub units-init : goal.units-init
units-init g c =
    let same = c.into_iter-unit-iterator.ensures.into_iter_gives.0 ∙ c.into_vec-unit-items.ensures.items in
    record {
      walked = λ what limits bytes said taken.
          walked_none what said c.args.units c.into_iter-unit-iterator.result.rest.items (g.K.Sink.outlet c.args.out.now) c.args.progress.now same (nothing_yet what limits bytes said bytes c.args.progress.now taken (g.K.Sink.outlet c.args.out.now));
      room = omega (arith, ap length same);
      same = refl;
      sound = subst (All (λ (u : ReadUnit). IsSoundGroup u.0)) (sym same) c.requires.sound;
      holds = holds_none (g.K.Sink.outlet c.args.out.now);
    }

pub units-preserved : goal.units-preserved
units-preserved g c =
    let split : c.units.unit-iterator.rest.items ≡ c.in-Some.unit ∷ c.next.new.self.rest.items = search rules in
    record {
      walked = λ what limits bytes said taken.
          walked_more what said c.args.units c.units.unit-iterator.rest.items c.next.new.self.rest.items c.in-Some.unit split
          (g.K.Sink.outlet c.args.out.now) (g.K.Sink.outlet c.units.out) c.units.progress (c.units.invariant.walked what limits bytes said taken)
          (g.K.Sink.outlet c.convert_unit.new.out) c.convert_unit.new.progress c.in_ok-convert_unit.ensures.ok;
      room = omega (arith, c.units.invariant.room, ap length split, c.in_ok-convert_unit.ensures.units);
      same = c.in_ok-convert_unit.ensures.same ∙ c.units.invariant.same;
      sound = All-tail (λ (u : ReadUnit). IsSoundGroup u.0) c.in-Some.unit c.next.new.self.rest.items (subst (All (λ (u : ReadUnit). IsSoundGroup u.0)) split c.units.invariant.sound);
      holds = c.gains_then.ensures.holding _ _ _ c.units.invariant.holds (c.in_ok-convert_unit.ensures.sink.holds (λ e. absurd (cc)));
    }

pub convert_unit-requires-clause-room : goal.convert_unit-requires-clause-room
convert_unit-requires-clause-room g c =
    let split : c.units.unit-iterator.rest.items ≡ c.in-Some.unit ∷ c.next.new.self.rest.items = search rules in
    let all = c.into_vec-unit-items.result in
    omega (arith, c.units.invariant.room, c.requires.room, ap length split, ap length c.into_vec-unit-items.ensures.items, all.ok.0, all.ok.1, all.small)

pub returns-in_err-convert_unit-clause-walk : goal.returns-in_err-convert_unit-clause-walk
returns-in_err-convert_unit-clause-walk g c = λ what limits bytes said taken document.
    let split : c.units.unit-iterator.rest.items ≡ c.in-Some.unit ∷ c.next.new.self.rest.items = search rules in
    let stopped : c.from_residual.result ≡ Err c.in_err-convert_unit.field-0.0 = search rules in
    subst (λ r. EndsWalk (document_input g.R.DocumentReader.form) (written_target what) limits bytes r said (g.K.Sink.outlet c.args.out.now) (g.K.Sink.outlet c.convert_unit.new.out)) (sym stopped)
    (stops_unit g.R.DocumentReader.form what limits bytes said c.args.units document (g.K.Sink.outlet c.args.out.now) (g.K.Sink.outlet c.convert_unit.new.out) (g.K.Sink.outlet c.units.out) c.units.progress
    c.units.unit-iterator.rest.items c.next.new.self.rest.items c.in-Some.unit split (c.units.invariant.walked what limits bytes said taken) c.in_err-convert_unit.field-0.0 c.in_err-convert_unit.ensures.stop)

pub returns-clause-walk : goal.returns-clause-walk
returns-clause-walk g c = λ what limits bytes said taken document.
    let left : c.units.unit-iterator.rest.items ≡ [] = nil_from_length c.units.unit-iterator.rest.items (sym c.units.unit-iterator.rest.ok.0 ∙ c.in-None.ensures.steps.0) in
    ends_whole (document_input g.R.DocumentReader.form) what limits bytes (map noted_group c.args.units) said (g.K.Sink.outlet c.args.out.now) (g.K.Sink.outlet c.units.out) (g.K.Sink.outlet c.finish.new.out) c.units.progress c.finish.result document
    (walked_all what said c.args.units c.units.unit-iterator.rest.items (g.K.Sink.outlet c.args.out.now) (g.K.Sink.outlet c.units.out) c.units.progress left (c.units.invariant.walked what limits bytes said taken))
    c.finish.ensures.ok c.finish.ensures.stop
