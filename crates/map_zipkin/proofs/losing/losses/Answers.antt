use Rattle.std.proofs.Common.{ℕ, List, ◌++◌, option_map, Bor, ap, ◌∙◌}
use Rattle.span_tags.specs.Losses.{named}
use Rattle.map_zipkin.specs.private.LossWalks.{joined_losses}
use Rattle.map_zipkin.specs.declared.run.Run.{Run}
use Rattle.map_zipkin.proofs.FitGroups.{resource_fit}
use Rattle.map_zipkin.proofs.LossLoops.{group_told}
use Rattle.map_zipkin.proofs.losing.losses.Goals as goal

pub follows-requires-clause-rising : goal.follows-requires-clause-rising
follows-requires-clause-rising c = c.requires.sound.resource.rising

pub follows-requires-clause-plain : goal.follows-requires-clause-plain
follows-requires-clause-plain c = resource_fit c.args.group.now c.requires.no_fault

pub returns : goal.returns
returns c =
    let before = option_map (λ (run : Bor Run). run.now) c.args.before in
    let names = option_map (λ (last : Bor (List ℕ) × Bor (List ℕ)). named last.0.now last.1.now) c.names_before-names.result in record {
      value = group_told before c.args.group.now c.in_ok-joined.joined names c.lose_unit.new.losses c.lose_resource.new.losses c.lose_scopes.new.losses
          c.in_ok-joined.ensures c.names_before-names.ensures
          (c.in_ok-lose_unit.ensures ∙ ap (λ l. l ++ joined_losses c.in_ok-joined.joined c.args.group.now.scopes) c.new-found.ensures)
          c.in_ok-lose_resource.ensures c.in_ok-lose_scopes.ensures;
    }
