use Rattle.std.proofs.Common.{ℕ, List, Some, option_map, Bor, sym, ap, ◌∙◌}
use Rattle.span_tags.specs.Losses.{named}
use Rattle.map_zipkin.proofs.FitGroups.{resource_fit}
use Rattle.map_zipkin.proofs.LossLoops.{run_named, last_run_is}
use Rattle.map_zipkin.proofs.losing.last_run.Goals as goal

pub normal_resource-requires-clause-rising : goal.normal_resource-requires-clause-rising
normal_resource-requires-clause-rising c = c.requires.sound.resource.rising

pub normal_resource-requires-clause-plain : goal.normal_resource-requires-clause-plain
normal_resource-requires-clause-plain c = resource_fit c.args.group.now c.requires.no_fault

pub returns-in_default : goal.returns-in_default
returns-in_default c =
    let group = c.args.group.now in record {
      value = ap (option_map (run_named group.resource))
          (ap (option_map (λ (last : Bor (List ℕ) × Bor (List ℕ)). named last.0.now last.1.now)) (sym c.in_default.is) ∙ c.last_names.ensures)
          ∙ sym (last_run_is group.resource group.scopes);
    }

pub returns : goal.returns
returns c =
    let group = c.args.group.now in record {
      value = (λ i. Some record { resource = c.in_ok-normal_resource.ensures i; name = c.in_ok-of.ensures i; version = c.in_ok-of-2.ensures i })
          ∙ ap (option_map (run_named group.resource)) c.in-Some.ensures ∙ sym (last_run_is group.resource group.scopes);
    }
