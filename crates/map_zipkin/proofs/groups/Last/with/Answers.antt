use Rattle.std.proofs.Common.{◌+◌, ◌++◌, map, refl, ap, ◌∙◌}
use Rattle.trace_model.specs.declared.place.Place.TheVariants as places
use Rattle.map_zipkin.specs.private.ReadGroups.{moved_to}
use Rattle.map_zipkin.proofs.GroupsAtBack.{moved_tags}
use Rattle.map_zipkin.proofs.groups.Last.with.Goals as goal

pub returns-clause-added : goal.returns-clause-added
returns-clause-added c keys its =
    let n = c.args.self.spans + 1 in
    record {
      resource = refl;
      scopes = c.in_ok-scopes.ensures;
      spans = refl;
      remarks = c.in_ok-remark_at.ensures
          ∙ ap (λ l. c.args.self.remarks ++ l) (ap (map (moved_to (places.Span n))) its ∙ moved_tags n 1 keys);
    }
