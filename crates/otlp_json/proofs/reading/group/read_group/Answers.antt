use Rattle.std.proofs.Common.{List, ◌++◌, ap, ◌∙◌}
use Rattle.std.proofs.lemmas.Result.{IfOk-at_ok}
use Rattle.trace_model.specs.Remarks.{equal_keys}
use Rattle.trace_model.specs.declared.place.Place.TheVariants as places
use Rattle.trace_model.specs.declared.remark.Remark.{Remark}
use Rattle.trace_model.specs.declared.group.Group.{Group}
use Rattle.trace_model.specs.declared.group.Scope.{Scope}
use Rattle.json_members.proofs.PartLaws.{reading_ends}
use Rattle.otlp_json.specs.Group.{group_members}
use Rattle.otlp_json.proofs.reading.group.read_group.Goals as goal

pub returns-clause-value : goal.returns-clause-value
returns-clause-value c =
    let scopes = IfOk-at_ok _ c.in_ok-scopes.ensures.same c.rows_of.ensures.value in
    let its = c.in_ok-resource.resource in
    let keys = equal_keys places.Resource its.notes in
    let with_scopes : List Scope → Group =
    λ l. record { resource = its.means.attributes; dropped = its.means.dropped; schema_url = c.in_ok-schema_url.schema_url; scopes = l } in
    record {
      shape = c.in_ok-object.ensures.begins.shape;
      resource = its;
      its_resource = IfOk-at_ok _ c.in_ok-resource.ensures.same c.resource_of.ensures.value;
      scopes = scopes.found;
      each_scope = scopes.each;
      url = c.in_ok-schema_url.schema_url;
      its_url = IfOk-at_ok _ c.in_ok-schema_url.ensures.same c.text.ensures.value;
      group = record {
        group = ap with_scopes scopes.told.scopes;
        remarks = c.in_ok-remark_all.ensures
            ∙ ap (λ (l : List Remark). l ++ c.in_ok-scopes.scopes.remarks) (c.in_ok-remark_keys.ensures ∙ ap (λ (l : List Remark). l ++ keys) c.new-remarks.ensures)
            ∙ ap (λ (l : List Remark). keys ++ l) scopes.told.remarked;
      };
    }

pub returns-clause-judged : goal.returns-clause-judged
unfolding group_members
returns-clause-judged c = reading_ends group_members _ 3 c.in_ok-schema_url.ensures.goes_on tt
