use Rattle.std.proofs.Common.{List, ◌++◌, map, refl, ap, ◌∙◌}
use Rattle.std.proofs.lemmas.Result.{IfOk-at_ok}
use Rattle.trace_model.specs.Remarks.{equal_keys}
use Rattle.trace_model.specs.declared.place.Place.TheVariants as places
use Rattle.trace_model.specs.declared.remark.Remark.{Remark}
use Rattle.trace_model.specs.declared.span.Span.{Span}
use Rattle.trace_model.specs.declared.group.Scope.{Scope}
use Rattle.json_members.proofs.PartLaws.{reading_ends}
use Rattle.otlp_json.specs.Group.{scope_members}
use Rattle.otlp_json.proofs.reading.scope.read_scope.Goals as goal

pub returns-clause-value : goal.returns-clause-value
returns-clause-value c =
    let spans = IfOk-at_ok _ c.in_ok-spans.ensures.same c.rows_of.ensures.value in
    let its = c.in_ok-instrumentation.instrumentation in
    let keys = equal_keys (places.Scope c.args.number) its.notes in
    let with_spans : List Span → Scope = λ l. record {
      name = its.means.name;
      version = its.means.version;
      attributes = its.means.attributes;
      dropped = its.means.dropped;
      schema_url = c.in_ok-schema_url.schema_url;
      spans = l;
    } in
    record {
      notes = record { keys = its.notes; spans = map (λ s. s.notes) spans.found };
      is_scope = record {
        shape = c.in_ok-object.ensures.begins.shape;
        instrumentation = its;
        its_instrumentation = IfOk-at_ok _ c.in_ok-instrumentation.ensures.same c.instrumentation_of.ensures.value;
        spans = spans.found;
        each_span = spans.each;
        url = c.in_ok-schema_url.schema_url;
        its_url = IfOk-at_ok _ c.in_ok-schema_url.ensures.same c.text.ensures.value;
        scope = record { scope = ap with_spans spans.told.spans; noted = refl };
      };
      remarks = c.in_ok-remark_all.ensures
          ∙ ap (λ (l : List Remark). l ++ c.in_ok-spans.spans.notes) (c.in_ok-remark_keys.ensures ∙ ap (λ (l : List Remark). l ++ keys) c.new-notes.ensures)
          ∙ ap (λ (l : List Remark). keys ++ l) spans.told.remarked;
    }

pub returns-clause-judged : goal.returns-clause-judged
unfolding scope_members
returns-clause-judged c = reading_ends scope_members _ 3 c.in_ok-schema_url.ensures.goes_on tt
