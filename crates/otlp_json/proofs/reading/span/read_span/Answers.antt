use Rattle.std.proofs.Common.{rules, map, ap, refl, ◌∙◌, Err}
use Rattle.std.proofs.lemmas.Result.{IfOk-at_ok, err_from_is_err_and}
use Rattle.json_members.proofs.PartLaws.{reading_ends}
use Rattle.span_io.proofs.PathLaws.{exits}
use Rattle.trace_model.specs.OtlpParts.{kept_links}
use Rattle.otlp_json.specs.Span.{json_span_members}
use Rattle.otlp_json.proofs.reading.span.read_span.Goals as goal

pub returns-in_err-start-clause-judged : goal.returns-in_err-start-clause-judged
returns-in_err-start-clause-judged c = exits c.in_err-start.field-0.0 _ _ (search rules) c.in_err-start.ensures.stops

pub returns-in_err-end-clause-judged : goal.returns-in_err-end-clause-judged
returns-in_err-end-clause-judged c = exits c.in_err-end.field-0.0 _ _ (search rules) c.in_err-end.ensures.stops

pub returns-in_err-attributes-clause-judged : goal.returns-in_err-attributes-clause-judged
returns-in_err-attributes-clause-judged c =
    exits c.in_err-attributes.field-0.0 _ _ (search rules) c.in_err-attributes.ensures.stops

pub returns-in_err-dropped_attributes-clause-judged : goal.returns-in_err-dropped_attributes-clause-judged
returns-in_err-dropped_attributes-clause-judged c =
    exits c.in_err-dropped_attributes.field-0.0 _ _ (search rules) c.in_err-dropped_attributes.ensures.stops

pub returns-in_err-events-clause-judged : goal.returns-in_err-events-clause-judged
returns-in_err-events-clause-judged c = exits c.in_err-events.field-0.0 _ _ (search rules) c.in_err-events.ensures.stops

pub returns-in_err-dropped_events-clause-judged : goal.returns-in_err-dropped_events-clause-judged
returns-in_err-dropped_events-clause-judged c =
    exits c.in_err-dropped_events.field-0.0 _ _ (search rules) c.in_err-dropped_events.ensures.stops

pub returns-in_err-links-clause-judged : goal.returns-in_err-links-clause-judged
returns-in_err-links-clause-judged c = exits c.in_err-links.field-0.0 _ _ (search rules) c.in_err-links.ensures.stops

pub returns-in_err-dropped_links-clause-judged : goal.returns-in_err-dropped_links-clause-judged
returns-in_err-dropped_links-clause-judged c =
    let p = err_from_is_err_and c.from_residual-in_err-dropped_links.result c.from_residual-in_err-dropped_links.ensures.1 in
    exits c.in_err-dropped_links.field-0.0 _ _ (p.1 ∙ ap (λ y. Err y) p.2) c.in_err-dropped_links.ensures.stops

pub returns-in_err-status-clause-judged : goal.returns-in_err-status-clause-judged
returns-in_err-status-clause-judged c =
    let p = err_from_is_err_and c.from_residual-in_err-status.result c.from_residual-in_err-status.ensures.1 in
    exits c.in_err-status.field-0.0 _ _ (p.1 ∙ ap (λ y. Err y) p.2) c.in_err-status.ensures.stops

pub returns-in_err-flags-clause-judged : goal.returns-in_err-flags-clause-judged
returns-in_err-flags-clause-judged c =
    let p = err_from_is_err_and c.from_residual-in_err-flags.result c.from_residual-in_err-flags.ensures.1 in
    exits c.in_err-flags.field-0.0 _ _ (p.1 ∙ ap (λ y. Err y) p.2) c.in_err-flags.ensures.stops

pub returns-clause-value : goal.returns-clause-value
returns-clause-value c =
    let events = IfOk-at_ok _ c.in_ok-events.ensures.same c.rows_of.ensures.value in
    let links = IfOk-at_ok _ c.in_ok-links.ensures.same c.rows_of-2.ensures.value in
    record {
      notes = record {
        keys = c.in_ok-attributes.keys;
        dropped = c.in_ok-links.links.notes.dropped;
        events = map (λ e. e.notes) events.found;
        links = map (λ l. l.notes) (kept_links links.found);
      };
      is_span = record {
        shape = c.in_ok-object.ensures.begins.shape;
        trace = IfOk-at_ok _ c.in_ok-trace.ensures.same c.identified_trace.ensures.value;
        id = IfOk-at_ok _ c.in_ok-id.ensures.same c.identified_span.ensures.value;
        state = IfOk-at_ok _ c.in_ok-state.ensures.same c.text.ensures.value;
        parent = IfOk-at_ok _ c.in_ok-parent.ensures.same c.optional_span.ensures.value;
        name = IfOk-at_ok _ c.in_ok-name.ensures.same c.text-2.ensures.value;
        kind = IfOk-at_ok _ c.in_ok-kind.ensures.same c.kind.ensures.value;
        start = IfOk-at_ok _ c.in_ok-start.ensures.same c.time.ensures.value;
        end = IfOk-at_ok _ c.in_ok-end.ensures.same c.time-2.ensures.value;
        attributes = IfOk-at_ok _ c.in_ok-attributes.ensures.same c.attributes_of.ensures.value;
        dropped_attributes = IfOk-at_ok _ c.in_ok-dropped_attributes.ensures.same c.count.ensures.value;
        events = events.found;
        each_event = events.each;
        its_events = record { kept = events.told.events; noted = refl };
        dropped_events = IfOk-at_ok _ c.in_ok-dropped_events.ensures.same c.count-2.ensures.value;
        links = links.found;
        each_link = links.each;
        its_links = record { kept = links.told.links; noted = refl; any_dropped = links.told.any_dropped };
        dropped_links = IfOk-at_ok _ c.in_ok-dropped_links.ensures.same c.count-3.ensures.value;
        status = IfOk-at_ok _ c.in_ok-status.ensures.same c.status_of.ensures.value;
        flags = IfOk-at_ok _ c.in_ok-flags.ensures.same c.count-4.ensures.value;
      };
      remarks = rw (events.told.remarked, links.told.remarked) at c.in_ok-notes.ensures;
    }

pub returns-clause-judged : goal.returns-clause-judged
unfolding json_span_members
returns-clause-judged c = reading_ends json_span_members _ 16 c.in_ok-flags.ensures.goes_on tt
