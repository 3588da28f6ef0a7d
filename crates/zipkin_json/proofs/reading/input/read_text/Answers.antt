use Rattle.std.proofs.Common.{Some, Err, sym, ap, ◌∙◌}
use Rattle.json_members.proofs.ReadingLaws.{judged_text, unread_halts}
use Rattle.json_members.specs.Texts.{IsJsonText}
use Rattle.json_nodes.specs.Lents.{lent_view}
use Rattle.json_nodes.specs.Nodes.{value_at}
use Rattle.zipkin_json.proofs.ReadingLemmas.{only_spans, spans_within, value_text, text_within, only_text, unread_only}
use Rattle.zipkin_json.specs.Span.{spans_offend}
use Rattle.zipkin_json.proofs.reading.input.read_text.Goals as goal

pub returns-in-Ok-clause-judged : goal.returns-in-Ok-clause-judged
returns-in-Ok-clause-judged c =
    let d = lent_view c.of.result in
    let is : IsJsonText d c.args.bytes.now = record {
      utf8 = c.in-Ok.ensures.ok.0;
      reading = c.in-Ok.ensures.ok.1 ∙ ap Some (sym (c.of.ensures ∙ ap value_at c.as_slice.ensures.value));
    } in
    judged_text spans_offend c.args.bytes.now d is c.read_array.result c.read_array.ensures.judged

pub returns-in-Ok-clause-value : goal.returns-in-Ok-clause-value
returns-in-Ok-clause-value c =
    let d = lent_view c.of.result in
    let is : IsJsonText d c.args.bytes.now = record {
      utf8 = c.in-Ok.ensures.ok.0;
      reading = c.in-Ok.ensures.ok.1 ∙ ap Some (sym (c.of.ensures ∙ ap value_at c.as_slice.ensures.value));
    } in
    value_text c.args.bytes.now d is c.read_array.result c.read_array.ensures.value

pub returns-in-Ok-clause-counted : goal.returns-in-Ok-clause-counted
returns-in-Ok-clause-counted c =
    let d = lent_view c.of.result in
    let is : IsJsonText d c.args.bytes.now = record {
      utf8 = c.in-Ok.ensures.ok.0;
      reading = c.in-Ok.ensures.ok.1 ∙ ap Some (sym (c.of.ensures ∙ ap value_at c.as_slice.ensures.value));
    } in
    text_within c.args.bytes.now d is c.read_array.result (spans_within d c.read_array.result c.read_array.ensures.value)

pub returns-in-Ok-clause-only : goal.returns-in-Ok-clause-only
returns-in-Ok-clause-only c =
    let d = lent_view c.of.result in
    let is : IsJsonText d c.args.bytes.now = record {
      utf8 = c.in-Ok.ensures.ok.0;
      reading = c.in-Ok.ensures.ok.1 ∙ ap Some (sym (c.of.ensures ∙ ap value_at c.as_slice.ensures.value));
    } in
    only_text c.args.bytes.now d is c.read_array.result (only_spans c.one_list.ensures d c.read_array.result c.read_array.ensures.value c.read_array.ensures.judged)

pub returns-clause-judged : goal.returns-clause-judged
returns-clause-judged c = unread_halts spans_offend c.args.bytes.now c.in-Err.why (λ e utf8. c.in-Err.ensures.bad (ap Err e) utf8) c.unread.result c.unread.ensures

pub returns-clause-only : goal.returns-clause-only
returns-clause-only c = unread_only c.args.bytes.now c.in-Err.why (λ e utf8. c.in-Err.ensures.bad (ap Err e) utf8) c.unread.result c.unread.ensures
