use Rattle.std.proofs.Common.{◌≡◌, Some, sym, ap, ◌∙◌, rules}
use Rattle.serde_json.specs.Read.{read}
use Rattle.json_nodes.specs.Lents.{lent_view}
use Rattle.json_nodes.specs.Nodes.{value_at}
use Rattle.trace_model.specs.EventTexts.{in_braces}
use Rattle.trace_model.proofs.EventBegins.{no_member}
use Rattle.trace_model.proofs.EventLemmas.{no_text}
use Rattle.trace_model.proofs.event_reading.EventReader.read.Goals as goal

pub returns-in-Ok-clause-none : goal.returns-in-Ok-clause-none
returns-in-Ok-clause-none c =
    let text : in_braces c.args.text.now ≡ c.as_str-3.result.now = search rules in
    let reading : read (in_braces c.args.text.now) ≡ Some (lent_view c.of.result) =
    ap read text ∙ (c.in-Ok.ensures.ok ∙ ap Some (sym (c.of.ensures ∙ ap value_at c.as_slice.ensures.value))) in
    no_text c.args.text.now (lent_view c.of.result) c.event_in.result reading c.event_in.ensures.none

pub returns-then-not-begins_as_member-clause-none : goal.returns-then-not-begins_as_member-clause-none
returns-then-not-begins_as_member-clause-none c = no_member c.args.text.now (search rules)
