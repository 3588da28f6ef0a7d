-- How Zipkin finds the faults of a group.
use Rattle.std.specs.Prelude.{ℕ, Bool, true, false, not, ◌&&◌, is_some, List, [], ◌∷◌, find, Option, Some, None, option_map}
use Rattle.std.specs.List.{list_any}
use Rattle.span_tags.specs.FaultTables.{FaultTable}
use Rattle.span_tags.specs.TagWords.{Pairs}
use Rattle.trace_model.specs.Attributes.{at}
use Rattle.trace_model.specs.EventReading.{event_text_read}
use Rattle.trace_model.specs.ValueTexts.{has_double}
use Rattle.trace_model.specs.declared.span.Event.{Event}
use Rattle.trace_model.specs.declared.value.Value.{Value}
use Rattle.map_zipkin.specs.OwnColumns.{own_forms}

-- whether there is a value and it isn't of the form; an absent one never is out of form
abbrev pub is_out_of_form : (Value → Bool) → Option Value → Bool
is_out_of_form is_of_form None = false
is_out_of_form is_of_form (Some value) = not (is_of_form value)

-- the keys of Zipkin's own stand in their order, so that the first is the least
abbrev pub out_of_form : Pairs → List (List ℕ × (Value → Bool)) → Option (List ℕ)
out_of_form attributes forms = option_map (λ own. own.0) (find (λ own. is_out_of_form own.1 (at own.0 attributes)) forms)

-- whether there are no attributes
abbrev pub is_bare : Pairs → Bool
is_bare [] = true
is_bare (pair ∷ pairs) = false

-- whether an event has no attributes, and a name that would be read as an event text: another name with attributes
abbrev pub is_told_wrong : Event → Bool
is_told_wrong event = is_bare event.attributes && is_some (event_text_read event.name)

-- how the faults of a resource and of spans are found: no link is one, and a resource has none beside its attributes
abbrev pub zipkin_faults : FaultTable
zipkin_faults = record {
  own_key = λ attributes. out_of_form attributes own_forms;
  has_event_fault = λ events. list_any is_told_wrong events;
  has_link_fault = λ span. false;
  has_double = has_double;
  has_double_besides = λ resource. false;
}
