use Rattle.std.proofs.Common.{sym, ap, ◌∙◌, ◌==◌, length}
use Rattle.trace_model.specs.ValueTexts.{value_text}
use Rattle.trace_model.specs.declared.value.Value.{Value}
use Rattle.trace_model.proofs.EmptyTexts.{number_given, bytes_given, list_given, map_given}
use Rattle.trace_model.proofs.texts.has_no_text.Goals as goal

pub returns-in-Bytes : goal.returns-in-Bytes
returns-in-Bytes c =
    ap (λ n. n == 0) c.len-in-Bytes.ensures.count ∙ bytes_given c.in-Bytes.bytes ∙ ap (λ (v : Value). length (value_text v) == 0) (sym c.in-Bytes.is)

pub returns-in-Number : goal.returns-in-Number
returns-in-Number c = sym (ap (λ (v : Value). length (value_text v) == 0) c.in-Number.is ∙ number_given c.in-Number._number)

pub returns-in-List : goal.returns-in-List
returns-in-List c = sym (ap (λ (v : Value). length (value_text v) == 0) c.in-List.is ∙ list_given c.in-List._members)

pub returns-in-Map : goal.returns-in-Map
returns-in-Map c = sym (ap (λ (v : Value). length (value_text v) == 0) c.in-Map.is ∙ map_given c.in-Map._pairs)
