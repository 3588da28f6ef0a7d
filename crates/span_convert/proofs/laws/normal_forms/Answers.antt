use Rattle.span_convert.proofs.ReadHeld.{normal_holds, normal_itself}
use Rattle.span_convert.proofs.Sources.{one_noted, one_trace}
use Rattle.span_convert.proofs.TextLaws.{normal_held, normal_again, normal_spans, faultless_read, normal_read}
use Rattle.span_convert.proofs.laws.normal_forms.Goals as goal

pub returns-clause-held : goal.returns-clause-held
returns-clause-held c = normal_held c.normal_forms.ensures c.input_laws.ensures.spans

pub returns-clause-again : goal.returns-clause-again
returns-clause-again c = normal_again c.normal_forms.ensures c.input_laws.ensures.spans

pub returns-clause-can_hold : goal.returns-clause-can_hold
returns-clause-can_hold c = normal_holds c.normal_forms.ensures c.input_laws.ensures.spans.normal

pub returns-clause-itself : goal.returns-clause-itself
returns-clause-itself c = normal_itself c.normal_forms.ensures c.input_laws.ensures.spans.normal

pub returns-clause-spans : goal.returns-clause-spans
returns-clause-spans c = normal_spans c.input_laws.ensures.spans

pub returns-clause-no_fault : goal.returns-clause-no_fault
returns-clause-no_fault c = faultless_read c.read_is_normal.ensures c.input_laws.ensures

pub returns-clause-read : goal.returns-clause-read
returns-clause-read c = normal_read c.read_is_normal.ensures c.input_laws.ensures

pub returns-clause-once : goal.returns-clause-once
returns-clause-once c = one_trace c.input_laws.ensures

pub returns-clause-remarks : goal.returns-clause-remarks
returns-clause-remarks c = one_noted c.input_laws.ensures
