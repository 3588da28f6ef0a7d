use Rattle.std.proofs.Common.{sym, ◌∙◌}
use Rattle.otlp_json.proofs.writing.values.bytes_value.Goals as goal

pub returns : goal.returns
returns c = rw (sym (c.as_str.ensures.value ∙ c.in_ok-text.ensures.text)) c.text_value.ensures
