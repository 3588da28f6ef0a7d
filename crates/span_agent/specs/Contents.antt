-- What a cause of the batch in a datagram is.
use Rattle.std.specs.Prelude.{◌≤◌, ℕ, Bool, true, false, List, length}
use Rattle.span_io.specs.Causes.{cause_number}
use Rattle.span_io.specs.Offences.{Least}
use Rattle.span_io.specs.declared.form.Form.{Form}
use Rattle.span_io.specs.declared.limits.Limits.{Limits}
use Rattle.span_io.specs.declared.refusal.Refusal.{Refusal}
use Rattle.jaeger_model.specs.StatedLaws.{BatchOffends}
use Rattle.span_convert.specs.BatchFiles.{ProtocolWords, binary, compact}
use Rattle.span_convert.specs.Verdicts.{IsVerdict, refused}
use Rattle.span_agent.specs.Messages.{IsMessage}
use Rattle.span_agent.specs.Pieces.{batch_form}
use Rattle.span_agent.specs.Posts.{most_bytes}

-- the words of a protocol: of the compact one or of the binary one
abbrev pub batch_words : Bool → ProtocolWords
batch_words true = compact
batch_words false = binary

-- A cause of the batch in a datagram is that of the offence that counts in its content (jaeger.thrift), where the limits have room for
-- every datagram: that it can't be read was told of the message.
abbrev pub ContentCauses : Type 0
ContentCauses = (to : Form) (limits : Limits) (datagram : List ℕ) (is_compact : Bool) (batch text : List ℕ) (refusal : Refusal)
    → length datagram ≤ most_bytes → most_bytes ≤ limits.unit → most_bytes ≤ limits.binary → IsMessage datagram is_compact batch
    → IsVerdict (batch_form is_compact) to limits batch (refused refusal text)
    → Least (BatchOffends (batch_words is_compact).spells batch) (cause_number refusal.cause)
