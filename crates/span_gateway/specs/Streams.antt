-- The replies to the bytes of a connection, whose requests are answered with their bodies in one form.
use Rattle.std.specs.Prelude.{ℕ, List}
use Rattle.span_io.specs.declared.form.Form.{Form}
use Rattle.span_io.specs.declared.limits.Limits.{Limits}
use Rattle.conn_service.specs.Streams as streams
use Rattle.conn_service.specs.declared.ended.Ended.{Ended}
use Rattle.span_gateway.specs.Answers.{Converts}

-- the text is the answers to all whole requests of the bytes
abbrev pub AllAnswered : Form → Limits → List ℕ → List ℕ → Type 0
AllAnswered to limits bytes text = streams.AllAnswered (Converts limits) limits to bytes text to

-- the text is the replies to a whole stream, which ends so
abbrev pub IsReplies : Form → Limits → List ℕ → List ℕ → Ended → Type 0
IsReplies to limits stream text ended = streams.IsReplies (Converts limits) limits to stream text ended to
