-- What serving a connection does to it, whose requests are answered with their bodies in one form.
use Rattle.std.specs.Prelude.{Result}
use Rattle.span_io.specs.Links.{Link}
use Rattle.span_io.specs.declared.form.Form.{Form}
use Rattle.span_io.specs.declared.limits.Limits.{Limits}
use Rattle.conn_service.specs.Serving as serving
use Rattle.conn_service.specs.declared.ended.Ended.{Ended}
use Rattle.conn_service.specs.declared.ended.ServeFault.{ServeFault}
use Rattle.span_gateway.specs.Answers.{Converts, Halts, Stays}

-- As the last read that gave bytes began, all whole requests in the bytes that were taken had their answers.
abbrev pub KeepsMark : Form → Limits → Link → Link → Type 0
KeepsMark to limits before now = serving.KeepsMark (Converts limits) Stays limits to to before now

-- what was read, what was written, and how it ended
abbrev pub Serves : Form → Limits → Link → Link → Result Ended ServeFault → Type 0
Serves to limits before now result = serving.Serves (Converts limits) (Halts limits) limits to to before now result
