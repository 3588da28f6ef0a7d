-- What a pen writes at its start.
use Rattle.std.specs.Prelude.{◌≡◌, []}
use Rattle.span_convert.specs.Reports.{written_target}
use Rattle.span_convert.specs.Targets.{Target}
use Rattle.span_convert.specs.declared.pen.Pen.{Pen}
use Rattle.span_convert.specs.declared.unit_pen.UnitPen.{UnitPen}
use Rattle.span_convert.specs.declared.written.Written.{Written}
use Rattle.span_convert.specs.Pens.{pen_stands, units_written_by, written_by}

-- the target to which a pen that writes a unit at once writes
abbrev pub unit_pen_target : UnitPen → Target
unit_pen_target pen = written_target (units_written_by pen)

-- the target to which a pen writes
abbrev pub pen_target : Pen → Target
pen_target pen = written_target (written_by pen)

-- a pen that writes so, and wrote nothing yet
pub record StartsAs (what : Written) (pen : Pen) : Type 0 where
  pub writes : written_by pen ≡ what
  pub stands : pen_stands pen []
