-- Each input has units, and behind them all it ends or isn't read for a cause.
use Rattle.std.proofs.Common.{ℕ, List, [], ◌∷◌, ◌++◌, take, refl}
use Rattle.std.specs.List.{AllByRecursion}
use Rattle.span_io.specs.Frames.{ItemsThen}
use Rattle.span_io.specs.Framings.{Framed}
use Rattle.span_io.specs.declared.limits.Limits.{Limits}
use Rattle.proto_wire.specs.Wire.{records, RefusedBy}
use Rattle.otlp_proto.specs.Rows.{bytes_in}
use Rattle.span_convert.specs.private.InputLaws.{RequestLaws}
use Rattle.span_convert.specs.Requests.{AreRequestUnits}
use Rattle.span_convert.specs.Units.{request_form}
use Rattle.span_convert.proofs.SourceLaws.{AllUnits}

-- the units in frames
record UnitsOf (frames : List (List ℕ)) : Type 0 where
  units : List (List ℕ)
  are_units : AreRequestUnits frames units

units_of : (limit : ℕ) (frames : List (List ℕ)) (rest text : List ℕ) → ItemsThen records limit frames rest text → UnitsOf frames
unfolding AreRequestUnits ItemsThen
units_of limit [] rest text h = record { units = []; are_units = refl }
units_of limit (f ∷ frames) rest text h =
    let w : UnitsOf frames = units_of limit frames rest h.2 h.4 in
    record { units = bytes_in 1 h.0.0 ++ w.units; are_units = (h.0.0, h.0.1, w.units, refl, w.are_units) }

all_framed : (units : List (List ℕ)) → AllByRecursion request_form.Tells units
all_framed [] = tt
all_framed (unit ∷ units) = (tt, all_framed units)

pub request_units : RequestLaws → (limits : Limits) (bytes : List ℕ) → AllUnits request_form limits bytes
request_units L limits bytes =
    let w : Framed records RefusedBy limits.unit (take limits.binary bytes) = L.framing.some_framing limits.unit (take limits.binary bytes) in
    let u : UnitsOf w.items = units_of limits.unit w.items w.rest (take limits.binary bytes) w.framed.items_then in
    record {
      units = u.units;
      rest = w.rest;
      held = record { frames = w.items; framed = w.framed.items_then; are_units = u.are_units };
      framed = all_framed u.units;
      rest_is = w.rest_is;
    }
