-- Moves between Jaeger and Zipkin, there and back. A trace that was read of the one is its own normal form there. Moved to the
-- other it becomes its normal form of that, which the first can hold, and of which a move back changes nothing.
use Rattle.std.specs.Prelude.{◌≡◌, List, All}
use Rattle.trace_model.specs.declared.group.Group.{Group}
use Rattle.map_jaeger.specs.StatedLaws.{IsHeld}
use Rattle.map_jaeger.specs.Normal.{normal}
use Rattle.map_zipkin.specs.StatedLaws.{IsHeldByZipkin}
use Rattle.map_zipkin.specs.Normal.{zipkin_normal}

-- From Jaeger to Zipkin: where both can hold the groups, Jaeger can hold their normal form of Zipkin; and where the groups are
-- their own normal form of Jaeger, so is that one.
pub record FromJaegerToZipkin : Type 0 where
  pub held : (groups : List Group) → All IsHeld groups → All IsHeldByZipkin groups → All IsHeld (zipkin_normal groups)
  pub itself : (groups : List Group) → normal groups ≡ groups → normal (zipkin_normal groups) ≡ zipkin_normal groups

-- From Zipkin to Jaeger: where both can hold the groups, Zipkin can hold their normal form of Jaeger; and where the groups are
-- their own normal form of Zipkin, so is that one.
pub record FromZipkinToJaeger : Type 0 where
  pub held : (groups : List Group) → All IsHeldByZipkin groups → All IsHeld groups → All IsHeldByZipkin (normal groups)
  pub itself : (groups : List Group) → zipkin_normal groups ≡ groups → zipkin_normal (normal groups) ≡ normal groups
