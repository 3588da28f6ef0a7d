use Rattle.std.proofs.Common.{◌≡◌, length}
use denote.Shadow.{shadow}
use denote.Text.{Utf8}
use Rattle.span_tags.specs.Escapes.{base}
use Rattle.span_tags.proofs.escapes.base.Given as goal

abbrev pub invariant-copies : goal.invariant-copies
invariant-copies l = (base l.rest ≡ base l.key) × shadow (Utf8 l.rest)

abbrev pub decreases-copies : goal.decreases-copies
decreases-copies l = length l.rest
