use Rattle.std.proofs.Common.{[], refl}
use Rattle.span_convert.specs.Verdicts.{none}
use Rattle.span_convert.proofs.WalkLemmas.{gains_none}
use Rattle.span_convert.proofs.laws.nothing_written.Goals as goal

pub returns : goal.returns
returns c = λ from what limits bytes now. record { text = []; so_far = none refl; gains = record { front = []; is_front = ([], refl); gains = gains_none now } }
