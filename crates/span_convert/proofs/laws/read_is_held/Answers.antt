use Rattle.span_convert.proofs.ReadHeld.{read_held}
use Rattle.span_convert.proofs.laws.read_is_held.Goals as goal

pub returns : goal.returns
returns c =
    read_held c.read_is_normal.ensures c.input_laws.ensures c.some_group.ensures (λ unit g r so is. c.read_proper.ensures unit g r so is)
    c.read_is_sound.ensures c.read_is_proper.ensures
