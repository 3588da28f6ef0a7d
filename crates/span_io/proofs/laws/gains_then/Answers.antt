use Rattle.std.proofs.Common.{arith}
use Rattle.span_io.proofs.Gains.{gains_both, gains_front, fails_within, fails_at, gains_none, holds_none, holds_then, fails_then}
use Rattle.span_io.proofs.laws.gains_then.Goals as goal

pub returns : goal.returns
returns c = record { none = gains_none; still = holds_none; both = gains_both; front = gains_front; rose = λ a b d rose more. omega arith; fails = fails_within; stops = fails_at; holding = holds_then; failing = fails_then }
