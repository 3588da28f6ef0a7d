use Rattle.std.proofs.Common.{arith}
use Rattle.http_conn.proofs.DigitLemmas.{digit_at, number_fits, number_more}
use Rattle.http_conn.proofs.bodies.number.Goals as goal

pub overflow_mul-number : goal.overflow_mul-number
overflow_mul-number c = omega (arith, number_fits c.args.digits.now c.digits.digit-index c.requires c.digits-test.true, c.digits.invariant)

pub overflow_add-number : goal.overflow_add-number
overflow_add-number c =
    omega (
      arith,
      number_fits c.args.digits.now c.digits.digit-index c.requires c.digits-test.true,
      c.digits.invariant,
      digit_at c.args.digits.now c.digits.digit-index c.requires c.digits-test.true,
    )

pub digits-preserved : goal.digits-preserved
digits-preserved c =
    omega (arith, number_more c.args.digits.now c.digits.digit-index c.requires c.digits-test.true, c.digits.invariant)
