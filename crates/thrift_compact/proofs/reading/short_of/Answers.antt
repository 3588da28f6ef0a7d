use Rattle.std.proofs.Common.{rules}
use Rattle.std.specs.Int.{w64}
use Rattle.std.proofs.lemmas.Int.{to_z-of_z}
use Rattle.thrift_compact.proofs.Numbers.{short_below, short_above, signed_outside}
use Rattle.thrift_compact.proofs.reading.short_of.Goals as goal

pub returns-in-Ok-clause-exact : goal.returns-in-Ok-clause-exact
returns-in-Ok-clause-exact c =
    signed_outside 15 c.args.outside c.args.c.now.rest c.long_of.new.c.rest c.in-Ok.number c.in-Ok.ensures.exact
    (short_below c.in-Ok.number (rw (to_z-of_z w64 c.in-Ok.number (record { sfits = search rules })) at c.if-number-ltminus32768.true))

pub returns-in-Ok-2-clause-exact : goal.returns-in-Ok-2-clause-exact
returns-in-Ok-2-clause-exact c =
    signed_outside 15 c.args.outside c.args.c.now.rest c.long_of.new.c.rest c.in-Ok.number c.in-Ok.ensures.exact
    (short_above c.in-Ok.number (rw (to_z-of_z w64 c.in-Ok.number (record { sfits = search rules })) at c.if-number-gt32767.true))
