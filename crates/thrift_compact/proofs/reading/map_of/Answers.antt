use Rattle.std.proofs.Common.{sym, ◌∙◌}
use Rattle.thrift_compact.proofs.Heads.{map_refused, map_read}
use Rattle.thrift_compact.proofs.reading.map_of.Goals as goal

pub returns-in-Some-clause-exact : goal.returns-in-Some-clause-exact
returns-in-Some-clause-exact c =
    map_refused c.args.left c.args.c.now.rest c.size_of.new.c.rest c.byte.new.self.rest c.in-Ok.size c.in-Ok-byte.types c.in-Some.cause c.in-Ok.ensures.exact c.if-size-eq0.false c.in-Ok-byte.ensures.value
    (rw (c.type_of-key.ensures, c.type_of-value.ensures) at (sym c.why_not_both.ensures ∙ c.in-Some.is))

pub returns-in-None-clause-exact : goal.returns-in-None-clause-exact
returns-in-None-clause-exact c =
    rw (c.type_of-key.ensures, c.type_of-value.ensures)
    (map_read c.args.left c.args.c.now.rest c.size_of.new.c.rest c.byte.new.self.rest c.in-Ok.size c.in-Ok-byte.types c.in-Ok.ensures.exact c.if-size-eq0.false c.in-Ok-byte.ensures.value
    (rw (c.type_of-key.ensures, c.type_of-value.ensures) at (sym c.why_not_both.ensures ∙ c.in-None.is)))
