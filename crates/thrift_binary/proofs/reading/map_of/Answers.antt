use Rattle.thrift_binary.proofs.Heads.{map_short, map_read}
use Rattle.thrift_binary.proofs.reading.map_of.Goals as goal

pub returns-in-Ok-size_of-clause-exact : goal.returns-in-Ok-size_of-clause-exact
returns-in-Ok-size_of-clause-exact c =
    rw (c.type_of-key.ensures, c.type_of-value.ensures)
    (map_read c.args.left c.args.c.now.rest c.byte.new.self.rest c.byte-2.new.self.rest c.size_of.new.c.rest c.in-Ok.code c.in-Ok-byte.code c.in-Ok-size_of.size
    c.in-Ok.ensures.value c.in-Ok-byte.ensures.value (rw (c.why_not_both.ensures, c.type_of-key.ensures, c.type_of-value.ensures) at c.in-Ok-size_of.ensures.exact))

pub returns-in-Err-size_of-clause-exact : goal.returns-in-Err-size_of-clause-exact
returns-in-Err-size_of-clause-exact c =
    map_short c.args.left c.args.c.now.rest c.byte.new.self.rest c.byte-2.new.self.rest c.in-Ok.code c.in-Ok-byte.code c.in-Err-size_of.cause
    c.in-Ok.ensures.value c.in-Ok-byte.ensures.value (rw (c.why_not_both.ensures, c.type_of-key.ensures, c.type_of-value.ensures) at c.in-Err-size_of.ensures.exact)
