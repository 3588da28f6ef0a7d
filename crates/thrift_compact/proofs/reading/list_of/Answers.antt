use Rattle.thrift_compact.proofs.Heads.{list_short, list_read}
use Rattle.thrift_compact.proofs.reading.list_of.Goals as goal

pub returns-in-Ok-list_size_of-clause-exact : goal.returns-in-Ok-list_size_of-clause-exact
returns-in-Ok-list_size_of-clause-exact c =
    rw c.type_of-element.ensures
    (list_read c.args.left c.args.c.now.rest c.byte.new.self.rest c.list_size_of.new.c.rest c.in-Ok.byte c.in-Ok-list_size_of.size c.in-Ok.ensures.value
    (rw (c.why_not.ensures, c.type_of-element.ensures) at c.in-Ok-list_size_of.ensures.exact))

pub returns-in-Err-list_size_of-clause-exact : goal.returns-in-Err-list_size_of-clause-exact
returns-in-Err-list_size_of-clause-exact c =
    list_short c.args.left c.args.c.now.rest c.byte.new.self.rest c.in-Ok.byte c.in-Err-list_size_of.cause c.in-Ok.ensures.value
    (rw (c.why_not.ensures, c.type_of-element.ensures) at c.in-Err-list_size_of.ensures.exact)
