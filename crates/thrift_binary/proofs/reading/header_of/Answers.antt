use Rattle.std.proofs.Common.{sym, ◌∙◌}
use Rattle.thrift_binary.proofs.Heads.{header_stop, header_unknown, header_refused}
use Rattle.thrift_binary.proofs.reading.header_of.Goals as goal

pub returns-then-code-eq0-clause-exact : goal.returns-then-code-eq0-clause-exact
returns-then-code-eq0-clause-exact c = header_stop c.args.left c.args.c.now.rest c.byte.new.self.rest c.in-Ok.code c.in-Ok.ensures.value c.if-code-eq0.true

pub returns-in_default-clause-exact : goal.returns-in_default-clause-exact
returns-in_default-clause-exact c =
    header_unknown c.args.left c.args.c.now.rest c.byte.new.self.rest c.in-Ok.code c.in-Ok.ensures.value c.if-code-eq0.false (sym c.type_of.ensures ∙ c.in_default.is)

pub returns-in-Some-why_not-clause-exact : goal.returns-in-Some-why_not-clause-exact
returns-in-Some-why_not-clause-exact c =
    header_refused c.args.left c.args.c.now.rest c.byte.new.self.rest c.in-Ok.code c.in-Some.kind c.in-Some-why_not.cause c.in-Ok.ensures.value c.if-code-eq0.false
    (sym c.type_of.ensures ∙ c.in-Some.is) (sym c.why_not.ensures ∙ c.in-Some-why_not.is)
