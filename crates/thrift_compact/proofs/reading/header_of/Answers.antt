use Rattle.std.proofs.Common.{rules, sym, ◌∙◌}
use Rattle.std.specs.Int.{w16}
use Rattle.std.proofs.lemmas.Int.{to_z-of_z}
use Rattle.thrift_compact.proofs.Heads.{header_stop, header_unknown, header_refused, header_short, header_read}
use Rattle.thrift_compact.proofs.reading.header_of.Goals as goal

pub returns-then-byte-eq0-clause-exact : goal.returns-then-byte-eq0-clause-exact
returns-then-byte-eq0-clause-exact c = header_stop c.args.left c.args.last c.args.c.now.rest c.byte.new.self.rest c.in-Ok.byte c.in-Ok.ensures.value c.if-byte-eq0.true

pub returns-in_default-clause-exact : goal.returns-in_default-clause-exact
returns-in_default-clause-exact c =
    header_unknown c.args.left c.args.last c.args.c.now.rest c.byte.new.self.rest c.in-Ok.byte c.in-Ok.ensures.value c.if-byte-eq0.false (sym c.type_of.ensures ∙ c.in_default.is)

pub returns-in-Some-why_not-clause-exact : goal.returns-in-Some-why_not-clause-exact
returns-in-Some-why_not-clause-exact c =
    header_refused c.args.left c.args.last c.args.c.now.rest c.byte.new.self.rest c.in-Ok.byte c.in-Some.kind c.in-Some-why_not.cause c.in-Ok.ensures.value c.if-byte-eq0.false
    (sym c.type_of.ensures ∙ c.in-Some.is) (sym c.why_not.ensures ∙ c.in-Some-why_not.is)

pub returns-in-Ok-id_of-clause-exact : goal.returns-in-Ok-id_of-clause-exact
returns-in-Ok-id_of-clause-exact c =
    rw (to_z-of_z w16 c.in-Ok-id_of.id (record { sfits = search rules }), c.held_of.ensures)
    (header_read c.args.left c.args.last c.args.c.now.rest c.byte.new.self.rest c.id_of.new.c.rest c.in-Ok.byte c.in-Some.kind c.in-Ok-id_of.id c.in-Ok.ensures.value c.if-byte-eq0.false
    (sym c.type_of.ensures ∙ c.in-Some.is) (sym c.why_not.ensures ∙ c.in_default-why_not.is) (rw (to_z-of_z w16 c.args.last c.ranges.last) at c.in-Ok-id_of.ensures.exact))

pub returns-in-Err-id_of-clause-exact : goal.returns-in-Err-id_of-clause-exact
returns-in-Err-id_of-clause-exact c =
    header_short c.args.left c.args.last c.args.c.now.rest c.byte.new.self.rest c.in-Ok.byte c.in-Some.kind c.in-Err-id_of.cause c.in-Ok.ensures.value c.if-byte-eq0.false
    (sym c.type_of.ensures ∙ c.in-Some.is) (sym c.why_not.ensures ∙ c.in_default-why_not.is) (rw (to_z-of_z w16 c.args.last c.ranges.last) at c.in-Err-id_of.ensures.exact)
