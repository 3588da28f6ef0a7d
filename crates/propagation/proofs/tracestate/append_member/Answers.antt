use Rattle.propagation.proofs.StateTexts.{key_ascii, value_ascii}
use Rattle.propagation.proofs.tracestate.append_member.Goals as goal

pub ascii-requires : goal.ascii-requires
ascii-requires c = rw (← c.member.view_is) at (key_ascii c.args.member.now c.requires)

pub ascii-requires-2 : goal.ascii-requires-2
ascii-requires-2 c = rw (← c.member.view_is) at (value_ascii c.args.member.now c.requires)
