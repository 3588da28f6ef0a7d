use Rattle.json_nodes.specs.Lents.{lent_view as view}
use Rattle.span_io.specs.declared.halt.Halt.TheVariants as halts
use Rattle.json_members.proofs.PartLaws.{reading_stops}
use Rattle.json_members.proofs.parts.bare_member.Goals as goal

pub returns-in-Err-clause-stops : goal.returns-in-Err-clause-stops
returns-in-Err-clause-stops g c =
    reading_stops g.T.Table.parts (view c.args.v.now) (halts.Why c.in-Err.cause) c.args.number c.requires.reading
    (rw c.in-Err.is at c.requires.offends)
