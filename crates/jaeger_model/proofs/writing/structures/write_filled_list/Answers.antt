use Rattle.std.proofs.Common.{rules}
use Rattle.jaeger_model.proofs.WrittenLists.{filled_none, filled_there}
use Rattle.jaeger_model.proofs.writing.structures.write_filled_list.Goals as goal

pub returns-then-len-eq0 : goal.returns-then-len-eq0
returns-then-len-eq0 g c = λ left. filled_none g.P.Parts.keeps g.P.Parts.writes c.args.id g.S.Structure.rows left c.args.last c.args.items.now (search rules) c.args.out.now

pub returns : goal.returns
returns g c = λ left.
    filled_there g.P.Parts.keeps g.P.Parts.writes c.args.id g.S.Structure.rows left c.args.last c.write_list.result c.args.items.now (search rules) c.ranges.last c.ranges.id _ _ (c.write_list.ensures left)
