use Rattle.std.proofs.Common.{ap, ◌∙◌}
use Rattle.span_io.specs.Zigzag.{zigzag}
use Rattle.thrift_spellings.proofs.CompactLaws.{near_text, far_text}
use Rattle.thrift_compact.proofs.Written.{difference_is, id_is, is_close, is_far}
use Rattle.thrift_compact.proofs.writing.append_header.Goals as goal

pub returns-then-difference-lt16-clause-ok : goal.returns-then-difference-lt16-clause-ok
returns-then-difference-lt16-clause-ok c =
    let same = difference_is c.args.last c.args.id c.from.result c.from-2.result c.ranges.last c.ranges.id c.from.ensures c.from-2.ensures in
    rw (near_text c.args.last c.args.id c.args.code c.requires.rises (is_close c.args.last c.args.id c.requires.rises (rw same at c.if-difference-lt16.true))) (rw same at c.append.ensures.ok)

pub returns-clause-ok : goal.returns-clause-ok
returns-clause-ok c =
    let same = difference_is c.args.last c.args.id c.from.result c.from-2.result c.ranges.last c.ranges.id c.from.ensures c.from-2.ensures in
    let number = c.zigzag.ensures ∙ ap zigzag (id_is c.args.id c.from-3.result c.ranges.id c.from-3.ensures) in
    rw (far_text c.args.last c.args.id c.args.code c.requires.rises (is_far c.args.last c.args.id c.requires.rises (rw same at c.if-difference-lt16.false))) (rw number at c.append_behind.ensures.ok)
