use Rattle.std.proofs.Common.{map}
use Rattle.httparse.specs.Spans.{header_bytes}
use Rattle.http_conn.proofs.HeadLemmas.{line_more, line_within}
use Rattle.http_conn.proofs.head.find_fields.Goals as goal

pub with_line-found-requires : goal.with_line-found-requires
with_line-found-requires c =
    let so_far = c.lines.invariant in
    line_within c.args.bytes.now c.args.spans.now so_far.0 c.lines.rest.now so_far.1 _ _ c.in-Some.ensures.cases.0 c.requires

pub lines-preserved : goal.lines-preserved
lines-preserved c =
    let so_far = c.lines.invariant in
    line_more c.args.bytes.now c.args.spans.now so_far.0 c.lines.rest.now so_far.1 _ _ c.with_line-found.result c.in-Some.ensures.cases.0
    (c.with_line-found.ensures (map (header_bytes c.args.bytes.now) so_far.0) so_far.2)
