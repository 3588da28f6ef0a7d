use Rattle.std.proofs.Common.{◌≡◌, [], ◌∷◌, ◌++◌, subst}
use Rattle.httparse.specs.Spans.{header_bytes}
use Rattle.http_conn.specs.Fields.{Line}
use Rattle.http_conn.specs.private.FoundFields.{FoundIn}
use Rattle.http_conn.proofs.head.with_line.Goals as goal

pub returns : goal.returns
returns c = λ lines held.
    let line : Line = (c.of-name.result.now, c.of-value.result.now) in
    let same : line ≡ header_bytes c.args.bytes.now c.args.span.now = λ i. (c.of-name.ensures i, c.of-value.ensures i) in
    subst (λ l. FoundIn c.with.result (lines ++ l ∷ [])) same (c.with.ensures lines held)
