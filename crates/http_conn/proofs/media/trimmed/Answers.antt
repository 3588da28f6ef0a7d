use Rattle.std.proofs.Common.{ap, ◌∙◌, reverse}
use Rattle.httparse.specs.Grammar.{skip_ows, trim_ows}
use Rattle.http_conn.proofs.media.trimmed.Goals as goal

pub returns : goal.returns
unfolding trim_ows
returns c = c.without_end.ensures ∙ ap (λ l. reverse (skip_ows (reverse l))) c.without_front.ensures
