use Rattle.std.proofs.Common.{◌≡◌, length, reverse}
use Rattle.httparse.specs.Grammar.{skip_ows}
use Rattle.http_conn.proofs.media.without_end.Given as goal

abbrev pub invariant-blanks : goal.invariant-blanks
invariant-blanks l = skip_ows (reverse l.text) ≡ skip_ows (reverse l.rest)

abbrev pub decreases-blanks : goal.decreases-blanks
decreases-blanks l = length l.rest
