use Rattle.std.proofs.Common.{◌≡◌, length}
use Rattle.httparse.specs.Grammar.{skip_ows}
use Rattle.http_conn.proofs.media.without_front.Given as goal

abbrev pub invariant-blanks : goal.invariant-blanks
invariant-blanks l = skip_ows l.text ≡ skip_ows l.rest

abbrev pub decreases-blanks : goal.decreases-blanks
decreases-blanks l = length l.rest
