use Rattle.std.proofs.Common.{◌≡◌, drop}
use Rattle.http_conn.specs.Heads.{has_lone_after, has_lone_line_feed}
use Rattle.http_conn.proofs.lines.has_lone_feed.Given as goal

abbrev pub invariant-bytes : goal.invariant-bytes
invariant-bytes l = has_lone_line_feed l.head ≡ has_lone_after l.last (drop l.byte-index l.head)
