use Rattle.std.proofs.Common.{◌≡◌, ◌++◌, List, length, map}
use Rattle.httparse.specs.Spans.{header_bytes}
use Rattle.httparse.specs.declared.spans.HeaderSpan.{HeaderSpan}
use Rattle.http_conn.specs.private.FoundFields.{FoundIn}
use Rattle.http_conn.specs.declared.fields.Fields.{Fields}
use Rattle.http_conn.proofs.head.find_fields.Given as goal

-- a struct that lends stands in a loop as its fields, one behind the other
abbrev pub invariant-lines : goal.invariant-lines
invariant-lines l =
    let found : Fields = record { close = l.found.0; encoded = l.found.1.0; transfer = l.found.1.1.0; length = l.found.1.1.1.0; media = l.found.1.1.1.1.0 } in
    (seen : List HeaderSpan) × (l.spans ≡ seen ++ l.rest) × FoundIn found (map (header_bytes l.bytes) seen)

abbrev pub decreases-lines : goal.decreases-lines
decreases-lines l = length l.rest
