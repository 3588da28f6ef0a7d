use Rattle.http_conn.proofs.NextLemmas.{looks_known, one_next, place_known}
use Rattle.http_conn.proofs.requests.next_request_from.Goals as goal

pub returns-then-bytes-total-clause-is : goal.returns-then-bytes-total-clause-is
returns-then-bytes-total-clause-is c =
    looks_known c.args.limits.now c.args.bytes.now _ c.in-Needs.total c.in-Needs.is c.requires.known c.if-bytes-total.true

pub returns-then-bytes-total-clause-only : goal.returns-then-bytes-total-clause-only
returns-then-bytes-total-clause-only c = λ next h.
    one_next c.args.limits.now c.args.bytes.now _ next
    (looks_known c.args.limits.now c.args.bytes.now _ c.in-Needs.total c.in-Needs.is c.requires.known c.if-bytes-total.true) h

pub returns-else-bytes-total-clause-only : goal.returns-else-bytes-total-clause-only
returns-else-bytes-total-clause-only c = λ next h. one_next c.args.limits.now c.args.bytes.now _ next c.search.ensures.is h

pub search-requires-in-Searched-clause-before : goal.search-requires-in-Searched-clause-before
search-requires-in-Searched-clause-before c =
    place_known c.args.limits.now c.args.bytes.now _ c.in-Searched.searched c.in-Searched.is c.requires.known

pub returns-in-Searched-clause-only : goal.returns-in-Searched-clause-only
returns-in-Searched-clause-only c = λ next h. one_next c.args.limits.now c.args.bytes.now _ next c.search-in-Searched.ensures.is h
