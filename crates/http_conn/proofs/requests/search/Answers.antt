use Rattle.std.proofs.Common.{ap, subst}
use Rattle.http_conn.specs.Heads.{EndsAt}
use Rattle.http_conn.specs.declared.known.Known.TheVariants.{Searched}
use Rattle.http_conn.proofs.EndLemmas.{ends_outside, head_short}
use Rattle.http_conn.proofs.NextLemmas.{looks_head, looks_without}
use Rattle.http_conn.proofs.requests.search.Goals as goal

pub find_end-requires : goal.find_end-requires
find_end-requires c = λ k before e.
    c.requires.before k before (ends_outside c.args.limits.now.head c.args.bytes.now k (subst (λ l. EndsAt l k) c.front-window.ensures e))

pub request_in-told-requires-clause-short : goal.request_in-told-requires-clause-short
request_in-told-requires-clause-short c =
    head_short c.args.limits.now.head c.args.bytes.now c.front-window.result.now c.front-head.result.now c.in-Some.place c.front-window.ensures
    c.front-head.ensures c.in-Some.ensures.some

pub returns-in-Some : goal.returns-in-Some
returns-in-Some c =
    let looks = looks_head c.args.limits.now c.args.bytes.now c.front-window.result.now c.front-head.result.now c.in-Some.place c.request_in-told.result
    c.next_of.result c.next_of.new.known c.front-window.ensures c.front-head.ensures c.in-Some.ensures.some c.request_in-told.ensures.tells
    c.request_in-told.ensures.within c.next_of.ensures.next c.next_of.ensures.known in
    record { is = looks.is; within = looks.within; known = looks.known_now }

pub returns-in-None : goal.returns-in-None
returns-in-None c =
    let looks = looks_without c.args.limits.now c.args.bytes.now c.front-window.result.now c.next_without.result _ c.front-window.ensures
    c.in-None.ensures.none c.next_without.ensures (ap Searched c.saturating_sub.ensures) in
    record { is = looks.is; within = looks.within; known = looks.known_now }
