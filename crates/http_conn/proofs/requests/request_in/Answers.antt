use Rattle.std.proofs.Common.{sym, refl, ◌∙◌, inl, inr}
use Rattle.http_conn.proofs.NextLemmas.{tells_grammar, tells_lone, tells_many}
use Rattle.http_conn.proofs.requests.request_in.Goals as goal

pub returns-then-has_lone_feed-clause-tells : goal.returns-then-has_lone_feed-clause-tells
returns-then-has_lone_feed-clause-tells c =
    tells_lone c.args.limits.now c.args.head.now _ (sym c.has_lone_feed.ensures ∙ c.if-has_lone_feed.true) refl

pub returns-then-is_long-clause-tells : goal.returns-then-is_long-clause-tells
returns-then-is_long-clause-tells c =
    tells_many c.args.limits.now c.args.head.now _ (sym c.has_lone_feed.ensures ∙ c.if-has_lone_feed.false) (sym c.is_long.ensures ∙ c.if-is_long.true) refl

pub returns-in-None-clause-tells : goal.returns-in-None-clause-tells
returns-in-None-clause-tells c =
    tells_grammar c.args.limits.now c.args.head.now _ (sym c.has_lone_feed.ensures ∙ c.if-has_lone_feed.false) (sym c.is_long.ensures ∙ c.if-is_long.false)
    (inr (c.in-None.ensures.none, refl))

pub returns-in-Some-clause-tells : goal.returns-in-Some-clause-tells
returns-in-Some-clause-tells c =
    let read = c.in-Some.ensures.some in
    tells_grammar c.args.limits.now c.args.head.now _ (sym c.has_lone_feed.ensures ∙ c.if-has_lone_feed.false) (sym c.is_long.ensures ∙ c.if-is_long.false)
    (inl (read.0, read.1, c.request_of.ensures.told read.0 read.2))
