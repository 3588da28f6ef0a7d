use Rattle.std.proofs.Common.{◌+◌, Some, None, ap, refl}
use Rattle.json_nodes.specs.Lents.{lent_view as view}
use Rattle.trace_model.proofs.ToldLaws.{link_left_out, link_added}
use Rattle.otlp_json.specs.private.Found.{LinksTold}
use Rattle.otlp_json.specs.Span.{IsJsonLink}
use Rattle.otlp_json.proofs.ListLemmas.{finds_more}
use Rattle.otlp_json.proofs.reading.links.FoundLinksRows.add.Goals as goal

pub returns-in_default-clause-ok : goal.returns-in_default-clause-ok
returns-in_default-clause-ok c =
    finds_more IsJsonLink (LinksTold c.args.span) (view c.args.v.now) c.args.self.now _ None (rw c.in_default.is at c.in_ok-found.ensures.value)
    (λ found h. link_left_out c.args.span found _ _ _ _ _ _ refl refl refl h)

pub returns-clause-ok : goal.returns-clause-ok
returns-clause-ok c =
    finds_more IsJsonLink (LinksTold c.args.span) (view c.args.v.now) c.args.self.now _ (Some c.in-Some.read)
    (rw c.in-Some.is at c.in_ok-found.ensures.value)
    (λ found h. link_added c.args.span found _ _ _ _ _ _ c.in-Some.read (1 + c.len.result) (ap (λ n. 1 + n) c.len.ensures.count)
    c.in_ok-push.ensures.ok refl c.in_ok-remark_keys.ensures h)
