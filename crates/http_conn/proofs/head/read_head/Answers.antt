use Rattle.std.proofs.Common.{[]}
use Rattle.std.proofs.lemmas.Bool.{false≢true}
use Rattle.http_conn.proofs.CountLemmas.{few_fields}
use Rattle.http_conn.proofs.HeadLemmas.{no_head, not_whole}
use Rattle.http_conn.proofs.head.read_head.Goals as goal

pub returns-in_err-parts-clause-none : goal.returns-in_err-parts-clause-none
returns-in_err-parts-clause-none c = no_head c.args.bytes.now c.from_residual.result (λ h reads. false≢true (c.in_err-parts.ensures.found h [] reads (few_fields c.args.bytes.now h c.requires reads)))

pub returns-then-parts-bytes-clause-none : goal.returns-then-parts-bytes-clause-none
returns-then-parts-bytes-clause-none c =
    not_whole c.args.bytes.now _ _ c.in_ok-parts.ensures.head c.in_ok-parts.ensures.within.section.len_fits c.if-parts-bytes.true
