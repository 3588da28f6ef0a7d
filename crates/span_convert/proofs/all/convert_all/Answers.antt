use Rattle.std.proofs.Common.{◌≡◌, Err, subst, sym}
use Rattle.span_convert.specs.Verdicts.{Verdict, Answers, IsVerdict}
use Rattle.span_convert.specs.declared.bad.Bad.{Bad}
use Rattle.span_convert.specs.declared.bad.Bad.TheVariants as bads
use Rattle.span_convert.specs.declared.written.Written.TheVariants as written
use Rattle.span_convert.proofs.AnswerLemmas.{refused_by}
use Rattle.span_convert.proofs.CutLaws.{cut_at}
use Rattle.span_convert.proofs.FormTargets.{sized_groups}
use Rattle.span_convert.proofs.all.convert_all.Goals as goal

pub returns-in-Ok-clause-verdict : goal.returns-in-Ok-clause-verdict
returns-in-Ok-clause-verdict c = λ verdict is_verdict.
    (c.in-Ok.field-0, sym (c.one_verdict.ensures.once c.args.from (written.Form c.args.to) c.args.limits.now c.args.bytes.now _ verdict c.requires.limits c.in-Ok.ensures.whole.0 is_verdict))

pub returns-in-Ok-clause-back : goal.returns-in-Ok-clause-back
returns-in-Ok-clause-back c =
    let w = c.in-Ok.ensures.whole in
    c.output_read_back.ensures.back c.args.from c.args.to c.args.limits.now c.args.bytes.now c.convert_into.new.out.text c.in-Ok.field-0 c.requires.limits
    w.0 (sized_groups c.args.to w.0.noted w.1)

pub returns-in-Ok-clause-same : goal.returns-in-Ok-clause-same
returns-in-Ok-clause-same c = λ other others same verdict is.
    returns-in-Ok-clause-verdict c verdict ((c.same_batches.ensures c.args.from other (written.Form c.args.to) c.args.limits.now c.args.bytes.now others c.requires.limits same verdict).1 is)

pub returns-in-Err-clause-same : goal.returns-in-Err-clause-same
returns-in-Err-clause-same c = λ other others same verdict is.
    c.in-Err.ensures.bad verdict ((c.same_batches.ensures c.args.from other (written.Form c.args.to) c.args.limits.now c.args.bytes.now others c.requires.limits same verdict).1 is)

pub returns-in-Ok-clause-same_document : goal.returns-in-Ok-clause-same_document
returns-in-Ok-clause-same_document c = λ others same verdict is.
    returns-in-Ok-clause-verdict c verdict ((c.same_documents.ensures c.args.from (written.Form c.args.to) c.args.limits.now c.args.bytes.now others same verdict).1 is)

pub returns-in-Err-clause-same_document : goal.returns-in-Err-clause-same_document
returns-in-Err-clause-same_document c = λ others same verdict is.
    c.in-Err.ensures.bad verdict ((c.same_documents.ensures c.args.from (written.Form c.args.to) c.args.limits.now c.args.bytes.now others same verdict).1 is)

pub returns-in-Ok-clause-free_members : goal.returns-in-Ok-clause-free_members
returns-in-Ok-clause-free_members c = λ others agree verdict is.
    returns-in-Ok-clause-verdict c verdict ((c.free_members.ensures c.args.from (written.Form c.args.to) c.args.limits.now c.args.bytes.now others agree verdict).1 is)

pub returns-in-Err-clause-free_members : goal.returns-in-Err-clause-free_members
returns-in-Err-clause-free_members c = λ others agree verdict is.
    c.in-Err.ensures.bad verdict ((c.free_members.ensures c.args.from (written.Form c.args.to) c.args.limits.now c.args.bytes.now others agree verdict).1 is)

pub returns-in-Err-clause-cut : goal.returns-in-Err-clause-cut
returns-in-Err-clause-cut c = λ unit e.
    let some = c.some_verdict.ensures c.args.from (written.Form c.args.to) c.args.limits.now c.args.bytes.now c.proper_bytes.ensures in
    let same : c.in-Err.bad ≡ bads.Refused (cut_at unit) = cc in
    let there = refused_by (λ (v : Verdict). IsVerdict c.args.from c.args.to c.args.limits.now c.args.bytes.now v) some.0 (cut_at unit) some.1 (subst (λ (b : Bad). Answers some.0 (Err b)) same (c.in-Err.ensures.bad some.0 some.1)) in
    c.cut_batches.ensures c.args.from c.args.to c.args.limits.now c.args.bytes.now there.0 unit there.1

pub returns-in-Ok-clause-exists : goal.returns-in-Ok-clause-exists
returns-in-Ok-clause-exists c = c.some_verdict.ensures c.args.from (written.Form c.args.to) c.args.limits.now c.args.bytes.now c.proper_bytes.ensures

pub returns-in-Err-clause-exists : goal.returns-in-Err-clause-exists
returns-in-Err-clause-exists c = c.some_verdict.ensures c.args.from (written.Form c.args.to) c.args.limits.now c.args.bytes.now c.proper_bytes.ensures
