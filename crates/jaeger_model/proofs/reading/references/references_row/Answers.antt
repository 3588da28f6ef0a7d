use Rattle.std.proofs.Common.{◌-◌, Ok, Err, Option, Some, refl}
use Rattle.std.proofs.lemmas.Result.{err_from_is_err_and}
use Rattle.span_io.specs.Offences.{HereOrInside}
use Rattle.span_io.specs.declared.items.Items.{Items}
use Rattle.thrift_core.proofs.StructLaws.{struct_laws}
use Rattle.jaeger_model.specs.declared.span.SpanRef.{SpanRef}
use Rattle.jaeger_model.specs.InnerRows.{BadElement, ListOffends}
use Rattle.jaeger_model.specs.private.ReferenceSoFar.{KeepsReferences}
use Rattle.jaeger_model.specs.Reference.{reference_rules}
use Rattle.jaeger_model.proofs.ListLemmas.{halts_too, row_judged, sets_first}
use Rattle.jaeger_model.proofs.ReferenceLemmas.{reference_laws}
use Rattle.jaeger_model.proofs.reading.references.references_row.Goals as goal

pub read_list-requires : goal.read_list-requires
read_list-requires g c = record { levels = c.requires.levels; lawful = reference_laws g.P.Parts.spells (c.args.left - 2) (struct_laws g.P.Parts.spells _ _ _ g.met.P.Parts.reads_exactly g.met.P.Parts.part_laws (c.args.left - 2)) }

pub returns-in_err-all-clause-judged : goal.returns-in_err-all-clause-judged
returns-in_err-all-clause-judged g c = λ text tail trees e h earlier gave.
    let p = err_from_is_err_and c.from_residual-in_err-all.result c.from_residual-in_err-all.ensures.1 in
    rw (p.1, p.2) (row_judged KeepsReferences earlier (BadElement (trees, text)) (ListOffends g.P.Parts.spells (c.args.left - 2) reference_rules (trees, text)) c.args.row.now c.in_ok-once.ensures.ok gave Unit (Err c.in_err-all.field-0.0)
    (halts_too (HereOrInside (BadElement (trees, text)) (ListOffends g.P.Parts.spells (c.args.left - 2) reference_rules (trees, text))) (Items (Option SpanRef)) Unit c.in_err-all.field-0.0 (c.in_err-all.ensures.judged text tail trees e h)))

pub returns-clause-ok : goal.returns-clause-ok
returns-clause-ok g c = λ text tail trees e h.
    let value = c.in_ok-all.ensures.value text tail trees e h in
    (value.0, sets_first KeepsReferences (trees, text) c.args.row.now (Some c.in_ok-of.field-0) c.in_ok-of.field-0 c.in_ok-once.ensures.ok refl (c.in_ok-all.all, value.1, c.in_ok-of.ensures))

pub returns-clause-judged : goal.returns-clause-judged
returns-clause-judged g c = λ text tail trees e h earlier gave.
    row_judged KeepsReferences earlier (BadElement (trees, text)) (ListOffends g.P.Parts.spells (c.args.left - 2) reference_rules (trees, text)) c.args.row.now c.in_ok-once.ensures.ok gave (Items (Option SpanRef)) (Ok c.in_ok-all.all) (c.in_ok-all.ensures.judged text tail trees e h)
