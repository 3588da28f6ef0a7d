use Rattle.std.proofs.Common.{◌-◌, Ok, Err, Some, refl}
use Rattle.std.proofs.lemmas.Result.{err_from_is_err_and}
use Rattle.span_io.specs.Offences.{HereOrInside}
use Rattle.span_io.specs.declared.items.Items.{Items}
use Rattle.jaeger_model.specs.InnerRows.{BadElement, ListOffends}
use Rattle.jaeger_model.specs.private.ListsSoFar.{MeansEach}
use Rattle.jaeger_model.proofs.ListLemmas.{halts_too, row_judged, sets_first}
use Rattle.jaeger_model.proofs.reading.lists.structures_row.Goals as goal

pub returns-in_err-read_list-clause-judged : goal.returns-in_err-read_list-clause-judged
returns-in_err-read_list-clause-judged g c = λ text tail trees e h earlier gave.
    let p = err_from_is_err_and c.from_residual-in_err-read_list.result c.from_residual-in_err-read_list.ensures.1 in
    rw (p.1, p.2) (row_judged (MeansEach g.E.Element.means) earlier (BadElement (trees, text)) (ListOffends g.P.Parts.spells (c.args.left - 2) (g.E.Element.rules (c.args.left - 2)) (trees, text)) c.args.row.now c.in_ok-once.ensures.ok gave Unit (Err c.in_err-read_list.field-0.0)
    (halts_too (HereOrInside (BadElement (trees, text)) (ListOffends g.P.Parts.spells (c.args.left - 2) (g.E.Element.rules (c.args.left - 2)) (trees, text))) (Items g.row.E.Denot) Unit c.in_err-read_list.field-0.0 (c.in_err-read_list.ensures.judged text tail trees e h)))

pub returns-clause-ok : goal.returns-clause-ok
returns-clause-ok g c = λ text tail trees e h.
    let value = c.in_ok-read_list.ensures.value text tail trees e h in
    (value.0, sets_first (MeansEach g.E.Element.means) (trees, text) c.args.row.now (Some c.in_ok-read_list.field-0) c.in_ok-read_list.field-0 c.in_ok-once.ensures.ok refl (value.1, c.in_ok-read_list.ensures.counted))

pub returns-clause-judged : goal.returns-clause-judged
returns-clause-judged g c = λ text tail trees e h earlier gave.
    row_judged (MeansEach g.E.Element.means) earlier (BadElement (trees, text)) (ListOffends g.P.Parts.spells (c.args.left - 2) (g.E.Element.rules (c.args.left - 2)) (trees, text)) c.args.row.now c.in_ok-once.ensures.ok gave (Items g.row.E.Denot) (Ok c.in_ok-read_list.field-0) (c.in_ok-read_list.ensures.judged text tail trees e h)
