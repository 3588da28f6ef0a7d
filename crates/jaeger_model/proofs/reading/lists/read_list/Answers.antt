use Rattle.std.proofs.Common.{◌≡◌, ◌≢◌, ◌≤◌, ◌-◌, ◌++◌, length, Some, sym, subst}
use Rattle.std.proofs.lemmas.Result.{err_from_is_err_and}
use Rattle.span_io.specs.declared.cause.Cause.TheVariants as causes
use Rattle.span_io.specs.Offences.{Judges}
use Rattle.span_io.specs.declared.items.Items.{Items}
use Rattle.thrift_core.specs.declared.field.ListHead.{ListHead}
use Rattle.thrift_core.specs.declared.type_code.TypeCode.TheVariants as kinds
use Rattle.thrift_core.specs.Parts.{list_head, Begins}
use Rattle.jaeger_model.specs.InnerRows.{ListOffends, ElementsOffend}
use Rattle.jaeger_model.specs.private.ListsSoFar.{AreElements}
use Rattle.jaeger_model.proofs.ListLemmas.{list_there, list_before, are_elements, bad_element, list_judged, inner_within}
use Rattle.jaeger_model.proofs.reading.lists.read_list.Goals as goal

pub returns-in_err-only_structs-clause-judged : goal.returns-in_err-only_structs-clause-judged
returns-in_err-only_structs-clause-judged g c = λ text tail trees e h.
    let there = list_there g.P.Parts.spells c.args.left trees text h in
    let begins = list_before g.P.Parts.spells (c.args.left - 1) trees text tail c.args.c.now.rest e there in
    let stood = c.sure_list-head.ensures.stands there.head (there.inner ++ tail) (subst (λ m. Begins g.P.Parts.spells (list_head m) there.head c.args.c.now.rest (there.inner ++ tail)) (sym c.saturating_sub.ensures) begins) in
    let bad = subst (λ (x : ListHead). (1 ≤ x.size) × (x.element ≢ Some kinds.Struct)) stood.0 (c.in_err-only_structs.ensures.err.1, c.in_err-only_structs.ensures.err.2) in
    let p = err_from_is_err_and c.from_residual.result c.from_residual.ensures.1 in
    let told = c.in_err-only_structs.ensures.err.0 in
    let cause : c.in_err-only_structs.field-0.0 ≡ causes.BadElement = cc in
    rw (p.1, p.2, cause) (bad_element g.P.Parts.spells (c.args.left - 1) trees text there (ListOffends g.P.Parts.spells (c.args.left - 2) (g.E.Element.rules (c.args.left - 2)) (trees, text)) bad.0 bad.1)

pub returns-clause-value : goal.returns-clause-value
returns-clause-value g c = λ text tail trees e h.
    let there = list_there g.P.Parts.spells c.args.left trees text h in
    let begins = list_before g.P.Parts.spells (c.args.left - 1) trees text tail c.args.c.now.rest e there in
    let stood = c.sure_list-head.ensures.stands there.head (there.inner ++ tail) (subst (λ m. Begins g.P.Parts.spells (list_head m) there.head c.args.c.now.rest (there.inner ++ tail)) (sym c.saturating_sub.ensures) begins) in
    let are = subst (λ (x : ListHead). 1 ≤ x.size → x.element ≡ Some kinds.Struct) stood.0 c.in_ok-only_structs.ensures.ok in
    let elements = are_elements g.P.Parts.spells _ _ _ g.met.P.Parts.reads_exactly c.args.left trees text there are in
    c.read_elements.ensures.value there.inner tail trees stood.1
    (subst (λ (x : ListHead). AreElements g.P.Parts.spells c.saturating_sub-2.result x.size trees there.inner) (sym stood.0)
    (subst (λ m. AreElements g.P.Parts.spells m there.head.size trees there.inner) (sym c.saturating_sub-2.ensures) elements))

pub returns-clause-judged : goal.returns-clause-judged
returns-clause-judged g c = λ text tail trees e h.
    let there = list_there g.P.Parts.spells c.args.left trees text h in
    let begins = list_before g.P.Parts.spells (c.args.left - 1) trees text tail c.args.c.now.rest e there in
    let stood = c.sure_list-head.ensures.stands there.head (there.inner ++ tail) (subst (λ m. Begins g.P.Parts.spells (list_head m) there.head c.args.c.now.rest (there.inner ++ tail)) (sym c.saturating_sub.ensures) begins) in
    let are = subst (λ (x : ListHead). 1 ≤ x.size → x.element ≡ Some kinds.Struct) stood.0 c.in_ok-only_structs.ensures.ok in
    let elements = are_elements g.P.Parts.spells _ _ _ g.met.P.Parts.reads_exactly c.args.left trees text there are in
    let judged = c.read_elements.ensures.judged there.inner tail trees stood.1
    (subst (λ (x : ListHead). AreElements g.P.Parts.spells c.saturating_sub-2.result x.size trees there.inner) (sym stood.0)
    (subst (λ m. AreElements g.P.Parts.spells m there.head.size trees there.inner) (sym c.saturating_sub-2.ensures) elements)) (length text)
    (inner_within g.P.Parts.spells _ _ _ g.met.P.Parts.reads_exactly c.args.left trees text there are (g.E.Element.rules (c.args.left - 2))) in
    list_judged g.P.Parts.spells _ _ _ g.met.P.Parts.reads_exactly c.args.left trees text there are (g.E.Element.rules (c.args.left - 2)) (Items g.row.E.Denot) c.read_elements.result
    (subst (λ m. Judges c.read_elements.result (ElementsOffend g.P.Parts.spells m (g.E.Element.rules m) (length text) trees there.inner)) c.saturating_sub-2.ensures judged)
