use Rattle.std.proofs.Common.{◌-◌, Ok, Err, Some, ℕ, refl, sym, subst}
use Rattle.std.proofs.lemmas.Result.{err_from_is_err_and}
use Rattle.span_io.specs.Offences.{Offence, HereOrInside, Judges}
use Rattle.thrift_core.specs.Messages.{structs, whole_struct}
use Rattle.thrift_core.specs.Trees.{StructText}
use Rattle.jaeger_model.specs.private.ListsSoFar.{MeansOne}
use Rattle.jaeger_model.proofs.ListLemmas.{halts_too, row_judged, sets_first, struct_there, all_inside}
use Rattle.jaeger_model.proofs.reading.lists.structure_row.Goals as goal

pub returns-in_err-read-clause-judged : goal.returns-in_err-read-clause-judged
returns-in_err-read-clause-judged g c = λ text tail fields e h earlier gave.
    let p = err_from_is_err_and c.from_residual-in_err-read.result c.from_residual-in_err-read.ensures.1 in
    let stands = subst (λ m. StructText g.P.Parts.spells m fields text) (sym c.saturating_sub.ensures) (struct_there g.P.Parts.spells c.args.left fields text h) in
    let judged = subst (λ m. Judges {T = g.row.E.Denot} (Err c.in_err-read.field-0.0) (Offence (structs g.P.Parts.spells m) (g.E.Element.rules m) (whole_struct text))) c.saturating_sub.ensures (c.in_err-read.ensures.judged text tail fields e stands) in
    let Inside = Offence (structs g.P.Parts.spells (c.args.left - 1)) (g.E.Element.rules (c.args.left - 1)) (whole_struct text) in
    rw (p.1, p.2) (row_judged (MeansOne g.E.Element.means) earlier (λ n. ⊥) Inside c.args.row.now c.in_ok-once.ensures.ok gave Unit (Err c.in_err-read.field-0.0)
    (halts_too (HereOrInside (λ n. ⊥) Inside) g.row.E.Denot Unit c.in_err-read.field-0.0 (all_inside Inside g.row.E.Denot (Err c.in_err-read.field-0.0) judged)))

pub returns-clause-ok : goal.returns-clause-ok
returns-clause-ok g c = λ text tail fields e h.
    let stands = subst (λ m. StructText g.P.Parts.spells m fields text) (sym c.saturating_sub.ensures) (struct_there g.P.Parts.spells c.args.left fields text h) in
    let value = c.in_ok-read.ensures.value text tail fields e stands in
    (value.0, sets_first (MeansOne g.E.Element.means) (fields, text) c.args.row.now (Some c.in_ok-read.field-0) c.in_ok-read.field-0 c.in_ok-once.ensures.ok refl value.1)

pub returns-clause-judged : goal.returns-clause-judged
returns-clause-judged g c = λ text tail fields e h earlier gave.
    let stands = subst (λ m. StructText g.P.Parts.spells m fields text) (sym c.saturating_sub.ensures) (struct_there g.P.Parts.spells c.args.left fields text h) in
    let judged = subst (λ m. (place n : ℕ) → Offence (structs g.P.Parts.spells m) (g.E.Element.rules m) (whole_struct text) place n → ⊥) c.saturating_sub.ensures (c.in_ok-read.ensures.judged text tail fields e stands) in
    let Inside = Offence (structs g.P.Parts.spells (c.args.left - 1)) (g.E.Element.rules (c.args.left - 1)) (whole_struct text) in
    row_judged (MeansOne g.E.Element.means) earlier (λ n. ⊥) Inside c.args.row.now c.in_ok-once.ensures.ok gave g.row.E.Denot (Ok c.in_ok-read.field-0) (all_inside Inside g.row.E.Denot (Ok c.in_ok-read.field-0) judged)
