use Rattle.std.proofs.Common.{◌+◌, ◌++◌, ◌∷◌, [], length, ap, sym, subst, arith}
use Rattle.std.proofs.lemmas.List.{length-append}
use Rattle.std.proofs.lemmas.Result.{err_from_is_err_and}
use Rattle.span_io.specs.declared.items.Items.{Items}
use Rattle.jaeger_model.proofs.ListLemmas.{ElementsLeft, Listing, listing_start, this_one, its_bytes, left_next, element_halts, all_read, none_offends}
use Rattle.jaeger_model.proofs.reading.lists.read_elements.Goals as goal

pub elements-init : goal.elements-init
elements-init g c =
    subst (λ l. Listing g.P.Parts.spells c.args.left c.args.size (g.E.Element.rules c.args.left) g.E.Element.means l c.args.c.now.rest c.args.c.now.rest 0) (sym c.in_ok-elements.ensures)
    (listing_start g.P.Parts.spells _ _ _ g.met.P.Parts.reads_exactly g.met.P.Parts.part_laws c.args.left (g.E.Element.rules c.args.left) g.E.Element.means c.args.size c.args.c.now.rest)

pub returns-in_err-read-clause-judged : goal.returns-in_err-read-clause-judged
returns-in_err-read-clause-judged g c = λ text tail trees e are total within.
    let here = c.elements.invariant.standing text tail trees e are in
    let this = this_one g.P.Parts.spells _ _ _ g.met.P.Parts.reads_exactly g.met.P.Parts.part_laws c.args.left (g.E.Element.rules c.args.left) g.E.Element.means c.args.size c.elements.elements text tail trees c.elements.c.rest c.elements.counter c.elements-test.true here in
    let p = err_from_is_err_and c.from_residual-in_err-read.result c.from_residual-in_err-read.ensures.1 in
    rw (p.1, p.2) (element_halts g.P.Parts.spells _ _ _ g.met.P.Parts.reads_exactly g.met.P.Parts.part_laws c.args.left (g.E.Element.rules c.args.left) g.E.Element.means c.args.size c.elements.elements text tail trees c.elements.c.rest c.elements.counter c.elements-test.true here c.requires.lawful g.row.E.Denot (Items g.row.E.Denot) c.in_err-read.field-0.0
    (c.in_err-read.ensures.judged this.text (this.after ++ tail) this.fields (its_bytes g.P.Parts.spells _ _ _ g.met.P.Parts.reads_exactly g.met.P.Parts.part_laws c.args.left (g.E.Element.rules c.args.left) g.E.Element.means c.args.size c.elements.elements text tail trees c.elements.c.rest c.elements.counter c.elements-test.true here) this.stands) total within)

pub returns-in_err-read-clause-shorter : goal.returns-in_err-read-clause-shorter
returns-in_err-read-clause-shorter g c = omega (arith, c.elements.invariant.shorter, c.in_err-read.ensures.shorter)

pub returns-in_err-push-clause-shorter : goal.returns-in_err-push-clause-shorter
returns-in_err-push-clause-shorter g c = omega (arith, c.elements.invariant.shorter, c.in_ok-read.ensures.shorter)

pub elements-preserved : goal.elements-preserved
elements-preserved g c = record {
  counted = omega (arith, c.elements.invariant.counted, ap length c.in_ok-push.ensures.ok, length-append c.elements.elements (c.in_ok-read.field-0 ∷ []));
  shorter = omega (arith, c.elements.invariant.shorter, c.in_ok-read.ensures.shorter);
  standing = λ text tail trees e are.
      let here = c.elements.invariant.standing text tail trees e are in
      let this = this_one g.P.Parts.spells _ _ _ g.met.P.Parts.reads_exactly g.met.P.Parts.part_laws c.args.left (g.E.Element.rules c.args.left) g.E.Element.means c.args.size c.elements.elements text tail trees c.elements.c.rest c.elements.counter c.elements-test.true here in
      let bytes = its_bytes g.P.Parts.spells _ _ _ g.met.P.Parts.reads_exactly g.met.P.Parts.part_laws c.args.left (g.E.Element.rules c.args.left) g.E.Element.means c.args.size c.elements.elements text tail trees c.elements.c.rest c.elements.counter c.elements-test.true here in
      let value = c.in_ok-read.ensures.value this.text (this.after ++ tail) this.fields bytes this.stands in
      subst (λ l. ElementsLeft g.P.Parts.spells c.args.left c.args.size (g.E.Element.rules c.args.left) g.E.Element.means l text tail trees c.read.new.c.rest (c.elements.counter + 1)) (sym c.in_ok-push.ensures.ok)
      (left_next g.P.Parts.spells _ _ _ g.met.P.Parts.reads_exactly g.met.P.Parts.part_laws c.args.left (g.E.Element.rules c.args.left) g.E.Element.means c.args.size c.elements.elements text tail trees c.elements.c.rest c.elements.counter c.elements-test.true here c.in_ok-read.field-0 c.read.new.c.rest (c.in_ok-read.ensures.judged this.text (this.after ++ tail) this.fields bytes this.stands) value.0 value.1);
}

pub returns-clause-value : goal.returns-clause-value
returns-clause-value g c = λ text tail trees e are. all_read g.P.Parts.spells _ _ _ g.met.P.Parts.reads_exactly g.met.P.Parts.part_laws c.args.left (g.E.Element.rules c.args.left) g.E.Element.means c.args.size c.elements.elements text tail trees c.elements.c.rest c.elements.counter c.elements-test.false (c.elements.invariant.standing text tail trees e are)

pub returns-clause-judged : goal.returns-clause-judged
returns-clause-judged g c = λ text tail trees e are total within. none_offends g.P.Parts.spells _ _ _ g.met.P.Parts.reads_exactly g.met.P.Parts.part_laws c.args.left (g.E.Element.rules c.args.left) g.E.Element.means c.args.size c.elements.elements text tail trees c.elements.c.rest c.elements.counter c.elements-test.false (c.elements.invariant.standing text tail trees e are) total

pub returns-clause-shorter : goal.returns-clause-shorter
returns-clause-shorter g c = c.elements.invariant.shorter
