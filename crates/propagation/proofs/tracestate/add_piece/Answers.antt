use Rattle.std.proofs.Common.{[], ◌∷◌, ◌++◌, sym, ap, subst, ◌∙◌}
use Rattle.std.specs.Prelude.{Some, None}
use Rattle.std.specs.Option.{option_to_list}
use Rattle.std.proofs.lemmas.List.{append-nil}
use Rattle.propagation.specs.Tracestate.{StateMember, AreStateMembers}
use Rattle.propagation.proofs.PieceLemmas.{trims_piece, piece_inside, stands_inside, member_is}
use Rattle.propagation.proofs.ReadLemmas.{empty_true, empty_false}
use Rattle.propagation.proofs.tracestate.add_piece.Goals as goal

pub returns-then-is_empty-clause-added : goal.returns-then-is_empty-clause-added
returns-then-is_empty-clause-added c = λ _.
    let items = c.args.members.now.items in
    let empty = empty_true c.trimmed-text.result.now c.is_empty.result c.is_empty.ensures c.if-is_empty.true in
    let p = trims_piece c.args.piece.now c.trimmed-text.result.now None c.trimmed-text.ensures tt empty in
    (p.entry, p.formed, p.text, sym (ap (λ o. items ++ option_to_list o) p.has ∙ append-nil items))

pub returns-in-None-clause-only : goal.returns-in-None-clause-only
returns-in-None-clause-only c = λ entry h p are.
    let some = empty_false c.trimmed-text.result.now c.is_empty.result c.is_empty.ensures c.if-is_empty.false in
    let s = stands_inside c.trimmed-text.result.now entry.member h.member some (piece_inside c.args.piece.now c.trimmed-text.result.now entry c.trimmed-text.ensures h p) in
    absurd (c.in-None.ensures.only s.member s.formed s.text)

pub returns-in-Some-clause-added : goal.returns-in-Some-clause-added
returns-in-Some-clause-added c = λ yes.
    let items = c.args.members.now.items in
    let member : StateMember = record { key = c.in-Some.key.now; value = c.in-Some.value.now } in
    let p = trims_piece c.args.piece.now c.trimmed-text.result.now (Some member) c.trimmed-text.ensures
    (record { key = c.in-Some.ensures.key; value = c.in-Some.ensures.value }) c.in-Some.ensures.text in
    (p.entry, p.formed, p.text, c.add.ensures.added yes ∙ sym (ap (λ o. items ++ option_to_list o) p.has))

pub returns-in-Some-clause-only : goal.returns-in-Some-clause-only
returns-in-Some-clause-only c = λ entry h p are.
    let items = c.args.members.now.items in
    let some = empty_false c.trimmed-text.result.now c.is_empty.result c.is_empty.ensures c.if-is_empty.false in
    let s = stands_inside c.trimmed-text.result.now entry.member h.member some (piece_inside c.args.piece.now c.trimmed-text.result.now entry c.trimmed-text.ensures h p) in
    let same = c.in-Some.ensures.only s.member s.formed s.text in
    let one = member_is s.member c.in-Some.key.now c.in-Some.value.now same.0 same.1 in
    c.add.ensures.formed.1 (subst (λ l. AreStateMembers (items ++ l)) (ap option_to_list s.is ∙ sym (ap (λ m. m ∷ []) one)) are)
