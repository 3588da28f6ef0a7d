use Rattle.std.proofs.Common.{◌≡◌, rules, tests, [], ◌∷◌, ◌++◌, length, ap, ◌∙◌}
use Rattle.std.specs.List.{slice_split}
use Rattle.std.specs.Slice.Iter.{split_rest, split_done, split_callee}
use Rattle.std.proofs.lemmas.Iterator.Consumers.{YieldsList-turn, YieldsList-end}
use Rattle.std.proofs.lemmas.Iterator.Splits.{YieldsList-from_slice_split}
use Rattle.std.proofs.lemmas.List.{length_push}
use Rattle.propagation.proofs.MemberLemmas.{true_and_false}
use Rattle.propagation.proofs.PieceLemmas.{is_comma, ListsPieces, pieces_more, next_at, pieces_end, pieces_once, pieces_of, lists_of}
use Rattle.propagation.proofs.tracestate.read_members.Goals as goal

pub returns-then-not-add_piece-clause-only : goal.returns-then-not-add_piece-clause-only
returns-then-not-add_piece-clause-only c = λ members h are.
    let all = slice_split is_comma c.args.value.now in
    let gives = c.into_iter-piece-iterator.ensures.into_iter_gives in
    let at = YieldsList-turn (YieldsList-from_slice_split _ is_comma c.args.value.now (ap split_rest gives ∙ c.split-piece-items.ensures.rest)
    (ap split_done gives ∙ c.split-piece-items.ensures.done) (ap split_callee gives ∙ c.split-piece-items.ensures.closure) (λ x r q k. search (rules, tests)))
    c.pieces.yielded _ c.pieces.yielded_by _ _ c.in-Some.piece c.in-Some.is c.next.ensures.steps in
    let next = next_at all (length c.pieces.yielded) c.in-Some.piece.now c.pieces.members.items members at.0 at.1 c.pieces.invariant.2 (pieces_of c.args.value.now members h) are in
    true_and_false (c.add_piece.ensures.only next.entry next.formed next.text next.are) c.if-not-add_piece.true

pub pieces-preserved : goal.pieces-preserved
pieces-preserved c =
    let all = slice_split is_comma c.args.value.now in
    let gives = c.into_iter-piece-iterator.ensures.into_iter_gives in
    let at = YieldsList-turn (YieldsList-from_slice_split _ is_comma c.args.value.now (ap split_rest gives ∙ c.split-piece-items.ensures.rest)
    (ap split_done gives ∙ c.split-piece-items.ensures.done) (ap split_callee gives ∙ c.split-piece-items.ensures.closure) (λ x r q k. search (rules, tests)))
    c.pieces.yielded _ c.pieces.yielded_by _ _ c.in-Some.piece c.in-Some.is c.next.ensures.steps in
    let n = length c.pieces.yielded in
    let k = length_push c.pieces.yielded c.in-Some.piece in (
      search rules,
      tt,
      pieces_more all n (length (c.pieces.yielded ++ c.in-Some.piece ∷ [])) c.in-Some.piece.now c.pieces.members.items c.add_piece.new.members.items
          at.0 at.1 k c.pieces.invariant.2 (c.add_piece.ensures.added c.if-not-add_piece.false),
      c.add_piece.ensures.formed c.if-not-add_piece.false,
    )

-- the pieces are at an end
all_pieces : (c : goal.In-None) → length c.pieces.yielded ≡ length (slice_split is_comma c.args.value.now)
all_pieces c =
    let gives = c.into_iter-piece-iterator.ensures.into_iter_gives in
    let end = YieldsList-end (YieldsList-from_slice_split _ is_comma c.args.value.now (ap split_rest gives ∙ c.split-piece-items.ensures.rest)
    (ap split_done gives ∙ c.split-piece-items.ensures.done) (ap split_callee gives ∙ c.split-piece-items.ensures.closure) (λ x r q k. search (rules, tests)))
    c.pieces.yielded _ c.pieces.yielded_by _ _ c.in-None.is c.next.ensures.steps in
    end.1

held_all : (c : goal.In-None) → ListsPieces (slice_split is_comma c.args.value.now) c.pieces.members.items
held_all c = pieces_end (slice_split is_comma c.args.value.now) (length c.pieces.yielded) c.pieces.members.items (all_pieces c) c.pieces.invariant.2

pub returns-clause-listed : goal.returns-clause-listed
returns-clause-listed c = lists_of c.args.value.now c.pieces.members.items (held_all c)

pub returns-clause-only : goal.returns-clause-only
returns-clause-only c = λ members h are.
    pieces_once (slice_split is_comma c.args.value.now) c.pieces.members.items members (held_all c) (pieces_of c.args.value.now members h)
