-- The texts of documents: what more groups add to them, and how they end.
use Rattle.std.proofs.Common.{◌≡◌, ℕ, ◌++◌, ◌∷◌, Bool, true, false, List, [], refl, ap, sym, ◌∙◌, append_assoc, append-nil}
use Rattle.std.specs.List.{join_with_byte}
use Rattle.span_io.specs.Outside.{IsFront}
use Rattle.trace_model.specs.declared.group.Group.{Group}
use Rattle.span_convert.specs.Documents.{DocumentText, partial_document, closing_document, pieces_added}

-- ---- pieces with commas between them

abbrev joined : List (List ℕ) → List ℕ
joined pieces = join_with_byte 44 pieces

abbrev pub is_some_piece : List (List ℕ) → Bool
is_some_piece [] = false
is_some_piece (piece ∷ more) = true

-- more pieces behind one
joined_behind : (piece : List ℕ) (more : List (List ℕ)) → joined (piece ∷ more) ≡ piece ++ pieces_added true more
joined_behind piece [] = sym (append-nil piece)
joined_behind piece (next ∷ more) = ap (λ (l : List ℕ). piece ++ (44 ∷ l)) (joined_behind next more)

joined_added : (pieces more : List (List ℕ)) → joined (pieces ++ more) ≡ joined pieces ++ pieces_added (is_some_piece pieces) more
joined_added [] [] = refl
joined_added [] (piece ∷ more) = joined_behind piece more
joined_added (piece ∷ []) more = joined_behind piece more
joined_added (piece ∷ next ∷ pieces) more =
    ap (λ (l : List ℕ). piece ++ (44 ∷ l)) (joined_added (next ∷ pieces) more)
    ∙ sym (append_assoc piece (44 ∷ joined (next ∷ pieces)) (pieces_added true more))

-- ---- what groups add

-- what opens the text, where no group stands before
abbrev pub opening : DocumentText → List Group → List ℕ
opening spelled [] = spelled.opens
opening spelled (group ∷ groups) = []

module _ (spelled : DocumentText) where
  -- the text of more groups behind some
  more_text : (group : Group) (groups more : List Group) (added : List (List ℕ)) → spelled.pieces (group ∷ (groups ++ more)) ≡ spelled.pieces (group ∷ groups) ++ added
      → partial_document spelled (group ∷ (groups ++ more)) ≡ partial_document spelled (group ∷ groups) ++ pieces_added (is_some_piece (spelled.pieces (group ∷ groups))) added
  more_text group groups more added adds =
      let before : List (List ℕ) = spelled.pieces (group ∷ groups) in
      ap (λ (l : List (List ℕ)). spelled.opens ++ joined l) adds
      ∙ ap (λ (l : List ℕ). spelled.opens ++ l) (joined_added before added)
      ∙ sym (append_assoc spelled.opens (joined before) (pieces_added (is_some_piece before) added))

  -- what a group adds to the text of those before it
  pub added_text : spelled.pieces [] ≡ [] → (groups : List Group) (group : Group) (added : List (List ℕ)) → spelled.pieces (groups ++ group ∷ []) ≡ spelled.pieces groups ++ added
      → partial_document spelled (groups ++ group ∷ []) ≡ partial_document spelled groups ++ (opening spelled groups ++ pieces_added (is_some_piece (spelled.pieces groups)) added)
  added_text none [] group added adds =
      ap (λ (l : List (List ℕ)). spelled.opens ++ joined l) adds
      ∙ ap (λ (l : List ℕ). spelled.opens ++ l) (joined_added (spelled.pieces []) added)
      ∙ ap (λ (l : List (List ℕ)). spelled.opens ++ (joined l ++ pieces_added (is_some_piece (spelled.pieces [])) added)) none
  added_text none (first ∷ groups) group added adds = more_text first groups (group ∷ []) added adds

  pub document_front : (a b : List Group) (added : List (List ℕ)) → spelled.pieces (a ++ b) ≡ spelled.pieces a ++ added → IsFront (partial_document spelled a) (partial_document spelled (a ++ b))
  document_front [] b added adds = (partial_document spelled b, refl)
  document_front (group ∷ a) b added adds = (pieces_added (is_some_piece (spelled.pieces (group ∷ a))) added, more_text group a b added adds)

  pub document_closed : spelled.pieces [] ≡ [] → (groups : List Group) → spelled.opens ++ (join_with_byte 44 (spelled.pieces groups) ++ spelled.closes) ≡ partial_document spelled groups ++ closing_document spelled groups
  document_closed none [] = ap (λ (l : List (List ℕ)). spelled.opens ++ (joined l ++ spelled.closes)) none
  document_closed none (group ∷ groups) = sym (append_assoc spelled.opens (joined (spelled.pieces (group ∷ groups))) spelled.closes)
