-- Pieces, one after the other.
use Rattle.std.proofs.Common.{◌≡◌, ℕ, ◌+◌, ◌<◌, ◌≤◌, List, [], ◌∷◌, ◌++◌, length, get_or, take, drop, sym, ap, subst, ◌∙◌, append_assoc, take-append-drop}
use Rattle.std.proofs.lemmas.List.{append-nil, take_all, take_more}
use Rattle.std.proofs.lemmas.List.Concat.{flat_map-append, flat_map-cons}
use Rattle.std.specs.Borrow.{Bor}
use Rattle.span_io.specs.Outside.{Outlet, FailsAt}
use Rattle.span_notes.specs.Pieces.{pieces_text}

-- with the next piece
pub joined_more : (pieces : List (Bor (List ℕ))) (i : ℕ) (none : Bor (List ℕ)) → i < length pieces → pieces_text (take (i + 1) pieces) ≡ pieces_text (take i pieces) ++ (get_or pieces i none).now
joined_more pieces i none lt =
    ap pieces_text (take_more pieces i none lt)
    ∙ flat_map-append (λ (p : Bor (List ℕ)). p.now) (take i pieces) (get_or pieces i none ∷ [])
    ∙ ap (λ (l : List ℕ). pieces_text (take i pieces) ++ l) (flat_map-cons (λ (p : Bor (List ℕ)). p.now) (get_or pieces i none) [] ∙ append-nil (get_or pieces i none).now)

-- a line in three
pub three_pieces : (a b c x y : List ℕ) → a ≡ x → b ≡ y → a ++ (b ++ (c ++ [])) ≡ x ++ y ++ c
three_pieces a b c x y p q = (λ i. p i ++ (q i ++ append-nil c i)) ∙ sym (append_assoc x y c)

-- ---- appended to a text

pub append_more : (old now new : List ℕ) (pieces : List (Bor (List ℕ))) (i : ℕ) (none : Bor (List ℕ)) → i < length pieces → now ≡ old ++ pieces_text (take i pieces)
    → new ≡ now ++ (get_or pieces i none).now → new ≡ old ++ pieces_text (take (i + 1) pieces)
append_more old now new pieces i none lt e f =
    f ∙ ap (λ l. l ++ (get_or pieces i none).now) e ∙ append_assoc old (pieces_text (take i pieces)) (get_or pieces i none).now ∙ ap (λ l. old ++ l) (sym (joined_more pieces i none lt))

pub append_all : (old new : List ℕ) (pieces : List (Bor (List ℕ))) (i : ℕ) → length pieces ≤ i → new ≡ old ++ pieces_text (take i pieces) → new ≡ old ++ pieces_text pieces
append_all old new pieces i le e = e ∙ ap (λ l. old ++ pieces_text l) (take_all i pieces le)

-- ---- written to a sink

-- the first pieces, and the others
joined_parts : (pieces : List (Bor (List ℕ))) (i : ℕ) → pieces_text (take i pieces) ++ pieces_text (drop i pieces) ≡ pieces_text pieces
joined_parts pieces i = sym (flat_map-append (λ (p : Bor (List ℕ)). p.now) (take i pieces) (drop i pieces)) ∙ ap pieces_text (take-append-drop i pieces)

fails_before : (before now : Outlet) (line more : List ℕ) → FailsAt before now line → FailsAt before now (line ++ more)
fails_before before now line more at = record {
  front = at.front;
  byte = at.byte;
  others = at.others ++ more;
  parts = ap (λ (l : List ℕ). l ++ more) at.parts ∙ append_assoc at.front (at.byte ∷ at.others) more;
  gains = at.gains;
  rose = at.rose;
  stops = at.stops;
}

-- a failure within the first pieces is one within all
pub fails_within_pieces : (before now : Outlet) (pieces : List (Bor (List ℕ))) (i : ℕ) (none : Bor (List ℕ)) → i < length pieces
    → FailsAt before now (pieces_text (take i pieces) ++ (get_or pieces i none).now) → FailsAt before now (pieces_text pieces)
fails_within_pieces before now pieces i none lt at =
    subst (λ (l : List ℕ). FailsAt before now l) (joined_parts pieces (i + 1))
    (fails_before before now (pieces_text (take (i + 1) pieces)) (pieces_text (drop (i + 1) pieces)) (subst (λ (l : List ℕ). FailsAt before now l) (sym (joined_more pieces i none lt)) at))
