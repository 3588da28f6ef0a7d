-- The line of a datagram without a piece, from its parts.
use Rattle.std.proofs.Common.{◌≡◌, ℕ, List, [], ◌++◌, refl, ap, ◌∙◌, append_assoc, append-nil}

-- all parts behind the first one
pub behind_first : (x w d s n k l : List ℕ) → x ++ w ++ d ++ s ++ n ++ k ++ l ≡ x ++ (w ++ d ++ s ++ n ++ k ++ l)
behind_first x w d s n k l = simp append_assoc refl

-- where one part is empty
pub without_key : (x w d s n l : List ℕ) → x ++ w ++ d ++ s ++ n ++ [] ++ l ≡ x ++ (w ++ d ++ s ++ n ++ l)
without_key x w d s n l = ap (λ t. t ++ l) (append-nil (x ++ w ++ d ++ s ++ n)) ∙ simp append_assoc refl

-- the pieces of a line
pub eight_pieces : (a b c d e f g h : List ℕ) → a ++ (b ++ (c ++ (d ++ (e ++ (f ++ (g ++ (h ++ []))))))) ≡ a ++ b ++ c ++ d ++ e ++ f ++ g ++ h
eight_pieces a b c d e f g h = simp (append_assoc, append-nil) refl
