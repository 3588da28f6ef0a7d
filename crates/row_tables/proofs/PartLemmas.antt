-- The first part of a text, and those behind it.
use Rattle.std.proofs.Common.{◌≡◌, ℕ, suc, ◌+◌, ◌<◌, Bool, true, false, cond, not, List, [], ◌∷◌, length, take, drop, length-drop, refl, ap, arith}
use Rattle.std.specs.List.{position_or_len, before_first, after_first, onto_first}
use Rattle.row_tables.specs.Parts.{parts_of}
use Rattle.row_tables.specs.private.TakenParts.{TakesPart}

first_by : (p : ℕ → Bool) (b : ℕ) (bs : List ℕ) (t : Bool) → (0 < length bs → parts_of p bs ≡ before_first p bs ∷ parts_of p (after_first p bs))
    → cond t ([] ∷ parts_of p bs) (onto_first b (parts_of p bs))
    ≡ take (cond (not t) (1 + position_or_len p bs) 0) (b ∷ bs) ∷ parts_of p (drop (cond (not t) (1 + position_or_len p bs) 0 + 1) (b ∷ bs))
first_by p b bs true ih = refl
first_by p b [] false ih = refl
first_by p b (c ∷ bs) false ih =
    let e : 1 + position_or_len p (c ∷ bs) ≡ suc (position_or_len p (c ∷ bs)) = omega arith in
    let f : suc (position_or_len p (c ∷ bs)) + 1 ≡ suc (position_or_len p (c ∷ bs) + 1) = omega arith in
    let some : 0 < length (c ∷ bs) = omega arith in
    rw (e, f) (ap (onto_first b) (ih some))

pub parts_first : (p : ℕ → Bool) (bs : List ℕ) → 0 < length bs → parts_of p bs ≡ before_first p bs ∷ parts_of p (after_first p bs)
parts_first p [] some = absurd (omega arith)
parts_first p (b ∷ bs) some = first_by p b bs (p b) (λ h. parts_first p bs h)

pub takes_part : (p : ℕ → Bool) (text part rest : List ℕ) → part ≡ before_first p text → rest ≡ after_first p text → TakesPart p text part rest
takes_part p [] part rest e f = record { none = λ _. e; one = λ h. absurd (omega arith); nearer = λ h. absurd (omega arith) }
takes_part p (b ∷ bs) part rest e f = record {
  none = λ h. absurd (omega arith);
  one = λ h. rw (e, f) (parts_first p (b ∷ bs) h);
  nearer = λ h. rw f (omega (arith, length-drop (position_or_len p (b ∷ bs) + 1) (b ∷ bs)));
}
