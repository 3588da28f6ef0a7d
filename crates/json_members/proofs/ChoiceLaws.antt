-- Facts that hold or don't, and what a text spells: one thing, or nothing.
use Rattle.std.proofs.Common.{◌≡◌, ℕ, zero, suc, ◌<◌, ◌≤◌, ◌⊎◌, inl, inr, List, [], ◌∷◌, Bool, true, false, bytes_eq, true≢false, refl, sym, ◌∙◌, arith}
use Rattle.std.specs.Str.Parse.{digits_value}
use Rattle.std.specs.List.{All}
use Rattle.std.specs.Char.{IsAsciiHexdigit}
use Rattle.std.specs.Int.{IsInRange}
use Rattle.std.proofs.lemmas.List.Elements.{All-cons, All-head, All-tail}
use Rattle.std.proofs.lemmas.Slice.Eq.{bytes_eq-Decides}

-- ---- facts that hold or don't

abbrev pub Choice : Type 0 → Type 0
Choice P = P ⊎ (P → ⊥)

pub either_side : (a b : ℕ) → (a ≤ b) ⊎ (b < a)
either_side zero b = inl (omega arith)
either_side (suc a) zero = inr (omega arith)
either_side (suc a) (suc b) = on (either_side a b)
  where
    on : (a ≤ b) ⊎ (b < a) → (suc a ≤ suc b) ⊎ (suc b < suc a)
    on (inl h) = inl (omega arith)
    on (inr h) = inr (omega arith)

pub at_most_chosen : (a b : ℕ) → Choice (a ≤ b)
at_most_chosen a b = on (either_side a b)
  where
    on : (a ≤ b) ⊎ (b < a) → Choice (a ≤ b)
    on (inl h) = inl h
    on (inr h) = inr (λ k. omega arith)

pub both : {P Q : Type 0} → Choice P → Choice Q → Choice (P × Q)
both (inl p) (inl q) = inl (p, q)
both (inl p) (inr q) = inr (λ h. q h.1)
both (inr p) q = inr (λ h. p h.0)

pub either : {P Q : Type 0} → Choice P → Choice Q → Choice (P ⊎ Q)
either (inl p) q = inl (inl p)
either (inr p) (inl q) = inl (inr q)
either {P} {Q} (inr p) (inr q) = inr neither
  where
    neither : P ⊎ Q → ⊥
    neither (inl h) = p h
    neither (inr h) = q h

pub all_of : (P : ℕ → Type 0) → ((x : ℕ) → Choice (P x)) → (xs : List ℕ) → Choice (All P xs)
all_of P each [] = inl (λ k d h. absurd (omega arith))
all_of P each (x ∷ xs) = on (each x) (all_of P each xs)
  where
    on : Choice (P x) → Choice (All P xs) → Choice (All P (x ∷ xs))
    on (inl p) (inl all) = inl (All-cons P x xs p all)
    on (inl p) (inr fails) = inr (λ h. fails (All-tail P x xs h))
    on (inr fails) all = inr (λ h. fails (All-head P x xs h))

pub in_range : (low high c : ℕ) → Choice (IsInRange low high c)
in_range low high c = both (at_most_chosen low c) (at_most_chosen c high)

pub hex_digit : (c : ℕ) → Choice (IsAsciiHexdigit c)
hex_digit c = either (either (in_range 48 57 c) (in_range 65 70 c)) (in_range 97 102 c)

pub zero_digit : (c : ℕ) → Choice (c ≡ 48)
zero_digit c = on (at_most_chosen c 48) (at_most_chosen 48 c)
  where
    on : Choice (c ≤ 48) → Choice (48 ≤ c) → Choice (c ≡ 48)
    on (inl a) (inl b) = inl (omega arith)
    on (inl a) (inr b) = inr (λ h. b (omega arith))
    on (inr a) b = inr (λ h. a (omega arith))

pub same_text_chosen : (xs ys : List ℕ) → Choice (xs ≡ ys)
same_text_chosen xs ys = on (bytes_eq xs ys) refl
  where
    on : (b : Bool) → bytes_eq xs ys ≡ b → Choice (xs ≡ ys)
    on true e = inl ((bytes_eq-Decides xs ys).0 e)
    on false e = inr (λ h. let k : bytes_eq xs ys ≡ true = (bytes_eq-Decides xs ys).1 h in cc)

-- ---- what a text spells

-- one thing, or nothing
abbrev pub SpellsOne : {A : Type 0} → (List ℕ → A → Type 0) → List ℕ → Type 0
SpellsOne {A} Spells text = ((x : A) × Spells text x × ((y : A) → Spells text y → x ≡ y)) ⊎ ((y : A) → Spells text y → ⊥)

-- two words that differ
pub apart : (text a b : List ℕ) → bytes_eq a b ≡ false → text ≡ a → text ≡ b → ⊥
apart text a b differ h k = true≢false (sym ((bytes_eq-Decides a b).1 (sym h ∙ k)) ∙ differ)

-- zeros are no identifier
pub zeros_value : (text : List ℕ) → All (λ digit. digit ≡ 48) text → digits_value 16 text ≡ 0
zeros_value [] h = refl
zeros_value (c ∷ text) h =
    let e : c ≡ 48 = All-head (λ digit. digit ≡ 48) c text h in
    rw e (zeros_value text (All-tail (λ digit. digit ≡ 48) c text h))
