-- Values of headers that are read part by part.
use Rattle.std.proofs.Common.{◌≡◌, ◌≢◌, ℕ, List, [], ◌∷◌, ◌++◌, length, refl, sym, ap, subst, ◌∙◌, inl, inr, arith}
use Rattle.std.specs.Prelude.{Bool, true, false, ◌==◌, unwrap_or, All, Option, Some, None, IfSome, IsSomeAnd, MatchOption, codes}
use Rattle.std.specs.Borrow.{Bor}
use Rattle.std.specs.Char.{IsAsciiHexdigit}
use Rattle.std.proofs.lemmas.Bool.Decides.{eqb_tells}
use Rattle.std.proofs.lemmas.List.{append_cancel_left}
use Rattle.std.proofs.lemmas.List.Elements.{All-weaker}
use Rattle.span_ids.specs.HexTexts.{IsLowerDigit, IsOfRule, SpellsInHex}
use Rattle.span_ids.specs.declared.hex_text.IdRule.{IdRule}
use Rattle.span_ids.specs.declared.hex_text.IdRule.TheVariants as rules
use Rattle.propagation.specs.Fronts.{BeginsWithout}
use Rattle.propagation.specs.Uber.{IsColon}
use Rattle.propagation.specs.declared.ids.Ids.{Ids}

-- ---- digits

lower_digit_is_hex : (c : ℕ) → IsLowerDigit c → IsAsciiHexdigit c
lower_digit_is_hex c (inl h) = inl (inl h)
lower_digit_is_hex c (inr h) = inr h

pub rule_digits : (rule : IdRule) (full : ℕ) (text : List ℕ) → IsOfRule rule full text → All IsAsciiHexdigit text
rule_digits rules.Exact full text h = h.1
rule_digits rules.ExactLower full text h = All-weaker IsLowerDigit IsAsciiHexdigit lower_digit_is_hex text h.1
rule_digits rules.Half full text h = h.1
rule_digits rules.Padded full text h = h.2

pub spelled_digits : (rule : IdRule) (full : ℕ) (text : List ℕ) (id : ℕ) → SpellsInHex rule full text id → All IsAsciiHexdigit text
spelled_digits rule full text id h = rule_digits rule full text h.0.0

-- ---- what separates them

pub dash_ends : ¬ (IsAsciiHexdigit 45)
dash_ends (inl (inl h)) = omega arith
dash_ends (inl (inr h)) = omega arith
dash_ends (inr h) = omega arith

plain_ends : ¬ (IsAsciiHexdigit 58)
plain_ends (inl (inl h)) = omega arith
plain_ends (inl (inr h)) = omega arith
plain_ends (inr h) = omega arith

escape_ends : ¬ (IsAsciiHexdigit 37)
escape_ends (inl (inl h)) = omega arith
escape_ends (inl (inr h)) = omega arith
escape_ends (inr h) = omega arith

pub colon_ends : (colon rest : List ℕ) → IsColon colon → BeginsWithout IsAsciiHexdigit (colon ++ rest)
colon_ends colon rest (inl e) = rw e plain_ends
colon_ends colon rest (inr (inl e)) = rw e escape_ends
colon_ends colon rest (inr (inr e)) = rw e escape_ends

-- two colons at one place are the same
pub colon_once : (a b r s : List ℕ) → IsColon a → IsColon b → a ++ r ≡ b ++ s → r ≡ s
colon_once a b r s (inl e) (inl f) h = let k = rw (e, f) at h in cc
colon_once a b r s (inl e) (inr (inl f)) h = let k = rw (e, f) at h in cc
colon_once a b r s (inl e) (inr (inr f)) h = let k = rw (e, f) at h in cc
colon_once a b r s (inr (inl e)) (inl f) h = let k = rw (e, f) at h in cc
colon_once a b r s (inr (inl e)) (inr (inl f)) h = let k = rw (e, f) at h in cc
colon_once a b r s (inr (inl e)) (inr (inr f)) h = let k = rw (e, f) at h in cc
colon_once a b r s (inr (inr e)) (inl f) h = let k = rw (e, f) at h in cc
colon_once a b r s (inr (inr e)) (inr (inl f)) h = let k = rw (e, f) at h in cc
colon_once a b r s (inr (inr e)) (inr (inr f)) h = let k = rw (e, f) at h in cc

-- ---- what stands behind a front

pub behind_value : (s p : List ℕ) (r : Option (Bor (List ℕ))) → MatchOption r ((rest : List ℕ) → s ≢ p ++ rest) (λ x. s ≡ p ++ x.now) → IfSome r (λ x. s ≡ p ++ x.now)
behind_value s p None m = tt
behind_value s p (Some x) m = m

pub behind_only : (s p : List ℕ) (r : Option (Bor (List ℕ))) → MatchOption r ((rest : List ℕ) → s ≢ p ++ rest) (λ x. s ≡ p ++ x.now)
    → (rest : List ℕ) → s ≡ p ++ rest → IsSomeAnd r (λ x. x.now ≡ rest)
behind_only s p None m rest e = m rest e
behind_only s p (Some x) m rest e = append_cancel_left p x.now rest (sym m ∙ e)

pub escaped_value : (text : List ℕ) (r : Option (Bor (List ℕ))) → IfSome r (λ x. text ≡ codes "%3a" ++ x.now) → IfSome r (λ x. (colon : List ℕ) × IsColon colon × (text ≡ colon ++ x.now))
escaped_value text None h = tt
escaped_value text (Some x) h = (codes "%3a", inr (inr refl), h)

-- ---- whether a text is empty

length_zero : (s : List ℕ) → length s ≡ 0 → s ≡ []
length_zero [] e = refl
length_zero (c ∷ s) e = absurd (omega arith)

pub empty_true : (s : List ℕ) (b : Bool) → b ≡ (length s == 0) → b ≡ true → s ≡ []
empty_true s b is so =
    let k = sym is ∙ so in
    elim (eqb_tells (length s) 0) [ inl h ↦ length_zero s h.1 | inr h ↦ (let other = h.0 in cc) ]

pub empty_false : (s : List ℕ) (b : Bool) → b ≡ (length s == 0) → b ≡ false → s ≢ []
empty_false s b is so e =
    let k = sym is ∙ so in
    elim (eqb_tells (length s) 0) [ inl h ↦ (let other = h.0 in cc) | inr h ↦ h.1 (ap length e) ]

-- ---- answers

pub some_pair : {A B : Type 0} {a c : A} {b d : B} → a ≡ c → b ≡ d → ◌≡◌ {A = Option (A × B)} (Some (a, b)) (Some (c, d))
some_pair e f = λ i. Some (e i, f i)

pub pair_is : {A B : Type 0} (a c : A) (b d : B) → ◌≡◌ {A = Option (A × B)} (Some (a, b)) (Some (c, d)) → (a ≡ c) × (b ≡ d)
pair_is {A} {B} a c b d e = (ap (λ (o : Option (A × B)). let r : A × B = unwrap_or o (a, b) in r.0) e, ap (λ (o : Option (A × B)). let r : A × B = unwrap_or o (a, b) in r.1) e)

pub same_in_some : {A : Type 0} {a b : A} → ◌≡◌ {A = Option A} (Some a) (Some b) → a ≡ b
same_in_some {A} {a} {b} e = ap (λ o. unwrap_or o a) e

pub ids_are : (ids : Ids) (trace span : ℕ) (parent : Option ℕ) → trace ≡ ids.trace → span ≡ ids.span → parent ≡ ids.parent
    → ◌≡◌ {A = Ids} (record { trace = trace; span = span; parent = parent }) ids
ids_are ids trace span parent e f g = λ i. record { trace = e i; span = f i; parent = g i }

pub spelled_same : (rule : IdRule) (full : ℕ) (text other : List ℕ) (id : ℕ) → text ≡ other → SpellsInHex rule full other id → SpellsInHex rule full text id
spelled_same rule full text other id e h = subst (λ x. SpellsInHex rule full x id) (sym e) h
