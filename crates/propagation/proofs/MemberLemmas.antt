-- Keys and members of a `tracestate`.
use Rattle.std.proofs.Common.{◌≡◌, ◌≢◌, ℕ, List, [], ◌∷◌, ◌++◌, refl, sym, ap, subst, ◌∙◌, inl, inr, arith}
use Rattle.std.specs.Prelude.{All, Bool, true, false}
use Rattle.std.proofs.lemmas.List.Elements.{All-append, All-cons, All-same, All-weaker}
use Rattle.propagation.specs.Fronts.{BeginsWithout, Leads}
use Rattle.propagation.specs.Tracestate.{IsLowerLetter, IsKeyByte, IsTenantStart, IsWord, IsStateKey}
use Rattle.propagation.proofs.FrontLemmas.{leads_to, leads_all}

pub true_and_false : {b : Bool} → b ≡ true → b ≡ false → ⊥
true_and_false e f = let k = sym e ∙ f in cc

not_at_sign : (c : ℕ) → IsKeyByte c → c ≢ 64
not_at_sign c (inl h) e = omega arith
not_at_sign c (inr (inl h)) e = omega arith
not_at_sign c (inr (inr (inl h))) e = omega arith
not_at_sign c (inr (inr (inr (inl h)))) e = omega arith
not_at_sign c (inr (inr (inr (inr (inl h))))) e = omega arith
not_at_sign c (inr (inr (inr (inr (inr h))))) e = omega arith

not_equals : (c : ℕ) → IsKeyByte c → c ≢ 61
not_equals c (inl h) e = omega arith
not_equals c (inr (inl h)) e = omega arith
not_equals c (inr (inr (inl h))) e = omega arith
not_equals c (inr (inr (inr (inl h)))) e = omega arith
not_equals c (inr (inr (inr (inr (inl h))))) e = omega arith
not_equals c (inr (inr (inr (inr (inr h))))) e = omega arith

pub letter_key : (c : ℕ) → IsLowerLetter c → IsKeyByte c
letter_key c h = inl h

pub tenant_key : (c : ℕ) → IsTenantStart c → IsKeyByte c
tenant_key c (inl h) = inl h
tenant_key c (inr h) = inr (inl h)

pub word_bytes : (First : ℕ → Type 0) → ((c : ℕ) → First c → IsKeyByte c) → (most : ℕ) (text : List ℕ) → IsWord First most text → All IsKeyByte text
word_bytes First first most [] h = absurd h
word_bytes First first most (c ∷ text) h = All-cons IsKeyByte c text (first c h.0) h.1

no_at_sign : (text : List ℕ) → All IsKeyByte text → All (λ c. c ≢ 64) text
no_at_sign text h = All-weaker IsKeyByte (λ c. c ≢ 64) not_at_sign text h

no_equals : (text : List ℕ) → All IsKeyByte text → All (λ c. c ≢ 61) text
no_equals text h = All-weaker IsKeyByte (λ c. c ≢ 61) not_equals text h

differ : ◌≡◌ {A = ℕ} 64 61 → ⊥
differ e = omega arith

-- a key has no "="
pub state_key_plain : (key : List ℕ) → IsStateKey key → All (λ c. c ≢ 61) key
state_key_plain key (inl h) = no_equals key (word_bytes IsLowerLetter letter_key 255 key h)
state_key_plain key (inr (tenant, system, a, b, e)) =
    let front = no_equals tenant (word_bytes IsTenantStart tenant_key 240 tenant a) in
    let back = no_equals system (word_bytes IsLowerLetter letter_key 13 system b) in
    All-same (λ c. c ≢ 61) key (tenant ++ 64 ∷ system) e (All-append (λ c. c ≢ 61) tenant (64 ∷ system) front (All-cons (λ c. c ≢ 61) 64 system differ back))

-- where a text is a key, by what stands before its first "@" and behind it
module _ (key tenant rest : List ℕ) (lead : Leads (λ c. c ≢ 64) key tenant rest) where
  pub key_alone : ((system : List ℕ) → rest ≡ 64 ∷ system → ⊥) → IsStateKey key → IsWord IsLowerLetter 255 key
  key_alone none (inl h) = h
  key_alone none (inr (t, s, a, b, e)) =
      let same = leads_to t (64 ∷ s) lead (no_at_sign t (word_bytes IsTenantStart tenant_key 240 t a)) (λ p. p refl) e in
      absurd (none s same.1)

  pub key_parts : (system : List ℕ) → rest ≡ 64 ∷ system → IsStateKey key → IsWord IsTenantStart 240 tenant × IsWord IsLowerLetter 13 system
  key_parts system is (inl h) =
      let none = leads_all lead (no_at_sign key (word_bytes IsLowerLetter letter_key 255 key h)) in
      let k = sym none.1 ∙ is in
      absurd (let bad : ⊥ = cc in bad)
  key_parts system is (inr (t, s, a, b, e)) =
      let same = leads_to t (64 ∷ s) lead (no_at_sign t (word_bytes IsTenantStart tenant_key 240 t a)) (λ p. p refl) e in
      let k = sym is ∙ same.1 in
      let one : system ≡ s = cc in
      (subst (λ x. IsWord IsTenantStart 240 x) (sym same.0) a, subst (λ x. IsWord IsLowerLetter 13 x) (sym one) b)

  pub key_of : (system : List ℕ) → rest ≡ 64 ∷ system → IsWord IsTenantStart 240 tenant → IsWord IsLowerLetter 13 system → IsStateKey key
  key_of system is a b = inr (tenant, system, a, b, lead.whole ∙ ap (λ r. tenant ++ r) is)

-- what begins a text begins with it
pub begins_front : (Kind : ℕ → Type 0) (inside after rest : List ℕ) → rest ≡ inside ++ after → BeginsWithout Kind rest → BeginsWithout Kind inside
begins_front Kind [] after rest e h = tt
begins_front Kind (c ∷ inside) after rest e h = rw e at h
