-- One more member among others, whose key is a new one or isn't.
use Rattle.std.proofs.Common.{◌≡◌, ◌≢◌, ℕ, ◌+◌, ◌≤◌, List, [], ◌∷◌, ◌++◌, length, get_or, refl, sym, ap, ◌∙◌, inl, inr, arith}
use Rattle.std.specs.Prelude.{Any, Bool, true, false, ◌==◌}
use Rattle.std.proofs.lemmas.Bool.Decides.{eqb_tells}
use Rattle.std.proofs.lemmas.List.{get_or_append_left, get_or_default, get_or_push, length_push}
use Rattle.std.proofs.lemmas.List.Quantifiers.{all_pairs_push}
use Rattle.propagation.specs.Tracestate.{StateMember, AreStateMembers}

module _ (ms : List StateMember) (m : StateMember) where
  pub full_refused : (b : Bool) → b ≡ (length ms == 32) → b ≡ true → ¬ (AreStateMembers (ms ++ m ∷ []))
  full_refused b is holds h =
      let k = sym is ∙ holds in
      let long = length_push ms m in
      elim (eqb_tells (length ms) 32) [ inl e ↦ (let same = e.1 in let few = h.few in omega arith) | inr e ↦ (let other = e.0 in cc) ]

  pub key_refused : (key : List ℕ) → key ≡ m.key → Any (λ x. x.key ≡ key) ms → ¬ (AreStateMembers (ms ++ m ∷ []))
  key_refused key e (k, x, low, is, same) h =
      let long = length_push ms m in
      h.distinct k (length ms) x low (omega arith)
      (ap (λ (a : StateMember). a.key) (get_or_append_left ms (m ∷ []) x k low ∙ is) ∙ same ∙ e ∙ sym (ap (λ (a : StateMember). a.key) (get_or_push ms m x (length ms) refl)))

  room : (b : Bool) → b ≡ (length ms == 32) → b ≡ false → length ms ≤ 32 → length ms + 1 ≤ 32
  room b is fails few =
      let k = sym is ∙ fails in
      elim (eqb_tells (length ms) 32) [ inl e ↦ (let other = e.0 in cc) | inr e ↦ (let differ = e.1 in omega arith) ]

  pub key_added : (b : Bool) (key : List ℕ) → b ≡ (length ms == 32) → b ≡ false → key ≡ m.key → ¬ (Any (λ x. x.key ≡ key) ms) → AreStateMembers ms → AreStateMembers (ms ++ m ∷ [])
  key_added b key is fails e none h =
      let long = length_push ms m in
      let fits = room b is fails h.few in
      record {
        few = omega arith;
        distinct = all_pairs_push (λ a c. a.key ≢ c.key) ms m h.distinct (λ k d low same. none (k, get_or ms k d, low, get_or_default ms k (get_or ms k d) d low, same ∙ sym e));
      }
