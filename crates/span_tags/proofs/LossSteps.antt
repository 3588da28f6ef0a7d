-- Losses of lists that are added one member after the other: those so far, and behind them those of the members that are left, are those of
-- the whole list.
--     left_more                  some more were added
--     member_more, scope_more    those of one member more, and of one scope more
use Rattle.std.proofs.Common.{◌≡◌, ℕ, suc, ◌+◌, ◌<◌, Bool, List, ◌∷◌, ◌++◌, length, get_or, drop, drop-cons, Option, sym, ap, ◌∙◌, append_assoc, add-one, arith}
use Rattle.trace_model.specs.declared.loss.Loss.{Loss}
use Rattle.trace_model.specs.declared.place.Place.TheVariants as places
use Rattle.trace_model.specs.declared.span.Span.{Span}
use Rattle.trace_model.specs.declared.group.Scope.{Scope}
use Rattle.span_tags.specs.Losses.{losses_of, Names, joins, names_behind, scope_losses, scopes_losses}

pub left_more : (whole old new part more before : List Loss) → before ≡ part ++ more → new ≡ old ++ part → old ++ before ≡ whole → new ++ more ≡ whole
left_more whole old new part more before split added so_far =
    ap (λ l. l ++ more) added ∙ append_assoc old part more ∙ ap (λ l. old ++ l) (sym split) ∙ so_far

split_at : {A : Type 0} (i : ℕ) (x : A) (xs : List A) → i < length xs → x ≡ get_or xs i x → drop i xs ≡ x ∷ drop (suc i) xs
split_at i x xs low is = drop-cons xs i x low ∙ ap (λ y. y ∷ drop (suc i) xs) (sym is)

pub member_more : {A : Type 0} (losses : ℕ → A → List Loss) (whole old new : List Loss) (n i : ℕ) (x : A) (xs : List A) → i < length xs → x ≡ get_or xs i x
    → new ≡ old ++ losses n x → old ++ losses_of losses n (drop i xs) ≡ whole → new ++ losses_of losses (n + 1) (drop (i + 1) xs) ≡ whole
member_more losses whole old new n i x xs low is added so_far =
    (λ k. new ++ losses_of losses (add-one n k) (drop (add-one i k) xs))
    ∙ left_more whole old new (losses n x) (losses_of losses (suc n) (drop (suc i) xs)) (losses_of losses n (drop i xs))
    (ap (losses_of losses n) (split_at i x xs low is)) added so_far

-- ---- scopes

pub scope_more : (span_losses : ℕ → Span → List Loss) (whole old mid new : List Loss) (i spans : ℕ) (before behind : Option Names) (joined : Bool)
    (scope : Scope) (scopes : List Scope) → i < length scopes → scope ≡ get_or scopes i scope → joined ≡ joins before scope → behind ≡ names_behind before scope
    → mid ≡ old ++ scope_losses (places.Scope (i + 1)) joined scope → new ≡ mid ++ losses_of span_losses (spans + 1) scope.spans
    → old ++ scopes_losses span_losses (i + 1) (spans + 1) before (drop i scopes) ≡ whole
    → new ++ scopes_losses span_losses ((i + 1) + 1) ((spans + length scope.spans) + 1) behind (drop (i + 1) scopes) ≡ whole
scope_more span_losses whole old mid new i spans before behind joined scope scopes low is joined_is behind_is own others so_far =
    ap (λ l. new ++ l) next ∙ left_more whole old new (first ++ second) rest (left (i + 1) (spans + 1) before (drop i scopes))
    (ap (left (i + 1) (spans + 1) before) (split_at i scope scopes low is) ∙ sym (append_assoc first second rest))
    (others ∙ ap (λ l. l ++ second) (own ∙ ap (λ b. old ++ scope_losses (places.Scope (i + 1)) b scope) joined_is) ∙ append_assoc old first second) so_far
  where
    left : ℕ → ℕ → Option Names → List Scope → List Loss
    left = scopes_losses span_losses

    first : List Loss
    first = scope_losses (places.Scope (i + 1)) (joins before scope) scope

    second : List Loss
    second = losses_of span_losses (spans + 1) scope.spans

    rest : List Loss
    rest = left (suc (i + 1)) ((spans + 1) + length scope.spans) (names_behind before scope) (drop (suc i) scopes)

    counts : (spans + length scope.spans) + 1 ≡ (spans + 1) + length scope.spans
    counts = omega arith

    next : left ((i + 1) + 1) ((spans + length scope.spans) + 1) behind (drop (i + 1) scopes) ≡ rest
    next = λ k. left (add-one (i + 1) k) (counts k) (behind_is k) (drop (add-one i k) scopes)
