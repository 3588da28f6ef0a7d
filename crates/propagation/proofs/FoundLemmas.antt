-- The values of the headers of one name, header by header.
use Rattle.std.proofs.Common.{◌≡◌, ◌↔◌, ℕ, List, [], ◌∷◌, ◌++◌, refl, sym, ap, subst, ◌∙◌}
use Rattle.std.specs.Prelude.{Bool, true, false, cond, map, filter, IsTrue, nat_eq}
use Rattle.std.specs.Char.{to_ascii_lowercase, eq_ignore_ascii_case}
use Rattle.std.specs.Cmp.Lexicographic.{pointwise, same_text, other_text}
use Rattle.std.specs.Cmp.Derive.Mapped.{pointwise-map}
use Rattle.std.proofs.lemmas.List.{append-nil, map-append}
use Rattle.std.proofs.lemmas.List.Elements.{filter-append}
use Rattle.propagation.specs.Blocks.{Header}
use Rattle.std.specs.Borrow.{Bor}
use Rattle.propagation.specs.private.FoundHeaders.{HoldsOnce}
use Rattle.propagation.specs.Heads.{is_named, header_values}
use Rattle.propagation.specs.declared.found.Once.{Once}
use Rattle.propagation.specs.declared.found.Once.TheVariants.{At, Twice}

-- ---- names

same_test : (p : Bool) (xs ys : List ℕ) → p ≡ pointwise nat_eq xs ys → (b : Bool) → (IsTrue b ↔ (xs ≡ ys)) → b ≡ p
same_test true xs ys e true h = refl
same_test true xs ys e false h = let k = h.1 (same_text xs ys e) in cc
same_test false xs ys e true h = absurd (other_text xs ys e (h.0 refl))
same_test false xs ys e false h = refl

pub named_is : (wanted name value : List ℕ) (b : Bool) → (IsTrue b ↔ (map to_ascii_lowercase name ≡ map to_ascii_lowercase wanted)) → b ≡ is_named wanted (record { name = name; value = value })
named_is wanted name value b h =
    same_test (pointwise eq_ignore_ascii_case name wanted) (map to_ascii_lowercase name) (map to_ascii_lowercase wanted) (sym (pointwise-map to_ascii_lowercase nat_eq name wanted)) b h

-- ---- values

value_if : Bool → List ℕ → List (List ℕ)
value_if named value = cond named (value ∷ []) []

one_value : (wanted : List ℕ) (h : Header) (named : Bool) → is_named wanted h ≡ named → header_values wanted (h ∷ []) ≡ value_if named h.value
unfolding value_if
one_value wanted h true e = rw e refl
one_value wanted h false e = rw e refl

pub more_values : (wanted : List ℕ) (headers more : List Header) → header_values wanted (headers ++ more) ≡ header_values wanted headers ++ header_values wanted more
more_values wanted headers more = ap (map (λ h. h.value)) (filter-append (is_named wanted) headers more) ∙ map-append (λ h. h.value) (filter (is_named wanted) headers) (filter (is_named wanted) more)

pub named_one : (wanted name value : List ℕ) → true ≡ is_named wanted (record { name = name; value = value }) → header_values wanted ((record { name = name; value = value }) ∷ []) ≡ value ∷ []
unfolding value_if
named_one wanted name value e = one_value wanted (record { name = name; value = value }) true (sym e)

pub other_one : (wanted name value : List ℕ) → false ≡ is_named wanted (record { name = name; value = value }) → header_values wanted ((record { name = name; value = value }) ∷ []) ≡ []
unfolding value_if
other_one wanted name value e = one_value wanted (record { name = name; value = value }) false (sym e)

pub named_more : (wanted name value : List ℕ) (headers : List Header) → true ≡ is_named wanted (record { name = name; value = value })
    → header_values wanted (headers ++ (record { name = name; value = value }) ∷ []) ≡ header_values wanted headers ++ value ∷ []
unfolding value_if
named_more wanted name value headers e =
    let h : Header = record { name = name; value = value } in
    more_values wanted headers (h ∷ []) ∙ ap (λ s. header_values wanted headers ++ s) (one_value wanted h true (sym e))

pub other_more : (wanted name value : List ℕ) (headers : List Header) → false ≡ is_named wanted (record { name = name; value = value })
    → header_values wanted (headers ++ (record { name = name; value = value }) ∷ []) ≡ header_values wanted headers
unfolding value_if
other_more wanted name value headers e =
    let h : Header = record { name = name; value = value } in
    more_values wanted headers (h ∷ []) ∙ ap (λ s. header_values wanted headers ++ s) (one_value wanted h false (sym e)) ∙ append-nil (header_values wanted headers)

pub one_more : (once : Once) (value : Bor (List ℕ)) (values : List (List ℕ)) (more : List ℕ) → once ≡ At value → HoldsOnce once values → HoldsOnce Twice (values ++ more ∷ [])
one_more once value values more is held = let one = subst (λ o. HoldsOnce o values) is held in (value.now, more, [], ap (λ s. s ++ more ∷ []) one)

pub twice_more : (once : Once) (values : List (List ℕ)) (more : List ℕ) → once ≡ Twice → HoldsOnce once values → HoldsOnce Twice (values ++ more ∷ [])
twice_more once values more is held = let two = subst (λ o. HoldsOnce o values) is held in (two.0, two.1, two.2 ++ more ∷ [], ap (λ s. s ++ more ∷ []) two.3)
