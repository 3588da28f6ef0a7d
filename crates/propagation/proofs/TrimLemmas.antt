-- A text is trimmed in one way.
use Rattle.std.proofs.Common.{◌≡◌, ℕ, List, [], ◌∷◌, ◌++◌, length, reverse, refl, sym, ap, subst, ◌∙◌}
use Rattle.std.specs.Prelude.{All}
use Rattle.std.proofs.lemmas.List.{drop_at, reverse-append, reverse-reverse}
use Rattle.std.proofs.lemmas.List.Elements.{All-append, All-drop, All-head, All-push, All-same, All-tail}
use Rattle.propagation.specs.Fronts.{Leads}
use Rattle.propagation.specs.Tracestate.{IsBlank}
use Rattle.propagation.specs.private.Trimming.{Trims}
use Rattle.propagation.proofs.FrontLemmas.{leads_to}

pub all_reverse : (P : ℕ → Type 0) (xs : List ℕ) → All P xs → All P (reverse xs)
all_reverse P [] h = h
all_reverse P (x ∷ xs) h =
    All-same P (reverse (x ∷ xs)) (reverse xs ++ x ∷ []) (reverse-append (x ∷ []) xs)
    (All-push P (reverse xs) x (all_reverse P xs (All-tail P x xs h)) (All-head P x xs h))

pub all_back : (P : ℕ → Type 0) (xs ys : List ℕ) → All P (xs ++ ys) → All P ys
all_back P xs ys h = subst (λ l. All P l) (drop_at xs ys (length xs) refl) (All-drop P (length xs) (xs ++ ys) h)

blank_text : (text : List ℕ) → Trims text [] → All IsBlank text
blank_text text s = All-same IsBlank text (s.before ++ ([] ++ s.after)) s.whole (All-append IsBlank s.before s.after s.blank_before s.blank_after)

first_blank : (text : List ℕ) (c : ℕ) (inside : List ℕ) → Trims text (c ∷ inside) → All IsBlank text → IsBlank c
first_blank text c inside s h =
    let whole = All-same IsBlank (s.before ++ ((c ∷ inside) ++ s.after)) text (sym s.whole) h in
    All-head IsBlank c (inside ++ s.after) (all_back IsBlank s.before (c ∷ (inside ++ s.after)) whole)

trimmed_same : (text a b : List ℕ) → Trims text a → Trims text b → a ≡ b
trimmed_same text [] [] s t = refl
trimmed_same text [] (y ∷ b) s t = absurd (t.begins (first_blank text y b t (blank_text text s)))
trimmed_same text (x ∷ a) [] s t = absurd (s.begins (first_blank text x a s (blank_text text t)))
trimmed_same text (x ∷ a) (y ∷ b) s t =
    let lead : Leads IsBlank text s.before ((x ∷ a) ++ s.after) = record { whole = s.whole; kind = s.blank_before; ended = s.begins } in
    let same = leads_to t.before ((y ∷ b) ++ t.after) lead t.blank_before t.begins t.whole in
    let turned : reverse ((x ∷ a) ++ s.after) ≡ reverse t.after ++ reverse (y ∷ b) = ap reverse same.1 ∙ reverse-append (y ∷ b) t.after in
    let back : Leads IsBlank (reverse ((x ∷ a) ++ s.after)) (reverse s.after) (reverse (x ∷ a)) =
    record { whole = reverse-append (x ∷ a) s.after; kind = all_reverse IsBlank s.after s.blank_after; ended = s.ends } in
    let ends = leads_to (reverse t.after) (reverse (y ∷ b)) back (all_reverse IsBlank t.after t.blank_after) t.ends turned in
    sym (reverse-reverse (x ∷ a)) ∙ ap reverse ends.1 ∙ reverse-reverse (y ∷ b)

pub trims_once : {text a b : List ℕ} → Trims text a → Trims text b → a ≡ b
trims_once {text} {a} {b} s t = trimmed_same text a b s t
