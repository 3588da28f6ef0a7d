-- Messages one after the other in records of one number: measured and written up to one of them.
use Rattle.std.proofs.Common.{◌≡◌, ℕ, ◌+◌, ◌<◌, List, [], ◌∷◌, ◌++◌, length, take, drop, get_or, refl, sym, ap, subst, ◌∙◌, append_assoc}
use Rattle.std.proofs.lemmas.List.{append-nil, take_more, flat_map_more, take-append-drop}
use Rattle.std.proofs.lemmas.List.Concat.{flat_map-append, flat_map-cons}
use Rattle.span_io.specs.Outside.{GrowsFront}
use Rattle.otlp_proto.specs.Canonical.{bytes_field, list_text}
use Rattle.otlp_proto.proofs.Growth.{joins, grows_first, grows_second}

module _ {A : Type 0} (number : ℕ) (text : A → List ℕ) where
  pub list_none : list_text number text [] ≡ []
  unfolding list_text
  list_none = refl

  pub list_first : (x : A) (xs : List A) → list_text number text (x ∷ xs) ≡ bytes_field number (text x) ++ list_text number text xs
  unfolding list_text
  list_first x xs = flat_map-cons (λ (y : A). bytes_field number (text y)) x xs

  pub list_push : (xs : List A) (i : ℕ) (x : A) → i < length xs → x ≡ get_or xs i x → list_text number text (take (i + 1) xs) ≡ list_text number text (take i xs) ++ bytes_field number (text x)
  unfolding list_text
  list_push xs i x lt is =
      ap (list_text number text) (take_more xs i x lt ∙ ap (λ (y : A). take i xs ++ y ∷ []) (sym is))
      ∙ sym (flat_map_more (λ (y : A). bytes_field number (text y)) [] (take i xs) x)

  pub list_start : (old : List ℕ) (xs : List A) → old ≡ old ++ list_text number text (take 0 xs)
  unfolding list_text
  list_start old xs = sym (append-nil old)

  pub list_more : (old out new : List ℕ) (xs : List A) (i : ℕ) (x : A) → i < length xs → x ≡ get_or xs i x → out ≡ old ++ list_text number text (take i xs) → new ≡ out ++ bytes_field number (text x)
      → new ≡ old ++ list_text number text (take (i + 1) xs)
  list_more old out new xs i x lt is so_far e =
      joins old out new (list_text number text (take i xs)) (bytes_field number (text x)) so_far e ∙ ap (λ (l : List ℕ). old ++ l) (sym (list_push xs i x lt is))

  -- the messages up to one, that one, and the others
  list_parts : (xs : List A) (i : ℕ) (x : A) → i < length xs → x ≡ get_or xs i x
      → list_text number text xs ≡ list_text number text (take i xs) ++ (bytes_field number (text x) ++ list_text number text (drop (i + 1) xs))
  unfolding list_text
  list_parts xs i x lt is =
      ap (list_text number text) (sym (take-append-drop (i + 1) xs))
      ∙ flat_map-append (λ (y : A). bytes_field number (text y)) (take (i + 1) xs) (drop (i + 1) xs)
      ∙ ap (λ (l : List ℕ). l ++ list_text number text (drop (i + 1) xs)) (list_push xs i x lt is)
      ∙ append_assoc (list_text number text (take i xs)) (bytes_field number (text x)) (list_text number text (drop (i + 1) xs))

  pub list_front : (old out new : List ℕ) (xs : List A) (i : ℕ) (x : A) → i < length xs → x ≡ get_or xs i x → out ≡ old ++ list_text number text (take i xs) → GrowsFront out new (bytes_field number (text x))
      → GrowsFront old new (list_text number text xs)
  list_front old out new xs i x lt is so_far h =
      subst (λ (l : List ℕ). GrowsFront old new l) (sym (list_parts xs i x lt is))
      (grows_second old out new (list_text number text (take i xs)) (bytes_field number (text x) ++ list_text number text (drop (i + 1) xs)) so_far
      (grows_first out new (bytes_field number (text x)) (list_text number text (drop (i + 1) xs)) h))
