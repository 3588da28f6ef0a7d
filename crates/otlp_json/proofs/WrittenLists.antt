-- Lists of parts as they are written: each element is read as its part, with nothing noted.
use Rattle.std.proofs.Common.{◌≡◌, List, [], ◌∷◌, map, All, Bool, true, false, is_some, refl, codes}
use Rattle.std.specs.List.{AllZip, list_any}
use Rattle.std.proofs.lemmas.Bool.{or_parts}
use Rattle.std.proofs.lemmas.List.Elements.{All-nil, All-cons, All-head, All-tail}
use Rattle.serde_json.specs.Data.{Data, Items, no_items, item}
use Rattle.serde_json.specs.Find.{as_object}
use Rattle.serde_json.specs.View.{items_of}
use Rattle.span_io.specs.Paths.{Given}
use Rattle.json_members.specs.Members.{unless_null, member, elements, AreHeld}
use Rattle.otlp_json.specs.Canonical.{list_data, of_values}

module _ {X Y : Type 0} (Is : Y → Data → Type 0) (data_of : X → Data) (quiet : X → Y) where
  -- a part is read back as itself
  abbrev pub ReadBack : X → Type 0
  ReadBack x = Is (quiet x) (data_of x)

  pub each_again : (xs : List X) → All ReadBack xs → AllZip (λ d y. Is y d) (elements (items_of (map data_of xs))) (map quiet xs)
  each_again [] h = tt
  each_again (x ∷ xs) h = (All-head ReadBack x xs h, each_again xs (All-tail ReadBack x xs h))

  -- the elements of a list
  pub list_again : (xs : List X) → All ReadBack xs → Given (AreHeld Is) (λ ys. ys ≡ []) (map quiet xs) (unless_null (list_data data_of xs))
  list_again [] h = refl
  list_again (x ∷ xs) h = record { held = _; shape = refl; means = each_again (x ∷ xs) h }

  -- the `values` of a list or map
  pub values_again : (xs : List X) → All ReadBack xs → Given (AreHeld Is) (λ ys. ys ≡ []) (map quiet xs) (member (codes "values") (of_values (items_of (map data_of xs))))
  unfolding member
  values_again [] h = refl
  values_again (x ∷ xs) h = record { held = _; shape = refl; means = each_again (x ∷ xs) h }

pub values_shape : (ds : Items) → is_some (as_object (of_values ds)) ≡ true
values_shape no_items = refl
values_shape (item d ds) = refl

-- where no element passes a test, each fails it
pub none_passes : {X : Type 0} (p : X → Bool) (xs : List X) → list_any p xs ≡ false → All (λ x. p x ≡ false) xs
none_passes p [] h = All-nil (λ x. p x ≡ false)
none_passes p (x ∷ xs) h = let none = or_parts (p x) _ h in All-cons (λ y. p y ≡ false) x xs none.0 (none_passes p xs none.1)
