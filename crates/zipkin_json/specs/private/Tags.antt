-- Members of an object as a list, from which tags are read one by one. Only private clauses name it.
use Rattle.std.specs.Prelude.{◌≡◌, ℕ, List, [], ◌∷◌, ◌++◌, map, Some}
use Rattle.std.specs.Borrow.{Bor}
use Rattle.std.specs.Cmp.Lexicographic.{slice_cmp}
use Rattle.std.specs.List.Sorted.{IsStrictlySortedBy}
use Rattle.std.specs.Ordering.{nat_cmp}
use Rattle.serde_json.specs.Data.{Data, Members, no_members, member}
use Rattle.json_nodes.specs.Lents.{lent_view}
use Rattle.json_nodes.specs.declared.lent.Lent.{Lent}
use Rattle.zipkin_json.specs.Span.{texts_in}

-- the members of these names and values, one behind the other
abbrev pub listed : List (List ℕ × Data) → Members
listed [] = no_members
listed (m ∷ ms) = member m.0 m.1 (listed ms)

-- the names and values of members that are borrowed, in their order
abbrev pub pairs_in : List (Bor (List ℕ) × Lent) → List (List ℕ × Data)
pairs_in named = map (λ m. (m.0.now, lent_view m.1)) named

-- the names of these members rise by their bytes, so none stands twice
abbrev pub NamesRise : List (List ℕ × Data) → Type 0
NamesRise ms = IsStrictlySortedBy (slice_cmp nat_cmp) (map (λ m. m.0) ms)

-- what one more member gives was added
pub record AddsTag (old : List (List ℕ × List ℕ)) (key : List ℕ) (d : Data) (new : List (List ℕ × List ℕ)) : Type 0 where
  pub added : List (List ℕ × List ℕ)
  pub texts : texts_in (member key d no_members) ≡ Some added
  pub grown : new ≡ old ++ added
