-- An object of one member, as a value that holds this member or none.
use Rattle.std.proofs.Common.{◌≡◌, ℕ, List, [], ◌∷◌, ◌++◌, Option, Some, None, true, false, is_some, codes, refl, sym, ap, ◌∙◌}
use Rattle.std.specs.Option.{MatchOption}
use Rattle.std.specs.Ordering.{nat_cmp, match_ordering}
use Rattle.std.specs.declared.cmp.Ordering.{Ordering}
use Rattle.std.specs.declared.cmp.Ordering.TheVariants.{Less, Equal, Greater}
use Rattle.std.specs.Cmp.Lexicographic.{slice_cmp}
use Rattle.std.proofs.lemmas.Map.Lookups.{exact_bytes}
use Rattle.serde_json.specs.Data.{Data, null, boolean, number, string, array, object, Members, no_members, member as has}
use Rattle.serde_json.specs.Find.{as_null, as_object}
use Rattle.json_nodes.specs.Nodes.{put_all}
use Rattle.json_members.specs.Members.{member, unless_null}
use Rattle.otlp_json.specs.Values.{standing, standing_members, string_member, bool_member, int_member, double_member, array_member, kvlist_member, bytes_member}

-- ---- a name that another member has

module _ (name : List ℕ) (d : Data) where
  pub other_absent : (other : List ℕ) → (name ≡ other → ⊥) → member other (object (has name d no_members)) ≡ None
  unfolding member
  other_absent other differs = on (slice_cmp nat_cmp other name) refl
    where
      on : (o : Ordering) → slice_cmp nat_cmp other name ≡ o → unless_null (match_ordering o None (Some d) None) ≡ None
      on Less e = refl
      on Equal e = absurd (differs (sym (exact_bytes other name e)))
      on Greater e = refl

pub null_absent : (name other : List ℕ) → member other (object (has name null no_members)) ≡ None
unfolding member
null_absent name other = on (slice_cmp nat_cmp other name)
  where
    on : (o : Ordering) → unless_null (match_ordering o None (Some null) None) ≡ None
    on Less = refl
    on Equal = refl
    on Greater = refl

-- ---- what one member tells

-- none of the names stands
module _ (d : Data) (text : member (codes "stringValue") d ≡ None) (truth : member (codes "boolValue") d ≡ None)
    (integer : member (codes "intValue") d ≡ None) (double : member (codes "doubleValue") d ≡ None) (list : member (codes "arrayValue") d ≡ None)
    (map : member (codes "kvlistValue") d ≡ None) (bytes : member (codes "bytesValue") d ≡ None) where
  pub none_stands : standing_members d ≡ []
  unfolding standing_members
  none_stands = rw (text, truth, integer, double, list, map, bytes) refl

none_of_null : (name : List ℕ) → standing_members (object (has name null no_members)) ≡ []
none_of_null name = none_stands (object (has name null no_members)) (null_absent name _) (null_absent name _) (null_absent name _) (null_absent name _)
    (null_absent name _) (null_absent name _) (null_absent name _)

pub null_tells : (name : List ℕ) (d : Data) → true ≡ is_some (as_null d) → standing_members (object (has name d no_members)) ≡ []
null_tells name null e = none_of_null name
null_tells name (boolean b) e = cc
null_tells name (number n) e = cc
null_tells name (string s) e = cc
null_tells name (array ds) e = cc
null_tells name (object ms) e = cc

present : (d : Data) → as_null d ≡ None → unless_null (Some d) ≡ Some d
present null e = cc
present (boolean b) e = refl
present (number n) e = refl
present (string s) e = refl
present (array ds) e = refl
present (object ms) e = refl

module _ (d : Data) (there : as_null d ≡ None) where
  pub text_tells : standing_members (object (has (codes "stringValue") d no_members)) ≡ string_member d ∷ []
  unfolding standing_members member
  text_tells = ap (λ (o : Option Data). standing string_member o ++ [] ++ [] ++ [] ++ [] ++ [] ++ []) (present d there)

  pub truth_tells : standing_members (object (has (codes "boolValue") d no_members)) ≡ bool_member d ∷ []
  unfolding standing_members member
  truth_tells = ap (λ (o : Option Data). standing bool_member o ++ [] ++ [] ++ [] ++ [] ++ []) (present d there)

  pub integer_tells : standing_members (object (has (codes "intValue") d no_members)) ≡ int_member d ∷ []
  unfolding standing_members member
  integer_tells = ap (λ (o : Option Data). standing int_member o ++ [] ++ [] ++ [] ++ []) (present d there)

  pub double_tells : standing_members (object (has (codes "doubleValue") d no_members)) ≡ double_member d ∷ []
  unfolding standing_members member
  double_tells = ap (λ (o : Option Data). standing double_member o ++ [] ++ [] ++ []) (present d there)

  pub list_tells : standing_members (object (has (codes "arrayValue") d no_members)) ≡ array_member d ∷ []
  unfolding standing_members member
  list_tells = ap (λ (o : Option Data). standing array_member o ++ [] ++ []) (present d there)

  pub map_tells : standing_members (object (has (codes "kvlistValue") d no_members)) ≡ kvlist_member d ∷ []
  unfolding standing_members member
  map_tells = ap (λ (o : Option Data). standing kvlist_member o ++ []) (present d there)

  pub bytes_tells : standing_members (object (has (codes "bytesValue") d no_members)) ≡ bytes_member d ∷ []
  unfolding standing_members member
  bytes_tells = ap (λ (o : Option Data). standing bytes_member o) (present d there)

-- ---- the value behind its one member

of_object : (d : Data) (ms : Members) → Some ms ≡ as_object d → d ≡ object ms
of_object null ms e = cc
of_object (boolean b) ms e = cc
of_object (number n) ms e = cc
of_object (string s) ms e = cc
of_object (array ds) ms e = cc
of_object (object os) ms e = cc

pub at_none : {A : Type 0} (o : Option A) (P : Type 0) (Q : A → Type 0) → is_some o ≡ false → MatchOption o P Q → P
at_none None P Q none h = h
at_none (Some x) P Q none h = cc

-- the members of an object put by their names, of which one was seen and none is left
pub single : (d : Data) (all : List (List ℕ × Data)) (name : List ℕ) (held : Data) (left : List (List ℕ × Data))
    → Some (put_all all no_members) ≡ as_object d
    → all ≡ (name, held) ∷ left → left ≡ [] → d ≡ object (has name held no_members)
single d all name held left is first none =
    of_object d (put_all all no_members) is ∙ ap (λ ms. object (put_all ms no_members)) (first ∙ ap (λ ms. (name, held) ∷ ms) none)
