-- The attributes of a list of pairs: each key with its last value, in the order of the keys' bytes.
--     Rise keys              each key is below those after it, byte by byte
--     IsLast pair pairs      it is the last pair of its key
--     StandsTwice key pairs  the key stands at two places or more
--     AreKeysInOrder keys all         the keys are those of all, each once, in their order
--     AreAttributes, AreRepeated      what a list of pairs makes
--     attrs pairs            the attributes as a function of the pairs
--     at key pairs           the value of the first pair of the key
use Rattle.std.specs.Prelude.{◌≡◌, ◌≢◌, ◌↔◌, ℕ, List, [], ◌∷◌, ◌++◌, map, All, Contains, Option}
use Rattle.std.specs.Ordering.{nat_cmp}
use Rattle.std.specs.declared.cmp.Ordering.{Ordering}
use Rattle.std.specs.declared.cmp.Ordering.TheVariants.{Less, Equal, Greater}
use Rattle.std.specs.Cmp.Lexicographic.{slice_cmp}
use Rattle.std.specs.List.Sorted.{IsStrictlySortedBy}
use Rattle.std.specs.Map.{lookup}
use Rattle.std.specs.Str.{bytes_eq}

-- each key is below those after it, byte by byte
abbrev pub Rise : List (List ℕ) → Type 0
Rise keys = IsStrictlySortedBy (slice_cmp nat_cmp) keys

-- one of three, by how a comparison came out: less, equal or greater
abbrev pub by_order : {A : Type 0} → Ordering → A → A → A → A
by_order Less less equal greater = less
by_order Equal less equal greater = equal
by_order Greater less equal greater = greater

-- each of these keys once, in their order
pub record AreKeysInOrder (keys all : List (List ℕ)) : Type 0 where
  pub rising : Rise keys
  pub same : (key : List ℕ) → Contains keys key ↔ Contains all key

module _ {V : Type 0} where
  -- the keys of the pairs, one for each pair, in the order of the pairs
  abbrev pub keys : List (List ℕ × V) → List (List ℕ)
  keys pairs = map (λ pair. pair.0) pairs

  -- no pair of its key stands behind it
  pub record IsLast (pair : List ℕ × V) (pairs : List (List ℕ × V)) : Type 0 where
    pub before : List (List ℕ × V)
    pub behind : List (List ℕ × V)
    pub split : pairs ≡ before ++ pair ∷ behind
    pub last : All (λ other. other.0 ≢ pair.0) behind

  -- the key stands in two of the pairs at least
  pub record StandsTwice (key : List ℕ) (pairs : List (List ℕ × V)) : Type 0 where
    pub before : List (List ℕ × V)
    pub one : V
    pub between : List (List ℕ × V)
    pub other : V
    pub behind : List (List ℕ × V)
    pub split : pairs ≡ before ++ (key, one) ∷ (between ++ (key, other) ∷ behind)

  -- the last pair of each key, in the order of the keys
  pub record AreAttributes (attributes pairs : List (List ℕ × V)) : Type 0 where
    pub rising : Rise (keys attributes)
    pub last : (pair : List ℕ × V) → Contains attributes pair ↔ IsLast pair pairs

  -- the keys that stand more than once, in their order
  pub record AreRepeated (repeated : List (List ℕ)) (pairs : List (List ℕ × V)) : Type 0 where
    pub rising : Rise repeated
    pub twice : (key : List ℕ) → Contains repeated key ↔ StandsTwice key pairs

  -- one pair more in its place, unless its key stands already
  abbrev pub placed : List ℕ × V → List (List ℕ × V) → List (List ℕ × V)
  placed pair [] = pair ∷ []
  placed pair (other ∷ others) =
      by_order (slice_cmp nat_cmp pair.0 other.0) (pair ∷ other ∷ others) (other ∷ others) (other ∷ placed pair others)

  -- each key with its last value, in the order of the keys
  abbrev pub attrs : List (List ℕ × V) → List (List ℕ × V)
  attrs [] = []
  attrs (pair ∷ pairs) = placed pair (attrs pairs)

  -- the value of the first pair of this key, if there is one
  abbrev pub at : List ℕ → List (List ℕ × V) → Option V
  at key pairs = lookup (bytes_eq key) pairs
