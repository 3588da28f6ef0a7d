-- How the pairs of a list are gathered, from the last one on, where they stand by falling key.
--     key_above pair other            its key comes behind the other's
--     ends_with names key             the last name is the key
--     kept_with, repeated_with        the pairs that are kept and the keys that stand twice, with one pair more
use Rattle.std.specs.Prelude.{ℕ, Bool, false, List, [], ◌∷◌, ◌++◌, if◌then◌else◌}
use Rattle.std.specs.Ordering.{nat_cmp, is_lt}
use Rattle.std.specs.Cmp.Lexicographic.{slice_cmp}
use Rattle.std.specs.Str.{bytes_eq}
use Rattle.trace_model.specs.Attributes.{keys}

-- the last of the names is this key; an empty list has no last
abbrev pub ends_with : List (List ℕ) → List ℕ → Bool
ends_with [] key = false
ends_with (name ∷ []) key = bytes_eq name key
ends_with (name ∷ next ∷ names) key = ends_with (next ∷ names) key

module _ {V : Type 0} where
  -- the first pair's key comes behind the second's in the order of bytes
  abbrev pub key_above : List ℕ × V → List ℕ × V → Bool
  key_above pair other = is_lt (slice_cmp nat_cmp other.0 pair.0)

  -- one pair more at the end, unless the last pair that was kept has its key
  abbrev pub kept_with : List (List ℕ × V) → List ℕ × V → List (List ℕ × V)
  kept_with kept pair = if ends_with (keys kept) pair.0 then kept else kept ++ pair ∷ []

  -- the pair's key at the end of the repeated ones, where the last pair that was kept has it, unless it stands there already
  abbrev pub repeated_with : List (List ℕ × V) → List (List ℕ) → List ℕ × V → List (List ℕ)
  repeated_with kept repeated pair = if ends_with (keys kept) pair.0 then
      (if ends_with repeated pair.0 then repeated else repeated ++ pair.0 ∷ []) else repeated
