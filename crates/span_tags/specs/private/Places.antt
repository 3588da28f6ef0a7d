-- Where a pair is put in among attributes.
--     IsPlaceOf key pairs place     where a pair of the key is put in among rising ones; nowhere, where one has the key
use Rattle.std.specs.Prelude.{◌≡◌, ◌≤◌, ℕ, List, ◌∷◌, ◌++◌, length, take, drop, Option, Some, None}
use Rattle.trace_model.specs.Attributes.{placed}
use Rattle.trace_model.specs.declared.value.Value.{Value}
use Rattle.span_tags.specs.TagWords.{Pairs}

-- a pair of the key is put in behind so many of these rising pairs; no place is told where a pair of the key stands already
abbrev pub IsPlaceOf : List ℕ → Pairs → Option ℕ → Type 0
IsPlaceOf key pairs None = (value : Value) → placed (key, value) pairs ≡ pairs
IsPlaceOf key pairs (Some i) =
    (i ≤ length pairs) × ((value : Value) → placed (key, value) pairs ≡ take i pairs ++ (key, value) ∷ drop i pairs)
