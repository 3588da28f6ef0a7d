-- The definitions on examples.
use Rattle.std.proofs.Common.{◌≡◌, ◌∷◌, ◌++◌, ◌-◌, pos, [], List, length, replicate, Some, None, true, refl}
use Rattle.thrift_core.specs.declared.type_code.TypeCode.TheVariants as kinds
use Rattle.thrift_core.specs.declared.stack.Level.TheVariants as levels
use Rattle.thrift_core.specs.Places.{open_level, levels_on, stack_of}
use Rattle.thrift_core.specs.Trees.{outer_levels}
use Rattle.thrift_core.specs.Walks.{Open, outer_struct, in_struct, in_value, in_elements, in_pairs}

-- ---- what is open where a scan stands

before_a_struct : stack_of (levels.Fields (pos 0)) [] ≡ outer_struct ∷ []
unfolding levels_on
before_a_struct = refl

-- field 5 of the outer struct is a list of structs, of which two are to come behind this one, whose field 1 is a list of numbers, of
-- which four are to come
inside_a_list : stack_of (levels.Elements kinds.I32 4) (levels.Fields (pos 5) ∷ levels.Elements kinds.Struct 2 ∷ levels.Fields (pos 1) ∷ [])
    ≡ in_elements 28 kinds.I32 4 ∷ in_struct 29 (pos 1) ∷ in_elements 30 kinds.Struct 2 ∷ in_struct 31 (pos 5) ∷ []
unfolding levels_on
inside_a_list = refl

-- a value of a field, whose head held it, in the struct that is a map's value; the map goes on with a key
inside_a_map : stack_of (levels.Field (pos 3) kinds.Truth (Some true)) (levels.Fields (pos 2) ∷ levels.Pairs kinds.Binary kinds.Struct 6 ∷ [])
    ≡ in_value 29 kinds.Truth (Some true) ∷ in_struct 29 (pos 3) ∷ in_pairs 30 kinds.Binary kinds.Struct 6 ∷ in_struct 31 (pos 2) ∷ []
unfolding levels_on
inside_a_map = refl

-- behind a key that is a list its value is to come, and then pairs
behind_a_key : stack_of (levels.Elements kinds.I8 1) (levels.Fields (pos 2) ∷ levels.PairValue kinds.List kinds.I64 3 ∷ [])
    ≡ in_elements 29 kinds.I8 1 ∷ in_value 30 kinds.I64 None ∷ in_pairs 30 kinds.List kinds.I64 3 ∷ in_struct 31 (pos 2) ∷ []
unfolding levels_on
behind_a_key = refl

-- in a container in 31 others no level is left
deepest : (under : List Open) → open_level (outer_levels - length (replicate 31 (levels.Elements kinds.Set 0))) (levels.Fields (pos 0)) ++ under ≡ in_struct 0 (pos 0) ∷ under
deepest under = refl
