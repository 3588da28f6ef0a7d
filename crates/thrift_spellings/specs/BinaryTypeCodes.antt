-- The codes of types (Thrift binary protocol, "Struct").
use Rattle.std.specs.Prelude.{◌≡◌, ◌==◌, ◌↔◌, ℕ, List, [], ◌∷◌, Option, Some, None, if◌then◌else◌}
use Rattle.thrift_core.specs.declared.type_code.TypeCode.{TypeCode}
use Rattle.thrift_core.specs.declared.type_code.TypeCode.TheVariants as kinds

-- the code of a type, in the head of a field, list, set or map
abbrev pub binary_code_of : TypeCode → ℕ
binary_code_of kinds.Truth = 2
binary_code_of kinds.I8 = 3
binary_code_of kinds.Eight = 4
binary_code_of kinds.I16 = 6
binary_code_of kinds.I32 = 8
binary_code_of kinds.I64 = 10
binary_code_of kinds.Binary = 11
binary_code_of kinds.Struct = 12
binary_code_of kinds.Map = 13
binary_code_of kinds.Set = 14
binary_code_of kinds.List = 15

-- all types that are known; that of a UUID isn't
abbrev pub all_kinds : List TypeCode
all_kinds = kinds.Truth ∷ kinds.I8 ∷ kinds.Eight ∷ kinds.I16 ∷ kinds.I32 ∷ kinds.I64 ∷ kinds.Binary ∷
    kinds.Struct ∷ kinds.Map ∷ kinds.Set ∷ kinds.List ∷ []

-- the first of these types that has this code, if one has it
unfoldable pub kind_among : List TypeCode → ℕ → Option TypeCode
kind_among [] code = None
kind_among (kind ∷ more) code = if code == binary_code_of kind then Some kind else kind_among more code

-- the type that has this code
unfoldable pub binary_kind_of_code : ℕ → Option TypeCode
binary_kind_of_code code = kind_among all_kinds code

-- A type has its code alone.
pub record BinaryCodes : Type 0 where
  pub one_code : (code : ℕ) (kind : TypeCode) → (binary_kind_of_code code ≡ Some kind) ↔ (code ≡ binary_code_of kind)
