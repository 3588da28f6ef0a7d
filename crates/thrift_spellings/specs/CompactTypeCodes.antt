-- The codes of types (Thrift compact protocol, "Struct encoding", "List and set", "Map"). A truth value has two: the head of a field says
-- by its code which one it is; as the type of elements, keys and values both mean a truth value.
use Rattle.std.specs.Prelude.{◌≡◌, ◌↔◌, ◌⊎◌, ℕ, ◌==◌, if◌then◌else◌, Bool, true, false, Option, Some, None}
use Rattle.thrift_core.specs.declared.type_code.TypeCode.{TypeCode}
use Rattle.thrift_core.specs.declared.type_code.TypeCode.TheVariants as kinds

-- the code of a type, in the head of a list, set or map, and of a field unless it holds the truth value false, which has 2
abbrev pub compact_code_of : TypeCode → ℕ
compact_code_of kinds.Truth = 1
compact_code_of kinds.I8 = 3
compact_code_of kinds.I16 = 4
compact_code_of kinds.I32 = 5
compact_code_of kinds.I64 = 6
compact_code_of kinds.Eight = 7
compact_code_of kinds.Binary = 8
compact_code_of kinds.List = 9
compact_code_of kinds.Set = 10
compact_code_of kinds.Map = 11
compact_code_of kinds.Struct = 12

-- the type that has this code
unfoldable pub compact_kind_of_code : ℕ → Option TypeCode
compact_kind_of_code code =
    if code == 1 then Some kinds.Truth
    else (if code == 2 then Some kinds.Truth
    else (if code == 3 then Some kinds.I8
    else (if code == 4 then Some kinds.I16
    else (if code == 5 then Some kinds.I32
    else (if code == 6 then Some kinds.I64
    else (if code == 7 then Some kinds.Eight
    else (if code == 8 then Some kinds.Binary
    else (if code == 9 then Some kinds.List
    else (if code == 10 then Some kinds.Set
    else (if code == 11 then Some kinds.Map
    else (if code == 12 then Some kinds.Struct else None)))))))))))

-- the truth value that the head of a field of this code holds
unfoldable pub held_by_code : ℕ → Option Bool
held_by_code code = if code == 1 then Some true else (if code == 2 then Some false else None)

-- the code of a field that holds this truth value, if it holds one
abbrev pub field_code : TypeCode → Option Bool → ℕ
field_code kind None = compact_code_of kind
field_code kind (Some true) = 1
field_code kind (Some false) = 2

-- A type has its code alone, but a truth value, which has two.
pub record CompactCodes : Type 0 where
  pub one_code : (code : ℕ) (kind : TypeCode)
      → (compact_kind_of_code code ≡ Some kind) ↔ ((code ≡ compact_code_of kind) ⊎ ((code ≡ 2) × (kind ≡ kinds.Truth)))
  pub held_code : (code : ℕ) (held : Bool) → (held_by_code code ≡ Some held) ↔ (code ≡ field_code kinds.Truth (Some held))
