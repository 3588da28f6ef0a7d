-- `Tag` (jaeger.thrift): key 1, a text, vType 2, an enum of 0 to 4; both are required. vStr 3, a text, vDouble 4, vBool 5, vLong 6 and
-- vBinary 7: the value is the one that vType names, or zero or empty where it is absent.
use Rattle.std.specs.Prelude.{◌≡◌, ℕ, ℤ, pos, Bool, false, List, [], ◌∷◌}
use Rattle.span_io.specs.Offences.{Rules}
use Rattle.span_io.specs.Tables.{Row, rules_by, Singular, MeansText}
use Rattle.thrift_core.specs.Trees.{Fields}
use Rattle.thrift_core.specs.FieldValues.{values_of, truth_in, i32_in, i64_in, double_in, binary_in}
use Rattle.jaeger_model.specs.declared.tag.Tag.{Tag}
use Rattle.jaeger_model.specs.declared.reading.tag.TagType.{TagType}
use Rattle.jaeger_model.specs.declared.reading.tag.TagType.TheVariants as types
use Rattle.jaeger_model.specs.declared.tag.TagValue.{TagValue}
use Rattle.jaeger_model.specs.declared.tag.TagValue.TheVariants as values
use Rattle.jaeger_model.specs.Rows.{required, or_else, text_of_id, enum_of_id, double, truth, number, bytes, Missing}
use Rattle.thrift_core.specs.Messages.{FieldItem}
use Rattle.jaeger_model.specs.Meanings.{Required, Means}

-- `TagType`, in the order of its numbers
abbrev pub type_of : TagValue → ℕ
type_of (values.Text text) = 0
type_of (values.Eight bytes) = 1
type_of (values.Truth truth) = 2
type_of (values.Number number) = 3
type_of (values.Bytes bytes) = 4

-- the eight bytes of the double 0, for a vDouble that is absent
abbrev pub no_double : List ℕ
no_double = 0 ∷ 0 ∷ 0 ∷ 0 ∷ 0 ∷ 0 ∷ 0 ∷ 0 ∷ []

-- the values that the fields hold, of which vType names one
pub record HeldByTag : Type 0 where
  pub text : List ℕ
  pub double : List ℕ
  pub truth : Bool
  pub number : ℤ
  pub bytes : List ℕ

-- the value is the one that the field of its own type holds, whatever the other fields hold
abbrev pub IsNamed : TagValue → HeldByTag → Type 0
IsNamed (values.Text text) held = text ≡ held.text
IsNamed (values.Eight bytes) held = bytes ≡ held.double
IsNamed (values.Truth truth) held = truth ≡ held.truth
IsNamed (values.Number number) held = number ≡ held.number
IsNamed (values.Bytes bytes) held = bytes ≡ held.bytes

-- the fields, in any order, are those of this tag
pub record IsTag (tag : Tag) (fields : Fields) : Type 0 where
  pub key : Required MeansText (values_of binary_in 1 fields) tag.key
  pub kind : Required (λ n k. n ≡ pos k) (values_of i32_in 2 fields) (type_of tag.value)
  pub held : HeldByTag
  pub text : Singular MeansText (λ t. t ≡ []) (values_of binary_in 3 fields) held.text
  pub double : Singular Means (λ d. d ≡ no_double) (values_of double_in 4 fields) held.double
  pub truth : Singular Means (λ b. b ≡ false) (values_of truth_in 5 fields) held.truth
  pub number : Singular Means (λ n. n ≡ pos 0) (values_of i64_in 6 fields) held.number
  pub bytes : Singular Means (λ b. b ≡ []) (values_of binary_in 7 fields) held.bytes
  pub value : IsNamed tag.value held

-- ---- its table

-- the number of a type
abbrev pub tag_type_number : TagType → ℕ
tag_type_number types.Text = 0
tag_type_number types.Double = 1
tag_type_number types.Truth = 2
tag_type_number types.Long = 3
tag_type_number types.Bytes = 4

-- the fields that a tag must have: key 1 and vType 2
abbrev pub tag_required : List (Row FieldItem)
tag_required = text_of_id 1 required ∷ enum_of_id 2 4 TagType tag_type_number required ∷ []

-- key 1 and vType 2, required, and vStr 3, vDouble 4, vBool 5, vLong 6 and vBinary 7, each zero, false or empty where absent
abbrev pub tag_table : List (Row FieldItem)
tag_table =
    text_of_id 1 required
    ∷ enum_of_id 2 4 TagType tag_type_number required
    ∷ text_of_id 3 (or_else [])
    ∷ double 4 (or_else no_double)
    ∷ truth 5 (or_else false)
    ∷ number 6 (or_else (pos 0))
    ∷ bytes 7 (or_else [])
    ∷ []

-- Missing: there is no key, or no vType. The field that vType names may be absent
abbrev pub tag_ends : List FieldItem → ℕ → Type 0
tag_ends seen number = Missing tag_required seen number

-- what offends in a `Tag`: in a field by the table, and at the end where a required field is missing
abbrev pub tag_rules : Rules FieldItem
tag_rules = rules_by tag_table tag_ends
