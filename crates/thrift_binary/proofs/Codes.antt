-- The code of a type, and the type of a code.
use Rattle.std.proofs.Common.{◌≡◌, ◌↔◌, ◌∷◌, ℕ, List, [], Bool, true, false, cond, Option, Some, refl, ap, ◌∙◌, eqb}
use Rattle.std.proofs.lemmas.Bool.{eqb-true}
use Rattle.thrift_core.specs.declared.type_code.TypeCode.{TypeCode}
use Rattle.thrift_spellings.specs.BinaryTypeCodes.{binary_code_of, kind_among, binary_kind_of_code, all_kinds}
use Rattle.thrift_spellings.proofs.BinaryLaws.{binary_code_known}

found_by : (first kind : TypeCode) (more : Option TypeCode) (code : ℕ) (b : Bool) → eqb code (binary_code_of first) ≡ b → (more ≡ Some kind → code ≡ binary_code_of kind) → cond b (Some first) more ≡ Some kind → code ≡ binary_code_of kind
found_by first kind more code true same later e = (let is : first ≡ kind = cc in eqb-true code (binary_code_of first) same ∙ ap binary_code_of is)
found_by first kind more code false same later e = later e

found_among : (kinds : List TypeCode) (code : ℕ) (kind : TypeCode) → kind_among kinds code ≡ Some kind → code ≡ binary_code_of kind
unfolding kind_among
found_among [] code kind e = absurd cc
found_among (first ∷ more) code kind e = found_by first kind (kind_among more code) code (eqb code (binary_code_of first)) refl (λ f. found_among more code kind f) e

pub one_code : (code : ℕ) (kind : TypeCode) → (binary_kind_of_code code ≡ Some kind) ↔ (code ≡ binary_code_of kind)
unfolding binary_kind_of_code
one_code code kind = (λ e. found_among all_kinds code kind e, λ e. ap binary_kind_of_code e ∙ binary_code_known kind)
