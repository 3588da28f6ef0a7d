-- The codes of a type, and the type of a code.
use Rattle.std.proofs.Common.{◌≡◌, ◌↔◌, ◌⊎◌, inl, inr, ℕ, Bool, true, false, Option, Some, None, refl, ap, sym, ◌∙◌, eqb, cond}
use Rattle.std.proofs.lemmas.Bool.{eqb-true}
use Rattle.thrift_core.specs.declared.type_code.TypeCode.{TypeCode}
use Rattle.thrift_core.specs.declared.type_code.TypeCode.TheVariants as kinds
use Rattle.thrift_spellings.proofs.CompactLaws.{compact_code_known}
use Rattle.thrift_spellings.specs.CompactTypeCodes.{compact_code_of, compact_kind_of_code, held_by_code, field_code}

abbrev IsCode : TypeCode → ℕ → Type 0
IsCode kind code = (code ≡ compact_code_of kind) ⊎ ((code ≡ 2) × (kind ≡ kinds.Truth))

-- a row of the table, and those behind it
row : {A : Type 0} (Is : A → ℕ → Type 0) (number code : ℕ) (named word : A) (more : Option A) (b : Bool) → eqb code number ≡ b → Is named number → (more ≡ Some word → Is word code)
    → cond b (Some named) more ≡ Some word → Is word code
row Is number code named word more true same is later e = (let w : named ≡ word = cc in rw (sym w, eqb-true code number same) is)
row Is number code named word more false same is later e = later e

one_row : (number code : ℕ) (named kind : TypeCode) (more : Option TypeCode) → IsCode named number → (more ≡ Some kind → IsCode kind code)
    → cond (eqb code number) (Some named) more ≡ Some kind → IsCode kind code
one_row number code named kind more is later e = row IsCode number code named kind more (eqb code number) refl is later e

code_is : (code : ℕ) (kind : TypeCode) → compact_kind_of_code code ≡ Some kind → IsCode kind code
unfolding compact_kind_of_code
code_is code kind e =
    one_row 1 code kinds.Truth kind _ (inl refl)
    (one_row 2 code kinds.Truth kind _ (inr (refl, refl))
    (one_row 3 code kinds.I8 kind _ (inl refl)
    (one_row 4 code kinds.I16 kind _ (inl refl)
    (one_row 5 code kinds.I32 kind _ (inl refl)
    (one_row 6 code kinds.I64 kind _ (inl refl)
    (one_row 7 code kinds.Eight kind _ (inl refl)
    (one_row 8 code kinds.Binary kind _ (inl refl)
    (one_row 9 code kinds.List kind _ (inl refl)
    (one_row 10 code kinds.Set kind _ (inl refl)
    (one_row 11 code kinds.Map kind _ (inl refl)
    (one_row 12 code kinds.Struct kind None (inl refl) (λ f. absurd cc)))))))))))) e

truth_code : (code : ℕ) (kind : TypeCode) → IsCode kind code → compact_kind_of_code code ≡ Some kind
unfolding compact_kind_of_code
truth_code code kind (inl e) = ap compact_kind_of_code e ∙ compact_code_known kind
truth_code code kind (inr e) = rw (e.0, e.1) refl

pub one_code : (code : ℕ) (kind : TypeCode) → (compact_kind_of_code code ≡ Some kind) ↔ ((code ≡ compact_code_of kind) ⊎ ((code ≡ 2) × (kind ≡ kinds.Truth)))
one_code code kind = (λ e. code_is code kind e, λ h. truth_code code kind h)

abbrev IsHeldBy : Bool → ℕ → Type 0
IsHeldBy held code = code ≡ field_code kinds.Truth (Some held)

held_is : (code : ℕ) (held : Bool) → held_by_code code ≡ Some held → code ≡ field_code kinds.Truth (Some held)
unfolding held_by_code
held_is code held e =
    row IsHeldBy 1 code true held _ (eqb code 1) refl refl
    (row IsHeldBy 2 code false held None (eqb code 2) refl refl (λ f. absurd cc)) e

code_holds : (code : ℕ) (held : Bool) → code ≡ field_code kinds.Truth (Some held) → held_by_code code ≡ Some held
unfolding held_by_code
code_holds code true e = rw e refl
code_holds code false e = rw e refl

pub held_code : (code : ℕ) (held : Bool) → (held_by_code code ≡ Some held) ↔ (code ≡ field_code kinds.Truth (Some held))
held_code code held = (λ e. held_is code held e, λ e. code_holds code held e)
