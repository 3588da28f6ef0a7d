-- What is known of OTLP's enums by the numbers of their values: each value has a number of its own, none lies above the last, and each up
-- to the last is that of a value.
use Rattle.std.proofs.Common.{◌≡◌, ◌<◌, ◌≤◌, ℕ, ◌⊎◌, inl, inr, ◌==◌, if◌then◌else◌, refl, sym, ap, ◌∙◌, arith}
use Rattle.std.proofs.lemmas.Bool.{cases_eq}
use Rattle.span_io.proofs.RowLaws.{EnumLaws}
use Rattle.trace_model.specs.declared.span.Code.TheVariants as codes
use Rattle.trace_model.specs.declared.span.Code.{Code}
use Rattle.trace_model.specs.declared.span.Kind.TheVariants as kinds
use Rattle.trace_model.specs.declared.span.Kind.{Kind}
use Rattle.trace_model.specs.OtlpParts.{code_number, kind_number}

code_at : ℕ → Code
code_at n = if n == 0 then codes.Unset else (if n == 1 then codes.Okay else codes.Fail)

code_back : (code : Code) → code_at (code_number code) ≡ code
unfolding code_at
code_back codes.Unset = refl
code_back codes.Okay = refl
code_back codes.Fail = refl

code_within : (code : Code) → (n : ℕ) → 2 < code_number code → ⊥
code_within codes.Unset n h = omega arith
code_within codes.Okay n h = omega arith
code_within codes.Fail n h = omega arith

pub code_laws : EnumLaws Code code_number 2
code_laws = record { same = λ a b e. sym (code_back a) ∙ ap code_at e ∙ code_back b; within = code_within }

kind_at : ℕ → Kind
kind_at n =
    if n == 0 then kinds.Unspecified else (if n == 1 then kinds.Internal else (if n == 2 then kinds.Server else (if n == 3 then kinds.Client else (if n == 4 then kinds.Producer else kinds.Consumer))))

kind_back : (kind : Kind) → kind_at (kind_number kind) ≡ kind
unfolding kind_at
kind_back kinds.Unspecified = refl
kind_back kinds.Internal = refl
kind_back kinds.Server = refl
kind_back kinds.Client = refl
kind_back kinds.Producer = refl
kind_back kinds.Consumer = refl

kind_within : (kind : Kind) → (n : ℕ) → 5 < kind_number kind → ⊥
kind_within kinds.Unspecified n h = omega arith
kind_within kinds.Internal n h = omega arith
kind_within kinds.Server n h = omega arith
kind_within kinds.Client n h = omega arith
kind_within kinds.Producer n h = omega arith
kind_within kinds.Consumer n h = omega arith

pub kind_laws : EnumLaws Kind kind_number 5
kind_laws = record { same = λ a b e. sym (kind_back a) ∙ ap kind_at e ∙ kind_back b; within = kind_within }

pub code_numbered : (k : ℕ) → k ≤ 2 → (code : Code) × (k ≡ code_number code)
code_numbered k low = of (cases_eq k 0) (cases_eq k 1)
  where
    of : (k ≡ 0) ⊎ (k ≡ 0 → ⊥) → (k ≡ 1) ⊎ (k ≡ 1 → ⊥) → (code : Code) × (k ≡ code_number code)
    of (inl e) other = (codes.Unset, e)
    of (inr a) (inl e) = (codes.Okay, e)
    of (inr a) (inr b) = (codes.Fail, omega arith)

pub kind_numbered : (k : ℕ) → k ≤ 5 → (kind : Kind) × (k ≡ kind_number kind)
kind_numbered k low = of (cases_eq k 0) (cases_eq k 1) (cases_eq k 2) (cases_eq k 3) (cases_eq k 4)
  where
    of : (k ≡ 0) ⊎ (k ≡ 0 → ⊥) → (k ≡ 1) ⊎ (k ≡ 1 → ⊥) → (k ≡ 2) ⊎ (k ≡ 2 → ⊥) → (k ≡ 3) ⊎ (k ≡ 3 → ⊥) → (k ≡ 4) ⊎ (k ≡ 4 → ⊥) → (kind : Kind) × (k ≡ kind_number kind)
    of (inl e) b c d f = (kinds.Unspecified, e)
    of (inr a) (inl e) c d f = (kinds.Internal, e)
    of (inr a) (inr b) (inl e) d f = (kinds.Server, e)
    of (inr a) (inr b) (inr c) (inl e) f = (kinds.Client, e)
    of (inr a) (inr b) (inr c) (inr d) (inl e) = (kinds.Producer, e)
    of (inr a) (inr b) (inr c) (inr d) (inr f) = (kinds.Consumer, omega arith)
