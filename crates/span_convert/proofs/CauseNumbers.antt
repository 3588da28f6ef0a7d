-- A cause follows from its number.
use Rattle.std.proofs.Common.{◌≡◌, ℕ, refl, ap, sym, ◌∙◌}
use Rattle.std.specs.Prelude.{◌==◌, if◌then◌else◌}
use Rattle.span_io.specs.Causes.{cause_number}
use Rattle.span_io.specs.declared.cause.Cause.{Cause}
use Rattle.span_io.specs.declared.cause.Cause.TheVariants as causes

cause_with : ℕ → Cause
cause_with n = if n == 1 then causes.Truncated else (if n == 2 then causes.BadVarint else (if n == 3 then causes.BadWire else (if n == 4 then causes.BadSize else (if n == 5 then causes.TooDeep else (if n == 6 then causes.UnitTooLong else (if n == 7 then causes.FieldTwice else (if n == 8 then causes.Missing else (if n == 9 then causes.NotText else (if n == 10 then causes.BadJson else (if n == 11 then causes.BadShape else (if n == 12 then causes.BadId else (if n == 13 then causes.BadEnum else (if n == 14 then causes.BadElement else (if n == 15 then causes.DoubleInJson else (if n == 16 then causes.BadTime else causes.InputTooLong)))))))))))))))

cause_is : (cause : Cause) → cause_with (cause_number cause) ≡ cause
unfolding cause_with
cause_is causes.Truncated = refl
cause_is causes.BadVarint = refl
cause_is causes.BadWire = refl
cause_is causes.BadSize = refl
cause_is causes.TooDeep = refl
cause_is causes.UnitTooLong = refl
cause_is causes.FieldTwice = refl
cause_is causes.Missing = refl
cause_is causes.NotText = refl
cause_is causes.BadJson = refl
cause_is causes.BadShape = refl
cause_is causes.BadId = refl
cause_is causes.BadEnum = refl
cause_is causes.BadElement = refl
cause_is causes.DoubleInJson = refl
cause_is causes.BadTime = refl
cause_is causes.InputTooLong = refl

pub same_cause : (a b : Cause) → cause_number a ≡ cause_number b → a ≡ b
same_cause a b e = sym (cause_is a) ∙ ap cause_with e ∙ cause_is b
