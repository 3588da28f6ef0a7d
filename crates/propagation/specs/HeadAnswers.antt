-- What the readers of a form answer.
use Rattle.std.specs.Prelude.{Result, Ok, Err}
use Rattle.span_io.specs.declared.halt.Halt.{Halt}
use Rattle.span_io.specs.declared.halt.Halt.TheVariants as halts

-- what is said of the cause of a refusal, where there is one
abbrev pub OnCause : {T E : Type 0} → Result T (Halt E) → (E → Type 0) → Type 0
OnCause (Ok x) P = Unit {0}
OnCause (Err (halts.Why why)) P = P why
OnCause (Err halts.OutOfMemory) P = Unit {0}

-- what is said where memory was wanted
abbrev pub IfOutOfMemory : {T E : Type 0} → Result T (Halt E) → Type 0 → Type 0
IfOutOfMemory (Ok x) P = Unit {0}
IfOutOfMemory (Err (halts.Why why)) P = Unit {0}
IfOutOfMemory (Err halts.OutOfMemory) P = P
