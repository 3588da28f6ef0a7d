-- What is answered of a field of a row, and what is gathered of a struct.
use Rattle.std.specs.Prelude.{ℕ, ◌⊎◌, List, Option, Result}
use Rattle.span_io.specs.declared.cause.Cause.{Cause}
use Rattle.span_io.specs.declared.halt.Halt.{Halt}
use Rattle.span_io.specs.private.Gathering.{GatheredAll}
use Rattle.span_io.specs.Offences.{Rules, JudgesHere}
use Rattle.span_io.specs.RowsSoFar.{Gave}
use Rattle.span_io.specs.private.RowSteps.{JudgesSingular}
use Rattle.span_io.specs.Tables.{Twice}
use Rattle.thrift_core.specs.Messages.{FieldItem, structs, whole_struct}
use Rattle.thrift_core.specs.private.StandingFields.{AreFields}
use Rattle.thrift_core.specs.Parts.{Spelling}
use Rattle.thrift_core.specs.Trees.{Fields}
use Rattle.jaeger_model.specs.Meanings.{Means}
use Rattle.jaeger_model.specs.Rows.{nothing_wrong}

-- of a field that needs no memory, whatever fields of the row came before
abbrev pub JudgesField : {A B T : Type 0} → (A → B → Type 0) → (A → ℕ → Type 0) → Option B → A → Result T Cause → Type 0
JudgesField Means Wrong row held result = JudgesSingular Means (Wrong held) row result

-- of bytes, which may want memory
abbrev pub JudgesBytes : {T : Type 0} → Option (List ℕ) → List ℕ → Result T (Halt Cause) → Type 0
JudgesBytes row held result =
    (earlier : List (List ℕ)) → Gave Means earlier row → JudgesHere result (λ n. Twice earlier n ⊎ nothing_wrong held n)

-- All fields of a struct are gathered, and only its end may still offend.
abbrev pub GatheredStruct : Spelling → ℕ → Rules FieldItem → (List FieldItem → Type 0) → Fields → List ℕ → Type 0
GatheredStruct Spells left rules Gathered fields text =
    GatheredAll (structs Spells left) rules (AreFields Spells left fields) Gathered (whole_struct text)
