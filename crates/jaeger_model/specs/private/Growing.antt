-- What the writers of parts append, in any protocol, and however many levels are left.
use Rattle.std.specs.Prelude.{◌≡◌, ℕ, ℤ, pos, List, ◌++◌, Result, Ok, Err}
use Rattle.span_io.specs.Outside.{GrowsFront}
use Rattle.thrift_core.specs.Protocols.{WritingOf}
use Rattle.thrift_core.specs.Trees.{Tree}
use Rattle.thrift_core.specs.Written.{Keeping, FieldRow, fields_of_rows, fields_written}
use Rattle.thrift_core.specs.private.WrittenParts.{field_written, rows_written}

-- this text is appended, and after want of memory a front of it
abbrev pub GrowsBy : {T E : Type 0} → Result T E → List ℕ → List ℕ → List ℕ → Type 0
GrowsBy (Ok done) old new text = new ≡ old ++ text
GrowsBy (Err refused) old new text = GrowsFront old new text

-- a field, behind the field of id `last`
abbrev pub WritesField : {T E : Type 0} → Keeping → WritingOf → Result T E → List ℕ → List ℕ → ℤ → ℤ → Tree → Type 0
WritesField keeps writes result old new last id tree =
    (left : ℕ) → GrowsBy result old new (field_written keeps writes id tree left last)

-- some fields, without a stop byte
abbrev pub WritesRows : {T E : Type 0} → Keeping → WritingOf → Result T E → List ℕ → List ℕ → ℤ → List FieldRow → Type 0
WritesRows keeps writes result old new last rows = (left : ℕ) → GrowsBy result old new (rows_written keeps writes rows left last)

-- a struct of these fields
abbrev pub WritesStruct : {T E : Type 0} → Keeping → WritingOf → Result T E → List ℕ → List ℕ → List FieldRow → Type 0
WritesStruct keeps writes result old new rows =
    (left : ℕ) → GrowsBy result old new (fields_written keeps writes (fields_of_rows rows) left (pos 0))
