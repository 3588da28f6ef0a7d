-- What is written of fields and rows so far.
use Rattle.std.specs.Prelude.{ℕ, ℤ, List, [], ◌∷◌, ◌++◌}
use Rattle.thrift_core.specs.Parts.{header}
use Rattle.thrift_core.specs.Protocols.{WritingOf, field_head}
use Rattle.thrift_core.specs.Trees.{Tree, kind_of}
use Rattle.thrift_core.specs.Written.{FieldRow, Keeping, given, value_written}

-- one field behind the field of id `last`
abbrev pub field_written : Keeping → WritingOf → ℤ → Tree → ℕ → ℤ → List ℕ
field_written keeps writes id tree left last =
    writes (header left last) (field_head keeps id (kind_of tree) (given tree)) ++ value_written keeps writes tree left (keeps (given tree))

-- some, without a stop byte
unfoldable pub rows_written : Keeping → WritingOf → List FieldRow → ℕ → ℤ → List ℕ
rows_written keeps writes [] left last = []
rows_written keeps writes (row ∷ rows) left last =
    field_written keeps writes row.0 row.1 left last ++ rows_written keeps writes rows left row.0
