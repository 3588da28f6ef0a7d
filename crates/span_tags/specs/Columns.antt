-- A table of tags as rows, one for each of its columns: the key of the tag, the value that it is given by what is written, and whether the tag
-- that is read there says nothing.
--     Columns C    what stands in the columns of a table
--     is_key       whether it is the key of one of these columns
--     looked       what tags hold in each column
--     rows         the tags that hold these columns, in their order
--     left_out     the keys of these columns whose tags say nothing, in their order
use Rattle.std.specs.Prelude.{ℕ, Bool, List, Option}
use Rattle.std.specs.List.{list_any, flat_map}
use Rattle.std.specs.Str.{bytes_eq}
use Rattle.trace_model.specs.Attributes.{at}
use Rattle.trace_model.specs.Remarks.{Keys}
use Rattle.trace_model.specs.declared.value.Value.{Value}
use Rattle.span_tags.specs.TagWords.{Pairs, row, if_left}

-- what stands in each column of a table: a value, or nothing
abbrev pub ColumnsOf : Type 0 → Type 0
ColumnsOf C = C → Option Value

-- the row of one column: its key, the value that its tag is given, if any, and whether a tag that was read there says nothing,
-- by what it holds and by what all columns hold
pub record Row (C A : Type 0) : Type 0 where
  pub key : List ℕ
  pub given : A → Option Value
  pub is_idle : Option Value → ColumnsOf C → Bool

module _ {C A : Type 0} (row_of : C → Row C A) where
  -- the key is that of one of these columns
  abbrev pub is_key : List C → List ℕ → Bool
  is_key columns key = list_any (λ column. bytes_eq key (row_of column).key) columns

  -- what these tags hold in each column: the value of the first tag of its key, if there is one
  abbrev pub looked_by : Pairs → ColumnsOf C
  looked_by tags = λ column. at (row_of column).key tags

  -- the tags that hold these columns, in the order of the columns; a column that holds nothing has no tag
  abbrev pub rows_by : List C → ColumnsOf C → Pairs
  rows_by columns c = flat_map (λ column. row (row_of column).key (c column)) columns

  -- the keys of these columns whose tags say nothing, in the order of the columns
  abbrev pub left_out_by : List C → ColumnsOf C → Keys
  left_out_by columns c = flat_map (λ column. if_left (row_of column).key ((row_of column).is_idle (c column) c)) columns
