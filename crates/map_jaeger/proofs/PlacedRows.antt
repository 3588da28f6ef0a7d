-- Rows are put in their places among attributes, one before the other.
use Rattle.std.proofs.Common.{◌≡◌, List, ◌++◌, sym, ◌∙◌}
use Rattle.trace_model.specs.Attributes.{Rise, keys, attrs}
use Rattle.span_tags.proofs.AttributeLaws.{attrs_itself}
use Rattle.span_tags.specs.TagWords.{Pairs}
use Rattle.span_tags.specs.Columns.{rows_by}
use Rattle.map_jaeger.specs.Columns.{Columns, row_of}
use Rattle.map_jaeger.specs.declared.columns.Column.{Column}

-- of these columns the tags of those behind stand in their places
pub record SoFar (columns left : List Column) (held : Columns) (before pairs : Pairs) : Type 0 where
  pub behind : List Column
  pub whole : columns ≡ left ++ behind
  pub put : (rest : Pairs) → before ≡ attrs rest → pairs ≡ attrs (rows_by row_of behind held ++ rest)

-- ---- attributes that rows are put before

pub starts : (attributes before : Pairs) → Rise (keys attributes) → before ≡ attributes → before ≡ attrs attributes
starts attributes before up same = same ∙ sym (attrs_itself attributes up)
