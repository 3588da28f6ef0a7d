-- What the reader of a tag has gathered.
use Rattle.std.specs.Prelude.{List}
use Rattle.span_io.specs.RowsSoFar.{Gave}
use Rattle.span_io.specs.Tables.{Givens, givens, MeansText}
use Rattle.thrift_core.specs.Messages.{FieldItem}
use Rattle.jaeger_model.specs.declared.reading.tag.TagRows.{TagRows}
use Rattle.jaeger_model.specs.Meanings.{Means, MeansEnum}
use Rattle.jaeger_model.specs.Tag.{tag_table, tag_type_number}

-- each row of a `Tag` holds what its fields gave: nothing where there is none, and the value of the one that there is
pub record GatheredTag (rows : TagRows) (given : Givens tag_table) : Type 0 where
  pub key : Gave MeansText given.0 rows.key
  pub kind : Gave (MeansEnum tag_type_number) given.1.0 rows.kind
  pub text : Gave MeansText given.1.1.0 rows.text
  pub double : Gave Means given.1.1.1.0 rows.double
  pub truth : Gave Means given.1.1.1.1.0 rows.truth
  pub number : Gave Means given.1.1.1.1.1.0 rows.number
  pub bytes : Gave Means given.1.1.1.1.1.1.0 rows.bytes

-- these fields gave them
abbrev pub GaveTag : TagRows → List FieldItem → Type 0
GaveTag rows items = GatheredTag rows (givens tag_table items)
