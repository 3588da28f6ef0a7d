-- Free fields added or removed anywhere in a batch, at any depth: what it means, or the cause of the offence that counts in it, stays.
use Rattle.std.specs.Prelude.{◌↔◌, ℕ, ℤ, pos, List}
use Rattle.span_io.specs.Causes.{cause_number}
use Rattle.span_io.specs.declared.cause.Cause.{Cause}
use Rattle.span_io.specs.Offences.{Least}
use Rattle.span_io.specs.Tables.{Row, IsFree}
use Rattle.thrift_core.specs.Messages.{FieldItem, fields_of}
use Rattle.thrift_core.specs.Parts.{Spelling}
use Rattle.thrift_core.specs.Trees.{Tree, structure, list_of, Fields, no_fields, field_then, Trees, no_trees, tree_then, StructText, outer_levels}
use Rattle.jaeger_model.specs.Batch.{IsBatchText, batch_table}
use Rattle.jaeger_model.specs.declared.batch.Batch.{Batch}
use Rattle.jaeger_model.specs.StatedLaws.{BatchOffends}
use Rattle.jaeger_model.specs.Log.{log_table}
use Rattle.jaeger_model.specs.Process.{process_table}
use Rattle.jaeger_model.specs.Reference.{reference_table}
use Rattle.jaeger_model.specs.Span.{jspan_table}
use Rattle.jaeger_model.specs.Tag.{tag_table}

-- ---- one struct, and a list of structs

-- The same fields, but for fields on either side that are of no row of the table, and for what `Inside` lets differ in a field of an id.
pub data FieldsPadded (table : List (Row FieldItem)) (Inside : ℕ → Tree → Tree → Type 0) : Fields → Fields → Type 0 where
  no_more : FieldsPadded table Inside no_fields no_fields
  on_both : (id : ℤ) (tree : Tree) (more others : Fields) → FieldsPadded table Inside more others
      → FieldsPadded table Inside (field_then id tree more) (field_then id tree others)
  inside : (id : ℕ) (tree other : Tree) (more others : Fields) → Inside id tree other → FieldsPadded table Inside more others
      → FieldsPadded table Inside (field_then (pos id) tree more) (field_then (pos id) other others)
  on_this : (free : FieldItem) (more others : Fields) → IsFree table free → FieldsPadded table Inside more others
      → FieldsPadded table Inside (field_then free.id free.tree more) others
  on_that : (free : FieldItem) (more others : Fields) → IsFree table free → FieldsPadded table Inside more others
      → FieldsPadded table Inside more (field_then free.id free.tree others)

-- as many structs, each of which is so
pub data EachPadded (Padded : Fields → Fields → Type 0) : Trees → Trees → Type 0 where
  no_structs : EachPadded Padded no_trees no_trees
  struct_then : (this other : Fields) (more others : Trees) → Padded this other → EachPadded Padded more others
      → EachPadded Padded (tree_then (structure this) more) (tree_then (structure other) others)

-- ---- the structs of jaeger.thrift

-- which fields are free is the same in every protocol, and at every level
abbrev pub no_protocol : Spelling
no_protocol part word text = ⊥

-- no field of a tag or of a reference holds a struct
abbrev pub NothingInside : ℕ → Tree → Tree → Type 0
NothingInside id tree other = ⊥

-- the same `Tag`, but for free fields
abbrev pub TagPadded : Fields → Fields → Type 0
TagPadded this other = FieldsPadded tag_table NothingInside this other

-- the same `SpanRef`, but for free fields
abbrev pub ReferencePadded : Fields → Fields → Type 0
ReferencePadded this other = FieldsPadded reference_table NothingInside this other

-- a log and a process have tags in their field 2
pub data InTagged : ℕ → Tree → Tree → Type 0 where
  its_tags : (trees others : Trees) → EachPadded TagPadded trees others → InTagged 2 (list_of trees) (list_of others)

-- the same `Log`, but for free fields in it and in its tags
abbrev pub LogPadded : Fields → Fields → Type 0
LogPadded this other = FieldsPadded (log_table no_protocol outer_levels) InTagged this other

-- the same `Process`, but for free fields in it and in its tags
abbrev pub ProcessPadded : Fields → Fields → Type 0
ProcessPadded this other = FieldsPadded (process_table no_protocol outer_levels) InTagged this other

-- a span has references in its field 6, tags in 10 and logs in 11, and each of those structs may differ by free fields
pub data InSpan : ℕ → Tree → Tree → Type 0 where
  references : (trees others : Trees) → EachPadded ReferencePadded trees others → InSpan 6 (list_of trees) (list_of others)
  tags : (trees others : Trees) → EachPadded TagPadded trees others → InSpan 10 (list_of trees) (list_of others)
  logs : (trees others : Trees) → EachPadded LogPadded trees others → InSpan 11 (list_of trees) (list_of others)

-- the same `Span`, but for free fields in it, and in its references, tags and logs
abbrev pub JSpanPadded : Fields → Fields → Type 0
JSpanPadded this other = FieldsPadded (jspan_table no_protocol outer_levels) InSpan this other

-- the stats have no meaning, whatever they hold
pub data InBatch : ℕ → Tree → Tree → Type 0 where
  process : (this other : Fields) → ProcessPadded this other → InBatch 1 (structure this) (structure other)
  spans : (trees others : Trees) → EachPadded JSpanPadded trees others → InBatch 2 (list_of trees) (list_of others)
  stats : (this other : Fields) → InBatch 4 (structure this) (structure other)

-- The same fields of a batch, but for free fields in it, and in any struct that its rows hold.
abbrev pub BatchPadded : List FieldItem → List FieldItem → Type 0
BatchPadded items others = FieldsPadded (batch_table no_protocol outer_levels) InBatch (fields_of items) (fields_of others)

-- ---- what they change

-- Texts of such fields are of the same batch, or what counts in them has the same cause.
pub record FreeAtAnyDepth (Spells : Spelling) : Type 0 where
  -- nothing need be added
  pub none : (items : List FieldItem) → BatchPadded items items
  pub means : (items others : List FieldItem) (text other : List ℕ) → BatchPadded items others
      → StructText Spells outer_levels (fields_of items) text
      → StructText Spells outer_levels (fields_of others) other → (batch : Batch)
      → IsBatchText Spells batch text ↔ IsBatchText Spells batch other
  pub offends : (items others : List FieldItem) (text other : List ℕ) → BatchPadded items others
      → StructText Spells outer_levels (fields_of items) text
      → StructText Spells outer_levels (fields_of others) other → (cause : Cause)
      → Least (BatchOffends Spells text) (cause_number cause) ↔ Least (BatchOffends Spells other) (cause_number cause)
