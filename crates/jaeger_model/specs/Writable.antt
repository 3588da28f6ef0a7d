-- What may be written of batches: each text and list has at most 2147483647 members, times are whole microseconds, and no end is before
-- its start.
use Rattle.std.specs.Prelude.{◌≤◌, List, All, ⊤}
use Rattle.span_ids.specs.Times.{IsWhole}
use Rattle.span_io.specs.Sizes.{IsShort}
use Rattle.jaeger_model.specs.declared.batch.Batch.{Batch}
use Rattle.jaeger_model.specs.declared.span.JSpan.{JSpan}
use Rattle.jaeger_model.specs.declared.span.Log.{Log}
use Rattle.jaeger_model.specs.declared.tag.Tag.{Tag}
use Rattle.jaeger_model.specs.declared.tag.TagValue.{TagValue}
use Rattle.jaeger_model.specs.declared.tag.TagValue.TheVariants as values

-- a text, or bytes, of 2147483647 bytes at most; each other value can be written
abbrev pub IsShortValue : TagValue → Type 0
IsShortValue (values.Text text) = IsShort text
IsShortValue (values.Eight bytes) = ⊤
IsShortValue (values.Truth truth) = ⊤
IsShortValue (values.Number number) = ⊤
IsShortValue (values.Bytes bytes) = IsShort bytes

-- neither the key nor the value of a tag is too long
pub record IsWritableTag (tag : Tag) : Type 0 where
  pub key : IsShort tag.key
  pub value : IsShortValue tag.value

-- a list of such things
pub record AreWritable {A : Type 0} (IsWritable : A → Type 0) (list : List A) : Type 0 where
  pub sized : IsShort list
  pub each : All IsWritable list

-- a log's time is whole microseconds, and its tags can be written
pub record IsWritableLog (log : Log) : Type 0 where
  pub time : IsWhole log.time
  pub fields : AreWritable IsWritableTag log.fields

-- a span's name and lists aren't too long, its times are whole microseconds, and it doesn't end before its start
pub record IsWritableSpan (span : JSpan) : Type 0 where
  pub name : IsShort span.name
  pub references : IsShort span.references
  pub start : IsWhole span.start
  pub end : IsWhole span.end
  pub ordered : span.start ≤ span.end
  pub tags : AreWritable IsWritableTag span.tags
  pub logs : AreWritable IsWritableLog span.logs

-- a batch that can be written: its service's name, its process's tags and all its spans can be
pub record IsWritable (batch : Batch) : Type 0 where
  pub service : IsShort batch.service
  pub tags : AreWritable IsWritableTag batch.tags
  pub spans : AreWritable IsWritableSpan batch.spans

-- ---- its parts: sizes, and times

-- the sizes in a log can be written, whatever its time is
abbrev pub HasLogSizes : Log → Type 0
HasLogSizes log = AreWritable IsWritableTag log.fields

-- the sizes in a span and in its logs can be written, whatever its times are
pub record HasSpanSizes (span : JSpan) : Type 0 where
  pub name : IsShort span.name
  pub references : IsShort span.references
  pub tags : AreWritable IsWritableTag span.tags
  pub logs : AreWritable HasLogSizes span.logs

-- each text and list has a size that can be written
pub record HasSizes (batch : Batch) : Type 0 where
  pub service : IsShort batch.service
  pub tags : AreWritable IsWritableTag batch.tags
  pub spans : AreWritable HasSpanSizes batch.spans

-- times are whole microseconds, and no end is before its start
pub record IsTimed (span : JSpan) : Type 0 where
  pub start : IsWhole span.start
  pub end : IsWhole span.end
  pub ordered : span.start ≤ span.end
  pub logs : All (λ log. IsWhole log.time) span.logs
