-- An input of Jaeger that is one batch.
use Rattle.std.specs.Prelude.{ℕ, List, []}
use Rattle.span_io.specs.Outside.{Outlet}
use Rattle.span_io.specs.declared.form.Form.{Form}
use Rattle.span_io.specs.declared.form.Form.TheVariants as forms
use Rattle.span_io.specs.declared.limits.Limits.{Limits}
use Rattle.trace_model.specs.OtlpParts.{NotedGroup}
use Rattle.span_convert.specs.BatchFiles.{binary, compact, batches}
use Rattle.span_convert.specs.Units.{InputForm}
use Rattle.span_convert.specs.private.WalkSteps.{Converted}
use Rattle.span_convert.specs.declared.progress.Progress.{Progress}
use Rattle.span_convert.specs.declared.written.Written.{Written}

-- the bytes are the text of one struct, in the protocol of the form
abbrev pub IsOneBatch : Form → List ℕ → Type 0
IsOneBatch forms.OtlpProto bytes = ⊥
IsOneBatch forms.OtlpJson bytes = ⊥
IsOneBatch forms.JaegerBinary bytes = (batches binary).Whole bytes
IsOneBatch forms.JaegerCompact bytes = (batches compact).Whole bytes
IsOneBatch forms.ZipkinJson bytes = ⊥

-- all units of an input were converted
pub record ConvertsAll (from : InputForm) (what : Written) (limits : Limits) (bytes : List ℕ) (before now : Outlet)
    (progress : Progress) : Type 0 where
  pub noted : List NotedGroup
  pub whole : from.IsWhole limits bytes noted
  pub converted : Converted what noted [] before now progress
