-- How far the gauge was fed to what converts it.
use Rattle.std.specs.Prelude.{ℕ, List}
use Rattle.std.specs.List.{flat_map}
use Rattle.span_io.specs.Counting.{counting_outlet}
use Rattle.span_io.specs.Limits.{shipped_limits}
use Rattle.span_io.specs.Outside.{Gains}
use Rattle.span_io.specs.declared.form.Form.{Form}
use Rattle.span_io.specs.declared.form.Form.TheVariants.{OtlpProto}
use Rattle.otlp_proto.specs.Canonical.{group_record}
use Rattle.span_convert.specs.Converters.{Fed, Work}
use Rattle.span_convert.specs.declared.walker.Walker.{Walker}
use Rattle.span_convert.specs.declared.written.Written.TheVariants as written
use Rattle.span_vectors.specs.Gauge.{first_groups}

-- the request of the first groups of the gauge, so many
abbrev pub groups_text : ℕ → ℕ → List ℕ
groups_text spans n = flat_map group_record (first_groups spans n)

-- requests are converted to the form
abbrev pub to_form : Form → Work
to_form to = record { from = OtlpProto; what = written.Form to; limits = shipped_limits }

-- It converts requests, was fed that of so many groups, and the sink counts their text.
pub record FeedsGroups (walker : Walker) (spans n count : ℕ) : Type 0 where
  pub to : Form
  pub said : List ℕ
  pub fed : Fed walker (to_form to) (groups_text spans n) said
  pub gains : Gains (counting_outlet 0) (counting_outlet count) said
