-- What is known of the gauge.
use Rattle.std.specs.Prelude.{ℕ}
use Rattle.span_io.specs.Limits.{shipped_limits}
use Rattle.span_io.specs.declared.form.Form.{Form}
use Rattle.span_io.specs.declared.form.Form.TheVariants as forms
use Rattle.span_convert.specs.Units.{canonical_text}
use Rattle.span_convert.specs.Verdicts.{IsVerdict, good, tally_of}
use Rattle.span_vectors.specs.Gauge.{gauge, group_count}

-- The request of the gauge of so many spans converts to the text of the gauge in the form: no cause refuses it, and nothing in it is a fault.
-- Each of its groups and spans is counted.
abbrev pub GaugeIsConverted : Form → ℕ → Type 0
GaugeIsConverted to spans = IsVerdict forms.OtlpProto to shipped_limits (canonical_text forms.OtlpProto (gauge spans))
    (good (canonical_text to (gauge spans)) (tally_of (group_count spans) spans))
