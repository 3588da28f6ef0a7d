-- What a move from one form to another leaves of a trace: what each form keeps of a span, and which traces a form leaves as they are.
use Rattle.std.specs.Prelude.{◌≡◌, List}
use Rattle.span_io.specs.declared.form.Form.{Form}
use Rattle.span_io.specs.declared.form.Form.TheVariants as forms
use Rattle.trace_model.specs.declared.span.Span.{Span}
use Rattle.trace_model.specs.declared.group.Group.{Group}
use Rattle.span_moves.specs.Keeps.{Keeps, KeepsWithLinks}
use Rattle.span_convert.specs.Units.{normal_form}
use Rattle.span_convert.specs.Verdicts.{CanHoldTrace}

-- What each form keeps of a span. Zipkin has no links.
abbrev pub IsKeptBy : Form → Span → Span → Type 0
IsKeptBy forms.OtlpProto = KeepsWithLinks
IsKeptBy forms.OtlpJson = KeepsWithLinks
IsKeptBy forms.JaegerBinary = KeepsWithLinks
IsKeptBy forms.JaegerCompact = KeepsWithLinks
IsKeptBy forms.ZipkinJson = Keeps

-- The form can hold the trace, and leaves it as it is. So it is with each trace that is read of the form.
pub record IsNormalTrace (form : Form) (groups : List Group) : Type 0 where
  pub can_hold : CanHoldTrace form groups
  pub itself : normal_form form groups ≡ groups
