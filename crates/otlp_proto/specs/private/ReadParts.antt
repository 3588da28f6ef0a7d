-- What the readers of a span and of a scope answer: what is noted are remarks, numbered by their place in the group.
use Rattle.std.specs.Prelude.{◌≡◌, ℕ, List}
use Rattle.trace_model.specs.declared.noted.Noted.{Noted}
use Rattle.trace_model.specs.declared.remark.Remark.{Remark}
use Rattle.trace_model.specs.declared.span.Span.{Span}
use Rattle.trace_model.specs.declared.group.Scope.{Scope}
use Rattle.trace_model.specs.GroupRemarks.{span_remarks, scope_remarks}
use Rattle.trace_model.specs.Notes.{SpanNotes, ScopeNotes}
use Rattle.otlp_proto.specs.Rows.{MeansMessage}
use Rattle.otlp_proto.specs.Scope.{IsScope}
use Rattle.otlp_proto.specs.Span.{IsSpan}

-- the bytes are a text of the span, of which these are the remarks where it has this number
pub record IsReadSpan (number : ℕ) (read : Noted Span (List Remark)) (text : List ℕ) : Type 0 where
  pub notes : SpanNotes
  pub is_span : MeansMessage IsSpan text (record { means = read.means; notes = notes })
  pub remarks : read.notes ≡ span_remarks number notes

-- the same of a scope of this number, whose first span has that number
pub record IsReadScope (number first : ℕ) (read : Noted Scope (List Remark)) (text : List ℕ) : Type 0 where
  pub notes : ScopeNotes
  pub is_scope : MeansMessage IsScope text (record { means = read.means; notes = notes })
  pub remarks : read.notes ≡ scope_remarks number first notes
