-- Spans that were read, one after the other.
use Rattle.std.proofs.Common.{◌≡◌, ℕ, ◌+◌, List, [], ◌∷◌, ◌++◌, length, ap, ◌∙◌}
use Rattle.trace_model.specs.declared.noted.Noted.{Noted}
use Rattle.trace_model.specs.declared.remark.Remark.{Remark}
use Rattle.trace_model.specs.declared.span.Span.{Span}
use Rattle.trace_model.specs.Notes.{SpanNotes}
use Rattle.trace_model.proofs.ToldLaws.{span_added}
use Rattle.otlp_proto.specs.declared.reading.scope.SpanList.{SpanList}
use Rattle.otlp_proto.specs.private.ReadParts.{IsReadSpan}
use Rattle.otlp_proto.specs.Rows.{MeansMessage}
use Rattle.otlp_proto.specs.private.ScopeSoFar.{GatheredSpans}
use Rattle.otlp_proto.specs.Span.{IsSpan}
use Rattle.span_io.proofs.RowLaws.{all_zip_push}

pub span_push : (first : ℕ) (earlier : List (List ℕ)) (held : List ℕ) (old new : SpanList) (number : ℕ) (read : Noted Span (List Remark)) → new.first ≡ old.first → new.spans ≡ old.spans ++ read.means ∷ [] → new.remarks ≡ old.remarks ++ read.notes
    → number ≡ old.first + length old.spans → IsReadSpan number read held → GatheredSpans first earlier old → GatheredSpans first (earlier ++ held ∷ []) new
span_push first earlier held old new number read same_first spans remarks its_number is so_far =
    let this : Noted Span SpanNotes = record { means = read.means; notes = is.notes } in
    record {
      begins = same_first ∙ so_far.begins;
      read = so_far.read ++ this ∷ [];
      each = all_zip_push (MeansMessage IsSpan) earlier so_far.read held this so_far.each is.is_span;
      told = span_added first so_far.read old.spans new.spans old.remarks new.remarks read.notes this number (its_number ∙ ap (λ (n : ℕ). n + length old.spans) so_far.begins) spans remarks is.remarks so_far.told;
    }
