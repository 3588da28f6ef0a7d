-- What is answered of a value, of its bytes.
use Rattle.std.proofs.Common.{◌≡◌, ◌<◌, ℕ, List, length, None, Result, Ok, Err, subst, arith, IfOk, IsUtf8}
use Rattle.serde_json.specs.Data.{Data}
use Rattle.serde_json.specs.Read.{read}
use Rattle.json_nodes.specs.declared.unread.Unread.{Unread}
use Rattle.json_nodes.specs.declared.unread.Unread.TheVariants as whys
use Rattle.span_io.specs.Causes.{cause_number}
use Rattle.span_io.specs.declared.halt.Halt.{Halt}
use Rattle.span_io.specs.declared.halt.Halt.TheVariants as halts
use Rattle.span_io.specs.declared.refusal.Refusal.{Refusal}
use Rattle.span_io.specs.Paths.{JudgesInput}
use Rattle.span_io.specs.Offences.{OnlyReads}
use Rattle.json_members.specs.Counted.{values_in}
use Rattle.json_members.proofs.CountedLaws.{listed_within}
use Rattle.json_members.proofs.CountedTexts.{values_within}
use Rattle.json_members.proofs.ReadingLaws.{same_value, no_value}
use Rattle.zipkin_json.specs.StatedLaws.{OneList}
use Rattle.zipkin_json.specs.Span.{IsZSpan, AreSpans, spans_offend}
use Rattle.json_members.specs.Texts.{IsJsonText, IsUnread}
use Rattle.zipkin_json.specs.Texts.{AreSpansText}
use Rattle.zipkin_json.specs.declared.span.ZSpan.{ZSpan}

abbrev Answer : Type 0
Answer = Result (List ZSpan) (Halt Refusal)

-- a value that has spans gives them alone
pub only_spans : OneList → (d : Data) (answer : Answer) → IfOk answer (λ spans. AreSpans spans d) → JudgesInput answer (spans_offend d)
    → (spans : List ZSpan) → AreSpans spans d → OnlyReads answer spans
only_spans laws d (Ok read) value judged spans is = laws.once d read spans value is
only_spans laws d (Err (halts.Why refusal)) value judged spans is = (laws.fine d spans is).none judged.path (cause_number refusal.cause) judged.is_least.offence
only_spans laws d (Err halts.OutOfMemory) value judged spans is = tt

-- there are fewer spans than values
pub spans_within : (d : Data) (answer : Answer) → IfOk answer (λ spans. AreSpans spans d) → IfOk answer (λ spans. length spans < values_in d)
spans_within d (Ok read) h = listed_within IsZSpan read d h
spans_within d (Err halt) h = tt

-- the same of another name of the value
module _ (d e : Data) (same : d ≡ e) (answer : Answer) where
  pub value_same : IfOk answer (λ spans. AreSpans spans d) → IfOk answer (λ spans. AreSpans spans e)
  value_same h = subst (λ (v : Data). IfOk answer (λ spans. AreSpans spans v)) same h

  pub judged_same : JudgesInput answer (spans_offend d) → JudgesInput answer (spans_offend e)
  judged_same h = subst (λ (v : Data). JudgesInput answer (spans_offend v)) same h

-- ---- bytes that are a text of a value

module _ (bytes : List ℕ) (d : Data) (is : IsJsonText d bytes) where
  pub value_text : (answer : Answer) → IfOk answer (λ spans. AreSpans spans d) → IfOk answer (λ spans. AreSpansText spans bytes)
  value_text (Ok read) h = record { value = d; is_text = is; are_spans = h }
  value_text (Err halt) h = tt

  pub text_within : (answer : Answer) → IfOk answer (λ spans. length spans < values_in d) → IfOk answer (λ spans. length spans < length bytes)
  text_within (Ok read) h = let fits = values_within bytes d is.reading in omega (arith, h, fits)
  text_within (Err halt) h = tt

  pub only_text : (answer : Answer) → ((spans : List ZSpan) → AreSpans spans d → OnlyReads answer spans) → (spans : List ZSpan) → AreSpansText spans bytes → OnlyReads answer spans
  only_text answer only spans h = only spans (subst (λ (v : Data). AreSpans spans v) (same_value bytes d is h.value h.is_text) h.are_spans)

-- ---- bytes that are none, since they gave no nodes

module _ (bytes : List ℕ) (why : Unread) (none : why ≡ whys.BadJson → IsUtf8 bytes → read bytes ≡ None) where
  pub unread_only : (halt : Halt Refusal) → IsUnread why halt → (spans : List ZSpan) → AreSpansText spans bytes → OnlyReads {T = List ZSpan} {E = Refusal} (Err halt) spans
  unread_only (halts.Why refusal) h spans is = no_value bytes (none h.0) is.value is.is_text
  unread_only halts.OutOfMemory h spans is = tt
