-- The piece of a datagram: the converted text of its batch, or why it has none. A text in JSON ends with a line feed, so that a
-- piece is a line.
use Rattle.std.specs.Prelude.{◌≡◌, ℕ, Bool, true, false, List, [], ◌∷◌, ◌++◌, Result, Ok, Err}
use Rattle.span_io.specs.declared.form.Form.{Form}
use Rattle.span_io.specs.declared.form.Form.TheVariants as forms
use Rattle.span_io.specs.declared.halt.Halt.{Halt}
use Rattle.span_io.specs.declared.halt.Halt.TheVariants as halts
use Rattle.span_io.specs.declared.limits.Limits.{Limits}
use Rattle.span_convert.specs.Verdicts.{Verdict, IsVerdict, good, refused, faulted}
use Rattle.span_convert.specs.declared.bad.Bad.{Bad}
use Rattle.span_convert.specs.declared.bad.Bad.TheVariants as convert_bads
use Rattle.span_agent.specs.Messages.{IsMessage, HasCause}
use Rattle.span_agent.specs.declared.message.AgentCause.{AgentCause}
use Rattle.span_agent.specs.declared.message.AgentCause.TheVariants as causes
use Rattle.span_agent.specs.declared.piece.AgentBad.{AgentBad}
use Rattle.span_agent.specs.declared.piece.AgentBad.TheVariants as bads

-- what ends a piece
abbrev pub piece_end : Form → List ℕ
piece_end forms.OtlpProto = []
piece_end forms.OtlpJson = 10 ∷ []
piece_end forms.JaegerBinary = []
piece_end forms.JaegerCompact = []
piece_end forms.ZipkinJson = 10 ∷ []

-- the form of a batch in this protocol: the compact one or the binary one
abbrev pub batch_form : Bool → Form
batch_form true = forms.JaegerCompact
batch_form false = forms.JaegerBinary

-- what the verdict on the batch says
abbrev pub by_verdict : Form → Verdict → Result (List ℕ) AgentBad
by_verdict to (good text tally) = Ok (text ++ piece_end to)
by_verdict to (refused refusal text) = Err (bads.Message (causes.Reading refusal.cause))
by_verdict to (faulted found text) = Err (bads.Faulted found.fault)

-- what a call of a conversion answers that has no text
abbrev pub batch_halt : Bad → Halt AgentBad
batch_halt (convert_bads.Refused refusal) = halts.Why (bads.Message (causes.Reading refusal.cause))
batch_halt (convert_bads.Faulted found) = halts.Why (bads.Faulted found.fault)
batch_halt convert_bads.OutOfMemory = halts.OutOfMemory

-- a cause of the message comes first; else the verdict on its batch, as an input of its own, says the piece, a cause or a fault
pub data IsPiece (to : Form) (limits : Limits) (datagram : List ℕ) (told : Result (List ℕ) AgentBad) : Type 0 where
  no_message : (cause : AgentCause) → HasCause datagram cause → told ≡ Err (bads.Message cause) → IsPiece to limits datagram told
  of_batch : (compact : Bool) (batch : List ℕ) (verdict : Verdict) → IsMessage datagram compact batch
      → IsVerdict (batch_form compact) to limits batch verdict → told ≡ by_verdict to verdict → IsPiece to limits datagram told

-- a call answers that, or want of memory
abbrev pub SaysPiece : Result (List ℕ) AgentBad → Result (List ℕ) (Halt AgentBad) → Type 0
SaysPiece told (Ok piece) = told ≡ Ok piece
SaysPiece told (Err (halts.Why bad)) = told ≡ Err bad
SaysPiece told (Err halts.OutOfMemory) = Unit {0}

-- the same of what the verdict on a batch says
abbrev pub SaysVerdict : Form → Form → Limits → List ℕ → Result (List ℕ) (Halt AgentBad) → Type 0
SaysVerdict from to limits batch answer =
    (verdict : Verdict) → IsVerdict from to limits batch verdict → SaysPiece (by_verdict to verdict) answer
