-- What a whole request is answered, whose body is converted to one form.
use Rattle.std.specs.Prelude.{◌≡◌, ℕ, Bool, List, ◌++◌, drop, length, nat_lt, if◌then◌else◌, Option, Some, None}
use Rattle.span_io.specs.declared.form.Form.{Form}
use Rattle.span_io.specs.declared.limits.Limits.{Limits}
use Rattle.span_convert.specs.Verdicts.{Verdict, IsVerdict, good, refused, faulted}
use Rattle.http_conn.specs.MediaTypes.{type_of}
use Rattle.http_conn.specs.Replies.{answer_text}
use Rattle.http_conn.specs.declared.next.Request.{Request}
use Rattle.span_answers.specs.Answers.{bare_answer, plain_text}
use Rattle.span_answers.specs.NoteLines.{fault_line, refusal_line}

-- by the verdict on the body: its text in the target form, where it isn't longer than an answer may be, or why it has none
abbrev pub verdict_answer : Form → Limits → Bool → Verdict → List ℕ
verdict_answer to limits close (good text tally) =
    if nat_lt limits.reply (length text) then bare_answer 413 close else answer_text 200 (type_of to) text close
verdict_answer to limits close (refused refusal text) = answer_text 400 plain_text (refusal_line refusal) close
verdict_answer to limits close (faulted found text) = answer_text 422 plain_text (fault_line found) close

-- by the form of the body: without one the request has its status, whatever its body holds
abbrev pub AnswersForm : Form → Limits → Request → List ℕ → Option Form → List ℕ → Type 0
AnswersForm to limits request bytes None text = text ≡ bare_answer request.verdict request.close
AnswersForm to limits request bytes (Some from) text =
    (verdict : Verdict)
    × IsVerdict from to limits (drop request.body_at bytes) verdict
    × (text ≡ verdict_answer to limits request.close verdict)

-- the answer to a request that these bytes are
abbrev pub IsAnswer : Form → Limits → Request → List ℕ → List ℕ → Type 0
IsAnswer to limits request bytes text = AnswersForm to limits request bytes request.form text

-- the gateway as a service: its state is the form that it converts to, which stays
abbrev pub Converts : Limits → Form → Request → List ℕ → List ℕ → Form → Type 0
Converts limits to request bytes text now = IsAnswer to limits request bytes text × (now ≡ to)

-- where memory is wanted for an answer, the form that the gateway converts to stays all the same
abbrev pub Halts : Limits → Form → Request → List ℕ → Form → Type 0
Halts limits to request bytes now = now ≡ to

-- no call changes the form that the gateway converts to
abbrev pub Stays : Form → Form → Type 0
Stays to now = now ≡ to

-- a list grew by the answer to a request with this body
pub record AppendsFormAnswer (from to : Form) (limits : Limits) (body : List ℕ) (close : Bool) (old new : List ℕ) : Type 0 where
  pub verdict : Verdict
  pub is_verdict : IsVerdict from to limits body verdict
  pub grows : new ≡ old ++ verdict_answer to limits close verdict
