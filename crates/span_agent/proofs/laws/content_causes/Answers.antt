use Rattle.std.proofs.Common.{Bool, true, false}
use Rattle.span_io.specs.Causes.{cause_number}
use Rattle.span_io.specs.Offences.{Least}
use Rattle.jaeger_model.specs.StatedLaws.{BatchOffends}
use Rattle.span_convert.specs.Verdicts.{IsVerdict, refused}
use Rattle.span_agent.specs.Contents.{batch_words}
use Rattle.span_agent.specs.Messages.{IsMessage}
use Rattle.span_agent.specs.Pieces.{batch_form}
use Rattle.span_agent.proofs.ContentLemmas.{content_of, message_stands}
use Rattle.span_agent.proofs.laws.content_causes.Goals as goal

pub returns : goal.returns
returns c = λ to limits datagram is_compact batch text refusal short unit fits message verdict.
    elim is_compact as (λ (b : Bool). IsMessage datagram b batch → IsVerdict (batch_form b) to limits batch (refused refusal text)
    → Least (BatchOffends (batch_words b).spells batch) (cause_number refusal.cause)) [
      | true ↦ λ m v. content_of (batch_words true) (record { one = c.one_step.ensures; framing = c.one_framing.ensures }) limits datagram batch v.noted refusal short unit fits
          (message_stands datagram true batch m) v.refuses
      | false ↦ λ m v. content_of (batch_words false) (record { one = c.one_step-2.ensures; framing = c.one_framing-2.ensures }) limits datagram batch v.noted refusal short unit fits
          (message_stands datagram false batch m) v.refuses
    ] message verdict
