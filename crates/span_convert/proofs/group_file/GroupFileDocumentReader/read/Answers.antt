use Rattle.std.proofs.lemmas.List.Elements.{All-weaker}
use Rattle.otlp_json.specs.Group.{RemarkedGroup}
use Rattle.otlp_json.specs.Held.{IsHeldByJson}
use Rattle.trace_model.specs.Soundness.{IsSoundGroup}
use Rattle.span_convert.proofs.GroupFileInputs.{beside_remarks}
use Rattle.span_convert.proofs.group_file.GroupFileDocumentReader.read.Goals as goal

pub returns-clause-value : goal.returns-clause-value
returns-clause-value c = beside_remarks c.args.bytes.now c.in_ok-read.read c.in_ok-read.ensures.value

pub returns-clause-sound : goal.returns-clause-sound
returns-clause-sound c =
    All-weaker (λ (g : RemarkedGroup). IsHeldByJson g.0) (λ (g : RemarkedGroup). IsSoundGroup g.0) (λ g h. h.sound) c.in_ok-read.read c.in_ok-read.ensures.held
