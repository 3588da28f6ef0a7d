use Rattle.std.proofs.Common.{arith}
use Rattle.otlp_proto.specs.Canonical.{group_text}
use Rattle.otlp_proto.proofs.CanonicalLaws.{Laws}
use Rattle.otlp_proto.proofs.FieldLemmas.{held_fits}
use Rattle.otlp_proto.proofs.GroupMessages.{group_again}
use Rattle.otlp_proto.proofs.laws.written_again.Goals as goal

pub returns : goal.returns
returns c =
    let laws : Laws = record {
      spelled = c.shortest_record.ensures.spelled;
      ids = c.identifiers_read_back.ensures;
      values = c.members_of_values.ensures;
      proper = c.members_of_proper_values.ensures;
      rising = c.rising_attributes.ensures;
    } in
    λ g sound proper short. group_again laws g sound proper (held_fits 1 (group_text g) (omega (arith, short)))
