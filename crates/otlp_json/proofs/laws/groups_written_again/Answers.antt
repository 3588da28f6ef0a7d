use Rattle.otlp_json.proofs.GroupsBack.{all_again}
use Rattle.otlp_json.proofs.WrittenLaws.{Laws}
use Rattle.otlp_json.proofs.laws.groups_written_again.Goals as goal

pub returns : goal.returns
returns c =
    let laws : Laws = record {
      ids = c.identifiers_read_back.ensures;
      values = c.members_of_values.ensures;
      proper = c.members_of_proper_values.ensures;
      rising = c.rising_attributes.ensures;
      texts = c.texts_of_values.ensures;
    } in
    all_again laws
