use Rattle.otlp_proto.proofs.GroupLaws.{group_once, group_fine}
use Rattle.otlp_proto.proofs.SoundLemmas.{attributes_of_sound}
use Rattle.otlp_proto.proofs.SoundMessages.{group_sound}
use Rattle.otlp_proto.proofs.laws.one_group.Goals as goal

pub returns : goal.returns
returns c =
    let values = c.members_of_values.ensures in
    record {
      once = group_once c.reading_laws.ensures;
      fine = group_fine c.reading_laws.ensures;
      sound = λ text g r is. group_sound (attributes_of_sound values.list_depth values.map_depth values.list_rises values.map_rises) g r text is;
    }
