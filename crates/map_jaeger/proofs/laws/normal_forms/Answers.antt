use Rattle.map_jaeger.proofs.GroupLaws.{normal_forms}
use Rattle.map_jaeger.proofs.laws.normal_forms.Goals as goal

pub returns : goal.returns
returns c = normal_forms c.texts_of_values.ensures.utf8
