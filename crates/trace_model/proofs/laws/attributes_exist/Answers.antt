use Rattle.trace_model.proofs.Existence.{repeated_keys, in_order}
use Rattle.trace_model.specs.Attributes.{attrs}
use Rattle.trace_model.proofs.AttributesOf.{attrs_are}
use Rattle.trace_model.proofs.laws.attributes_exist.Goals as goal

pub returns : goal.returns
returns c = record { attributes = λ pairs. (attrs pairs, attrs_are pairs); repeated = repeated_keys; in_order = in_order }
