use Rattle.map_zipkin.proofs.ReadKeys.{key_stripped}
use Rattle.map_zipkin.proofs.keys.resource_key.Goals as goal

pub returns : goal.returns
returns c = key_stripped c.args.key.now c.strip_prefix.result c.strip_prefix.ensures.cases
