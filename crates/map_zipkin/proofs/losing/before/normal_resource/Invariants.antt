use Rattle.std.proofs.Common.{◌≡◌, ◌++◌, drop}
use Rattle.span_tags.specs.TagKeys.{service_key}
use Rattle.map_zipkin.specs.private.LossWalks.{kept_texts}
use Rattle.map_zipkin.proofs.losing.before.normal_resource.Given as goal

abbrev pub invariant-attributes : goal.invariant-attributes
invariant-attributes l = l.normal ++ kept_texts service_key (drop l.pair-index l.resource) ≡ kept_texts service_key l.resource
