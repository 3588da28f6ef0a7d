use Rattle.std.proofs.Common.{sym, ap, ◌∙◌}
use Rattle.map_zipkin.specs.Reading.{is_free_tag}
use Rattle.map_zipkin.proofs.ReadKeys.{no_resource}
use Rattle.map_zipkin.proofs.reading.attributes.Parted.add.Goals as goal

pub returns-then-is_free-clause-resource : goal.returns-then-is_free-clause-resource
returns-then-is_free-clause-resource c =
    no_resource c.push.result c.args.self.now.resource c.args.tag (sym (c.is_free.ensures ∙ ap is_free_tag c.as_str.ensures.value) ∙ c.if-is_free.true)
