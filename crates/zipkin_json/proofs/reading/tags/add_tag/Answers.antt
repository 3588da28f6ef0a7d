use Rattle.json_nodes.specs.Lents.{lent_view}
use Rattle.zipkin_json.proofs.TagLemmas.{adds_text}
use Rattle.zipkin_json.proofs.reading.tags.add_tag.Goals as goal

pub returns-clause-adds : goal.returns-clause-adds
returns-clause-adds c =
    adds_text c.args.tags.now c.args.key.now (lent_view c.args.value.now) c.in_ok-text.text c.push.new.self c.in_ok-text.ensures.value (cc (c.in_ok-push.ensures.ok, c.in_ok-key.ensures))
