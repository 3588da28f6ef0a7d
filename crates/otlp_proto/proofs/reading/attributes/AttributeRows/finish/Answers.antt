use Rattle.std.proofs.Common.{subst, sym, List, ℕ}
use Rattle.std.specs.Prelude.{All}
use Rattle.trace_model.specs.Values.{IsSound}
use Rattle.trace_model.specs.declared.value.Value.{Value}
use Rattle.otlp_proto.proofs.AttributeLemmas.{attributes_are}
use Rattle.otlp_proto.proofs.SoundLemmas.{attributes_sound}
use Rattle.otlp_proto.proofs.reading.attributes.AttributeRows.finish.Goals as goal

pub returns-clause-attributes : goal.returns-clause-attributes
returns-clause-attributes c = λ texts gathered.
    attributes_are texts c.args.self c.in_ok-attributes.attributes c.in_ok-attributes.repeated c.note_all.new.noted c.in_ok-keys.keys gathered c.in_ok-attributes.ensures.attributes c.in_ok-attributes.ensures.repeated c.in_ok-note_all.ensures c.in_ok-keys.ensures.rising c.in_ok-keys.ensures.same

pub returns-clause-sound : goal.returns-clause-sound
returns-clause-sound c = λ texts gathered.
    let laws = c.members_of_values.ensures in
    c.in_ok-attributes.ensures.sound (subst (λ (l : List (List ℕ × Value)). All (λ pair. IsSound pair.1) l) (sym gathered.told.entries)
    (attributes_sound laws.list_depth laws.map_depth laws.list_rises laws.map_rises texts gathered.members gathered.each))
