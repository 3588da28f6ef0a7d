use Rattle.otlp_json.proofs.AttributeLemmas.{keys_named}
use Rattle.otlp_json.proofs.reading.attributes.finish.Goals as goal

pub returns : goal.returns
returns c = record {
  kept = c.in_ok-attributes.ensures.attributes;
  rising = c.in_ok-keys.ensures.rising;
  noted = keys_named c.args.rows.means c.in_ok-attributes.repeated c.args.rows.notes c.note_keys.new.noted c.in_ok-keys.keys c.in_ok-attributes.ensures.repeated c.in_ok-note_keys.ensures
      c.in_ok-keys.ensures.same;
}
