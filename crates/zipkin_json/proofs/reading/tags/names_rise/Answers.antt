use Rattle.std.proofs.Common.{sym, ◌∙◌, rules}
use Rattle.json_nodes.specs.Lents.{members_left}
use Rattle.zipkin_json.proofs.TagLemmas.{no_names, one_name, name_before, not_above}
use Rattle.zipkin_json.proofs.reading.tags.names_rise.Goals as goal

pub returns-in_default : goal.returns-in_default
returns-in_default c = λ h. no_names (members_left c.args.members) c.in_default.ensures

pub names-init : goal.names-init
names-init c = record { text = search rules; rise = λ h. rw c.in-Some.ensures h }

pub names-preserved : goal.names-preserved
names-preserved c = record {
  text = search rules;
  rise = λ h. c.names.invariant.rise (rw c.in-Some-next.ensures (name_before c.names.last.now c.in-Some-next.name.now _ (not_above _ (sym c.ge.ensures ∙ c.if-ge.false)) h));
}

pub returns : goal.returns
returns c = λ h. c.names.invariant.rise (rw c.in_default-next.ensures (one_name c.names.last.now))
