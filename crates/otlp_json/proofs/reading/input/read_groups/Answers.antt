use Rattle.std.proofs.Common.{◌≡◌, sym, subst, rules}
use Rattle.std.specs.Prelude.{IfOk}
use Rattle.serde_json.specs.View.{view}
use Rattle.json_nodes.specs.Lents.{lent_view}
use Rattle.span_io.specs.Paths.{JudgesInput}
use Rattle.json_members.specs.Counted.{IsCountedValue}
use Rattle.otlp_json.specs.Group.{AreJsonGroups, json_groups_offend}
use Rattle.otlp_json.proofs.ReadingLemmas.{only_groups}
use Rattle.otlp_json.proofs.SoundGroups.{groups_sound}
use Rattle.otlp_json.proofs.reading.input.read_groups.Goals as goal

pub returns-in-Ok-clause-value : goal.returns-in-Ok-clause-value
returns-in-Ok-clause-value c =
    let same : lent_view c.of.result ≡ view c.args.v.now = search rules in
    subst (λ d. IfOk c.read_root.result (λ groups. AreJsonGroups groups d)) same c.read_root.ensures.value

pub returns-in-Ok-clause-sound : goal.returns-in-Ok-clause-sound
returns-in-Ok-clause-sound c = groups_sound c.members_of_values.ensures (lent_view c.of.result) c.read_root.result c.read_root.ensures.value

pub returns-in-Ok-clause-judged : goal.returns-in-Ok-clause-judged
returns-in-Ok-clause-judged c =
    let same : lent_view c.of.result ≡ view c.args.v.now = search rules in
    subst (λ d. JudgesInput c.read_root.result (json_groups_offend d)) same c.read_root.ensures.judged

pub returns-in-Ok-clause-only : goal.returns-in-Ok-clause-only
returns-in-Ok-clause-only c =
    let same : lent_view c.of.result ≡ view c.args.v.now = search rules in
    λ groups is. only_groups c.one_json_groups.ensures (lent_view c.of.result) c.read_root.result c.read_root.ensures.value c.read_root.ensures.judged
    groups (subst (AreJsonGroups groups) (sym same) is)

pub read_root-requires : goal.read_root-requires
read_root-requires c =
    let same : lent_view c.of.result ≡ view c.args.v.now = search rules in
    record { counted = subst IsCountedValue (sym same) c.requires.counted }
