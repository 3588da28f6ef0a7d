use Rattle.std.proofs.Common.{All, map, sym, ap, ◌∙◌, subst}
use Rattle.trace_model.specs.OtlpParts.{NotedGroup}
use Rattle.trace_model.specs.Soundness.{IsSoundGroup}
use Rattle.map_zipkin.specs.Reading.{groups_of}
use Rattle.map_zipkin.specs.Remarks.{zipkin_left_out}
use Rattle.map_zipkin.proofs.EventFacts.{EventsRead}
use Rattle.map_zipkin.proofs.GroupsAtBack.{all_first, groups_left, noted_back}
use Rattle.map_zipkin.proofs.GroupsSound.{groups_sound}
use Rattle.map_zipkin.proofs.groups.groups_of_spans.Goals as goal

pub returns-clause-value : goal.returns-clause-value
returns-clause-value c =
    sym (noted_back c.in_ok-groups.groups) ∙ ap (map (λ (g : NotedGroup). g.means)) c.in_ok-groups.ensures
    ∙ groups_left (groups_of c.args.spans) (map zipkin_left_out c.args.spans)

pub returns-clause-sound : goal.returns-clause-sound
returns-clause-sound c =
    let facts : EventsRead = record {
      reads = c.event_texts_exact.ensures;
      no_bytes = c.event_texts_once.ensures.no_bytes;
      no_double = c.event_texts_once.ensures.no_double;
    } in
    all_first IsSoundGroup c.in_ok-groups.groups (subst (All IsSoundGroup) (sym (returns-clause-value c)) (groups_sound facts c.args.spans))
