use Rattle.std.proofs.Common.{◌≡◌, Some, Err, ap, rules, arith}
use Rattle.serde_json.specs.Read.{read}
use Rattle.json_nodes.specs.Lents.{lent_view}
use Rattle.json_members.specs.Texts.{IsJsonText}
use Rattle.json_members.proofs.CountedTexts.{values_within}
use Rattle.json_members.proofs.ReadingLaws.{judged_text, unread_halts}
use Rattle.otlp_json.specs.Group.{json_groups_offend}
use Rattle.otlp_json.proofs.ReadingLemmas.{only_groups, value_text, held_text, only_text, unread_only}
use Rattle.otlp_json.proofs.reading.input.read_text.Goals as goal

pub returns-in-Ok-clause-judged : goal.returns-in-Ok-clause-judged
returns-in-Ok-clause-judged c =
    let reading : read c.args.bytes.now ≡ Some (lent_view c.of.result) = search rules in
    let is : IsJsonText (lent_view c.of.result) c.args.bytes.now = record { utf8 = c.in-Ok.ensures.ok.0; reading = reading } in
    judged_text json_groups_offend c.args.bytes.now (lent_view c.of.result) is c.read_root.result c.read_root.ensures.judged

pub returns-in-Ok-clause-value : goal.returns-in-Ok-clause-value
returns-in-Ok-clause-value c =
    let reading : read c.args.bytes.now ≡ Some (lent_view c.of.result) = search rules in
    let is : IsJsonText (lent_view c.of.result) c.args.bytes.now = record { utf8 = c.in-Ok.ensures.ok.0; reading = reading } in
    value_text c.args.bytes.now (lent_view c.of.result) is c.read_root.result c.read_root.ensures.value

pub returns-in-Ok-clause-held : goal.returns-in-Ok-clause-held
returns-in-Ok-clause-held c =
    let reading : read c.args.bytes.now ≡ Some (lent_view c.of.result) = search rules in
    let is : IsJsonText (lent_view c.of.result) c.args.bytes.now = record { utf8 = c.in-Ok.ensures.ok.0; reading = reading } in
    held_text c.args.bytes.now (lent_view c.of.result) is c.reads_held_groups.ensures c.read_root.result c.read_root.ensures.value

pub returns-in-Ok-clause-only : goal.returns-in-Ok-clause-only
returns-in-Ok-clause-only c =
    let reading : read c.args.bytes.now ≡ Some (lent_view c.of.result) = search rules in
    let is : IsJsonText (lent_view c.of.result) c.args.bytes.now = record { utf8 = c.in-Ok.ensures.ok.0; reading = reading } in
    only_text c.args.bytes.now (lent_view c.of.result) is c.read_root.result
    (only_groups c.one_json_groups.ensures (lent_view c.of.result) c.read_root.result c.read_root.ensures.value c.read_root.ensures.judged)

pub returns-clause-judged : goal.returns-clause-judged
returns-clause-judged c = unread_halts json_groups_offend c.args.bytes.now c.in-Err.why (λ is. c.in-Err.ensures.bad (ap (λ y. Err y) is)) c.unread.result c.unread.ensures

pub returns-clause-only : goal.returns-clause-only
returns-clause-only c = unread_only c.args.bytes.now c.in-Err.why (λ is. c.in-Err.ensures.bad (ap (λ y. Err y) is)) c.unread.result c.unread.ensures

pub read_root-requires : goal.read_root-requires
read_root-requires c =
    let reading : read c.args.bytes.now ≡ Some (lent_view c.of.result) = search rules in
    let fits = values_within c.args.bytes.now (lent_view c.of.result) reading in
    record { counted = omega (arith, c.requires.counted, fits) }
