use Rattle.std.proofs.Common.{◌≡◌, ◌∙◌, rules}
use Rattle.serde_json.specs.Data.{no_members}
use Rattle.span_io.proofs.PathLaws.{exits}
use Rattle.json_nodes.specs.Lents.{members_left}
use Rattle.json_nodes.specs.Nodes.{put_all}
use Rattle.zipkin_json.proofs.TagLemmas.{put_rising, named_listed, tags_held, clean_held, halts_held}
use Rattle.zipkin_json.specs.private.Tags.{listed, pairs_in}
use Rattle.zipkin_json.proofs.reading.tags.tags_in.Goals as goal

pub returns-in_err-rising-clause-judged : goal.returns-in_err-rising-clause-judged
returns-in_err-rising-clause-judged c =
    let same : listed (members_left c.in-Some.members) ≡ put_all (members_left c.in-Some.members) no_members = put_rising (members_left c.in-Some.members) (c.names_rise.ensures c.if-names_rise.true) in
    exits c.in_err-rising.field-0.0 _ _ (search rules) (halts_held _ _ _ same c.in-Some.ensures c.in_err-rising.field-0.0 c.in_err-rising.ensures.judged)

pub returns-then-names_rise-clause-value : goal.returns-then-names_rise-clause-value
returns-then-names_rise-clause-value c =
    let same : listed (members_left c.in-Some.members) ≡ put_all (members_left c.in-Some.members) no_members = put_rising (members_left c.in-Some.members) (c.names_rise.ensures c.if-names_rise.true) in
    tags_held _ _ _ same c.in-Some.ensures c.in_ok-rising.rising c.in_ok-rising.ensures.value

pub returns-then-names_rise-clause-judged : goal.returns-then-names_rise-clause-judged
returns-then-names_rise-clause-judged c =
    let same : listed (members_left c.in-Some.members) ≡ put_all (members_left c.in-Some.members) no_members = put_rising (members_left c.in-Some.members) (c.names_rise.ensures c.if-names_rise.true) in
    clean_held _ _ _ same c.in-Some.ensures c.in_ok-rising.ensures.judged

pub returns-in_err-tags-clause-judged : goal.returns-in_err-tags-clause-judged
returns-in_err-tags-clause-judged c =
    let same : listed (pairs_in c.in_ok-named.named.entries) ≡ put_all (members_left c.in-Some.members) no_members = named_listed c.in_ok-named.named.entries ∙ c.in_ok-named.ensures in
    exits c.in_err-tags.field-0.0 _ _ (search rules) (halts_held _ _ _ same c.in-Some.ensures c.in_err-tags.field-0.0 c.in_err-tags.ensures.judged)

pub returns-clause-value : goal.returns-clause-value
returns-clause-value c =
    let same : listed (pairs_in c.in_ok-named.named.entries) ≡ put_all (members_left c.in-Some.members) no_members = named_listed c.in_ok-named.named.entries ∙ c.in_ok-named.ensures in
    tags_held _ _ _ same c.in-Some.ensures c.in_ok-tags.tags c.in_ok-tags.ensures.value

pub returns-clause-judged : goal.returns-clause-judged
returns-clause-judged c =
    let same : listed (pairs_in c.in_ok-named.named.entries) ≡ put_all (members_left c.in-Some.members) no_members = named_listed c.in_ok-named.named.entries ∙ c.in_ok-named.ensures in
    clean_held _ _ _ same c.in-Some.ensures c.in_ok-tags.ensures.judged
