use Rattle.std.proofs.Common.{◌≡◌, string_bytes, ap, ◌∙◌}
use Rattle.serde_json.specs.Data.{put}
use Rattle.serde_json.specs.View.{view, members_view}
use Rattle.serde_json.proofs.Views.{members_view-insert_entry}
use Rattle.trace_model.proofs.json_values.put_member.Goals as goal

pub returns : goal.returns
returns c =
    let old = c.args.members.now.entries in
    let named : string_bytes c.in_ok-name.name ≡ c.args.key.now = c.in_ok-name.ensures.ok ∙ c.as_str.ensures.value in
    ap members_view c.in_ok-insert.ensures.entries ∙ members_view-insert_entry old c.in_ok-name.name c.args.json
    ∙ ap (λ k. put k (view c.args.json) (members_view old)) named
