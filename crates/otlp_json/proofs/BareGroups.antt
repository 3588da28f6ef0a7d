-- The text of a group in which nothing stands.
use Rattle.std.proofs.Common.{◌≡◌, [], codes, refl}
use Rattle.trace_model.specs.declared.group.Group.{Group}
use Rattle.otlp_json.specs.Canonical.{json_group_text}

pub bare_text : (group : Group) → group.resource ≡ [] → group.dropped ≡ 0 → group.schema_url ≡ [] → group.scopes ≡ []
    → json_group_text group ≡ codes "{}"
unfolding json_group_text
bare_text group no_attributes none_dropped no_url no_scopes = rw (no_attributes, none_dropped, no_url, no_scopes) refl
