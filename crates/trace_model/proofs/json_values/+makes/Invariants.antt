use Rattle.std.proofs.Common.{◌≡◌, Some, take}
use Rattle.serde_json.specs.Data.{no_members}
use Rattle.serde_json.specs.Read.{of_items, of_members}
use Rattle.serde_json.specs.View.{items_view, members_view}
use Rattle.trace_model.proofs.EventBytes.{items_json, members_json}
use Rattle.trace_model.proofs.json_values.+makes.Given as goal

abbrev pub invariant-json_array-members : goal.invariant-json_array-members
invariant-json_array-members l = of_items (items_json (take l.member-index l.members)) ≡ Some (items_view l.elements.items)

abbrev pub invariant-json_object-pairs : goal.invariant-json_object-pairs
invariant-json_object-pairs l = of_members (members_json (take l.pair-index l.pairs)) no_members ≡ Some (members_view l.members.entries)
