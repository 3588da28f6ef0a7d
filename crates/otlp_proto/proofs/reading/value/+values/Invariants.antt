use Rattle.std.proofs.Common.{List, length, ◌+◌, ◌*◌}
use Rattle.proto_wire.specs.Records.{Record}
use Rattle.otlp_proto.specs.Values.{list_rules, map_rules, value_rules, key_value_rules}
use Rattle.otlp_proto.specs.private.ValuesSoFar.{GatheredValue, GatheredList, GatheredMap, GatheredKeyValue}
use Rattle.span_io.proofs.GatheringLaws.{Seen}
use Rattle.proto_wire.specs.Messages.{messages}
use Rattle.otlp_proto.proofs.reading.value.+values.Given as goal

-- Each function is measured by the levels that are left, and within a level by how many calls stand at most between it and those
-- that add a value to a list or a `KeyValue` to a map, which go one level down.
abbrev pub decreases-read_key_value : goal.decreases-read_key_value
decreases-read_key_value l = 8 * l.left + 7

abbrev pub decreases-walk_key_value : goal.decreases-walk_key_value
decreases-walk_key_value l = 8 * l.left + 6

abbrev pub decreases-add_field : goal.decreases-add_field
decreases-add_field l = 8 * l.left + 5

abbrev pub decreases-read_value : goal.decreases-read_value
decreases-read_value l = 8 * l.left + 4

abbrev pub decreases-add_member : goal.decreases-add_member
decreases-add_member l = 8 * l.left + 3

abbrev pub decreases-list_member : goal.decreases-list_member
decreases-list_member l = 8 * l.left + 2

abbrev pub decreases-map_member : goal.decreases-map_member
decreases-map_member l = 8 * l.left + 2

abbrev pub decreases-read_map : goal.decreases-read_map
decreases-read_map l = 8 * l.left + 1

abbrev pub decreases-read_list : goal.decreases-read_list
decreases-read_list l = 8 * l.left + 1

abbrev pub decreases-add_key_value : goal.decreases-add_key_value
decreases-add_key_value l = 8 * l.left

abbrev pub decreases-add_value : goal.decreases-add_value
decreases-add_value l = 8 * l.left

abbrev pub invariant-read_value-members : goal.invariant-read_value-members
invariant-read_value-members l = Seen messages (value_rules l.left) (λ (seen : List Record). GatheredValue l.left seen l.row) l.bytes l.cursor.rest

abbrev pub decreases-read_value-members : goal.decreases-read_value-members
decreases-read_value-members l = length l.cursor.rest

abbrev pub invariant-read_list-values : goal.invariant-read_list-values
invariant-read_list-values l = Seen messages (list_rules l.left) (λ (seen : List Record). GatheredList l.left seen l.rows) l.bytes l.cursor.rest

abbrev pub decreases-read_list-values : goal.decreases-read_list-values
decreases-read_list-values l = length l.cursor.rest

abbrev pub invariant-read_map-pairs : goal.invariant-read_map-pairs
invariant-read_map-pairs l = Seen messages (map_rules l.left) (λ (seen : List Record). GatheredMap l.left seen l.rows) l.bytes l.cursor.rest

abbrev pub decreases-read_map-pairs : goal.decreases-read_map-pairs
decreases-read_map-pairs l = length l.cursor.rest

abbrev pub invariant-walk_key_value-fields : goal.invariant-walk_key_value-fields
invariant-walk_key_value-fields l = Seen messages (key_value_rules l.left) (λ (seen : List Record). GatheredKeyValue l.left seen l.rows) l.bytes l.cursor.rest

abbrev pub decreases-walk_key_value-fields : goal.decreases-walk_key_value-fields
decreases-walk_key_value-fields l = length l.cursor.rest
