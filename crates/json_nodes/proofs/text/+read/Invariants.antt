use Rattle.std.proofs.Common.{◌≡◌, ℕ, ◌+◌, ◌*◌, ◌≤◌, List, length, map}
use Rattle.json.specs.Json.{items, members, value, parse_map}
use Rattle.serde_json.specs.Data.{Data, no_members}
use Rattle.serde_json.specs.Read.{of_items, of_members, converted}
use Rattle.json_nodes.specs.private.Building.{Adds, member_entries}
use Rattle.json_nodes.specs.Nodes.{value as held, put_all}
use Rattle.json_nodes.proofs.TokenLemmas.{items_before}
use Rattle.json_nodes.proofs.text.+read.Given as goal

abbrev pub decreases-read : goal.decreases-read
decreases-read l = 3 * l.depth

abbrev pub decreases-read_array : goal.decreases-read_array
decreases-read_array l = 3 * l.depth + 2

abbrev pub decreases-read_elements : goal.decreases-read_elements
decreases-read_elements l = 3 * l.depth + 1

abbrev pub decreases-read_object : goal.decreases-read_object
decreases-read_object l = 3 * l.depth + 2

abbrev pub decreases-read_members : goal.decreases-read_members
decreases-read_members l = 3 * l.depth + 1

abbrev pub invariant-read_elements-elements : goal.invariant-read_elements-elements
invariant-read_elements-elements l = record {
  turns : ℕ;
  enough : length l.reader ≤ turns;
  seen : List Data;
  adds : Adds l.initial.nodes.items l.nodes.items (map held seen);
  so_far : converted of_items (items (value l.depth) (length l.initial.reader) l.initial.reader) ≡ parse_map (items_before seen) (converted of_items (items (value l.depth) turns l.reader));
  shorter : length l.reader ≤ length l.initial.reader;
}

abbrev pub decreases-read_elements-elements : goal.decreases-read_elements-elements
decreases-read_elements-elements l = length l.reader

abbrev pub invariant-read_members-members : goal.invariant-read_members-members
invariant-read_members-members l = record {
  turns : ℕ;
  enough : length l.reader ≤ turns;
  seen : List (List ℕ × Data);
  adds : Adds l.initial.nodes.items l.nodes.items (member_entries seen);
  so_far : converted (λ ms. of_members ms no_members) (members (value l.depth) (length l.initial.reader) l.initial.reader) ≡ converted (λ ms. of_members ms (put_all seen no_members)) (members (value l.depth) turns l.reader);
  shorter : length l.reader ≤ length l.initial.reader;
}

abbrev pub decreases-read_members-members : goal.decreases-read_members-members
decreases-read_members-members l = length l.reader
