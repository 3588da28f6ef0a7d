-- What a node is by itself. Only private clauses name it.
use Rattle.std.specs.Prelude.{ℕ, List, [], ◌∷◌, Bool, true, false, Option, Some, None, cond}
use Rattle.json_nodes.specs.declared.node.Node.{Node}
use Rattle.json_nodes.specs.declared.node.Node.TheVariants.{Null, Truth, Number, Text, Key, Array, Object}
use Rattle.json_nodes.specs.declared.number.Number as number
use Rattle.std.specs.Str.{bytes_eq}
use Rattle.serde_json.specs.Data.{Data}

-- the first node, or null if there is none
abbrev pub first_or_null : List Node → Node
first_or_null [] = Null
first_or_null (n ∷ ns) = n

-- null, or no value
abbrev pub is_null_node : Node → Bool
is_null_node Null = true
is_null_node (Truth b) = false
is_null_node (Number n) = false
is_null_node (Text s) = false
is_null_node (Key k) = true
is_null_node (Array count) = false
is_null_node (Object count) = false

-- the truth value that a node is, if it is one
abbrev pub truth_in : Node → Option Bool
truth_in Null = None
truth_in (Truth b) = Some b
truth_in (Number n) = None
truth_in (Text s) = None
truth_in (Key k) = None
truth_in (Array count) = None
truth_in (Object count) = None

-- the number that a node is, if it is one
abbrev pub number_in : Node → Option number.Number
number_in Null = None
number_in (Truth b) = None
number_in (Number n) = Some n
number_in (Text s) = None
number_in (Key k) = None
number_in (Array count) = None
number_in (Object count) = None

-- the bytes of the string that a node is, if it is one
abbrev pub text_in : Node → Option (List ℕ)
text_in Null = None
text_in (Truth b) = None
text_in (Number n) = None
text_in (Text s) = Some s.now
text_in (Key k) = None
text_in (Array count) = None
text_in (Object count) = None

-- the bytes of the key that a node is, if it is one
abbrev pub key_in : Node → Option (List ℕ)
key_in Null = None
key_in (Truth b) = None
key_in (Number n) = None
key_in (Text s) = None
key_in (Key k) = Some k.now
key_in (Array count) = None
key_in (Object count) = None

-- how many nodes follow that are inside
abbrev pub array_in : Node → Option ℕ
array_in Null = None
array_in (Truth b) = None
array_in (Number n) = None
array_in (Text s) = None
array_in (Key k) = None
array_in (Array count) = Some count
array_in (Object count) = None

-- how many nodes follow that are inside, if the node is an object
abbrev pub object_in : Node → Option ℕ
object_in Null = None
object_in (Truth b) = None
object_in (Number n) = None
object_in (Text s) = None
object_in (Key k) = None
object_in (Array count) = None
object_in (Object count) = Some count

-- how many nodes follow that are inside a value, 0 unless it is an array or an object; a key is no value
abbrev pub nodes_inside : Node → Option ℕ
nodes_inside Null = Some 0
nodes_inside (Truth b) = Some 0
nodes_inside (Number n) = Some 0
nodes_inside (Text s) = Some 0
nodes_inside (Key k) = None
nodes_inside (Array count) = Some count
nodes_inside (Object count) = Some count

-- the later value of a key, if there is one, else the earlier
abbrev pub later_or : Option Data → Option Data → Option Data
later_or None earlier = earlier
later_or (Some d) earlier = Some d

-- the last value of this key
abbrev pub last_value : List ℕ → List (List ℕ × Data) → Option Data
last_value k [] = None
last_value k (m ∷ more) = later_or (last_value k more) (cond (bytes_eq m.0 k) (Some m.1) None)
