-- What a list of nodes stands for. A text, a number and the like are one node each. Behind the node of an array or an object stand the nodes
-- inside it, as many as it says; in an object a key stands before the value of each member. Nodes beyond the end of a list aren't there.
use Rattle.std.specs.Prelude.{ℕ, zero, suc, min, List, [], ◌∷◌, length, Option, Some, None}
use Rattle.serde_json.specs.Data.{Num, unsigned, negative, float, Data, null, boolean, number, string, array, object, Members, no_members, put}
use Rattle.serde_json.specs.View.{items_of}
use Rattle.json_nodes.specs.declared.node.Node.{Node}
use Rattle.json_nodes.specs.declared.node.Node.TheVariants as nodes
use Rattle.json_nodes.specs.declared.number.Number.{Number}
use Rattle.json_nodes.specs.declared.number.Number.TheVariants as numbers

-- a number of JSON: a whole one that isn't negative, a negative whole one, or a double
abbrev pub num_of : Number → Num
num_of (numbers.Unsigned n) = unsigned n
num_of (numbers.Negative z) = negative z
num_of (numbers.Double x) = float x

-- what nodes spell at one level
pub data Entry : Type 0 where
  key : List ℕ → Entry
  value : Data → Entry

-- the value that comes first, and what is behind it
abbrev pub next_value : List Entry → Option (Data × List Entry)
next_value [] = None
next_value (key k ∷ es) = None
next_value (value d ∷ es) = Some (d, es)

-- the values up to the first key
abbrev pub values_of : List Entry → List Data
values_of [] = []
values_of (key k ∷ es) = []
values_of (value d ∷ es) = d ∷ values_of es

-- the keys, each with its value
abbrev pub pairs_of : List Entry → List (List ℕ × Data)
pairs_of [] = []
pairs_of (value d ∷ es) = []
pairs_of (key k ∷ []) = []
pairs_of (key k ∷ key l ∷ es) = []
pairs_of (key k ∷ value d ∷ es) = (k, d) ∷ pairs_of es

-- members put in one after another, so that the last value of a key stays
abbrev pub put_all : List (List ℕ × Data) → Members → Members
put_all [] found = found
put_all (m ∷ more) found = put_all more (put m.0 m.1 found)

-- what the nodes before `end` spell, where the first `skip` of them are passed over
unfoldable pub entries : ℕ → ℕ → List Node → List Entry
entries skip end [] = []
entries skip zero (n ∷ ns) = []
entries (suc skip) (suc end) (n ∷ ns) = entries skip end ns
entries zero (suc end) (nodes.Null ∷ ns) = value null ∷ entries zero end ns
entries zero (suc end) (nodes.Truth b ∷ ns) = value (boolean b) ∷ entries zero end ns
entries zero (suc end) (nodes.Number n ∷ ns) = value (number (num_of n)) ∷ entries zero end ns
entries zero (suc end) (nodes.Text s ∷ ns) = value (string s.now) ∷ entries zero end ns
entries zero (suc end) (nodes.Key k ∷ ns) = key k.now ∷ entries zero end ns
entries zero (suc end) (nodes.Array count ∷ ns) =
    value (array (items_of (values_of (entries zero (min count end) ns)))) ∷ entries count end ns
entries zero (suc end) (nodes.Object count ∷ ns) =
    value (object (put_all (pairs_of (entries zero (min count end) ns)) no_members)) ∷ entries count end ns

-- what all of them spell
abbrev pub spelled : List Node → List Entry
spelled ns = entries 0 (length ns) ns

-- the value that was found first, or null if there is none
abbrev pub value_or_null : Option (Data × List Entry) → Data
value_or_null None = null
value_or_null (Some p) = p.0

-- the value that they begin with
abbrev pub value_at : List Node → Data
value_at ns = value_or_null (next_value (spelled ns))
