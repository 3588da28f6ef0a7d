-- How long lists and texts may grow: their sizes are told in 31 bits (Thrift: i32).
use Rattle.std.specs.Prelude.{ℕ, ◌≤◌, List, length}

-- 2 ^ 31 - 1, the largest i32 of Thrift: the most bytes of a text, and the most members of a list
abbrev pub longest : ℕ
longest = 2147483647

-- a list or text that may be held
abbrev pub IsShort : {A : Type 0} → List A → Type 0
IsShort list = length list ≤ longest
