-- Lists of datagrams, each of which fits the buffer.
use Rattle.std.specs.Prelude.{ℕ, ◌≤◌, List, [], ◌∷◌, length, ⊤}
use Rattle.span_agent.specs.Posts.{most_bytes}

-- each of them has at most 65535 bytes
abbrev pub AreDatagrams : List (List ℕ) → Type 0
AreDatagrams [] = ⊤
AreDatagrams (datagram ∷ datagrams) = (length datagram ≤ most_bytes) × AreDatagrams datagrams
