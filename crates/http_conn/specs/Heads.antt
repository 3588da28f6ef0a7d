-- Where the head of a request ends, and how its lines end (RFC 9112, sections 2.1 and 2.2).
use Rattle.std.specs.Prelude.{◌≡◌, ℕ, ◌+◌, ◌<◌, Bool, false, not, ◌&&◌, ◌||◌, ◌==◌, List, [], ◌∷◌, take, drop, cond, nat_lt}
use Rattle.std.specs.List.{count_by, starts_with}
use Rattle.std.specs.Prelude.{nat_eq}
use Rattle.httparse.specs.Ascii.{carriage_return, line_feed, crlf_bytes}

-- the end of the last line, and the empty line behind it
abbrev pub head_end : List ℕ
head_end = carriage_return ∷ line_feed ∷ carriage_return ∷ line_feed ∷ []

-- these four bytes stand at this place
abbrev pub EndsAt : List ℕ → ℕ → Type 0
EndsAt bytes place = take 4 (drop place bytes) ≡ head_end

-- and at none before it
pub record EndsFirstAt (bytes : List ℕ) (place : ℕ) : Type 0 where
  pub ends : EndsAt bytes place
  pub first : (k : ℕ) → k < place → ¬ (EndsAt bytes k)

-- no head ends in these bytes: CR LF CR LF stands nowhere in them
abbrev pub EndsNowhere : List ℕ → Type 0
EndsNowhere bytes = (place : ℕ) → ¬ (EndsAt bytes place)

-- whether a line feed stands behind another byte than a carriage return; `last` is the byte in front
abbrev pub has_lone_after : ℕ → List ℕ → Bool
has_lone_after last [] = false
has_lone_after last (b ∷ rest) = (b == line_feed && not (last == carriage_return)) || has_lone_after b rest

-- whether a line of the head ends with a line feed that no carriage return stands in front of (RFC 9112, section 2.2)
abbrev pub has_lone_line_feed : List ℕ → Bool
has_lone_line_feed head = has_lone_after 0 head

-- a head from its request line on: an empty line in front of it is ignored (section 2.2)
abbrev pub from_request_line : List ℕ → List ℕ
from_request_line head = cond (starts_with nat_eq head crlf_bytes) (drop 2 head) head

-- the most field lines that a head may have
abbrev pub most_lines : ℕ
most_lines = 64

-- whether there are more lines than the request line, as many field lines as a head may have, and the empty line
abbrev pub has_too_many_lines : List ℕ → Bool
has_too_many_lines head = nat_lt (1 + most_lines + 1) (count_by (λ b. b == line_feed) (from_request_line head))
