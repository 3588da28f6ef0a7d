-- What the head of an answer says (RFC 9112, sections 2.1 and 4).
use Rattle.std.specs.Prelude.{◌≡◌, ◌≤◌, ℕ, ◌+◌, List, [], length, take}
use Rattle.httparse.specs.Grammar.{ReadsResponse, ResponseHead, status_code}
use Rattle.http_conn.specs.Heads.{EndsFirstAt, most_lines}

-- All of these bytes are a response head of at most 64 field lines, and this is its status.
pub record IsAnswerHead (bytes : List ℕ) (status : ℕ) : Type 0 where
  pub head : ResponseHead
  pub reads : ReadsResponse bytes head []
  pub few : length head.fields ≤ most_lines
  pub status_is : status ≡ status_code head

-- The first head that ends in these bytes, of which so many at most are looked at, is one of this status.
pub record TellsStatus (most : ℕ) (bytes : List ℕ) (status : ℕ) : Type 0 where
  pub place : ℕ
  pub ends : EndsFirstAt (take most bytes) place
  pub is_head : IsAnswerHead (take (place + 4) bytes) status

-- There is none of any status.
abbrev pub TellsNoStatus : ℕ → List ℕ → Type 0
TellsNoStatus most bytes = (status : ℕ) → ¬ (TellsStatus most bytes status)
