-- Items of a wire format, one after the other, and why no item stands at the front of some bytes. These words serve every wire
-- format: it says which bytes are one whole item, where in an item a varint stands, and which lengths an item holds.
use Rattle.std.specs.Prelude.{◌≡◌, ◌≢◌, ℕ, ◌<◌, ◌≤◌, ◌⊎◌, List, [], ◌∷◌, ◌++◌, length, All}
use Rattle.span_io.specs.Varint.{IsInsideVarint, IsOverlong}

-- the numbers are bytes
abbrev pub AreBytes : List ℕ → Type 0
AreBytes numbers = All (λ b. b < 256) numbers

-- a wire format, as far as its items are found one after the other: what a whole item is, and what is known inside of one
pub record Framing : Type 1 where
  -- the bytes are one item
  pub Whole : List ℕ → Type 0
  -- behind these first bytes of an item a varint stands
  pub ThenVarint : List ℕ → Type 0
  -- the bytes hold a length by which a string or a message ends behind so many bytes of the item
  pub EndsPast : ℕ → List ℕ → Type 0

-- more bytes can follow that make an item of them
pub record IsProperFront (F : Framing) (bytes : List ℕ) : Type 0 where
  pub more : List ℕ
  pub are_bytes : AreBytes more
  pub some : more ≢ []
  pub whole : F.Whole (bytes ++ more)

-- They end inside a varint, before which all is right: a number is judged when its last byte is there.
pub record EndsInVarint (F : Framing) (bytes : List ℕ) : Type 0 where
  pub front : List ℕ
  pub inside : List ℕ
  pub then_varint : F.ThenVarint front
  pub proper : IsProperFront F front
  pub some : 0 < length inside
  pub unended : IsInsideVarint inside
  pub parts : bytes ≡ front ++ inside

-- an item may yet come of the bytes
abbrev pub IsOpen : Framing → List ℕ → Type 0
IsOpen F bytes = IsProperFront F bytes ⊎ EndsInVarint F bytes

-- More bytes make an item of the bytes, less a varint at their end that isn't ended.
pub record CanBeCompleted (F : Framing) (bytes : List ℕ) : Type 0 where
  pub front : List ℕ
  pub inside : List ℕ
  pub parts : bytes ≡ front ++ inside
  pub unended : IsInsideVarint inside
  pub proper : IsProperFront F front

-- an item, and then rest
pub record BeginsWhole (F : Framing) (bytes : List ℕ) : Type 0 where
  pub text : List ℕ
  pub rest : List ℕ
  pub whole : F.Whole text
  pub parts : bytes ≡ text ++ rest

-- no item stands at the front, and none can come of the bytes
pub record IsRefused (F : Framing) (bytes : List ℕ) : Type 0 where
  pub closed : ¬ IsOpen F bytes
  pub none : ¬ BeginsWhole F bytes

-- the shortest front of the bytes that is refused
pub record ShortestRefused (F : Framing) (front bytes : List ℕ) : Type 0 where
  pub refused : IsRefused F front
  pub rest : List ℕ
  pub parts : bytes ≡ front ++ rest
  pub least : (shorter more : List ℕ) → front ≡ shorter ++ more → more ≢ [] → ¬ IsRefused F shorter

-- The bytes end with the tenth byte of a varint, which is above 1.
pub record EndsInTenth (F : Framing) (bytes : List ℕ) : Type 0 where
  pub front : List ℕ
  pub varint : List ℕ
  pub then_varint : F.ThenVarint front
  pub overlong : IsOverlong varint
  pub parts : bytes ≡ front ++ varint

-- The shortest refused front ends in an item of this kind.
pub record IsRefusedAt (F : Framing) (EndsIn : List ℕ → Type 0) (bytes : List ℕ) : Type 0 where
  pub front : List ℕ
  pub shortest : ShortestRefused F front bytes
  pub ends_in : EndsIn front

-- ---- items that may have at most `limit` bytes

-- an item of n bytes, at most `limit`, and then rest
pub record BeginsFrame (F : Framing) (limit n : ℕ) (bytes : List ℕ) : Type 0 where
  pub text : List ℕ
  pub rest : List ℕ
  pub whole : F.Whole text
  pub parts : bytes ≡ text ++ rest
  pub size : length text ≡ n
  pub within : n ≤ limit

-- An item may yet come of the bytes, but it has more than `limit` of them: they are as many already and no item, or they hold a
-- length that says so.
pub record IsTooLong (F : Framing) (limit : ℕ) (bytes : List ℕ) : Type 0 where
  pub may_come : IsOpen F bytes
  pub beyond : (length bytes ≡ limit) ⊎ F.EndsPast limit bytes

-- the bytes are an item or are refused
abbrev pub IsDecided : Framing → ℕ → List ℕ → Type 0
IsDecided F limit bytes = F.Whole bytes ⊎ (IsTooLong F limit bytes ⊎ IsRefused F bytes)

-- The bytes are open, and no front of them is an item or is refused.
pub record NeedsMore (F : Framing) (limit : ℕ) (bytes : List ℕ) : Type 0 where
  pub may_come : IsOpen F bytes
  pub undecided : (front rest : List ℕ) → bytes ≡ front ++ rest → ¬ IsDecided F limit front

-- The shortest front that is an item or is refused is of this kind.
pub record DecidedBy (F : Framing) (limit : ℕ) (IsOfKind : List ℕ → Type 0) (bytes : List ℕ) : Type 0 where
  pub front : List ℕ
  pub rest : List ℕ
  pub parts : bytes ≡ front ++ rest
  pub kind : IsOfKind front
  pub earlier : (shorter more : List ℕ) → front ≡ shorter ++ more → more ≢ [] → ¬ IsDecided F limit shorter

-- ---- the kinds

-- one item of n bytes
abbrev pub IsItemOf : Framing → ℕ → List ℕ → Type 0
IsItemOf F n bytes = F.Whole bytes × (length bytes ≡ n)

-- refused, in an item of a kind that names the cause
abbrev pub IsRefusedIn : Framing → (List ℕ → Type 0) → List ℕ → Type 0
IsRefusedIn F EndsIn bytes = IsRefused F bytes × EndsIn bytes

-- ---- all items of some bytes

-- the bytes are these items, in order, each of at most `limit` bytes, and then rest
unfoldable pub ItemsThen : Framing → ℕ → List (List ℕ) → List ℕ → List ℕ → Type 0
ItemsThen F limit [] rest bytes = bytes ≡ rest
ItemsThen F limit (item ∷ more) rest bytes =
    F.Whole item × (length item ≤ limit) × (behind : List ℕ) × (bytes ≡ item ++ behind) × ItemsThen F limit more rest behind

-- the same, and the rest begins with no such item
pub record IsFramed (F : Framing) (limit : ℕ) (items : List (List ℕ)) (rest bytes : List ℕ) : Type 0 where
  pub items_then : ItemsThen F limit items rest bytes
  pub no_more : (n : ℕ) → ¬ BeginsFrame F limit n rest

-- behind these items and their rest others go on, to a rest of their own
pub record GoesOn (F : Framing) (limit : ℕ) (items others : List (List ℕ)) (rest other : List ℕ) : Type 0 where
  pub more : List (List ℕ)
  pub parts : others ≡ items ++ more
  pub items_then : ItemsThen F limit more other rest
