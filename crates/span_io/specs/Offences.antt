-- What is wrong with the contents of a message, and which of it counts. An offence is a place and a number. The place of an item
-- is the count of the message's bytes up to and including the item's first byte, and the place of the message's end is the count
-- of all its bytes. Inside an inner message places are counted from its own start. These words serve every wire format whose
-- messages are items, one after the other: protobuf records, and Thrift fields.
use Rattle.std.specs.Prelude.{◌≡◌, ℕ, zero, suc, ◌+◌, ◌<◌, ◌≤◌, ◌⊎◌, List, [], ◌∷◌, Result, Ok, Err}
use Rattle.span_io.specs.Causes.{cause_number}
use Rattle.span_io.specs.declared.cause.Cause.{Cause}
use Rattle.span_io.specs.declared.halt.Halt.{Halt}
use Rattle.span_io.specs.declared.halt.Halt.TheVariants as halts

-- How a wire format lays out a message.
pub record Format : Type 1 where
  pub Item : Type 0
  -- what is left of a message: its bytes, and what else the format must know there
  pub Rest : Type 0
  -- how many bytes are left
  pub size : Rest → ℕ
  -- this item stands at the front, and then that is left
  pub Begins : Item → Rest → Rest → Type 0
  -- nothing is left but the message's end
  pub IsEnd : Rest → Type 0
  -- no item stands at the front of what is left, and this is the number of the cause
  pub Unread : Rest → ℕ → Type 0
  -- how many bytes of an inner message the item ends with, if it can hold one
  pub held : Item → ℕ
  -- how many bytes an item has at least beside those of an inner message
  pub beside : ℕ

-- The rules of one message.
pub record Rules (Item : Type 0) : Type 1 where
  -- behind these items, this item offends with this number
  pub here : List Item → Item → ℕ → Type 0
  -- the message inside this item offends, at this place in it, with this number
  pub inside : Item → ℕ → ℕ → Type 0
  -- at the end, behind these items, the message offends with this number
  pub ends : List Item → ℕ → Type 0

-- the message begins with these items, and then that is left
unfoldable pub Cut : (F : Format) → F.Rest → List F.Item → F.Rest → Type 0
Cut F text [] rest = text ≡ rest
Cut F text (this ∷ seen) rest = (after : F.Rest) × F.Begins this text after × Cut F after seen rest

-- an item has no reading
pub record Unread (F : Format) (text : F.Rest) (place number : ℕ) : Type 0 where
  pub seen : List F.Item
  pub rest : F.Rest
  pub cut : Cut F text seen rest
  pub offends : F.Unread rest number
  pub placed : place + F.size rest ≡ F.size text + 1

-- an item breaks a rule
pub record Here (F : Format) (K : Rules F.Item) (text : F.Rest) (place number : ℕ) : Type 0 where
  pub seen : List F.Item
  pub rest : F.Rest
  pub cut : Cut F text seen rest
  pub this : F.Item
  pub after : F.Rest
  pub begins : F.Begins this rest after
  pub offends : K.here seen this number
  pub placed : place + F.size rest ≡ F.size text + 1

-- the message inside an item breaks a rule: the place is the count of the bytes before that message, and its place in it
pub record Inside (F : Format) (K : Rules F.Item) (text : F.Rest) (place number : ℕ) : Type 0 where
  pub seen : List F.Item
  pub rest : F.Rest
  pub cut : Cut F text seen rest
  pub this : F.Item
  pub after : F.Rest
  pub begins : F.Begins this rest after
  pub inner : ℕ
  pub offends : K.inside this inner number
  pub placed : place + F.held this + F.size after ≡ F.size text + inner

-- the message breaks a rule at its end
pub record AtEnd (F : Format) (K : Rules F.Item) (text : F.Rest) (place number : ℕ) : Type 0 where
  pub seen : List F.Item
  pub rest : F.Rest
  pub cut : Cut F text seen rest
  pub is_end : F.IsEnd rest
  pub offends : K.ends seen number
  pub placed : place ≡ F.size text

-- what offends in a message
pub data Offence (F : Format) (K : Rules F.Item) (text : F.Rest) (place number : ℕ) : Type 0 where
  unread : Unread F text place number → Offence F K text place number
  here : Here F K text place number → Offence F K text place number
  inside : Inside F K text place number → Offence F K text place number
  at_end : AtEnd F K text place number → Offence F K text place number

-- the number of the offence that counts: the least by place, and at one place by number
pub record Least (Offends : ℕ → ℕ → Type 0) (number : ℕ) : Type 0 where
  pub place : ℕ
  pub offence : Offends place number
  pub least : (p n : ℕ) → Offends p n → (place < p) ⊎ ((place ≡ p) × (number ≤ n))

-- Nothing offends where there is a value, and a cause is that of the offence that counts.
abbrev pub Judges : {T : Type 0} → Result T (Halt Cause) → (ℕ → ℕ → Type 0) → Type 0
Judges (Ok x) Offends = (place number : ℕ) → ¬ Offends place number
Judges (Err (halts.Why cause)) Offends = Least Offends (cause_number cause)
Judges (Err halts.OutOfMemory) Offends = Unit {0}

-- this value is read, or memory is wanted
abbrev pub OnlyReads : {T E : Type 0} → Result T (Halt E) → T → Type 0
OnlyReads (Ok read) value = read ≡ value
OnlyReads (Err (halts.Why why)) value = ⊥
OnlyReads (Err halts.OutOfMemory) value = Unit {0}

-- what is judged where there is no value
abbrev pub OnHalt : {T : Type 0} → Result T (Halt Cause) → (ℕ → ℕ → Type 0) → Type 0
OnHalt (Ok x) Offends = Unit {0}
OnHalt (Err (halts.Why cause)) Offends = Least Offends (cause_number cause)
OnHalt (Err halts.OutOfMemory) Offends = Unit {0}

-- ---- for a reader that goes on item by item

-- what offends here, at 0, and at suc p what offends at the place p of what is inside
abbrev pub HereOrInside : (ℕ → Type 0) → (ℕ → ℕ → Type 0) → ℕ → ℕ → Type 0
HereOrInside Here Inside zero number = Here number
HereOrInside Here Inside (suc place) number = Inside place number

-- what offends in one item behind others
abbrev pub ItemOffends : (Item : Type 0) → Rules Item → List Item → Item → ℕ → ℕ → Type 0
ItemOffends Item K seen this place number = HereOrInside (K.here seen this) (K.inside this) place number

-- Of the numbers that offend at one place the least is answered, if there is any.
abbrev pub JudgesHere : {T : Type 0} → Result T (Halt Cause) → (ℕ → Type 0) → Type 0
JudgesHere (Ok x) Offends = (n : ℕ) → ¬ Offends n
JudgesHere (Err (halts.Why cause)) Offends = Offends (cause_number cause) × ((n : ℕ) → Offends n → cause_number cause ≤ n)
JudgesHere (Err halts.OutOfMemory) Offends = Unit {0}

-- what a wire format must keep
pub record FormatLaws (F : Format) : Type 0 where
  pub only : (r s : F.Item) (rest after other : F.Rest) → F.Begins r rest after → F.Begins s rest other
      → (r ≡ s) × (after ≡ other)
  pub room : (r : F.Item) (rest after : F.Rest) → F.Begins r rest after → F.size after + F.held r + F.beside ≤ F.size rest
  pub some_beside : 1 ≤ F.beside
  -- no item begins at the place of the message's end
  pub end_room : (rest : F.Rest) → F.IsEnd rest → 2 ≤ F.size rest + F.beside
  pub stuck : (r : F.Item) (rest after : F.Rest) (n : ℕ) → F.Unread rest n → F.Begins r rest after → ⊥
  pub ended : (r : F.Item) (rest after : F.Rest) → F.IsEnd rest → F.Begins r rest after → ⊥
  pub unended : (rest : F.Rest) (n : ℕ) → F.IsEnd rest → F.Unread rest n → ⊥
  pub one_number : (rest : F.Rest) (n m : ℕ) → F.Unread rest n → F.Unread rest m → n ≡ m
  pub some_left : (rest : F.Rest) (n : ℕ) → F.Unread rest n → 0 < F.size rest

-- what the rules of a message must keep: an inner message offends behind the first byte of its item, and at its end at the latest,
-- and there by no larger number than the end of the message around it, where the two ends share a place
pub record RulesLaws (F : Format) (K : Rules F.Item) : Type 0 where
  pub within : (r : F.Item) (place n : ℕ) → K.inside r place n → (2 ≤ place + F.beside) × (place ≤ F.held r)
  pub last : (r : F.Item) (end : F.Rest) → F.IsEnd end → F.size end ≡ 0 → (place n : ℕ) → K.inside r place n → F.held r ≤ place
      → (seen : List F.Item) (m : ℕ) → K.ends seen m → n ≤ m
