-- What contracts see of the outside: what a source has left, what a sink took, and how often each was refused.
use Rattle.std.specs.Prelude.{◌≡◌, ◌≢◌, ℕ, ◌+◌, ◌-◌, ◌^◌, ◌≤◌, min, Bool, List, [], ◌∷◌, ◌++◌, length, Option, Some, None, ⊤}
use Rattle.std.specs.Io.KnownBytes.{Appends}
use Rattle.span_io.specs.declared.course.ReadCourse.{ReadCourse}
use Rattle.span_io.specs.declared.course.ReadCourse.TheVariants as reads
use Rattle.span_io.specs.declared.course.WriteCourse.{WriteCourse}
use Rattle.span_io.specs.declared.course.WriteCourse.TheVariants as writes

-- A source: the bytes still to come, where they are told, its count of faults, whether it is steady: one that never fails,
-- and how its reads went, where it is told.
pub record Inlet : Type 0 where
  pub left : Option (List ℕ)
  pub faults : ℕ
  pub steady : Bool
  pub course : Option ReadCourse

-- how many bytes more a sink takes without a failure: so many at the least, or any number
pub data Sure : Type 0 where
  so_many : ℕ → Sure
  any_number : Sure

-- a sink that is so sure takes n bytes more without a failure
abbrev pub Takes : Sure → ℕ → Type 0
Takes (so_many most) n = n ≤ most
Takes any_number n = ⊤

-- behind so many bytes
abbrev pub less : Sure → ℕ → Sure
less (so_many most) n = so_many (most - n)
less any_number n = any_number

-- A sink: the bytes that it took and their number, each where it is told, its count of faults, how much more it takes without
-- a failure, and how its writes went, where it is told.
pub record Outlet : Type 0 where
  pub held : Option (List ℕ)
  pub taken : Option ℕ
  pub faults : ℕ
  pub sure : Sure
  pub course : Option WriteCourse

-- where a count of 64 bits stands still
abbrev pub last_count : ℕ
last_count = 2 ^ 64 - 1

-- one more, at the most where a count stands still
abbrev pub counted : ℕ → ℕ
counted n = min (n + 1) last_count

-- the count rose, or stands where it stands still
abbrev pub Rose : ℕ → ℕ → Type 0
Rose before now = counted before ≤ now

-- A number of bytes rose by n. It is told as long as it is below the place where a count stands still, and what isn't told
-- stays untold.
abbrev pub Rises : Option ℕ → Option ℕ → ℕ → Type 0
Rises None None n = ⊤
Rises None (Some now) n = ⊥
Rises (Some before) None n = last_count ≤ before + n
Rises (Some before) (Some now) n = now ≡ before + n

-- the sink took these bytes, and so many more as it surely took before, and its count didn't fall
pub record Gains (before now : Outlet) (bytes : List ℕ) : Type 0 where
  pub held : Appends before.held now.held bytes
  pub taken : Rises before.taken now.taken (length bytes)
  pub sure : now.sure ≡ less before.sure (length bytes)
  pub faults : before.faults ≤ now.faults

-- the bytes are front and then others
abbrev pub IsFront : List ℕ → List ℕ → Type 0
IsFront front bytes = (others : List ℕ) × (bytes ≡ front ++ others)

-- the sink took a front of these bytes
pub record GainsFront (before now : Outlet) (bytes : List ℕ) : Type 0 where
  pub front : List ℕ
  pub is_front : IsFront front bytes
  pub gains : Gains before now front

-- the count of the source rose
abbrev pub InputFails : Inlet → Inlet → Type 0
InputFails before now = Rose before.faults now.faults

-- no read behind a failed one, or behind the end
abbrev pub NoReadInVain : Inlet → Inlet → Type 0
NoReadInVain before now = before.course ≡ Some reads.Going → now.course ≢ Some reads.InVain

-- the same of writes, of which none is of nothing
abbrev pub NoWriteInVain : Outlet → Outlet → Type 0
NoWriteInVain before now = before.course ≡ Some writes.Going → now.course ≢ Some writes.InVain

-- The last write failed: the count of the sink rose. No sink that takes any number of bytes does.
pub record OutputFails (before now : Outlet) : Type 0 where
  pub rose : Rose before.faults now.faults
  pub unsure : before.sure ≢ any_number
  pub stops : before.course ≡ Some writes.Going → (byte : ℕ) × (now.course ≡ Some (writes.Stopped byte))

-- no write failed, and none was in vain
pub record OutputHolds (before now : Outlet) : Type 0 where
  pub quiet : now.faults ≡ before.faults
  pub sure : before.sure ≡ any_number → now.sure ≡ any_number
  pub goes : before.course ≡ Some writes.Going → now.course ≡ Some writes.Going

-- the sink failed within these bytes: it took a front of them, and wasn't sure of all
pub record FailsWithin (before now : Outlet) (bytes : List ℕ) : Type 0 where
  pub rose : Rose before.faults now.faults
  pub front : GainsFront before now bytes
  pub unsure : Takes before.sure (length bytes) → ⊥

-- it took a front of these bytes, and failed at the byte behind it
pub record FailsAt (before now : Outlet) (bytes : List ℕ) : Type 0 where
  pub front : List ℕ
  pub byte : ℕ
  pub others : List ℕ
  pub parts : bytes ≡ front ++ byte ∷ others
  pub gains : Gains before now front
  pub rose : Rose before.faults now.faults
  pub stops : before.course ≡ Some writes.Going → now.course ≡ Some (writes.Stopped byte)

-- a list grew by a front of these bytes
pub record GrowsFront (old new bytes : List ℕ) : Type 0 where
  pub front : List ℕ
  pub is_front : IsFront front bytes
  pub grows : new ≡ old ++ front

-- In no call a sink gains nothing. What it gains in one call after the other it gains in both, and where the second failed both
-- did; and a count that rose has risen since before.
pub record GainLaws : Type 0 where
  pub none : (a : Outlet) → Gains a a []
  pub still : (a : Outlet) → OutputHolds a a
  pub both : (a b c : Outlet) (first second : List ℕ) → Gains a b first → Gains b c second → Gains a c (first ++ second)
  pub front : (a b c : Outlet) (first second : List ℕ) → Gains a b first → GainsFront b c second
      → GainsFront a c (first ++ second)
  pub rose : (a b c : ℕ) → Rose a b → b ≤ c → Rose a c
  pub fails : (a b c : Outlet) (first second : List ℕ) → Gains a b first → FailsWithin b c second
      → FailsWithin a c (first ++ second)
  pub stops : (a b c : Outlet) (first second : List ℕ) → Gains a b first → OutputHolds a b → FailsAt b c second
      → FailsAt a c (first ++ second)
  pub holding : (a b c : Outlet) → OutputHolds a b → OutputHolds b c → OutputHolds a c
  pub failing : (a b c : Outlet) → OutputHolds a b → OutputFails b c → OutputFails a c
