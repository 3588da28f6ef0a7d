-- What contracts see of a connection: the end that gives bytes, the end that takes them, and how far both were as bytes last came.
use Rattle.std.specs.Prelude.{ℕ, ◌==◌, cond, List, length, Option, Some, None, IfSome, IsSome, Result, Ok, Err}
use Rattle.span_io.specs.Outside.{Inlet, Outlet}
use Rattle.span_io.specs.declared.duplex.Mark.{Mark}

-- the mark stands where both ends tell their bytes
pub record Link : Type 0 where
  pub inlet : Inlet
  pub outlet : Outlet
  pub mark : Option Mark

-- where both ends tell their bytes, the mark is told
abbrev pub TellsMark : Link → Type 0
TellsMark link = IfSome link.inlet.left (λ _. IfSome link.outlet.held (λ _. IsSome link.mark))

-- the lengths of what is still to come and of what was taken
abbrev pub lengths : Option (List ℕ) → Option (List ℕ) → Option Mark
lengths None held = None
lengths (Some left) None = None
lengths (Some left) (Some held) = Some (record { left = length left; held = length held })

-- A read that gave bytes marks the lengths that it began with. No other call changes the mark.
abbrev pub mark_of_reads : {E : Type 0} → Link → Result ℕ E → Option Mark
mark_of_reads link (Ok n) = cond (n == 0) link.mark (lengths link.inlet.left link.outlet.held)
mark_of_reads link (Err e) = link.mark
