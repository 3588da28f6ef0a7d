-- What is written of heads.
use Rattle.std.proofs.Common.{◌≡◌, ◌<◌, ◌≤◌, ◌<ℤ◌, ◌-ℤ◌, int_lt, nat_abs, ℕ, ℤ, pos, true, false, FitsSigned, to_z, of_z, ap, ◌∙◌, subst, sym, arith}
use Rattle.std.specs.Int.{w16, w32, w64}
use Rattle.std.proofs.lemmas.Bool.{lt-ltb, le-ltb}
use Rattle.std.proofs.lemmas.Int.{ints}
use Rattle.span_io.proofs.ShortestVarints.{one_byte}

pub ruleset of_varint = (one_byte, lt-ltb)

pub ruleset of_list = (one_byte, lt-ltb, le-ltb)

-- ---- ids, which wider types hold

pub difference_is : (last id wide other : ℤ) → FitsSigned w16 last → FitsSigned w16 id → wide ≡ to_z w16 (of_z w16 id) → other ≡ to_z w16 (of_z w16 last)
    → to_z w32 (of_z w32 (to_z w32 (of_z w32 wide) -ℤ to_z w32 (of_z w32 other))) ≡ (id -ℤ last)
difference_is last id wide other fits_last fits_id e f = omega (arith, ints)

pub id_is : (id wide : ℤ) → FitsSigned w16 id → wide ≡ to_z w16 (of_z w16 id) → to_z w64 (of_z w64 wide) ≡ id
id_is id wide fits e = omega (arith, ints)

pub is_close : (last id : ℤ) → last <ℤ id → int_lt (id -ℤ last) (pos 16) ≡ true → nat_abs (id -ℤ last) < 16
is_close last id rises less = grind (arith, ints)

pub is_far : (last id : ℤ) → last <ℤ id → int_lt (id -ℤ last) (pos 16) ≡ false → 16 ≤ nat_abs (id -ℤ last)
is_far last id rises most = grind (arith, ints)
