-- A number of JSON by what its accessors tell.
use Rattle.std.proofs.Common.{◌≡◌, ℕ, ℤ, Some, None, refl, ap}
use Rattle.serde_json.specs.Data.{Num, unsigned, negative, float}
use Rattle.serde_json.specs.Find.{as_u64, as_i64, to_float}

pub told_unsigned : (n : Num) (count : ℕ) → Some count ≡ as_u64 n → unsigned count ≡ n
told_unsigned (unsigned m) count h = let same : count ≡ m = cc in ap unsigned same
told_unsigned (negative z) count h = cc
told_unsigned (float x) count h = cc

pub told_negative : (n : Num) (below : ℤ) → None ≡ as_u64 n → Some below ≡ as_i64 n → negative below ≡ n
told_negative (unsigned m) below h k = cc
told_negative (negative z) below h k = let same : below ≡ z = cc in ap negative same
told_negative (float x) below h k = cc

pub told_float : (n : Num) → None ≡ as_u64 n → None ≡ as_i64 n → float (to_float n) ≡ n
told_float (unsigned m) h k = cc
told_float (negative z) h k = cc
told_float (float x) h k = refl

pub ruleset told = (told_unsigned, told_negative, told_float)
