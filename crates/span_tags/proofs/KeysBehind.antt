-- What stands behind the front of a key, and the key without all copies of it.
use Rattle.std.proofs.Common.{◌≡◌, ℕ, ◌<◌, Bool, true, false, if◌then◌else◌, List, length, drop, Some, None, is_some, refl, sym, ap, ◌∙◌, true≢false, arith}
use Rattle.span_tags.specs.Escapes.{has_front, base}
use Rattle.span_tags.proofs.EscapeLaws.{base_behind, base_plain, front_split}

-- a key that has something behind the front
pub some_behind : (k rest : List ℕ) → Some rest ≡ (if has_front k then Some (drop 10 k) else None) → (has_front k ≡ true) × (rest ≡ drop 10 k)
some_behind k rest e = by (has_front k) refl e
  where
    by : (b : Bool) → has_front k ≡ b → Some rest ≡ (if b then Some (drop 10 k) else None) → (has_front k ≡ true) × (rest ≡ drop 10 k)
    by true f found = let same : rest ≡ drop 10 k = cc in (f, same)
    by false f found = absurd (true≢false (ap is_some found))

pub none_behind : (k : List ℕ) → None ≡ (if has_front k then Some (drop 10 k) else None) → has_front k ≡ false
none_behind k e = by (has_front k) refl e
  where
    by : (b : Bool) → has_front k ≡ b → None ≡ (if b then Some (drop 10 k) else None) → has_front k ≡ false
    by true f found = absurd (true≢false (sym (ap is_some found)))
    by false f found = f

pub base_of_rest : (k rest : List ℕ) → Some rest ≡ (if has_front k then Some (drop 10 k) else None) → base rest ≡ base k
base_of_rest k rest e = let parts = some_behind k rest e in ap base parts.1 ∙ base_behind k parts.0

pub rest_shorter : (k rest : List ℕ) → Some rest ≡ (if has_front k then Some (drop 10 k) else None) → length rest < length k
rest_shorter k rest e =
    let parts = some_behind k rest e in
    let split = ap length (front_split k parts.0) in
    let same = ap length parts.1 in
    omega (arith, split, same)

pub base_itself : (k : List ℕ) → None ≡ (if has_front k then Some (drop 10 k) else None) → base k ≡ k
base_itself k e = base_plain k (none_behind k e)
