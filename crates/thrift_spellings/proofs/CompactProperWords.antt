-- What bytes spell in the compact protocol has the bits of its type.
use Rattle.std.proofs.Common.{◌≡◌, ℕ, zero, suc, ◌+◌, ◌-◌, ◌*◌, ◌^◌, ◌<◌, ℤ, pos, negsuc, List, [], ◌∷◌, length, reverse, sym, ◌∙◌, ap, subst, arith}
use Rattle.std.proofs.Math.Nat as nat
use Rattle.std.proofs.lemmas.List.{length-reverse, get_or-reverse}
use Rattle.std.proofs.lemmas.List.Elements.{All-head, All-tail}
use Rattle.span_io.specs.Frames.{AreBytes}
use Rattle.span_io.specs.Varint.{SpellsWithin, SpellsVarint}
use Rattle.span_io.specs.Zigzag.{zigzag}
use Rattle.thrift_core.specs.Protocols.{IsProperLong, SpellsProper}
use Rattle.thrift_spellings.specs.CompactSpelling.{compact_spells}

-- ---- varints

group_below : (n b high p : ℕ) → n + 128 ≡ b + 128 * high → b < 256 → high < 2 * p → n < 2 * (p * 128)
group_below n b high p e below less = omega (arith, e, below, less)

within_below : (room : ℕ) (text : List ℕ) (n : ℕ) → AreBytes text → SpellsWithin (suc room) text n → n < 2 * 128 ^ room
unfolding SpellsWithin
within_below room [] n all h = absurd h
within_below zero (b ∷ []) n all h = omega (arith, h.0, h.1)
within_below (suc room) (b ∷ []) n all h = omega (arith, h.0, h.1, nat.pow-suc 128 room, some room)
  where
    some : (k : ℕ) → 0 < 128 ^ k
    some zero = omega arith
    some (suc k) = omega (arith, nat.pow-suc 128 k, some k)
within_below zero (b ∷ c ∷ text) n all h = absurd h.3
within_below (suc room) (b ∷ c ∷ text) n all h =
    subst (λ p. n < 2 * p) (sym (nat.pow-suc 128 room))
    (group_below n b h.1 (128 ^ room) h.2 (All-head (λ x. x < 256) b (c ∷ text) all) (within_below room (c ∷ text) h.1 (All-tail (λ x. x < 256) b (c ∷ text) all) h.3))

varint_below : (text : List ℕ) (n : ℕ) → AreBytes text → SpellsVarint text n → n < 2 ^ 64
unfolding SpellsVarint
varint_below text n all h = omega (arith, within_below 9 text n all h)

-- ---- numbers

long_fits : (z : ℤ) → zigzag z < 2 ^ 64 → IsProperLong z
long_fits (pos n) below = (record { sfits = omega (arith, below) }, omega (arith, below))
long_fits (negsuc n) below = (record { sfits = omega (arith, below) }, omega arith)

all_reversed : (text : List ℕ) → AreBytes text → AreBytes (reverse text)
all_reversed text all k d lt =
    let within : k < length text = omega (arith, lt, length-reverse text) in
    subst (λ b. b < 256) (sym (get_or-reverse text k d within)) (all (length text - 1 - k) d (omega (arith, within)))

pub compact_spells_proper : SpellsProper compact_spells
compact_spells_proper = record {
  int = λ n text all h. h.1;
  long = λ n text all h. long_fits n (varint_below text (zigzag n) all h);
  eight = λ bytes text all h. (ap length h.1 ∙ length-reverse text ∙ h.0, subst AreBytes (sym h.1) (all_reversed text all));
}
