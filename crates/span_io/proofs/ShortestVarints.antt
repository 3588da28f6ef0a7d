-- The shortest varint, a group at a time.
use Rattle.std.proofs.Common.{◌≡◌, ◌≤◌, ◌<◌, ◌+◌, ◌*◌, ◌/◌, ◌%◌, ◌∷◌, ℕ, zero, suc, [], refl, ap, subst, ◌∙◌, arith}
use Rattle.std.proofs.lemmas.Bool.{lt-ltb, le-ltb}
use Rattle.span_io.specs.Varint.{shortest_within, varint_text}

pub group_end : (room n : ℕ) → n < 128 → shortest_within room n ≡ n ∷ []
unfolding shortest_within
group_end zero n below = refl
group_end (suc room) n below = rw (lt-ltb n 128 below) refl

pub group_last : (n : ℕ) → shortest_within 0 n ≡ n ∷ []
unfolding shortest_within
group_last n = refl

next_group : (more n : ℕ) → 128 ≤ n → shortest_within (suc more) n ≡ (128 + n % 128) ∷ shortest_within more (n / 128)
unfolding shortest_within
next_group more n most = rw (le-ltb n 128 most) refl

pub group_more : (room more n : ℕ) → room ≡ more + 1 → 128 ≤ n → shortest_within room n ≡ (128 + n % 128) ∷ shortest_within more (n / 128)
group_more room more n e most = ap (λ r. shortest_within r n) (e ∙ (let s : more + 1 ≡ suc more = omega arith in s)) ∙ next_group more n most

pub text_within : (n : ℕ) → varint_text n ≡ shortest_within 9 n
unfolding varint_text
text_within n = refl

pub one_byte : (n : ℕ) → n < 128 → varint_text n ≡ n ∷ []
one_byte n below = text_within n ∙ group_end 9 n below

pub two_bytes : (n : ℕ) → 128 ≤ n → n < 16384 → varint_text n ≡ (128 + n % 128) ∷ n / 128 ∷ []
two_bytes n most below = text_within n ∙ group_more 9 8 n refl most ∙ ap (λ l. (128 + n % 128) ∷ l) (group_end 8 (n / 128) (omega arith))

-- what a number is below that is written in one byte and at most so many more
abbrev pub below_room : ℕ → ℕ
below_room zero = 2
below_room (suc room) = 128 * below_room room

pub room_step : (room more rest : ℕ) → room ≡ more + 1 → rest < below_room room → rest / 128 < below_room more
room_step room more rest e below = next more rest (subst (λ r. rest < below_room r) (e ∙ (let s : more + 1 ≡ suc more = omega arith in s)) below)
  where
    next : (more rest : ℕ) → rest < below_room (suc more) → rest / 128 < below_room more
    next more rest below = omega arith
