-- What varints keep, over the room that is left: how many more bytes one may have.
use Rattle.std.proofs.Common.{◌≡◌, ◌≤◌, ◌<◌, ◌↔◌, ◌++◌, ◌∷◌, ◌+◌, ◌-◌, ◌*◌, ◌/◌, ◌%◌, ◌^◌, All, inl, inr, ℕ, zero, suc, List, [], length, Result, Ok, Err, IfOk, ◌≢◌, refl, ap, subst, sym, ◌∙◌, append_assoc, arith}
use Rattle.std.proofs.lemmas.Bool.{lt-ltb, le-ltb, cases_lt}
use Rattle.std.proofs.lemmas.List.Elements.{All-head, All-tail}
use Rattle.std.proofs.Math.Nat.{pow-suc}
use Rattle.std.specs.List.{AllByRecursion}
use Rattle.span_io.specs.declared.cursor.Lack.{Lack}
use Rattle.span_io.specs.declared.cursor.Lack.TheVariants.{Short, BadVarint}
use Rattle.span_io.specs.Varint.{end_below, SpellsWithin, SpellsVarint, BeginsVarint, IsInsideVarint, BeginsOverlong, varint_within, varint_at, ◌>>=◌, shortest_within, varint_text}
use Rattle.span_io.specs.VarintLaws.{VarintLaws, ShortestLaws}
use Rattle.span_io.specs.Walks.{Gives}

-- ---- one step of the reading function

pub within_end : (room b : ℕ) (rest : List ℕ) → b < end_below room → varint_within (suc room) (b ∷ rest) ≡ Ok (b, rest)
unfolding varint_within
within_end zero b rest below = rw (lt-ltb b 2 below) refl
within_end (suc room) b rest below = rw (lt-ltb b 128 below) refl

-- what a first byte of 128 or more adds
abbrev pub after_high : ℕ → ℕ × List ℕ → Result (ℕ × List ℕ) Lack
after_high b high = Ok (b - 128 + 128 * high.0, high.1)

pub within_more : (room b : ℕ) (rest : List ℕ) → 128 ≤ b → varint_within (suc (suc room)) (b ∷ rest) ≡ (varint_within (suc room) rest >>= after_high b)
unfolding varint_within
within_more room b rest most = rw (le-ltb b 128 most) refl

pub within_above : (b : ℕ) (rest : List ℕ) → 1 < b → varint_within 1 (b ∷ rest) ≡ Err BadVarint
unfolding varint_within
within_above b rest above = rw (le-ltb b 2 (omega arith)) refl

pub within_none : (room : ℕ) → varint_within (suc room) [] ≡ Err Short
unfolding varint_within
within_none zero = refl
within_none (suc room) = refl

-- ---- what is spelled is read

pub spelled_read : (room n : ℕ) (text rest : List ℕ) → SpellsWithin room text n → varint_within room (text ++ rest) ≡ Ok (n, rest)
unfolding SpellsWithin
spelled_read zero n text rest h = absurd h
spelled_read (suc room) n [] rest h = absurd h
spelled_read (suc room) n (b ∷ []) rest h = rw h.1 (within_end room b rest h.0)
spelled_read (suc zero) n (b ∷ c ∷ text) rest h = absurd h.3
spelled_read (suc (suc room)) n (b ∷ c ∷ text) rest h =
    let high = spelled_read (suc room) h.1 (c ∷ text) rest h.3 in
    let number : b - 128 + 128 * h.1 ≡ n = omega (arith, h.0, h.2) in
    within_more room b ((c ∷ text) ++ rest) h.0 ∙ ap (λ r. r >>= after_high b) high ∙ ap (λ m. Ok (m, rest)) number

-- ---- what is read is spelled

-- a spelling of n in at most `room` bytes, and then rest
pub record BeginsWithin (room n : ℕ) (bytes rest : List ℕ) : Type 0 where
  pub text : List ℕ
  pub spelled : SpellsWithin room text n
  pub parts : bytes ≡ text ++ rest

-- a byte in front of a spelling
pub spelled_more : (room b high n : ℕ) (text : List ℕ) → 128 ≤ b → n + 128 ≡ b + 128 * high → SpellsWithin room text high → SpellsWithin (suc room) (b ∷ text) n
unfolding SpellsWithin
spelled_more zero b high n text most e h = absurd h
spelled_more (suc room) b high n [] most e h = absurd h
spelled_more (suc room) b high n (c ∷ text) most e h = (most, high, e, h)

-- the parts of a number that was read
read_parts : {a b : ℕ} {x y : List ℕ} → ◌≡◌ {A = Result (ℕ × List ℕ) Lack} (Ok (a, x)) (Ok (b, y)) → (a ≡ b) × (x ≡ y)
read_parts {a} {b} {x} {y} e =
    let p : ◌≡◌ {A = ℕ × List ℕ} (a, x) (b, y) = cc in
    (ap (λ (q : ℕ × List ℕ). q.0) p, ap (λ (q : ℕ × List ℕ). q.1) p)

-- what stands behind a byte that goes on
high_read : (b n : ℕ) (rest : List ℕ) (r : Result (ℕ × List ℕ) Lack) → (r >>= after_high b) ≡ Ok (n, rest) → (high : ℕ) × (r ≡ Ok (high, rest)) × (n ≡ b - 128 + 128 * high)
high_read b n rest (Ok high) e = let p = read_parts e in (high.0, ap (λ l. Ok (high.0, l)) p.1, sym p.0)
high_read b n rest (Err e) h = absurd cc

high_lacks : (b : ℕ) (lack : Lack) (r : Result (ℕ × List ℕ) Lack) → (r >>= after_high b) ≡ Err lack → r ≡ Err lack
high_lacks b lack (Ok high) e = absurd cc
high_lacks b lack (Err e) h = h

ended_begins : (room b n : ℕ) (bytes rest : List ℕ) → b < end_below room → ◌≡◌ {A = Result (ℕ × List ℕ) Lack} (Ok (b, bytes)) (Ok (n, rest)) → BeginsWithin (suc room) n (b ∷ bytes) rest
unfolding SpellsWithin
ended_begins room b n bytes rest below e =
    let p = read_parts e in
    record { text = b ∷ []; spelled = (below, sym p.0); parts = ap (λ l. b ∷ l) p.1 }

more_begins : (room b high n : ℕ) (bytes rest : List ℕ) → 128 ≤ b → n ≡ b - 128 + 128 * high → BeginsWithin room high bytes rest → BeginsWithin (suc room) n (b ∷ bytes) rest
more_begins room b high n bytes rest most e h =
    record { text = b ∷ h.text; spelled = spelled_more room b high n h.text most (omega arith) h.spelled; parts = ap (λ l. b ∷ l) h.parts }

pub read_spelled : (room n : ℕ) (bytes rest : List ℕ) → varint_within room bytes ≡ Ok (n, rest) → BeginsWithin room n bytes rest
unfolding varint_within
read_spelled zero n bytes rest e = absurd cc
read_spelled (suc room) n [] rest e = let none = within_none room in absurd cc
read_spelled (suc zero) n (b ∷ bytes) rest e =
    elim (cases_lt b 2) [
      | inl below ↦ ended_begins 0 b n bytes rest below (sym (within_end 0 b bytes below) ∙ e)
      | inr above ↦ let bad = within_above b bytes (omega arith) in absurd cc
    ]
read_spelled (suc (suc room)) n (b ∷ bytes) rest e =
    elim (cases_lt b 128) [
      | inl below ↦ ended_begins (suc room) b n bytes rest below (sym (within_end (suc room) b bytes below) ∙ e)
      | inr most ↦
          let high = high_read b n rest (varint_within (suc room) bytes) (sym (within_more room b bytes most) ∙ e) in
          more_begins (suc room) b high.0 n bytes rest most high.2 (read_spelled (suc room) high.0 bytes rest high.1)
    ]

-- ---- the inside of a varint

-- fewer bytes than may be, all of which go on
pub record IsInsideWithin (room : ℕ) (bytes : List ℕ) : Type 0 where
  pub short : length bytes < room
  pub go_on : AllByRecursion (λ b. 128 ≤ b) bytes

pub inside_short : (room : ℕ) (bytes : List ℕ) → length bytes < room → AllByRecursion (λ b. 128 ≤ b) bytes → varint_within room bytes ≡ Err Short
inside_short zero bytes less go_on = absurd (omega arith)
inside_short (suc room) [] less go_on = within_none room
inside_short (suc zero) (b ∷ bytes) less go_on = absurd (omega arith)
inside_short (suc (suc room)) (b ∷ bytes) less go_on =
    let short = inside_short (suc room) bytes (omega arith) go_on.1 in
    within_more room b bytes go_on.0 ∙ ap (λ r. r >>= after_high b) short

pub short_inside : (room : ℕ) (bytes : List ℕ) → varint_within room bytes ≡ Err Short → IsInsideWithin room bytes
unfolding varint_within
short_inside zero bytes e = absurd cc
short_inside (suc room) [] e = record { short = omega arith; go_on = tt }
short_inside (suc zero) (b ∷ bytes) e =
    elim (cases_lt b 2) [
      | inl below ↦ let ended = within_end 0 b bytes below in absurd cc
      | inr above ↦ let bad = within_above b bytes (omega arith) in absurd cc
    ]
short_inside (suc (suc room)) (b ∷ bytes) e =
    elim (cases_lt b 128) [
      | inl below ↦ let ended = within_end (suc room) b bytes below in absurd cc
      | inr most ↦
          let inside = short_inside (suc room) bytes (high_lacks b Short (varint_within (suc room) bytes) (sym (within_more room b bytes most) ∙ e)) in
          record { short = omega arith; go_on = (most, inside.go_on) }
    ]

-- ---- too long

-- after bytes that go on, as many as may be but one, a byte above 1
pub record BeginsOverlongWithin (room : ℕ) (bytes : List ℕ) : Type 0 where
  pub front : List ℕ
  pub last : ℕ
  pub others : List ℕ
  pub long : length front ≡ room
  pub go_on : AllByRecursion (λ b. 128 ≤ b) front
  pub above : 1 < last
  pub parts : bytes ≡ front ++ last ∷ others

pub overlong_bad : (room last : ℕ) (front others : List ℕ) → length front ≡ room → AllByRecursion (λ b. 128 ≤ b) front → 1 < last → varint_within (suc room) (front ++ last ∷ others) ≡ Err BadVarint
overlong_bad zero last [] others long go_on above = within_above last others above
overlong_bad zero last (b ∷ front) others long go_on above = absurd (omega arith)
overlong_bad (suc room) last [] others long go_on above = absurd (omega arith)
overlong_bad (suc room) last (b ∷ front) others long go_on above =
    let bad = overlong_bad room last front others (omega arith) go_on.1 above in
    within_more room b (front ++ last ∷ others) go_on.0 ∙ ap (λ r. r >>= after_high b) bad

pub bad_overlong : (room : ℕ) (bytes : List ℕ) → varint_within (suc room) bytes ≡ Err BadVarint → BeginsOverlongWithin room bytes
bad_overlong room [] e = let none = within_none room in absurd cc
bad_overlong zero (b ∷ bytes) e =
    elim (cases_lt b 2) [
      | inl below ↦ let ended = within_end 0 b bytes below in absurd cc
      | inr above ↦ record { front = []; last = b; others = bytes; long = refl; go_on = tt; above = omega arith; parts = refl }
    ]
bad_overlong (suc room) (b ∷ bytes) e =
    elim (cases_lt b 128) [
      | inl below ↦ let ended = within_end (suc room) b bytes below in absurd cc
      | inr most ↦
          let inner = bad_overlong room bytes (high_lacks b BadVarint (varint_within (suc room) bytes) (sym (within_more room b bytes most) ∙ e)) in
          record {
            front = b ∷ inner.front;
            last = inner.last;
            others = inner.others;
            long = ap suc inner.long;
            go_on = (most, inner.go_on);
            above = inner.above;
            parts = ap (λ l. b ∷ l) inner.parts;
          }
    ]

-- ---- a proper front of a spelling ends inside it

pub front_inside : (room n : ℕ) (front more : List ℕ) → SpellsWithin room (front ++ more) n → (more ≡ [] → ⊥) → IsInsideWithin room front
unfolding SpellsWithin
front_inside zero n front more h some = absurd h
front_inside (suc room) n [] more h some = record { short = omega arith; go_on = tt }
front_inside (suc room) n (b ∷ []) [] h some = absurd (some refl)
front_inside (suc room) n (b ∷ []) (m ∷ more) h some =
    let inside = front_inside room h.1 [] (m ∷ more) h.3 some in
    record { short = let less = inside.short in omega arith; go_on = (h.0, tt) }
front_inside (suc room) n (b ∷ c ∷ front) more h some =
    let inside = front_inside room h.1 (c ∷ front) more h.3 some in
    record { short = let less = inside.short in omega arith; go_on = (h.0, inside.go_on) }

-- ---- the same with room for ten bytes

pub begins_read : (n : ℕ) (bytes rest : List ℕ) → BeginsVarint n bytes rest → varint_at bytes ≡ Ok (n, rest)
unfolding varint_at SpellsVarint
begins_read n bytes rest h = rw h.parts (spelled_read 10 n h.text rest h.spelled)

pub read_begins : (n : ℕ) (bytes rest : List ℕ) → varint_at bytes ≡ Ok (n, rest) → BeginsVarint n bytes rest
unfolding varint_at SpellsVarint
read_begins n bytes rest e =
    let found = read_spelled 10 n bytes rest e in
    record { text = found.text; spelled = found.spelled; parts = found.parts }

pub short_is_inside : (bytes : List ℕ) → (varint_at bytes ≡ Err Short) ↔ IsInsideVarint bytes
unfolding varint_at
short_is_inside bytes = (
  λ e. let inside = short_inside 10 bytes e in record { short = inside.short; go_on = inside.go_on },
  λ inside. inside_short 10 bytes inside.short inside.go_on,
)

pub bad_is_overlong : (bytes : List ℕ) → (varint_at bytes ≡ Err BadVarint) ↔ BeginsOverlong bytes
unfolding varint_at
bad_is_overlong bytes = (
  λ e.
      let long = bad_overlong 9 bytes e in
      record {
        text = long.front ++ long.last ∷ [];
        others = long.others;
        overlong = record { front = long.front; tenth = long.last; nine = long.long; go_on = long.go_on; above = long.above; parts = refl };
        parts = long.parts ∙ sym (append_assoc long.front (long.last ∷ []) long.others);
      },
  λ begins.
      let long = begins.overlong in
      let parts = begins.parts ∙ (ap (λ text. text ++ begins.others) long.parts ∙ append_assoc long.front (long.tenth ∷ []) begins.others) in
      rw parts (overlong_bad 9 long.tenth long.front begins.others long.nine long.go_on long.above),
)

-- what an answer says that is what reading the old bytes gives
pub record Reading (result : Result ℕ Lack) (old new : List ℕ) : Type 0 where
  pub found : IfOk result (λ n. BeginsVarint n old new)
  pub only : (n : ℕ) (rest : List ℕ) → BeginsVarint n old rest → (result ≡ Ok n) × (new ≡ rest)
  pub short : (result ≡ Err Short) ↔ IsInsideVarint old
  pub bad : (result ≡ Err BadVarint) ↔ BeginsOverlong old

pub reading : (result : Result ℕ Lack) (old new : List ℕ) → Gives result new (varint_at old) → Reading result old new
reading (Ok m) old new e = record {
  found = read_begins m old new e;
  only = λ n rest begins. let p = read_parts (sym e ∙ begins_read n old rest begins) in (ap (λ k. Ok k) p.0, p.1);
  short = (λ lacks. absurd cc, λ inside. let lacks = (short_is_inside old).1 inside in absurd cc);
  bad = (λ lacks. absurd cc, λ long. let lacks = (bad_is_overlong old).1 long in absurd cc);
}
reading (Err lack) old new e = record {
  found = tt;
  only = λ n rest begins. let read = begins_read n old rest begins in absurd cc;
  short = (
    λ lacks. (short_is_inside old).0 (let same : lack ≡ Short = cc in e ∙ ap (λ l. Err l) same),
    λ inside. let lacks = (short_is_inside old).1 inside in let same : lack ≡ Short = cc in ap (λ l. Err l) same,
  );
  bad = (
    λ lacks. (bad_is_overlong old).0 (let same : lack ≡ BadVarint = cc in e ∙ ap (λ l. Err l) same),
    λ long. let lacks = (bad_is_overlong old).1 long in let same : lack ≡ BadVarint = cc in ap (λ l. Err l) same,
  );
}

-- ---- the shortest spelling

-- one step of writing
pub shortest_end : (more n : ℕ) → n < 128 → shortest_within (suc more) n ≡ n ∷ []
unfolding shortest_within
shortest_end more n below = rw (lt-ltb n 128 below) refl

pub shortest_more : (more n : ℕ) → 128 ≤ n → shortest_within (suc more) n ≡ (128 + n % 128) ∷ shortest_within more (n / 128)
unfolding shortest_within
shortest_more more n most = rw (le-ltb n 128 most) refl

pub shortest_spelled : (more n : ℕ) → n < 2 * 128 ^ more → SpellsWithin (suc more) (shortest_within more n) n
unfolding SpellsWithin shortest_within
shortest_spelled zero n below = (below, refl)
shortest_spelled (suc more) n below =
    elim (cases_lt n 128) [
      | inl low ↦ rw (shortest_end more n low) (low, refl)
      | inr most ↦
          let power = pow-suc 128 more in
          let high = shortest_spelled more (n / 128) (omega arith) in
          rw (shortest_more more n most)
          (spelled_more (suc more) (128 + n % 128) (n / 128) n (shortest_within more (n / 128)) (omega arith) (omega arith) high)
    ]

pub shortest_least : (more n : ℕ) (text : List ℕ) → All (λ b. b < 256) text → SpellsWithin (suc more) text n → length (shortest_within more n) ≤ length text
unfolding SpellsWithin shortest_within
shortest_least more n [] bytes h = absurd h
shortest_least zero n (b ∷ text) bytes h = omega arith
shortest_least (suc more) n (b ∷ []) bytes h =
    let low : n < 128 = rw h.1 h.0 in
    rw (shortest_end more n low) (omega arith)
shortest_least (suc more) n (b ∷ c ∷ text) bytes h =
    elim (cases_lt n 128) [
      | inl low ↦ rw (shortest_end more n low) (omega arith)
      | inr most ↦
          let byte = All-head (λ (x : ℕ). x < 256) b (c ∷ text) bytes in
          let number = h.2 in
          let going = h.0 in
          let high : n / 128 ≡ h.1 = omega arith in
          let least = shortest_least more h.1 (c ∷ text) (All-tail (λ (x : ℕ). x < 256) b (c ∷ text) bytes) h.3 in
          rw (shortest_more more n most, high) (omega arith)
    ]

pub shortest_only : (more n : ℕ) (text : List ℕ) → All (λ b. b < 256) text → SpellsWithin (suc more) text n → length text ≤ length (shortest_within more n) → text ≡ shortest_within more n
unfolding SpellsWithin shortest_within
shortest_only more n [] bytes h least = absurd h
shortest_only zero n (b ∷ []) bytes h least = ap (λ x. x ∷ []) (sym h.1)
shortest_only zero n (b ∷ c ∷ text) bytes h least = absurd h.3
shortest_only (suc more) n (b ∷ []) bytes h least =
    let low : n < 128 = rw h.1 h.0 in
    ap (λ x. x ∷ []) (sym h.1) ∙ sym (shortest_end more n low)
shortest_only (suc more) n (b ∷ c ∷ text) bytes h least =
    elim (cases_lt n 128) [
      | inl low ↦ let one = ap length (shortest_end more n low) in absurd (omega arith)
      | inr most ↦
          let byte = All-head (λ (x : ℕ). x < 256) b (c ∷ text) bytes in
          let number = h.2 in
          let going = h.0 in
          let low : b ≡ 128 + n % 128 = omega arith in
          let high : h.1 ≡ n / 128 = omega arith in
          let written = shortest_more more n most in
          let long = ap length written in
          let tail = All-tail (λ (x : ℕ). x < 256) b (c ∷ text) bytes in
          let spelled = subst (λ m. SpellsWithin (suc more) (c ∷ text) m) high h.3 in
          let rest = shortest_only more (n / 128) (c ∷ text) tail spelled (omega arith) in
          ap (λ l. b ∷ l) rest ∙ (ap (λ x. x ∷ shortest_within more (n / 128)) low ∙ sym written)
    ]

-- one byte below 128
pub byte_read : (b : ℕ) (bytes rest : List ℕ) → bytes ≡ b ∷ rest → b < 128 → varint_at bytes ≡ Ok (b, rest)
unfolding varint_at
byte_read b bytes rest parts below = rw parts (within_end 9 b rest below)

-- ---- the laws

spelling_front : (n : ℕ) (front more : List ℕ) → SpellsVarint (front ++ more) n → more ≢ [] → IsInsideVarint front
unfolding SpellsVarint
spelling_front n front more h some =
    let inside = front_inside 10 n front more h some in
    record { short = inside.short; go_on = inside.go_on }

pub varint_laws : VarintLaws
varint_laws = record { read = begins_read; found = read_begins; short = short_is_inside; bad = bad_is_overlong; fronts = spelling_front }

text_spelled : (n : ℕ) → n < 2 ^ 64 → SpellsVarint (varint_text n) n
unfolding SpellsVarint varint_text
text_spelled n below = shortest_spelled 9 n below

text_shortest : (n : ℕ) (text : List ℕ) → All (λ b. b < 256) text → SpellsVarint text n → length (varint_text n) ≤ length text
unfolding SpellsVarint varint_text
text_shortest n text bytes is = shortest_least 9 n text bytes is

text_only : (n : ℕ) (text : List ℕ) → All (λ b. b < 256) text → SpellsVarint text n → length text ≤ length (varint_text n) → text ≡ varint_text n
unfolding SpellsVarint varint_text
text_only n text bytes is least = shortest_only 9 n text bytes is least

pub shortest_laws : ShortestLaws
shortest_laws = record { spelled = text_spelled; shortest = text_shortest; only = text_only }
