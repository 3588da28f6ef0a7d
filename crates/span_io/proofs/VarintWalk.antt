-- Reading a varint byte by byte: the number so far, the weight of the next group, and the bytes that are left.
use Rattle.std.proofs.Common.{◌≡◌, ◌≤◌, ◌<◌, ◌∷◌, ◌+◌, ◌-◌, ◌*◌, ◌^◌, ℕ, suc, List, [], length, Result, Ok, Err, refl, ap, sym, ◌∙◌, arith}
use Rattle.std.proofs.Math.Nat.{pow-suc, pow-le-pow_right, mul-le-mul_left}
use Rattle.span_io.specs.declared.cursor.Lack.{Lack}
use Rattle.span_io.specs.declared.cursor.Lack.TheVariants.{Short, BadVarint}
use Rattle.span_io.specs.Varint.{end_below, varint_within, varint_at, ◌>>=◌}
use Rattle.span_io.proofs.VarintFacts.{after_high, within_end, within_more, within_above, within_none}

-- what is behind the bytes that were passed adds its groups
abbrev pub added : ℕ → ℕ → ℕ × List ℕ → Result (ℕ × List ℕ) Lack
added number weight high = Ok (number + weight * high.0, high.1)

pub record WalkedVarint (whole rest : List ℕ) (passed number weight : ℕ) : Type 0 where
  pub weighs : weight ≡ 128 ^ passed
  pub below : number < weight
  pub nearer : length rest ≤ length whole
  pub continues : varint_at whole ≡ (varint_within (10 - passed) rest >>= added number weight)

pub walked_none : (whole : List ℕ) → WalkedVarint whole whole 0 0 1
unfolding varint_at
walked_none whole = record { weighs = refl; below = omega arith; nearer = omega arith; continues = all (varint_within 10 whole) }
  where
    all : (r : Result (ℕ × List ℕ) Lack) → r ≡ (r >>= added 0 1)
    all (Ok high) = let e : high.0 ≡ 0 + 1 * high.0 = omega arith in ap (λ n. Ok (n, high.1)) e
    all (Err e) = refl

added_after : (r : Result (ℕ × List ℕ) Lack) (number weight b : ℕ) → ((r >>= after_high b) >>= added number weight) ≡ (r >>= added (number + weight * (b - 128)) (weight * 128))
added_after (Ok high) number weight b =
    let e = sums number weight (b - 128) high.0 in ap (λ n. Ok (n, high.1)) e
  where
    sums : (number weight group high : ℕ) → number + weight * (group + 128 * high) ≡ number + weight * group + weight * 128 * high
    sums number weight group high = omega arith
added_after (Err e) number weight b = refl

-- ---- bounds

pub group_bounds : (passed number weight group : ℕ) → passed < 9 → weight ≡ 128 ^ passed → number < weight → group < 128 → (weight * 128 ≤ 2 ^ 63) × (weight * group < 2 ^ 63) × (number + weight * group < weight * 128)
group_bounds passed number weight group less weighs below group_below =
    let power : 128 ^ passed ≤ 128 ^ 8 = pow-le-pow_right {n = 128} (omega arith) {i = passed} {j = 8} (omega arith) in
    let most : weight * group ≤ weight * 127 = mul-le-mul_left weight (omega arith) in
    (omega arith, omega arith, omega arith)

-- ---- steps

pub walked_more : (whole left rest : List ℕ) (b passed number weight : ℕ) → left ≡ b ∷ rest → passed < 9 → b < 256 → 128 ≤ b → WalkedVarint whole left passed number weight → WalkedVarint whole rest (passed + 1) (number + weight * (b - 128)) (weight * 128)
walked_more whole left rest b passed number weight parts less byte most w =
    let bounds = group_bounds passed number weight (b - 128) less w.weighs w.below (omega arith) in
    let room : 10 - passed ≡ suc (suc (8 - passed)) = omega arith in
    let room_left : 10 - (passed + 1) ≡ suc (8 - passed) = omega arith in
    let next : passed + 1 ≡ suc passed = omega arith in
    let step : varint_within (10 - passed) left ≡ (varint_within (10 - (passed + 1)) rest >>= after_high b) = rw (room, room_left, parts) (within_more (8 - passed) b rest most) in
    record {
      weighs = ap (λ n. n * 128) w.weighs ∙ (sym (pow-suc 128 passed) ∙ ap (λ n. 128 ^ n) (sym next));
      below = bounds.2;
      nearer = let nearer = w.nearer in let longer = ap length parts in omega arith;
      continues = w.continues ∙ (ap (λ r. r >>= added number weight) step ∙ added_after (varint_within (10 - (passed + 1)) rest) number weight b);
    }

walked_end : (whole left rest : List ℕ) (b room passed number weight : ℕ) → left ≡ b ∷ rest → 10 - passed ≡ suc room → b < end_below room → WalkedVarint whole left passed number weight → varint_at whole ≡ Ok (number + weight * b, rest)
walked_end whole left rest b room passed number weight parts room_is below w =
    let step : varint_within (10 - passed) left ≡ Ok (b, rest) = rw (room_is, parts) (within_end room b rest below) in
    w.continues ∙ ap (λ r. r >>= added number weight) step

pub walked_low : (whole left rest : List ℕ) (b passed number weight : ℕ) → left ≡ b ∷ rest → passed < 9 → b < 128 → WalkedVarint whole left passed number weight → varint_at whole ≡ Ok (number + weight * b, rest)
walked_low whole left rest b passed number weight parts less below w =
    walked_end whole left rest b (suc (8 - passed)) passed number weight parts (omega arith) below w

pub walked_tenth : (whole left rest : List ℕ) (b passed number weight : ℕ) → left ≡ b ∷ rest → passed ≡ 9 → b < 2 → WalkedVarint whole left passed number weight → varint_at whole ≡ Ok (number + weight * b, rest)
walked_tenth whole left rest b passed number weight parts nine below w = walked_end whole left rest b 0 passed number weight parts (omega arith) below w

pub walked_short : (whole left : List ℕ) (passed number weight : ℕ) → length left ≡ 0 → passed < 10 → WalkedVarint whole left passed number weight → varint_at whole ≡ Err Short
walked_short whole [] passed number weight none less w =
    let room : 10 - passed ≡ suc (9 - passed) = omega arith in
    let step : varint_within (10 - passed) [] ≡ Err Short = rw room (within_none (9 - passed)) in
    w.continues ∙ ap (λ r. r >>= added number weight) step
walked_short whole (b ∷ left) passed number weight none less w = absurd (omega arith)

pub walked_above : (whole left rest : List ℕ) (b passed number weight : ℕ) → left ≡ b ∷ rest → passed ≡ 9 → 1 < b → WalkedVarint whole left passed number weight → varint_at whole ≡ Err BadVarint
walked_above whole left rest b passed number weight parts nine above w =
    let room : 10 - passed ≡ 1 = omega arith in
    let step : varint_within (10 - passed) left ≡ Err BadVarint = rw (room, parts) (within_above b rest above) in
    w.continues ∙ ap (λ r. r >>= added number weight) step
