-- What offers make of a spool: its rows, its numbers, and why one wasn't kept.
use Rattle.std.proofs.Common.{◌≡◌, ◌⊎◌, ℕ, ◌+◌, ◌≤◌, Bool, true, false, cond, List, [], ◌∷◌, ◌++◌, Option, Some, None, refl, sym, ap, subst, ◌∙◌, inl, inr, append_assoc, arith}
use Rattle.std.specs.Prelude.{◌==◌, ◌||◌, IsTrue, min, option_map}
use Rattle.std.proofs.lemmas.List.{append-nil}
use Rattle.std.proofs.lemmas.Bool.Decides.{nat_tests}
use Rattle.std.proofs.lemmas.Bool.{false≢true, ne_eqb}
use Rattle.std.proofs.lemmas.List.Sums.{sum_by-cons}
use Rattle.span_io.specs.Outside.{Rose, last_count}
use Rattle.span_io.specs.Sizes.{IsShort}
use Rattle.span_io.specs.declared.form.Form.{Form}
use Rattle.span_spool.specs.Calls.{stays}
use Rattle.span_spool.specs.Spools.{IsSpool, Spool, last_number}
use Rattle.span_spool.specs.declared.kept.Kept.{Kept}
use Rattle.span_relay.specs.RelayConnections.{FalseWhereFull, TellsEach, is_full, kept_of, kept_rows, refused_from}
use Rattle.span_relay.specs.RelayReplies.{Offer, outcomes_of}
use Rattle.span_relay.specs.private.RelaySteps.{KeepsOr, RelayState}
use Rattle.span_relay.proofs.StreamLemmas.{Took}

-- ---- outcomes

pub took_outcomes : (to : Form) (offers : List Offer) (a b : RelayState) → Took to offers a b → b.outcomes ≡ a.outcomes ++ outcomes_of offers
took_outcomes to [] a b e = ap (λ (s : RelayState). s.outcomes) e ∙ sym (append-nil a.outcomes)
took_outcomes to (offer ∷ offers) a b (next, takes, more) =
    took_outcomes to offers next b more ∙ ap (λ (l : List Bool). l ++ outcomes_of offers) takes.outcomes ∙ append_assoc a.outcomes (offer.kept ∷ []) (outcomes_of offers)

pub took_short : (to : Form) (offers : List Offer) (a b : RelayState) → Took to offers a b → IsShort a.outcomes → IsShort b.outcomes
took_short to [] a b e short = subst (λ (s : RelayState). IsShort s.outcomes) (sym e) short
took_short to (offer ∷ offers) a b (next, takes, more) short = took_short to offers next b more takes.short

pub took_sound : (to : Form) (offers : List Offer) (a b : RelayState) → Took to offers a b → IsSpool a.spool → IsSpool b.spool
took_sound to [] a b e sound = subst (λ (s : RelayState). IsSpool s.spool) (sym e) sound
took_sound to (offer ∷ offers) a b (next, takes, more) sound = took_sound to offers next b more takes.sound

pub took_counted : (to : Form) (offers : List Offer) (a b : RelayState) → Took to offers a b → a.spool.faults ≤ b.spool.faults
took_counted to [] a b e = let same : b.spool.faults ≡ a.spool.faults = ap (λ (s : RelayState). s.spool.faults) e in omega (arith, same)
took_counted to (offer ∷ offers) a b (next, takes, more) = let later = took_counted to offers next b more in omega (arith, takes.counted, later)

-- ---- one offer

-- how many places an outcome takes
abbrev pub place_of : Bool → ℕ
place_of kept = cond kept 1 0

pub record Moves (kept : Bool) (a b : Spool) : Type 0 where
  pub held : b.held ≡ a.held + place_of kept
  pub next : b.next ≡ a.next + place_of kept
  pub room : b.room ≡ a.room

module _ (to : Form) (text : List ℕ) (a b : Spool) where
  moves_still : b ≡ stays a b.faults → Moves false a b
  moves_still e = record {
    held = ap (λ (s : Spool). s.held) e ∙ omega arith;
    next = ap (λ (s : Spool). s.next) e ∙ omega arith;
    room = ap (λ (s : Spool). s.room) e;
  }

  keeps_still : KeepsOr to text a b false → b ≡ stays a b.faults
  keeps_still (inl failed) = failed.1
  keeps_still (inr (inl full)) = full.1
  keeps_still (inr (inr spent)) = spent.2

  moves : (kept : Bool) → KeepsOr to text a b kept → Moves kept a b
  moves true (n, keeps) = record {
    held = ap (λ (s : Spool). s.held) keeps.grows;
    next = ap (λ (s : Spool). s.next) keeps.grows;
    room = ap (λ (s : Spool). s.room) keeps.grows;
  }
  moves false keeps = moves_still (keeps_still keeps)

-- ---- numbers

kept_one : (kept : Bool) (outcomes : List Bool) → kept_of (kept ∷ outcomes) ≡ place_of kept + kept_of outcomes
kept_one kept outcomes = sum_by-cons place_of kept outcomes

pub took_each : (to : Form) (offers : List Offer) (a b : RelayState) → Took to offers a b → TellsEach a.spool b.spool (outcomes_of offers)
took_each to [] a b e = record {
  held = ap (λ (s : RelayState). s.spool.held) e ∙ omega arith;
  next = ap (λ (s : RelayState). s.spool.next) e ∙ omega arith;
  room = ap (λ (s : RelayState). s.spool.room) e;
}
took_each to (offer ∷ offers) a b (next, takes, more) =
    let m = moves to offer.text a.spool next.spool offer.kept takes.keeps in
    let t = took_each to offers next b more in
    let one = kept_one offer.kept (outcomes_of offers) in
    record { held = omega (arith, t.held, m.held, one); next = omega (arith, t.next, m.next, one); room = t.room ∙ m.room }

-- ---- rows

abbrev added : Form → Option (List Kept) → ℕ → List Offer → Option (List Kept)
added to rows number offers = option_map (λ (l : List Kept). l ++ kept_rows to number offers) rows

added_none : (to : Form) (rows : Option (List Kept)) (number : ℕ) → rows ≡ added to rows number []
added_none to None number = refl
added_none to (Some rows) number = ap (λ (l : List Kept). Some l) (sym (append-nil rows))

-- a kept one first
added_kept : (to : Form) (rows : Option (List Kept)) (number : ℕ) (text : List ℕ) (offers : List Offer)
    → added to (option_map (λ (l : List Kept). l ++ record { number = number; form = to; body = text } ∷ []) rows) (number + 1) offers
    ≡ added to rows number (record { text = text; kept = true } ∷ offers)
added_kept to None number text offers = refl
added_kept to (Some rows) number text offers = ap (λ (l : List Kept). Some l) (append_assoc rows (record { number = number; form = to; body = text } ∷ []) (kept_rows to (number + 1) offers))

added_one : (to : Form) (a b : Spool) (text : List ℕ) (kept : Bool) (offers : List Offer) → KeepsOr to text a b kept
    → added to b.rows b.next offers ≡ added to a.rows a.next (record { text = text; kept = kept } ∷ offers)
added_one to a b text true offers (n, keeps) =
    ap (λ (s : Spool). added to s.rows s.next offers) keeps.grows
    ∙ ap (λ (m : ℕ). added to (option_map (λ (l : List Kept). l ++ record { number = m; form = to; body = text } ∷ []) a.rows) (a.next + 1) offers) keeps.number
    ∙ added_kept to a.rows a.next text offers
added_one to a b text false offers keeps = ap (λ (s : Spool). added to s.rows s.next offers) (keeps_still to text a b keeps)

pub took_rows : (to : Form) (offers : List Offer) (a b : RelayState) → Took to offers a b → b.spool.rows ≡ added to a.spool.rows a.spool.next offers
took_rows to [] a b e = ap (λ (s : RelayState). s.spool.rows) e ∙ added_none to a.spool.rows a.spool.next
took_rows to (offer ∷ offers) a b (next, takes, more) =
    took_rows to offers next b more ∙ added_one to a.spool next.spool offer.text offer.kept offers takes.keeps

-- ---- why one wasn't kept

is_same : (m n : ℕ) → m ≡ n → (m == n) ≡ true
is_same m n e = grind (arith, nat_tests)

or_second : (x y : Bool) → y ≡ true → (x || y) ≡ true
or_second true y e = refl
or_second false y e = e

module _ (to : Form) (text : List ℕ) (a b : Spool) where
  -- where it was kept it wasn't full
  full_kept : KeepsOr to text a b true → is_full a 0 ≡ false
  full_kept (n, keeps) = rw (ne_eqb (a.held + 0) a.room (λ e. keeps.room (omega (arith, e))), ne_eqb (a.next + 0) last_number (λ e. keeps.numbers (omega (arith, e)))) refl

  full_first : (kept : Bool) → KeepsOr to text a b kept → IsTrue (is_full a 0) → kept ≡ false
  full_first true keeps full = absurd (false≢true (subst IsTrue (full_kept keeps) full))
  full_first false keeps full = refl

  no_room : a.held ≡ a.room → is_full a 0 ≡ true
  no_room e = rw (is_same (a.held + 0) a.room (omega (arith, e))) refl

  no_number : a.next ≡ last_number → is_full a 0 ≡ true
  no_number e = or_second (a.held + 0 == a.room) (a.next + 0 == last_number) (is_same (a.next + 0) last_number (omega (arith, e)))

  -- where it wasn't it was full, or the keeper failed
  full_or_rose : KeepsOr to text a b false → (is_full a 0 ≡ true) ⊎ Rose a.faults b.faults
  full_or_rose (inl failed) = inr failed.0
  full_or_rose (inr (inl full)) = inl (no_room full.0)
  full_or_rose (inr (inr spent)) = inl (no_number spent.1)

-- it is full behind an offer where it was with that
full_moved : (a b : Spool) (first : Bool) (kept : ℕ) → Moves first a b → is_full b kept ≡ is_full a (place_of first + kept)
full_moved a b first kept m =
    let h : b.held + kept ≡ a.held + (place_of first + kept) = omega (arith, m.held) in
    let n : b.next + kept ≡ a.next + (place_of first + kept) = omega (arith, m.next) in
    rw (h, n, m.room) refl

pub same_head : (x y : Bool) (l m : List Bool) → x ∷ l ≡ y ∷ m → x ≡ y
same_head x y l m e = cc

pub same_tail : (x y : Bool) (l m : List Bool) → x ∷ l ≡ y ∷ m → l ≡ m
same_tail x y l m e = cc

pub took_full : (to : Form) (offers : List Offer) (a b : RelayState) → Took to offers a b → FalseWhereFull a.spool (outcomes_of offers)
took_full to [] a b e [] outcome others parts full = absurd (let k : ◌≡◌ {A = List Bool} [] (outcome ∷ others) = parts in cc)
took_full to [] a b e (x ∷ front) outcome others parts full = absurd (let k : ◌≡◌ {A = List Bool} [] (x ∷ (front ++ outcome ∷ others)) = parts in cc)
took_full to (offer ∷ offers) a b (next, takes, more) [] outcome others parts full =
    sym (same_head offer.kept outcome (outcomes_of offers) others parts) ∙ full_first to offer.text a.spool next.spool offer.kept takes.keeps full
took_full to (offer ∷ offers) a b (next, takes, more) (x ∷ front) outcome others parts full =
    let m = moves to offer.text a.spool next.spool offer.kept takes.keeps in
    let head : offer.kept ≡ x = same_head offer.kept x (outcomes_of offers) (front ++ outcome ∷ others) parts in
    let behind : is_full a.spool (kept_of (x ∷ front)) ≡ is_full next.spool (kept_of front) =
    ap (λ (n : ℕ). is_full a.spool n) (kept_one x front) ∙ ap (λ (k : Bool). is_full a.spool (place_of k + kept_of front)) (sym head) ∙ sym (full_moved a.spool next.spool offer.kept (kept_of front) m) in
    took_full to offers next b more front outcome others (same_tail offer.kept x (outcomes_of offers) (front ++ outcome ∷ others) parts) (subst IsTrue behind full)

-- ---- how many weren't kept though there was room

refused_moved : (a b : Spool) (first : Bool) (kept : ℕ) (outcomes : List Bool) → Moves first a b → refused_from b kept outcomes ≡ refused_from a (place_of first + kept) outcomes
refused_moved a b first kept [] m = refl
refused_moved a b first kept (true ∷ outcomes) m =
    let n : place_of first + (kept + 1) ≡ place_of first + kept + 1 = omega arith in
    refused_moved a b first (kept + 1) outcomes m ∙ ap (λ (n : ℕ). refused_from a n outcomes) n
refused_moved a b first kept (false ∷ outcomes) m = rw (full_moved a b first kept m, refused_moved a b first kept outcomes m) refl

-- the count, of which one more may have risen
count_more : (a b c r last : ℕ) → a ≤ b → min (b + r) last ≤ c → min (a + r) last ≤ c
count_more a b c r last le h = omega (arith, le, h)

count_none : (a b last : ℕ) → b ≡ a → min (a + 0) last ≤ b
count_none a b last e = omega (arith, e)

count_rose : (a b c r last : ℕ) → min (a + 1) last ≤ b → min (b + r) last ≤ c → min (a + (1 + r)) last ≤ c
count_rose a b c r last rose h = omega (arith, rose, h)

count_full : (full : Bool) (a b c r last : ℕ) → a ≤ b → (full ≡ true) ⊎ (min (a + 1) last ≤ b) → min (b + r) last ≤ c → min (a + (cond full 0 1 + r)) last ≤ c
count_full true a b c r last le why h = omega (arith, le, h)
count_full false a b c r last le (inl e) h = absurd (let k : false ≡ true = e in cc)
count_full false a b c r last le (inr rose) h = count_rose a b c r last rose h

refused_first : (to : Form) (text : List ℕ) (a b : Spool) (kept : Bool) (outcomes : List Bool) (c : ℕ) → KeepsOr to text a b kept → a.faults ≤ b.faults
    → min (b.faults + refused_from b 0 outcomes) last_count ≤ c → min (a.faults + refused_from a 0 (kept ∷ outcomes)) last_count ≤ c
refused_first to text a b true outcomes c keeps le h =
    let e : refused_from b 0 outcomes ≡ refused_from a (0 + 1) outcomes = refused_moved a b true 0 outcomes (moves to text a b true keeps) in
    count_more a.faults b.faults c (refused_from a (0 + 1) outcomes) last_count le (subst (λ (r : ℕ). min (b.faults + r) last_count ≤ c) e h)
refused_first to text a b false outcomes c keeps le h =
    let e : refused_from b 0 outcomes ≡ refused_from a 0 outcomes = refused_moved a b false 0 outcomes (moves to text a b false keeps) in
    count_full (is_full a 0) a.faults b.faults c (refused_from a 0 outcomes) last_count le (full_or_rose to text a b keeps)
    (subst (λ (r : ℕ). min (b.faults + r) last_count ≤ c) e h)

pub took_refused : (to : Form) (offers : List Offer) (a b : RelayState) → Took to offers a b
    → min (a.spool.faults + refused_from a.spool 0 (outcomes_of offers)) last_count ≤ b.spool.faults
took_refused to [] a b e = count_none a.spool.faults b.spool.faults last_count (ap (λ (s : RelayState). s.spool.faults) e)
took_refused to (offer ∷ offers) a b (next, takes, more) =
    refused_first to offer.text a.spool next.spool offer.kept (outcomes_of offers) b.spool.faults takes.keeps takes.counted (took_refused to offers next b more)
