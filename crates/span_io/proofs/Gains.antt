-- What a sink gains in one call after the other.
use Rattle.std.proofs.Common.{◌≡◌, ◌<◌, ℕ, ◌+◌, List, [], ◌∷◌, ◌++◌, length, Option, Some, None, Ok, Err, true, false, refl, sym, ap, subst, append_assoc, take, drop, take-append-drop, arith, length-append, length-drop, ◌∙◌}
use Rattle.std.proofs.Math.Seq.{take-add}
use Rattle.std.proofs.KnownBytes.{Appends-nil, Appends-trans}
use Rattle.span_io.specs.Courses.{course_of_writes}
use Rattle.span_io.specs.Outside.{Outlet, Sure, so_many, any_number, Takes, less, Gains, GainsFront, Rises, Rose, OutputFails, OutputHolds, FailsWithin, FailsAt}
use Rattle.span_io.specs.declared.course.WriteCourse.{WriteCourse}
use Rattle.span_io.specs.declared.course.WriteCourse.TheVariants as writes

rises_both : (a b c : Option ℕ) (m n : ℕ) → Rises a b m → Rises b c n → Rises a c (m + n)
rises_both None None None m n p q = tt
rises_both None None (Some z) m n p q = absurd q
rises_both None (Some y) c m n p q = absurd p
rises_both (Some x) None None m n p q = omega arith
rises_both (Some x) None (Some z) m n p q = absurd q
rises_both (Some x) (Some y) None m n p q = omega arith
rises_both (Some x) (Some y) (Some z) m n p q = omega arith

less_both : (s : Sure) (m n : ℕ) → less (less s m) n ≡ less s (m + n)
less_both (so_many most) m n = ap so_many (omega arith)
less_both any_number m n = refl

-- more than what is left is more than it was sure of
takes_rest : (s : Sure) (m n : ℕ) → Takes s (m + n) → Takes (less s m) n
takes_rest (so_many most) m n takes = omega arith
takes_rest any_number m n takes = tt

pub gains_both : (a b c : Outlet) (first second : List ℕ) → Gains a b first → Gains b c second → Gains a c (first ++ second)
gains_both a b c first second p q = record {
  held = Appends-trans a.held b.held c.held first second p.held q.held;
  taken = rw length-append (rises_both a.taken b.taken c.taken (length first) (length second) p.taken q.taken);
  sure = q.sure ∙ ap (λ (s : Sure). less s (length second)) p.sure ∙ less_both a.sure (length first) (length second) ∙ ap (λ n. less a.sure n) (sym (length-append first second));
  faults = omega arith;
}

pub gains_front : (a b c : Outlet) (first second : List ℕ) → Gains a b first → GainsFront b c second → GainsFront a c (first ++ second)
gains_front a b c first second p q = record {
  front = first ++ q.front;
  is_front = (q.is_front.0, ap (λ l. first ++ l) q.is_front.1 ∙ sym (append_assoc first q.front q.is_front.0));
  gains = gains_both a b c first q.front p q.gains;
}

pub fails_within : (a b c : Outlet) (first second : List ℕ) → Gains a b first → FailsWithin b c second → FailsWithin a c (first ++ second)
fails_within a b c first second p q = record {
  rose = let later = q.rose in omega arith;
  front = gains_front a b c first second p q.front;
  unsure = λ takes. q.unsure (rw p.sure (takes_rest a.sure (length first) (length second) (rw length-append at takes)));
}

pub fails_at : (a b c : Outlet) (first second : List ℕ) → Gains a b first → OutputHolds a b → FailsAt b c second → FailsAt a c (first ++ second)
fails_at a b c first second p holds q = record {
  front = first ++ q.front;
  byte = q.byte;
  others = q.others;
  parts = ap (λ l. first ++ l) q.parts ∙ sym (append_assoc first q.front (q.byte ∷ q.others));
  gains = gains_both a b c first q.front p q.gains;
  rose = let later = q.rose in omega arith;
  stops = λ going. q.stops (holds.goes going);
}

pub holds_then : (a b c : Outlet) → OutputHolds a b → OutputHolds b c → OutputHolds a c
holds_then a b c p q = record { quiet = q.quiet ∙ p.quiet; sure = λ any. q.sure (p.sure any); goes = λ going. q.goes (p.goes going) }

pub fails_then : (a b c : Outlet) → OutputHolds a b → OutputFails b c → OutputFails a c
fails_then a b c p q = record { rose = let still = p.quiet in let rose = q.rose in omega arith; unsure = λ any. q.unsure (p.sure any); stops = λ going. q.stops (p.goes going) }

-- ---- no write

less_none : (s : Sure) → s ≡ less s 0
less_none (so_many most) = ap so_many (omega arith)
less_none any_number = refl

pub gains_none : (a : Outlet) → Gains a a []
gains_none a = record { held = Appends-nil a.held; taken = rises_none a.taken; sure = less_none a.sure; faults = omega arith }
  where
    rises_none : (n : Option ℕ) → Rises n n 0
    rises_none None = tt
    rises_none (Some n) = omega arith

pub holds_none : (a : Outlet) → OutputHolds a a
holds_none a = record { quiet = refl; sure = λ any. any; goes = λ going. going }

-- ---- the next write of a piece, from the place that was reached

pub gains_next : (a b c : Outlet) (piece : List ℕ) (done n : ℕ) → Gains a b (take done piece) → Gains b c (take n (drop done piece)) → Gains a c (take (done + n) piece)
gains_next a b c piece done n p q = rw take-add (gains_both a b c (take done piece) (take n (drop done piece)) p q)

module _ (E : Type 0) where
  going_on : (a b : Option WriteCourse) (rest : List ℕ) (n : ℕ) → 0 < length rest → b ≡ course_of_writes {E = E} a rest (Ok n) → a ≡ Some writes.Going → b ≡ Some writes.Going
  going_on a b [] n some is going = absurd (omega arith)
  going_on a b (byte ∷ more) n some is going = is ∙ ap (λ (o : Option WriteCourse). course_of_writes {E = E} o (byte ∷ more) (Ok n)) going

  -- the write took some bytes of the rest
  pub holds_next : (a b c : Outlet) (rest : List ℕ) (n : ℕ) → 0 < length rest → OutputHolds a b → Gains b c (take n rest) → c.faults ≡ b.faults → c.course ≡ course_of_writes {E = E} b.course rest (Ok n) → OutputHolds a c
  holds_next a b c rest n some holds gains quiet is = record {
    quiet = quiet ∙ holds.quiet;
    sure = λ any. gains.sure ∙ ap (λ (s : Sure). less s (length (take n rest))) (holds.sure any);
    goes = λ going. going_on b.course c.course rest n some is (holds.goes going);
  }

  fails_first : (b c : Outlet) (rest : List ℕ) (e : E) → 0 < length rest → Gains b c [] → Rose b.faults c.faults → c.course ≡ course_of_writes {E = E} b.course rest (Err e) → FailsAt b c rest
  fails_first b c [] e some gains rose is = absurd (omega arith)
  fails_first b c (byte ∷ others) e some gains rose is = record {
    front = [];
    byte = byte;
    others = others;
    parts = refl;
    gains = gains;
    rose = rose;
    stops = λ going. is ∙ ap (λ (o : Option WriteCourse). course_of_writes {E = E} o (byte ∷ others) (Err e)) going;
  }

  -- it failed
  module _ (a b c : Outlet) (piece : List ℕ) (done : ℕ) (e : E) (inside : done < length piece) (gained : Gains a b (take done piece)) (holds : OutputHolds a b)
      (gains : Gains b c []) (rose : Rose b.faults c.faults) (answers : 0 < length (drop done piece) → Takes b.sure (length (drop done piece)) → false ≡ true)
      (is : c.course ≡ course_of_writes {E = E} b.course (drop done piece) (Err e)) where
    some : 0 < length (drop done piece)
    some = omega (arith, length-drop done piece)

    unsure : Takes b.sure (length (drop done piece)) → ⊥
    unsure takes = let ok = answers some takes in absurd (cc)

    whole : take done piece ++ drop done piece ≡ piece
    whole = take-append-drop done piece

    pub fails_within_here : FailsWithin a c piece
    fails_within_here = subst (λ (l : List ℕ). FailsWithin a c l) whole (fails_within a b c (take done piece) (drop done piece) gained
        (record { rose = rose; front = record { front = []; is_front = (drop done piece, refl); gains = gains }; unsure = unsure }))

    pub fails_at_here : FailsAt a c piece
    fails_at_here = subst (λ (l : List ℕ). FailsAt a c l) whole (fails_at a b c (take done piece) (drop done piece) gained holds (fails_first b c (drop done piece) e some gains rose is))

    pub fails_here : OutputFails a c
    fails_here = record {
      rose = fails_at_here.rose;
      unsure = λ any. unsure (rw (holds.sure any) tt);
      stops = λ going. (fails_at_here.byte, fails_at_here.stops going);
    }
