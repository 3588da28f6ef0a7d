-- What a walk wrote carries out each verdict on the input, behind what was written before.
use Rattle.std.proofs.Common.{◌≡◌, ℕ, ◌-◌, ◌≤◌, Bool, true, false, List, [], ◌++◌, length, take, length-append, Ok, Err, refl, sym, ap, subst, ◌∙◌, append_assoc, arith}
use Rattle.std.proofs.lemmas.List.{append-nil}
use Rattle.span_io.specs.Limits.{AreLimits}
use Rattle.span_io.specs.Outside.{Outlet, Sure, so_many, any_number, Takes, GainsFront, IsFront}
use Rattle.span_io.specs.declared.limits.Limits.{Limits}
use Rattle.span_convert.specs.Converters.{KeepsWhy}
use Rattle.span_convert.specs.private.States.{state_at, stop_at}
use Rattle.span_convert.specs.Outlooks.{EndsFrom, FailsFrom, GainsFrom, GainsFrontFrom, ReachesFrom, StopsFrom, WritesFrontFrom}
use Rattle.span_convert.specs.Targets.{Target}
use Rattle.span_convert.specs.Units.{InputForm}
use Rattle.span_convert.specs.Verdicts.{Verdict, good, refused, faulted, IsJudgedOn, IsVerdictOn, IsTextSoFar, all, verdict_text}
use Rattle.span_convert.specs.private.WalkSteps.{Exceeds, IsLookedAt, StopsWalk}
use Rattle.span_convert.specs.Walks.{WritesWhole}
use Rattle.span_convert.specs.declared.walker.State.TheVariants as states
use Rattle.span_convert.specs.declared.progress.WalkStop.{WalkStop}
use Rattle.span_convert.specs.declared.progress.WalkStop.TheVariants as walk_stops
use Rattle.span_convert.specs.declared.stop.Stop.TheVariants as stops
use Rattle.span_convert.specs.declared.tally.Tally.{Tally}

-- ---- what is looked at

exceeds_behind : (limit room : ℕ) (bytes piece : List ℕ) (too_long : Bool) → room ≡ limit - length bytes → length bytes ≤ limit → Exceeds too_long room piece → Exceeds too_long limit (bytes ++ piece)
exceeds_behind limit room bytes piece true e within long = omega (arith, e, within, long, length-append bytes piece)
exceeds_behind limit room bytes piece false e within short = omega (arith, e, within, short, length-append bytes piece)

pub looked_front : (limit fed room : ℕ) (bytes piece looked : List ℕ) (too_long : Bool) → fed ≡ length bytes → room ≡ limit - fed → length bytes ≤ limit → take room piece ≡ looked → Exceeds too_long room piece
    → IsLookedAt limit bytes piece looked too_long
looked_front limit fed room bytes piece looked too_long size e within front exceeds =
    let left : room ≡ limit - length bytes = e ∙ ap (λ n. limit - n) size in
    record { front = ap (λ n. take n piece) (sym left) ∙ front; exceeds = exceeds_behind limit room bytes piece too_long left within exceeds }

-- ---- fronts

-- a sink that takes more bytes takes fewer
takes_fewer : (sure : Sure) (m n : ℕ) → m ≤ n → Takes sure n → Takes sure m
takes_fewer (so_many most) m n fewer takes = omega arith
takes_fewer any_number m n fewer takes = tt

gains_all : (said : List ℕ) (before now : Outlet) (text : List ℕ) → GainsFrom said before now text → GainsFrontFrom said before now text
gains_all said before now text w = record { added = w.added; parts = w.parts; gains = record { front = w.added; is_front = ([], sym (append-nil w.added)); gains = w.gains } }

fails_all : (said : List ℕ) (before now : Outlet) (text : List ℕ) → FailsFrom said before now text → GainsFrontFrom said before now text
fails_all said before now text w = record { added = w.added; parts = w.parts; gains = w.fails.front }

-- what holds of a front of a text holds of the text
module _ (said : List ℕ) (before now : Outlet) (text out : List ℕ) (more : IsFront text out) where
  longer_parts : (added : List ℕ) → text ≡ said ++ added → out ≡ said ++ (added ++ more.0)
  longer_parts added parts = more.1 ∙ ap (λ l. l ++ more.0) parts ∙ append_assoc said added more.0

  longer_front : (added : List ℕ) → GainsFront before now added → GainsFront before now (added ++ more.0)
  longer_front added w = record {
    front = w.front;
    is_front = (w.is_front.0 ++ more.0, ap (λ l. l ++ more.0) w.is_front.1 ∙ append_assoc w.front w.is_front.0 more.0);
    gains = w.gains;
  }

  front_longer : GainsFrontFrom said before now text → GainsFrontFrom said before now out
  front_longer w = record { added = w.added ++ more.0; parts = longer_parts w.added w.parts; gains = longer_front w.added w.gains }

  fails_longer : FailsFrom said before now text → FailsFrom said before now out
  fails_longer w = record {
    added = w.added ++ more.0;
    parts = longer_parts w.added w.parts;
    fails = record {
      rose = w.fails.rose;
      front = longer_front w.added w.fails.front;
      unsure = λ takes. w.fails.unsure (takes_fewer before.sure (length w.added) (length (w.added ++ more.0)) (omega (arith, length-append w.added more.0)) takes);
    };
  }

-- ---- whatever a walk came to

-- a front of the text of the first units was written
pub stops_front : (from : InputForm) (to : Target) (limits : Limits) (whole said : List ℕ) (before now : Outlet) (stop : WalkStop) → StopsWalk from to limits whole stop said before now → WritesFrontFrom from to limits whole said before now
stops_front from to limits whole said before now (walk_stops.Refused refusal) w = record { text = w.text; so_far = w.so_far; gains = gains_all said before now w.text w.gains }
stops_front from to limits whole said before now (walk_stops.Faulted found) w = record { text = w.text; so_far = w.so_far; gains = gains_all said before now w.text w.gains }
stops_front from to limits whole said before now walk_stops.Write w = record { text = w.text; so_far = w.so_far; gains = fails_all said before now w.text w.fails }
stops_front from to limits whole said before now walk_stops.OutOfMemory w = w

pub whole_front : (from : InputForm) (to : Target) (limits : Limits) (whole said : List ℕ) (before now : Outlet) (tally : Tally) → WritesWhole from to limits whole tally said before now → WritesFrontFrom from to limits whole said before now
whole_front from to limits whole said before now tally w = record { text = w.text; so_far = all tally w.is_good; gains = gains_all said before now w.text w.gains }

-- the text of what is good
pub good_front : (from : InputForm) (to : Target) (limits : Limits) (whole said : List ℕ) (before now : Outlet) (text : List ℕ) (tally : Tally) → IsVerdictOn from to limits whole (good text tally) → GainsFrom said before now text
    → WritesFrontFrom from to limits whole said before now
good_front from to limits whole said before now text tally is gains = record { text = text; so_far = all tally is; gains = gains_all said before now text gains }

-- there is a verdict, where one was carried out
pub stops_judged : (T : Type 0) (from : InputForm) (to : Target) (limits : Limits) (whole said : List ℕ) (before now : Outlet) (stop : WalkStop) → StopsWalk from to limits whole stop said before now
    → IsJudgedOn {T = T} from to limits whole (Err (stop_at stop))
stops_judged T from to limits whole said before now (walk_stops.Refused refusal) w = (refused refusal w.text, w.is_refused)
stops_judged T from to limits whole said before now (walk_stops.Faulted found) w = (faulted found w.text, w.is_faulted)
stops_judged T from to limits whole said before now walk_stops.Write w = tt
stops_judged T from to limits whole said before now walk_stops.OutOfMemory w = tt

-- ---- each verdict

abbrev pub OneVerdict : InputForm → Target → Type 0
OneVerdict from to = (limits : Limits) (bytes : List ℕ) (v w : Verdict) → AreLimits limits → IsVerdictOn from to limits bytes v → IsVerdictOn from to limits bytes w → v ≡ w

abbrev pub TextsSoFar : InputForm → Target → Type 0
TextsSoFar from to = (limits : Limits) (bytes text : List ℕ) (v : Verdict) → AreLimits limits → IsTextSoFar from to limits bytes text → IsVerdictOn from to limits bytes v → IsFront text (verdict_text v)

module _ (from : InputForm) (to : Target) (once : OneVerdict from to) (limits : Limits) (whole : List ℕ) (valid : AreLimits limits) where
  -- what is good has one text
  pub one_text : (a b : List ℕ) (tally counts : Tally) → IsVerdictOn from to limits whole (good a tally) → IsVerdictOn from to limits whole (good b counts) → a ≡ b
  one_text a b tally counts h g = ap verdict_text (once limits whole (good a tally) (good b counts) valid h g)

  module _ (texts : TextsSoFar from to) (v : Verdict) (is_verdict : IsVerdictOn from to limits whole v) (said : List ℕ) (before now : Outlet) where
    pub stops_carried : (stop : WalkStop) → StopsWalk from to limits whole stop said before now → StopsFrom said v (stop_at stop) before now × KeepsWhy v (state_at stop)
    stops_carried (walk_stops.Refused refusal) w =
        let same = once limits whole (refused refusal w.text) v valid w.is_refused is_verdict in
        subst (λ (x : Verdict). StopsFrom said x stops.Refused before now × KeepsWhy x (states.Refused refusal)) same (((refusal, refl), w.gains), refl)
    stops_carried (walk_stops.Faulted found) w =
        let same = once limits whole (faulted found w.text) v valid w.is_faulted is_verdict in
        subst (λ (x : Verdict). StopsFrom said x stops.Faulted before now × KeepsWhy x (states.Faulted found)) same (((found, refl), w.gains), refl)
    stops_carried walk_stops.Write w = (fails_longer said before now w.text (verdict_text v) (texts limits whole w.text v valid w.so_far is_verdict) w.fails, tt)
    stops_carried walk_stops.OutOfMemory w = (front_longer said before now w.text (verdict_text v) (texts limits whole w.text v valid w.so_far is_verdict) w.gains, tt)

    pub ends_carried : (tally : Tally) → WritesWhole from to limits whole tally said before now → EndsFrom said v tally before now × KeepsWhy v states.Ended
    ends_carried tally w =
        let same = once limits whole (good w.text tally) v valid w.is_good is_verdict in
        subst (λ (x : Verdict). EndsFrom said x tally before now × KeepsWhy x states.Ended) same ((refl, w.gains), tt)

    -- a piece was taken
    pub reaches_carried : (text : List ℕ) (tally : Tally) → IsVerdictOn from to limits whole (good text tally) → GainsFrom said before now text → ReachesFrom said v (Ok tt) before now × KeepsWhy v states.Open
    reaches_carried text tally is gains =
        let same = once limits whole (good text tally) v valid is is_verdict in
        subst (λ (x : Verdict). ReachesFrom said x (Ok tt) before now × KeepsWhy x states.Open) same ((tally, (refl, gains)), tt)
