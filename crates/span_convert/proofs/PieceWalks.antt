-- How a walk over the frames of an input goes on over a piece of it, and how it stops and ends.
use Rattle.std.proofs.Common.{drop, take-append-drop, ◌≡◌, ℕ, ◌+◌, ◌≤◌, inl, inr, Bool, true, false, List, [], ◌∷◌, ◌++◌, length, take, Result, IfOk, IfErr, refl, sym, ap, subst, ◌∙◌, append_assoc, arith}
use Rattle.std.proofs.lemmas.List.{append-nil, take_at}
use Rattle.std.proofs.Math.Logic.{∥∥₁_elim, ∥∥₁_map}
use Rattle.std.proofs.Math.Seq.{take-append-add}
use Rattle.std.specs.Coded.{le_prop}
use Rattle.span_io.proofs.RowLaws.{all_zip_push}
use Rattle.span_io.specs.Causes.{cause_number}
use Rattle.span_io.specs.Frames.{BeginsFrame, NeedsMore}
use Rattle.span_io.specs.Limits.{AreLimits}
use Rattle.span_io.specs.Offences.{Least}
use Rattle.span_io.specs.Outside.{Outlet, Gains, FailsWithin}
use Rattle.span_io.specs.Scans.{Scanning}
use Rattle.span_io.specs.Steps.{NoFrame}
use Rattle.span_io.specs.declared.cause.Cause.{Cause}
use Rattle.span_io.specs.declared.cause.Cause.TheVariants as causes
use Rattle.span_io.specs.declared.limits.Limits.{Limits}
use Rattle.span_io.specs.declared.step.Step.TheVariants as steps
use Rattle.trace_model.specs.OtlpParts.{NotedGroup}
use Rattle.span_convert.specs.FramedForms.{FramedForm, LastingCause, UnitsThen, UnitsBegin, UnitsHalted}
use Rattle.span_convert.specs.Reports.{written_target}
use Rattle.span_convert.specs.Targets.{open_target}
use Rattle.span_convert.specs.Units.{framed_input, open_frames}
use Rattle.span_convert.specs.private.WalkSteps.{Exceeds, IsLookedAt, CutsFrame, HeldByFrames, Scans, Converted, WalkedUnits, WalksOn, WaitsForMore, StopsUnit, StopsText, EndsText, StopsWalk, EndsWalk, WritesOut}
use Rattle.span_convert.specs.Walks.{StandsFor, FramesTaken, Reaches}
use Rattle.span_convert.specs.declared.progress.Progress.{Progress}
use Rattle.span_convert.specs.declared.progress.WalkStop.{WalkStop}
use Rattle.span_convert.specs.declared.progress.WalkStop.TheVariants as walk_stops
use Rattle.span_convert.specs.declared.tally.Tally.{Tally}
use Rattle.span_convert.specs.declared.written.Written.{Written}
use Rattle.span_convert.proofs.WalkLemmas.{as_open, as_it_is, converted_none, converted_written, ends_whole, failed_so_far, fails_front, front_now, refuses_next, stops_at_unit, writes_front}

-- ---- a frame ends in a piece

module _ (from : FramedForm) (old new : Scanning) (piece held : List ℕ) (n : ℕ) (scans : Scans from old new piece (steps.Unit n)) where
  begins : old.seen held → BeginsFrame from.frames old.limit (length held + n) (held ++ piece)
  begins seen = (scans.frame held seen n).0 refl

  frame_is : (b : BeginsFrame from.frames old.limit (length held + n) (held ++ piece)) → b.text ≡ held ++ take n piece
  frame_is b = sym (ap (λ l. take (length held + n) l) b.parts ∙ take_at b.text b.rest (length held + n) b.size) ∙ take-append-add held piece n

  pub some_bytes : ∥ old.seen held ∥₁ → 1 ≤ n
  some_bytes there = ∥∥₁_elim there le_prop (λ seen. (scans.within held seen).0)

  pub within_piece : ∥ old.seen held ∥₁ → n ≤ length piece
  within_piece there = ∥∥₁_elim there le_prop (λ seen. (scans.within held seen).1)

  pub whole_there : ∥ old.seen held ∥₁ → ∥ from.frames.Whole (held ++ take n piece) ∥₁
  whole_there there = ∥∥₁_map there (λ seen. subst from.frames.Whole (frame_is (begins seen)) (begins seen).whole)

  pub frame_within : ∥ old.seen held ∥₁ → length (held ++ take n piece) ≤ old.limit
  frame_within there = ∥∥₁_elim there le_prop (λ seen. (let b = begins seen in omega (arith, ap length (frame_is b), b.size, b.within)))

  -- the next one begins behind it
  pub begins_anew : ∥ old.seen held ∥₁ → ∥ new.seen [] ∥₁
  begins_anew there = ∥∥₁_map there (λ seen. scans.stands held seen)

-- no frame ended
pub holds_more : (from : FramedForm) (old new : Scanning) (piece held : List ℕ) → Scans from old new piece steps.Need → ∥ old.seen held ∥₁ → ∥ new.seen (held ++ piece) ∥₁
holds_more from old new piece held scans there = ∥∥₁_map there (λ seen. scans.stands held seen)

-- ---- where a piece is split

pub split_parts : (n : ℕ) (rest last behind : List ℕ) → last ≡ take n rest → behind ≡ drop n rest → rest ≡ last ++ behind
split_parts n rest last behind front back = sym (ap (λ l. l ++ behind) front ∙ ap (λ l. take n rest ++ l) back ∙ take-append-drop n rest)

pub frame_size : (held last front : List ℕ) (limit : ℕ) → last ≡ front → length (held ++ front) ≤ limit → length (held ++ last) ≤ limit
frame_size held last front limit is within = subst (λ l. length (held ++ l) ≤ limit) (sym is) within

-- ---- the walk over frames

module _ (from : FramedForm) (what : Written) (limits : Limits) (whole said : List ℕ) (before : Outlet) where
  abbrev Walked : List ℕ → Outlet → Progress → Type 0
  Walked rest now progress = WalkedUnits from what limits whole rest said before now progress

  abbrev Stops : WalkStop → Outlet → Type 0
  Stops stop now = StopsWalk (open_frames from) (open_target (written_target what)) limits whole stop said before now

  begins_so : (noted : List NotedGroup) (rest : List ℕ) → UnitsThen from limits whole noted rest → UnitsBegin from limits whole noted
  begins_so noted rest held = record { rest = rest; units_then = held }

  -- memory was wanted
  pub walk_stays : (rest : List ℕ) (now : Outlet) (progress : Progress) → Walked rest now progress → Stops walk_stops.OutOfMemory now
  walk_stays rest now progress w =
      writes_front (open_frames from) (written_target what) (open_target (written_target what)) (as_open (written_target what)) limits whole w.noted said before now (begins_so w.noted rest w.units_then)
      (front_now what w.noted said before now progress w.converted)

  -- ---- behind one frame

  module _ (frames : HeldByFrames from) (frame behind : List ℕ) (is_whole : from.frames.Whole frame) (within : length frame ≤ limits.unit) where
    cut_of : (units : List (List ℕ)) → from.FrameHolds frame units → CutsFrame from limits.unit (frame ++ behind) units behind
    cut_of units holds = record { frame = frame; whole = is_whole; within = within; holds = holds; parts = refl }

    units_more : (noted : List NotedGroup) (unit : List ℕ) (next : NotedGroup) → from.FrameHolds frame (unit ∷ []) → from.IsUnit unit next → UnitsThen from limits whole noted (frame ++ behind)
        → UnitsThen from limits whole (noted ++ next ∷ []) behind
    units_more noted unit next holds is_unit so_far = record {
      units = so_far.units ++ unit ∷ [];
      held = frames.next limits whole (frame ++ behind) behind so_far.units (unit ∷ []) (cut_of (unit ∷ []) holds) so_far.held;
      are_groups = all_zip_push from.IsUnit so_far.units noted unit next so_far.are_groups is_unit;
    }

    -- that holds no unit
    pub walked_free : (now : Outlet) (progress : Progress) → from.FrameHolds frame [] → Walked (frame ++ behind) now progress → Walked behind now progress
    walked_free now progress holds w = record {
      noted = w.noted;
      units_then = record {
        units = w.units_then.units;
        held = subst (λ (l : List (List ℕ)). from.HoldsUnits limits whole l behind) (append-nil w.units_then.units)
            (frames.next limits whole (frame ++ behind) behind w.units_then.units [] (cut_of [] holds) w.units_then.held);
        are_groups = w.units_then.are_groups;
      };
      converted = w.converted;
    }

    module _ (unit : List ℕ) (holds : from.FrameHolds frame (unit ∷ [])) (now later : Outlet) (progress : Progress) where
      -- whose unit was converted
      pub walked_unit : (next : NotedGroup) (after : Progress) → from.IsUnit unit next
          → ((what : Written) (units : List NotedGroup) (said : List ℕ) (before : Outlet) → Converted what units said before now progress → Converted what (units ++ next ∷ []) said before later after)
          → Walked (frame ++ behind) now progress → Walked behind later after
      walked_unit next after is_unit converts w = record {
        noted = w.noted ++ next ∷ [];
        units_then = units_more w.noted unit next holds is_unit w.units_then;
        converted = converts what w.noted said before w.converted;
      }

      -- whose unit stops the walk
      pub walk_stops_writing : (next : NotedGroup) (stop : WalkStop) → from.IsUnit unit next
          → ((what : Written) (units : List NotedGroup) (said : List ℕ) (before : Outlet) → Converted what units said before now progress → StopsUnit (written_target what) units next stop said before later)
          → Walked (frame ++ behind) now progress → Stops stop later
      walk_stops_writing next stop is_unit stopped w =
          stops_at_unit (open_frames from) (written_target what) (open_target (written_target what)) (as_open (written_target what)) limits whole w.noted said before next later
          (begins_so w.noted (frame ++ behind) w.units_then) (begins_so (w.noted ++ next ∷ []) behind (units_more w.noted unit next holds is_unit w.units_then))
          stop (stopped what w.noted said before w.converted)

      -- whose unit offends
      pub walk_stops_unit : (stop : WalkStop) (cause : Cause) → Least (from.Offends unit) (cause_number cause)
          → ((a b c : Outlet) (first second : List ℕ) → Gains a b first → Gains b c second → Gains a c (first ++ second))
          → ((a b c : Outlet) (first second : List ℕ) → Gains a b first → FailsWithin b c second → FailsWithin a c (first ++ second))
          → WritesOut stop (walk_stops.Refused (record { unit = progress.tally.units + 1; cause = cause })) progress.unwritten now later
          → Walked (frame ++ behind) now progress → Stops stop later
      walk_stops_unit stop cause least both fails out w =
          let halted : UnitsHalted from limits whole w.noted (record { unit = length w.noted + 1; cause = cause }) = record {
            why = inl (record {
              before = w.units_then.units;
              unit = unit;
              rest = behind;
              held = frames.next limits whole (frame ++ behind) behind w.units_then.units (unit ∷ []) (cut_of (unit ∷ []) holds) w.units_then.held;
              are_groups = w.units_then.are_groups;
              least = least;
            });
            number = refl;
          } in
          refuses_next (open_frames from) what (open_target (written_target what)) (as_open (written_target what)) limits whole w.noted said before now later progress w.converted both fails
          stop cause (begins_so w.noted (frame ++ behind) w.units_then) halted out

  -- ---- where no frame begins

  module _ (both : (a b c : Outlet) (first second : List ℕ) → Gains a b first → Gains b c second → Gains a c (first ++ second)) (fails : (a b c : Outlet) (first second : List ℕ) → Gains a b first → FailsWithin b c second → FailsWithin a c (first ++ second))
      (rest : List ℕ) (now later : Outlet) (progress : Progress) (w : Walked rest now progress) where
    -- the sink failed
    pub walk_fails : FailsWithin now later progress.unwritten → Stops walk_stops.Write later
    walk_fails failed =
        fails_front (open_frames from) (written_target what) (open_target (written_target what)) (as_open (written_target what)) limits whole w.noted said before later (begins_so w.noted rest w.units_then)
        (failed_so_far what w.noted said before now progress w.converted both later fails failed)

    pub walk_halts : (stop : WalkStop) (cause : Cause) → LastingCause from limits (length whole) rest cause
        → WritesOut stop (walk_stops.Refused (record { unit = progress.tally.units + 1; cause = cause })) progress.unwritten now later → Stops stop later
    walk_halts stop cause why out =
        let halted : UnitsHalted from limits whole w.noted (record { unit = length w.noted + 1; cause = cause }) =
        record { why = inr (record { rest = rest; units_then = w.units_then; why = why }); number = refl } in
        refuses_next (open_frames from) what (open_target (written_target what)) (as_open (written_target what)) limits whole w.noted said before now later progress w.converted both fails
        stop cause (begins_so w.noted rest w.units_then) halted out

  -- ---- over a piece

  -- at its next frame
  pub walks_at : (now : Outlet) (s : Scanning) (held left last behind : List ℕ) (progress : Progress) → left ≡ last ++ behind → WalksOn from what limits whole said before now s held left progress → Walked ((held ++ last) ++ behind) now progress
  walks_at now s held left last behind progress split w =
      subst (λ (l : List ℕ). Walked l now progress) (ap (λ l. held ++ l) split ∙ sym (append_assoc held last behind)) w.walked

  -- behind it
  pub walks_on : (now later : Outlet) (old new : Scanning) (held left behind : List ℕ) (n : ℕ) (progress next : Progress) → Scans from old new left (steps.Unit n) → WalksOn from what limits whole said before now old held left progress
      → (kept : List ℕ) → kept ≡ [] → Walked behind later next → WalksOn from what limits whole said before later new kept behind next
  walks_on now later old new held left behind n progress next scans w kept cleared walked = record {
    seen = subst new.seen (sym cleared) (scans.stands held w.seen);
    limit = scans.limit ∙ w.limit;
    walked = subst (λ (l : List ℕ). Walked l later next) (sym (ap (λ l. l ++ behind) cleared)) walked;
  }

  -- at its end
  pub waits : (now : Outlet) (old new : Scanning) (held left : List ℕ) (progress : Progress) → Scans from old new left steps.Need → WalksOn from what limits whole said before now old held left progress
      → (kept : List ℕ) → kept ≡ held ++ left → WaitsForMore from what limits whole said before now new kept progress
  waits now old new held left progress scans w kept is = record {
    seen = subst new.seen (sym is) (scans.stands held w.seen);
    limit = scans.limit ∙ w.limit;
    needs = subst (λ (l : List ℕ). NeedsMore from.frames limits.unit l) (sym is) (subst (λ n. NeedsMore from.frames n (held ++ left)) w.limit ((scans.exact held w.seen steps.Need).0 refl));
    walked = subst (λ (l : List ℕ). Walked l now progress) (sym is) w.walked;
  }

  -- where the scanner refuses
  pub refuses_there : (now : Outlet) (old new : Scanning) (held left : List ℕ) (cause : Cause) (progress : Progress) → Scans from old new left (steps.Refused cause) → WalksOn from what limits whole said before now old held left progress
      → LastingCause from limits (length whole) (held ++ left) cause
  refuses_there now old new held left cause progress scans w =
      inl (subst (λ n. NoFrame from.frames from.Refused n (held ++ left) cause) w.limit ((scans.exact held w.seen (steps.Refused cause)).0 refl))

-- ---- from one piece to the next

module _ (from : FramedForm) (what : Written) (limits : Limits) (said : List ℕ) where
  -- of an input of which nothing came yet
  pub taken_none : (frames : HeldByFrames from) → AreLimits limits → (s : Scanning) (progress : Progress) → s.seen [] → s.limit ≡ limits.unit → StandsFor what [] progress → progress.unwritten ≡ []
      → said ≡ (written_target what).partial_text [] → FramesTaken from what limits [] said s [] progress
  taken_none frames valid s progress seen limit done flushed is_said = record {
    noted = [];
    units_then = record { units = []; held = frames.none limits; are_groups = tt };
    needs = frames.empty limits valid;
    within = omega arith;
    done = done;
    flushed = flushed;
    is_said = is_said;
    seen = seen;
    limit = limit;
  }

  -- with the next piece behind them
  pub piece_begins : (frames : HeldByFrames from) (bytes more piece held : List ℕ) (too_long : Bool) (s : Scanning) (progress : Progress) (now : Outlet) → FramesTaken from what limits bytes said s held progress
      → IsLookedAt limits.binary bytes more piece too_long → WalksOn from what limits (bytes ++ more) said now now s held piece progress
  piece_begins frames bytes more piece held too_long s progress now taken looked = record {
    seen = taken.seen;
    limit = taken.limit;
    walked = record {
      noted = taken.noted;
      units_then = record {
        units = taken.units_then.units;
        held = subst (λ (l : List ℕ). from.HoldsUnits limits (bytes ++ more) taken.units_then.units (held ++ l)) looked.front (frames.longer limits bytes more held taken.units_then.units taken.units_then.held);
        are_groups = taken.units_then.are_groups;
      };
      converted = converted_none what said now progress taken.noted taken.done taken.flushed taken.is_said;
    };
  }

  exceeds_as : (limit : ℕ) (whole : List ℕ) (a b : Bool) → Exceeds a limit whole → a ≡ b → Exceeds b limit whole
  exceeds_as limit whole a b exceeds same = subst (λ (x : Bool). Exceeds x limit whole) same exceeds

  -- it was taken, and what it ended was written
  pub piece_ends : (whole held : List ℕ) (s : Scanning) (before now : Outlet) (progress : Progress) → length whole ≤ limits.binary → progress.unwritten ≡ [] → WaitsForMore from what limits whole said before now s held progress
      → Reaches (λ text. FramesTaken from what limits whole text s held progress) said before now
  piece_ends whole held s before now progress within flushed w =
      let c = w.walked.converted in
      record {
        text = (written_target what).partial_text w.walked.noted;
        is = record {
          noted = w.walked.noted;
          units_then = w.walked.units_then;
          needs = w.needs;
          within = within;
          done = c.done;
          flushed = flushed;
          is_said = refl;
          seen = w.seen;
          limit = w.limit;
        };
        gains = record {
          added = c.written;
          parts = sym (sym (ap (λ l. said ++ l) (ap (λ l. c.written ++ l) flushed ∙ append-nil c.written)) ∙ c.is_text);
          gains = c.gains;
        };
      }

  -- the same before what is left is written
  pub waits_written : (both : (a b c : Outlet) (first second : List ℕ) → Gains a b first → Gains b c second → Gains a c (first ++ second)) (whole held : List ℕ) (s : Scanning) (before now later : Outlet) (progress next : Progress)
      → WaitsForMore from what limits whole said before now s held progress → next.tally ≡ progress.tally → next.pen ≡ progress.pen → next.unwritten ≡ [] → Gains now later progress.unwritten
      → WaitsForMore from what limits whole said before later s held next
  waits_written both whole held s before now later progress next w tally pen flushed gains = record {
    seen = w.seen;
    limit = w.limit;
    needs = w.needs;
    walked = record {
      noted = w.walked.noted;
      units_then = w.walked.units_then;
      converted = converted_written what w.walked.noted said before now progress w.walked.converted both later next tally pen flushed gains;
    };
  }

  -- the input is longer than its limit
  pub too_long_there : (whole held : List ℕ) (too_long : Bool) (s : Scanning) (before now : Outlet) (progress : Progress) → too_long ≡ true → Exceeds too_long limits.binary whole → WaitsForMore from what limits whole said before now s held progress
      → LastingCause from limits (length whole) held causes.InputTooLong
  too_long_there whole held too_long s before now progress long exceeds w = inr (w.needs, inl (refl, exceeds_as limits.binary whole too_long true exceeds long))

  pub not_too_long : (whole : List ℕ) (too_long : Bool) → too_long ≡ false → Exceeds too_long limits.binary whole → length whole ≤ limits.binary
  not_too_long whole too_long short exceeds = exceeds_as limits.binary whole too_long false exceeds short

-- ---- the end of an input

module _ (from : FramedForm) (what : Written) (limits : Limits) (bytes said held : List ℕ) (s : Scanning) (progress : Progress) (taken : FramesTaken from what limits bytes said s held progress) where
  so_far_then : (now : Outlet) → Converted what taken.noted said now now progress
  so_far_then now = converted_none what said now progress taken.noted taken.done taken.flushed taken.is_said

  -- behind its last frame
  pub frames_end : (now later : Outlet) (result : Result Tally WalkStop) → held ≡ []
      → IfOk result (λ tally. (what : Written) (units : List NotedGroup) (said : List ℕ) (before : Outlet) → Converted what units said before now progress → EndsText (written_target what) units tally said before later)
      → IfErr result (λ stop. (what : Written) (units : List NotedGroup) (said : List ℕ) (before : Outlet) → Converted what units said before now progress → StopsText (written_target what) units stop said before later)
      → EndsWalk (framed_input from) (written_target what) limits bytes result said now later
  frames_end now later result none ok stopped =
      ends_whole (framed_input from) what limits bytes taken.noted said now now later progress result
      (record { units_then = subst (λ (l : List ℕ). UnitsThen from limits bytes taken.noted l) none taken.units_then; within = taken.within }) (so_far_then now) ok stopped

  -- inside a frame
  pub frames_cut : (both : (a b c : Outlet) (first second : List ℕ) → Gains a b first → Gains b c second → Gains a c (first ++ second)) (fails : (a b c : Outlet) (first second : List ℕ) → Gains a b first → FailsWithin b c second → FailsWithin a c (first ++ second))
      (now later : Outlet) (stop : WalkStop) → (held ≡ [] → ⊥) → WritesOut stop (walk_stops.Refused (record { unit = progress.tally.units + 1; cause = causes.Truncated })) progress.unwritten now later
      → StopsWalk (framed_input from) (written_target what) limits bytes stop said now later
  frames_cut both fails now later stop some out =
      refuses_next (framed_input from) what (written_target what) (as_it_is (written_target what)) limits bytes taken.noted said now now later progress (so_far_then now) both fails
      stop causes.Truncated (record { rest = held; units_then = taken.units_then })
      (record { why = inr (record { rest = held; units_then = taken.units_then; why = inr (taken.needs, inr (refl, taken.within, some)) }); number = refl })
      out

-- a unit is no longer than its frame
pub held_within : (from : FramedForm) → HeldByFrames from → (frame unit : List ℕ) → from.frames.Whole frame → from.FrameHolds frame (unit ∷ []) → length unit ≤ length frame
held_within from frames frame unit is_whole holds =
    frames.within (length frame) frame [] unit (record { frame = frame; whole = is_whole; within = omega arith; holds = holds; parts = sym (append-nil frame) })
