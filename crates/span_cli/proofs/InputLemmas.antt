-- Bytes that a source gave, piece by piece.
use Rattle.std.proofs.Common.{◌≡◌, ◌≢◌, ◌≤◌, ◌<◌, ◌-◌, suc, ℕ, Bool, true, false, List, [], ◌++◌, length, Option, Some, None, Result, Ok, refl, sym, ap, subst, ◌∙◌, append_assoc, append-nil, arith, length-append}
use Rattle.std.specs.Io.KnownBytes.{Consumes, IsAtEnd, Keeps}
use Rattle.std.specs.Prelude.{IfSome}
use Rattle.std.proofs.lemmas.Bool.{ne_eqb}
use Rattle.std.proofs.lemmas.List.Elements.{All-nil}
use Rattle.span_io.specs.Courses.{course_of_reads, read_next, is_last}
use Rattle.span_io.specs.Frames.{AreBytes}
use Rattle.span_io.specs.Limits.{shipped_limits}
use Rattle.span_io.specs.Outside.{Inlet, Outlet, Gains, GainLaws, NoReadInVain, OutputHolds}
use Rattle.span_io.specs.declared.course.ReadCourse.{ReadCourse}
use Rattle.span_io.specs.declared.course.ReadCourse.TheVariants as reads
use Rattle.span_io.specs.declared.form.Form.{Form}
use Rattle.span_convert.specs.Converters.{Fed, Feeds}
use Rattle.span_convert.specs.Reports.{WritesFrontAs}
use Rattle.span_convert.specs.Units.{input_limit}
use Rattle.span_convert.specs.declared.walker.Walker.{Walker}
use Rattle.span_convert.specs.declared.written.Written.{Written}
use Rattle.span_cli.specs.Inputs.{GaveInput, ReadsInput, IsAllRead, piece}
use Rattle.span_cli.specs.private.ReadBlocks.{IsFed, shipped}
use Rattle.span_cli.specs.Jobs.{Job, Spans}
use Rattle.span_cli.proofs.WrittenSoFar.{front_of_units, gained, gains_on}

Consumes-nothing : (left : Option (List ℕ)) → Consumes left left []
Consumes-nothing None = tt
Consumes-nothing (Some xs) = refl

pub Consumes-then : (a b c : Option (List ℕ)) (x y : List ℕ) → Consumes a b x → Consumes b c y → Consumes a c (x ++ y)
Consumes-then None b c x y p q = tt
Consumes-then (Some xs) None c x y p q = absurd p
Consumes-then (Some xs) (Some ys) None x y p q = absurd q
Consumes-then (Some xs) (Some ys) (Some zs) x y p q = p ∙ ap (λ (l : List ℕ). x ++ l) q ∙ sym (append_assoc x y zs)

-- a read that failed took nothing
pub gave_kept : (before here now : Option (List ℕ)) (given : List ℕ) → Consumes before here given → Keeps here now → Consumes before now given
gave_kept None here now given gave kept = tt
gave_kept (Some xs) None now given gave kept = absurd gave
gave_kept (Some xs) (Some ys) None given gave kept = absurd kept
gave_kept (Some xs) (Some ys) (Some zs) given gave kept = subst (λ (l : List ℕ). xs ≡ given ++ l) (sym kept) gave

-- a read that gave bytes isn't the last
pub goes_on : (E : Type 0) (now after : Option ReadCourse) (n : ℕ) → n ≢ 0 → after ≡ course_of_reads {E = E} now (Ok n) → now ≡ Some reads.Going → after ≡ Some reads.Going
goes_on E now after n some is going = is ∙ ap (λ (o : Option ReadCourse). course_of_reads {E = E} o (Ok n)) going ∙ ap (λ (b : Bool). Some (read_next reads.Going b)) (ne_eqb n 0 some)

never_in_vain : (last : Bool) → ◌≡◌ {A = Option ReadCourse} (Some (read_next reads.Going last)) (Some reads.InVain) → ⊥
never_in_vain true e = absurd (cc)
never_in_vain false e = absurd (cc)

-- whatever a read behind it answers, it wasn't in vain
pub not_in_vain : (E : Type 0) (before now after : Option ReadCourse) (result : Result ℕ E) → (before ≡ Some reads.Going → now ≡ Some reads.Going) → after ≡ course_of_reads now result → before ≡ Some reads.Going → after ≢ Some reads.InVain
not_in_vain E before now after result goes is going vain =
    never_in_vain (is_last result) (sym (is ∙ ap (λ (o : Option ReadCourse). course_of_reads o result) (goes going)) ∙ vain)

-- nothing was read
pub reads_nothing : (job : Job) (now : Inlet) → ReadsInput job now now
reads_nothing job now = record { given = []; gave = Consumes-nothing now.left; within = omega arith }

-- the source gave these bytes so far without a fault
pub record Reading (before now : Inlet) (given : List ℕ) : Type 0 where
  pub gave : GaveInput before now given
  pub quiet : now.faults ≡ before.faults
  pub steady : now.steady ≡ before.steady
  pub goes : before.course ≡ Some reads.Going → now.course ≡ Some reads.Going

pub Reading-start : (now : Inlet) → Reading now now []
Reading-start now = record { gave = Consumes-nothing now.left; quiet = refl; steady = refl; goes = λ going. going }

pub Reading-step : (before now after : Inlet) (given more : List ℕ) → Reading before now given → Consumes now.left after.left more → after.faults ≡ now.faults → after.steady ≡ now.steady → (now.course ≡ Some reads.Going → after.course ≡ Some reads.Going) → Reading before after (given ++ more)
Reading-step before now after given more reading here quiet steady goes = record {
  gave = Consumes-then before.left now.left after.left given more reading.gave here;
  quiet = quiet ∙ reading.quiet;
  steady = steady ∙ reading.steady;
  goes = λ going. goes (reading.goes going);
}

told_end : (before now : Option (List ℕ)) (given : List ℕ) → Consumes before now given → IsAtEnd now → IfSome before (λ bytes. now ≡ Some [])
told_end None now given gave ended = tt
told_end (Some xs) None given gave ended = absurd gave
told_end (Some xs) (Some ys) given gave ended = ap (λ (l : List ℕ). Some l) ended

-- and then all its bytes
pub Reading-end : (before now after : Inlet) (given : List ℕ) → Reading before now given → Consumes now.left after.left [] → IsAtEnd after.left → GaveInput before after given × IsAllRead before after
Reading-end before now after given reading here ended =
    let all = Consumes-then before.left now.left after.left given [] reading.gave here in
    (subst (λ (l : List ℕ). GaveInput before after l) (append-nil given) all, record { ended = ended; told = told_end before.left after.left (given ++ []) all ended })

-- The source gave some bytes so far without a fault, the converter was fed them, and the text of their whole units was written.
pub record Feeding (from : Form) (what : Written) (input_before input_now : Inlet) (output_before output_now : Outlet) (c : Walker) : Type 0 where
  pub given : List ℕ
  pub said : List ℕ
  pub are_bytes : AreBytes given
  pub reading : Reading input_before input_now given
  pub fed : Fed c (shipped from what) given said
  pub gains : Gains output_before output_now said
  pub front : WritesFrontAs from what shipped_limits given output_before output_now
  pub holds : OutputHolds output_before output_now

module _ (from : Form) (what : Written) where
  pub Feeding-start : (laws : GainLaws) (now : Inlet) (output : Outlet) (c : Walker) → Fed c (shipped from what) [] [] → WritesFrontAs from what shipped_limits [] output output → Feeding from what now now output output c
  Feeding-start laws now output c fresh front = record {
    given = [];
    said = [];
    are_bytes = All-nil (λ (b : ℕ). b < 256);
    reading = Reading-start now;
    fed = fresh;
    gains = laws.none output;
    front = front;
    holds = laws.still output;
  }

  -- what was read so far
  pub Feeding-reads : (before now after : Inlet) (a b : Outlet) (c : Walker) (more : List ℕ) (feeding : Feeding from what before now a b c) → Consumes now.left after.left more → length more ≤ piece → ReadsInput (Spans from what) before after
  Feeding-reads before now after a b c more feeding here small = record {
    given = feeding.given ++ more;
    gave = Consumes-then before.left now.left after.left feeding.given more feeding.reading.gave here;
    within = omega (arith, feeding.fed.within, small, length-append feeding.given more);
  }

  pub Feeding-end : (before now after : Inlet) (a b : Outlet) (c : Walker) → Feeding from what before now a b c → Consumes now.left after.left [] → after.faults ≡ now.faults → NoReadInVain before after → IsAtEnd after.left → IsFed (shipped from what) before after a b c
  Feeding-end before now after a b c feeding here quiet in_vain ended =
      let all = Reading-end before now after feeding.given feeding.reading here ended in
      record {
        given = feeding.given;
        said = feeding.said;
        gave = all.0;
        all_read = all.1;
        quiet = quiet ∙ feeding.reading.quiet;
        in_vain = in_vain;
        fed = feeding.fed;
        gains = feeding.gains;
        holds = feeding.holds;
      }

  -- each piece brings the converter nearer to its limit
  pub Feeding-smaller : (before now : Inlet) (a b : Outlet) (old new : Walker) (more said : List ℕ) (feeding : Feeding from what before now a b old) → 0 < length more → Fed new (shipped from what) (feeding.given ++ more) said
      → suc (input_limit from shipped_limits) - new.fed < suc (input_limit from shipped_limits) - old.fed
  Feeding-smaller before now a b old new more said feeding some fed =
      omega (arith, fed.within, some, fed.size, feeding.fed.size, length-append feeding.given more)

  -- another piece, which the converter took
  pub Feeding-step : (laws : GainLaws) (before now after : Inlet) (a b d : Outlet) (old new : Walker) (more : List ℕ) (feeding : Feeding from what before now a b old) → AreBytes (feeding.given ++ more)
      → Consumes now.left after.left more → after.faults ≡ now.faults → after.steady ≡ now.steady → (now.course ≡ Some reads.Going → after.course ≡ Some reads.Going)
      → Feeds (shipped from what) new feeding.said (feeding.given ++ more) (Ok tt) b d → OutputHolds b d → Feeding from what before after a d new
  Feeding-step laws before now after a b d old new more feeding are_bytes here quiet steady goes feeds holds = record {
    given = feeding.given ++ more;
    said = feeds.fed.text;
    are_bytes = are_bytes;
    reading = Reading-step before now after feeding.given more feeding.reading here quiet steady goes;
    fed = feeds.fed.is;
    gains = gained a d feeds.fed.text (gains_on laws feeding.said a b d feeding.gains feeds.fed.text feeds.fed.gains);
    front = front_of_units laws feeding.said a b d feeding.gains from what (feeding.given ++ more) feeds.front;
    holds = laws.holding a b d feeding.holds holds;
  }
