-- What was written before a call, and what the call goes on with, is one text. What was known before the end of an input stays so.
use Rattle.std.proofs.Common.{◌≡◌, ℕ, ◌≤◌, List, [], ◌++◌, length, Option, Some, None, Err, refl, sym, subst, arith, length-append, append_assoc, ap, ◌∙◌}
use Rattle.std.specs.Prelude.{IfSome}
use Rattle.std.specs.Io.KnownBytes.{Consumes}
use Rattle.span_io.specs.Frames.{AreBytes}
use Rattle.span_io.specs.Limits.{AreLimits, shipped_limits}
use Rattle.span_io.specs.Outside.{Outlet, Sure, so_many, any_number, Takes, IsFront, Gains, GainsFront, FailsWithin, GainLaws}
use Rattle.span_io.specs.declared.form.Form.{Form}
use Rattle.span_io.specs.declared.form.Form.TheVariants as forms
use Rattle.span_io.specs.declared.limits.Limits.{Limits}
use Rattle.span_convert.specs.Converters.{KeepsWhy}
use Rattle.span_convert.specs.Outlooks.{IfDocument, IsOutlookAs, IsLasting, GainsFrom, GainsFrontFrom, FailsFrom, WritesFrontFrom, StopsFrom}
use Rattle.span_convert.specs.Reports.{IsVerdictAs, IsJudgedAs, WritesFrontAs, written_target}
use Rattle.span_convert.specs.Targets.{open_target}
use Rattle.span_convert.specs.Units.{input_form, open_form}
use Rattle.span_convert.specs.Verdicts.{Verdict, good, refused, faulted, IsJudgedOn, verdict_text}
use Rattle.span_convert.specs.declared.walker.State.{State}
use Rattle.span_convert.specs.declared.walker.State.TheVariants as states
use Rattle.span_convert.specs.declared.stop.Stop.{Stop}
use Rattle.span_convert.specs.declared.stop.Stop.TheVariants as stops
use Rattle.span_convert.specs.declared.tally.Tally.{Tally}
use Rattle.span_convert.specs.declared.written.Written.{Written}

-- what is said of documents alone
pub of_documents : (from : Form) (P : Type 0) → P → IfDocument from P
of_documents forms.OtlpProto P p = tt
of_documents forms.OtlpJson P p = p
of_documents forms.JaegerBinary P p = tt
of_documents forms.JaegerCompact P p = tt
of_documents forms.ZipkinJson P p = p

pub of_documents_then : (from : Form) (P Q R : Type 0) → (P → Q → R) → IfDocument from P → IfDocument from Q → IfDocument from R
of_documents_then forms.OtlpProto P Q R both p q = tt
of_documents_then forms.OtlpJson P Q R both p q = both p q
of_documents_then forms.JaegerBinary P Q R both p q = tt
of_documents_then forms.JaegerCompact P Q R both p q = tt
of_documents_then forms.ZipkinJson P Q R both p q = both p q

-- ---- one text

-- what fails within a front fails within all
takes_less : (sure : Sure) (m n : ℕ) → m ≤ n → Takes sure n → Takes sure m
takes_less (so_many most) m n less takes = omega (arith, less, takes)
takes_less any_number m n less takes = tt

front_longer : (a c : Outlet) (text whole : List ℕ) → IsFront text whole → GainsFront a c text → GainsFront a c whole
front_longer a c text whole (others, parts) gains = record {
  front = gains.front;
  is_front = (
    gains.is_front.0 ++ others,
    parts ∙ ap (λ (l : List ℕ). l ++ others) gains.is_front.1 ∙ append_assoc gains.front gains.is_front.0 others,
  );
  gains = gains.gains;
}

fails_longer : (a c : Outlet) (text whole : List ℕ) → IsFront text whole → FailsWithin a c text → FailsWithin a c whole
fails_longer a c text whole (others, parts) fails = record {
  rose = fails.rose;
  front = front_longer a c text whole (others, parts) fails.front;
  unsure = λ takes. fails.unsure (takes_less a.sure (length text) (length whole) longer takes);
}
  where
    longer : length text ≤ length whole
    longer = subst (λ (l : List ℕ). length text ≤ length l) (sym parts) (omega (arith, length-append text others))

-- what was written behind nothing
pub gained : (a c : Outlet) (text : List ℕ) → GainsFrom [] a c text → Gains a c text
gained a c text on = subst (λ (l : List ℕ). Gains a c l) (sym on.parts) on.gains

pub fronted : (a c : Outlet) (text : List ℕ) → GainsFrontFrom [] a c text → GainsFront a c text
fronted a c text on = subst (λ (l : List ℕ). GainsFront a c l) (sym on.parts) on.gains

pub failed : (a c : Outlet) (text : List ℕ) → FailsFrom [] a c text → FailsWithin a c text
failed a c text on = subst (λ (l : List ℕ). FailsWithin a c l) (sym on.parts) on.fails

module _ (laws : GainLaws) (said : List ℕ) (a b c : Outlet) (before : Gains a b said) where
  pub gains_on : (text : List ℕ) → GainsFrom said b c text → GainsFrom [] a c text
  gains_on text on = record { added = said ++ on.added; parts = on.parts; gains = laws.both a b c said on.added before on.gains }

  front_on : (text : List ℕ) → GainsFrontFrom said b c text → GainsFrontFrom [] a c text
  front_on text on = record { added = said ++ on.added; parts = on.parts; gains = laws.front a b c said on.added before on.gains }

  fails_on : (text : List ℕ) → FailsFrom said b c text → FailsFrom [] a c text
  fails_on text on = record { added = said ++ on.added; parts = on.parts; fails = laws.fails a b c said on.added before on.fails }

  -- a front of the text of the first units of these bytes
  pub front_of_units : (from : Form) (what : Written) (bytes : List ℕ)
      → WritesFrontFrom (input_form from) (written_target what) shipped_limits bytes said b c → WritesFrontAs from what shipped_limits bytes a c
  front_of_units from what bytes on = record { text = on.text; so_far = on.so_far; gains = fronted a c on.text (front_on on.text on.gains) }

  stops_on : (verdict : Verdict) (stop : Stop) → StopsFrom said verdict stop b c → StopsFrom [] verdict stop a c
  stops_on verdict stops.Refused on = (on.0, gains_on (verdict_text verdict) on.1)
  stops_on verdict stops.Faulted on = (on.0, gains_on (verdict_text verdict) on.1)
  stops_on verdict stops.Write on = fails_on (verdict_text verdict) on
  stops_on verdict stops.OutOfMemory on = front_on (verdict_text verdict) on

  pub stops_kept : (verdict : Verdict) (stop : Stop) (Kept : Type 0) → StopsFrom said verdict stop b c × Kept → StopsFrom [] verdict stop a c × Kept
  stops_kept verdict stop Kept (on, kept) = (stops_on verdict stop on, kept)

-- ---- laws of outlooks

-- What was said of bytes that nothing stops begins what is written for all that begins with them.
abbrev pub Begins : Type 0
Begins = (from : Form) (what : Written) (limits : Limits) (bytes more said : List ℕ) (tally : Tally) (v : Verdict) → AreLimits limits
    → IsOutlookAs from what limits bytes (good said tally) → IsVerdictAs from what limits (bytes ++ more) v → IsFront said (verdict_text v)

-- a refusal or a fault stays the verdict
abbrev pub Lasts : Type 0
Lasts = (from : Form) (what : Written) (limits : Limits) (bytes more : List ℕ) (outlook : Verdict) → IsLasting outlook
    → IsOutlookAs from what limits bytes outlook → IsVerdictAs from what limits (bytes ++ more) outlook

abbrev pub SomeOutlook : Type 0
SomeOutlook = (from : Form) (what : Written) (limits : Limits) (bytes : List ℕ) → AreBytes bytes → (outlook : Verdict) × IsOutlookAs from what limits bytes outlook

abbrev pub OneVerdict : Type 0
OneVerdict = (from : Form) (what : Written) (limits : Limits) (bytes : List ℕ) (v w : Verdict) → AreLimits limits
    → IsVerdictAs from what limits bytes v → IsVerdictAs from what limits bytes w → v ≡ w

pub shipped_valid : AreLimits shipped_limits
shipped_valid = record {
  unit = (omega arith, omega arith);
  json = (omega arith, omega arith);
  binary = (omega arith, omega arith);
  head = (omega arith, omega arith);
  body = (omega arith, omega arith);
  reply = (omega arith, omega arith);
}

-- where the bytes of an input are told, they are those that it gave, and others
pub told_behind : (left now : Option (List ℕ)) (given : List ℕ) (P : List ℕ → Type 0) → Consumes left now given → ((rest : List ℕ) → P (given ++ rest)) → IfSome left P
told_behind None now given P gave holds = tt
told_behind (Some bytes) None given P gave holds = absurd gave
told_behind (Some bytes) (Some rest) given P gave holds = subst P (sym gave) (holds rest)

-- ---- a call that stopped, behind which others may come

stops_longer : (text : List ℕ) (tally : Tally) (stop : Stop) (v : Verdict) (a c : Outlet) → IsFront text (verdict_text v)
    → StopsFrom [] (good text tally) stop a c → StopsFrom [] v stop a c
stops_longer text tally stops.Refused v a c front ((why, e), on) = absurd (cc)
stops_longer text tally stops.Faulted v a c front ((why, e), on) = absurd (cc)
stops_longer text tally stops.Write v a c front s =
    record { added = verdict_text v; parts = refl; fails = fails_longer a c text (verdict_text v) front (failed a c text s) }
stops_longer text tally stops.OutOfMemory v a c front s =
    record { added = verdict_text v; parts = refl; gains = front_longer a c text (verdict_text v) front (fronted a c text s) }

-- a stop that is neither keeps no refusal or fault
keeps_none : (text : List ℕ) (tally : Tally) (state : State) (v : Verdict) → KeepsWhy (good text tally) state → KeepsWhy v state
keeps_none text tally (states.Refused refusal) v kept = absurd (cc)
keeps_none text tally (states.Faulted found) v kept = absurd (cc)
keeps_none text tally states.Open v kept = tt
keeps_none text tally states.Ended v kept = tt
keeps_none text tally states.Write v kept = tt
keeps_none text tally states.OutOfMemory v kept = tt

module _ (begins : Begins) (lasts : Lasts) (one : OneVerdict) (from : Form) (what : Written) (given rest : List ℕ) where
  -- what is lasting is the verdict on all
  same_verdict : (outlook v : Verdict) → IsLasting outlook → IsOutlookAs from what shipped_limits given outlook → IsVerdictAs from what shipped_limits (given ++ rest) v → outlook ≡ v
  same_verdict outlook v stays is is_verdict =
      one from what shipped_limits (given ++ rest) outlook v shipped_valid (lasts from what shipped_limits given rest outlook stays is) is_verdict

  -- what a call did by the outlook on the bytes so far it did by the verdict on all
  pub stops_whole : (a c : Outlet) (stop : Stop) (state : State) (outlook v : Verdict) → IsOutlookAs from what shipped_limits given outlook
      → IsVerdictAs from what shipped_limits (given ++ rest) v → StopsFrom [] outlook stop a c × KeepsWhy outlook state → StopsFrom [] v stop a c × KeepsWhy v state
  stops_whole a c stop state (good text tally) v is is_verdict (s, kept) =
      (stops_longer text tally stop v a c (begins from what shipped_limits given rest text tally v shipped_valid is is_verdict) s, keeps_none text tally state v kept)
  stops_whole a c stop state (refused why text) v is is_verdict done =
      subst (λ (w : Verdict). StopsFrom [] w stop a c × KeepsWhy w state) (same_verdict (refused why text) v tt is is_verdict) done
  stops_whole a c stop state (faulted why text) v is is_verdict done =
      subst (λ (w : Verdict). StopsFrom [] w stop a c × KeepsWhy w state) (same_verdict (faulted why text) v tt is is_verdict) done

  lasting_whole : (outlook told : Verdict) → IsOutlookAs from what shipped_limits given outlook → outlook ≡ told → IsLasting told → (v : Verdict) × IsVerdictAs from what shipped_limits (given ++ rest) v
  lasting_whole outlook told is same lasting = (outlook, lasts from what shipped_limits given rest outlook (subst (λ (v : Verdict). IsLasting v) (sym same) lasting) is)

  -- where it carried out the outlook, there is a verdict on all
  pub judged_whole : (a c : Outlet) (stop : Stop) → IsJudgedOn {T = Unit {0}} (open_form from) (open_target (written_target what)) shipped_limits given (Err stop)
      → ((outlook : Verdict) → IsOutlookAs from what shipped_limits given outlook → StopsFrom [] outlook stop a c) → IsJudgedAs {T = Unit {0}} from what shipped_limits (given ++ rest) (Err stop)
  judged_whole a c stops.Refused (outlook, is) on = lasting_whole outlook _ is (on outlook is).0.1 tt
  judged_whole a c stops.Faulted (outlook, is) on = lasting_whole outlook _ is (on outlook is).0.1 tt
  judged_whole a c stops.Write judged on = tt
  judged_whole a c stops.OutOfMemory judged on = tt
