-- A converter that is fed a gauge: nothing stops it but want of memory, since its verdict on all groups is good.
use Rattle.std.proofs.Common.{◌≡◌, ℕ, zero, suc, ◌+◌, ◌-◌, ◌<◌, ◌≤◌, Bool, true, false, List, [], ◌++◌, length, Some, None, Ok, Err, refl, sym, ap, subst, ◌∙◌, arith, append-nil, append_assoc}
use Rattle.std.specs.Prelude.{if◌then◌else◌, nat_lt}
use Rattle.std.proofs.lemmas.Bool.{lt-ltb, false≢true}
use Rattle.span_io.specs.Counting.{counting_outlet}
use Rattle.span_io.specs.Limits.{AreLimits, shipped_limits}
use Rattle.span_io.specs.Outside.{Gains, GainLaws, IsFront, OutputFails, Rises, last_count}
use Rattle.span_io.specs.declared.form.Form.{Form}
use Rattle.span_io.specs.declared.form.Form.TheVariants.{OtlpProto}
use Rattle.otlp_proto.specs.Canonical.{group_record}
use Rattle.span_convert.specs.Converters.{Feeds, work_of}
use Rattle.span_convert.specs.Outlooks.{IsLasting, IsOutlookAs, EndsFrom, GainsFrom, StopsFrom}
use Rattle.span_convert.specs.Reports.{IsVerdictAs}
use Rattle.span_convert.specs.Units.{canonical_text}
use Rattle.span_convert.specs.Verdicts.{Verdict, good, refused, faulted, tally_of}
use Rattle.span_convert.specs.declared.walker.Walker.{Walker}
use Rattle.span_convert.specs.declared.stop.Stop.{Stop}
use Rattle.span_convert.specs.declared.stop.Stop.TheVariants as stops
use Rattle.span_convert.specs.declared.tally.Tally.{Tally}
use Rattle.span_convert.specs.declared.written.Written.TheVariants as written
use Rattle.span_vectors.specs.private.Feeds.{FeedsGroups, groups_text, to_form}
use Rattle.span_vectors.specs.Gauge.{gauge, gauge_group, group_count}
use Rattle.span_vectors.specs.StatedLaws.{GaugeIsConverted}
use Rattle.span_vectors.proofs.Frames.{groups_more}
use Rattle.span_vectors.proofs.Verdicts.{are_limits}

-- ---- the first groups

-- the request of the first groups begins that of more
pub groups_front : (spans n k m : ℕ) → m ≡ n + k → IsFront (groups_text spans n) (groups_text spans m)
groups_front spans n zero m e =
    let same : m ≡ n = omega (arith, e) in
    subst (λ (x : ℕ). IsFront (groups_text spans n) (groups_text spans x)) (sym same) ([], sym (append-nil (groups_text spans n)))
groups_front spans n (suc k) m e =
    let (others, parts) = groups_front spans n k (n + k) refl in
    let next : m ≡ (n + k) + 1 = omega (arith, e) in
    let record_text = group_record (gauge_group spans ((n + k) + 1)) in (
      others ++ record_text,
      ap (λ (x : ℕ). groups_text spans x) next ∙ groups_more spans (n + k)
          ∙ ap (λ (l : List ℕ). l ++ record_text) parts ∙ append_assoc (groups_text spans n) others record_text,
    )

lasting_good : (outlook : Verdict) (text : List ℕ) (tally : Tally) → IsLasting outlook → outlook ≡ good text tally → ⊥
lasting_good (good whole counts) text tally stays e = stays
lasting_good (refused why whole) text tally stays e = absurd (cc)
lasting_good (faulted why whole) text tally stays e = absurd (cc)

module _ (to : Form) (spans : ℕ) where
  abbrev pub verdict : Verdict
  verdict = good (canonical_text to (gauge spans)) (tally_of (group_count spans) spans)

  module _ (one : (bytes : List ℕ) (v w : Verdict) → AreLimits shipped_limits → IsVerdictAs OtlpProto (written.Form to) shipped_limits bytes v → IsVerdictAs OtlpProto (written.Form to) shipped_limits bytes w → v ≡ w)
      (lasts : (bytes more : List ℕ) (outlook : Verdict) → IsLasting outlook → IsOutlookAs OtlpProto (written.Form to) shipped_limits bytes outlook → IsVerdictAs OtlpProto (written.Form to) shipped_limits (bytes ++ more) outlook)
      (converted : GaugeIsConverted to spans) (n : ℕ) (low : n ≤ group_count spans) where
    -- nothing stops the first groups
    goes_on : (outlook : Verdict) → IsLasting outlook → IsOutlookAs OtlpProto (written.Form to) shipped_limits (groups_text spans n) outlook → ⊥
    goes_on outlook stays is =
        let (others, parts) = groups_front spans n (group_count spans - n) (group_count spans) (omega (arith, low)) in
        let told = subst (λ (l : List ℕ). IsVerdictAs OtlpProto (written.Form to) shipped_limits l outlook) (sym parts) (lasts (groups_text spans n) others outlook stays is) in
        lasting_good outlook (canonical_text to (gauge spans)) (tally_of (group_count spans) spans) stays
        (one (groups_text spans (group_count spans)) outlook verdict are_limits told converted)

    pub feed_wants : (new : Walker) (said : List ℕ) (stop : Stop) (a b : ℕ) → Feeds (to_form to) new said (groups_text spans n) (Err stop) (counting_outlet a) (counting_outlet b)
        → (stop ≡ stops.Write → OutputFails (counting_outlet a) (counting_outlet b)) → stop ≡ stops.OutOfMemory
    feed_wants new said stops.Refused a b feeds fails =
        let (outlook, is) = feeds.exists in let why = (feeds.outlook outlook is).0.0 in absurd (goes_on outlook (subst (λ (v : Verdict). IsLasting v) (sym why.1) tt) is)
    feed_wants new said stops.Faulted a b feeds fails =
        let (outlook, is) = feeds.exists in let why = (feeds.outlook outlook is).0.0 in absurd (goes_on outlook (subst (λ (v : Verdict). IsLasting v) (sym why.1) tt) is)
    feed_wants new said stops.Write a b feeds fails = absurd ((fails refl).unsure refl)
    feed_wants new said stops.OutOfMemory a b feeds fails = refl

-- ---- what the sink gained

module _ (gain : GainLaws) (said : List ℕ) (a b : ℕ) (before : Gains (counting_outlet 0) (counting_outlet a) said) where
  pub on_from : (text : List ℕ) → GainsFrom said (counting_outlet a) (counting_outlet b) text → Gains (counting_outlet 0) (counting_outlet b) text
  on_from text on = subst (λ (l : List ℕ). Gains (counting_outlet 0) (counting_outlet b) l) (sym on.parts)
      (gain.both (counting_outlet 0) (counting_outlet a) (counting_outlet b) said on.added before on.gains)

  -- the end
  pub counts_all : (text : List ℕ) (tally counts : Tally) → EndsFrom said (good text tally) counts (counting_outlet a) (counting_outlet b) → b < last_count → b ≡ length text
  counts_all text tally counts ends low = by (nat_lt b last_count) (lt-ltb b last_count low) (on_from text ends.1).taken
    where
      by : (t : Bool) → t ≡ true → Rises (Some 0) (if t then Some b else None) (length text) → b ≡ length text
      by true e h = omega (arith, h)
      by false e h = absurd (false≢true e)

-- a good verdict can stop for want of memory alone, where the sink never fails
pub only_memory : (said : List ℕ) (stop : Stop) (text : List ℕ) (tally : Tally) (a b : ℕ) → StopsFrom said (good text tally) stop (counting_outlet a) (counting_outlet b)
    → (stop ≡ stops.Write → OutputFails (counting_outlet a) (counting_outlet b)) → stop ≡ stops.OutOfMemory
only_memory said stops.Refused text tally a b ((why, e), on) fails = absurd (cc)
only_memory said stops.Faulted text tally a b ((why, e), on) fails = absurd (cc)
only_memory said stops.Write text tally a b h fails = absurd ((fails refl).unsure refl)
only_memory said stops.OutOfMemory text tally a b h fails = refl

-- one group more was fed
pub feeds_more : (gain : GainLaws) (old new : Walker) (spans n a b : ℕ) (feeds : FeedsGroups old spans n a) → Feeds (to_form feeds.to) new feeds.said (groups_text spans (n + 1)) (Ok tt) (counting_outlet a) (counting_outlet b)
    → FeedsGroups new spans (n + 1) b
feeds_more gain old new spans n a b feeds more =
    record { to = feeds.to; said = more.fed.text; fed = more.fed.is; gains = on_from gain feeds.said a b feeds.gains more.fed.text more.fed.gains }

-- the form that it writes is one
pub same_to : (c : Walker) (to other : Form) → (work_of c).what ≡ written.Form to → (work_of c).what ≡ written.Form other → other ≡ to
same_to c to other is is_other = one_form (sym is_other ∙ is)
  where
    one_form : written.Form other ≡ written.Form to → other ≡ to
    one_form e = cc
