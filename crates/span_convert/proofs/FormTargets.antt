-- Each form as a target of units: it says of them what it says of their groups.
use Rattle.std.proofs.Common.{◌≡◌, ◌++◌, ◌∷◌, ℕ, List, [], length, All, ap, sym, subst, ◌∙◌}
use Rattle.std.proofs.lemmas.List.{map-append}
use Rattle.std.proofs.lemmas.List.Elements.{All-nil, All-cons, All-head, All-tail, All-map}
use Rattle.span_io.specs.Outside.{IsFront}
use Rattle.span_io.specs.declared.form.Form.{Form}
use Rattle.trace_model.specs.OtlpParts.{NotedGroup}
use Rattle.trace_model.specs.Proper.{IsProperGroup}
use Rattle.trace_model.specs.Soundness.{IsSoundGroup}
use Rattle.trace_model.specs.declared.group.Group.{Group}
use Rattle.map_jaeger.specs.StatedLaws.{FaultsFound}
use Rattle.map_zipkin.specs.StatedLaws.{ZipkinFaultsFound, ZipkinNormalForms}
use Rattle.span_convert.specs.Canonical.{IsHeldBy}
use Rattle.span_convert.specs.Targets.{CanHoldUnits, AreHeldBy, form_target}
use Rattle.span_convert.specs.private.TargetSteps.{TargetLaws}
use Rattle.span_convert.specs.Units.{groups_in, CanHold, IsSizedGroup, partial_text, span_count}
use Rattle.span_convert.specs.Verdicts.{CanHoldTrace, tally_of, units_tally}
use Rattle.span_convert.specs.Pens.{StandsForAny}
use Rattle.span_convert.specs.private.WalkSteps.{WritesUnit}
use Rattle.span_convert.specs.declared.tally.Tally.{Tally}
use Rattle.span_convert.proofs.TargetLaws as by_form
use Rattle.span_convert.proofs.WalkLemmas.{as_many, groups_push, held_one}

-- ---- what holds of units and of their groups

all_units : (P : Group → Type 0) (units : List NotedGroup) → All P (groups_in units) → All (λ (unit : NotedGroup). P unit.means) units
all_units P [] h = All-nil (λ (unit : NotedGroup). P unit.means)
all_units P (unit ∷ units) h =
    All-cons (λ (unit : NotedGroup). P unit.means) unit units (All-head P unit.means (groups_in units) h) (all_units P units (All-tail P unit.means (groups_in units) h))

all_groups : (P : Group → Type 0) (units : List NotedGroup) → All (λ (unit : NotedGroup). P unit.means) units → All P (groups_in units)
all_groups P units h = All-map P (λ (unit : NotedGroup). unit.means) units h

pub held_groups : (to : Form) (units : List NotedGroup) → CanHoldUnits (form_target to) units → CanHoldTrace to (groups_in units)
held_groups to units h = record { sound = h.sound; proper = h.proper; no_fault = all_groups (CanHold to) units h.no_fault }

pub held_units : (to : Form) (units : List NotedGroup) → CanHoldTrace to (groups_in units) → CanHoldUnits (form_target to) units
held_units to units h = record { sound = h.sound; proper = h.proper; no_fault = all_units (CanHold to) units h.no_fault }

pub sized_groups : (to : Form) (units : List NotedGroup) → All (form_target to).IsSized units → All (IsSizedGroup to) (groups_in units)
sized_groups to units h = all_groups (IsSizedGroup to) units h

pub are_held_groups : (to : Form) (units : List NotedGroup) → AreHeldBy (form_target to) units → IsHeldBy to (groups_in units)
are_held_groups to units h = record { can_hold = held_groups to units h.can_hold; sized = sized_groups to units h.sized }

-- so many are counted
pub groups_tally : (units : List NotedGroup) → units_tally units ≡ tally_of (length (groups_in units)) (span_count (groups_in units))
groups_tally units = ap (λ n. tally_of n (span_count (groups_in units))) (sym (as_many units))

-- ---- its laws

front : ZipkinNormalForms → (to : Form) (a b : List NotedGroup) → CanHoldUnits (form_target to) (a ++ b)
    → IsFront (partial_text to (groups_in a)) (partial_text to (groups_in (a ++ b)))
front Z to a b held =
    let parts : groups_in (a ++ b) ≡ groups_in a ++ groups_in b = map-append (λ (unit : NotedGroup). unit.means) a b in
    let w = by_form.partial_front Z to (groups_in a) (groups_in b) (subst (λ (l : List Group). CanHoldTrace to l) parts (held_groups to (a ++ b) held)) in
    (w.0, ap (λ (l : List Group). partial_text to l) parts ∙ w.1)

pub form_laws : FaultsFound → ZipkinFaultsFound → ZipkinNormalForms → (to : Form) → TargetLaws (form_target to)
form_laws jaeger zipkin Z to = record {
  fault_or_none = λ unit sound. by_form.fault_or_none jaeger zipkin to unit.means sound;
  fault_once = λ unit a b h k. by_form.fault_once to unit.means a b h k;
  no_fault = λ unit fault has can. by_form.no_fault to unit.means fault has can;
  none = by_form.partial_none to;
  front = front Z to;
  closed = λ units. by_form.closed to (groups_in units);
}

-- ---- what a writer of a form adds

module _ {W : Type 0} (to : Form) (unit : NotedGroup) (tally : Tally) (writer later : W) where
  pub writes_unit : (before now added : List ℕ) → IsSoundGroup unit.means → IsProperGroup unit.means → CanHold to unit.means → IsSizedGroup to unit.means → now ≡ before ++ added
      → ((groups : List Group) → IsHeldBy to groups → tally ≡ tally_of (length groups) (span_count groups) → partial_text to (groups ++ unit.means ∷ []) ≡ partial_text to groups ++ added)
      → WritesUnit (form_target to) StandsForAny unit tally writer later before now
  writes_unit before now added sound proper fine sized appended text = record {
    held = held_one (form_target to) unit sound proper fine sized;
    added = added;
    appended = appended;
    adds = λ units held counts stands. (
      ap (λ (l : List Group). partial_text to l) (groups_push units unit) ∙ text (groups_in units) (are_held_groups to units held) (counts ∙ groups_tally units),
      tt,
    );
  }
