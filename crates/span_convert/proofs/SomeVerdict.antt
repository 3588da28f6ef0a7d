-- Bytes have a verdict, where each input has units or is refused.
use Rattle.std.proofs.Common.{◌≡◌, ℕ, ◌+◌, ◌<◌, ◌⊎◌, inl, inr, List, [], ◌∷◌, ◌++◌, length, All, refl, ap, subst}
use Rattle.std.proofs.lemmas.List.Elements.{All-nil, All-cons, All-head, All-tail}
use Rattle.span_io.specs.declared.limits.Limits.{Limits}
use Rattle.span_io.specs.declared.refusal.Refusal.{Refusal}
use Rattle.trace_model.specs.Soundness.{IsSoundGroup, IsSoundTrace}
use Rattle.trace_model.specs.declared.fault.Fault.{Fault}
use Rattle.trace_model.specs.OtlpParts.{NotedGroup}
use Rattle.span_convert.specs.Targets.{Target, CanHoldUnits}
use Rattle.span_convert.specs.private.TargetSteps.{TargetLaws}
use Rattle.span_convert.specs.Units.{InputForm, groups_in}
use Rattle.span_convert.specs.Verdicts.{Verdict, good, refused, faulted, IsVerdictOn, units_tally}
use Rattle.span_convert.proofs.InputForms.{InputFormLaws, IsDecidedInput, SomeInput}
use Rattle.span_convert.proofs.WalkLemmas.{holds_no_unit}

-- ---- the first unit with a fault

module _ (to : Target) (T : TargetLaws to) where
  record FirstFault (units : List NotedGroup) : Type 0 where
    before : List NotedGroup
    unit : NotedGroup
    more : List NotedGroup
    parts : units ≡ (before ++ unit ∷ []) ++ more
    fine : All to.CanHold before
    found : (fault : Fault) × to.FaultOf unit fault

  by_fault : (unit : NotedGroup) (units : List NotedGroup) → to.CanHold unit ⊎ ((fault : Fault) × to.FaultOf unit fault) → All to.CanHold units ⊎ FirstFault units
      → All to.CanHold (unit ∷ units) ⊎ FirstFault (unit ∷ units)
  by_fault unit units (inr has) w = inr (record { before = []; unit = unit; more = units; parts = refl; fine = All-nil to.CanHold; found = has })
  by_fault unit units (inl can) (inl fine) = inl (All-cons to.CanHold unit units can fine)
  by_fault unit units (inl can) (inr w) = inr (record {
    before = unit ∷ w.before;
    unit = w.unit;
    more = w.more;
    parts = ap (λ l. unit ∷ l) w.parts;
    fine = All-cons to.CanHold unit w.before can w.fine;
    found = w.found;
  })

  first_fault : (units : List NotedGroup) → IsSoundTrace (groups_in units) → All to.CanHold units ⊎ FirstFault units
  first_fault [] sound = inl (All-nil to.CanHold)
  first_fault (unit ∷ units) sound =
      by_fault unit units (T.fault_or_none unit (All-head IsSoundGroup unit.means (groups_in units) sound)) (first_fault units (All-tail IsSoundGroup unit.means (groups_in units) sound))

  -- ---- the verdict

  module _ (from : InputForm) (L : InputFormLaws from) (S : SomeInput from) (limits : Limits) (bytes : List ℕ) (all : All (λ b. b < 256) bytes) where
    abbrev Exists : Type 0
    Exists = (verdict : Verdict) × IsVerdictOn from to limits bytes verdict

    can_hold : (units : List NotedGroup) → from.Begins limits bytes units → All to.CanHold units → CanHoldUnits to units
    can_hold units begins fine = record { sound = S.sound limits bytes units begins; proper = S.proper limits bytes units all begins; no_fault = fine }

    -- an input that begins so has a fault, or goes on behind units that the target can hold
    behind : (units : List NotedGroup) → from.Begins limits bytes units → (CanHoldUnits to units → Exists) → Exists
    behind units begins go_on = of (first_fault units (S.sound limits bytes units begins))
      where
        of : All to.CanHold units ⊎ FirstFault units → Exists
        of (inl fine) = go_on (can_hold units begins fine)
        of (inr w) =
            let there = L.shorter limits bytes (w.before ++ w.unit ∷ []) w.more (subst (λ (l : List NotedGroup). from.Begins limits bytes l) w.parts begins) in (
              faulted (record { unit = length w.before + 1; fault = w.found.0 }) (to.partial_text w.before),
              record {
                noted = w.before;
                next = w.unit;
                begins = there;
                held = can_hold w.before (L.shorter limits bytes w.before (w.unit ∷ []) there) w.fine;
                fault = w.found.1;
                number = refl;
                is_text = refl;
              },
            )

    of_refused : (units : List NotedGroup) (refusal : Refusal) → from.Refuses limits bytes units refusal → CanHoldUnits to units → Exists
    of_refused units refusal refuses held = (refused refusal (to.partial_text units), record { noted = units; refuses = refuses; held = held; is_text = refl })

    of_good : (units : List NotedGroup) → from.IsWhole limits bytes units → CanHoldUnits to units → Exists
    of_good units whole held = (
      good (to.whole_text units) (units_tally units),
      record { noted = units; whole = whole; held = held; is_text = refl; counts = refl },
    )

    behind_none : (units : List NotedGroup) (refusal : Refusal) → from.Refuses limits bytes units refusal → (units ≡ []) ⊎ from.Begins limits bytes units → Exists
    behind_none units refusal refuses (inr begins) = behind units begins (of_refused units refusal refuses)
    behind_none units refusal refuses (inl e) =
        of_refused [] refusal (subst (λ (l : List NotedGroup). from.Refuses limits bytes l refusal) e refuses) (holds_no_unit to)

    by_decided : IsDecidedInput from limits bytes → Exists
    by_decided (inl (units, whole)) = behind units (L.whole_begins limits bytes units whole) (of_good units whole)
    by_decided (inr (units, refusal, refuses)) = behind_none units refusal refuses (L.refused_begins limits bytes units refusal refuses)

    pub some_verdict : Exists
    some_verdict = by_decided (S.decided limits bytes all)
