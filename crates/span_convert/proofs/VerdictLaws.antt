-- Bytes have one verdict at most, and what is written for them begins with each text so far.
use Rattle.std.proofs.Common.{◌≡◌, ◌+◌, ◌++◌, ◌∷◌, ◌⊎◌, inl, inr, ℕ, List, [], length, All, ap, sym, ◌∙◌, subst}
use Rattle.std.proofs.lemmas.List.{append-nil, append_assoc, same_from_push}
use Rattle.std.proofs.lemmas.List.Elements.{All-head, All-tail}
use Rattle.span_io.proofs.Cuts.{snoc_front}
use Rattle.span_io.specs.Limits.{AreLimits}
use Rattle.span_io.specs.Outside.{IsFront}
use Rattle.span_io.specs.declared.limits.Limits.{Limits}
use Rattle.span_io.specs.declared.refusal.Refusal.{Refusal}
use Rattle.trace_model.specs.declared.fault.Fault.{Fault}
use Rattle.trace_model.specs.OtlpParts.{NotedGroup}
use Rattle.span_convert.specs.Targets.{Target, CanHoldUnits}
use Rattle.span_convert.specs.private.TargetSteps.{TargetLaws}
use Rattle.span_convert.specs.Units.{InputForm}
use Rattle.span_convert.specs.Verdicts.{Verdict, good, refused, faulted, IsGood, IsRefusal, IsFaulted, IsPartial, IsTextSoFar, none, first, all, IsVerdictOn, verdict_text, units_tally}
use Rattle.span_convert.specs.declared.tally.Tally.{Tally}
use Rattle.span_convert.specs.declared.target_fault.TargetFault.{TargetFault}
use Rattle.span_convert.proofs.FramedInputs.{both_first}
use Rattle.span_convert.proofs.InputForms.{ComesFirst, InputFormLaws}

-- ---- lists

-- what holds of each member holds of this one
all_at : {A : Type 0} (P : A → Type 0) (before : List A) (x : A) (behind : List A) → All P ((before ++ x ∷ []) ++ behind) → P x
all_at P [] x behind h = All-head P x behind h
all_at P (y ∷ before) x behind h = all_at P before x behind (All-tail P y ((before ++ x ∷ []) ++ behind) h)

same_fault : (a b : TargetFault) → a.unit ≡ b.unit → a.fault ≡ b.fault → a ≡ b
same_fault a b e f = ap (λ u. record { unit = u; fault = a.fault }) e ∙ ap (λ c. record { unit = b.unit; fault = c }) f

-- ---- one verdict

module _ (from : InputForm) (L : InputFormLaws from) (to : Target) (T : TargetLaws to) (limits : Limits) (valid : AreLimits limits) (bytes : List ℕ) where
  -- no units that the target can hold go on behind one with a fault
  never_beyond : (before : List NotedGroup) (unit : NotedGroup) (fault : Fault) (units : List NotedGroup) → to.FaultOf unit fault → All to.CanHold units → ComesFirst (before ++ unit ∷ []) units → ⊥
  never_beyond before unit fault units has fine w =
      T.no_fault unit fault has (all_at to.CanHold before unit w.more (subst (λ (l : List NotedGroup). All to.CanHold l) w.parts fine))

  same_whole : (a b : List NotedGroup) → from.IsWhole limits bytes a → from.IsWhole limits bytes b → a ≡ b
  same_whole a b h g =
      let over : ComesFirst b a = L.whole_ends limits bytes a b valid h (L.whole_begins limits bytes b g) in
      let under : ComesFirst a b = L.whole_ends limits bytes b a valid g (L.whole_begins limits bytes a h) in
      both_first a b under over

  good_not_faulted : (text other : List ℕ) (tally : Tally) (found : TargetFault) → IsGood from to limits bytes text tally → IsFaulted from to limits bytes other found → ⊥
  good_not_faulted text other tally found h g =
      never_beyond g.noted g.next found.fault h.noted g.fault h.held.no_fault (L.whole_ends limits bytes h.noted (g.noted ++ g.next ∷ []) valid h.whole g.begins)

  refused_not_faulted : (text other : List ℕ) (refusal : Refusal) (found : TargetFault) → IsRefusal from to limits bytes text refusal → IsFaulted from to limits bytes other found → ⊥
  refused_not_faulted text other refusal found h g =
      never_beyond g.noted g.next found.fault h.noted g.fault h.held.no_fault (L.refused_ends limits bytes h.noted (g.noted ++ g.next ∷ []) refusal valid h.refuses g.begins)

  -- units that the target can hold end before one with a fault
  fault_behind : (units before : List NotedGroup) (unit : NotedGroup) (fault : Fault) → All to.CanHold units → to.FaultOf unit fault → ComesFirst units (before ++ unit ∷ []) ⊎ ComesFirst (before ++ unit ∷ []) units → ComesFirst units before
  fault_behind units before unit fault fine has (inr w) = absurd (never_beyond before unit fault units has fine w)
  fault_behind units before unit fault fine has (inl w) = of w.more w.parts
    where
      of : (more : List NotedGroup) → before ++ unit ∷ [] ≡ units ++ more → ComesFirst units before
      of [] e = absurd (never_beyond before unit fault units has fine (record { more = []; parts = sym (append-nil units) ∙ sym e ∙ sym (append-nil (before ++ unit ∷ [])) }))
      of (x ∷ more) e = let w = snoc_front before unit units (x ∷ more) e (λ empty. cc) in record { more = w.0; parts = w.1 }

  -- two units with a fault that stand behind such units are one, and so are the units before
  same_before : (a b : List NotedGroup) (g h : NotedGroup) (one other : Fault) → All to.CanHold a → All to.CanHold b → to.FaultOf g one → to.FaultOf h other → from.Begins limits bytes (a ++ g ∷ []) → from.Begins limits bytes (b ++ h ∷ []) → a ++ g ∷ [] ≡ b ++ h ∷ []
  same_before a b g h one other fine_a fine_b has is begins there = of (L.compare limits bytes (a ++ g ∷ []) (b ++ h ∷ []) begins there)
    where
      same : (x y : List NotedGroup) (p q : NotedGroup) (fault : Fault) → All to.CanHold y → to.FaultOf p fault → (more : List NotedGroup) → y ++ q ∷ [] ≡ (x ++ p ∷ []) ++ more → x ++ p ∷ [] ≡ y ++ q ∷ []
      same x y p q fault fine has [] e = sym (append-nil (x ++ p ∷ [])) ∙ sym e
      same x y p q fault fine has (z ∷ more) e =
          let w = snoc_front y q (x ++ p ∷ []) (z ∷ more) e (λ empty. cc) in
          absurd (never_beyond x p fault y has fine (record { more = w.0; parts = w.1 }))

      of : ComesFirst (a ++ g ∷ []) (b ++ h ∷ []) ⊎ ComesFirst (b ++ h ∷ []) (a ++ g ∷ []) → a ++ g ∷ [] ≡ b ++ h ∷ []
      of (inl w) = same a b g h one fine_b has w.more w.parts
      of (inr w) = sym (same b a h g other fine_a is w.more w.parts)

  same_good : (text other : List ℕ) (tally counts : Tally) → IsGood from to limits bytes text tally → IsGood from to limits bytes other counts → good text tally ≡ good other counts
  same_good text other tally counts h g =
      let units : h.noted ≡ g.noted = same_whole h.noted g.noted h.whole g.whole in
      let texts : text ≡ other = h.is_text ∙ ap (λ (l : List NotedGroup). to.whole_text l) units ∙ sym g.is_text in
      let tallies : tally ≡ counts = h.counts ∙ ap (λ (l : List NotedGroup). units_tally l) units ∙ sym g.counts in
      cc

  same_refused : (text other : List ℕ) (r q : Refusal) → IsRefusal from to limits bytes text r → IsRefusal from to limits bytes other q → refused r text ≡ refused q other
  same_refused text other r q h g =
      let both : (h.noted ≡ g.noted) × (r ≡ q) = L.refused_once limits bytes h.noted g.noted r q valid h.refuses g.refuses in
      let texts : text ≡ other = h.is_text ∙ ap (λ (l : List NotedGroup). to.partial_text l) both.0 ∙ sym g.is_text in
      let why : r ≡ q = both.1 in
      cc

  same_faulted : (text other : List ℕ) (a b : TargetFault) → IsFaulted from to limits bytes text a → IsFaulted from to limits bytes other b → faulted a text ≡ faulted b other
  same_faulted text other a b h g =
      let both : (h.noted ≡ g.noted) × (h.next ≡ g.next) = same_from_push h.noted g.noted h.next g.next
      (same_before h.noted g.noted h.next g.next a.fault b.fault h.held.no_fault g.held.no_fault h.fault g.fault h.begins g.begins) in
      let texts : text ≡ other = h.is_text ∙ ap (λ (l : List NotedGroup). to.partial_text l) both.0 ∙ sym g.is_text in
      let faults : a.fault ≡ b.fault = T.fault_once g.next a.fault b.fault (subst (λ (x : NotedGroup). to.FaultOf x a.fault) both.1 h.fault) g.fault in
      let why : a ≡ b = same_fault a b (h.number ∙ ap (λ (l : List NotedGroup). length l + 1) both.0 ∙ sym g.number) faults in
      cc

  pub once : (v w : Verdict) → IsVerdictOn from to limits bytes v → IsVerdictOn from to limits bytes w → v ≡ w
  once (good text tally) (good other counts) h g = same_good text other tally counts h g
  once (good text tally) (refused refusal other) h g = absurd (L.whole_or_refused limits bytes h.noted g.noted refusal valid h.whole g.refuses)
  once (good text tally) (faulted found other) h g = absurd (good_not_faulted text other tally found h g)
  once (refused refusal text) (good other tally) h g = absurd (L.whole_or_refused limits bytes g.noted h.noted refusal valid g.whole h.refuses)
  once (refused r text) (refused q other) h g = same_refused text other r q h g
  once (refused refusal text) (faulted found other) h g = absurd (refused_not_faulted text other refusal found h g)
  once (faulted found text) (good other tally) h g = absurd (good_not_faulted other text tally found g h)
  once (faulted found text) (refused refusal other) h g = absurd (refused_not_faulted other text refusal found g h)
  once (faulted a text) (faulted b other) h g = same_faulted text other a b h g

  -- ---- what is written begins with each text so far

  first_text : (units them : List NotedGroup) → ComesFirst units them → CanHoldUnits to them → IsFront (to.partial_text units) (to.partial_text them)
  first_text units them w held =
      let front = T.front units w.more (subst (λ (l : List NotedGroup). CanHoldUnits to l) w.parts held) in
      (front.0, ap (λ (l : List NotedGroup). to.partial_text l) w.parts ∙ front.1)

  partial_first : (text : List ℕ) (v : Verdict) → IsPartial from to limits bytes text → IsVerdictOn from to limits bytes v → IsFront text (verdict_text v)
  partial_first text (good out tally) p h =
      let front = first_text p.noted h.noted (L.whole_ends limits bytes h.noted p.noted valid h.whole p.begins) h.held in (
        front.0 ++ to.closing_text h.noted,
        h.is_text
            ∙ T.closed h.noted
            ∙ ap (λ l. l ++ to.closing_text h.noted) (front.1 ∙ ap (λ l. l ++ front.0) (sym p.is_text))
            ∙ append_assoc text front.0 (to.closing_text h.noted),
      )
  partial_first text (refused refusal out) p h =
      let front = first_text p.noted h.noted (L.refused_ends limits bytes h.noted p.noted refusal valid h.refuses p.begins) h.held in
      (front.0, h.is_text ∙ front.1 ∙ ap (λ l. l ++ front.0) (sym p.is_text))
  partial_first text (faulted found out) p h =
      let behind = fault_behind p.noted h.noted h.next found.fault p.held.no_fault h.fault (L.compare limits bytes p.noted (h.noted ++ h.next ∷ []) p.begins h.begins) in
      let front = first_text p.noted h.noted behind h.held in
      (front.0, h.is_text ∙ front.1 ∙ ap (λ l. l ++ front.0) (sym p.is_text))

  pub so_far : (text : List ℕ) (v : Verdict) → IsTextSoFar from to limits bytes text → IsVerdictOn from to limits bytes v → IsFront text (verdict_text v)
  so_far text v (none e) h = (verdict_text v, ap (λ l. l ++ verdict_text v) (sym e))
  so_far text v (first p) h = partial_first text v p h
  so_far text v (all tally is) h = ([], ap (λ (w : Verdict). verdict_text w) (once v (good text tally) h is) ∙ sym (append-nil text))
