-- Connections that are served one after the other, and what was noted of them.
use Rattle.std.proofs.Common.{◌≡◌, ℕ, ◌+◌, ◌-◌, ◌<◌, ◌≤◌, Bool, true, false, List, [], ◌∷◌, ◌++◌, map, length, Option, Some, None, Result, Err, refl, sym, ap, subst, ◌∙◌, inl, arith, append_assoc, append-nil}
use Rattle.std.proofs.lemmas.List.{length-append, map-append}
use Rattle.std.specs.Prelude.{option_map}
use Rattle.span_io.specs.Doors.{Accepts, Doorway, IsAt, NoCallInVain, given_back, listened, not_listened, refused}
use Rattle.span_io.specs.Limits.{shipped_limits}
use Rattle.span_io.specs.Links.{Link}
use Rattle.span_io.specs.Outside.{Outlet, Rose, GainLaws}
use Rattle.span_io.specs.declared.course.DoorCourse.TheVariants as courses
use Rattle.span_io.specs.declared.form.Form.{Form}
use Rattle.span_io.specs.declared.limits.Limits.{Limits}
use Rattle.span_gateway.specs.Serving.{KeepsMark, Serves}
use Rattle.conn_service.specs.declared.ended.Ended.{Ended}
use Rattle.conn_service.specs.declared.ended.ServeFault.{ServeFault}
use Rattle.conn_service.specs.declared.ended.ServeFault.TheVariants as faults
use Rattle.conn_service.specs.private.DoorSteps.{GivesEach}
use Rattle.conn_service.specs.DoorRuns.{last_course}
use Rattle.conn_service.proofs.DoorLaws.{gives_all, gives_failed, gives_more, gives_one, leaves_listening, leaves_refused}
use Rattle.span_notes.specs.Notes.{NotesMore}
use Rattle.span_notes.proofs.NoteLaws.{notes_all, notes_as, notes_both, notes_nothing}
use Rattle.span_cli.specs.Servings.{Visit, IsVisit, AreVisits, WantsMemory, NoneWants, ServesConnections, backs_of, door_failed, end_line, end_status, links_of, visit_line, visit_lines}
use Rattle.span_cli.specs.private.ServingSteps.{ServesNext, HasServed, VisitsSoFar, ServesEach, ServesAt}
use Rattle.span_cli.specs.declared.serve.ServeEnd.{ServeEnd}
use Rattle.span_cli.specs.declared.serve.ServeEnd.TheVariants.{AllServed, DoorFailed, NoMemory}

-- ---- the door

pub untouched_door_in_vain : (now : Doorway) → NoCallInVain now now
untouched_door_in_vain now fresh vain = let e : ◌≡◌ {A = Option _} (Some courses.Fresh) (Some courses.InVain) = sym fresh ∙ vain in absurd (cc)

-- no end is in vain
pub served_in_vain : (before now : Doorway) (end : ServeEnd) → (before.course ≡ Some courses.Fresh → now.course ≡ Some (last_course (door_failed end))) → NoCallInVain before now
served_in_vain before now AllServed at fresh vain = let e : ◌≡◌ {A = Option _} (Some courses.Listening) (Some courses.InVain) = sym (at fresh) ∙ vain in absurd (cc)
served_in_vain before now DoorFailed at fresh vain = let e : ◌≡◌ {A = Option _} (Some courses.Stopped) (Some courses.InVain) = sym (at fresh) ∙ vain in absurd (cc)
served_in_vain before now NoMemory at fresh vain = let e : ◌≡◌ {A = Option _} (Some courses.Listening) (Some courses.InVain) = sym (at fresh) ∙ vain in absurd (cc)

-- ---- connections

module _ (to : Form) where
  are_more : (visits : List Visit) (visit : Visit) → AreVisits to visits → IsVisit to visit → AreVisits to (visits ++ visit ∷ [])
  are_more [] visit are is = (is, tt)
  are_more (v ∷ visits) visit are is = (are.0, are_more visits visit are.1 is)

  none_more : (visits : List Visit) (visit : Visit) → NoneWants visits → (WantsMemory visit → ⊥) → NoneWants (visits ++ visit ∷ [])
  none_more [] visit none no_want = (no_want, tt)
  none_more (v ∷ visits) visit none no_want = (none.0, none_more visits visit none.1 no_want)

  -- the line of one more
  lines_more : (number : ℕ) (visits : List Visit) (visit : Visit)
      → visit_lines number (visits ++ visit ∷ []) ≡ visit_lines number visits ++ visit_line (number + length visits) visit.ended
  lines_more number [] visit =
      append-nil (visit_line number visit.ended) ∙ ap (λ (n : ℕ). visit_line n visit.ended) (omega arith)
  lines_more number (v ∷ visits) visit =
      ap (λ (l : List ℕ). visit_line number v.ended ++ l) (lines_more (number + 1) visits visit)
      ∙ sym (append_assoc (visit_line number v.ended) (visit_lines (number + 1) visits) (visit_line (number + 1 + length visits) visit.ended))
      ∙ ap (λ (n : ℕ). visit_line number v.ended ++ visit_lines (number + 1) visits ++ visit_line n visit.ended) (omega arith)

  has_more : (visits : List Visit) (ended : Result Ended ServeFault) (a b c : Doorway) → HasServed to visits a b → (next : ServesNext to ended b c)
      → HasServed to (visits ++ next.visit ∷ []) a c
  has_more visits ended a b c has next =
      let links : links_of (visits ++ next.visit ∷ []) ≡ links_of visits ++ next.visit.before ∷ [] = map-append _ visits (next.visit ∷ []) in
      let backs : backs_of (visits ++ next.visit ∷ []) ≡ backs_of visits ++ next.visit.now ∷ [] = map-append _ visits (next.visit ∷ []) in
      record {
        served = are_more visits next.visit has.served next.served;
        gives = subst (λ (l : List Link). GivesEach a c l (backs_of (visits ++ next.visit ∷ []))) (sym links)
            (subst (λ (l : List Link). GivesEach a c (links_of visits ++ next.visit.before ∷ []) l) (sym backs)
            (gives_more a b c (links_of visits) (backs_of visits) next.visit.before next.visit.now has.gives next.gives));
      }

  -- the next one was accepted, served and given back
  pub is_next : (ended : Result Ended ServeFault) (limits : Limits) (before mid now : Doorway) (link after : Link) → limits ≡ shipped_limits → Accepts before mid link
      → now ≡ given_back mid after → Serves to limits link after ended → KeepsMark to limits link after → ServesNext to ended before now
  is_next ended limits before mid now link after shipped accepts back serves mark = record {
    visit = record { before = link; now = after; ended = ended };
    is_end = refl;
    served = record {
      serves = subst (λ (l : Limits). Serves to l link after ended) shipped serves;
      mark = subst (λ (l : Limits). KeepsMark to l link after) shipped mark;
      no_read_fault = accepts.no_read_fault;
      no_write_fault = accepts.no_write_fault;
    };
    gives = gives_one before mid now link after accepts back;
  }

  length_more : (visits : List Visit) (visit : Visit) → length (visits ++ visit ∷ []) ≡ length visits + 1
  length_more visits visit = length-append visits (visit ∷ [])

  -- no more were asked for
  pub each_served : (done count : ℕ) (held holds : Bool) (a b : Doorway) (x y : Outlet) → VisitsSoFar to done held holds a b x y → done ≡ count
      → ServesEach to count AllServed held holds a b x y
  each_served done count held holds a b x y so all = record {
    visits = so.visits;
    served = so.has_served.served;
    reaches = (so.number ∙ all, so.none);
    gives = gives_all a b _ _ so.has_served.gives so.faults so.goes;
    notes = so.notes;
  }

  -- the door gave none
  pub each_refused : (done count : ℕ) (held holds : Bool) (a b c : Doorway) (x y : Outlet) → VisitsSoFar to done held holds a b x y → done < count
      → c ≡ refused b c.faults → Rose b.faults c.faults → ServesEach to count DoorFailed held holds a c x y
  each_refused done count held holds a b c x y so more is rose = record {
    visits = so.visits;
    served = so.has_served.served;
    reaches = (omega (arith, so.number, more), so.none);
    gives = gives_failed a b _ _ so.has_served.gives so.faults so.goes c is rose;
    notes = so.notes;
  }

  module _ (done : ℕ) (held holds : Bool) (ended : Result Ended ServeFault) (a b c : Doorway) (x y : Outlet)
      (so : VisitsSoFar to done held holds a b x y) (next : ServesNext to ended b c) where
    -- and its line was noted
    pub so_far_more : (then : Bool) (z : Outlet) → (ended ≡ Err faults.OutOfMemory → ⊥) → NotesMore holds then y z (visit_line (done + 1) ended)
        → VisitsSoFar to (done + 1) held then a c x z
    so_far_more then z no_want noted = record {
      visits = so.visits ++ next.visit ∷ [];
      has_served = has_more so.visits ended a b c so.has_served next;
      number = length_more so.visits next.visit ∙ ap (λ (n : ℕ). n + 1) so.number;
      none = none_more so.visits next.visit so.none (λ wants. no_want (sym next.is_end ∙ wants));
      faults = next.gives.faults ∙ so.faults;
      goes = λ listens. next.gives.goes (so.goes listens);
      notes = notes_as held then x z _ _ (sym (lines_more 1 so.visits next.visit))
          (notes_both held holds then x y z (visit_lines 1 so.visits) (visit_line (1 + length so.visits) next.visit.ended) so.notes
          (notes_as holds then y z _ _ (λ i. visit_line (number_is i) (sym next.is_end i)) noted));
    }
      where
        number_is : done + 1 ≡ 1 + length so.visits
        number_is = omega (arith, so.number)

    -- or memory was wanted for it
    pub each_wants : (count : ℕ) → ended ≡ Err faults.OutOfMemory → done < count → ServesEach to count NoMemory held holds a c x y
    each_wants count wants more = record {
      visits = so.visits ++ next.visit ∷ [];
      served = are_more so.visits next.visit so.has_served.served next.served;
      reaches = (
        omega (arith, length_more so.visits next.visit, so.number, more),
        record { firsts = so.visits; last = next.visit; are = refl; none = so.none; wants = next.is_end ∙ wants },
      );
      gives = gives_all a c _ _ (has_more so.visits ended a b c so.has_served next).gives (next.gives.faults ∙ so.faults)
          (λ listens. next.gives.goes (so.goes listens));
      notes = notes_as held holds x y _ _
          (sym (lines_more 1 so.visits next.visit ∙ ap (λ (e : Result Ended ServeFault). visit_lines 1 so.visits ++ visit_line (1 + length so.visits) e) (next.is_end ∙ wants)
          ∙ append-nil (visit_lines 1 so.visits))) so.notes;
    }

  -- the door didn't listen
  pub listen_failed : (asked : List ℕ) (count : ℕ) (held : Bool) (before now : Doorway) (x : Outlet) → 1 ≤ count → now ≡ not_listened before asked now.faults
      → Rose before.faults now.faults → ServesAt asked to count DoorFailed held held before now x x
  listen_failed asked count held before now x some is rose = record {
    visits = [];
    served = tt;
    reaches = (omega (arith, some), tt);
    door = leaves_refused asked before now is rose;
    notes = notes_nothing held x;
  }

  -- or it did
  pub listen_served : (asked : List ℕ) (count : ℕ) (end : ServeEnd) (held holds : Bool) (before mid now : Doorway) (x y : Outlet) → mid ≡ listened before asked
      → IsAt before asked → ServesEach to count end held holds mid now x y → ServesAt asked to count end held holds before now x y
  listen_served asked count end held holds before mid now x y is right each = record {
    visits = each.visits;
    served = each.served;
    reaches = each.reaches;
    door = leaves_listening asked (door_failed end) before mid now _ _ is right each.gives;
    notes = each.notes;
  }

  -- the line of the end stands behind those of the connections
  pub serves_all : GainLaws → (asked : List ℕ) (count status : ℕ) (end : ServeEnd) (holds then : Bool) (before now : Doorway) (x y z : Outlet) → status ≡ end_status end
      → ServesAt asked to count end true holds before now x y → NotesMore holds then y z (end_line end) → ServesConnections asked to count status before now x z
  serves_all laws asked count status end holds then before now x y z is at noted = record {
    end = end;
    visits = at.visits;
    is_status = is;
    served = at.served;
    reaches = at.reaches;
    door = at.door;
    notes = notes_all laws then x z (visit_lines 1 at.visits ++ end_line end)
        (notes_both true holds then x y z (visit_lines 1 at.visits) (end_line end) at.notes noted);
  }
