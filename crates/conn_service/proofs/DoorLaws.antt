-- Connections that a door gives one after the other.
use Rattle.std.proofs.Common.{◌≡◌, ℕ, ◌+◌, ◌-◌, true, false, Bool, List, [], ◌∷◌, ◌++◌, Option, Some, None, refl, sym, ap, subst, ◌∙◌, inl, inr, arith, append_assoc, append-nil}
use Rattle.std.specs.Prelude.{option_map}
use Rattle.span_io.specs.Courses.{accept_next, close_next, listen_next}
use Rattle.span_io.specs.Doors.{Accepts, Doorway, IsAt, LosesFirst, given_back, listened, not_listened, refused}
use Rattle.span_io.specs.Links.{Link}
use Rattle.span_io.specs.Outside.{Rose}
use Rattle.conn_service.specs.DoorRuns.{DoorFaults, LeavesDoor, LosesFirsts}
use Rattle.conn_service.specs.private.DoorSteps.{GivesEach, GivesOne, GivesUntil, KeepsListening, SameDoor}

loses_nothing : (waiting : Option (List Link)) → LosesFirsts waiting waiting []
loses_nothing None = refl
loses_nothing (Some links) = (links, refl, refl)

loses_more : (a b c : Option (List Link)) (links : List Link) (link : Link) → LosesFirsts a b links → LosesFirst b c link → LosesFirsts a c (links ++ link ∷ [])
loses_more None None c links link none next = next
loses_more None (Some left) c links link none next = absurd (let k : ◌≡◌ {A = Option (List Link)} (Some left) None = none in cc)
loses_more (Some all) None c links link (others, are, left) next = absurd (let k : ◌≡◌ {A = Option (List Link)} None (Some others) = left in cc)
loses_more (Some all) (Some rest) c links link (others, are, left) (more, first, now) =
    let same : rest ≡ others = cc in
    (more, are ∙ ap (λ (l : List Link). links ++ l) (sym same ∙ first) ∙ sym (append_assoc links (link ∷ []) more), now)

closes_nothing : (closed : Option (List Link)) → closed ≡ option_map (λ links. links ++ []) closed
closes_nothing None = refl
closes_nothing (Some links) = ap (λ (l : List Link). Some l) (sym (append-nil links))

closes_more : (a b c : Option (List Link)) (links : List Link) (link : Link) → b ≡ option_map (λ l. l ++ links) a → c ≡ option_map (λ l. l ++ link ∷ []) b
    → c ≡ option_map (λ l. l ++ (links ++ link ∷ [])) a
closes_more None b c links link first second = second ∙ ap (option_map (λ l. l ++ link ∷ [])) first
closes_more (Some all) b c links link first second =
    second ∙ ap (option_map (λ l. l ++ link ∷ [])) first ∙ ap (λ (l : List Link). Some l) (append_assoc all links (link ∷ []))

same_again : (now : Doorway) → SameDoor now now
same_again now = record { out = refl; address = refl; listening = refl; astray = refl }

same_then : (a b c : Doorway) → SameDoor a b → SameDoor b c → SameDoor a c
same_then a b c first second = record {
  out = second.out ∙ first.out;
  address = second.address ∙ first.address;
  listening = second.listening ∙ first.listening;
  astray = second.astray ∙ first.astray;
}

pub gives_none : (now : Doorway) → GivesEach now now [] []
gives_none now = record { waiting = loses_nothing now.waiting; closed = closes_nothing now.closed; same = same_again now }

pub gives_more : (a b c : Doorway) (links backs : List Link) (link back : Link) → GivesEach a b links backs → GivesOne b c link back
    → GivesEach a c (links ++ link ∷ []) (backs ++ back ∷ [])
gives_more a b c links backs link back each one = record {
  waiting = loses_more a.waiting b.waiting c.waiting links link each.waiting one.waiting;
  closed = closes_more a.closed b.closed c.closed backs back each.closed one.closed;
  same = same_then a b c each.same one.same;
}

-- one was accepted and given back
pub gives_one : (before mid now : Doorway) (link back : Link) → Accepts before mid link → now ≡ given_back mid back → GivesOne before now link back
gives_one before mid now link back accepts given = record {
  waiting = subst (λ (w : Option (List Link)). LosesFirst before.waiting w link) (sym (ap (λ (d : Doorway). d.waiting) given)) accepts.waiting;
  closed = ap (λ (d : Doorway). d.closed) given ∙ ap (option_map (λ links. links ++ back ∷ [])) accepts.closed;
  faults = ap (λ (d : Doorway). d.faults) given ∙ accepts.faults;
  goes = λ listens. ap (λ (d : Doorway). d.course) given ∙ ap (option_map close_next) (accepts.course ∙ ap (option_map (accept_next true)) listens);
  same = record {
    out = ap (λ (d : Doorway). d.out) given ∙ less_one before.out mid.out accepts.out;
    address = ap (λ (d : Doorway). d.address) given ∙ accepts.address;
    listening = ap (λ (d : Doorway). d.listening) given ∙ accepts.listening;
    astray = ap (λ (d : Doorway). d.astray) given ∙ accepts.astray;
  };
}
  where
    less_one : (n m : ℕ) → m ≡ n + 1 → m - 1 ≡ n
    less_one n m e = omega arith

module _ (a b : Doorway) (links backs : List Link) (each : GivesEach a b links backs) (faults : b.faults ≡ a.faults) (goes : KeepsListening a b) where
  -- no more was asked for
  pub gives_all : GivesUntil false a b links backs
  gives_all = record { gives = each; faults = faults; course = goes }

  -- the next wasn't given
  pub gives_failed : (c : Doorway) → c ≡ refused b c.faults → Rose b.faults c.faults → GivesUntil true a c links backs
  gives_failed c is rose = record {
    gives = record {
      waiting = subst (λ (w : Option (List Link)). LosesFirsts a.waiting w links) (sym (ap (λ (d : Doorway). d.waiting) is)) each.waiting;
      closed = ap (λ (d : Doorway). d.closed) is ∙ each.closed;
      same = record {
        out = ap (λ (d : Doorway). d.out) is ∙ each.same.out;
        address = ap (λ (d : Doorway). d.address) is ∙ each.same.address;
        listening = ap (λ (d : Doorway). d.listening) is ∙ each.same.listening;
        astray = ap (λ (d : Doorway). d.astray) is ∙ each.same.astray;
      };
    };
    faults = subst (λ n. Rose n c.faults) faults rose;
    course = λ listens. ap (λ (d : Doorway). d.course) is ∙ ap (option_map (accept_next false)) (goes listens);
  }

-- it didn't listen
pub leaves_refused : (asked : List ℕ) (before now : Doorway) → now ≡ not_listened before asked now.faults → Rose before.faults now.faults
    → LeavesDoor true asked before now [] []
leaves_refused asked before now is rose = record {
  waiting = subst (λ (w : Option (List Link)). LosesFirsts before.waiting w []) (sym (ap (λ (d : Doorway). d.waiting) is)) (loses_nothing before.waiting);
  closed = ap (λ (d : Doorway). d.closed) is ∙ closes_nothing before.closed;
  faults = rose;
  out = ap (λ (d : Doorway). d.out) is;
  address = ap (λ (d : Doorway). d.address) is;
  astray = ap (λ (d : Doorway). d.astray) is;
  listening = inl (ap (λ (d : Doorway). d.listening) is);
  listens = λ none. absurd (omega (arith, none));
  course = λ fresh. ap (λ (d : Doorway). d.course) is ∙ ap (option_map (listen_next false)) fresh;
}

-- it listened, and gave these
pub leaves_listening : (asked : List ℕ) (failed : Bool) (before mid now : Doorway) (links backs : List Link) → mid ≡ listened before asked → IsAt before asked
    → GivesUntil failed mid now links backs → LeavesDoor failed asked before now links backs
leaves_listening asked failed before mid now links backs is right until =
    let waiting : mid.waiting ≡ before.waiting = ap (λ (d : Doorway). d.waiting) is in
    let faults : mid.faults ≡ before.faults = ap (λ (d : Doorway). d.faults) is in
    let listens : now.listening ≡ option_map (λ _. true) before.listening = until.gives.same.listening ∙ ap (λ (d : Doorway). d.listening) is in
    record {
      waiting = subst (λ (w : Option (List Link)). LosesFirsts w now.waiting links) waiting until.gives.waiting;
      closed = until.gives.closed ∙ ap (option_map (λ closed. closed ++ backs)) (ap (λ (d : Doorway). d.closed) is);
      faults = subst (λ n. DoorFaults failed n now.faults) faults until.faults;
      out = until.gives.same.out ∙ ap (λ (d : Doorway). d.out) is;
      address = until.gives.same.address ∙ ap (λ (d : Doorway). d.address) is;
      astray = until.gives.same.astray ∙ ap (λ (d : Doorway). d.astray) is;
      listening = inr (record { right = right; listening = listens });
      listens = λ some. record { right = right; listening = listens };
      course = λ fresh. until.course (ap (λ (d : Doorway). d.course) is ∙ ap (option_map (listen_next true)) fresh);
    }
