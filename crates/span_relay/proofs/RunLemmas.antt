-- Connections that are relayed one after the other, and what was noted of them.
use Rattle.std.proofs.Common.{◌≡◌, ℕ, ◌+◌, ◌-◌, ◌<◌, ◌≤◌, Bool, true, List, [], ◌∷◌, ◌++◌, map, length, Option, Some, None, Result, Ok, Err, IfSome, IsTrue, refl, sym, ap, subst, ◌∙◌, inl, inr, arith, append_assoc, append-nil}
use Rattle.std.proofs.lemmas.List.{length-append, length-map, map-append}
use Rattle.std.specs.Prelude.{◌↔◌, codes, decimal}
use Rattle.span_io.specs.Doors.{Accepts, Doorway, IsAt, IsListening, given_back, listened, not_listened, refused}
use Rattle.span_io.specs.Limits.{shipped_limits}
use Rattle.span_io.specs.Links.{Link}
use Rattle.span_io.specs.Outside.{GainLaws, Outlet, Rose}
use Rattle.span_io.specs.declared.form.Form.{Form}
use Rattle.span_io.specs.declared.limits.Limits.{Limits}
use Rattle.conn_service.specs.declared.ended.ServeFault.{ServeFault}
use Rattle.conn_service.specs.declared.ended.ServeFault.TheVariants as whys
use Rattle.span_notes.specs.Notes.{NotesMore}
use Rattle.span_notes.proofs.NoteLaws.{notes_all, notes_as, notes_both, notes_nothing}
use Rattle.span_spool.specs.Spools.{Spool}
use Rattle.conn_service.specs.private.DoorSteps.{GivesEach}
use Rattle.span_relay.specs.Forwards.{CountsFlow, Delivery, Forwards}
use Rattle.span_relay.specs.Peers.{Wire}
use Rattle.span_relay.specs.RelayConnections.{AddsRows, kept_rows, outcomes_in}
use Rattle.span_relay.specs.RelayRuns.{Halts, IsTurn, NoneHalts, RelaysConnections, ServesLink, Turn, backs_of, door_failed, end_line, end_status, flow_line, halted, link_line, links_of, most_sent, round_of, turn_line, turn_lines, why_in}
use Rattle.span_relay.specs.private.RelayRunSteps.{HasRelayed, RelaysAt, RelaysEach, RelaysNext, SendsRound, TurnsSoFar}
use Rattle.span_relay.specs.declared.connection.RelayFault.{RelayFault}
use Rattle.span_relay.specs.declared.connection.Served.{Served}
use Rattle.span_relay.specs.declared.forwarding.Flow.{Flow}
use Rattle.span_relay.specs.declared.forwarding.Flow.TheVariants as flows
use Rattle.span_relay.specs.declared.forwarding.FlowFault.{FlowFault}
use Rattle.span_relay.specs.declared.forwarding.FlowFault.TheVariants as flow_faults
use Rattle.span_relay.specs.declared.options.Options.{Options}
use Rattle.span_relay.specs.declared.round.Round.{Round}
use Rattle.span_relay.specs.declared.run.RunEnd.{RunEnd}
use Rattle.span_relay.specs.declared.run.RunEnd.TheVariants as ends
use Rattle.span_relay.specs.declared.run.Turned.{Turned}
use Rattle.conn_service.proofs.DoorLaws.{gives_all, gives_failed, gives_more, gives_none, gives_one, leaves_listening, leaves_refused}
use Rattle.span_relay.proofs.TurnLemmas.{keeper_rose, leaves_for, peer_rose, rose_none, turns_make, turns_more}

-- ---- one round

-- the next connection was accepted, served and given back
pub next_is : (to : Form) (limits : Limits) (ended : Result Served RelayFault) (first between : Spool) (before mid now : Doorway) (link back : Link)
    → limits ≡ shipped_limits → Accepts before mid link → now ≡ given_back mid back
    → (adds : AddsRows to limits (outcomes_in ended) link back first between)
    → (no_read : link.inlet.faults ≡ 0 → link.outlet.faults ≡ 0 → ServesLink to limits link back ended (kept_rows to first.next adds.offers) first between)
    → RelaysNext to ended first between before now
next_is to limits ended first between before mid now link back shipped accepts given adds serves = record {
  link = link;
  back = back;
  kept = kept_rows to first.next adds.offers;
  serves = subst (λ (l : Limits). ServesLink to l link back ended (kept_rows to first.next adds.offers) first between) shipped
      (serves accepts.no_read_fault accepts.no_write_fault);
  gives = gives_one before mid now link back accepts given;
}

-- the line on the status of a peer
pub status_line : (a b c d e : List ℕ) (number status : ℕ) → a ≡ codes "connection " → b ≡ decimal number → c ≡ codes ": peer answered " → d ≡ decimal status
    → e ≡ codes "\n" → a ++ (b ++ (c ++ (d ++ (e ++ [])))) ≡ flow_line number (Ok (flows.Held status))
status_line a b c d e number status p q r s t = λ i. p i ++ (q i ++ (r i ++ (s i ++ (t i ++ []))))

module _ (peer : List ℕ) (number : ℕ) (ended : Result Served RelayFault) (held mid : Bool) (between : Spool) (x : Wire) (n m : Outlet)
    (why : Option ServeFault) (is_why : why ≡ why_in ended) (outcomes : List Bool) (are : outcomes ≡ outcomes_in ended)
    (noted : NotesMore held mid n m (link_line number why)) where
  -- memory was wanted for the connection
  pub round_none : why ≡ Some whys.OutOfMemory
      → SendsRound peer number ended (record { round = record { outcomes = outcomes; gone = 0 }; halted = true }) held mid between between x x n m
  round_none wants = record {
    flow = None;
    gone = [];
    more = None;
    sends = record { wants = sym is_why ∙ wants; none = refl; no_more = refl; spool = refl; wire = refl };
    leaves = λ some. halted (inl refl);
    keeper_counts = rose_none between.faults;
    peer_counts = rose_none x.faults;
    is_round = λ i. record { outcomes = are i; gone = 0 };
    halts = (λ stops. inl refl, λ stops. refl);
    notes = notes_as held mid n m _ _ (ap (link_line number) is_why ∙ sym (append-nil (link_line number (why_in ended)))) noted;
  }

  -- else bodies were sent on
  module _ (answer : Result Flow FlowFault) (enough : why ≡ Some whys.OutOfMemory → ⊥) (last : Spool) (y : Wire) (f : Forwards peer most_sent answer between last x y)
      (counts : CountsFlow answer between last x y) (kept_le : between.faults ≤ last.faults) (sent_le : x.faults ≤ y.faults) where
    -- as many left as are held less
    pub gone_le : last.held ≤ between.held
    gone_le = omega (arith, f.2.leave.held)

    gone_is : length f.0 ≡ between.held - last.held
    gone_is = omega (arith, f.2.leave.held, length-map f.0 (λ (d : Delivery). d.row))

    one_answer : (a b : Result Flow FlowFault) → ◌≡◌ {A = Option (Result Flow FlowFault)} (Some a) (Some b) → a ≡ b
    one_answer a b e = cc

    pub round_some : (before after : ℕ) (stops holds : Bool) (o : Outlet) → before ≡ between.held → after ≡ last.held → IsTrue stops ↔ (answer ≡ Err flow_faults.OutOfMemory)
        → NotesMore mid holds m o (flow_line number answer)
        → SendsRound peer number ended (record { round = record { outcomes = outcomes; gone = before - after }; halted = stops }) held holds between last x y n o
    round_some before after stops holds o is_before is_after wants then = record {
      flow = Some answer;
      gone = f.0;
      more = f.1;
      sends = record { enough = λ none. enough (is_why ∙ none); sends = f.2 };
      leaves = leaves_for peer ended f.0 f.1 between last x y answer f.2;
      keeper_counts = keeper_rose peer ended f.0 f.1 between last x y answer counts kept_le;
      peer_counts = peer_rose peer ended f.0 f.1 between last x y answer counts sent_le;
      is_round = λ i. record { outcomes = are i; gone = number_is i };
      halts = (λ stop. inr (ap (λ (r : Result Flow FlowFault). Some r) (wants.0 stop)), by_halts);
      notes = notes_as held holds n o _ _ (ap (λ (w : Option ServeFault). link_line number w ++ flow_line number answer) is_why)
          (notes_both held mid holds n m o (link_line number why) (flow_line number answer) noted then);
    }
      where
        number_is : before - after ≡ length f.0
        number_is = (λ i. is_before i - is_after i) ∙ sym gone_is

        by_halts : Halts (Some answer) → IsTrue stops
        by_halts (inl none) = absurd (let e : ◌≡◌ {A = Option (Result Flow FlowFault)} (Some answer) None = none in cc)
        by_halts (inr wanted) = wants.1 (one_answer answer (Err flow_faults.OutOfMemory) wanted)

-- ---- one after the other

none_more : (turns : List Turn) (turn : Turn) → NoneHalts turns → (Halts turn.flow → ⊥) → NoneHalts (turns ++ turn ∷ [])
none_more [] turn none goes = (goes, tt)
none_more (t ∷ turns) turn none goes = (none.0, none_more turns turn none.1 goes)

lines_more : (number : ℕ) (turns : List Turn) (turn : Turn)
    → turn_lines number (turns ++ turn ∷ []) ≡ turn_lines number turns ++ turn_line (number + length turns) turn
lines_more number [] turn = append-nil (turn_line number turn) ∙ ap (λ (n : ℕ). turn_line n turn) (omega arith)
lines_more number (t ∷ turns) turn =
    ap (λ (l : List ℕ). turn_line number t ++ l) (lines_more (number + 1) turns turn)
    ∙ sym (append_assoc (turn_line number t) (turn_lines (number + 1) turns) (turn_line (number + 1 + length turns) turn))
    ∙ ap (λ (n : ℕ). turn_line number t ++ turn_lines (number + 1) turns ++ turn_line n turn) (omega arith)

length_more : (turns : List Turn) (turn : Turn) → length (turns ++ turn ∷ []) ≡ length turns + 1
length_more turns turn = length-append turns (turn ∷ [])

-- what listened listens still
pub still_listening : (a b : Doorway) → b.listening ≡ a.listening → IsListening a → IsListening b
still_listening a b same listens = subst (λ (o : Option Bool). IfSome o (λ l. IsTrue l)) (sym same) listens

module _ (to : Form) (peer : List ℕ) where
  -- none so far
  pub so_far_none : (held : Bool) (a : Spool) (x : Wire) (d : Doorway) (n : Outlet) (r : List Round) → TurnsSoFar to peer 0 held held a a x x d d n n r r
  so_far_none held a x d n r = record {
    turns = [];
    relayed = record { are = (refl, refl); rounds = sym (append-nil r); notes = notes_nothing held n };
    number = refl;
    none = tt;
    gives = gives_none d;
    faults = refl;
    goes = λ listens. listens;
  }

  module _ (done : ℕ) (held holds : Bool) (a b : Spool) (x y : Wire) (d e : Doorway) (n m : Outlet) (r s : List Round)
      (so : TurnsSoFar to peer done held holds a b x y d e n m r s) where
    -- the list of rounds has room for more, or hasn't
    same_rounds : (now : List Round) → now ≡ s → HasRelayed to peer so.turns held holds a b x y n m r now
    same_rounds now same = record { are = so.relayed.are; rounds = same ∙ so.relayed.rounds; notes = so.relayed.notes }

    -- no more were asked for
    pub each_sent : (count : ℕ) → done ≡ count → b.held ≡ 0 → RelaysEach to peer count ends.AllSent held holds a b x y d e n m r s
    each_sent count all none = record {
      turns = so.turns;
      relayed = so.relayed;
      reaches = (so.number ∙ all, so.none, none);
      gives = gives_all d e (links_of so.turns) (backs_of so.turns) so.gives so.faults so.goes;
    }

    pub each_left : (count left : ℕ) → done ≡ count → b.held ≡ left → 0 < left → RelaysEach to peer count (ends.Left left) held holds a b x y d e n m r s
    each_left count left all held_is some = record {
      turns = so.turns;
      relayed = so.relayed;
      reaches = (so.number ∙ all, so.none, held_is, some);
      gives = gives_all d e (links_of so.turns) (backs_of so.turns) so.gives so.faults so.goes;
    }

    -- memory was wanted for the next round
    pub each_no_room : (count : ℕ) (now : List Round) → done < count → now ≡ s → RelaysEach to peer count ends.NoMemory held holds a b x y d e n m r now
    each_no_room count now more same = record {
      turns = so.turns;
      relayed = same_rounds now same;
      reaches = (omega (arith, so.number, more), inl so.none);
      gives = gives_all d e (links_of so.turns) (backs_of so.turns) so.gives so.faults so.goes;
    }

    -- the door gave no connection
    pub each_failed : (count : ℕ) (now : List Round) (f : Doorway) → done < count → now ≡ s → f ≡ refused e f.faults → Rose e.faults f.faults
        → RelaysEach to peer count ends.DoorFailed held holds a b x y d f n m r now
    each_failed count now f more same is rose = record {
      turns = so.turns;
      relayed = same_rounds now same;
      reaches = (omega (arith, so.number, more), so.none);
      gives = gives_failed d e (links_of so.turns) (backs_of so.turns) so.gives so.faults so.goes f is rose;
    }

    module _ (ended : Result Served RelayFault) (turned : Turned) (then : Bool) (between c : Spool) (z : Wire) (f : Doorway) (o : Outlet) (now : List Round)
        (next : RelaysNext to ended b between e f) (sends : SendsRound peer (done + 1) ended turned holds then between c y z m o)
        (pushed : now ≡ s ++ turned.round ∷ []) where
      abbrev this : Turn
      this = record {
        link = next.link;
        back = next.back;
        ended = ended;
        flow = sends.flow;
        kept = next.kept;
        gone = sends.gone;
        more = sends.more;
        first = b;
        between = between;
        last = c;
        wire_first = y;
        wire_last = z;
      }

      is_turn : IsTurn to peer this
      is_turn = record {
        serves = next.serves;
        sends = sends.sends;
        leaves = sends.leaves;
        keeper_counts = sends.keeper_counts;
        peer_counts = sends.peer_counts;
      }

      one_more : done + 1 ≡ 1 + length so.turns
      one_more = omega (arith, so.number)

      abbrev others : List Turn
      others = so.turns

      relayed_more : HasRelayed to peer (others ++ this ∷ []) held then a c x z n o r now
      relayed_more = record {
        are = turns_more to peer others a b x y this so.relayed.are is_turn refl refl;
        rounds = pushed ∙ ap (λ (l : List Round). l ++ turned.round ∷ []) so.relayed.rounds ∙ append_assoc r (map round_of others) (turned.round ∷ [])
            ∙ ap (λ (t : Round). r ++ (map round_of others ++ t ∷ [])) sends.is_round
            ∙ ap (λ (l : List Round). r ++ l) (sym (map-append round_of others (this ∷ [])));
        notes = notes_as held then n o _ _ (sym (lines_more 1 others this))
            (notes_both held holds then n m o (turn_lines 1 others) (turn_line (1 + length others) this) so.relayed.notes
            (subst (λ (k : ℕ). NotesMore holds then m o (turn_line k this)) one_more sends.notes));
      }

      gives_then : GivesEach d f (links_of (others ++ this ∷ [])) (backs_of (others ++ this ∷ []))
      gives_then =
          let links : links_of (others ++ this ∷ []) ≡ links_of others ++ next.link ∷ [] = map-append _ others (this ∷ []) in
          let backs : backs_of (others ++ this ∷ []) ≡ backs_of others ++ next.back ∷ [] = map-append _ others (this ∷ []) in
          subst (λ (l : List Link). GivesEach d f l (backs_of (others ++ this ∷ []))) (sym links)
          (subst (λ (l : List Link). GivesEach d f (links_of others ++ next.link ∷ []) l) (sym backs)
          (gives_more d e f (links_of others) (backs_of others) next.link next.back so.gives next.gives))

      pub so_far_more : (IsTrue turned.halted → ⊥) → TurnsSoFar to peer (done + 1) held then a c x z d f n o r now
      so_far_more goes = record {
        turns = others ++ this ∷ [];
        relayed = relayed_more;
        number = length_more others this ∙ ap (λ (k : ℕ). k + 1) so.number;
        none = none_more others this so.none (λ halts. goes (sends.halts.1 halts));
        gives = gives_then;
        faults = next.gives.faults ∙ so.faults;
        goes = λ listens. next.gives.goes (so.goes listens);
      }

      -- or memory was wanted in it
      pub each_halts : (count : ℕ) → done < count → IsTrue turned.halted → RelaysEach to peer count ends.NoMemory held then a c x z d f n o r now
      each_halts count more stops = record {
        turns = others ++ this ∷ [];
        relayed = relayed_more;
        reaches = (
          omega (arith, length_more others this, so.number, more),
          inr (record { firsts = others; last = this; are = refl; none = so.none; halts = sends.halts.0 stops }),
        );
        gives = gives_all d f (links_of (others ++ this ∷ [])) (backs_of (others ++ this ∷ [])) gives_then (next.gives.faults ∙ so.faults)
            (λ listens. next.gives.goes (so.goes listens));
      }

  -- the door didn't listen
  pub at_refused : (asked : List ℕ) (count : ℕ) (held : Bool) (a : Spool) (x : Wire) (before now : Doorway) (n : Outlet) (r : List Round) → 1 ≤ count
      → now ≡ not_listened before asked now.faults → Rose before.faults now.faults → RelaysAt asked peer to count ends.DoorFailed held held a a x x before now n n r r
  at_refused asked count held a x before now n r some is rose = record {
    turns = [];
    relayed = record { are = (refl, refl); rounds = sym (append-nil r); notes = notes_nothing held n };
    reaches = (omega (arith, some), tt);
    door = leaves_refused asked before now is rose;
  }

  -- or it did
  pub at_listening : (asked : List ℕ) (count : ℕ) (end : RunEnd) (held holds : Bool) (a b : Spool) (x y : Wire) (before mid now : Doorway) (n m : Outlet) (r s : List Round)
      → mid ≡ listened before asked → IsAt before asked → RelaysEach to peer count end held holds a b x y mid now n m r s
      → RelaysAt asked peer to count end held holds a b x y before now n m r s
  at_listening asked count end held holds a b x y before mid now n m r s is right each = record {
    turns = each.turns;
    relayed = each.relayed;
    reaches = each.reaches;
    door = leaves_listening asked (door_failed end) before mid now (links_of each.turns) (backs_of each.turns) is right each.gives;
  }

  -- the line of the end stands behind those of the connections
  pub relays_all : GainLaws → (asked : List ℕ) (count status : ℕ) (end : RunEnd) (holds then : Bool) (a b : Spool) (x y : Wire) (before now : Doorway) (n m o : Outlet)
      (r s rounds_before rounds_now : List Round) → status ≡ end_status end → RelaysAt asked peer to count end true holds a b x y before now n m r s
      → NotesMore holds then m o (end_line end) → r ≡ rounds_before → rounds_now ≡ s
      → RelaysConnections asked peer to count status a b x y before now n o rounds_before rounds_now
  relays_all laws asked count status end holds then a b x y before now n m o r s rounds_before rounds_now is at noted is_before is_now = record {
    end = end;
    turns = at.turns;
    is_status = is;
    are = at.relayed.are;
    make = turns_make to peer at.turns a b x y at.relayed.are;
    reaches = at.reaches;
    door = at.door;
    rounds = is_now ∙ at.relayed.rounds ∙ ap (λ (l : List Round). l ++ map round_of at.turns) is_before;
    notes = notes_all laws then n o (turn_lines 1 at.turns ++ end_line end)
        (notes_both true holds then n m o (turn_lines 1 at.turns) (end_line end) at.relayed.notes noted);
  }

-- ---- the words

pub never_two : (end : RunEnd) → end_status end ≡ 2 → ⊥
never_two ends.AllSent two = absurd (omega (arith, two))
never_two (ends.Left left) two = absurd (omega (arith, two))
never_two ends.DoorFailed two = absurd (omega (arith, two))
never_two ends.NoMemory two = absurd (omega (arith, two))

-- the same by other names of the same words
pub relays_as : (mine other : Options) (asked address target peer : List ℕ) (status : ℕ) (a b : Spool) (x y : Wire) (before now : Doorway) (n m : Outlet)
    (r s : List Round) → mine ≡ other → asked ≡ address → target ≡ peer → RelaysConnections asked target mine.to mine.count status a b x y before now n m r s
    → RelaysConnections address peer other.to other.count status a b x y before now n m r s
relays_as mine other asked address target peer status a b x y before now n m r s same is_address is_peer relays =
    subst (λ (o : Options). RelaysConnections address peer o.to o.count status a b x y before now n m r s) same
    (subst (λ (l : List ℕ). RelaysConnections l peer mine.to mine.count status a b x y before now n m r s) is_address
    (subst (λ (l : List ℕ). RelaysConnections asked l mine.to mine.count status a b x y before now n m r s) is_peer relays))
