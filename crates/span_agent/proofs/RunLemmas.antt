-- Datagrams that are received one after the other, and what was written and noted of them.
use Rattle.std.proofs.Common.{◌≡◌, ℕ, ◌+◌, ◌<◌, ◌≤◌, Bool, true, false, List, [], ◌∷◌, ◌++◌, map, length, Option, Some, None, Result, Ok, Err, OnOk, OnErr, refl, sym, ap, subst, ◌∙◌, inl, inr, arith, append_assoc, append-nil}
use Rattle.std.specs.Prelude.{option_map}
use Rattle.std.proofs.lemmas.List.{length-append, map-append}
use Rattle.span_io.specs.Doors.{Doorway}
use Rattle.span_io.specs.Limits.{shipped_limits}
use Rattle.span_io.specs.Outside.{Outlet, Rose, Gains, GainLaws, OutputHolds, FailsAt, FailsWithin}
use Rattle.span_io.specs.declared.form.Form.{Form}
use Rattle.span_io.specs.declared.halt.Halt.{Halt}
use Rattle.span_io.specs.declared.halt.Halt.TheVariants as halts
use Rattle.span_io.specs.declared.limits.Limits.{Limits}
use Rattle.span_io.specs.declared.source.Failed.{Failed}
use Rattle.span_io.proofs.TableLaws.{flat_more}
use Rattle.span_notes.specs.Notes.{NotesMore}
use Rattle.span_notes.proofs.NoteLaws.{notes_all, notes_as, notes_both, notes_nothing}
use Rattle.span_agent.specs.AgentRuns.{Parcel, IsParcel, AreParcels, EndsCourse, LosesDatagrams, ListensAt, PostFaults, ReceivesAt, ReceivesDatagrams, end_line, end_status, parcel_line, parcel_lines, pieces, written}
use Rattle.span_agent.specs.Pieces.{IsPiece, SaysPiece}
use Rattle.span_agent.specs.PostCourses.{listen_next, receive_next}
use Rattle.span_agent.specs.Posts.{IsPostAt, ListensNow, LosesDatagram, Mailbox, NoPostCallInVain, Receives, RefusesToListen, RefusesToReceive, as_door}
use Rattle.span_agent.specs.private.AgentSteps.{HandsOn, HasReceived, KeepsListening, ReceivedSoFar, ReceivesEach, WritesOne, end_course, line_noted}
use Rattle.span_agent.specs.declared.course.PostCourse.{PostCourse}
use Rattle.span_agent.specs.declared.course.PostCourse.TheVariants as courses
use Rattle.span_agent.specs.declared.options.Options.{Options}
use Rattle.span_agent.specs.declared.piece.AgentBad.{AgentBad}
use Rattle.span_agent.specs.declared.run.AgentEnd.{AgentEnd}
use Rattle.span_agent.specs.declared.run.AgentEnd.TheVariants as ends

-- ---- datagrams

loses_nothing : (left : Option (List (List ℕ))) → LosesDatagrams left left []
loses_nothing None = refl
loses_nothing (Some datagrams) = (datagrams, refl, refl)

loses_more : (a b c : Option (List (List ℕ))) (datagrams : List (List ℕ)) (datagram : List ℕ) → LosesDatagrams a b datagrams → LosesDatagram b c datagram
    → LosesDatagrams a c (datagrams ++ datagram ∷ [])
loses_more None None c datagrams datagram none next = next
loses_more None (Some left) c datagrams datagram none next = absurd (let k : ◌≡◌ {A = Option (List (List ℕ))} (Some left) None = none in cc)
loses_more (Some all) None c datagrams datagram (others, are, left) next = absurd (let k : ◌≡◌ {A = Option (List (List ℕ))} None (Some others) = left in cc)
loses_more (Some all) (Some rest) c datagrams datagram (others, are, left) (more, first, now) =
    let same : rest ≡ others = cc in
    (more, are ∙ ap (λ (l : List (List ℕ)). datagrams ++ l) (sym same ∙ first) ∙ sym (append_assoc datagrams (datagram ∷ []) more), now)

-- what a door doesn't tell of itself in a call stays
module _ (before now : Mailbox) (same : as_door now ≡ as_door before) where
  same_faults : now.faults ≡ before.faults
  same_faults = ap (λ (d : Doorway). d.faults) same

  same_address : now.address ≡ before.address
  same_address = ap (λ (d : Doorway). d.address) same

  same_listening : now.listening ≡ before.listening
  same_listening = ap (λ (d : Doorway). d.listening) same

  same_astray : now.astray ≡ before.astray
  same_astray = ap (λ (d : Doorway). d.astray) same

-- ---- one more

pieces_more : (parcels : List Parcel) (parcel : Parcel) → pieces (parcels ++ parcel ∷ []) ≡ pieces parcels ++ written parcel.told
pieces_more parcels parcel = flat_more (λ (p : Parcel). written p.told) parcels parcel

lines_more : (number : ℕ) (parcels : List Parcel) (parcel : Parcel)
    → parcel_lines number (parcels ++ parcel ∷ []) ≡ parcel_lines number parcels ++ parcel_line (number + length parcels) parcel.told
lines_more number [] parcel =
    append-nil (parcel_line number parcel.told) ∙ ap (λ (n : ℕ). parcel_line n parcel.told) (omega arith)
lines_more number (p ∷ parcels) parcel =
    ap (λ (l : List ℕ). parcel_line number p.told ++ l) (lines_more (number + 1) parcels parcel)
    ∙ sym (append_assoc (parcel_line number p.told) (parcel_lines (number + 1) parcels) (parcel_line (number + 1 + length parcels) parcel.told))
    ∙ ap (λ (n : ℕ). parcel_line number p.told ++ parcel_lines (number + 1) parcels ++ parcel_line n parcel.told) (omega arith)

length_more : (parcels : List Parcel) (parcel : Parcel) → length (parcels ++ parcel ∷ []) ≡ length parcels + 1
length_more parcels parcel = length-append parcels (parcel ∷ [])

module _ (laws : GainLaws) (to : Form) where
  are_more : (parcels : List Parcel) (parcel : Parcel) → AreParcels to parcels → IsParcel to parcel → AreParcels to (parcels ++ parcel ∷ [])
  are_more [] parcel are is = (is, tt)
  are_more (p ∷ parcels) parcel are is = (are.0, are_more parcels parcel are.1 is)

  none_received : (now : Mailbox) → HasReceived to [] now now
  none_received now = record { are_parcels = tt; left = loses_nothing now.left; address = refl; listening = refl; astray = refl }

  has_more : (parcels : List Parcel) (parcel : Parcel) (a b c : Mailbox) → HasReceived to parcels a b → IsParcel to parcel → Receives b c parcel.datagram
      → HasReceived to (parcels ++ parcel ∷ []) a c
  has_more parcels parcel a b c has is next = record {
    are_parcels = are_more parcels parcel has.are_parcels is;
    left = subst (λ (l : List (List ℕ)). LosesDatagrams a.left c.left l) (sym (map-append (λ (p : Parcel). p.datagram) parcels (parcel ∷ [])))
        (loses_more a.left b.left c.left (map (λ (p : Parcel). p.datagram) parcels) parcel.datagram has.left next.left);
    address = same_address b c next.door ∙ has.address;
    listening = same_listening b c next.door ∙ has.listening;
    astray = same_astray b c next.door ∙ has.astray;
  }

  -- none so far
  pub so_far_none : (held : Bool) (a : Mailbox) (x p : Outlet) → ReceivedSoFar to 0 held held a a x x p p
  so_far_none held a x p = record {
    parcels = [];
    has_received = none_received a;
    number = refl;
    faults = refl;
    goes = λ listens. listens;
    output = (laws.none x, laws.still x);
    notes = notes_nothing held p;
  }

  -- ---- behind the first so many

  module _ (done : ℕ) (held holds : Bool) (a b : Mailbox) (x y p q : Outlet) (so : ReceivedSoFar to done held holds a b x y p q) where
    -- no more were asked for
    pub each_all : (count : ℕ) → done ≡ count → ReceivesEach to count ends.AllReceived held holds a b x y p q
    each_all count all = record {
      parcels = so.parcels;
      lines = parcel_lines 1 so.parcels;
      has_received = so.has_received;
      reaches = so.number ∙ all;
      faults = so.faults;
      course = so.goes;
      output = so.output;
      in_turn = so.output.0;
      are_lines = refl;
      notes = so.notes;
    }

    -- the post gave none
    pub each_failed : (count : ℕ) (c : Mailbox) → done < count → RefusesToReceive b c → Rose b.faults c.faults
        → ReceivesEach to count ends.PostFailed held holds a c x y p q
    each_failed count c more refuses rose = record {
      parcels = so.parcels;
      lines = parcel_lines 1 so.parcels;
      has_received = record {
        are_parcels = so.has_received.are_parcels;
        left = subst (λ (l : Option (List (List ℕ))). LosesDatagrams a.left l (map (λ (p : Parcel). p.datagram) so.parcels)) (sym refuses.left) so.has_received.left;
        address = ap (λ (d : Doorway). d.address) refuses.door ∙ so.has_received.address;
        listening = ap (λ (d : Doorway). d.listening) refuses.door ∙ so.has_received.listening;
        astray = ap (λ (d : Doorway). d.astray) refuses.door ∙ so.has_received.astray;
      };
      reaches = omega (arith, so.number, more);
      faults = subst (λ n. Rose n c.faults) so.faults rose;
      course = λ listens. refuses.course ∙ ap (option_map (receive_next false)) (so.goes listens);
      output = so.output;
      in_turn = so.output.0;
      are_lines = refl;
      notes = so.notes;
    }

    module _ (datagram : List ℕ) (c : Mailbox) (next : Receives b c datagram) (result : Result Unit (Halt Failed)) (then : Bool) (z r : Outlet)
        (on : HandsOn to (done + 1) datagram result holds then y z q r) where
      abbrev this : Parcel
      this = record { datagram = datagram; told = on.told }

      abbrev all : List Parcel
      all = so.parcels ++ this ∷ []

      has_all : HasReceived to all a c
      has_all = has_more so.parcels this a b c so.has_received on.is_piece next

      no_fault : c.faults ≡ a.faults
      no_fault = same_faults b c next.door ∙ so.faults

      number_is : done + 1 ≡ 1 + length so.parcels
      number_is = omega (arith, so.number)

      goes_on : KeepsListening a c
      goes_on = λ listens. next.course ∙ ap (option_map (receive_next true)) (so.goes listens)

      -- with the line of this one
      lines_with : parcel_lines 1 so.parcels ++ parcel_line (done + 1) on.told ≡ parcel_lines 1 all
      lines_with = ap (λ (n : ℕ). parcel_lines 1 so.parcels ++ parcel_line n on.told) number_is ∙ sym (lines_more 1 so.parcels this)

      noted_with : line_noted result (parcel_line (done + 1) on.told) ≡ parcel_line (done + 1) on.told → NotesMore held then p r (parcel_lines 1 all)
      noted_with e = notes_as held then p r _ _ lines_with
          (notes_both held holds then p q r (parcel_lines 1 so.parcels) (parcel_line (done + 1) on.told) so.notes (notes_as holds then q r _ _ e on.notes))

      -- one more was handed on
      pub so_far_more : result ≡ Ok tt → ReceivedSoFar to (done + 1) held then a c x z p r
      so_far_more is =
          let output : WritesOne (Ok tt) (written on.told) y z = subst (λ (h : Result Unit (Halt Failed)). WritesOne h (written on.told) y z) is on.output in
          record {
            parcels = all;
            has_received = has_all;
            number = length_more so.parcels this ∙ ap (λ (n : ℕ). n + 1) so.number;
            faults = no_fault;
            goes = goes_on;
            output = (
              subst (λ (l : List ℕ). Gains x z l) (sym (pieces_more so.parcels this)) (laws.both x y z (pieces so.parcels) (written on.told) so.output.0 output.0),
              laws.holding x y z so.output.1 output.1,
            );
            notes = noted_with (ap (λ (h : Result Unit (Halt Failed)). line_noted h (parcel_line (done + 1) on.told)) is);
          }

      within_count : (count : ℕ) → done < count → length all ≤ count
      within_count count more = omega (arith, length_more so.parcels this, so.number, more)

      -- the output failed in its piece
      pub each_output : (count : ℕ) → done < count → (failed : Failed) → result ≡ Err (halts.Why failed) → ReceivesEach to count ends.OutputFailed held then a c x z p r
      each_output count more failed is =
          let output : WritesOne (Err (halts.Why failed)) (written on.told) y z = subst (λ (h : Result Unit (Halt Failed)). WritesOne h (written on.told) y z) is on.output in
          record {
            parcels = all;
            lines = parcel_lines 1 all;
            has_received = has_all;
            reaches = within_count count more;
            faults = no_fault;
            course = goes_on;
            output = subst (λ (l : List ℕ). FailsWithin x z l) (sym (pieces_more so.parcels this)) (laws.fails x y z (pieces so.parcels) (written on.told) so.output.0 output.0);
            in_turn = record { firsts = so.parcels; last = this; are = refl; between = y; gains = so.output.0; holds = so.output.1; fails = output.1 };
            are_lines = refl;
            notes = noted_with (ap (λ (h : Result Unit (Halt Failed)). line_noted h (parcel_line (done + 1) on.told)) is);
          }

      -- memory was wanted for it
      pub each_memory : (count : ℕ) → done < count → result ≡ Err halts.OutOfMemory → ReceivesEach to count ends.NoMemory held then a c x z p r
      each_memory count more is =
          let output : WritesOne (Err halts.OutOfMemory) (written on.told) y z = subst (λ (h : Result Unit (Halt Failed)). WritesOne h (written on.told) y z) is on.output in
          let none : line_noted result (parcel_line (done + 1) on.told) ≡ [] = ap (λ (h : Result Unit (Halt Failed)). line_noted h (parcel_line (done + 1) on.told)) is in
          record {
            parcels = all;
            lines = parcel_lines 1 so.parcels;
            has_received = has_all;
            reaches = within_count count more;
            faults = no_fault;
            course = goes_on;
            in_turn = inr (record {
              firsts = so.parcels;
              last = this;
              are = refl;
              gains = subst (λ (l : List ℕ). Gains x z l) (append-nil (pieces so.parcels)) (laws.both x y z (pieces so.parcels) [] so.output.0 output.0);
            });
            output = (
              record {
                front = pieces so.parcels ++ [];
                is_front = (
                  written on.told,
                  pieces_more so.parcels this ∙ ap (λ (l : List ℕ). l ++ written on.told) (sym (append-nil (pieces so.parcels))),
                );
                gains = laws.both x y z (pieces so.parcels) [] so.output.0 output.0;
              },
              laws.holding x y z so.output.1 output.1,
            );
            are_lines = inr (record { firsts = so.parcels; last = this; are = refl; is_text = refl });
            notes = notes_as held then p r _ _ (append-nil (parcel_lines 1 so.parcels))
                (notes_both held holds then p q r (parcel_lines 1 so.parcels) [] so.notes (notes_as holds then q r _ _ none on.notes));
          }

  -- ---- from a post that is asked to listen

  -- memory was wanted before
  pub at_no_memory : (asked : List ℕ) (count : ℕ) (held : Bool) (a : Mailbox) (x p : Outlet)
      → (lines : List ℕ) × ReceivesAt asked to count ends.NoMemory a a x x lines × NotesMore held held p p lines
  at_no_memory asked count held a x p = (
    [],
    record {
      parcels = [];
      are_parcels = tt;
      reaches = omega arith;
      post = record {
        left = loses_nothing a.left;
        faults = refl;
        address = refl;
        astray = inl refl;
        listening = inl refl;
        listens = λ none. absurd (omega (arith, none));
        course = λ fresh. inl fresh;
      };
      output = (record { front = []; is_front = ([], refl); gains = laws.none x }, laws.still x);
      in_turn = inl (laws.none x);
      are_lines = inl refl;
    },
    notes_nothing held p,
  )

  -- it didn't listen
  pub at_refused : (asked : List ℕ) (count : ℕ) (held : Bool) (a b : Mailbox) (x p : Outlet) → 1 ≤ count → RefusesToListen a b asked → Rose a.faults b.faults
      → (lines : List ℕ) × ReceivesAt asked to count ends.PostFailed a b x x lines × NotesMore held held p p lines
  at_refused asked count held a b x p some refuses rose = (
    [],
    record {
      parcels = [];
      are_parcels = tt;
      reaches = omega (arith, some);
      post = record {
        left = subst (λ (l : Option (List (List ℕ))). LosesDatagrams a.left l []) (sym refuses.left) (loses_nothing a.left);
        faults = rose;
        address = ap (λ (d : Doorway). d.address) refuses.door;
        astray = inr (ap (λ (d : Doorway). d.astray) refuses.door);
        listening = inl (ap (λ (d : Doorway). d.listening) refuses.door);
        listens = λ none. absurd (omega (arith, none));
        course = λ fresh. refuses.course ∙ ap (option_map (listen_next false)) fresh;
      };
      output = (laws.none x, laws.still x);
      in_turn = laws.none x;
      are_lines = refl;
    },
    notes_nothing held p,
  )

  -- it listens
  module _ (asked : List ℕ) (a b : Mailbox) (listens : ListensNow a b asked) (right : IsPostAt a asked) where
    listens_at : (c : Mailbox) → c.listening ≡ b.listening → ListensAt asked a c
    listens_at c e = record { right = right; listening = e ∙ ap (λ (d : Doorway). d.listening) listens.door }

    faults_from : (end : AgentEnd) (now : ℕ) → PostFaults end b.faults now → PostFaults end a.faults now
    faults_from ends.AllReceived now h = h ∙ ap (λ (d : Doorway). d.faults) listens.door
    faults_from ends.PostFailed now h = subst (λ n. Rose n now) (ap (λ (d : Doorway). d.faults) listens.door) h
    faults_from ends.OutputFailed now h = h ∙ ap (λ (d : Doorway). d.faults) listens.door
    faults_from ends.NoMemory now h = h ∙ ap (λ (d : Doorway). d.faults) listens.door

    ends_course : (end : AgentEnd) (now : Option PostCourse) → now ≡ Some (end_course end) → EndsCourse end now
    ends_course ends.AllReceived now is = is
    ends_course ends.PostFailed now is = is
    ends_course ends.OutputFailed now is = is
    ends_course ends.NoMemory now is = inr is

    pub at_listening : (count : ℕ) (end : AgentEnd) (held holds : Bool) (c : Mailbox) (x y p q : Outlet) → ReceivesEach to count end held holds b c x y p q
        → (lines : List ℕ) × ReceivesAt asked to count end a c x y lines × NotesMore held holds p q lines
    at_listening count end held holds c x y p q each = (
      each.lines,
      record {
        parcels = each.parcels;
        are_parcels = each.has_received.are_parcels;
        reaches = each.reaches;
        post = record {
          left = subst (λ (l : Option (List (List ℕ))). LosesDatagrams l c.left (map (λ (p : Parcel). p.datagram) each.parcels)) listens.left each.has_received.left;
          faults = faults_from end c.faults each.faults;
          address = each.has_received.address ∙ ap (λ (d : Doorway). d.address) listens.door;
          astray = inr (each.has_received.astray ∙ ap (λ (d : Doorway). d.astray) listens.door);
          listening = inr (listens_at c each.has_received.listening);
          listens = λ some. listens_at c each.has_received.listening;
          course = λ fresh. ends_course end c.course (each.course (listens.course ∙ ap (option_map (listen_next true)) fresh));
        };
        output = each.output;
        in_turn = each.in_turn;
        are_lines = each.are_lines;
      },
      each.notes,
    )

  -- the line of the end stands behind those of the datagrams
  pub receives_all : (asked : List ℕ) (count status : ℕ) (end : AgentEnd) (holds then : Bool) (a b : Mailbox) (x y p q r : Outlet) → status ≡ end_status end
      → (at : (lines : List ℕ) × ReceivesAt asked to count end a b x y lines × NotesMore true holds p q lines) → NotesMore holds then q r (end_line end)
      → ReceivesDatagrams asked to count status a b x y p r
  receives_all asked count status end holds then a b x y p q r is at noted = record {
    end = end;
    lines = at.0;
    is_status = is;
    received = at.1;
    notes = notes_all laws then p r (at.0 ++ end_line end) (notes_both true holds then p q r at.0 (end_line end) at.2 noted);
  }

-- the same options and the same address
pub receives_as : (found options : Options) (text word : List ℕ) (status : ℕ) (a b : Mailbox) (x y p q : Outlet) → found ≡ options → text ≡ word
    → ReceivesDatagrams text found.to found.count status a b x y p q → ReceivesDatagrams word options.to options.count status a b x y p q
receives_as found options text word status a b x y p q same is received =
    subst (λ (o : Options). ReceivesDatagrams word o.to o.count status a b x y p q) same
    (subst (λ (l : List ℕ). ReceivesDatagrams l found.to found.count status a b x y p q) is received)

-- ---- handing on

module _ (laws : GainLaws) (to : Form) (number : ℕ) (datagram : List ℕ) (limits : Limits) (shipped : limits ≡ shipped_limits) (result : Result (List ℕ) (Halt AgentBad))
    (exists : (told : Result (List ℕ) AgentBad) × IsPiece to limits datagram told)
    (says : (told : Result (List ℕ) AgentBad) → IsPiece to limits datagram told → SaysPiece told result) where
  told_is : (told : Result (List ℕ) AgentBad) → exists.0 ≡ told → IsPiece to shipped_limits datagram told
  told_is told e = subst (λ (l : Limits). IsPiece to l datagram told) shipped (subst (λ (t : Result (List ℕ) AgentBad). IsPiece to limits datagram t) e exists.1)

  said : (answer : Result (List ℕ) (Halt AgentBad)) → result ≡ answer → SaysPiece exists.0 answer
  said answer is = subst (λ (r : Result (List ℕ) (Halt AgentBad)). SaysPiece exists.0 r) is (says exists.0 exists.1)

  -- its piece was written
  pub hands_piece : (piece : List ℕ) → result ≡ Ok piece → (held : Bool) (x y p : Outlet) → Gains x y piece → OutputHolds x y
      → HandsOn to number datagram (Ok tt) held held x y p p
  hands_piece piece is held x y p gains holds = record {
    told = Ok piece;
    is_piece = told_is (Ok piece) (said (Ok piece) is);
    output = (gains, holds);
    notes = notes_nothing held p;
  }

  -- the output failed in it
  pub hands_front : (piece : List ℕ) → result ≡ Ok piece → (failed : Failed) (held : Bool) (x y p : Outlet) → FailsWithin x y piece → FailsAt x y piece
      → HandsOn to number datagram (Err (halts.Why failed)) held held x y p p
  hands_front piece is failed held x y p fails at = record {
    told = Ok piece;
    is_piece = told_is (Ok piece) (said (Ok piece) is);
    output = (fails, at);
    notes = notes_nothing held p;
  }

  -- it has none, which was noted, or memory was wanted
  pub hands_bad : (bad : AgentBad) → result ≡ Err (halts.Why bad) → (answer : Result Unit (Halt Failed)) (held holds : Bool) (x : Outlet)
      → {N : Type 0} (outlet : N → Outlet) (before now : N) → OnOk answer (NotesMore held holds (outlet before) (outlet now) (parcel_line number (Err bad)))
      → OnErr answer ((answer ≡ Err halts.OutOfMemory) × (holds ≡ held) × (now ≡ before)) → HandsOn to number datagram answer held holds x x (outlet before) (outlet now)
  hands_bad bad is (Ok tt) held holds x outlet before now ok err = record {
    told = Err bad;
    is_piece = told_is (Err bad) (said (Err (halts.Why bad)) is);
    output = (laws.none x, laws.still x);
    notes = ok;
  }
  hands_bad bad is (Err (halts.Why failed)) held holds x outlet before now ok err =
      (let never : ◌≡◌ {A = Result Unit (Halt Failed)} (Err (halts.Why failed)) (Err halts.OutOfMemory) = err.0 in absurd (cc))
  hands_bad bad is (Err halts.OutOfMemory) held holds x outlet before now ok err = record {
    told = Err bad;
    is_piece = told_is (Err bad) (said (Err (halts.Why bad)) is);
    output = (laws.none x, laws.still x);
    notes = subst (λ (b : Bool). NotesMore held b (outlet before) (outlet now) []) (sym err.1)
        (subst (λ (o : Outlet). NotesMore held held (outlet before) o []) (ap outlet (sym err.2)) (notes_nothing held (outlet before)));
  }

  -- memory was wanted for its piece
  pub hands_nothing : (held : Bool) (x p : Outlet) → HandsOn to number datagram (Err halts.OutOfMemory) held held x x p p
  hands_nothing held x p = record {
    told = exists.0;
    is_piece = told_is exists.0 refl;
    output = (laws.none x, laws.still x);
    notes = notes_nothing held p;
  }

-- ---- other words

pub never_two : (end : AgentEnd) → end_status end ≡ 2 → ⊥
never_two ends.AllReceived e = absurd (omega (arith, e))
never_two ends.PostFailed e = absurd (omega (arith, e))
never_two ends.OutputFailed e = absurd (omega (arith, e))
never_two ends.NoMemory e = absurd (omega (arith, e))

-- ---- calls in vain

pub untouched_in_vain : (now : Mailbox) → NoPostCallInVain now now
untouched_in_vain now fresh vain = let e : ◌≡◌ {A = Option PostCourse} (Some courses.Fresh) (Some courses.InVain) = sym fresh ∙ vain in absurd (cc)

listening_or_vain : (now : Option PostCourse) → now ≡ Some courses.Listening → now ≡ Some courses.InVain → ⊥
listening_or_vain now e vain = let h : ◌≡◌ {A = Option PostCourse} (Some courses.Listening) (Some courses.InVain) = sym e ∙ vain in absurd (cc)

-- no end is in vain
pub received_in_vain : (end : AgentEnd) (before now : Mailbox) → (before.course ≡ Some courses.Fresh → EndsCourse end now.course) → NoPostCallInVain before now
received_in_vain ends.AllReceived before now at fresh vain = listening_or_vain now.course (at fresh) vain
received_in_vain ends.PostFailed before now at fresh vain =
    let e : ◌≡◌ {A = Option PostCourse} (Some courses.Stopped) (Some courses.InVain) = sym (at fresh) ∙ vain in absurd (cc)
received_in_vain ends.OutputFailed before now at fresh vain = listening_or_vain now.course (at fresh) vain
received_in_vain ends.NoMemory before now at fresh vain = elim (at fresh) as (λ w. ⊥) [
  | inl e ↦ (let h : ◌≡◌ {A = Option PostCourse} (Some courses.Fresh) (Some courses.InVain) = sym e ∙ vain in absurd (cc))
  | inr e ↦ listening_or_vain now.course e vain
]
