-- Bodies that are sent on, one after the other.
use Rattle.std.proofs.Common.{◌≡◌, ℕ, ◌+◌, ◌-◌, ◌<◌, ◌≤◌, ◌⊎◌, ◌↔◌, List, [], ◌∷◌, ◌++◌, drop, length, Option, Some, None, Result, Ok, Err, IsOk, IfSome, refl, sym, ap, subst, ◌∙◌, inl, inr, arith, append_assoc, append-nil, Bool, true}
use Rattle.std.proofs.lemmas.Bool.{false≢true}
use Rattle.std.proofs.lemmas.List.{length-append, map-append}
use Rattle.std.specs.Prelude.{option_map, option_to_list}
use Rattle.span_io.specs.Outside.{Rose}
use Rattle.span_spool.specs.Calls.{BeginWith, DropsFirst, DropsRow, Halts, IsFirst, stays}
use Rattle.span_spool.specs.Spools.{Spool}
use Rattle.span_spool.specs.declared.keeper.KeepFault.{KeepFault}
use Rattle.span_spool.specs.declared.keeper.KeepFault.TheVariants as keeping
use Rattle.span_spool.specs.declared.kept.Kept.{Kept}
use Rattle.span_relay.specs.Forwards.{AreTaken, CountsFlow, Delivery, EndsFlow, Forwards, IsTaken, LosesRows, rows_of, sent_to}
use Rattle.span_relay.specs.Peers.{Sends, SendsMore, Wire}
use Rattle.span_relay.specs.declared.forwarding.Flow.{Flow}
use Rattle.span_relay.specs.declared.forwarding.Flow.TheVariants as flows
use Rattle.span_relay.specs.declared.forwarding.FlowFault.{FlowFault}
use Rattle.span_relay.specs.declared.forwarding.FlowFault.TheVariants as faults
use Rattle.span_relay.specs.declared.peer.Sent.{Sent}
use Rattle.span_relay.specs.private.ForwardSteps.{GoneSoFar, NoneGoes, OneGoes}

-- ---- the first body

-- a count alone doesn't move the first row
still_first : (a b : Spool) (row : Kept) → b ≡ stays a b.faults → IsFirst a row → IsFirst b row
still_first a b row same first =
    subst (λ (s : Spool). IsFirst s row) (sym same) (record { some = first.some; number = first.number; first = first.first })

module _ (address : List ℕ) (row : Kept) (status : ℕ) (a : Spool) (x y : Wire) (first : IsFirst a row) (sends : Sends address row.form row.body x y (Ok status)) where
  abbrev this : Delivery
  this = record { row = row; status = status }

  pub held_back : (IsTaken status → ⊥) → NoneGoes address (Ok (flows.Held status)) a a x y
  held_back not_taken = record {
    last = Some this;
    keeps = refl;
    sent = sends;
    unspent = λ e. absurd (cc);
    ends = record { delivery = this; is_last = refl; is_status = refl; not_taken = not_taken; still = first };
    counts = tt;
  }

  pub went : (b : Spool) (dropped : Bool) → IsTaken status → dropped ≡ true → DropsFirst row.number a b (Ok dropped) → OneGoes address a b x y
  went b dropped taken is drops =
      let goes : DropsRow row.number a b = subst (λ (t : Bool). DropsFirst row.number a b (Ok t)) is drops in
      record { delivery = this; is_first = first; taken = taken; drops = goes.shrinks; sent = sends }

  pub kept_by_fault : (b : Spool) (fault : KeepFault) → IsTaken status → fault ≡ keeping.Failed → Halts a b fault → NoneGoes address (Err faults.Keeper) a b x y
  kept_by_fault b fault taken is halted =
      let halts : Halts a b keeping.Failed = subst (λ (f : KeepFault). Halts a b f) is halted in
      record {
        last = Some this;
        keeps = halts.1;
        sent = sends;
        unspent = λ e. absurd (cc);
        ends = (taken, still_first a b row halts.1 first);
        counts = halts.0;
      }

  pub kept_by_memory : (b : Spool) (fault : KeepFault) → IsTaken status → fault ≡ keeping.OutOfMemory → Halts a b fault → NoneGoes address (Err faults.OutOfMemory) a b x y
  kept_by_memory b fault taken is halted =
      let same : b ≡ a = subst (λ (f : KeepFault). Halts a b f) is halted in
      record {
        last = Some this;
        keeps = same ∙ ap (λ (s : Spool). stays a s.faults) (sym same);
        sent = sends;
        unspent = λ e. absurd (cc);
        ends = (taken, subst (λ (s : Spool). IsFirst s row) (sym same) first);
        counts = tt;
      }

-- ---- one after the other

pub loses_nothing : (rows : Option (List Kept)) → LosesRows rows rows []
loses_nothing None = refl
loses_nothing (Some rows) = (rows, refl, refl)

loses_more : (a b c : Option (List Kept)) (gone : List Kept) (row : Kept) → LosesRows a b gone → IfSome b (λ rows. BeginWith rows row)
    → c ≡ option_map (drop 1) b → LosesRows a c (gone ++ row ∷ [])
loses_more None b c gone row none first drops = drops ∙ ap (option_map (drop 1)) none
loses_more (Some all) None c gone row (others, are, left) first drops = absurd (let k : ◌≡◌ {A = Option (List Kept)} None (Some others) = left in cc)
loses_more (Some all) (Some rest) c gone row (others, are, left) (more, first) drops =
    let same : rest ≡ others = cc in
    (more, are ∙ ap (λ (l : List Kept). gone ++ l) (sym same ∙ first) ∙ sym (append_assoc gone (row ∷ []) more), drops ∙ ap (λ (l : List Kept). Some (drop 1 l)) first)

pub sends_nothing : (sent : Option (List Sent)) → sent ≡ option_map (λ l. l ++ []) sent
sends_nothing None = refl
sends_nothing (Some l) = ap (λ (k : List Sent). Some k) (sym (append-nil l))

pub sends_more : (a b c : Option (List Sent)) (first second : List Sent) → b ≡ option_map (λ l. l ++ first) a → c ≡ option_map (λ l. l ++ second) b
    → c ≡ option_map (λ l. l ++ (first ++ second)) a
sends_more None b c first second one two = two ∙ ap (option_map (λ l. l ++ second)) one
sends_more (Some all) b c first second one two =
    two ∙ ap (option_map (λ l. l ++ second)) one ∙ ap (λ (l : List Sent). Some l) (append_assoc all first second)

taken_more : (deliveries : List Delivery) (delivery : Delivery) → AreTaken deliveries → IsTaken delivery.status → AreTaken (deliveries ++ delivery ∷ [])
taken_more [] delivery are is = (is, tt)
taken_more (d ∷ deliveries) delivery are is = (are.0, taken_more deliveries delivery are.1 is)

-- a count that rose later has risen since before
pub rose_since : (a b c : ℕ) → a ≤ b → Rose b c → Rose a c
rose_since a b c before rose = omega (arith, before, rose)

counts_since : (answer : Result Flow FlowFault) (a b c : Spool) (x y z : Wire) → a.faults ≤ b.faults → x.faults ≤ y.faults → CountsFlow answer b c y z
    → CountsFlow answer a c x z
counts_since (Ok flow) a b c x y z kept sent counts = tt
counts_since (Err faults.Keeper) a b c x y z kept sent counts = rose_since a.faults b.faults c.faults kept counts
counts_since (Err faults.Peer) a b c x y z kept sent counts = rose_since x.faults y.faults z.faults sent counts
counts_since (Err faults.OutOfMemory) a b c x y z kept sent counts = tt

-- where the flow was spent, as many as were asked for left
unspent_is : (answer : Result Flow FlowFault) (gone budget : ℕ) → (answer ≡ Ok flows.Spent → ⊥) → answer ≡ Ok flows.Spent → gone ≡ budget
unspent_is answer gone budget unspent spent = absurd (unspent spent)

module _ (address : List ℕ) where
  sent_more : (gone more : List Delivery) → sent_to address (gone ++ more) ≡ sent_to address gone ++ sent_to address more
  sent_more gone more = map-append _ gone more

  pub gone_none : (a : Spool) (x : Wire) → GoneSoFar address 0 a a x x
  gone_none a x = record {
    gone = [];
    number = refl;
    taken = tt;
    leave = record { rows = loses_nothing a.rows; held = omega arith; room = refl; next = refl };
    sent = sends_nothing x.sent;
    counted = omega arith;
    wire_counted = omega arith;
  }

  module _ (done : ℕ) (a b : Spool) (x y : Wire) (so : GoneSoFar address done a b x y) where
    pub gone_more : (c : Spool) (z : Wire) → OneGoes address b c y z → b.faults ≤ c.faults → y.faults ≤ z.faults → GoneSoFar address (done + 1) a c x z
    gone_more c z goes kept sent =
        let d = goes.delivery in
        let rows : rows_of (so.gone ++ d ∷ []) ≡ rows_of so.gone ++ d.row ∷ [] = map-append _ so.gone (d ∷ []) in
        let one : length (rows_of so.gone ++ d.row ∷ []) ≡ length (rows_of so.gone) + 1 = length-append (rows_of so.gone) (d.row ∷ []) in
        let held : c.held ≡ b.held - 1 = ap (λ (s : Spool). s.held) goes.drops in
        record {
          gone = so.gone ++ d ∷ [];
          number = length-append so.gone (d ∷ []) ∙ ap (λ (n : ℕ). n + 1) so.number;
          taken = taken_more so.gone d so.taken goes.taken;
          leave = rw rows (record {
            rows = loses_more a.rows b.rows c.rows (rows_of so.gone) d.row so.leave.rows goes.is_first.first (ap (λ (s : Spool). s.rows) goes.drops);
            held = omega (arith, so.leave.held, goes.is_first.some, one, held);
            room = ap (λ (s : Spool). s.room) goes.drops ∙ so.leave.room;
            next = ap (λ (s : Spool). s.next) goes.drops ∙ so.leave.next;
          });
          sent = rw (sent_more so.gone (d ∷ [])) (sends_more x.sent y.sent z.sent (sent_to address so.gone) (sent_to address (d ∷ [])) so.sent goes.sent);
          counted = omega (arith, so.counted, kept);
          wire_counted = omega (arith, so.wire_counted, sent);
        }

    pub gone_stop : (answer : Result Flow FlowFault) (budget : ℕ) (c : Spool) (z : Wire) → NoneGoes address answer b c y z → done < budget
        → Forwards address budget answer a c x z
    gone_stop answer budget c z stops within = (
      so.gone,
      stops.last,
      record {
        taken = so.taken;
        leave = record {
          rows = subst (λ (r : Option (List Kept)). LosesRows a.rows r (rows_of so.gone)) (sym (ap (λ (s : Spool). s.rows) stops.keeps)) so.leave.rows;
          held = so.leave.held ∙ ap (λ (n : ℕ). length (rows_of so.gone) + n) (sym (ap (λ (s : Spool). s.held) stops.keeps));
          room = ap (λ (s : Spool). s.room) stops.keeps ∙ so.leave.room;
          next = ap (λ (s : Spool). s.next) stops.keeps ∙ so.leave.next;
        };
        sent = rw (sent_more so.gone (option_to_list stops.last))
            (sends_more x.sent y.sent z.sent (sent_to address so.gone) (sent_to address (option_to_list stops.last)) so.sent stops.sent);
        within = omega (arith, so.number, within);
        spent = λ e. absurd (stops.unspent e);
        ends = stops.ends;
      },
    )

    pub counts_stop : (answer : Result Flow FlowFault) (c : Spool) (z : Wire) → NoneGoes address answer b c y z → CountsFlow answer a c x z
    counts_stop answer c z stops = counts_since answer a b c x y z so.counted so.wire_counted stops.counts

    -- as many as were asked for left
    gone_all : (answer : Result Flow FlowFault) (budget : ℕ) → done ≡ budget → EndsFlow b None answer → Forwards address budget answer a b x y
    gone_all answer budget all ends = (
      so.gone,
      None,
      record {
        taken = so.taken;
        leave = so.leave;
        sent = subst (λ (l : List Delivery). SendsMore (sent_to address l) x y) (sym (append-nil so.gone)) so.sent;
        within = omega (arith, so.number, all);
        spent = λ e. so.number ∙ all;
        ends = ends;
      },
    )

    pub gone_empty : (budget : ℕ) → done ≡ budget → b.held ≡ 0 → Forwards address budget (Ok flows.Empty) a b x y
    gone_empty budget all none = gone_all (Ok flows.Empty) budget all (refl, none)

    pub gone_spent : (budget : ℕ) → done ≡ budget → 0 < b.held → Forwards address budget (Ok flows.Spent) a b x y
    gone_spent budget all some = gone_all (Ok flows.Spent) budget all (refl, some)

-- ---- the answer

-- it is empty where nothing is held
pub empty_is : (answer : Result Flow FlowFault) (now : Spool) (last : Option Delivery) → EndsFlow now last answer → IsOk answer
    → (answer ≡ Ok flows.Empty) ↔ (now.held ≡ 0)
empty_is (Ok flows.Empty) now last ends ok = (λ e. ends.1, λ none. refl)
empty_is (Ok (flows.Held status)) now last ends ok = (λ e. absurd (cc), λ none. absurd (omega (arith, none, ends.still.some)))
empty_is (Ok flows.Spent) now last ends ok = (λ e. absurd (cc), λ none. absurd (omega (arith, none, ends.1)))
empty_is (Err fault) now last ends ok = absurd (false≢true ok)

-- no count rose, so neither failed
pub complete_is : (answer : Result Flow FlowFault) (a b : Spool) (x y : Wire) → CountsFlow answer a b x y → ¬ Rose a.faults b.faults → ¬ Rose x.faults y.faults
    → IsOk answer ⊎ (answer ≡ Err faults.OutOfMemory)
complete_is (Ok flow) a b x y counts kept sent = inl refl
complete_is (Err faults.Keeper) a b x y counts kept sent = absurd (kept counts)
complete_is (Err faults.Peer) a b x y counts kept sent = absurd (sent counts)
complete_is (Err faults.OutOfMemory) a b x y counts kept sent = inr refl
