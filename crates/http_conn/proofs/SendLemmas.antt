-- A request that is sent over a connection, and what is read of its answer.
use Rattle.std.proofs.Common.{◌≡◌, ℕ, ◌+◌, ◌-◌, ◌<◌, ◌≤◌, ◌==◌, Bool, cond, List, [], ◌∷◌, ◌++◌, length, take, drop, Option, Some, None, Result, Ok, Err, refl, sym, ap, subst, ◌∙◌, inl, inr, append_assoc, arith}
use Rattle.std.specs.Prelude.{IfSome, IsTrue}
use Rattle.std.specs.Io.KnownBytes.{Appends, Consumes, IsAtEnd}
use Rattle.std.proofs.Math.Seq.{take-append-add}
use Rattle.std.proofs.lemmas.Bool.{ne_eqb}
use Rattle.std.proofs.lemmas.List.{append-nil, length-drop, length-take, take-take, take_all, take_at}
use Rattle.std.proofs.lemmas.Slice.{take-put_mid}
use borrow.Rule.Slice.PartMut.{put_mid}
use Rattle.span_io.specs.Links.{Link, lengths}
use Rattle.span_io.specs.Outside.{GainLaws, Gains, Inlet, NoReadInVain, OutputHolds, Outlet, Rose}
use Rattle.span_io.specs.declared.course.ReadCourse.{ReadCourse}
use Rattle.span_io.specs.declared.course.ReadCourse.TheVariants as reads
use Rattle.span_io.specs.declared.source.Failed.{Failed}
use Rattle.http_conn.specs.AnswerHeads.{IsAnswerHead, TellsNoStatus, TellsStatus}
use Rattle.http_conn.specs.Heads.{EndsAt, EndsFirstAt, EndsNowhere}
use Rattle.http_conn.specs.Sendings.{Asks, FailsToRead, IsAnswered, IsNotAnswered, KeepsMark, MarksRequest}
use Rattle.http_conn.specs.private.SendingSteps.{ReadFails, ReadsAnswer, ReadsMore, WritesAll}
use Rattle.http_conn.proofs.AnswerHeadLemmas.{none_ended, not_told, not_told_more, told, told_more}
use Rattle.http_conn.proofs.EndLemmas.{ends_less}

-- ---- bytes, one piece behind the other

-- what was put behind the first bytes of a buffer
pub placed : (count k given : ℕ) (buffer piece : List ℕ) → count ≤ length buffer → given ≤ length piece
    → take (count + given) (put_mid count k buffer piece) ≡ take count buffer ++ take given piece
placed count k given buffer piece fits few =
    let all = count + length piece in
    let whole : take all (put_mid count k buffer piece) ≡ take count buffer ++ piece = take-put_mid count k buffer piece all refl fits in
    sym (take-take (count + given) all (put_mid count k buffer piece) (omega arith)) ∙ ap (take (count + given)) whole
    ∙ in_second (take count buffer) piece count given (omega (arith, length-take count buffer))
  where
    in_second : (first second : List ℕ) (m n : ℕ) → length first ≡ m → take (m + n) (first ++ second) ≡ first ++ take n second
    in_second first second m n e = ap (λ k. take (k + n) (first ++ second)) (sym e) ∙ take-append-add first second n

consumes_none : (left : Option (List ℕ)) → Consumes left left []
consumes_none None = tt
consumes_none (Some xs) = refl

consumes_then : (a b c : Option (List ℕ)) (x y : List ℕ) → Consumes a b x → Consumes b c y → Consumes a c (x ++ y)
consumes_then None b c x y p q = tt
consumes_then (Some xs) None c x y p q = absurd p
consumes_then (Some xs) (Some ys) None x y p q = absurd q
consumes_then (Some xs) (Some ys) (Some zs) x y p q = p ∙ ap (λ (l : List ℕ). x ++ l) q ∙ sym (append_assoc x y zs)

empty_piece : (piece : List ℕ) → length piece ≡ 0 → piece ≡ []
empty_piece [] e = refl
empty_piece (x ∷ piece) e = absurd (omega (arith, e))

not_going : ◌≡◌ {A = Option ReadCourse} (Some reads.Going) (Some reads.InVain) → ⊥
not_going e = cc

-- P of what is left, which are bytes and then others
stream_of : (P : List ℕ → Type 0) (left now : Option (List ℕ)) (given : List ℕ) → Consumes left now given → ((more : List ℕ) → P (given ++ more))
    → IfSome left P
stream_of P None now given gave all = tt
stream_of P (Some xs) None given gave all = absurd gave
stream_of P (Some xs) (Some later) given gave all = subst P (sym gave) (all later)

-- the same where they are others at the end of the stream only, or nothing
stream_ended : (P : List ℕ → Type 0) (left now : Option (List ℕ)) (given : List ℕ) → Consumes left now given → IsAtEnd now → P given → IfSome left P
stream_ended P None now given gave ended p = tt
stream_ended P (Some xs) None given gave ended p = absurd gave
stream_ended P (Some xs) (Some later) given gave ended p =
    subst P (sym (gave ∙ ap (λ l. given ++ l) ended ∙ append-nil given)) p

-- ---- the mark

-- where no byte was consumed the same are left
same_left : (a b : Option (List ℕ)) → Consumes a b [] → (left : List ℕ) → a ≡ Some left → b ≡ Some left
same_left None b gave left e = absurd (let k : ◌≡◌ {A = Option (List ℕ)} None (Some left) = e in cc)
same_left (Some xs) None gave left e = absurd gave
same_left (Some xs) (Some ys) gave left e = ap (λ (l : List ℕ). Some l) (sym gave) ∙ e

pub marked_start : (now : Link) (request : List ℕ) (left held : Option (List ℕ)) → now.inlet.left ≡ left → MarksRequest now request left held
marked_start now request None held e = tt
marked_start now request (Some left) None e = tt
marked_start now request (Some left) (Some held) e = λ differs. absurd (differs e)

-- a read that gave nothing, or failed
marked_still : (now after : Link) (left held : Option (List ℕ)) → MarksRequest now [] left held → Consumes now.inlet.left after.inlet.left [] → after.mark ≡ now.mark
    → MarksRequest after [] left held
marked_still now after None held h gave mark = tt
marked_still now after (Some left) None h gave mark = tt
marked_still now after (Some left) (Some held) h gave mark = λ differs.
    let m = h (λ e. differs (same_left now.inlet.left after.inlet.left gave left e)) in
    record { taken = m.taken; later = m.later; given = m.given; open_yet = m.open_yet; marked = mark ∙ m.marked }

-- one that gave bytes marks what it began with
marked_read : (after : Link) (left held left_now : Option (List ℕ)) (given : List ℕ) → Consumes left left_now given → EndsNowhere given
    → after.mark ≡ lengths left_now held → MarksRequest after [] left held
marked_read after None held left_now given gave nowhere mark = tt
marked_read after (Some left) None left_now given gave nowhere mark = tt
marked_read after (Some left) (Some held) None given gave nowhere mark = absurd gave
marked_read after (Some left) (Some held) (Some later) given gave nowhere mark = λ differs. record {
  taken = given;
  later = later;
  given = gave;
  open_yet = nowhere;
  marked = mark ∙ ap (λ (l : List ℕ). lengths (Some later) (Some l)) (sym (append-nil held));
}

-- behind what was written
marked_behind : (now : Link) (request : List ℕ) (left before held : Option (List ℕ)) → Appends before held request → MarksRequest now [] left held
    → MarksRequest now request left before
marked_behind now request None before held appends h = tt
marked_behind now request (Some left) None held appends h = tt
marked_behind now request (Some left) (Some old) None appends h = absurd appends
marked_behind now request (Some left) (Some old) (Some all) appends h = λ differs.
    let m = h differs in
    record {
      taken = m.taken;
      later = m.later;
      given = m.given;
      open_yet = m.open_yet;
      marked = m.marked ∙ ap (λ (l : List ℕ). lengths (Some m.later) (Some l)) (append-nil all ∙ appends);
    }

-- ---- the answer

-- these bytes were read, in which no head ended
pub record Waits (before now : Link) (bytes : List ℕ) : Type 0 where
  pub gave : Consumes before.inlet.left now.inlet.left bytes
  pub open_yet : EndsNowhere bytes
  pub quiet : now.inlet.faults ≡ before.inlet.faults
  pub steady : now.inlet.steady ≡ before.inlet.steady
  pub outlet : now.outlet ≡ before.outlet
  pub goes : before.inlet.course ≡ Some reads.Going → now.inlet.course ≡ Some reads.Going
  pub marked : MarksRequest now [] before.inlet.left before.outlet.held

nothing_ends : EndsNowhere []
nothing_ends place e = absurd (omega (arith, ap length e, length-take {A = ℕ} 4 (drop place []), length-drop {A = ℕ} place []))

pub waits_start : (now : Link) → Waits now now []
waits_start now = record {
  gave = consumes_none now.inlet.left;
  open_yet = nothing_ends;
  quiet = refl;
  steady = refl;
  outlet = refl;
  goes = λ going. going;
  marked = marked_start now [] now.inlet.left now.outlet.held refl;
}

-- no head ends at a place from which on the bytes were looked at
pub known_before : (before now after : Link) (bytes new : List ℕ) (given : ℕ) → Waits before now bytes → ReadsMore now after bytes new given
    → (k : ℕ) → k < length bytes - 3 → ¬ (EndsAt new k)
known_before before now after bytes new given w r k lt e =
    w.open_yet k (ends_less bytes r.piece k (omega arith) (subst (λ l. EndsAt l k) r.appends e))

module _ (before now after : Link) (bytes new : List ℕ) (given : ℕ) (w : Waits before now bytes) (r : ReadsMore now after bytes new given) where
  more_gave : Consumes before.inlet.left after.inlet.left new
  more_gave =
      subst (λ (l : List ℕ). Consumes before.inlet.left after.inlet.left l) (sym r.appends)
      (consumes_then before.inlet.left now.inlet.left after.inlet.left bytes r.piece w.gave r.gave)

  more_outlet : after.outlet ≡ before.outlet
  more_outlet = r.outlet ∙ w.outlet

  more_marked : 1 ≤ given → MarksRequest after [] before.inlet.left before.outlet.held
  more_marked some =
      marked_read after before.inlet.left before.outlet.held now.inlet.left bytes w.gave w.open_yet
      (r.mark ∙ ap (λ (b : Bool). cond b now.mark (lengths now.inlet.left now.outlet.held)) (ne_eqb given 0 (λ e. absurd (omega (arith, e))))
      ∙ ap (λ (o : Outlet). lengths now.inlet.left o.held) w.outlet)

  pub waits_more : 1 ≤ given → EndsNowhere new → Waits before after new
  waits_more some nowhere = record {
    gave = more_gave;
    open_yet = nowhere;
    quiet = r.quiet ∙ w.quiet;
    steady = r.steady ∙ w.steady;
    outlet = more_outlet;
    goes = λ going. r.goes some (w.goes going);
    marked = more_marked some;
  }

-- what reading an answer does, and what its contract says
pub record Exit (most : ℕ) (before now : Link) (result : Result (Option ℕ) Failed) : Type 0 where
  pub reads : ReadsAnswer most before now result
  pub mark : KeepsMark before now []

module _ (most : ℕ) (laws : GainLaws) (before now : Link) where
  -- nothing is written meanwhile
  asks_nothing : (after : Link) (given : List ℕ) → after.outlet ≡ before.outlet → Consumes before.inlet.left after.inlet.left given → length given ≤ most
      → NoReadInVain before.inlet after.inlet → Asks most before after [] given
  asks_nothing after given outlet gave within in_vain = record {
    gains = subst (λ (o : Outlet). Gains before.outlet o []) (sym outlet) (laws.none before.outlet);
    holds = subst (λ (o : Outlet). OutputHolds before.outlet o) (sym outlet) (laws.still before.outlet);
    gave = gave;
    within = within;
    in_vain = in_vain;
  }

  goes_in_vain : (after : Link) → (before.inlet.course ≡ Some reads.Going → after.inlet.course ≡ Some reads.Going) → NoReadInVain before.inlet after.inlet
  goes_in_vain after goes = λ going vain. not_going (sym (goes going) ∙ vain)

  -- a head ended
  pub exit_head : (after : Link) (bytes new head : List ℕ) (given place : ℕ) (status : Option ℕ) → Waits before now bytes
      → ReadsMore now after bytes new given → 1 ≤ given → length new ≤ most → EndsFirstAt new place → head ≡ take (place + 4) new
      → IfSome status (IsAnswerHead head) → ((s : ℕ) → IsAnswerHead head s → status ≡ Some s) → Exit most before after (Ok status)
  exit_head after bytes new head given place (Some status) w r some short ends h is only =
      let gave = more_gave before now after bytes new given w r in
      let goes : before.inlet.course ≡ Some reads.Going → after.inlet.course ≡ Some reads.Going = λ going. r.goes some (w.goes going) in
      let is_head : IsAnswerHead (take (place + 4) new) status = subst (λ l. IsAnswerHead l status) h is in
      record {
        reads = record {
          given = new;
          asks = asks_nothing after new (more_outlet before now after bytes new given w r) gave short (goes_in_vain after goes);
          tells = told most new place short ends status is_head;
          stream = stream_of (λ left. TellsStatus most left status) before.inlet.left after.inlet.left new gave
              (λ more. told_more most new place short ends status more is_head);
          quiet = r.quiet ∙ w.quiet;
          goes = goes;
        };
        mark = more_marked before now after bytes new given w r some;
      }
  exit_head after bytes new head given place None w r some short ends h is only =
      let gave = more_gave before now after bytes new given w r in
      let none : (s : ℕ) → ¬ (IsAnswerHead (take (place + 4) new) s) = λ s x.
      no_status s (only s (subst (λ l. IsAnswerHead l s) (sym h) x)) in
      record {
        reads = record {
          given = new;
          asks = asks_nothing after new (more_outlet before now after bytes new given w r) gave short
              (goes_in_vain after (λ going. r.goes some (w.goes going)));
          tells = not_told most new place short ends none;
          stream = stream_of (λ left. TellsNoStatus most left) before.inlet.left after.inlet.left new gave
              (λ more. not_told_more most new place short ends more none);
          ends = λ nowhere. absurd (nowhere place ends.ends);
          quiet = r.quiet ∙ w.quiet;
        };
        mark = more_marked before now after bytes new given w r some;
      }
    where
      no_status : (s : ℕ) → ◌≡◌ {A = Option ℕ} None (Some s) → ⊥
      no_status s e = cc

  -- the stream ended
  pub exit_nothing : (after : Link) (bytes new : List ℕ) (given : ℕ) → Waits before now bytes → ReadsMore now after bytes new given → given ≡ 0
      → length new ≤ most → Exit most before after (Ok None)
  exit_nothing after bytes new given w r zero short =
      let gave = more_gave before now after bytes new given w r in
      let nothing : r.piece ≡ [] = empty_piece r.piece (r.number ∙ zero) in
      let same : new ≡ bytes = r.appends ∙ ap (λ l. bytes ++ l) nothing ∙ append-nil bytes in
      let nowhere : EndsNowhere new = subst EndsNowhere (sym same) w.open_yet in
      let none : TellsNoStatus most new = none_ended most new new (take_all most new short) nowhere in
      record {
        reads = record {
          given = new;
          asks = asks_nothing after new (more_outlet before now after bytes new given w r) gave short (λ going vain. r.in_vain (w.goes going) vain);
          tells = none;
          stream = stream_ended (λ left. TellsNoStatus most left) before.inlet.left after.inlet.left new gave (r.ends zero) none;
          ends = λ x. inr (r.ends zero);
          quiet = r.quiet ∙ w.quiet;
        };
        mark = marked_still now after before.inlet.left before.outlet.held w.marked
            (subst (λ (l : List ℕ). Consumes now.inlet.left after.inlet.left l) nothing r.gave)
            (r.mark ∙ ap (λ n. cond (n == 0) now.mark (lengths now.inlet.left now.outlet.held)) zero);
      }

  -- the limit was reached
  pub exit_full : (bytes : List ℕ) → Waits before now bytes → length bytes ≡ most → Exit most before now (Ok None)
  exit_full bytes w full =
      let none : (more : List ℕ) → TellsNoStatus most (bytes ++ more) = λ more.
      none_ended most (bytes ++ more) bytes (take_at bytes more most full) w.open_yet in
      record {
        reads = record {
          given = bytes;
          asks = asks_nothing now bytes w.outlet w.gave (omega (arith, full)) (goes_in_vain now w.goes);
          tells = subst (λ l. TellsNoStatus most l) (append-nil bytes) (none []);
          stream = stream_of (λ left. TellsNoStatus most left) before.inlet.left now.inlet.left bytes w.gave none;
          ends = λ x. inl full;
          quiet = w.quiet;
        };
        mark = w.marked;
      }

  -- a read failed
  pub exit_read : (after : Link) (bytes : List ℕ) (e : Failed) → Waits before now bytes → ReadFails now after → length bytes ≤ most
      → Exit most before after (Err e)
  exit_read after bytes e w f short = record {
    reads = record {
      given = bytes;
      asks = asks_nothing after bytes (f.outlet ∙ w.outlet)
          (subst (λ (l : List ℕ). Consumes before.inlet.left after.inlet.left l) (append-nil bytes)
          (consumes_then before.inlet.left now.inlet.left after.inlet.left bytes [] w.gave f.gave)) short (λ going vain. f.in_vain (w.goes going) vain);
      open_yet = w.open_yet;
      failed = subst (λ n. Rose n after.inlet.faults) w.quiet f.failed;
      unsteady = λ steady. f.unsteady (w.steady ∙ steady);
    };
    mark = marked_still now after before.inlet.left before.outlet.held w.marked f.gave f.mark;
  }

-- ---- the whole

module _ (most : ℕ) (laws : GainLaws) (before middle now : Link) (request : List ℕ) (w : WritesAll before middle request) where
  asks_behind : (given : List ℕ) → Asks most middle now [] given → Asks most before now request given
  asks_behind given a = record {
    gains = subst (λ (l : List ℕ). Gains before.outlet now.outlet l) (append-nil request)
        (laws.both before.outlet middle.outlet now.outlet request [] w.gains a.gains);
    holds = laws.holding before.outlet middle.outlet now.outlet w.holds a.holds;
    gave = subst (λ (i : Inlet). Consumes i.left now.inlet.left given) w.inlet a.gave;
    within = a.within;
    in_vain = subst (λ (i : Inlet). NoReadInVain i now.inlet) w.inlet a.in_vain;
  }

  pub answered_behind : (status : ℕ) → IsAnswered most middle now [] status → IsAnswered most before now request status
  answered_behind status x = record {
    given = x.given;
    asks = asks_behind x.given x.asks;
    tells = x.tells;
    stream = subst (λ (i : Inlet). IfSome i.left (λ left. TellsStatus most left status)) w.inlet x.stream;
    quiet = x.quiet ∙ ap (λ (i : Inlet). i.faults) w.inlet;
    goes = subst (λ (i : Inlet). i.course ≡ Some reads.Going → now.inlet.course ≡ Some reads.Going) w.inlet x.goes;
  }

  pub not_answered_behind : IsNotAnswered most middle now [] → IsNotAnswered most before now request
  not_answered_behind x = record {
    given = x.given;
    asks = asks_behind x.given x.asks;
    tells = x.tells;
    stream = subst (λ (i : Inlet). IfSome i.left (λ left. TellsNoStatus most left)) w.inlet x.stream;
    ends = x.ends;
    quiet = x.quiet ∙ ap (λ (i : Inlet). i.faults) w.inlet;
  }

  pub failed_behind : FailsToRead most middle now [] → FailsToRead most before now request
  failed_behind x = record {
    given = x.given;
    asks = asks_behind x.given x.asks;
    open_yet = x.open_yet;
    failed = subst (λ (i : Inlet). Rose i.faults now.inlet.faults) w.inlet x.failed;
    unsteady = subst (λ (i : Inlet). IsTrue i.steady → ⊥) w.inlet x.unsteady;
  }

  pub mark_behind : KeepsMark middle now [] → KeepsMark before now request
  mark_behind h =
      marked_behind now request before.inlet.left before.outlet.held middle.outlet.held w.gains.held
      (subst (λ (i : Inlet). MarksRequest now [] i.left middle.outlet.held) w.inlet h)

pub mark_unread : (before now : Link) (request : List ℕ) → now.inlet ≡ before.inlet → KeepsMark before now request
mark_unread before now request e = marked_start now request before.inlet.left before.outlet.held (ap (λ (i : Inlet). i.left) e)
