-- How far a connection was as bytes last came, through reads and writes.
use Rattle.std.proofs.Common.{◌≡◌, ◌≢◌, ℕ, List, [], ◌++◌, Option, Some, None, sym, ap, ◌∙◌, append_assoc}
use Rattle.std.specs.Prelude.{IfSome, ⊤}
use Rattle.std.proofs.lemmas.List.{append-nil}
use Rattle.std.specs.Io.KnownBytes.{Appends, Consumes}
use Rattle.span_io.specs.Links.{Link, lengths}
use Rattle.span_io.specs.Outside.{Inlet, IsFront}
use Rattle.span_io.specs.declared.limits.Limits.{Limits}
use Rattle.http_conn.specs.declared.next.Request.{Request}
use Rattle.conn_service.specs.Serving.{MarksAnswers}
use Rattle.conn_service.specs.Streams.{AllAnswered}

front_more : (front text more : List ℕ) → IsFront front text → IsFront front (text ++ more)
front_more front text more part = (part.0 ++ more, ap (λ l. l ++ more) part.1 ∙ append_assoc front part.0 more)

front_behind : (held front text all : List ℕ) → all ≡ held ++ text → IsFront front text → IsFront (held ++ front) all
front_behind held front text all e part = (part.0, e ∙ ap (λ l. held ++ l) part.1 ∙ sym (append_assoc held front part.0))

front_told : (held front text : List ℕ) (now : Option (List ℕ)) → Appends (Some held) now text → IsFront front text
    → IfSome now (λ all. IsFront (held ++ front) all)
front_told held front text None e part = absurd e
front_told held front text (Some all) e part = front_behind held front text all e part

-- where no byte was consumed the same are left
same_left : (a b : Option (List ℕ)) → Consumes a b [] → (left : List ℕ) → a ≡ Some left → b ≡ Some left
same_left None b gave left e = absurd (let k : ◌≡◌ {A = Option (List ℕ)} None (Some left) = e in cc)
same_left (Some xs) None gave left e = absurd gave
same_left (Some xs) (Some ys) gave left e = ap (λ (l : List ℕ). Some l) (sym gave) ∙ e

module _ {S : Type 0} (answers : S → Request → List ℕ → List ℕ → S → Type 0) (leads : S → S → Type 0) (limits : Limits) where
  -- the same of what was written, whatever the connection tells of it
  pub record MarkedAt (first last : S) (now : Link) (left held text : List ℕ) : Type 0 where
    pub taken : List ℕ
    pub later : List ℕ
    pub written : List ℕ
    pub state : S
    pub given : left ≡ taken ++ later
    pub answered : AllAnswered answers limits first taken written state
    pub led : leads state last
    pub marked : now.mark ≡ lengths (Some later) (Some (held ++ written))
    pub part : IsFront written text

  abbrev pub SoMarked : S → S → Link → Option (List ℕ) → Option (List ℕ) → List ℕ → Type 0
  SoMarked first last now None held text = ⊤
  SoMarked first last now (Some left) None text = ⊤
  SoMarked first last now (Some left) (Some held) text = now.inlet.left ≢ Some left → MarkedAt first last now left held text

  pub marked_start : (first : S) (now : Link) (left held : Option (List ℕ)) → now.inlet.left ≡ left → SoMarked first first now left held []
  marked_start first now None held e = tt
  marked_start first now (Some left) None e = tt
  marked_start first now (Some left) (Some held) e = λ differs. absurd (differs e)

  -- what contracts say of it
  pub keeps_mark : (first last : S) (before now : Link) (left held : Option (List ℕ)) (text : List ℕ) → SoMarked first last now left held text
      → Appends held now.outlet.held text → MarksAnswers answers leads limits first last before now left held
  keeps_mark first last before now None held text h appends = tt
  keeps_mark first last before now (Some left) None text h appends = tt
  keeps_mark first last before now (Some left) (Some held) text h appends = λ differs.
      let m = h differs in
      record {
        taken = m.taken;
        later = m.later;
        written = m.written;
        state = m.state;
        given = m.given;
        answered = m.answered;
        led = m.led;
        marked = m.marked;
        front = front_told held m.written text now.outlet.held appends m.part;
      }

  -- one that gave bytes marks what it began with
  pub marked_read : (leads_none : (s : S) → leads s s) (first last : S) (after : Link) (left held left_now held_now : Option (List ℕ)) (given text : List ℕ)
      → Consumes left left_now given → Appends held held_now text → AllAnswered answers limits first given text last
      → after.mark ≡ lengths left_now held_now → SoMarked first last after left held text
  marked_read leads_none first last after None held left_now held_now given text gave appends answered mark = tt
  marked_read leads_none first last after (Some left) None left_now held_now given text gave appends answered mark = tt
  marked_read leads_none first last after (Some left) (Some held) None held_now given text gave appends answered mark = absurd gave
  marked_read leads_none first last after (Some left) (Some held) (Some later) None given text gave appends answered mark = absurd appends
  marked_read leads_none first last after (Some left) (Some held) (Some later) (Some all) given text gave appends answered mark = λ differs. record {
    taken = given;
    later = later;
    written = text;
    state = last;
    given = gave;
    answered = answered;
    led = leads_none last;
    marked = mark ∙ ap (λ (l : List ℕ). lengths (Some later) (Some l)) appends;
    part = ([], sym (append-nil text));
  }

  -- a read that gave nothing, or failed, leaves the mark
  pub marked_still : (first last : S) (now after : Link) (left held : Option (List ℕ)) (text : List ℕ) → SoMarked first last now left held text
      → Consumes now.inlet.left after.inlet.left [] → after.mark ≡ now.mark → SoMarked first last after left held text
  marked_still first last now after None held text h gave mark = tt
  marked_still first last now after (Some left) None text h gave mark = tt
  marked_still first last now after (Some left) (Some held) text h gave mark = λ differs.
      let m = h (λ e. differs (same_left now.inlet.left after.inlet.left gave left e)) in
      record {
        taken = m.taken;
        later = m.later;
        written = m.written;
        state = m.state;
        given = m.given;
        answered = m.answered;
        led = m.led;
        marked = mark ∙ m.marked;
        part = m.part;
      }

  -- an answer changes neither mark nor source, and leads on
  pub marked_write : (leads_then : (a b c : S) → leads a b → leads b c → leads a c) (first middle last : S) (now after : Link) (left held : Option (List ℕ)) (text more : List ℕ)
      → SoMarked first middle now left held text → leads middle last → after.inlet ≡ now.inlet → after.mark ≡ now.mark
      → SoMarked first last after left held (text ++ more)
  marked_write leads_then first middle last now after None held text more h led inlet mark = tt
  marked_write leads_then first middle last now after (Some left) None text more h led inlet mark = tt
  marked_write leads_then first middle last now after (Some left) (Some held) text more h led inlet mark = λ differs.
      let m = h (λ e. differs (ap (λ (i : Inlet). i.left) inlet ∙ e)) in
      record {
        taken = m.taken;
        later = m.later;
        written = m.written;
        state = m.state;
        given = m.given;
        answered = m.answered;
        led = leads_then m.state middle last m.led led;
        marked = mark ∙ m.marked;
        part = front_more m.written text more m.part;
      }
