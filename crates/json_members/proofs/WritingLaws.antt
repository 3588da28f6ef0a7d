-- What is appended piece by piece.
use Rattle.std.proofs.Common.{◌≡◌, ℕ, zero, suc, ◌+◌, ◌<◌, ◌==◌, List, [], ◌∷◌, ◌++◌, length, get_or, take, drop, Bool, false, Some, None, Result, Ok, Err, OnOk, OnErr, refl, sym, ap, subst, ◌∙◌, append_assoc, append-nil}
use Rattle.std.proofs.lemmas.List.{take_more, take-append-drop, drop_more}
use Rattle.json.specs.Token.{Token, begin_object}
use Rattle.json.specs.Print.{print, print_from, separator, token_text, ends}
use Rattle.json.specs.Tree.{members_tokens}
use Rattle.json.specs.Written.{Written}
use Rattle.serde_json.specs.Data.{string, number, unsigned, object}
use Rattle.serde_json.specs.Written.{members_outline, compact_text}
use Rattle.serde_json.proofs.Texts.{print-outline}
use Rattle.json_members.specs.Canonical.{MemberRow, members_given, text_data, count_data}
use Rattle.json_members.specs.Writing.{Appends, GrewFront, given_tokens}
use Rattle.json_members.specs.private.Pieces.{rows_tokens, pieces}

pub nothing_written : {E : Type 0} (a : Written) → Appends {E = E} (Ok tt) a a []
nothing_written a = record { before = refl; ok = sym (append-nil a.tokens); err = tt }

-- one piece, and then the rest
pub seq : {E F : Type 0} (r : Result (Unit {0}) E) (a b c : Written) (piece rest : List Token) → Appends {E = F} (Ok tt) a b piece → Appends r b c rest → Appends r a c (piece ++ rest)
seq (Ok u) a b c piece rest h k = record { before = k.before ∙ h.before; ok = k.ok ∙ ap (λ l. l ++ rest) h.ok ∙ append_assoc a.tokens piece rest; err = tt }
seq (Err e) a b c piece rest h k = record {
  before = k.before ∙ h.before;
  ok = tt;
  err = let f = k.err in (piece ++ f.0, f.1, ap (λ l. piece ++ l) f.2 ∙ sym (append_assoc piece f.0 f.1), f.3 ∙ ap (λ l. l ++ f.0) h.ok ∙ append_assoc a.tokens piece f.0);
}

-- a piece that was cut short
pub stop : {E : Type 0} (e : E) (a b : Written) (piece rest : List Token) → Appends (Err e) a b piece → Appends (Err e) a b (piece ++ rest)
stop e a b piece rest h = record { before = h.before; ok = tt; err = let f = h.err in (f.0, f.1 ++ rest, ap (λ l. l ++ rest) f.2 ∙ append_assoc f.0 f.1 rest, f.3) }

-- what a call answers that hands want of memory on
pub exits_written : {E F : Type 0} (answer : Result (Unit {0}) E) (e : E) (f : F) (a b : Written) (piece : List Token) → answer ≡ Err e → Appends (Err f) a b piece → Appends answer a b piece
exits_written {E} {F} answer e f a b piece is h =
    subst (λ (r : Result (Unit {0}) E). Appends r a b piece) (sym is) (record { before = h.before; ok = tt; err = h.err })

pub landed : {E F : Type 0} (u : Unit {0}) (a b : Written) (piece : List Token) → Appends {E = F} (Ok u) a b piece → Appends {E = E} (Ok tt) a b piece
landed u a b piece h = record { before = h.before; ok = h.ok; err = tt }

-- ---- what isn't left out

module _ {E : Type 0} (r : Result (Unit {0}) E) (a b : Written) (name : List ℕ) where
  pub text_written : (text : List ℕ) → (length text == 0) ≡ false → Appends r a b (given_tokens name (Some (string text))) → Appends r a b (given_tokens name (text_data text))
  text_written [] some h = cc
  text_written (x ∷ text) some h = h

  pub count_written : (count : ℕ) → (count ≡ 0 → ⊥) → Appends r a b (given_tokens name (Some (number (unsigned count)))) → Appends r a b (given_tokens name (count_data count))
  count_written zero some h = absurd (some refl)
  count_written (suc n) some h = h

pub ruleset in_pieces = (seq, stop, exits_written)

pub ruleset written = (text_written, count_written, nothing_written)

-- ---- objects

pub member_rows_written : (rows : List MemberRow) → members_tokens (members_outline (members_given rows)) ≡ rows_tokens rows
member_rows_written [] = refl
member_rows_written ((name, None) ∷ rows) = member_rows_written rows
member_rows_written ((name, Some d) ∷ rows) = ap (λ l. given_tokens name (Some d) ++ l) (member_rows_written rows)

-- ---- a loop over a list

module _ {A : Type 0} (piece : A → List Token) (xs : List A) (i : ℕ) (x : A) (within : i < length xs) (here : x ≡ get_or xs i x) where
  pieces_end : (front : List A) (rest : List A) → pieces piece (front ++ rest) ≡ pieces piece front ++ pieces piece rest
  pieces_end [] rest = refl
  pieces_end (y ∷ front) rest = ap (λ l. piece y ++ l) (pieces_end front rest) ∙ sym (append_assoc (piece y) (pieces piece front) (pieces piece rest))

  pub pieces_more : pieces piece (take (i + 1) xs) ≡ pieces piece (take i xs) ++ piece x
  pieces_more =
      ap (λ l. pieces piece l) (take_more xs i x within ∙ ap (λ w. take i xs ++ w ∷ []) (sym here)) ∙ pieces_end (take i xs) (x ∷ []) ∙ ap (λ l. pieces piece (take i xs) ++ l) (append-nil (piece x))

  pub pieces_all : pieces piece xs ≡ pieces piece (take i xs) ++ (piece x ++ pieces piece (drop (i + 1) xs))
  pieces_all =
      ap (λ l. pieces piece l) (sym (take-append-drop i xs) ∙ ap (λ l. take i xs ++ l) (drop_more xs i x within ∙ ap (λ w. w ∷ drop (i + 1) xs) (sym here)))
      ∙ pieces_end (take i xs) (x ∷ drop (i + 1) xs)

  pub goes_on : {E : Type 0} (a b c : Written) → Appends {E = E} (Ok tt) a b (pieces piece (take i xs)) → Appends {E = E} (Ok tt) b c (piece x) → Appends {E = E} (Ok tt) a c (pieces piece (take (i + 1) xs))
  goes_on {E} a b c h k = subst (λ l. Appends {E = E} (Ok tt) a c l) (sym pieces_more) (seq {F = E} (Ok tt) a b c _ _ h k)

  pub stops : {E : Type 0} (e : E) (a b c : Written) → Appends {E = E} (Ok tt) a b (pieces piece (take i xs)) → Appends (Err e) b c (piece x) → Appends (Err e) a c (pieces piece xs)
  stops {E} e a b c h k = subst (λ l. Appends {E = E} (Err e) a c l) (sym pieces_all) (seq {F = E} (Err e) a b c _ _ h (stop e b c (piece x) _ k))

-- ---- the bytes that the tokens print

pub object_tokens : (rows : List MemberRow) → print (begin_object ∷ rows_tokens rows) ≡ compact_text (object (members_given rows))
object_tokens rows = ap (λ l. print (begin_object ∷ l)) (sym (member_rows_written rows)) ∙ print-outline (object (members_given rows))

printed_on : (later : Bool) (front rest : List Token) → (more : List ℕ) × (print_from later (front ++ rest) ≡ print_from later front ++ more)
unfolding print_from
printed_on later [] rest = (print_from later rest, refl)
printed_on later (t ∷ front) rest =
    let on = printed_on (ends t) front rest in (
      on.0,
      ap (λ l. separator later t ++ (token_text t ++ l)) on.1 ∙ sym (append_assoc (separator later t) (token_text t ++ print_from (ends t) front) on.0
          ∙ ap (λ l. separator later t ++ l) (append_assoc (token_text t) (print_from (ends t) front) on.0)),
    )

-- what was appended, where the tokens are those of a text
module _ {E : Type 0} (tokens : List Token) (text : List ℕ) (prints : print tokens ≡ text) (old new : List ℕ) (a b : Written) (before : a.before ≡ old) (none : a.tokens ≡ []) (items : new ≡ b.before ++ print b.tokens) where
  pub text_ok : (r : Result (Unit {0}) E) → Appends r a b tokens → OnOk r (new ≡ old ++ text)
  text_ok (Ok u) h =
      let all : b.tokens ≡ tokens = h.ok ∙ ap (λ l. l ++ tokens) none in
      items ∙ ap (λ l. l ++ print b.tokens) (h.before ∙ before) ∙ ap (λ l. old ++ print l) all ∙ ap (λ l. old ++ l) prints
  text_ok (Err e) h = tt

  pub text_front : (r : Result (Unit {0}) E) → Appends r a b tokens → OnErr r (GrewFront old new text)
  text_front (Ok u) h = tt
  text_front (Err e) h =
      let f = h.err in
      let some : b.tokens ≡ f.0 = f.3 ∙ ap (λ l. l ++ f.0) none in
      let on = printed_on false f.0 f.1 in
      record {
        front = print f.0;
        rest = on.0;
        whole = sym prints ∙ ap print f.2 ∙ on.1;
        grew = items ∙ ap (λ l. l ++ print b.tokens) (h.before ∙ before) ∙ ap (λ l. old ++ print l) some;
      }
