-- The pieces of a `tracestate` between its commas, and the members that stand in them.
use Rattle.std.proofs.Common.{◌≡◌, ◌≢◌, ℕ, ◌+◌, ◌<◌, List, [], ◌∷◌, ◌++◌, length, get_or, take, drop, reverse, refl, sym, ap, subst, ◌∙◌, inl, inr, arith, eqb}
use Rattle.std.specs.Prelude.{All, Bool, false, map, filter_map, Option, Some, None}
use Rattle.std.specs.Option.{option_to_list}
use Rattle.std.specs.List.{join_with_byte, slice_split, cons_option}
use Rattle.std.proofs.lemmas.Bool.Decides.{nat_tests}
use Rattle.std.proofs.lemmas.List.{append-nil, append_assoc, drop_more, length-append, get_or_append_left, take-append-drop, take_all, take_more}
use Rattle.std.proofs.lemmas.List.Elements.{All-append, All-cons, All-head, All-nil, All-tail, All-weaker}
use Rattle.std.proofs.lemmas.List.Splits.{slice_split_none, slice_split_at, join_with_byte-slice_split}
use Rattle.propagation.specs.Fronts.{BeginsWithout, Leads}
use Rattle.propagation.specs.Tracestate.{IsBlank, StateMember, IsStateMember, state_member_text, StateEntry, IsStateEntry, IsListedMember, listed_member_text, state_entry_text, AreStateMembers, ListsMembers}
use Rattle.propagation.specs.private.Trimming.{Trims}
use Rattle.propagation.proofs.FrontLemmas.{leads_to}
use Rattle.propagation.proofs.MemberLemmas.{state_key_plain}
use Rattle.propagation.proofs.StateTexts.{IsPlain, member_plain, member_begins, member_ends}
use Rattle.propagation.proofs.TrimLemmas.{trims_once}

-- ---- a piece has one member, or none

pub member_is : (m : StateMember) (key value : List ℕ) → key ≡ m.key → value ≡ m.value → ◌≡◌ {A = StateMember} (record { key = key; value = value }) m
member_is m key value e f = λ i. record { key = e i; value = f i }

member_once : (a b : StateMember) → IsStateMember a → IsStateMember b → state_member_text a ≡ state_member_text b → a ≡ b
member_once a b h k e =
    let lead : Leads (λ c. c ≢ 61) (state_member_text a) a.key (61 ∷ a.value) = record { whole = refl; kind = state_key_plain a.key h.key; ended = λ p. p refl } in
    let same = leads_to b.key (61 ∷ b.value) lead (state_key_plain b.key k.key) (λ p. p refl) e in
    let values : a.value ≡ b.value = (let behind = same.1 in cc) in
    member_is b a.key a.value same.0 values

some_member : (front back : List ℕ) → ◌≡◌ {A = List ℕ} [] (front ++ 61 ∷ back) → ⊥
some_member [] back e = cc
some_member (c ∷ front) back e = cc

pub listed_once : (a b : Option StateMember) → IsListedMember a → IsListedMember b → listed_member_text a ≡ listed_member_text b → a ≡ b
listed_once None None h k e = refl
listed_once None (Some b) h k e = absurd (some_member b.key b.value e)
listed_once (Some a) None h k e = absurd (some_member a.key a.value (sym e))
listed_once (Some a) (Some b) h k e = ap Some (member_once a b h k e)

listed_begins : (o : Option StateMember) → IsListedMember o → BeginsWithout IsBlank (listed_member_text o)
listed_begins None h = tt
listed_begins (Some m) h = subst (λ t. BeginsWithout IsBlank t) (append-nil (state_member_text m)) (member_begins m [] h)

listed_ends : (o : Option StateMember) → IsListedMember o → BeginsWithout IsBlank (reverse (listed_member_text o))
listed_ends None h = tt
listed_ends (Some m) h = member_ends m h

-- what stands between two commas, without its blanks, is the member
pub entry_trims : (e : StateEntry) → IsStateEntry e → Trims (state_entry_text e) (listed_member_text e.member)
entry_trims e h = record {
  before = e.before;
  after = e.after;
  whole = refl;
  blank_before = h.before;
  blank_after = h.after;
  begins = listed_begins e.member h.member;
  ends = listed_ends e.member h.member;
}

entry_once : (a b : StateEntry) → IsStateEntry a → IsStateEntry b → state_entry_text a ≡ state_entry_text b → a.member ≡ b.member
entry_once a b h k e =
    let other : Trims (state_entry_text a) (listed_member_text b.member) = subst (λ t. Trims t (listed_member_text b.member)) (sym e) (entry_trims b k) in
    listed_once a.member b.member h.member k.member (trims_once (entry_trims a h) other)

-- the piece is a member, or nothing, with blanks round it
pub record IsPieceOf (piece : List ℕ) (member : Option StateMember) : Type 0 where
  pub entry : StateEntry
  pub formed : IsStateEntry entry
  pub text : piece ≡ state_entry_text entry
  pub has : entry.member ≡ member

pub trims_piece : (piece inside : List ℕ) (o : Option StateMember) → Trims piece inside → IsListedMember o → inside ≡ listed_member_text o → IsPieceOf piece o
trims_piece piece inside o t h e = record {
  entry = record { before = t.before; member = o; after = t.after };
  formed = record { before = t.blank_before; member = h; after = t.blank_after };
  text = t.whole ∙ ap (λ l. t.before ++ (l ++ t.after)) e;
  has = refl;
}

-- ---- pieces, and all their members

abbrev pub ListsPieces : List (List ℕ) → List StateMember → Type 0
ListsPieces [] members = members ≡ []
ListsPieces (piece ∷ pieces) members =
    (entry : StateEntry) × IsStateEntry entry × (piece ≡ state_entry_text entry)
    × (more : List StateMember) × ListsPieces pieces more × (members ≡ option_to_list entry.member ++ more)

pub pieces_once : (pieces : List (List ℕ)) (a b : List StateMember) → ListsPieces pieces a → ListsPieces pieces b → a ≡ b
pieces_once [] a b h k = h ∙ sym k
pieces_once (piece ∷ pieces) a b (e, h, p, xs, r, x) (f, k, q, ys, s, y) =
    let one = ap option_to_list (entry_once e f h k (sym p ∙ q)) in
    let more = pieces_once pieces xs ys r s in
    x ∙ ap (λ l. l ++ xs) one ∙ ap (λ l. option_to_list f.member ++ l) more ∙ sym y

pub record PiecesApart (front back : List (List ℕ)) (members : List StateMember) : Type 0 where
  pub before : List StateMember
  pub behind : List StateMember
  pub in_front : ListsPieces front before
  pub in_back : ListsPieces back behind
  pub all : members ≡ before ++ behind

pub pieces_apart : (front back : List (List ℕ)) (members : List StateMember) → ListsPieces (front ++ back) members → PiecesApart front back members
pieces_apart [] back members h = record { before = []; behind = members; in_front = refl; in_back = h; all = refl }
pieces_apart (piece ∷ front) back members (e, h, p, xs, r, x) =
    let rest = pieces_apart front back xs r in
    record {
      before = option_to_list e.member ++ rest.before;
      behind = rest.behind;
      in_front = (e, h, p, rest.before, rest.in_front, refl);
      in_back = rest.in_back;
      all = x ∙ ap (λ l. option_to_list e.member ++ l) rest.all ∙ sym (append_assoc (option_to_list e.member) rest.before rest.behind);
    }

pub pieces_push : (pieces : List (List ℕ)) (members : List StateMember) (piece : List ℕ) (e : StateEntry)
    → ListsPieces pieces members → IsStateEntry e → piece ≡ state_entry_text e → ListsPieces (pieces ++ piece ∷ []) (members ++ option_to_list e.member)
pieces_push [] members piece e h k p = (e, k, p, [], refl, ap (λ l. l ++ option_to_list e.member) h ∙ sym (append-nil (option_to_list e.member)))
pieces_push (first ∷ pieces) members piece e (f, g, q, xs, r, x) k p = (
  f,
  g,
  q,
  xs ++ option_to_list e.member,
  pieces_push pieces xs piece e r k p,
  ap (λ l. l ++ option_to_list e.member) x ∙ append_assoc (option_to_list f.member) xs (option_to_list e.member),
)

-- ---- a text, cut at its commas

abbrev pub is_comma : ℕ → Bool
is_comma c = eqb c 44

blank_no_comma : (c : ℕ) → IsBlank c → is_comma c ≡ false
blank_no_comma c (inl e) = rw e refl
blank_no_comma c (inr e) = rw e refl

plain_no_comma : (c : ℕ) → IsPlain c → is_comma c ≡ false
plain_no_comma c h = let other = h.1 in grind (arith, nat_tests)

listed_no_comma : (o : Option StateMember) → IsListedMember o → All (λ c. is_comma c ≡ false) (listed_member_text o)
listed_no_comma None h = All-nil (λ c. is_comma c ≡ false)
listed_no_comma (Some m) h = All-weaker IsPlain (λ c. is_comma c ≡ false) plain_no_comma (state_member_text m) (member_plain m h)

entry_no_comma : (e : StateEntry) → IsStateEntry e → All (λ c. is_comma c ≡ false) (state_entry_text e)
entry_no_comma e h =
    let blank = All-weaker IsBlank (λ c. is_comma c ≡ false) blank_no_comma in
    All-append (λ c. is_comma c ≡ false) e.before (listed_member_text e.member ++ e.after) (blank e.before h.before)
    (All-append (λ c. is_comma c ≡ false) (listed_member_text e.member) e.after (listed_no_comma e.member h.member) (blank e.after h.after))

split_entries : (e : StateEntry) (es : List StateEntry) → All IsStateEntry (e ∷ es)
    → slice_split is_comma (join_with_byte 44 (map state_entry_text (e ∷ es))) ≡ map state_entry_text (e ∷ es)
split_entries e [] h = slice_split_none is_comma (state_entry_text e) (entry_no_comma e (All-head IsStateEntry e [] h))
split_entries e (f ∷ es) h =
    slice_split_at is_comma (state_entry_text e) 44 (join_with_byte 44 (map state_entry_text (f ∷ es))) (entry_no_comma e (All-head IsStateEntry e (f ∷ es) h)) refl
    ∙ ap (λ l. state_entry_text e ∷ l) (split_entries f es (All-tail IsStateEntry e (f ∷ es) h))

cons_is : (o : Option StateMember) (ms : List StateMember) → cons_option o ms ≡ option_to_list o ++ ms
cons_is None ms = refl
cons_is (Some m) ms = refl

entry_pieces : (es : List StateEntry) → All IsStateEntry es → ListsPieces (map state_entry_text es) (filter_map (λ l. l.member) es)
entry_pieces [] h = refl
entry_pieces (e ∷ es) h =
    (e, All-head IsStateEntry e es h, refl, filter_map (λ l. l.member) es, entry_pieces es (All-tail IsStateEntry e es h), cons_is e.member (filter_map (λ l. l.member) es))

text_pieces : (text : List ℕ) (members : List StateMember) (es : List StateEntry) → All IsStateEntry es
    → text ≡ join_with_byte 44 (map state_entry_text es) → members ≡ filter_map (λ l. l.member) es → ListsPieces (slice_split is_comma text) members
text_pieces text members [] h whole are =
    let none : ListsPieces ([] ∷ []) members =
    (record { before = []; member = None; after = [] }, record { before = All-nil IsBlank; member = tt; after = All-nil IsBlank }, refl, [], refl, are) in
    subst (λ ps. ListsPieces ps members) (sym (ap (slice_split is_comma) whole)) none
text_pieces text members (e ∷ es) h whole are =
    let pieces : ListsPieces (map state_entry_text (e ∷ es)) members = subst (λ ms. ListsPieces (map state_entry_text (e ∷ es)) ms) (sym are) (entry_pieces (e ∷ es) h) in
    subst (λ ps. ListsPieces ps members) (sym (ap (slice_split is_comma) whole ∙ split_entries e es h)) pieces

pub pieces_of : (text : List ℕ) (members : List StateMember) → ListsMembers text members → ListsPieces (slice_split is_comma text) members
pieces_of text members h = text_pieces text members h.entries h.formed h.whole h.members_are

record Entries (pieces : List (List ℕ)) (members : List StateMember) : Type 0 where
  entries : List StateEntry
  formed : All IsStateEntry entries
  texts : pieces ≡ map state_entry_text entries
  are : members ≡ filter_map (λ l. l.member) entries

piece_entries : (pieces : List (List ℕ)) (members : List StateMember) → ListsPieces pieces members → Entries pieces members
piece_entries [] members h = record { entries = []; formed = All-nil IsStateEntry; texts = refl; are = h }
piece_entries (piece ∷ pieces) members (e, h, p, xs, r, x) =
    let rest = piece_entries pieces xs r in
    record {
      entries = e ∷ rest.entries;
      formed = All-cons IsStateEntry e rest.entries h rest.formed;
      texts = ap (λ t. t ∷ pieces) p ∙ ap (λ l. state_entry_text e ∷ l) rest.texts;
      are = x ∙ ap (λ l. option_to_list e.member ++ l) rest.are ∙ sym (cons_is e.member (filter_map (λ l. l.member) rest.entries));
    }

pub lists_of : (text : List ℕ) (members : List StateMember) → ListsPieces (slice_split is_comma text) members → ListsMembers text members
lists_of text members h =
    let all = piece_entries (slice_split is_comma text) members h in
    record {
      entries = all.entries;
      formed = all.formed;
      whole = sym (join_with_byte-slice_split 44 text) ∙ ap (join_with_byte 44) all.texts;
      members_are = all.are;
    }

-- ---- a front of members

pub are_front : (front back : List StateMember) → AreStateMembers (front ++ back) → AreStateMembers front
are_front front back h =
    let long = length-append front back in
    record {
      few = omega (arith, h.few);
      distinct = λ i j d low high e.
          h.distinct i j d low (omega arith)
          (ap (λ (m : StateMember). m.key) (get_or_append_left front back d i (omega arith)) ∙ e ∙ sym (ap (λ (m : StateMember). m.key) (get_or_append_left front back d j high)));
    }

-- a piece of a text whose members are known makes a list of members with those before it
pub record NextPiece (piece : List ℕ) (held : List StateMember) : Type 0 where
  pub entry : StateEntry
  pub formed : IsStateEntry entry
  pub text : piece ≡ state_entry_text entry
  pub are : AreStateMembers (held ++ option_to_list entry.member)

next_front : (held behind more : List StateMember) (e : StateEntry) → behind ≡ option_to_list e.member ++ more → AreStateMembers (held ++ behind) → AreStateMembers (held ++ option_to_list e.member)
next_front held behind more e x h =
    let all : held ++ behind ≡ (held ++ option_to_list e.member) ++ more = ap (λ l. held ++ l) x ∙ sym (append_assoc held (option_to_list e.member) more) in
    are_front (held ++ option_to_list e.member) more (subst (λ l. AreStateMembers l) all h)

pub next_piece : (front : List (List ℕ)) (piece : List ℕ) (back : List (List ℕ)) (held members : List StateMember)
    → ListsPieces front held → ListsPieces (front ++ piece ∷ back) members → AreStateMembers members → NextPiece piece held
next_piece front piece back held members h k are =
    let apart = pieces_apart front (piece ∷ back) members k in
    let same = pieces_once front apart.before held apart.in_front h in
    let (e, g, p, xs, r, x) = apart.in_back in
    record {
      entry = e;
      formed = g;
      text = p;
      are = next_front held apart.behind xs e x (subst (λ l. AreStateMembers l) (apart.all ∙ ap (λ l. l ++ apart.behind) same) are);
    }

-- ---- what a piece has inside its blanks

pub piece_inside : (piece inside : List ℕ) (e : StateEntry) → Trims piece inside → IsStateEntry e → piece ≡ state_entry_text e → inside ≡ listed_member_text e.member
piece_inside piece inside e t h p = trims_once t (subst (λ l. Trims l (listed_member_text e.member)) (sym p) (entry_trims e h))

-- a member stands where something does
pub record StandsInside (inside : List ℕ) (o : Option StateMember) : Type 0 where
  pub member : StateMember
  pub formed : IsStateMember member
  pub text : inside ≡ state_member_text member
  pub is : o ≡ Some member

pub stands_inside : (inside : List ℕ) (o : Option StateMember) → IsListedMember o → inside ≢ [] → inside ≡ listed_member_text o → StandsInside inside o
stands_inside inside None h some e = absurd (some e)
stands_inside inside (Some m) h some e = record { member = m; formed = h; text = e; is = refl }

-- ---- pieces one by one

pub pieces_more : (pieces : List (List ℕ)) (n k : ℕ) (piece : List ℕ) (held new : List StateMember) → n < length pieces → piece ≡ get_or pieces n piece → k ≡ n + 1
    → ListsPieces (take n pieces) held → (e : StateEntry) × IsStateEntry e × (piece ≡ state_entry_text e) × (new ≡ held ++ option_to_list e.member) → ListsPieces (take k pieces) new
pieces_more pieces n k piece held new low is next h (e, g, p, x) =
    let front : take k pieces ≡ take n pieces ++ piece ∷ [] =
    ap (λ l. take l pieces) next ∙ take_more pieces n piece low ∙ ap (λ l. take n pieces ++ l ∷ []) (sym is) in
    subst (λ ps. ListsPieces ps new) (sym front) (subst (λ ms. ListsPieces (take n pieces ++ piece ∷ []) ms) (sym x) (pieces_push (take n pieces) held piece e h g p))

pub next_at : (pieces : List (List ℕ)) (n : ℕ) (piece : List ℕ) (held members : List StateMember) → n < length pieces → piece ≡ get_or pieces n piece
    → ListsPieces (take n pieces) held → ListsPieces pieces members → AreStateMembers members → NextPiece piece held
next_at pieces n piece held members low is h k are =
    let whole : pieces ≡ take n pieces ++ piece ∷ drop (n + 1) pieces =
    sym (take-append-drop n pieces) ∙ ap (λ l. take n pieces ++ l) (drop_more pieces n piece low ∙ ap (λ l. l ∷ drop (n + 1) pieces) (sym is)) in
    next_piece (take n pieces) piece (drop (n + 1) pieces) held members h (subst (λ ps. ListsPieces ps members) whole k) are

pub pieces_end : (pieces : List (List ℕ)) (n : ℕ) (held : List StateMember) → n ≡ length pieces → ListsPieces (take n pieces) held → ListsPieces pieces held
pieces_end pieces n held all h = subst (λ ps. ListsPieces ps held) (take_all n pieces (omega arith)) h
