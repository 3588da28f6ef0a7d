-- A `tracestate` has one list of members and one canonical text, which is its own and can stand as the value of a header.
use Rattle.std.proofs.Common.{◌≡◌, ℕ, List, [], ◌∷◌, ◌++◌, reverse, refl, sym, ap, subst, ◌∙◌, arith}
use Rattle.std.specs.Prelude.{All, map, filter_map, Option, Some, None}
use Rattle.std.specs.List.{cons_option, join_with_byte, slice_split}
use Rattle.std.proofs.lemmas.List.{append-nil}
use Rattle.std.proofs.lemmas.List.Elements.{All-cons, All-head, All-nil, All-same, All-tail}
use Rattle.propagation.specs.Blocks.{IsValueByte}
use Rattle.propagation.specs.Fronts.{BeginsWithout}
use Rattle.propagation.specs.Tracestate.{IsBlank, StateMember, IsStateMember, state_member_text, StateEntry, IsStateEntry, IsListedMember, state_entry_text, ListsMembers, tracestate_text, ReadsTracestate}
use Rattle.propagation.proofs.PieceLemmas.{is_comma, pieces_of, pieces_once}
use Rattle.propagation.proofs.StateTexts.{state_bytes, state_begins, state_ends}

pub members_once : {text : List ℕ} {xs ys : List StateMember} → ListsMembers text xs → ListsMembers text ys → xs ≡ ys
members_once {text} {xs} {ys} h k = pieces_once (slice_split is_comma text) xs ys (pieces_of text xs h) (pieces_of text ys k)

pub one_tracestate : {value a b : List ℕ} → ReadsTracestate value a → ReadsTracestate value b → a ≡ b
one_tracestate {value} {a} {b} (xs, h, _, e) (ys, k, _, f) = e ∙ ap tracestate_text (members_once h k) ∙ sym f

entry_member : (o : Option StateMember) (ms : List StateMember) → IsListedMember o → All IsStateMember ms → All IsStateMember (cons_option o ms)
entry_member None ms h k = k
entry_member (Some m) ms h k = All-cons IsStateMember m ms h k

entry_members : (es : List StateEntry) → All IsStateEntry es → All IsStateMember (filter_map (λ l. l.member) es)
entry_members [] h = All-nil IsStateMember
entry_members (e ∷ es) h =
    entry_member e.member (filter_map (λ l. l.member) es) (All-head IsStateEntry e es h).member (entry_members es (All-tail IsStateEntry e es h))

-- members that a text lists are of the form
pub listed_members : {text : List ℕ} {members : List StateMember} → ListsMembers text members → All IsStateMember members
listed_members {text} {members} h = All-same IsStateMember members (filter_map (λ l. l.member) h.entries) h.members_are (entry_members h.entries h.formed)

-- ---- the canonical text lists the members

alone : StateMember → StateEntry
alone m = record { before = []; member = Some m; after = [] }

alone_formed : (ms : List StateMember) → All IsStateMember ms → All IsStateEntry (map alone ms)
unfolding alone
alone_formed [] h = All-nil IsStateEntry
alone_formed (m ∷ ms) h =
    All-cons IsStateEntry (alone m) (map alone ms) (record { before = All-nil IsBlank; member = All-head IsStateMember m ms h; after = All-nil IsBlank })
    (alone_formed ms (All-tail IsStateMember m ms h))

alone_texts : (ms : List StateMember) → map state_member_text ms ≡ map state_entry_text (map alone ms)
unfolding alone
alone_texts [] = refl
alone_texts (m ∷ ms) = ap (λ t. t ∷ map state_member_text ms) (sym (append-nil (state_member_text m))) ∙ ap (λ l. (state_member_text m ++ []) ∷ l) (alone_texts ms)

alone_members : (ms : List StateMember) → ms ≡ filter_map (λ l. l.member) (map alone ms)
unfolding alone
alone_members [] = refl
alone_members (m ∷ ms) = ap (λ l. m ∷ l) (alone_members ms)

text_lists : (ms : List StateMember) → All IsStateMember ms → ListsMembers (tracestate_text ms) ms
text_lists ms h = record {
  entries = map alone ms;
  formed = alone_formed ms h;
  whole = ap (join_with_byte 44) (alone_texts ms);
  members_are = alone_members ms;
}

pub state_reads_back : {value state : List ℕ} → ReadsTracestate value state → ReadsTracestate state state
state_reads_back {value} {state} (ms, h, are, e) =
    (ms, subst (λ t. ListsMembers t ms) (sym e) (text_lists ms (listed_members h)), are, e)

-- the canonical text can stand as the value of a header
pub state_is_value : {value state : List ℕ} → ReadsTracestate value state → All IsValueByte state × BeginsWithout IsBlank state × BeginsWithout IsBlank (reverse state)
state_is_value {value} {state} (ms, h, are, e) =
    let formed = listed_members h in (
      All-same IsValueByte state (tracestate_text ms) e (state_bytes ms formed),
      subst (λ t. BeginsWithout IsBlank t) (sym e) (state_begins ms formed),
      subst (λ t. BeginsWithout IsBlank (reverse t)) (sym e) (state_ends ms formed),
    )

pub empty_state : ReadsTracestate [] []
empty_state = (
  [],
  record { entries = []; formed = All-nil IsStateEntry; whole = refl; members_are = refl },
  record { few = omega arith; distinct = λ i j d low high. absurd (omega arith) },
  refl,
)
