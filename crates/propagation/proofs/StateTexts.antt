-- The texts of members of a `tracestate`, and of those joined by commas.
use Rattle.std.proofs.Common.{◌≡◌, ◌≢◌, ℕ, ◌<◌, ◌≤◌, List, [], ◌∷◌, ◌++◌, length, reverse, refl, sym, ap, subst, ◌∙◌, inl, inr, arith}
use Rattle.std.specs.Prelude.{All, map, IsUtf8, IsOk, MatchResult, Result, Ok, Err}
use Rattle.std.specs.Int.{IsInRange}
use Rattle.std.specs.List.{join_with_byte}
use Rattle.std.proofs.lemmas.List.{append-nil, append_assoc, length-reverse, map_push, reverse-append}
use Rattle.std.proofs.lemmas.List.Elements.{All-append, All-cons, All-head, All-nil, All-same, All-tail, All-weaker}
use Rattle.std.proofs.lemmas.Str.{IsUtf8-from_ascii}
use Rattle.std.proofs.lemmas.Str.Ascii.{IsAscii-from_all}
use Rattle.propagation.specs.Blocks.{IsValueByte}
use Rattle.propagation.specs.Fronts.{BeginsWithout}
use Rattle.propagation.specs.Tracestate.{IsBlank, IsLowerLetter, IsKeyByte, IsTenantStart, IsWord, IsStateKey, IsStateByte, StateMember, IsStateMember, state_member_text, tracestate_text}
use Rattle.propagation.proofs.MemberLemmas.{letter_key, tenant_key, word_bytes}
use Rattle.propagation.proofs.TrimLemmas.{all_reverse}

-- a space or a visible character but ","
abbrev pub IsPlain : ℕ → Type 0
IsPlain c = IsInRange 0x20 0x7E c × (c ≢ 44)

-- ---- characters of members

key_plain : (c : ℕ) → IsKeyByte c → IsPlain c
key_plain c (inl h) = ((omega arith, omega arith), λ e. omega arith)
key_plain c (inr (inl h)) = ((omega arith, omega arith), λ e. omega arith)
key_plain c (inr (inr (inl h))) = ((omega arith, omega arith), λ e. omega arith)
key_plain c (inr (inr (inr (inl h)))) = ((omega arith, omega arith), λ e. omega arith)
key_plain c (inr (inr (inr (inr (inl h))))) = ((omega arith, omega arith), λ e. omega arith)
key_plain c (inr (inr (inr (inr (inr h))))) = ((omega arith, omega arith), λ e. omega arith)

at_sign_plain : IsPlain 64
at_sign_plain = ((omega arith, omega arith), λ e. omega arith)

equals_plain : IsPlain 61
equals_plain = ((omega arith, omega arith), λ e. omega arith)

plain_word : (text : List ℕ) → All IsKeyByte text → All IsPlain text
plain_word text h = All-weaker IsKeyByte IsPlain key_plain text h

state_key_bytes : (key : List ℕ) → IsStateKey key → All IsPlain key
state_key_bytes key (inl h) = plain_word key (word_bytes IsLowerLetter letter_key 255 key h)
state_key_bytes key (inr (tenant, system, a, b, e)) =
    let front = plain_word tenant (word_bytes IsTenantStart tenant_key 240 tenant a) in
    let back = plain_word system (word_bytes IsLowerLetter letter_key 13 system b) in
    All-same IsPlain key (tenant ++ 64 ∷ system) e (All-append IsPlain tenant (64 ∷ system) front (All-cons IsPlain 64 system at_sign_plain back))

value_byte_plain : (c : ℕ) → IsStateByte c → IsPlain c
value_byte_plain c h = (h.0, h.1)

pub member_plain : (m : StateMember) → IsStateMember m → All IsPlain (state_member_text m)
member_plain m h =
    All-append IsPlain m.key (61 ∷ m.value) (state_key_bytes m.key h.key)
    (All-cons IsPlain 61 m.value equals_plain (All-weaker IsStateByte IsPlain value_byte_plain m.value h.value.2))

-- ---- what they begin and end with

letter_no_blank : (c : ℕ) → IsLowerLetter c → ¬ (IsBlank c)
letter_no_blank c h (inl e) = omega arith
letter_no_blank c h (inr e) = omega arith

tenant_no_blank : (c : ℕ) → IsTenantStart c → ¬ (IsBlank c)
tenant_no_blank c (inl h) (inl e) = omega arith
tenant_no_blank c (inl h) (inr e) = omega arith
tenant_no_blank c (inr h) (inl e) = omega arith
tenant_no_blank c (inr h) (inr e) = omega arith

word_begins : (First : ℕ → Type 0) → ((c : ℕ) → First c → ¬ (IsBlank c)) → (most : ℕ) (text rest : List ℕ) → IsWord First most text → BeginsWithout IsBlank (text ++ rest)
word_begins First none most [] rest h = absurd h
word_begins First none most (c ∷ text) rest h = none c h.0

key_begins : (key rest : List ℕ) → IsStateKey key → BeginsWithout IsBlank (key ++ rest)
key_begins key rest (inl h) = word_begins IsLowerLetter letter_no_blank 255 key rest h
key_begins key rest (inr (tenant, system, a, b, e)) =
    let begins = word_begins IsTenantStart tenant_no_blank 240 tenant ((64 ∷ system) ++ rest) a in
    subst (λ t. BeginsWithout IsBlank t) (sym (ap (λ k. k ++ rest) e ∙ append_assoc tenant (64 ∷ system) rest)) begins

pub member_begins : (m : StateMember) (rest : List ℕ) → IsStateMember m → BeginsWithout IsBlank (state_member_text m ++ rest)
member_begins m rest h =
    subst (λ t. BeginsWithout IsBlank t) (sym (append_assoc m.key (61 ∷ m.value) rest)) (key_begins m.key ((61 ∷ m.value) ++ rest) h.key)

value_ends : (back rest : List ℕ) → 1 ≤ length back → All IsStateByte back → BeginsWithout (λ c. c ≡ 32) back → BeginsWithout IsBlank (back ++ rest)
value_ends [] rest some h k = absurd (omega arith)
value_ends (c ∷ back) rest some h k = last (All-head IsStateByte c back h)
  where
    last : IsStateByte c → ¬ (IsBlank c)
    last b (inl e) = k e
    last b (inr e) = omega arith

turned : (front : List ℕ) (c : ℕ) (back : List ℕ) → reverse (front ++ c ∷ back) ≡ reverse back ++ c ∷ reverse front
turned front c back =
    reverse-append front (c ∷ back) ∙ ap (λ l. l ++ reverse front) (reverse-append (c ∷ []) back) ∙ append_assoc (reverse back) (c ∷ []) (reverse front)

pub member_ends : (m : StateMember) → IsStateMember m → BeginsWithout IsBlank (reverse (state_member_text m))
member_ends m h =
    let some : 1 ≤ length (reverse m.value) = omega (arith, length-reverse m.value, h.value.0) in
    let ends = value_ends (reverse m.value) (61 ∷ reverse m.key) some (all_reverse IsStateByte m.value h.value.2) h.value.3 in
    subst (λ t. BeginsWithout IsBlank t) (sym (turned m.key 61 m.value)) ends

-- ---- members joined by commas

plain_value : (c : ℕ) → IsPlain c → IsValueByte c
plain_value c h = inl h.0

pub state_bytes : (ms : List StateMember) → All IsStateMember ms → All IsValueByte (tracestate_text ms)
state_bytes [] h = All-nil IsValueByte
state_bytes (m ∷ []) h = All-weaker IsPlain IsValueByte plain_value (state_member_text m) (member_plain m (All-head IsStateMember m [] h))
state_bytes (m ∷ n ∷ ms) h =
    let one = All-weaker IsPlain IsValueByte plain_value (state_member_text m) (member_plain m (All-head IsStateMember m (n ∷ ms) h)) in
    let more = state_bytes (n ∷ ms) (All-tail IsStateMember m (n ∷ ms) h) in
    All-append IsValueByte (state_member_text m) (44 ∷ tracestate_text (n ∷ ms)) one (All-cons IsValueByte 44 (tracestate_text (n ∷ ms)) (inl (omega arith, omega arith)) more)

pub state_begins : (ms : List StateMember) → All IsStateMember ms → BeginsWithout IsBlank (tracestate_text ms)
state_begins [] h = tt
state_begins (m ∷ []) h = subst (λ t. BeginsWithout IsBlank t) (append-nil (state_member_text m)) (member_begins m [] (All-head IsStateMember m [] h))
state_begins (m ∷ n ∷ ms) h = member_begins m (44 ∷ tracestate_text (n ∷ ms)) (All-head IsStateMember m (n ∷ ms) h)

comma_no_blank : ¬ (IsBlank 44)
comma_no_blank (inl e) = omega arith
comma_no_blank (inr e) = omega arith

ends_more : (back rest : List ℕ) → BeginsWithout IsBlank back → BeginsWithout IsBlank (back ++ 44 ∷ rest)
ends_more [] rest h = comma_no_blank
ends_more (c ∷ back) rest h = h

pub state_ends : (ms : List StateMember) → All IsStateMember ms → BeginsWithout IsBlank (reverse (tracestate_text ms))
state_ends [] h = tt
state_ends (m ∷ []) h = member_ends m (All-head IsStateMember m [] h)
state_ends (m ∷ n ∷ ms) h =
    let ends = state_ends (n ∷ ms) (All-tail IsStateMember m (n ∷ ms) h) in
    subst (λ t. BeginsWithout IsBlank t) (sym (turned (state_member_text m) 44 (tracestate_text (n ∷ ms))))
    (ends_more (reverse (tracestate_text (n ∷ ms))) (reverse (state_member_text m)) ends)

-- ---- one more member

some_text : (front back rest : List ℕ) → (front ++ 61 ∷ back) ++ rest ≡ [] → ⊥
some_text [] back rest e = cc
some_text (c ∷ front) back rest e = cc

-- only no members have an empty text
pub no_members : (ms : List StateMember) → tracestate_text ms ≡ [] → ms ≡ []
no_members [] e = refl
no_members (m ∷ []) e = absurd (some_text m.key m.value [] (append-nil (state_member_text m) ∙ e))
no_members (m ∷ n ∷ ms) e = absurd (some_text m.key m.value (44 ∷ tracestate_text (n ∷ ms)) e)

join_push : (c : ℕ) (x : List ℕ) (xs : List (List ℕ)) (y : List ℕ) → join_with_byte c (x ∷ (xs ++ y ∷ [])) ≡ join_with_byte c (x ∷ xs) ++ c ∷ y
join_push c x [] y = refl
join_push c x (z ∷ xs) y = ap (λ l. x ++ c ∷ l) (join_push c z xs y) ∙ sym (append_assoc x (c ∷ join_with_byte c (z ∷ xs)) (c ∷ y))

pub state_push : (ms : List StateMember) (m : StateMember) → ms ≢ [] → tracestate_text (ms ++ m ∷ []) ≡ (tracestate_text ms ++ 44 ∷ []) ++ state_member_text m
state_push [] m some = absurd (some refl)
state_push (n ∷ ms) m some =
    ap (λ l. join_with_byte 44 (state_member_text n ∷ l)) (map_push state_member_text ms m) ∙ join_push 44 (state_member_text n) (map state_member_text ms) (state_member_text m)
    ∙ sym (append_assoc (tracestate_text (n ∷ ms)) (44 ∷ []) (state_member_text m))

-- the text with one more member, by way of the comma before it
pub joined_more : (ms : List StateMember) (m : StateMember) (old mid new : List ℕ) → old ≡ tracestate_text ms
    → (old ≡ [] → mid ≡ []) → (old ≢ [] → mid ≡ old ++ 44 ∷ []) → new ≡ mid ++ state_member_text m → new ≡ tracestate_text (ms ++ m ∷ [])
joined_more [] m old mid new h first more e = e ∙ ap (λ l. l ++ state_member_text m) (first h)
joined_more (n ∷ ms) m old mid new h first more e =
    let none : (n ∷ ms) ≢ [] = (λ k. cc) in
    let some : old ≢ [] = (λ k. none (no_members (n ∷ ms) (sym h ∙ k))) in
    e ∙ ap (λ l. l ++ state_member_text m) (more some ∙ ap (λ l. l ++ 44 ∷ []) h) ∙ sym (state_push (n ∷ ms) m none)

-- ---- members as text in UTF-8

plain_ascii : (c : ℕ) → IsPlain c → c < 128
plain_ascii c h = omega arith

pub key_ascii : (m : StateMember) → IsStateMember m → All (λ c. c < 128) m.key
key_ascii m h = All-weaker IsPlain (λ c. c < 128) plain_ascii m.key (state_key_bytes m.key h.key)

pub value_ascii : (m : StateMember) → IsStateMember m → All (λ c. c < 128) m.value
value_ascii m h = All-weaker IsPlain (λ c. c < 128) plain_ascii m.value (All-weaker IsStateByte IsPlain value_byte_plain m.value h.value.2)

pub ascii_text : {A E : Type 0} (P : A → Type 0) (Q : E → Type 0) (text : List ℕ) (r : Result A E) → All (λ c. c < 128) text
    → MatchResult r (λ s. P s × IsUtf8 text) (λ e. ¬ (IsUtf8 text) × Q e) → IsOk r
ascii_text P Q text (Ok s) h m = refl
ascii_text P Q text (Err e) h m = absurd (m.0 (IsUtf8-from_ascii text (IsAscii-from_all text h)))
