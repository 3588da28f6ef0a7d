-- The next request has one answer, which stays where it isn't in want of more bytes.
use Rattle.std.proofs.Common.{◌≡◌, ◌≢◌, ℕ, ◌+◌, ◌-◌, ◌<◌, ◌≤◌, Bool, true, false, cond, List, [], ◌++◌, length, take, Result, Ok, Err, IfOk, refl, sym, ap, subst, ◌∙◌, inl, inr, arith, append_assoc}
use Rattle.std.specs.Prelude.{nat_lt}
use Rattle.std.specs.Bool.{MatchBool}
use Rattle.std.proofs.lemmas.Bool.{false≢true}
use Rattle.std.proofs.lemmas.Bool.Decides.{nat_tests}
use Rattle.std.proofs.lemmas.List.{append-nil, length-append, length-take, take-append-le, take_all}
use Rattle.httparse.proofs.GrammarLemmas.{request_unique}
use Rattle.span_io.specs.declared.limits.Limits.{Limits}
use Rattle.http_conn.specs.Heads.{EndsAt, EndsFirstAt, EndsNowhere, has_lone_line_feed, has_too_many_lines}
use Rattle.http_conn.specs.NextRequests.{HasHead, HoldsKnown, IfNeed, IfWhole, IsNext, IsWithin, Knows, Tells, TellsByGrammar, next_by, request_of, unended}
use Rattle.http_conn.specs.declared.known.Known.{Known}
use Rattle.http_conn.specs.declared.known.Known.TheVariants.{Searched, Needs}
use Rattle.http_conn.specs.declared.next.Next.{Next}
use Rattle.http_conn.specs.declared.next.Next.TheVariants.{Need, Whole, Refuse}
use Rattle.http_conn.specs.declared.next.Request.{Request}
use Rattle.http_conn.proofs.EndLemmas.{at_most, below, ends_less, ends_more, first_in_window, first_once, window_fits}

-- ---- one answer

by_grammar_once : (limits : Limits) (head : List ℕ) (a b : Result Request ℕ) → TellsByGrammar limits head a → TellsByGrammar limits head b → a ≡ b
by_grammar_once limits head a b (inl x) (inl y) =
    let same = request_unique head x.0 y.0 [] [] x.1 y.1 in
    x.2 ∙ ap (λ h. request_of limits h (length head)) same.0 ∙ sym y.2
by_grammar_once limits head a b (inl x) (inr y) = absurd (y.0 x.0 x.1)
by_grammar_once limits head a b (inr x) (inl y) = absurd (x.0 y.0 y.1)
by_grammar_once limits head a b (inr x) (inr y) = x.1 ∙ sym y.1

tells_by : (limits : Limits) (head : List ℕ) (a b : Result Request ℕ) (lone many : Bool)
    → MatchBool lone (a ≡ Err 400) (MatchBool many (a ≡ Err 431) (TellsByGrammar limits head a))
    → MatchBool lone (b ≡ Err 400) (MatchBool many (b ≡ Err 431) (TellsByGrammar limits head b)) → a ≡ b
tells_by limits head a b true many x y = x ∙ sym y
tells_by limits head a b false true x y = x ∙ sym y
tells_by limits head a b false false x y = by_grammar_once limits head a b x y

pub tells_once : (limits : Limits) (head : List ℕ) (a b : Result Request ℕ) → Tells limits head a → Tells limits head b → a ≡ b
tells_once limits head a b x y = tells_by limits head a b (has_lone_line_feed head) (has_too_many_lines head) x y

pub one_next : (limits : Limits) (bytes : List ℕ) (a b : Next) → IsNext limits bytes a → IsNext limits bytes b → a ≡ b
one_next limits bytes a b (inl x) (inl y) =
    let same = first_once (take limits.head bytes) x.place y.place x.ends y.ends in
    let moved : Tells limits (take (y.place + 4) bytes) x.told = subst (λ p. Tells limits (take (p + 4) bytes) x.told) same x.tells in
    let told : x.told ≡ y.told = tells_once limits (take (y.place + 4) bytes) x.told y.told moved y.tells in
    x.next_is ∙ ap (next_by (length bytes)) told ∙ sym y.next_is
one_next limits bytes a b (inl x) (inr y) = absurd (y.nowhere x.place x.ends.ends)
one_next limits bytes a b (inr x) (inl y) = absurd (x.nowhere y.place y.ends.ends)
one_next limits bytes a b (inr x) (inr y) = x.next_is ∙ sym y.next_is

-- ---- more bytes

pub head_more : (limits : Limits) (bytes more : List ℕ) (place : ℕ) (told : Result Request ℕ)
    → EndsFirstAt (take limits.head bytes) place → Tells limits (take (place + 4) bytes) told
    → (next : Next) → next ≡ next_by (length (bytes ++ more)) told → HasHead limits (bytes ++ more) next
head_more limits bytes more place told ends tells next e = record {
  place = place;
  told = told;
  ends = first_in_window limits.head bytes more place ends;
  tells = subst (λ l. Tells limits l told) (sym (take-append-le (place + 4) bytes more (window_fits limits.head bytes place ends.ends))) tells;
  next_is = e;
}

need_not : (status : ℕ) → Need ≡ Refuse status → ⊥
need_not status e = cc

not_below : (n l : ℕ) → l ≤ n → nat_lt n l ≡ false
not_below n l h = grind (arith, nat_tests)

is_below : (n l : ℕ) → n < l → nat_lt n l ≡ true
is_below n l h = grind (arith, nat_tests)

whole_test : (n m l : ℕ) (request : Request) (next : Next) (b : Bool) → b ≡ nat_lt n l → next ≡ cond b Need (Whole request) → next ≢ Need → n ≤ m
    → next ≡ cond (nat_lt m l) Need (Whole request)
whole_test n m l request next true t e some le = absurd (some e)
whole_test n m l request next false t e some le =
    let low : l ≤ n = at_most n l (sym t) in
    let lower : l ≤ m = omega arith in
    e ∙ ap (λ b. cond b Need (Whole request)) (sym (not_below m l lower))

told_more : (n m : ℕ) (told : Result Request ℕ) (next : Next) → next ≡ next_by n told → next ≢ Need → n ≤ m → next ≡ next_by m told
told_more n m (Err status) next e some le = e
told_more n m (Ok request) next e some le = whole_test n m request.length request next (nat_lt n request.length) refl e some le

unended_full : (most n : ℕ) (next : Next) (b : Bool) → b ≡ nat_lt n most → next ≡ cond b Need (Refuse 431) → next ≢ Need → most ≤ n
unended_full most n next true t e some = absurd (some e)
unended_full most n next false t e some = at_most n most (sym t)

unended_is : (most n : ℕ) → most ≤ n → unended most n ≡ Refuse 431
unended_is most n le = ap (λ b. cond b Need (Refuse 431)) (not_below n most le)

pub next_stays : (limits : Limits) (bytes more : List ℕ) (next : Next) → IsNext limits bytes next → next ≢ Need → IsNext limits (bytes ++ more) next
next_stays limits bytes more next (inl x) some =
    inl (head_more limits bytes more x.place x.told x.ends x.tells next
    (told_more (length bytes) (length (bytes ++ more)) x.told next x.next_is some (omega (arith, length-append bytes more))))
next_stays limits bytes more next (inr x) some =
    let full : limits.head ≤ length bytes = unended_full limits.head (length bytes) next (nat_lt (length bytes) limits.head) refl x.next_is some in
    let full_more : limits.head ≤ length (bytes ++ more) = omega (arith, length-append bytes more) in
    inr (record {
      nowhere = subst (λ l. EndsNowhere l) (sym (take-append-le limits.head bytes more full)) x.nowhere;
      next_is = x.next_is ∙ unended_is limits.head (length bytes) full ∙ sym (unended_is limits.head (length (bytes ++ more)) full_more);
    })

-- ---- what is known

pub known_first : (limits : Limits) (bytes : List ℕ) → Knows limits bytes (Searched 0)
known_first limits bytes = λ more k before. absurd (omega arith)

pub known_more : (limits : Limits) (bytes more : List ℕ) (known : Known) → Knows limits bytes known → Knows limits (bytes ++ more) known
known_more limits bytes more known h = λ others. subst (λ l. HoldsKnown limits l known) (sym (append_assoc bytes more others)) (h (more ++ others))

pub known_searched : (limits : Limits) (bytes : List ℕ) → EndsNowhere (take limits.head bytes) → length bytes < limits.head
    → Knows limits bytes (Searched (length bytes - 3))
known_searched limits bytes nowhere few = λ more k before e.
    let fits : k + 4 ≤ length bytes = omega arith in
    nowhere k (subst (λ l. EndsAt l k) (sym (take_all limits.head bytes (omega arith))) (ends_less bytes more k fits e))

needs : (n l : ℕ) (request : Request) → n < l → Need ≡ cond (nat_lt n l) Need (Whole request)
needs n l request lt = ap (λ b. cond b Need (Whole request)) (sym (is_below n l lt))

module _ (limits : Limits) (bytes : List ℕ) (place : ℕ) (told : Result Request ℕ) (ends : EndsFirstAt (take limits.head bytes) place)
    (tells : Tells limits (take (place + 4) bytes) told) where
  known_needs : (request : Request) → told ≡ Ok request → Knows limits bytes (Needs request.length)
  known_needs request is = λ more few.
      inl (head_more limits bytes more place told ends tells Need
      (needs (length (bytes ++ more)) request.length request few ∙ ap (next_by (length (bytes ++ more))) (sym is)))

pub known_head : (limits : Limits) (bytes : List ℕ) (place : ℕ) (told : Result Request ℕ) (next : Next) (known : Known)
    → EndsFirstAt (take limits.head bytes) place → Tells limits (take (place + 4) bytes) told → next ≡ next_by (length bytes) told
    → IfNeed next (IfOk told (λ request. known ≡ Needs request.length)) → IfNeed next (Knows limits bytes known)
known_head limits bytes place told (Whole request) known ends tells e k = tt
known_head limits bytes place told (Refuse status) known ends tells e k = tt
known_head limits bytes place (Err status) Need known ends tells e k = absurd (need_not status e)
known_head limits bytes place (Ok request) Need known ends tells e k =
    subst (λ n. Knows limits bytes n) (sym k) (known_needs limits bytes place (Ok request) ends tells request refl)

-- ---- where a whole request lies

whole_within : (count at : ℕ) (q r : Request) (b : Bool) → b ≡ nat_lt count q.length → Whole r ≡ cond b Need (Whole q)
    → q.body_at ≡ at → at ≤ q.length → 0 < at → IsWithin count r
whole_within count at q r true t e body fits some = absurd (let k : Whole r ≡ Need = e in cc)
whole_within count at q r false t e body fits some =
    let wholes : Whole r ≡ Whole q = e in
    let same : r ≡ q = cc in
    subst (λ x. IsWithin count x) (sym same) (record { some = omega (arith, body); body = omega (arith, body); fits = at_most count q.length (sym t) })

pub within_head : (count at : ℕ) (told : Result Request ℕ) (next : Next) → next ≡ next_by count told
    → IfOk told (λ request. (request.body_at ≡ at) × (at ≤ request.length)) → 0 < at → IfWhole next (IsWithin count)
within_head count at told Need e h some = tt
within_head count at told (Refuse status) e h some = tt
within_head count at (Err status) (Whole r) e h some = absurd (let k : Whole r ≡ Refuse status = e in cc)
within_head count at (Ok q) (Whole r) e h some = whole_within count at q r (nat_lt count q.length) refl e h.0 h.1 some

-- ---- what a look at the bytes shows

pub record Looks (limits : Limits) (bytes : List ℕ) (next : Next) (known : Known) : Type 0 where
  pub is : IsNext limits bytes next
  pub within : IfWhole next (IsWithin (length bytes))
  pub known_now : IfNeed next (Knows limits bytes known)

pub looks_head : (limits : Limits) (bytes window head : List ℕ) (place : ℕ) (told : Result Request ℕ) (next : Next) (known : Known)
    → window ≡ take limits.head bytes → head ≡ take (place + 4) bytes → EndsFirstAt window place → Tells limits head told
    → IfOk told (λ request. (request.body_at ≡ length head) × (length head ≤ request.length))
    → next ≡ next_by (length bytes) told → IfNeed next (IfOk told (λ request. known ≡ Needs request.length)) → Looks limits bytes next known
looks_head limits bytes window head place told next known w h ends tells lies is needs =
    let first : EndsFirstAt (take limits.head bytes) place = subst (λ l. EndsFirstAt l place) w ends in
    let same : Tells limits (take (place + 4) bytes) told = subst (λ l. Tells limits l told) h tells in
    let fits : place + 4 ≤ length bytes = window_fits limits.head bytes place first.ends in
    let some : 0 < length head = omega (arith, ap length h, length-take (place + 4) bytes) in
    record {
      is = inl (record { place = place; told = told; ends = first; tells = same; next_is = is });
      within = within_head (length bytes) (length head) told next is lies some;
      known_now = known_head limits bytes place told next known first same is needs;
    }

unended_known : (limits : Limits) (bytes : List ℕ) (next : Next) (known : Known) (b : Bool) → b ≡ nat_lt (length bytes) limits.head
    → next ≡ cond b Need (Refuse 431) → EndsNowhere (take limits.head bytes) → known ≡ Searched (length bytes - 3) → IfNeed next (Knows limits bytes known)
unended_known limits bytes (Whole request) known b t e nowhere is = tt
unended_known limits bytes (Refuse status) known b t e nowhere is = tt
unended_known limits bytes Need known true t e nowhere is =
    subst (λ n. Knows limits bytes n) (sym is) (known_searched limits bytes nowhere (below (length bytes) limits.head (sym t)))
unended_known limits bytes Need known false t e nowhere is = absurd (need_not 431 e)

pub unended_within : (limits : Limits) (bytes : List ℕ) (next : Next) (b : Bool) → next ≡ cond b Need (Refuse 431) → IfWhole next (IsWithin (length bytes))
unended_within limits bytes (Whole request) true e = absurd (let k : Whole request ≡ Need = e in cc)
unended_within limits bytes (Whole request) false e = absurd (let k : Whole request ≡ Refuse 431 = e in cc)
unended_within limits bytes (Refuse status) b e = tt
unended_within limits bytes Need b e = tt

pub looks_without : (limits : Limits) (bytes window : List ℕ) (next : Next) (known : Known) → window ≡ take limits.head bytes → EndsNowhere window
    → next ≡ unended limits.head (length bytes) → known ≡ Searched (length bytes - 3) → Looks limits bytes next known
looks_without limits bytes window next known w nowhere is now =
    let none : EndsNowhere (take limits.head bytes) = subst (λ l. EndsNowhere l) w nowhere in
    record {
      is = inr (record { nowhere = none; next_is = is });
      within = unended_within limits bytes next (nat_lt (length bytes) limits.head) is;
      known_now = unended_known limits bytes next known (nat_lt (length bytes) limits.head) refl is none now;
    }

-- nothing more came than the request is known to need
pub looks_known : (limits : Limits) (bytes : List ℕ) (known : Known) (total : ℕ) → known ≡ Needs total → Knows limits bytes known → length bytes < total
    → IsNext limits bytes Need
looks_known limits bytes known total is h few =
    let held : HoldsKnown limits (bytes ++ []) (Needs total) = subst (λ n. HoldsKnown limits (bytes ++ []) n) is (h []) in
    subst (λ l. IsNext limits l Need) (append-nil bytes) (held (omega (arith, length-append bytes [])))

-- what is known of a place holds of the first bytes, too
pub place_known : (limits : Limits) (bytes : List ℕ) (known : Known) (place : ℕ) → known ≡ Searched place → Knows limits bytes known
    → (k : ℕ) → k < place → ¬ (EndsAt bytes k)
place_known limits bytes known place is h k before e =
    let held : HoldsKnown limits (bytes ++ []) (Searched place) = subst (λ n. HoldsKnown limits (bytes ++ []) n) is (h []) in
    held k before (ends_more bytes [] k e)

-- ---- what a head tells, step by step

module _ (limits : Limits) (head : List ℕ) (told : Result Request ℕ) where
  by_lone : (lone many : Bool) → lone ≡ true → told ≡ Err 400
      → MatchBool lone (told ≡ Err 400) (MatchBool many (told ≡ Err 431) (TellsByGrammar limits head told))
  by_lone true many t e = e
  by_lone false many t e = absurd (false≢true t)

  by_many : (lone many : Bool) → lone ≡ false → many ≡ true → told ≡ Err 431
      → MatchBool lone (told ≡ Err 400) (MatchBool many (told ≡ Err 431) (TellsByGrammar limits head told))
  by_many true many t s e = absurd (false≢true (sym t))
  by_many false true t s e = e
  by_many false false t s e = absurd (false≢true s)

  by_grammar : (lone many : Bool) → lone ≡ false → many ≡ false → TellsByGrammar limits head told
      → MatchBool lone (told ≡ Err 400) (MatchBool many (told ≡ Err 431) (TellsByGrammar limits head told))
  by_grammar true many t s e = absurd (false≢true (sym t))
  by_grammar false true t s e = absurd (false≢true (sym s))
  by_grammar false false t s e = e

  pub tells_lone : has_lone_line_feed head ≡ true → told ≡ Err 400 → Tells limits head told
  tells_lone t e = by_lone (has_lone_line_feed head) (has_too_many_lines head) t e

  pub tells_many : has_lone_line_feed head ≡ false → has_too_many_lines head ≡ true → told ≡ Err 431 → Tells limits head told
  tells_many t s e = by_many (has_lone_line_feed head) (has_too_many_lines head) t s e

  pub tells_grammar : has_lone_line_feed head ≡ false → has_too_many_lines head ≡ false → TellsByGrammar limits head told → Tells limits head told
  tells_grammar t s e = by_grammar (has_lone_line_feed head) (has_too_many_lines head) t s e
