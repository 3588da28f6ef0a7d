-- What is known of every next request: where it lies, and which statuses there are.
use Rattle.std.proofs.Common.{◌≡◌, ℕ, ◌+◌, ◌≤◌, ◌<◌, Bool, true, false, cond, List, [], ◌∷◌, length, take, Option, Some, None, Result, Ok, Err, IfOk, refl, sym, subst, inl, inr, arith}
use Rattle.std.specs.Prelude.{IfErr, IsTrue, nat_le, nat_lt}
use Rattle.std.specs.Bool.{MatchBool}
use Rattle.std.specs.List.{list_any}
use Rattle.std.specs.Str.{bytes_eq}
use Rattle.std.specs.Str.Parse.{digits_value}
use Rattle.std.proofs.lemmas.List.{length-take}
use Rattle.httparse.specs.Grammar.{RequestHead}
use Rattle.span_io.specs.Limits.{AreLimits}
use Rattle.span_io.specs.declared.form.Form.{Form}
use Rattle.span_io.specs.declared.limits.Limits.{Limits}
use Rattle.http_conn.specs.Bodies.{body_length, is_length, length_by, post}
use Rattle.http_conn.specs.Fields.{Line, closes, is_named, lines_of, values, content_length, content_type, transfer_encoding}
use Rattle.http_conn.specs.Heads.{EndsAt, has_lone_line_feed, has_too_many_lines}
use Rattle.http_conn.specs.StatedLaws.{HasStatus}
use Rattle.http_conn.specs.NextRequests.{IfWhole, IsNext, IsWithin, TellsByGrammar, form_of, next_by, verdict_of, with_body}
use Rattle.http_conn.specs.Replies.{is_status}
use Rattle.http_conn.specs.Services.{form_at, form_by, form_taken, is_encoded, judged, or_unsupported, path_of, service_at}
use Rattle.http_conn.specs.declared.next.Next.{Next}
use Rattle.http_conn.specs.declared.next.Next.TheVariants.{Need, Whole, Refuse}
use Rattle.http_conn.specs.declared.next.Request.{Request}
use Rattle.http_conn.specs.declared.service.Service.{Service}
use Rattle.http_conn.proofs.EndLemmas.{at_most, ends_fit, window_fits}
use Rattle.http_conn.proofs.NextLemmas.{unended_within, within_head}

-- where it is an error, it is a status that is written
abbrev Known : {T : Type 0} → Result T ℕ → Type 0
Known result = IfErr result (λ status. IsTrue (is_status status))

-- ---- the length of a body

known_length : (most : ℕ) (value : List ℕ) (a b : Bool) → Known (cond a (cond b (Ok (digits_value 10 value)) (Err 413)) (Err 400))
known_length most value true true = tt
known_length most value true false = refl
known_length most value false b = refl

known_none : (b : Bool) → Known {T = ℕ} (cond b (Err 411) (Ok 0))
known_none true = refl
known_none false = tt

known_by : (most : ℕ) (method : List ℕ) (found : List (List ℕ)) → Known (length_by most method found)
known_by most method [] = known_none (bytes_eq method post)
known_by most method (value ∷ []) = known_length most value (is_length value) (nat_le (digits_value 10 value) most)
known_by most method (value ∷ other ∷ others) = refl

known_framing : (r : Result ℕ ℕ) (b : Bool) → Known r → Known (cond b (Err 501) r)
known_framing r true h = refl
known_framing r false h = h

known_body : (most : ℕ) (method : List ℕ) (lines : List Line) → Known (body_length most method lines)
known_body most method lines =
    known_framing (length_by most method (values content_length lines)) (list_any (is_named transfer_encoding) lines)
    (known_by most method (values content_length lines))

-- ---- the form of a body

known_taken : (form : Option Form) → Known (or_unsupported form)
known_taken None = refl
known_taken (Some form) = tt

known_form : (service : Service) (found : List (List ℕ)) → Known (form_by service found)
known_form service [] = refl
known_form service (value ∷ []) = known_taken (form_taken service value)
known_form service (value ∷ other ∷ others) = refl

known_posted : (r : Result Form ℕ) (a b : Bool) → Known r → Known (cond a (cond b (Err 415) r) (Err 405))
known_posted r true true h = refl
known_posted r true false h = h
known_posted r false b h = refl

known_at : (service : Option Service) (method : List ℕ) (lines : List Line) → Known (form_at service method lines)
known_at None method lines = refl
known_at (Some service) method lines =
    known_posted (form_by service (values content_type lines)) (bytes_eq method post) (is_encoded lines) (known_form service (values content_type lines))

-- ---- a request

-- a request whose form and verdict are these of its parts, or a status that is written; its body stands behind so many bytes
record IsKnown (at : ℕ) (told : Result Request ℕ) : Type 0 where
  status : Known told
  request : IfOk told (λ request. HasStatus (Whole request))
  lies : IfOk told (λ request. (request.body_at ≡ at) × (at ≤ request.length))

known_parts : (h : RequestHead) (at n : ℕ) (form : Result Form ℕ) → Known form → HasStatus (Whole (record {
  verdict = verdict_of form;
  form = form_of form;
  body_at = at;
  length = at + n;
  close = closes h.minor (lines_of h);
}))
known_parts h at n (Ok form) known = refl
known_parts h at n (Err status) known = known

known_with : (h : RequestHead) (at : ℕ) (body : Result ℕ ℕ) → Known body → IsKnown at (with_body h at body)
known_with h at (Err status) known = record { status = known; request = tt; lies = tt }
known_with h at (Ok n) known = record {
  status = tt;
  request = known_parts h at n (judged h.method h.target (lines_of h)) (known_at (service_at (path_of h.target)) h.method (lines_of h));
  lies = (refl, omega arith);
}

known_told : (limits : Limits) (head : List ℕ) (told : Result Request ℕ) (lone many : Bool)
    → MatchBool lone (told ≡ Err 400) (MatchBool many (told ≡ Err 431) (TellsByGrammar limits head told)) → IsKnown (length head) told
known_told limits head told true many e = subst (IsKnown (length head)) (sym e) (record { status = refl; request = tt; lies = tt })
known_told limits head told false true e = subst (IsKnown (length head)) (sym e) (record { status = refl; request = tt; lies = tt })
known_told limits head told false false (inl x) =
    subst (IsKnown (length head)) (sym x.2)
    (known_with x.0 (length head) (body_length limits.body x.0.method (lines_of x.0)) (known_body limits.body x.0.method (lines_of x.0)))
known_told limits head told false false (inr x) =
    subst (IsKnown (length head)) (sym x.1) (record { status = refl; request = tt; lies = tt })

-- ---- what is next

status_by : (came : ℕ) (request : Request) (b : Bool) → HasStatus (Whole request) → HasStatus (cond b Need (Whole request))
status_by came request true h = tt
status_by came request false h = h

status_told : (came at : ℕ) (told : Result Request ℕ) → IsKnown at told → HasStatus (next_by came told)
status_told came at (Err status) known = known.status
status_told came at (Ok request) known = status_by came request (nat_lt came request.length) known.request

status_unended : (b : Bool) → HasStatus (cond b Need (Refuse 431))
status_unended true = tt
status_unended false = refl

pub next_status : (limits : Limits) (bytes : List ℕ) (next : Next) → IsNext limits bytes next → HasStatus next
next_status limits bytes next (inl x) =
    let head = take (x.place + 4) bytes in
    subst HasStatus (sym x.next_is)
    (status_told (length bytes) (length head) x.told (known_told limits head x.told (has_lone_line_feed head) (has_too_many_lines head) x.tells))
next_status limits bytes next (inr x) = subst HasStatus (sym x.next_is) (status_unended (nat_lt (length bytes) limits.head))

pub next_within : (limits : Limits) (bytes : List ℕ) (next : Next) → IsNext limits bytes next → IfWhole next (IsWithin (length bytes))
next_within limits bytes next (inl x) =
    let head = take (x.place + 4) bytes in
    let known = known_told limits head x.told (has_lone_line_feed head) (has_too_many_lines head) x.tells in
    let fits : x.place + 4 ≤ length bytes = window_fits limits.head bytes x.place x.ends.ends in
    let some : 0 < length head = omega (arith, length-take (x.place + 4) bytes) in
    within_head (length bytes) (length head) x.told next x.next_is known.lies some
next_within limits bytes next (inr x) = unended_within limits bytes next (nat_lt (length bytes) limits.head) x.next_is

-- ---- nothing

none_ends : (n place : ℕ) → EndsAt (take n []) place → ⊥
none_ends n place e =
    let fits = ends_fit (take n []) place e in
    absurd (omega (arith, fits, length-take {A = ℕ} n []))

some_head : (head : ℕ) (b : Bool) → b ≡ nat_lt 0 head → 1 ≤ head → Need ≡ cond b Need (Refuse 431)
some_head head true t some = refl
some_head head false t some = absurd (omega (arith, at_most 0 head (sym t)))

pub none_needs : (limits : Limits) → AreLimits limits → IsNext limits [] Need
none_needs limits are = inr (record {
  nowhere = λ place e. none_ends limits.head place e;
  next_is = some_head limits.head (nat_lt 0 limits.head) refl are.head.0;
})
