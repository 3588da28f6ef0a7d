-- The first request of the bytes of a connection that have no answer yet (RFC 9112). Each step is looked at only where none
-- before it holds.
use Rattle.std.specs.Prelude.{◌≡◌, ◌⊎◌, ℕ, ◌+◌, ◌<◌, ◌≤◌, List, [], ◌++◌, length, take, if◌then◌else◌, nat_lt, Option, Some, None, Result, Ok, Err, ⊤}
use Rattle.std.specs.Bool.{MatchBool}
use Rattle.httparse.specs.Grammar.{RequestHead, ReadsRequest}
use Rattle.span_io.specs.declared.form.Form.{Form}
use Rattle.span_io.specs.declared.limits.Limits.{Limits}
use Rattle.http_conn.specs.Bodies.{body_length}
use Rattle.http_conn.specs.Fields.{closes, lines_of}
use Rattle.http_conn.specs.Heads.{EndsAt, EndsFirstAt, EndsNowhere, has_lone_line_feed, has_too_many_lines}
use Rattle.http_conn.specs.Services.{judged}
use Rattle.http_conn.specs.declared.known.Known.{Known}
use Rattle.http_conn.specs.declared.known.Known.TheVariants.{Searched, Needs}
use Rattle.http_conn.specs.declared.next.Next.{Next}
use Rattle.http_conn.specs.declared.next.Next.TheVariants.{Need, Whole, Refuse}
use Rattle.http_conn.specs.declared.next.Request.{Request}

-- the status of a verdict, 0 where there is a form
abbrev pub verdict_of : Result Form ℕ → ℕ
verdict_of (Ok form) = 0
verdict_of (Err status) = status

-- the form of the body, none where there is a status instead
abbrev pub form_of : Result Form ℕ → Option Form
form_of (Ok form) = Some form
form_of (Err status) = None

-- the request of a head of so many bytes
abbrev pub with_body : RequestHead → ℕ → Result ℕ ℕ → Result Request ℕ
with_body h at (Err status) = Err status
with_body h at (Ok n) =
    let verdict = judged h.method h.target (lines_of h) in
    Ok (record { verdict = verdict_of verdict; form = form_of verdict; body_at = at; length = at + n; close = closes h.minor (lines_of h) })

-- the request of a head, whose body begins at this place, or the status by which it is refused for its body
abbrev pub request_of : Limits → RequestHead → ℕ → Result Request ℕ
request_of limits h at = with_body h at (body_length limits.body h.method (lines_of h))

-- a head that the grammar doesn't have is refused
abbrev pub TellsByGrammar : Limits → List ℕ → Result Request ℕ → Type 0
TellsByGrammar limits head told =
    ((h : RequestHead) × ReadsRequest head h [] × (told ≡ request_of limits h (length head)))
    ⊎ (((h : RequestHead) → ¬ (ReadsRequest head h [])) × (told ≡ Err 400))

-- the request that a whole head tells, or the status of its refusal
abbrev pub Tells : Limits → List ℕ → Result Request ℕ → Type 0
Tells limits head told =
    MatchBool (has_lone_line_feed head) (told ≡ Err 400)
    (MatchBool (has_too_many_lines head) (told ≡ Err 431) (TellsByGrammar limits head told))

-- a request is whole where all its bytes came
abbrev pub next_by : ℕ → Result Request ℕ → Next
next_by came (Err status) = Refuse status
next_by came (Ok request) = if nat_lt came request.length then Need else Whole request

-- no head ends in these bytes: it is refused once they are as many as a head may have
abbrev pub unended : ℕ → ℕ → Next
unended most came = if nat_lt came most then Need else Refuse 431

-- a head ends behind the first CR LF CR LF
pub record HasHead (limits : Limits) (bytes : List ℕ) (next : Next) : Type 0 where
  pub place : ℕ
  pub told : Result Request ℕ
  pub ends : EndsFirstAt (take limits.head bytes) place
  pub tells : Tells limits (take (place + 4) bytes) told
  pub next_is : next ≡ next_by (length bytes) told

-- no head ends in as many of the bytes as a head may have: more are needed, or it is too long
pub record HasNoHead (limits : Limits) (bytes : List ℕ) (next : Next) : Type 0 where
  pub nowhere : EndsNowhere (take limits.head bytes)
  pub next_is : next ≡ unended limits.head (length bytes)

-- it is looked for in as many bytes as a head may have
abbrev pub IsNext : Limits → List ℕ → Next → Type 0
IsNext limits bytes next = HasHead limits bytes next ⊎ HasNoHead limits bytes next

-- no head ends at a place before this one; or the request isn't whole as long as there are less than so many bytes
abbrev pub HoldsKnown : Limits → List ℕ → Known → Type 0
HoldsKnown limits bytes (Searched place) = (k : ℕ) → k < place → ¬ (EndsAt bytes k)
HoldsKnown limits bytes (Needs total) = length bytes < total → IsNext limits bytes Need

-- it holds whatever bytes come
abbrev pub Knows : Limits → List ℕ → Known → Type 0
Knows limits bytes known = (more : List ℕ) → HoldsKnown limits (bytes ++ more) known

-- P, if the request isn't whole
abbrev pub IfNeed : Next → Type 0 → Type 0
IfNeed Need P = P
IfNeed (Whole request) P = ⊤
IfNeed (Refuse status) P = ⊤

-- P of the request, if it is whole
abbrev pub IfWhole : Next → (Request → Type 0) → Type 0
IfWhole Need P = ⊤
IfWhole (Whole request) P = P request
IfWhole (Refuse status) P = ⊤

-- a request lies in so many bytes, its body behind its head
pub record IsWithin (count : ℕ) (request : Request) : Type 0 where
  pub some : 0 < request.body_at
  pub body : request.body_at ≤ request.length
  pub fits : request.length ≤ count
