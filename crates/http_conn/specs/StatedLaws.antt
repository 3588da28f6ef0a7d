-- What the laws of requests say.
use Rattle.std.specs.Prelude.{◌≡◌, ◌≢◌, ℕ, List, [], ◌++◌, length, IsTrue, MatchOption, ⊤}
use Rattle.span_io.specs.Limits.{AreLimits}
use Rattle.span_io.specs.declared.limits.Limits.{Limits}
use Rattle.http_conn.specs.NextRequests.{IfWhole, IsNext, IsWithin, Knows}
use Rattle.http_conn.specs.Replies.{is_status}
use Rattle.http_conn.specs.declared.known.Known.{Known}
use Rattle.http_conn.specs.declared.known.Known.TheVariants.{Searched}
use Rattle.http_conn.specs.declared.next.Next.{Next}
use Rattle.http_conn.specs.declared.next.Next.TheVariants.{Need, Whole, Refuse}

-- bytes have one answer, and one other than Need stays, whatever bytes come
pub record OneNextRequest : Type 0 where
  pub one : (limits : Limits) (bytes : List ℕ) (a b : Next) → IsNext limits bytes a → IsNext limits bytes b → a ≡ b
  pub stays : (limits : Limits) (bytes more : List ℕ) (next : Next) → IsNext limits bytes next → next ≢ Need
      → IsNext limits (bytes ++ more) next

-- nothing is known of bytes at first, and what is known stays known, whatever bytes come
pub record KnownStays : Type 0 where
  pub first : (limits : Limits) (bytes : List ℕ) → Knows limits bytes (Searched 0)
  pub stays : (limits : Limits) (bytes more : List ℕ) (known : Known) → Knows limits bytes known
      → Knows limits (bytes ++ more) known

-- A request without a form has the status of its answer, and a refusal has its own.
abbrev pub HasStatus : Next → Type 0
HasStatus Need = ⊤
HasStatus (Whole request) = MatchOption request.form (IsTrue (is_status request.verdict)) (λ form. request.verdict ≡ 0)
HasStatus (Refuse status) = IsTrue (is_status status)

-- a whole request lies in its bytes, each status is one that is written, and more is needed than nothing
pub record WholeRequests : Type 0 where
  pub within : (limits : Limits) (bytes : List ℕ) (next : Next) → IsNext limits bytes next
      → IfWhole next (IsWithin (length bytes))
  pub status : (limits : Limits) (bytes : List ℕ) (next : Next) → IsNext limits bytes next → HasStatus next
  pub none : (limits : Limits) → AreLimits limits → IsNext limits [] Need
