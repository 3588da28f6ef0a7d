-- What is asked of a service, and what its answer does.
use Rattle.std.specs.Prelude.{◌≡◌, ℕ, ◌≤◌, List, ◌++◌, length, IsTrue, MatchOption}
use Rattle.http_conn.specs.Replies.{is_status}
use Rattle.http_conn.specs.declared.next.Request.{Request}

-- A whole request is asked for: without a form it has the status of its answer, and its body lies in its bytes.
pub record IsAsked (request : Request) (bytes : List ℕ) : Type 0 where
  pub status : MatchOption request.form (IsTrue (is_status request.verdict)) (λ form. request.verdict ≡ 0)
  pub body : request.body_at ≤ length bytes

-- a list grew by the answer to the request that these bytes are
pub record Appends {S : Type 0} (answers : S → Request → List ℕ → List ℕ → S → Type 0) (first last : S) (request : Request)
    (bytes old new : List ℕ) : Type 0 where
  pub text : List ℕ
  pub answered : answers first request bytes text last
  pub grows : new ≡ old ++ text
