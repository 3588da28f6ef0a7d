-- What the laws of streams say.
use Rattle.std.specs.Prelude.{◌≡◌, ℕ, List}
use Rattle.span_io.specs.Limits.{AreLimits}
use Rattle.span_io.specs.declared.form.Form.{Form}
use Rattle.span_io.specs.declared.limits.Limits.{Limits}
use Rattle.span_gateway.specs.Streams.{AllAnswered, IsReplies}
use Rattle.conn_service.specs.declared.ended.Ended.{Ended}

-- a stream has one text of replies, and ends in one way; and the answers to its whole requests have one text
pub record OneReply : Type 0 where
  pub text : (to : Form) (limits : Limits) (stream a b : List ℕ) (x y : Ended) → AreLimits limits
      → IsReplies to limits stream a x → IsReplies to limits stream b y → (a ≡ b) × (x ≡ y)
  pub answers : (to : Form) (limits : Limits) (bytes a b : List ℕ) → AreLimits limits
      → AllAnswered to limits bytes a → AllAnswered to limits bytes b → a ≡ b
