-- What the laws of replies by outcomes say.
use Rattle.std.specs.Prelude.{◌≡◌, ℕ, Bool, List}
use Rattle.span_io.specs.Limits.{AreLimits}
use Rattle.span_io.specs.declared.form.Form.{Form}
use Rattle.span_io.specs.declared.limits.Limits.{Limits}
use Rattle.conn_service.specs.declared.ended.Ended.{Ended}
use Rattle.span_relay.specs.RelayReplies.{FirstOffers, Offer, RelayReplies, outcomes_of}

-- a stream has by its outcomes one text of replies, and ends in one way; and the first good requests of bytes, as many as these
-- outcomes, have one list of texts
pub record OneRelayReply : Type 0 where
  pub text : (to : Form) (limits : Limits) (stream : List ℕ) (outcomes : List Bool) (a b : List ℕ) (x y : Ended)
      → AreLimits limits
      → RelayReplies to limits stream outcomes a x → RelayReplies to limits stream outcomes b y → (a ≡ b) × (x ≡ y)
  pub offers : (to : Form) (limits : Limits) (bytes : List ℕ) (f g : List Offer) → AreLimits limits
      → FirstOffers to limits bytes f → FirstOffers to limits bytes g → outcomes_of f ≡ outcomes_of g → f ≡ g
