-- What is left of worked orders and replies, computed.
use Rattle.std.proofs.Common.{◌≡◌, ℕ, List, [], ◌∷◌, Some, None, codes, true, false, take, refl}
use Rattle.span_io.specs.declared.form.Form.TheVariants.{ZipkinJson}
use Rattle.span_spool.specs.Orders.{accepted, acknowledged, left}
use Rattle.span_spool.specs.declared.kept.Kept.{Kept}
use Rattle.span_spool.specs.declared.order.Order.{Order}
use Rattle.span_spool.specs.declared.order.Order.TheVariants as orders
use Rattle.span_spool.specs.declared.order.Reply.{Reply}
use Rattle.span_spool.specs.declared.order.Reply.TheVariants as replies

abbrev first_body : Kept
first_body = record { number = 1; form = ZipkinJson; body = codes "[]" }

abbrev second_body : Kept
second_body = record { number = 2; form = ZipkinJson; body = codes "[1]" }

-- room for two: three bodies come, the first is read, another number is acknowledged, then its own
abbrev asked : List Order
asked = orders.Keep ZipkinJson (codes "[]") ∷ orders.Keep ZipkinJson (codes "[1]") ∷ orders.Keep ZipkinJson (codes "[2]") ∷ orders.First ∷ orders.Drop 2
    ∷ orders.Drop 1 ∷ orders.First ∷ []

abbrev told : List Reply
told = replies.Kept 1 ∷ replies.Kept 2 ∷ replies.Full ∷ replies.First (Some first_body) ∷ replies.Dropped false ∷ replies.Dropped true
    ∷ replies.First (Some second_body) ∷ []

both_accepted : accepted asked told ≡ first_body ∷ second_body ∷ []
both_accepted = refl

one_acknowledged : acknowledged asked told ≡ 1 ∷ []
one_acknowledged = refl

one_left : left asked told ≡ second_body ∷ []
one_left = refl

-- before the acknowledgement both are left, and a call that failed has no reply
both_left : left (take 5 asked) (take 5 told) ≡ first_body ∷ second_body ∷ []
both_left = refl

unanswered : left (take 1 asked) (replies.Kept 1 ∷ []) ≡ first_body ∷ []
unanswered = refl

nothing_left : left (orders.First ∷ orders.Drop 1 ∷ []) (replies.First None ∷ replies.Dropped false ∷ []) ≡ []
nothing_left = refl
