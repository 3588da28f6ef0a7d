-- Orders with their replies: what was accepted, what was acknowledged, and what is left.
use Rattle.std.specs.Prelude.{ℕ, ◌==◌, Bool, true, not, List, [], ◌∷◌, ◌++◌, Option, Some, None, option_to_list}
use Rattle.std.specs.List.{filter, list_any}
use Rattle.span_spool.specs.declared.kept.Kept.{Kept}
use Rattle.span_spool.specs.declared.order.Order.{Order}
use Rattle.span_spool.specs.declared.order.Order.TheVariants as orders
use Rattle.span_spool.specs.declared.order.Reply.{Reply}
use Rattle.span_spool.specs.declared.order.Reply.TheVariants as replies

-- the body that an order had accepted, with its number
abbrev pub body_of : Order → Reply → Option Kept
body_of (orders.Keep form body) (replies.Kept n) = Some (record { number = n; form = form; body = body })
body_of order reply = None

-- the number that an order acknowledged
abbrev pub number_of : Order → Reply → Option ℕ
number_of (orders.Drop n) (replies.Dropped true) = Some n
number_of order reply = None

-- what orders with their replies give, in order
abbrev pub gathered : {X : Type 0} → (Order → Reply → Option X) → List Order → List Reply → List X
gathered by [] replies = []
gathered by (order ∷ orders) [] = []
gathered by (order ∷ orders) (reply ∷ replies) = option_to_list (by order reply) ++ gathered by orders replies

-- the bodies that were accepted, with their numbers, in the order in which they were
abbrev pub accepted : List Order → List Reply → List Kept
accepted = gathered body_of

-- the numbers that were acknowledged, those of the rows that a call dropped, in the order in which they were
abbrev pub acknowledged : List Order → List Reply → List ℕ
acknowledged = gathered number_of

-- no number is that of this row
abbrev pub is_not_among : List ℕ → Kept → Bool
is_not_among numbers row = not (list_any (λ n. n == row.number) numbers)

-- the accepted bodies whose number isn't acknowledged
abbrev pub left : List Order → List Reply → List Kept
left orders replies = filter (is_not_among (acknowledged orders replies)) (accepted orders replies)
