-- What a read from a place on gives.
use Rattle.std.proofs.Common.{◌≡◌, ℕ, ◌+◌, ◌-◌, ◌≤◌, ◌<◌, min, max, List, [], ◌++◌, length, take, drop, sym, ap, arith, ◌∙◌, take-append-drop, length-drop, length-append}
use Rattle.std.proofs.lemmas.List.{length-take-le, take_rest, drop-drop, drop_all}
use Rattle.std.proofs.Math.Seq.{take-append_seam}

-- the bytes that were given, at the buffer's front, and then the rest
pub gives_front : (rest buf given : List ℕ) (n : ℕ) → n ≤ length rest → given ≡ take n rest → rest ≡ take n (given ++ drop n buf) ++ drop n rest
gives_front rest buf given n h e =
    let long : length given ≡ n = ap length e ∙ length-take-le n rest h in
    let front : take n (given ++ drop n buf) ≡ take n rest = ap (λ k. take k (given ++ drop n buf)) (sym long) ∙ take-append_seam given (drop n buf) ∙ e in
    sym (ap (λ l. l ++ drop n rest) front ∙ take-append-drop n rest)

-- no byte is given to a buffer with room only where none is left
none_left : (rest given buf : List ℕ) (n room most cut : ℕ) → most ≡ max cut 1 → room ≡ min most (length buf) → n ≡ min room (length rest) → length given ≡ n → n ≡ 0
    → 0 < length (given ++ drop n buf) → length rest ≤ n
none_left rest given buf n room most cut p q r long none some = let some' = simp (length-append, length-drop) at some in omega arith

-- all that a read from a place on says
pub gives : (left bytes lent buf given : List ℕ) (place n room most cut : ℕ) → lent ≡ bytes → drop place bytes ≡ left → most ≡ max cut 1 → room ≡ min most (length buf)
    → n ≡ min room (length (take (length lent - place) (drop place lent))) → given ≡ take n (take (length lent - place) (drop place lent))
    → (left ≡ take n (given ++ drop n buf) ++ drop (place + n) bytes) × (n ≡ 0 → 0 < length (given ++ drop n buf) → drop (place + n) bytes ≡ [])
gives left bytes lent buf given place n room most cut same is_left most_is room_is n_is given_is =
    let rest : take (length lent - place) (drop place lent) ≡ drop place bytes = take_rest lent place ∙ ap (drop place) same in
    let long : n ≡ min room (length (drop place bytes)) = n_is ∙ ap (λ l. min room (length l)) rest in
    let within : n ≤ length (drop place bytes) = omega arith in
    let front : given ≡ take n (drop place bytes) = given_is ∙ ap (take n) rest in
    let first = gives_front (drop place bytes) buf given n within front in
    let later : drop n (drop place bytes) ≡ drop (place + n) bytes = drop-drop n place bytes in
    let given_long : length given ≡ n = ap length front ∙ length-take-le n (drop place bytes) within in (
      sym is_left ∙ first ∙ ap (λ l. take n (given ++ drop n buf) ++ l) later,
      λ none some. sym later ∙ drop_all n (drop place bytes) (none_left (drop place bytes) given buf n room most cut most_is room_is long given_long none some),
    )

-- a front that was turned to the end, and then cut off
pub turned_front : (old turned new : List ℕ) (count rest : ℕ) → count ≤ length old → rest ≡ length old - count → turned ≡ drop count old ++ take count old
    → new ≡ take rest turned → new ≡ drop count old
turned_front old turned new count rest h r e f =
    let n : rest ≡ length (drop count old) = omega (arith, r, length-drop count old) in
    f ∙ ap (take rest) e ∙ ap (λ k. take k (drop count old ++ take count old)) n ∙ take-append_seam (drop count old) (take count old)
