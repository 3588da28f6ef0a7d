-- Where each clone equals its element, the clones are the list.
use Rattle.std.proofs.Common.{◌≡◌, List, [], ◌∷◌, refl, ap, subst, ◌∙◌}
use Rattle.std.specs.List.{AllZip}
use Rattle.std.proofs.lemmas.List.Elements.{Contains-append_left, Contains-append_right, Contains-push}
use Rattle.span_io.specs.Clones.{ClonesEqual}

pub same_from_clones : {X : Type 0} (R : X → X → Type 0) (xs ys : List X) → AllZip R xs ys → ClonesEqual R xs → ys ≡ xs
same_from_clones R [] [] zip same = refl
same_from_clones R [] (y ∷ ys) zip same = absurd zip
same_from_clones R (x ∷ xs) [] zip same = absurd zip
same_from_clones R (x ∷ xs) (y ∷ ys) zip same =
    let head : y ≡ x = same x y (Contains-append_left (x ∷ []) xs x (Contains-push [] x)) zip.0 in
    let tail : ys ≡ xs = same_from_clones R xs ys zip.1 (λ a b h r. same a b (Contains-append_right (x ∷ []) xs a h) r) in
    ap (λ a. a ∷ ys) head ∙ ap (λ l. x ∷ l) tail

-- the copies of a list that was lent
pub same_copy : {X : Type 0} (R : X → X → Type 0) (lent inside seen copies : List X) → lent ≡ inside → inside ≡ seen → AllZip R lent copies → ClonesEqual R seen → copies ≡ seen
same_copy R lent inside seen copies p q zip same =
    let e : lent ≡ seen = p ∙ q in
    same_from_clones R seen copies (subst (λ l. AllZip R l copies) e zip) same
