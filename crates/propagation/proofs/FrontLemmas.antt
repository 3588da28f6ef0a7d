-- A text leads with characters of one kind in one way.
use Rattle.std.proofs.Common.{◌≡◌, ℕ, List, [], ◌∷◌, ◌++◌, refl, sym, ◌∙◌}
use Rattle.std.specs.Prelude.{All}
use Rattle.std.proofs.lemmas.List.{append-nil}
use Rattle.std.proofs.lemmas.List.Elements.{All-head, All-tail}
use Rattle.propagation.specs.Fronts.{BeginsWithout, Leads}

pub lead_once : (Kind : ℕ → Type 0) (f r g s : List ℕ) → f ++ r ≡ g ++ s → All Kind f → All Kind g → BeginsWithout Kind r → BeginsWithout Kind s → (f ≡ g) × (r ≡ s)
lead_once Kind [] r [] s e h k p q = (refl, e)
lead_once Kind [] [] (y ∷ g) s e h k p q = cc
lead_once Kind [] (c ∷ r) (y ∷ g) s e h k p q =
    let same : c ≡ y = cc in
    absurd (p (rw same (All-head Kind y g k)))
lead_once Kind (x ∷ f) r [] [] e h k p q = cc
lead_once Kind (x ∷ f) r [] (c ∷ s) e h k p q =
    let same : c ≡ x = cc in
    absurd (q (rw same (All-head Kind x f h)))
lead_once Kind (x ∷ f) r (y ∷ g) s e h k p q =
    let first : x ≡ y = cc in
    let behind : f ++ r ≡ g ++ s = cc in
    let more = lead_once Kind f r g s behind (All-tail Kind x f h) (All-tail Kind y g k) p q in
    let fronts : f ≡ g = more.0 in
    (cc, more.1)

-- whatever front of the kind a text has that ends with it
pub leads_to : {Kind : ℕ → Type 0} {text f r : List ℕ} (front rest : List ℕ) → Leads Kind text f r → All Kind front → BeginsWithout Kind rest → text ≡ front ++ rest → (f ≡ front) × (r ≡ rest)
leads_to {Kind} {text} {f} {r} front rest lead kind ended whole = lead_once Kind f r front rest (sym lead.whole ∙ whole) lead.kind kind lead.ended ended

-- a text all of the kind leads with itself
pub leads_all : {Kind : ℕ → Type 0} {text f r : List ℕ} → Leads Kind text f r → All Kind text → (f ≡ text) × (r ≡ [])
leads_all {Kind} {text} {f} {r} lead kind = lead_once Kind f r text [] (sym lead.whole ∙ sym (append-nil text)) lead.kind kind lead.ended tt

-- what leads a text that has nothing behind it is the text
pub leads_whole : {Kind : ℕ → Type 0} {text f r : List ℕ} → Leads Kind text f r → r ≡ [] → text ≡ f
leads_whole {Kind} {text} {f} {r} lead e = let whole = rw e at lead.whole in whole ∙ append-nil f

-- a text begins with one character
pub first_once : (text : List ℕ) (c d : ℕ) (more rest : List ℕ) → text ≡ c ∷ more → text ≡ d ∷ rest → c ≡ d
first_once text c d more rest e f = let same = sym e ∙ f in cc
