-- What was found, place by place, as a loop goes over it.
use Rattle.std.proofs.Common.{◌≡◌, ℕ, zero, suc, ◌<◌, ◌≤◌, List, [], ◌∷◌, length, get_or, set, Option, option_map, Bor, ap, ◌∙◌, arith}
use Rattle.std.specs.List.{AllZip}
use Rattle.serde_json.specs.Data.{Data}
use Rattle.serde_json.specs.Find.{get}
use Rattle.json_nodes.specs.Lents.{lent_view as view}
use Rattle.json_nodes.specs.declared.lent.Lent.{Lent}
use Rattle.json_members.specs.Members.{unless_null, member}

abbrev pub IsGot : Data → Bor (List ℕ) → Option Lent → Type 0
IsGot d name o = option_map view o ≡ get name.now d

abbrev pub IsMember : Data → Bor (List ℕ) → Option Lent → Type 0
IsMember d name o = option_map view o ≡ member name.now d

-- the first places are the members', and the others hold what was got
abbrev pub AllUpTo : Data → ℕ → List (Bor (List ℕ)) → List (Option Lent) → Type 0
AllUpTo d zero names os = AllZip (IsGot d) names os
AllUpTo d (suc i) [] [] = Unit {0}
AllUpTo d (suc i) [] (o ∷ os) = ⊥
AllUpTo d (suc i) (n ∷ ns) [] = ⊥
AllUpTo d (suc i) (n ∷ ns) (o ∷ os) = IsMember d n o × AllUpTo d i ns os

one_more : (d : Data) (name : Bor (List ℕ)) (o p : Option Lent) → option_map view p ≡ unless_null (option_map view o) → IsGot d name o → IsMember d name p
unfolding member
one_more d name o p h got = h ∙ ap unless_null got

pub up_to_more : (d : Data) (i : ℕ) (names : List (Bor (List ℕ))) (os : List (Option Lent)) (e p : Option Lent) → i < length os → option_map view p ≡ unless_null (option_map view (get_or os i e)) → AllUpTo d i names os → AllUpTo d (suc i) names (set os i p)
up_to_more d zero [] [] e p h is all = absurd (omega arith)
up_to_more d zero [] (o ∷ os) e p h is all = all
up_to_more d zero (n ∷ ns) [] e p h is all = absurd (omega arith)
up_to_more d zero (n ∷ ns) (o ∷ os) e p h is all = (one_more d n o p is all.0, all.1)
up_to_more d (suc i) [] [] e p h is all = absurd (omega arith)
up_to_more d (suc i) [] (o ∷ os) e p h is all = elim all [ ]
up_to_more d (suc i) (n ∷ ns) [] e p h is all = elim all [ ]
up_to_more d (suc i) (n ∷ ns) (o ∷ os) e p h is all = (all.0, up_to_more d i ns os e p (omega arith) is all.1)

pub all_up_to : (d : Data) (i : ℕ) (names : List (Bor (List ℕ))) (os : List (Option Lent)) → length os ≤ i → AllUpTo d i names os → AllZip (IsMember d) names os
all_up_to d zero [] [] h all = tt
all_up_to d zero [] (o ∷ os) h all = elim all [ ]
all_up_to d zero (n ∷ ns) [] h all = elim all [ ]
all_up_to d zero (n ∷ ns) (o ∷ os) h all = absurd (omega arith)
all_up_to d (suc i) [] [] h all = tt
all_up_to d (suc i) [] (o ∷ os) h all = elim all [ ]
all_up_to d (suc i) (n ∷ ns) [] h all = elim all [ ]
all_up_to d (suc i) (n ∷ ns) (o ∷ os) h all = (all.0, all_up_to d i ns os (omega arith) all.1)
