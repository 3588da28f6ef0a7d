-- What agrees does so both ways round, means the same, and the same offends in it.
use Rattle.std.proofs.Common.{◌≡◌, ℕ, zero, suc, List, [], ◌∷◌, Option, Some, None, is_some, refl, sym, subst}
use Rattle.std.specs.List.{AllZip}
use Rattle.serde_json.specs.Data.{Data}
use Rattle.serde_json.specs.Find.{as_array, as_object}
use Rattle.span_io.specs.Paths.{Offences, nothing, ◌▹◌, optional, each, valued, Given, OfKind}
use Rattle.json_members.specs.Agreement.{Agreement, same, both_or_neither, KnownMember, members_agree, objects_agree, arrays_agree}
use Rattle.json_members.specs.Members.{member, elements, AreHeld, elements_offend}
use Rattle.json_members.specs.Parts.{joined, object_offends}

-- ---- both ways round

abbrev pub AgreesBothWays : {A : Type 0} → (A → A → Type 0) → Type 0
AgreesBothWays {A} Agree = (x y : A) → Agree x y → Agree y x

pub same_turns : AgreesBothWays same
same_turns v w e = sym e

both_turn : {A : Type 0} (Agree : A → A → Type 0) → AgreesBothWays Agree → AgreesBothWays (both_or_neither Agree)
both_turn Agree turns None None h = tt
both_turn Agree turns None (Some y) h = h
both_turn Agree turns (Some x) None h = h
both_turn Agree turns (Some x) (Some y) h = turns x y h

abbrev pub AllTurn : List KnownMember → Type 0
AllTurn [] = Unit {0}
AllTurn ((name, Agree) ∷ known) = AgreesBothWays Agree × AllTurn known

members_turn : (known : List KnownMember) → AllTurn known → AgreesBothWays (members_agree known)
members_turn [] turn v w h = tt
members_turn ((name, Agree) ∷ known) turn v w h = (both_turn Agree turn.0 (member name v) (member name w) h.0, members_turn known turn.1 v w h.1)

pub objects_turn : (known : List KnownMember) → AllTurn known → AgreesBothWays (objects_agree known)
objects_turn known turn v w h = (sym h.0, members_turn known turn v w h.1)

zip_turns : (Agree : Agreement) → AgreesBothWays Agree → (ds es : List Data) → AllZip Agree ds es → AllZip Agree es ds
zip_turns Agree turns [] [] h = tt
zip_turns Agree turns [] (e ∷ es) h = absurd h
zip_turns Agree turns (d ∷ ds) [] h = absurd h
zip_turns Agree turns (d ∷ ds) (e ∷ es) h = (turns d e h.0, zip_turns Agree turns ds es h.1)

pub arrays_turn : (Agree : Agreement) → AgreesBothWays Agree → AgreesBothWays (arrays_agree Agree)
arrays_turn Agree turns v w h =
    both_turn (λ ds es. AllZip Agree (elements ds) (elements es)) (λ ds es k. zip_turns Agree turns (elements ds) (elements es) k) (as_array v) (as_array w) h

-- ---- what is the same

pub found_same : (o p : Option Data) → both_or_neither same o p → o ≡ p
found_same None None h = refl
found_same None (Some e) h = absurd h
found_same (Some d) None h = absurd h
found_same (Some d) (Some e) h = let is : d ≡ e = h in rw is refl

-- ---- what is meant

abbrev pub MeanAlike : {X D : Type 0} → (X → D → Type 0) → (D → D → Type 0) → Type 0
MeanAlike {X} {D} Means Agree = (d e : D) → Agree d e → (x : X) → Means x d → Means x e

-- a member, which may be absent
pub given_alike : {X : Type 0} (Means : X → Data → Type 0) (IsDefault : X → Type 0) (Agree : Agreement) → MeanAlike Means Agree
    → (o p : Option Data) → both_or_neither Agree o p → (x : X) → Given Means IsDefault x o → Given Means IsDefault x p
given_alike Means IsDefault Agree alike None None h x is = is
given_alike Means IsDefault Agree alike None (Some e) h x is = absurd h
given_alike Means IsDefault Agree alike (Some d) None h x is = absurd h
given_alike Means IsDefault Agree alike (Some d) (Some e) h x is = alike d e h x is

-- and one of which the two hold the same
pub given_same : {X : Type 0} (Means : X → Data → Type 0) (IsDefault : X → Type 0) (o p : Option Data) → both_or_neither same o p
    → (x : X) → Given Means IsDefault x o → Given Means IsDefault x p
given_same Means IsDefault o p h x is = subst (λ (q : Option Data). Given Means IsDefault x q) (found_same o p h) is

zip_alike : {X : Type 0} (Means : X → Data → Type 0) (Agree : Agreement) → MeanAlike Means Agree → (ds es : List Data) → AllZip Agree ds es
    → (xs : List X) → AllZip (λ d x. Means x d) ds xs → AllZip (λ d x. Means x d) es xs
zip_alike Means Agree alike [] [] h xs are = are
zip_alike Means Agree alike [] (e ∷ es) h xs are = absurd h
zip_alike Means Agree alike (d ∷ ds) [] h xs are = absurd h
zip_alike Means Agree alike (d ∷ ds) (e ∷ es) h [] are = absurd are
zip_alike Means Agree alike (d ∷ ds) (e ∷ es) h (x ∷ xs) are = (alike d e h.0 x are.0, zip_alike Means Agree alike ds es h.1 xs are.1)

kind_alike : {X K : Type 0} (M : X → K → Type 0) (Agree : K → K → Type 0) → MeanAlike M Agree
    → (o p : Option K) → both_or_neither Agree o p → (x : X) → OfKind M x o → OfKind M x p
kind_alike M Agree alike None p h x is = let e = is.shape in cc
kind_alike M Agree alike (Some k) None h x is = absurd h
kind_alike {X} {K} M Agree alike (Some k) (Some l) h x is =
    let shape = is.shape in
    let e : is.held ≡ k = cc in
    record { held = l; shape = refl; means = alike k l h x (subst (λ (m : K). M x m) e is.means) }

-- an array, by what its elements mean
pub array_alike : {X : Type 0} (Means : X → Data → Type 0) (Agree : Agreement) → MeanAlike Means Agree
    → MeanAlike (AreHeld Means) (arrays_agree Agree)
array_alike Means Agree alike v w h xs are =
    kind_alike (λ ys ds. AllZip (λ inner y. Means y inner) (elements ds) ys) (λ ds es. AllZip Agree (elements ds) (elements es))
    (λ ds es k ys each. zip_alike Means Agree alike (elements ds) (elements es) k ys each) (as_array v) (as_array w) h xs are

-- members that are objects, and lists of objects
module _ {X : Type 0} (Means : X → Data → Type 0) (known : List KnownMember) (alike : MeanAlike Means (objects_agree known)) (o p : Option Data) where
  pub object_alike : both_or_neither (objects_agree known) o p → (default x : X)
      → Given Means (λ y. y ≡ default) x o → Given Means (λ y. y ≡ default) x p
  object_alike h default x is = given_alike Means (λ y. y ≡ default) (objects_agree known) alike o p h x is

  pub list_alike : both_or_neither (arrays_agree (objects_agree known)) o p → (xs : List X)
      → Given (AreHeld Means) (λ ys. ys ≡ []) xs o → Given (AreHeld Means) (λ ys. ys ≡ []) xs p
  list_alike h xs are =
      given_alike (AreHeld Means) (λ ys. ys ≡ []) (arrays_agree (objects_agree known)) (array_alike Means (objects_agree known) alike) o p h xs are

-- ---- what offends

abbrev pub OffendAlike : Offences → Offences → Type 0
OffendAlike First Second = (path : List ℕ) (number : ℕ) → First path number → Second path number

abbrev pub OffencesAlike : (Data → Offences) → Agreement → Type 0
OffencesAlike Offends Agree = (d e : Data) → Agree d e → OffendAlike (Offends d) (Offends e)

pub nothing_alike : OffendAlike nothing nothing
nothing_alike path number offends = offends

pub two_alike : {First Others Second Rest : Offences} → OffendAlike First Second → OffendAlike Others Rest
    → OffendAlike (First ▹ Others) (Second ▹ Rest)
unfolding ◌▹◌
two_alike first others [] number offends = others [] number offends
two_alike first others (zero ∷ path) number offends = first path number offends
two_alike first others (suc i ∷ path) number offends = others (i ∷ path) number offends

-- members of which the two hold the same
pub same_alike : (Offends : Option Data → Offences) (o p : Option Data) → both_or_neither same o p → OffendAlike (Offends o) (Offends p)
same_alike Offends o p h path number offends = subst (λ (q : Option Data). Offends q path number) (found_same o p h) offends

pub optional_alike : (Offends : Data → Offences) (Agree : Agreement) → OffencesAlike Offends Agree
    → (o p : Option Data) → both_or_neither Agree o p → OffendAlike (optional Offends o) (optional Offends p)
optional_alike Offends Agree alike None None h = nothing_alike
optional_alike Offends Agree alike None (Some e) h = absurd h
optional_alike Offends Agree alike (Some d) None h = absurd h
optional_alike Offends Agree alike (Some d) (Some e) h = alike d e h

pub each_alike : (Offends : Data → Offences) (Agree : Agreement) → OffencesAlike Offends Agree
    → (ds es : List Data) → AllZip Agree ds es → OffendAlike (each Offends ds) (each Offends es)
each_alike Offends Agree alike [] [] h = nothing_alike
each_alike Offends Agree alike [] (e ∷ es) h = absurd h
each_alike Offends Agree alike (d ∷ ds) [] h = absurd h
each_alike Offends Agree alike (d ∷ ds) (e ∷ es) h = two_alike (alike d e h.0) (each_alike Offends Agree alike ds es h.1)

-- a value that must be of a kind
pub valued_alike : {K : Type 0} (Offends : K → Offences) (Agree : K → K → Type 0) → ((k l : K) → Agree k l → OffendAlike (Offends k) (Offends l))
    → (o p : Option K) → both_or_neither Agree o p → OffendAlike (valued Offends o) (valued Offends p)
valued_alike Offends Agree alike None None h path number offends = offends
valued_alike Offends Agree alike None (Some l) h path number offends = absurd h
valued_alike Offends Agree alike (Some k) None h path number offends = absurd h
valued_alike Offends Agree alike (Some k) (Some l) h path number offends = alike k l h path number offends

pub array_offends_alike : (Offends : Data → Offences) (Agree : Agreement) → OffencesAlike Offends Agree
    → OffencesAlike (elements_offend Offends) (arrays_agree Agree)
array_offends_alike Offends Agree alike v w h =
    valued_alike (λ ds. each Offends (elements ds)) (λ ds es. AllZip Agree (elements ds) (elements es))
    (λ ds es k. each_alike Offends Agree alike (elements ds) (elements es) k) (as_array v) (as_array w) h

module _ (Offends : Data → Offences) (known : List KnownMember) (alike : OffencesAlike Offends (objects_agree known)) (o p : Option Data) where
  pub object_offence_alike : both_or_neither (objects_agree known) o p → OffendAlike (optional Offends o) (optional Offends p)
  object_offence_alike h = optional_alike Offends (objects_agree known) alike o p h

  pub list_offence_alike : both_or_neither (arrays_agree (objects_agree known)) o p
      → OffendAlike (optional (elements_offend Offends) o) (optional (elements_offend Offends) p)
  list_offence_alike h =
      optional_alike (elements_offend Offends) (arrays_agree (objects_agree known)) (array_offends_alike Offends (objects_agree known) alike) o p h

-- an object, by what offends in its members
pub object_offends_alike : {K : Type 0} (First Second : Offences) (o p : Option K) → is_some o ≡ is_some p → OffendAlike First Second
    → OffendAlike (valued (λ members. First) o) (valued (λ members. Second) p)
object_offends_alike First Second None None e alike path number offends = offends
object_offends_alike {K} First Second None (Some l) e alike path number offends = cc
object_offends_alike {K} First Second (Some k) None e alike path number offends = cc
object_offends_alike First Second (Some k) (Some l) e alike path number offends = alike path number offends

-- an object, part by part
pub record PartsAlike (first second : List Offences) : Type 0 where
  pub alike : OffendAlike (joined first) (joined second)

pub no_parts_alike : PartsAlike [] []
no_parts_alike = record { alike = nothing_alike }

pub parts_alike : {First Second : Offences} {others rest : List Offences} → OffendAlike First Second → PartsAlike others rest
    → PartsAlike (First ∷ others) (Second ∷ rest)
parts_alike first others = record { alike = two_alike first others.alike }

pub by_parts_alike : (Parts : Data → List Offences) (v w : Data) → is_some (as_object v) ≡ is_some (as_object w)
    → PartsAlike (Parts v) (Parts w)
    → OffendAlike (object_offends Parts v) (object_offends Parts w)
by_parts_alike Parts v w shapes parts =
    object_offends_alike (joined (Parts v)) (joined (Parts w)) (as_object v) (as_object w) shapes parts.alike
