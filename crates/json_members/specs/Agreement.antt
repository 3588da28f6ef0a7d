-- When two values agree in the members that a form knows, at every depth. Members of other names may stand in either, and one that is
-- null counts as absent.
use Rattle.std.specs.Prelude.{◌≡◌, ℕ, List, [], ◌∷◌, Option, Some, None, is_some}
use Rattle.std.specs.List.{AllZip}
use Rattle.serde_json.specs.Data.{Data}
use Rattle.serde_json.specs.Find.{as_array, as_object}
use Rattle.json_members.specs.Members.{member, elements}

-- when two values of JSON count as the same
abbrev pub Agreement : Type 1
Agreement = Data → Data → Type 0

-- values that are equal in all
abbrev pub same : Agreement
same v w = v ≡ w

-- in neither, or in both, where they agree
abbrev pub both_or_neither : {A : Type 0} → (A → A → Type 0) → Option A → Option A → Type 0
both_or_neither Agree None None = Unit {0}
both_or_neither Agree None (Some y) = ⊥
both_or_neither Agree (Some x) None = ⊥
both_or_neither Agree (Some x) (Some y) = Agree x y

-- the name of a member that is known, and how its values agree
abbrev pub KnownMember : Type 1
KnownMember = List ℕ × Agreement

-- each known member stands in neither value, or in both with values that agree
abbrev pub members_agree : List KnownMember → Agreement
members_agree [] v w = Unit {0}
members_agree ((name, Agree) ∷ known) v w = both_or_neither Agree (member name v) (member name w) × members_agree known v w

-- objects whose known members agree, or values that are no objects
abbrev pub objects_agree : List KnownMember → Agreement
objects_agree known v w = (is_some (as_object v) ≡ is_some (as_object w)) × members_agree known v w

-- arrays whose elements agree one by one, or values that are no arrays
abbrev pub arrays_agree : Agreement → Agreement
arrays_agree Agree v w = both_or_neither (λ ds es. AllZip Agree (elements ds) (elements es)) (as_array v) (as_array w)
