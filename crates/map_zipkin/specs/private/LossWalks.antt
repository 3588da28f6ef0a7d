-- What is found on the way along a group.
--     kept_texts key pairs     the normal form of pairs whose keys rise, pair by pair
--     still_same, Advances     the pairs of a normal form, from a place on, and those of a resource that are left
--     names_where              the name and version of the scope of the span before
--     names_at_end             the name and version of the scope of the last span, behind scopes
--     joined_losses            those of a group as a whole, where it has the resource of the span before or hasn't
use Rattle.std.specs.Prelude.{◌≡◌, ℕ, ◌≤◌, Bool, false, not, ◌&&◌, if◌then◌else◌, List, [], ◌∷◌, ◌++◌, drop, length, Option, Some, None, option_map, ⊤}
use Rattle.trace_model.specs.declared.loss.Loss.{Loss}
use Rattle.trace_model.specs.declared.loss.LossRow.TheVariants as rows
use Rattle.trace_model.specs.declared.place.Place.TheVariants as places
use Rattle.trace_model.specs.declared.group.Scope.{Scope}
use Rattle.trace_model.specs.declared.value.Value.{Value}
use Rattle.span_tags.specs.Losses.{is_empty, lost, Names, named, names_behind}
use Rattle.span_tags.specs.Runs.{scoped}
use Rattle.span_tags.specs.TagKeys.{service_key}
use Rattle.span_tags.specs.TagWords.{Pairs}
use Rattle.map_zipkin.specs.Losses.{goes}
use Rattle.map_zipkin.specs.Regrouped.{same_resource}
use Rattle.map_zipkin.specs.Writing.{as_text}
use Rattle.map_zipkin.specs.declared.run.Run.{Run}

-- what the normal form has of a pair: its value as a text, or nothing where it is of the one key and its text is empty
abbrev pub kept_text : List ℕ → List ℕ × Value → Pairs
kept_text key pair = if goes key pair then [] else as_text pair ∷ []

-- the same of each pair, in order
abbrev pub kept_texts : List ℕ → Pairs → Pairs
kept_texts key [] = []
kept_texts key (pair ∷ pairs) = kept_text key pair ++ kept_texts key pairs

-- the normal form from this place on is that of the pairs of a resource that are left
abbrev pub still_same : Pairs → ℕ → Pairs → Bool
still_same normal place left = same_resource (drop place normal) (kept_texts service_key left)

-- one pair more of the resource leads to this place, or differs
abbrev pub Advances : Pairs → ℕ → List ℕ × Value → Pairs → Option ℕ → Type 0
Advances normal place pair left None = still_same normal place (pair ∷ left) ≡ false
Advances normal place pair left (Some next) = still_same normal next left ≡ still_same normal place (pair ∷ left)

-- a place, where there is one, lies within the normal form or at its end
abbrev pub IsWithin : Pairs → Option ℕ → Type 0
IsWithin normal None = ⊤
IsWithin normal (Some next) = next ≤ length normal

-- ---- scopes

-- those of the span before, where it has the resource or hasn't
abbrev pub names_where : Bool → Option Run → Option Names
names_where joined before = if joined then option_map (λ run. named run.name run.version) before else None

-- those of the scope of the last span, behind scopes; where none of them has a span they are those from before
abbrev pub names_at_end : Option Names → List Scope → Option Names
names_at_end before [] = before
names_at_end before (scope ∷ scopes) = names_at_end (names_behind before scope) scopes

-- of a group as a whole: it goes where it has no span, else it joins that of the span before, where their resource is the same
abbrev pub joined_losses : Bool → List Scope → List Loss
joined_losses joined scopes =
    lost places.Whole rows.UnitEmpty (is_empty (scoped scopes)) ++ lost places.Whole rows.UnitJoined (not (is_empty (scoped scopes)) && joined)
