-- Groups and the remarks on them as spans are added: the last group is kept at hand.
use Rattle.std.specs.Prelude.{◌≡◌, ℕ, ◌+◌, if◌then◌else◌, List, [], ◌∷◌, ◌++◌, map, take, drop, Option, Some, None}
use Rattle.span_tags.specs.ReadRuns.{with_behind}
use Rattle.span_tags.specs.Runs.{in_front}
use Rattle.trace_model.specs.OtlpParts.{NotedGroup}
use Rattle.trace_model.specs.Remarks.{Keys, numbered}
use Rattle.trace_model.specs.declared.place.Place.{Place}
use Rattle.trace_model.specs.declared.remark.Remark.{Remark}
use Rattle.trace_model.specs.declared.group.Group.{Group}
use Rattle.trace_model.specs.declared.group.Scope.{Scope}
use Rattle.map_zipkin.specs.NotedGroups.{noted_group, left_out_remarks, spans_in, with_left_out}
use Rattle.map_zipkin.specs.Regrouped.{RunSpan, in_scope, same_resource, plain_group}
use Rattle.map_zipkin.specs.declared.groups.Groups.{Groups}
use Rattle.map_zipkin.specs.declared.groups.Last.{Last}

-- the same remark at another place
abbrev pub moved_to : Place → Remark → Remark
moved_to place remark = record { place = place; kind = remark.kind; key = remark.key }

-- ---- one more span, of which tags of these keys are left out

-- it is all of the last group
pub record IsAlone (one : RunSpan) (keys : Keys) (last : Last) : Type 0 where
  pub resource : last.resource ≡ one.0.resource
  pub scopes : (l : List Scope) → with_behind last.scopes l ≡ in_front (in_scope one) l
  pub spans : last.spans ≡ 1
  pub remarks : last.remarks ≡ left_out_remarks 1 keys

-- it is added to the last group
pub record IsAdded (one : RunSpan) (keys : Keys) (last more : Last) : Type 0 where
  pub resource : more.resource ≡ last.resource
  pub scopes : (l : List Scope) → with_behind more.scopes l ≡ with_behind last.scopes (in_front (in_scope one) l)
  pub spans : more.spans ≡ last.spans + 1
  pub remarks : more.remarks ≡ last.remarks ++ left_out_remarks (last.spans + 1) keys

-- ---- with others behind

-- the last group as it is
abbrev pub last_alone : Last → NotedGroup
last_alone last = record { means = plain_group last.resource (with_behind last.scopes []); notes = last.remarks }

-- with these scopes behind its own, and the remarks on their spans
abbrev pub last_joined : Last → List Scope → List Keys → NotedGroup
last_joined last scopes left_out = record {
  means = plain_group last.resource (with_behind last.scopes scopes);
  notes = last.remarks ++ numbered left_out_remarks (last.spans + 1) left_out;
}

-- in front of groups, of whose spans these keys are left out: the first of them joins the last group, where it has its resource
abbrev pub groups_joined : Last → List Group → List Keys → List NotedGroup
groups_joined last [] left_out = last_alone last ∷ []
groups_joined last (group ∷ groups) left_out =
    if same_resource last.resource group.resource
    then last_joined last group.scopes (take (spans_in group) left_out) ∷ with_left_out groups (drop (spans_in group) left_out)
    else last_alone last ∷ with_left_out (group ∷ groups) left_out

-- groups, of whose spans tags of these keys are left out, behind the last group so far, if there is one
abbrev pub from_last_group : Option Last → List Group → List Keys → List NotedGroup
from_last_group None groups left_out = with_left_out groups left_out
from_last_group (Some last) groups left_out = groups_joined last groups left_out

-- these groups, with others behind them, of whose spans these keys are left out
abbrev pub with_groups : Groups → List Group → List Keys → List NotedGroup
with_groups so_far groups left_out = map noted_group so_far.done ++ from_last_group so_far.last groups left_out

-- how many spans the last group has
abbrev pub spans_of_last : Option Last → ℕ
spans_of_last None = 0
spans_of_last (Some last) = last.spans
