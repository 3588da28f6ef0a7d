-- What the laws of the table say.
use Rattle.std.specs.Prelude.{◌≡◌, ◌≢◌, ◌↔◌, List, [], ◌∷◌, ◌++◌, All, Contains, Option, None, map}
use Rattle.std.specs.List.{flat_map}
use Rattle.span_tags.specs.Runs.{IsPlain}
use Rattle.trace_model.specs.Proper.{IsProperGroup}
use Rattle.trace_model.specs.Soundness.{IsSoundGroup}
use Rattle.trace_model.specs.declared.fault.Fault.{Fault}
use Rattle.trace_model.specs.declared.loss.Loss.{Loss}
use Rattle.trace_model.specs.declared.group.Group.{Group}
use Rattle.zipkin_json.specs.Proper.{IsProperZSpan, IsTimelyZSpan}
use Rattle.zipkin_json.specs.declared.span.ZSpan.{ZSpan}
use Rattle.map_zipkin.specs.Faults.{HasNoZipkinFault, IsZipkinFaultOf}
use Rattle.map_zipkin.specs.LossMeaning.{run_behind_all, MeansLoss}
use Rattle.map_zipkin.specs.Losses.{group_losses, groups_losses}
use Rattle.map_zipkin.specs.NotedGroups.{plain_noted, noted_groups_of}
use Rattle.map_zipkin.specs.Normal.{normal_spans, zipkin_normal}
use Rattle.map_zipkin.specs.Reading.{run_span_of, groups_of}
use Rattle.map_zipkin.specs.Regrouped.{RunSpan, runs_of, regrouped}
use Rattle.map_zipkin.specs.Remarks.{zipkin_left_out}
use Rattle.map_zipkin.specs.Writing.{spans_of_group}

-- a group that has a resource and scopes alone, and scopes that have a name, a version and spans alone
pub record IsPlainGroup (group : Group) : Type 0 where
  pub dropped : group.dropped ≡ 0
  pub schema_url : group.schema_url ≡ []
  pub some : group.scopes ≢ []
  pub scopes : All IsPlain group.scopes

-- spans that are regrouped are the same spans, in order, each in its run; and they are regrouped as before
pub record Regroupings : Type 0 where
  pub spans : (l : List RunSpan) → flat_map runs_of (regrouped l) ≡ l
  pub plain : (l : List RunSpan) → All IsPlainGroup (regrouped l)
  pub again : (l : List RunSpan) → regrouped (flat_map runs_of (regrouped l)) ≡ regrouped l

-- The groups of spans with the remarks on them are the groups of spans; and there is no remark on any of them exactly where no tag is left out.
pub record GroupsNoted : Type 0 where
  pub groups : (spans : List ZSpan) → map (λ noted. noted.means) (noted_groups_of spans) ≡ groups_of spans
  pub plainly : (spans : List ZSpan)
      → (noted_groups_of spans ≡ map plain_noted (groups_of spans)) ↔ All (λ span. zipkin_left_out span ≡ []) spans

-- a group that Zipkin can hold
pub record IsHeldByZipkin (group : Group) : Type 0 where
  pub sound : IsSoundGroup group
  pub proper : IsProperGroup group
  pub no_fault : HasNoZipkinFault group

-- reading the spans of a group gives those of its normal form, and no tag is left out
pub record SpansReadBack : Type 0 where
  pub means : (group : Group) → IsHeldByZipkin group → map run_span_of (spans_of_group group) ≡ normal_spans group
  pub plainly : (group : Group) → IsHeldByZipkin group → All (λ span. zipkin_left_out span ≡ []) (spans_of_group group)

-- the normal form is its own, Zipkin can hold it, and it has the same spans, which are read as the normal form without remarks; traces have
-- equal spans where they have equal normal forms, and only there
pub record ZipkinNormalForms : Type 0 where
  pub held : (groups : List Group) → All IsHeldByZipkin groups → All IsHeldByZipkin (zipkin_normal groups)
  pub itself : (groups : List Group) → All IsHeldByZipkin groups → zipkin_normal (zipkin_normal groups) ≡ zipkin_normal groups
  pub same_spans : (groups : List Group) → All IsHeldByZipkin groups
      → flat_map spans_of_group (zipkin_normal groups) ≡ flat_map spans_of_group groups
  pub read_back : (groups : List Group) → All IsHeldByZipkin groups
      → noted_groups_of (flat_map spans_of_group groups) ≡ map plain_noted (zipkin_normal groups)
  pub equal : (a b : List Group) → All IsHeldByZipkin a → All IsHeldByZipkin b
      → (flat_map spans_of_group a ≡ flat_map spans_of_group b) ↔ (zipkin_normal a ≡ zipkin_normal b)

-- what is read of spans is its own normal form, and nothing in it is a fault
pub record ReadIsZipkinNormal : Type 0 where
  pub no_fault : (spans : List ZSpan) → All IsTimelyZSpan spans → All IsProperZSpan spans → All HasNoZipkinFault (groups_of spans)
  pub itself : (spans : List ZSpan) → All IsTimelyZSpan spans → All IsProperZSpan spans
      → zipkin_normal (groups_of spans) ≡ groups_of spans

-- what is read of proper spans is sound and proper
pub record ReadIsHeld : Type 0 where
  pub sound : (spans : List ZSpan) → All IsTimelyZSpan spans → All IsProperZSpan spans → All IsSoundGroup (groups_of spans)
  pub proper : (spans : List ZSpan) → All IsTimelyZSpan spans → All IsProperZSpan spans → All IsProperGroup (groups_of spans)

-- a sound group has a fault that counts, or none
abbrev pub ZipkinFaultsFound : Type 0
ZipkinFaultsFound = (group : Group) → IsSoundGroup group → (found : Option Fault) × IsZipkinFaultOf group found

-- the spans of a group that Zipkin can hold are proper and timely, so that they can be written
pub record WrittenIsWritable : Type 0 where
  pub proper : (group : Group) → IsHeldByZipkin group → All IsProperZSpan (spans_of_group group)
  pub timely : (group : Group) → IsHeldByZipkin group → All IsTimelyZSpan (spans_of_group group)

-- nothing is lost of sound groups exactly where they are their own normal form
abbrev pub NothingLost : Type 0
NothingLost = (groups : List Group) → All IsSoundGroup groups → (groups_losses None groups ≡ []) ↔ (zipkin_normal groups ≡ groups)

-- A loss is told of a sound group, behind others, exactly where the condition of its row holds, at its place, of the group and of
-- the normal form of the whole trace.
abbrev pub LossesMean : Type 0
LossesMean = (before : List Group) (group : Group) (others : List Group) → IsSoundGroup group → (loss : Loss)
    → Contains (group_losses (run_behind_all None before) group) loss
    ↔ MeansLoss before group (zipkin_normal (before ++ group ∷ others)) loss.place loss.row loss.key
