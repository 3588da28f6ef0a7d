-- Batches are read back as the normal forms of the groups that they were written for, and what is read is its own normal form.
use Rattle.std.proofs.Common.{◌≡◌, ℕ, ◌+◌, ◌≤◌, ◌++◌, ◌∷◌, List, [], length, map, All, refl, ap, sym, ◌∙◌, subst, arith}
use Rattle.std.proofs.lemmas.Grind.{flat_map-append}
use Rattle.std.proofs.lemmas.List.{length-append, length-map}
use Rattle.std.proofs.lemmas.List.Elements.{All-nil, All-cons, All-head, All-tail, All-map, All-weaker}
use Rattle.std.specs.List.{AllZip, flat_map}
use Rattle.span_io.specs.Frames.{ItemsThen}
use Rattle.span_io.specs.declared.form.Form.{Form}
use Rattle.trace_model.specs.Flat.{flat}
use Rattle.trace_model.specs.Proper.{IsProperGroup}
use Rattle.trace_model.specs.Soundness.{IsSoundGroup, IsSoundTrace}
use Rattle.trace_model.specs.declared.span.Span.{Span}
use Rattle.trace_model.specs.OtlpParts.{NotedGroup}
use Rattle.trace_model.specs.declared.group.Group.{Group}
use Rattle.trace_model.specs.declared.group.Scope.{Scope}
use Rattle.jaeger_model.specs.Batch.{IsBatchText}
use Rattle.jaeger_model.specs.Writable.{IsWritable}
use Rattle.jaeger_model.specs.WrittenAgain.{HasAllKept}
use Rattle.jaeger_model.specs.declared.batch.Batch.{Batch}
use Rattle.span_tags.proofs.RunLaws.{scoped_runs}
use Rattle.span_tags.specs.Runs.{Scoped, scoped, spans_of, runs}
use Rattle.map_jaeger.specs.Faults.{HasNoFault}
use Rattle.map_jaeger.specs.StatedLaws.{IsHeld, NormalForms, IsTimely, ReadIsNormal}
use Rattle.map_jaeger.specs.Normal.{normal, normal_group, normal_scoped}
use Rattle.map_jaeger.specs.Writing.{jaeger_span, batch_of}
use Rattle.map_zipkin.specs.NotedGroups.{plain_noted}
use Rattle.span_convert.specs.BatchFiles.{ProtocolWords, batches, group_batch, batches_text, IsBatchUnit, ReadsBatches}
use Rattle.span_convert.specs.Canonical.{IsHeldBy}
use Rattle.span_convert.specs.private.InputLaws.{BatchLaws, TextLaws}
use Rattle.span_convert.specs.Units.{groups_in, CanHold, IsSizedGroup, span_count}
use Rattle.span_convert.specs.Verdicts.{IsProperTrace}
use Rattle.span_convert.proofs.BatchTimes.{all_timely}

-- ---- groups in normal form

-- a group in normal form that can be written
pub record IsNormal (g : Group) : Type 0 where
  held : IsHeld g
  sized : IsWritable (batch_of g)
  itself : normal_group g ≡ g

pub all_held : (groups : List Group) → IsSoundTrace groups → IsProperTrace groups → All HasNoFault groups → All IsHeld groups
all_held [] sound proper fine = All-nil IsHeld
all_held (g ∷ groups) sound proper fine =
    All-cons IsHeld g groups (record { sound = All-head IsSoundGroup g groups sound; proper = All-head IsProperGroup g groups proper; no_fault = All-head HasNoFault g groups fine })
    (all_held groups (All-tail IsSoundGroup g groups sound) (All-tail IsProperGroup g groups proper) (All-tail HasNoFault g groups fine))

-- each group is its own normal form
pub all_itself : (groups : List Group) → All IsNormal groups → normal groups ≡ groups
all_itself [] all = refl
all_itself (g ∷ groups) all =
    ap (λ (n : Group). n ∷ normal groups) (All-head IsNormal g groups all).itself ∙ ap (λ (l : List Group). g ∷ l) (all_itself groups (All-tail IsNormal g groups all))

module _ (N : NormalForms) where
  all_normal : (groups : List Group) → All IsHeld groups → All (λ g. IsWritable (batch_of g)) groups → All IsNormal (normal groups)
  all_normal [] held sized = All-nil IsNormal
  all_normal (g ∷ groups) held sized =
      let its : IsHeld g = All-head IsHeld g groups held in
      All-cons IsNormal (normal_group g) (normal groups) (record {
        held = N.held g its;
        sized = subst IsWritable (sym (N.same_batch g its)) (All-head (λ g. IsWritable (batch_of g)) g groups sized);
        itself = N.itself g its;
      }) (all_normal groups (All-tail IsHeld g groups held) (All-tail (λ g. IsWritable (batch_of g)) g groups sized))

  -- the normal forms of groups that Jaeger can hold, of sizes that Thrift can tell
  pub normals : (groups : List Group) → IsSoundTrace groups → IsProperTrace groups → All HasNoFault groups → All (λ g. IsWritable (batch_of g)) groups → All IsNormal (normal groups)
  normals groups sound proper fine sized = all_normal groups (all_held groups sound proper fine) sized

-- they are held by each form of Jaeger
pub normal_held_by : (to : Form) → ((g : Group) → HasNoFault g → CanHold to g) → ((g : Group) → IsWritable (batch_of g) → IsSizedGroup to g) → (groups : List Group) → All IsNormal groups → IsHeldBy to groups
normal_held_by to can sized groups all = record {
  can_hold = record {
    sound = All-weaker IsNormal IsSoundGroup (λ g n. n.held.sound) groups all;
    proper = All-weaker IsNormal IsProperGroup (λ g n. n.held.proper) groups all;
    no_fault = All-weaker IsNormal (CanHold to) (λ g n. can g n.held.no_fault) groups all;
  };
  sized = All-weaker IsNormal (IsSizedGroup to) (λ g n. sized g n.sized) groups all;
}

-- ---- the units of their text

module _ (protocol : ProtocolWords) where
  abbrev text : List Group → List ℕ
  text = batches_text protocol

  abbrev its_batch : Group → List ℕ
  its_batch = group_batch protocol

  -- no batch is longer than the whole text
  batches_within : (limit : ℕ) (groups : List Group) → length (text groups) ≤ limit → All (λ g. length (its_batch g) ≤ limit) groups
  batches_within limit [] h = All-nil (λ g. length (its_batch g) ≤ limit)
  batches_within limit (g ∷ groups) h =
      let both : length (its_batch g ++ text groups) ≡ length (its_batch g) + length (text groups) = length-append (its_batch g) (text groups) in
      All-cons (λ g. length (its_batch g) ≤ limit) g groups (omega (arith, h, both)) (batches_within limit groups (omega (arith, h, both)))

  module _ (L : TextLaws) (B : BatchLaws protocol) where
    -- what is written of a proper group is a text of its batch
    its_text : (g : Group) → IsNormal g → IsBatchText protocol.spells (batch_of g) (its_batch g)
    its_text g n = B.again.whole (batch_of g) n.sized (L.proper g n.held.proper) (All-map HasAllKept jaeger_span (scoped g.scopes) (λ k d lt. refl))

    -- and no remark arises
    plain_units : (groups : List Group) → All IsNormal groups → AllZip (IsBatchUnit protocol.spells) (map its_batch groups) (map plain_noted groups)
    plain_units [] all = tt
    plain_units (g ∷ groups) all =
        let n : IsNormal g = All-head IsNormal g groups all in
        (record { batch = batch_of g; text = its_text g n; means = sym (L.back.means g n.held ∙ n.itself); remarks = L.back.plainly g n.held }, plain_units groups (All-tail IsNormal g groups all))

    frames : (limit : ℕ) (groups : List Group) → All IsNormal groups → All (λ g. length (its_batch g) ≤ limit) groups → ItemsThen (batches protocol) limit (map its_batch groups) [] (text groups)
    unfolding ItemsThen
    frames limit [] all within = refl
    frames limit (g ∷ groups) all within =
        let is : IsBatchText protocol.spells (batch_of g) (its_batch g) = its_text g (All-head IsNormal g groups all) in (
          (is.fields, is.struct_text),
          All-head (λ g. length (its_batch g) ≤ limit) g groups within,
          text groups,
          refl,
          frames limit groups (All-tail IsNormal g groups all) (All-tail (λ g. length (its_batch g) ≤ limit) g groups within),
        )

    pub batches_back : (groups : List Group) → All IsNormal groups → ReadsBatches protocol (text groups) (map plain_noted groups)
    batches_back groups all = record {
      units = map its_batch groups;
      framed = frames (length (text groups)) groups all (batches_within (length (text groups)) groups (omega arith));
      are_groups = plain_units groups all;
    }

-- ---- spans

scopes_count : (scopes : List Scope) → length (flat_map (λ scope. scope.spans) scopes) ≡ length (scoped scopes)
scopes_count [] = refl
scopes_count (scope ∷ scopes) =
    length-append scope.spans (flat_map (λ scope. scope.spans) scopes)
    ∙ ap (λ n. length scope.spans + n) (scopes_count scopes)
    ∙ ap (λ n. n + length (scoped scopes)) (sym (length-map scope.spans (λ span. record { name = scope.name; version = scope.version; span = span })))
    ∙ sym (length-append (spans_of scope) (scoped scopes))

abbrev spans_in : List Scope → List Span
spans_in scopes = flat_map (λ scope. scope.spans) scopes

group_count : (g : Group) → length (spans_in (normal_group g).scopes) ≡ length (spans_in g.scopes)
group_count g =
    let told : List (Scoped Span) = map normal_scoped (scoped g.scopes) in
    scopes_count (runs told) ∙ ap (λ (l : List (Scoped Span)). length l) (scoped_runs told) ∙ length-map (scoped g.scopes) normal_scoped ∙ sym (scopes_count g.scopes)

first_count : (g : Group) (groups : List Group) → span_count (g ∷ groups) ≡ length (spans_in g.scopes) + span_count groups
first_count g groups =
    ap (λ (l : List Span). length l) (flat_map-append (λ scope. scope.spans) g.scopes (flat_map (λ group. group.scopes) groups))
    ∙ length-append (spans_in g.scopes) (flat groups)

pub batches_spans : (groups : List Group) → span_count (normal groups) ≡ span_count groups
batches_spans [] = refl
batches_spans (g ∷ groups) =
    first_count (normal_group g) (normal groups)
    ∙ ap (λ n. n + span_count (normal groups)) (group_count g)
    ∙ ap (λ n. length (spans_in g.scopes) + n) (batches_spans groups)
    ∙ sym (first_count g groups)

-- ---- what is read

module _ (protocol : ProtocolWords) (N : ReadIsNormal) (B : BatchLaws protocol) where
  abbrev AreUnits : List (List ℕ) → List NotedGroup → Type 0
  AreUnits units groups = AllZip (IsBatchUnit protocol.spells) units groups

  times : (batch : Batch) (unit : List ℕ) → IsBatchText protocol.spells batch unit → All IsTimely batch.spans
  times batch unit is = all_timely batch.spans (B.times batch unit is)

  read_fine : (units : List (List ℕ)) (groups : List NotedGroup) → AreUnits units groups → All HasNoFault (groups_in groups)
  read_fine [] [] h = All-nil HasNoFault
  read_fine [] (g ∷ groups) h = absurd h
  read_fine (unit ∷ units) [] h = absurd h
  read_fine (unit ∷ units) (g ∷ groups) h = All-cons HasNoFault g.means (groups_in groups) (subst HasNoFault (sym h.0.means) (N.no_fault h.0.batch (times h.0.batch unit h.0.text))) (read_fine units groups h.1)

  read_itself : (units : List (List ℕ)) (groups : List NotedGroup) → AreUnits units groups → normal (groups_in groups) ≡ groups_in groups
  read_itself [] [] h = refl
  read_itself [] (g ∷ groups) h = absurd h
  read_itself (unit ∷ units) [] h = absurd h
  read_itself (unit ∷ units) (g ∷ groups) h =
      let same : normal_group g.means ≡ g.means = subst (λ (n : Group). normal_group n ≡ n) (sym h.0.means) (N.itself h.0.batch (times h.0.batch unit h.0.text)) in
      ap (λ (n : Group). n ∷ normal (groups_in groups)) same ∙ ap (λ (l : List Group). g.means ∷ l) (read_itself units groups h.1)

  pub batches_faultless : (text : List ℕ) (groups : List NotedGroup) → ReadsBatches protocol text groups → All HasNoFault (groups_in groups)
  batches_faultless text groups h = read_fine h.units groups h.are_groups

  pub batches_normal : (text : List ℕ) (groups : List NotedGroup) → ReadsBatches protocol text groups → normal (groups_in groups) ≡ groups_in groups
  batches_normal text groups h = read_itself h.units groups h.are_groups
