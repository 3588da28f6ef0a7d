-- The request of a gauge is one record for each group, none of which is longer than a unit may be.
use Rattle.std.proofs.Common.{◌≡◌, ℕ, ◌+◌, ◌*◌, ◌++◌, ◌∷◌, List, [], length, map, All, refl, ap, ◌∙◌, arith}
use Rattle.std.specs.List.{flat_map}
use Rattle.std.proofs.lemmas.List.{append-nil}
use Rattle.std.proofs.lemmas.List.Elements.{All-head, All-tail}
use Rattle.std.proofs.lemmas.List.FromFn.{map-range_with_len_more, length-map-range_with_len}
use Rattle.std.proofs.lemmas.Grind.{flat_map-append}
use Rattle.span_io.specs.Frames.{ItemsThen}
use Rattle.proto_wire.specs.StatedLaws.{ShortestRecord}
use Rattle.proto_wire.specs.Records.{Record, bytes}
use Rattle.proto_wire.specs.Wire.{SpellsRecord, records}
use Rattle.trace_model.specs.declared.group.Group.{Group}
use Rattle.otlp_proto.specs.Canonical.{group_text, group_record}
use Rattle.span_vectors.specs.Gauge.{gauge, gauge_group, first_groups, group_count}
use Rattle.span_vectors.proofs.Sizes.{IsWithin, list_size}
use Rattle.span_vectors.proofs.Spans.{all_first_groups}
use Rattle.span_vectors.proofs.TextSizes.{group_text_size, record_size}

-- ---- the first groups

pub no_groups : (spans : ℕ) → flat_map group_record (first_groups spans 0) ≡ []
unfolding first_groups
no_groups spans = refl

-- the text of one more group
pub groups_more : (spans n : ℕ) → flat_map group_record (first_groups spans (n + 1)) ≡ flat_map group_record (first_groups spans n) ++ group_record (gauge_group spans (n + 1))
unfolding first_groups
groups_more spans n =
    ap (λ (l : List Group). flat_map group_record l) (map-range_with_len_more (gauge_group spans) 1 n (n + 1) (omega arith))
    ∙ (flat_map-append group_record (first_groups spans n) (gauge_group spans (n + 1) ∷ [])
    ∙ ap (λ (l : List ℕ). flat_map group_record (first_groups spans n) ++ l) (append-nil (group_record (gauge_group spans (n + 1)))))

groups_length : (spans n : ℕ) → length (first_groups spans n) ≡ n
unfolding first_groups
groups_length spans n = length-map-range_with_len (gauge_group spans) 1 n

-- the first groups have less than 50,000 bytes each
pub groups_size : (spans n : ℕ) → IsWithin (50000 * n) (flat_map group_record (first_groups spans n))
groups_size spans n =
    let all = list_size group_record 50000 (first_groups spans n) (all_first_groups (λ (g : Group). IsWithin 50000 (group_record g)) spans n (λ group. record_size spans group)) in
    record { within = omega (arith, groups_length spans n, all.within) }

-- ---- frames

module _ (shortest : ShortestRecord) where
  unit_record : Group → Record
  unit_record g = record { number = 1; held = bytes (group_text g) }

  is_record : (g : Group) → IsWithin 49000 (group_text g) → SpellsRecord (group_record g) (unit_record g)
  unfolding unit_record
  is_record g h = shortest.spelled (unit_record g) (record { number = (omega arith, omega arith); held = omega (arith, h.within) })

  are_frames : (groups : List Group) → All (λ (g : Group). IsWithin 49000 (group_text g) × IsWithin 50000 (group_record g)) groups
      → ItemsThen records 16777216 (map group_record groups) [] (flat_map group_record groups)
  unfolding ItemsThen
  are_frames [] all = refl
  are_frames (g ∷ groups) all =
      let first = All-head (λ (g : Group). IsWithin 49000 (group_text g) × IsWithin 50000 (group_record g)) g groups all in (
        (unit_record g, is_record g first.0),
        omega (arith, first.1.within),
        flat_map group_record groups,
        refl,
        are_frames groups (All-tail (λ (g : Group). IsWithin 49000 (group_text g) × IsWithin 50000 (group_record g)) g groups all),
      )

  pub gauge_frames : (spans : ℕ) → ItemsThen records 16777216 (map group_record (gauge spans)) [] (flat_map group_record (gauge spans))
  gauge_frames spans = are_frames (gauge spans)
      (all_first_groups (λ (g : Group). IsWithin 49000 (group_text g) × IsWithin 50000 (group_record g)) spans (group_count spans)
      (λ group. (group_text_size spans group, record_size spans group)))
