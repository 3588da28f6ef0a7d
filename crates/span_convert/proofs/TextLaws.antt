-- Canonical text is read back as the trace that it was written for, and bytes are read as one trace at most.
use Rattle.std.proofs.Common.{◌≡◌, ℕ, ◌<◌, ◌≤◌, ◌^◌, ◌∷◌, List, [], length, map, All, refl, ap, sym, ◌∙◌, subst, arith}
use Rattle.std.proofs.lemmas.List.{length-append, length-map}
use Rattle.std.proofs.lemmas.List.Elements.{All-nil, All-cons, All-head, All-tail}
use Rattle.std.specs.List.{AllZip}
use Rattle.span_io.specs.Frames.{ItemsThen}
use Rattle.span_io.specs.Limits.{AreLimits}
use Rattle.span_io.specs.declared.form.Form.{Form}
use Rattle.span_io.specs.declared.form.Form.TheVariants as forms
use Rattle.span_io.specs.declared.limits.Limits.{Limits}
use Rattle.span_io.proofs.RowLaws.{all_zip_once}
use Rattle.proto_wire.specs.Records.{Record, IsProper, bytes}
use Rattle.proto_wire.specs.Wire.{SpellsRecord, records, RefusedBy, opening_text}
use Rattle.trace_model.specs.Proper.{IsProperGroup}
use Rattle.trace_model.specs.Soundness.{IsSoundGroup, IsSoundTrace}
use Rattle.trace_model.specs.OtlpParts.{NotedGroup}
use Rattle.trace_model.proofs.RemarkLaws.{all_back}
use Rattle.trace_model.specs.declared.group.Group.{Group}
use Rattle.otlp_proto.specs.Canonical.{group_text, group_record}
use Rattle.map_jaeger.specs.StatedLaws.{NormalForms, ReadIsNormal}
use Rattle.map_jaeger.specs.Normal.{normal}
use Rattle.map_zipkin.specs.NotedGroups.{plain_noted}
use Rattle.span_convert.specs.BatchFiles.{binary, compact}
use Rattle.span_convert.specs.Canonical.{Reads, ReadsNoted, ReadsPlainly, IsHeldBy, Fits, ConvertsToItself}
use Rattle.span_convert.specs.private.InputLaws.{RequestLaws, SpanFileLaws, InputLaws, TextLaws}
use Rattle.span_convert.specs.Requests.{AreRequestUnits, IsRequestUnit, request_text, ReadsRequest}
use Rattle.span_convert.specs.Units.{groups_in, CanHold, normal_form, trace_text, canonical_text, span_count}
use Rattle.span_convert.specs.Verdicts.{CanHoldTrace, IsProperTrace, IsFaultless, tally_of}
use Rattle.span_convert.proofs.BatchTexts.{IsNormal, normals, all_itself, normal_held_by, batches_back, batches_spans, batches_faultless, batches_normal}
use Rattle.span_convert.proofs.FitLaws.{reads_whole}
use Rattle.span_convert.proofs.FormTargets.{held_units}
use Rattle.span_convert.proofs.FrameLemmas.{same_items}
use Rattle.span_convert.proofs.GroupFileTexts.{group_file_faultless, group_file_back}
use Rattle.span_convert.proofs.RequestLaws.{units_once, one_group}
use Rattle.span_convert.proofs.SpanFileTexts.{span_file_back, span_file_normal_held, span_file_normal_again, span_file_spans, span_file_faultless, span_file_normal_read}

-- the record of a unit
unit_record : Group → Record
unit_record g = record { number = 1; held = bytes (group_text g) }

-- ---- how long texts are

first_within : (limit : ℕ) (g : Group) (groups : List Group) → length (request_text (g ∷ groups)) ≤ limit → length (group_record g) ≤ limit
first_within limit g groups h = omega (arith, length-append (group_record g) (request_text groups))

rest_within : (limit : ℕ) (g : Group) (groups : List Group) → length (request_text (g ∷ groups)) ≤ limit → length (request_text groups) ≤ limit
rest_within limit g groups h = omega (arith, length-append (group_record g) (request_text groups))

-- no record is longer than the whole text
each_within : (limit : ℕ) (groups : List Group) → length (request_text groups) ≤ limit → All (λ g. length (group_record g) ≤ limit) groups
each_within limit [] h = All-nil (λ g. length (group_record g) ≤ limit)
each_within limit (g ∷ groups) h = All-cons (λ g. length (group_record g) ≤ limit) g groups (first_within limit g groups h) (each_within limit groups (rest_within limit g groups h))

-- OTLP can hold each group
request_fine : (groups : List Group) → IsFaultless forms.OtlpProto groups
request_fine [] = All-nil (CanHold forms.OtlpProto)
request_fine (g ∷ groups) = All-cons (CanHold forms.OtlpProto) g groups tt (request_fine groups)

-- groups without remarks are the groups
pub plain_means : (groups : List Group) → groups_in (map plain_noted groups) ≡ groups
plain_means groups = all_back (λ (unit : NotedGroup). unit.means) plain_noted (λ group. refl) groups

-- ---- normal forms

binary_normals : NormalForms → (groups : List Group) → IsHeldBy forms.JaegerBinary groups → All IsNormal (normal groups)
binary_normals N groups h = normals N groups h.can_hold.sound h.can_hold.proper h.can_hold.no_fault h.sized

compact_normals : NormalForms → (groups : List Group) → IsHeldBy forms.JaegerCompact groups → All IsNormal (normal groups)
compact_normals N groups h = normals N groups h.can_hold.sound h.can_hold.proper h.can_hold.no_fault h.sized

module _ (N : NormalForms) (Z : SpanFileLaws) where
  pub normal_held : (to : Form) (groups : List Group) → IsHeldBy to groups → IsHeldBy to (normal_form to groups)
  normal_held forms.OtlpProto groups h = h
  normal_held forms.OtlpJson groups h = h
  normal_held forms.JaegerBinary groups h = normal_held_by forms.JaegerBinary (λ g h. h) (λ g h. h) (normal groups) (binary_normals N groups h)
  normal_held forms.JaegerCompact groups h = normal_held_by forms.JaegerCompact (λ g h. h) (λ g h. h) (normal groups) (compact_normals N groups h)
  normal_held forms.ZipkinJson groups h = span_file_normal_held Z groups h

  pub normal_again : (to : Form) (groups : List Group) → IsHeldBy to groups → normal_form to (normal_form to groups) ≡ normal_form to groups
  normal_again forms.OtlpProto groups h = refl
  normal_again forms.OtlpJson groups h = refl
  normal_again forms.JaegerBinary groups h = all_itself (normal groups) (binary_normals N groups h)
  normal_again forms.JaegerCompact groups h = all_itself (normal groups) (compact_normals N groups h)
  normal_again forms.ZipkinJson groups h = span_file_normal_again Z groups h

pub normal_spans : SpanFileLaws → (to : Form) (groups : List Group) → span_count (normal_form to groups) ≡ span_count groups
normal_spans Z forms.OtlpProto groups = refl
normal_spans Z forms.OtlpJson groups = refl
normal_spans Z forms.JaegerBinary groups = batches_spans groups
normal_spans Z forms.JaegerCompact groups = batches_spans groups
normal_spans Z forms.ZipkinJson groups = span_file_spans Z groups

module _ (N : ReadIsNormal) (L : InputLaws) where
  noted_faultless : (from : Form) (text : List ℕ) (noted : List NotedGroup) → ReadsNoted from text noted → IsFaultless from (groups_in noted)
  noted_faultless forms.OtlpProto text noted h = request_fine (groups_in noted)
  noted_faultless forms.OtlpJson text noted h = group_file_faultless L.groups text noted h
  noted_faultless forms.JaegerBinary text noted h = batches_faultless binary N L.binary text noted h
  noted_faultless forms.JaegerCompact text noted h = batches_faultless compact N L.compact text noted h
  noted_faultless forms.ZipkinJson text noted h = span_file_faultless L.spans text noted h

  noted_normal : (from : Form) (text : List ℕ) (noted : List NotedGroup) → ReadsNoted from text noted → normal_form from (groups_in noted) ≡ groups_in noted
  noted_normal forms.OtlpProto text noted h = refl
  noted_normal forms.OtlpJson text noted h = refl
  noted_normal forms.JaegerBinary text noted h = batches_normal binary N L.binary text noted h
  noted_normal forms.JaegerCompact text noted h = batches_normal compact N L.compact text noted h
  noted_normal forms.ZipkinJson text noted h = span_file_normal_read L.spans text noted h

  pub faultless_read : (from : Form) (text : List ℕ) (groups : List Group) → Reads from text groups → IsFaultless from groups
  faultless_read from text groups h = subst (IsFaultless from) (sym h.means) (noted_faultless from text h.noted h.text)

  pub normal_read : (from : Form) (text : List ℕ) (groups : List Group) → Reads from text groups → normal_form from groups ≡ groups
  normal_read from text groups h = subst (λ (l : List Group). normal_form from l ≡ l) (sym h.means) (noted_normal from text h.noted h.text)

module _ (L : TextLaws) where
  -- ---- the frames and units of a canonical text

  record_fits : (g : Group) → length (group_record g) < 2 ^ 63 → IsProper (unit_record g)
  unfolding unit_record
  record_fits g h = record {
    number = (omega arith, omega arith);
    held = omega (arith, h, ap length (L.shortest.opened 1 (group_text g)), length-append (opening_text 1 (length (group_text g))) (group_text g));
  }

  record_spelled : (g : Group) → length (group_record g) < 2 ^ 63 → SpellsRecord (group_record g) (unit_record g)
  unfolding unit_record
  record_spelled g h = L.shortest.spelled (unit_record g) (record_fits g h)

  -- no record is too long
  abbrev IsShort : Group → Type 0
  IsShort g = length (group_record g) < 2 ^ 63

  frames_then : (limit : ℕ) (groups : List Group) → All IsShort groups → All (λ g. length (group_record g) ≤ limit) groups → ItemsThen records limit (map group_record groups) [] (request_text groups)
  unfolding ItemsThen
  frames_then limit [] short all = refl
  frames_then limit (g ∷ groups) short all =
      let first : length (group_record g) ≤ limit = All-head (λ g. length (group_record g) ≤ limit) g groups all in
      ((unit_record g, record_spelled g (All-head IsShort g groups short)), first, request_text groups, refl, frames_then limit groups (All-tail IsShort g groups short) (All-tail (λ g. length (group_record g) ≤ limit) g groups all))

  units_held : (groups : List Group) → All IsShort groups → AreRequestUnits (map group_record groups) (map group_text groups)
  unfolding AreRequestUnits unit_record
  units_held [] short = refl
  units_held (g ∷ groups) short =
      (unit_record g, record_spelled g (All-head IsShort g groups short), map group_text groups, refl, units_held groups (All-tail IsShort g groups short))

  plain_units : (groups : List Group) → All IsShort groups → IsSoundTrace groups → IsProperTrace groups → AllZip IsRequestUnit (map group_text groups) (map plain_noted groups)
  plain_units [] short sound proper = tt
  plain_units (g ∷ groups) short sound proper = (
    L.again g (All-head IsSoundGroup g groups sound) (All-head IsProperGroup g groups proper) (All-head IsShort g groups short),
    plain_units groups (All-tail IsShort g groups short) (All-tail IsSoundGroup g groups sound) (All-tail IsProperGroup g groups proper),
  )

  request_read_back : (groups : List Group) → IsSoundTrace groups → IsProperTrace groups → All IsShort groups → ReadsRequest (request_text groups) (map plain_noted groups)
  request_read_back groups sound proper short = record {
    frames = map group_record groups;
    framed = frames_then (length (request_text groups)) groups short (each_within (length (request_text groups)) groups (omega arith));
    units = map group_text groups;
    are_units = units_held groups short;
    are_groups = plain_units groups short sound proper;
  }

  pub read_back : (to : Form) (groups : List Group) → IsHeldBy to groups → ReadsPlainly to (canonical_text to groups) (normal_form to groups)
  read_back forms.OtlpProto groups h = request_read_back groups h.can_hold.sound h.can_hold.proper h.sized
  read_back forms.OtlpJson groups h = group_file_back L.input.groups groups h
  read_back forms.JaegerBinary groups h = batches_back binary L L.input.binary (normal groups) (binary_normals L.normal groups h)
  read_back forms.JaegerCompact groups h = batches_back compact L L.input.compact (normal groups) (compact_normals L.normal groups h)
  read_back forms.ZipkinJson groups h = span_file_back L.input.spans groups h

  -- ---- canonical text converts to itself

  pub to_itself : (to : Form) (limits : Limits) (groups : List Group) → AreLimits limits → IsHeldBy to groups → Fits to limits (canonical_text to groups) → ConvertsToItself to limits (canonical_text to groups) groups
  to_itself to limits groups valid h fits =
      let own : List Group = normal_form to groups in
      let same : own ≡ groups_in (map plain_noted own) = sym (plain_means own) in
      let many : length own ≡ length (map plain_noted own) = sym (length-map own plain_noted) in
      record {
        noted = map plain_noted own;
        whole = reads_whole L.input to limits (canonical_text to groups) (map plain_noted own) (read_back to groups h) fits;
        held = held_units to (map plain_noted own) (subst (CanHoldTrace to) same (normal_held L.normal L.input.spans to groups h).can_hold);
        is_text = ap (λ (l : List Group). trace_text to l) (sym (normal_again L.normal L.input.spans to groups h)) ∙ ap (λ (l : List Group). canonical_text to l) same;
        counts = (λ i. tally_of (many i) (sym (normal_spans L.input.spans to groups) i)) ∙ ap (λ (l : List Group). tally_of (length (map plain_noted own)) (span_count l)) same;
      }

-- ---- bytes are read as one trace at most

-- a text that is read without remarks is read
pub reads_plainly : (to : Form) (text : List ℕ) (groups : List Group) → ReadsPlainly to text groups → Reads to text groups
reads_plainly to text groups h = record { noted = map plain_noted groups; text = h; means = sym (plain_means groups) }

module _ (L : RequestLaws) where
  pub one_request : (text : List ℕ) (a b : List NotedGroup) → ReadsRequest text a → ReadsRequest text b → a ≡ b
  one_request text a b h g =
      let frames : h.frames ≡ g.frames = same_items records RefusedBy L.step L.framing (length text) text h.frames g.frames h.framed g.framed in
      let units : h.units ≡ g.units = units_once L g.frames h.units g.units (subst (λ (l : List (List ℕ)). AreRequestUnits l h.units) frames h.are_units) g.are_units in
      all_zip_once IsRequestUnit (one_group L) g.units a b (subst (λ (l : List (List ℕ)). AllZip IsRequestUnit l a) units h.are_groups) g.are_groups
