-- The texts of a file of OTLP/JSON, and what is read of them.
use Rattle.std.proofs.Common.{◌≡◌, ℕ, ◌++◌, ◌∷◌, List, [], map, All, refl, sym, subst}
use Rattle.std.proofs.lemmas.List.{map-append}
use Rattle.std.proofs.lemmas.List.Elements.{All-nil, All-cons, All-head, All-tail, All-weaker}
use Rattle.span_io.specs.Outside.{IsFront}
use Rattle.span_io.specs.declared.form.Form.TheVariants as forms
use Rattle.trace_model.specs.Proper.{IsProperGroup}
use Rattle.trace_model.specs.Soundness.{IsSoundGroup, IsSoundTrace}
use Rattle.trace_model.specs.OtlpParts.{NotedGroup}
use Rattle.trace_model.proofs.RemarkLaws.{mapped}
use Rattle.trace_model.specs.declared.group.Group.{Group}
use Rattle.otlp_json.specs.Canonical.{json_group_text, json_groups_text}
use Rattle.otlp_json.specs.Group.{RemarkedGroup}
use Rattle.otlp_json.specs.Held.{IsHeldByJson}
use Rattle.otlp_json.specs.Texts.{AreGroupsText}
use Rattle.map_zipkin.specs.NotedGroups.{plain_noted}
use Rattle.span_convert.specs.Canonical.{IsHeldBy}
use Rattle.span_convert.specs.Documents.{partial_document, closing_document}
use Rattle.span_convert.specs.GroupFiles.{remarked_group, ReadsGroups, group_file}
use Rattle.span_convert.specs.private.InputLaws.{GroupFileLaws}
use Rattle.span_convert.specs.Units.{CanHold, groups_in}
use Rattle.span_convert.specs.Verdicts.{CanHoldTrace, IsFaultless, IsProperTrace}
use Rattle.span_convert.proofs.DocumentTexts.{document_front, document_closed}
use Rattle.span_convert.proofs.GroupFileInputs.{groups_held}

-- ---- what groups add

pub more_pieces : (a b : List Group) → group_file.pieces (a ++ b) ≡ group_file.pieces a ++ map json_group_text b
more_pieces a b = map-append json_group_text a b

pub group_file_front : (a b : List Group) → IsFront (partial_document group_file a) (partial_document group_file (a ++ b))
group_file_front a b = document_front group_file a b (map json_group_text b) (more_pieces a b)

pub group_file_closed : (groups : List Group) → json_groups_text groups ≡ partial_document group_file groups ++ closing_document group_file groups
unfolding json_groups_text
group_file_closed groups = document_closed group_file refl groups

-- ---- what is read of a text

held_groups : (groups : List Group) → CanHoldTrace forms.OtlpJson groups → All IsHeldByJson groups
held_groups groups held = of groups held.sound held.proper held.no_fault
  where
    of : (groups : List Group) → IsSoundTrace groups → IsProperTrace groups → IsFaultless forms.OtlpJson groups → All IsHeldByJson groups
    of [] sound proper fine = All-nil IsHeldByJson
    of (g ∷ groups) sound proper fine = All-cons IsHeldByJson g groups
        (record { sound = All-head IsSoundGroup g groups sound; proper = All-head IsProperGroup g groups proper; no_fault = All-head (CanHold forms.OtlpJson) g groups fine })
        (of groups (All-tail IsSoundGroup g groups sound) (All-tail IsProperGroup g groups proper) (All-tail (CanHold forms.OtlpJson) g groups fine))

module _ (L : GroupFileLaws) where
  -- it has no fault
  pub group_file_faultless : (bytes : List ℕ) (noted : List NotedGroup) → ReadsGroups bytes noted → IsFaultless forms.OtlpJson (groups_in noted)
  group_file_faultless bytes noted h = All-weaker IsHeldByJson (CanHold forms.OtlpJson) (λ g held. held.no_fault) (groups_in noted) (groups_held L bytes noted h)

  module _ (groups : List Group) (held : IsHeldBy forms.OtlpJson groups) where
    -- the text of a trace that OTLP/JSON can hold is read back, without remarks
    pub group_file_back : ReadsGroups (json_groups_text groups) (map plain_noted groups)
    group_file_back =
        subst (λ (l : List RemarkedGroup). AreGroupsText l (json_groups_text groups)) (sym (mapped remarked_group plain_noted groups)) (L.again.text groups (held_groups groups held.can_hold))
