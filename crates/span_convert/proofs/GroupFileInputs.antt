-- What a text of OTLP/JSON is a text of: one list of groups, or an offence in it counts.
use Rattle.std.proofs.Common.{◌≡◌, ◌⊎◌, inl, inr, ℕ, ◌∷◌, List, [], map, All, refl, ap, sym, ◌∙◌, subst}
use Rattle.std.proofs.lemmas.List.Elements.{All-nil, All-cons, All-head, All-tail, All-weaker}
use Rattle.serde_json.specs.Data.{Data}
use Rattle.span_io.specs.Causes.{cause_number}
use Rattle.span_io.specs.Paths.{Counts, NothingOffends}
use Rattle.span_io.specs.declared.cause.Cause.{Cause}
use Rattle.trace_model.specs.Proper.{IsProperGroup}
use Rattle.trace_model.specs.Soundness.{IsSoundGroup, IsSoundTrace}
use Rattle.trace_model.specs.OtlpParts.{NotedGroup}
use Rattle.trace_model.proofs.RemarkLaws.{mapped, all_back}
use Rattle.trace_model.specs.declared.group.Group.{Group}
use Rattle.json_members.proofs.ReadingLaws.{same_value}
use Rattle.json_members.specs.Texts.{IsJsonText}
use Rattle.otlp_json.specs.Group.{RemarkedGroup, AreJsonGroups, json_groups_offend}
use Rattle.otlp_json.specs.Held.{IsHeldByJson}
use Rattle.otlp_json.specs.Texts.{AreGroupsText, groups_document_offends}
use Rattle.map_zipkin.specs.NotedGroups.{noted_group}
use Rattle.span_convert.specs.GroupFiles.{remarked_group, ReadsGroups, group_document}
use Rattle.span_convert.specs.private.InputLaws.{GroupFileLaws}
use Rattle.span_convert.specs.Units.{groups_in}
use Rattle.span_convert.specs.Verdicts.{IsProperTrace}
use Rattle.span_convert.proofs.DocumentInputs.{DocumentLaws, IsDecidedText}
use Rattle.span_convert.proofs.JsonTexts.{fine_text, decided_text}

-- what holds of each group beside its remarks holds of each of the groups
pub all_groups : (P : Group → Type 0) (remarked : List RemarkedGroup) → All (λ group. P group.0) remarked → All P (map (λ group. group.0) remarked)
all_groups P [] all = All-nil P
all_groups P (group ∷ more) all =
    All-cons P group.0 (map (λ group. group.0) more) (All-head (λ (g : RemarkedGroup). P g.0) group more all) (all_groups P more (All-tail (λ (g : RemarkedGroup). P g.0) group more all))

-- what is read, with its remarks in a pair or in a record
pub beside_remarks : (bytes : List ℕ) (groups : List RemarkedGroup) → AreGroupsText groups bytes → ReadsGroups bytes (map noted_group groups)
beside_remarks bytes groups text = subst (λ (l : List RemarkedGroup). AreGroupsText l bytes) (sym (all_back remarked_group noted_group (λ pair. refl) groups)) text

module _ (L : GroupFileLaws) where
  one_groups : (bytes : List ℕ) (a b : List RemarkedGroup) → AreGroupsText a bytes → AreGroupsText b bytes → a ≡ b
  one_groups bytes a b h k =
      L.one.once h.value a b h.are_groups (subst (λ (v : Data). AreJsonGroups b v) (same_value bytes h.value h.is_text k.value k.is_text) k.are_groups)

  once : (bytes : List ℕ) (a b : List NotedGroup) → ReadsGroups bytes a → ReadsGroups bytes b → a ≡ b
  once bytes a b h k =
      sym (all_back noted_group remarked_group (λ unit. refl) a)
      ∙ ap (map noted_group) (one_groups bytes (map remarked_group a) (map remarked_group b) h k)
      ∙ all_back noted_group remarked_group (λ unit. refl) b

  fine : (bytes : List ℕ) (noted : List NotedGroup) → ReadsGroups bytes noted → NothingOffends (groups_document_offends bytes)
  fine bytes noted h = fine_text json_groups_offend bytes h.value h.is_text (L.one.fine h.value (map remarked_group noted) h.are_groups)

  decided : (bytes : List ℕ) → IsDecidedText group_document bytes
  decided bytes = of (decided_text json_groups_offend bytes (λ (d : Data). (groups : List RemarkedGroup) × AreJsonGroups groups d) L.some)
    where
      of : ((d : Data) × IsJsonText d bytes × ((groups : List RemarkedGroup) × AreJsonGroups groups d)) ⊎ ((cause : Cause) × Counts (groups_document_offends bytes) (cause_number cause))
          → IsDecidedText group_document bytes
      of (inl (d, is, (groups, are))) =
          inl (map noted_group groups, beside_remarks bytes groups (record { value = d; is_text = is; are_groups = are }))
      of (inr h) = inr h

  -- OTLP/JSON can hold what is read of it
  pub groups_held : (bytes : List ℕ) (noted : List NotedGroup) → ReadsGroups bytes noted → All IsHeldByJson (groups_in noted)
  groups_held bytes noted h =
      subst (All IsHeldByJson) (mapped (λ (group : RemarkedGroup). group.0) remarked_group noted)
      (all_groups IsHeldByJson (map remarked_group noted) (L.held (map remarked_group noted) bytes h))

  sound : (bytes : List ℕ) (noted : List NotedGroup) → ReadsGroups bytes noted → IsSoundTrace (groups_in noted)
  sound bytes noted h = All-weaker IsHeldByJson IsSoundGroup (λ g held. held.sound) (groups_in noted) (groups_held bytes noted h)

  proper : (bytes : List ℕ) (noted : List NotedGroup) → ReadsGroups bytes noted → IsProperTrace (groups_in noted)
  proper bytes noted h = All-weaker IsHeldByJson IsProperGroup (λ g held. held.proper) (groups_in noted) (groups_held bytes noted h)

  pub group_file_laws : DocumentLaws group_document
  group_file_laws = record { once = once; fine = fine; decided = decided; sound = sound; proper = proper }
