-- The laws of normal forms: they are read of what is written, so that they are held and their own; and they have the same spans.
use Rattle.std.proofs.Common.{◌≡◌, List, [], ◌∷◌, ◌++◌, map, All, refl, sym, ap, ◌∙◌, subst}
use Rattle.std.specs.Prelude.{◌↔◌}
use Rattle.std.specs.List.{flat_map}
use Rattle.std.proofs.lemmas.List.Elements.{All-nil, All-head, All-tail, All-append}
use Rattle.trace_model.specs.Soundness.{IsSoundGroup}
use Rattle.trace_model.specs.declared.group.Group.{Group}
use Rattle.map_zipkin.specs.Faults.{HasNoZipkinFault}
use Rattle.zipkin_json.specs.Proper.{IsProperZSpan, IsTimelyZSpan}
use Rattle.zipkin_json.specs.declared.span.ZSpan.{ZSpan}
use Rattle.map_zipkin.specs.StatedLaws.{IsHeldByZipkin, SpansReadBack, WrittenIsWritable, ZipkinNormalForms}
use Rattle.map_zipkin.specs.Normal.{normal_spans, zipkin_normal}
use Rattle.map_zipkin.specs.NotedGroups.{plain_noted, noted_groups_of}
use Rattle.map_zipkin.specs.Reading.{run_span_of, groups_of}
use Rattle.map_zipkin.specs.Remarks.{zipkin_left_out}
use Rattle.map_zipkin.specs.Regrouped.{regrouped}
use Rattle.map_zipkin.specs.Writing.{spans_of_group}
use Rattle.map_zipkin.proofs.EventFacts.{EventsRead, SameEventText}
use Rattle.map_zipkin.proofs.GroupsHeld.{read_sound, read_without_fault}
use Rattle.map_zipkin.proofs.NotedLaws.{groups_noted}
use Rattle.map_zipkin.proofs.ReadNormal.{map_append, read_itself}
use Rattle.map_zipkin.proofs.SameSpans.{same_spans}
use Rattle.map_zipkin.proofs.NormalProper.{TextsAreUtf8, TextsAreProper, normal_proper}

flat_all : {A B : Type 0} → (P : A → Type 0) (Q : B → Type 0) (f : A → List B) → ((a : A) → P a → All Q (f a)) → (l : List A) → All P l → All Q (flat_map f l)
flat_all P Q f each [] all = All-nil Q
flat_all P Q f each (x ∷ l) all = All-append Q (f x) (flat_map f l) (each x (All-head P x l all)) (flat_all P Q f each l (All-tail P x l all))

module _ (facts : EventsRead) (texts : SameEventText) (utf8 : TextsAreUtf8) (bytes : TextsAreProper) (back : SpansReadBack) (written : WrittenIsWritable) where
  abbrev written_of : List Group → List ZSpan
  written_of groups = flat_map spans_of_group groups

  runs_back : (groups : List Group) → All IsHeldByZipkin groups → map run_span_of (written_of groups) ≡ flat_map normal_spans groups
  runs_back [] held = refl
  runs_back (group ∷ groups) held =
      map_append run_span_of (spans_of_group group) (written_of groups)
      ∙ ap (λ l. l ++ map run_span_of (written_of groups)) (back.means group (All-head IsHeldByZipkin group groups held))
      ∙ ap (λ l. normal_spans group ++ l) (runs_back groups (All-tail IsHeldByZipkin group groups held))

  -- what is written is read as the normal form
  groups_back : (groups : List Group) → All IsHeldByZipkin groups → groups_of (written_of groups) ≡ zipkin_normal groups
  groups_back groups held = ap regrouped (runs_back groups held)

  -- on which there is no remark
  noted_back : (groups : List Group) → All IsHeldByZipkin groups → noted_groups_of (written_of groups) ≡ map plain_noted (zipkin_normal groups)
  noted_back groups held =
      (groups_noted.plainly (written_of groups)).1 (flat_all IsHeldByZipkin (λ span. zipkin_left_out span ≡ []) spans_of_group back.plainly groups held)
      ∙ ap (map plain_noted) (groups_back groups held)

  all_proper : (groups : List Group) → All IsHeldByZipkin groups → All IsProperZSpan (written_of groups)
  all_proper groups held = flat_all IsHeldByZipkin IsProperZSpan spans_of_group written.proper groups held

  all_timely : (groups : List Group) → All IsHeldByZipkin groups → All IsTimelyZSpan (written_of groups)
  all_timely groups held = flat_all IsHeldByZipkin IsTimelyZSpan spans_of_group written.timely groups held

  normal_held : (groups : List Group) → All IsHeldByZipkin groups → All IsHeldByZipkin (zipkin_normal groups)
  normal_held groups held k d lt = record {
    sound = subst (All IsSoundGroup) (groups_back groups held) (read_sound facts (written_of groups) (all_timely groups held) (all_proper groups held)) k d lt;
    proper = normal_proper utf8 bytes groups held k d lt;
    no_fault = subst (All HasNoZipkinFault) (groups_back groups held) (read_without_fault facts (written_of groups) (all_timely groups held) (all_proper groups held)) k d lt;
  }

  normal_again : (groups : List Group) → All IsHeldByZipkin groups → zipkin_normal (zipkin_normal groups) ≡ zipkin_normal groups
  normal_again groups held = subst (λ l. zipkin_normal l ≡ l) (groups_back groups held) (read_itself facts (written_of groups) (all_timely groups held))

  normal_equal : (a b : List Group) → All IsHeldByZipkin a → All IsHeldByZipkin b → (written_of a ≡ written_of b) ↔ (zipkin_normal a ≡ zipkin_normal b)
  normal_equal a b held_a held_b = (
    λ same. sym (groups_back a held_a) ∙ ap groups_of same ∙ groups_back b held_b,
    λ same. sym (same_spans texts a held_a) ∙ ap written_of same ∙ same_spans texts b held_b,
  )

  pub normal_forms : ZipkinNormalForms
  normal_forms = record { held = normal_held; itself = normal_again; same_spans = same_spans texts; read_back = noted_back; equal = normal_equal }
