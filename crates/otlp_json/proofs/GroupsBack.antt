-- The text of groups that JSON can hold is a text of these groups, and of no others.
use Rattle.std.proofs.Common.{◌≡◌, ℕ, ◌<◌, ◌^◌, List, [], ◌∷◌, ◌++◌, map, All, get_or, false, codes, refl, sym, ap, subst, ◌∙◌, arith, append_assoc}
use Rattle.std.specs.List.{list_any, join_with_byte}
use Rattle.std.proofs.lemmas.Bool.{or_parts}
use Rattle.json.proofs.OnLiterals.{json_on_literals}
use Rattle.serde_json.specs.Data.{Data}
use Rattle.serde_json.specs.View.{items_of}
use Rattle.serde_json.specs.Written.{compact_text, items_text}
use Rattle.trace_model.specs.EventTexts.{holds_double}
use Rattle.trace_model.specs.OtlpParts.{kind_number, code_number}
use Rattle.trace_model.specs.Proper.{IsProperStatus, IsProperEvent, IsProperLink, IsProperSpan, IsProperScope}
use Rattle.trace_model.specs.Soundness.{IsSoundEvent, IsSoundLink, IsSoundSpan, IsSoundScope}
use Rattle.trace_model.specs.declared.span.Code.{Code}
use Rattle.trace_model.specs.declared.span.Code.TheVariants as statuses
use Rattle.trace_model.specs.declared.span.Event.{Event}
use Rattle.trace_model.specs.declared.span.Kind.{Kind}
use Rattle.trace_model.specs.declared.span.Kind.TheVariants as kinds
use Rattle.trace_model.specs.declared.span.Link.{Link}
use Rattle.trace_model.specs.declared.span.Span.{Span}
use Rattle.trace_model.specs.declared.span.Status.{Status}
use Rattle.trace_model.specs.declared.group.Group.{Group}
use Rattle.trace_model.specs.declared.group.Scope.{Scope}
use Rattle.trace_model.proofs.RemarkLaws.{all_back}
use Rattle.json_members.specs.Canonical.{members_given, unless_empty}
use Rattle.json_members.proofs.ReadBackLaws.{GivesBack, GivenGivesBack, gives_deeper, reads_back, array_back, object_back, rows_back, unless_empty_back}
use Rattle.json_members.proofs.TextLaws.{text_back, number_back, trace_back, id_back, parent_back, items_joined}
use Rattle.otlp_json.specs.Canonical.{status_rows, event_rows, event_data, link_rows, link_data, otlp_span_rows, otlp_span_data, instrumentation_scope_rows, scope_rows, scope_data, resource_rows, group_rows, group_data, json_group_text, groups_data, json_groups_text}
use Rattle.otlp_json.specs.Doubles.{double_in_event, double_in_link, double_in_span, double_in_scope}
use Rattle.otlp_json.specs.Group.{RemarkedGroup, AreJsonGroups}
use Rattle.otlp_json.specs.Held.{IsHeldByJson}
use Rattle.otlp_json.specs.StatedLaws.{OneJsonGroups, GroupsWrittenAgain, EqualGroupsTexts}
use Rattle.otlp_json.specs.Texts.{AreGroupsText, unremarked}
use Rattle.otlp_json.proofs.ValuesBack.{one_back, decimal_back, each_back, list_back, attributes_back}
use Rattle.otlp_json.proofs.WrittenGroups.{group_again, groups_again}
use Rattle.otlp_json.proofs.WrittenLaws.{Laws}
use Rattle.otlp_json.proofs.WrittenLists.{none_passes}

-- ---- numbers

wider : (count : ℕ) → count < 2 ^ 32 → count < 2 ^ 64
wider count h = omega (arith, h)

kind_fits : (kind : Kind) → kind_number kind < 2 ^ 64
kind_fits kinds.Unspecified = omega arith
kind_fits kinds.Internal = omega arith
kind_fits kinds.Server = omega arith
kind_fits kinds.Client = omega arith
kind_fits kinds.Producer = omega arith
kind_fits kinds.Consumer = omega arith

code_fits : (code : Code) → code_number code < 2 ^ 64
code_fits statuses.Unset = omega arith
code_fits statuses.Okay = omega arith
code_fits statuses.Fail = omega arith

-- ---- spans

status_back : (s : Status) → IsProperStatus s → GivenGivesBack 100 (unless_empty (members_given (status_rows s)))
status_back s proper = unless_empty_back 99 _ (rows_back 99 (status_rows s) refl (number_back 99 (code_number s.code) (code_fits s.code), (text_back 99 s.message proper.message, tt)))

module _ (L : Laws) where
  event_back : (e : Event) → IsSoundEvent e → IsProperEvent e → double_in_event e ≡ false → GivesBack 99 (event_data e)
  event_back e sound proper none =
      object_back 98 _ (rows_back 98 (event_rows e) refl (
        attributes_back L 98 e.attributes (omega arith) sound proper.attributes none,
        (number_back 98 e.dropped (wider e.dropped proper.dropped), (text_back 98 e.name proper.name, (decimal_back 98 e.time proper.time, tt))),
      ))

  link_back : (l : Link) → IsSoundLink l → IsProperLink l → double_in_link l ≡ false → GivesBack 99 (link_data l)
  link_back l sound proper none =
      object_back 98 _ (rows_back 98 (link_rows l) refl (
        attributes_back L 98 l.attributes (omega arith) sound proper.attributes none,
        (
          number_back 98 l.dropped (wider l.dropped proper.dropped),
          (
            number_back 98 l.flags (wider l.flags proper.flags),
            (id_back L.ids 98 l.span proper.span, (trace_back L.ids 98 l.trace proper.trace, (text_back 98 l.state proper.state, tt))),
          ),
        ),
      ))

  span_back : (s : Span) → IsSoundSpan s → IsProperSpan s → double_in_span s ≡ false → GivesBack 101 (otlp_span_data s)
  span_back s sound proper none =
      let own = or_parts (holds_double s.attributes) _ none in
      let inside = or_parts (list_any double_in_event s.events) _ own.1 in
      object_back 100 _ (rows_back 100 (otlp_span_rows s) refl (
        attributes_back L 100 s.attributes (omega arith) sound.attributes proper.attributes own.0,
        (
          number_back 100 s.dropped_attributes (wider s.dropped_attributes proper.dropped_attributes),
          (
            number_back 100 s.dropped_events (wider s.dropped_events proper.dropped_events),
            (
              number_back 100 s.dropped_links (wider s.dropped_links proper.dropped_links),
              (
                decimal_back 100 s.end proper.end,
                (
                  list_back event_data 99 s.events
                      (λ k e lt. event_back (get_or s.events k e) (sound.events k e lt) (proper.events k e lt) (none_passes double_in_event s.events inside.0 k e lt)),
                  (
                    number_back 100 s.flags (wider s.flags proper.flags),
                    (
                      number_back 100 (kind_number s.kind) (kind_fits s.kind),
                      (
                        list_back link_data 99 s.links
                            (λ k l lt. link_back (get_or s.links k l) (sound.links k l lt) (proper.links k l lt) (none_passes double_in_link s.links inside.1 k l lt)),
                        (
                          text_back 100 s.name proper.name,
                          (
                            parent_back L.ids 100 s.parent proper.parent,
                            (
                              id_back L.ids 100 s.id proper.id,
                              (
                                decimal_back 100 s.start proper.start,
                                (status_back s.status proper.status, (trace_back L.ids 100 s.trace proper.trace, (text_back 100 s.state proper.state, tt))),
                              ),
                            ),
                          ),
                        ),
                      ),
                    ),
                  ),
                ),
              ),
            ),
          ),
        ),
      ))

  -- ---- groups

  instrumentation_back : (s : Scope) → IsSoundScope s → IsProperScope s → holds_double s.attributes ≡ false → GivenGivesBack 102 (unless_empty (members_given (instrumentation_scope_rows s)))
  instrumentation_back s sound proper none =
      unless_empty_back 101 _ (rows_back 101 (instrumentation_scope_rows s) refl (
        attributes_back L 101 s.attributes (omega arith) sound.attributes proper.attributes none,
        (number_back 101 s.dropped (wider s.dropped proper.dropped), (text_back 101 s.name proper.name, (text_back 101 s.version proper.version, tt))),
      ))

  scope_back : (s : Scope) → IsSoundScope s → IsProperScope s → double_in_scope s ≡ false → GivesBack 103 (scope_data s)
  scope_back s sound proper none =
      let own = or_parts (holds_double s.attributes) _ none in
      object_back 102 _ (rows_back 102 (scope_rows s) refl (
        text_back 102 s.schema_url proper.schema_url,
        (
          instrumentation_back s sound proper own.0,
          (
            list_back otlp_span_data 101 s.spans
                (λ k x lt. span_back (get_or s.spans k x) (sound.spans k x lt) (proper.spans k x lt) (none_passes double_in_span s.spans own.1 k x lt)),
            tt,
          ),
        ),
      ))

  group_back : (g : Group) → IsHeldByJson g → GivesBack 105 (group_data g)
  group_back g h =
      let own = or_parts (holds_double g.resource) _ h.no_fault in
      object_back 104 _ (rows_back 104 (group_rows g) refl (
        unless_empty_back 103 _ (rows_back 103 (resource_rows g) refl (
          attributes_back L 103 g.resource (omega arith) h.sound.resource h.proper.resource own.0,
          (number_back 103 g.dropped (wider g.dropped h.proper.dropped), tt),
        )),
        (
          text_back 104 g.schema_url h.proper.schema_url,
          (
            list_back scope_data 103 g.scopes
                (λ k x lt. scope_back (get_or g.scopes k x) (h.sound.scopes k x lt) (h.proper.scopes k x lt) (none_passes double_in_scope g.scopes own.1 k x lt)),
            tt,
          ),
        ),
      ))

  groups_back : (groups : List Group) → All IsHeldByJson groups → GivesBack 127 (groups_data groups)
  groups_back groups h =
      let each : All (λ g. GivesBack 105 (group_data g)) groups = λ k g lt. group_back (get_or groups k g) (h k g lt) in
      gives_deeper 107 127 (groups_data groups) (omega arith) (one_back 106 (codes "resourceSpans") _ refl (array_back 105 _ (each_back group_data 105 groups each)))

-- ---- the whole text

list_text : (groups : List Group) → items_text false (items_of (map group_data groups)) ≡ join_with_byte 44 (map json_group_text groups) ++ codes "]"
unfolding json_group_text
list_text [] = refl
list_text (g ∷ more) = items_joined group_data g more

whole_text : (groups : List Group) → compact_text (groups_data groups) ≡ json_groups_text groups
unfolding json_groups_text json_on_literals
whole_text groups =
    ap (λ l. codes "{\"resourceSpans\":[" ++ (l ++ codes "}")) (list_text groups)
    ∙ ap (λ l. codes "{\"resourceSpans\":[" ++ l) (append_assoc (join_with_byte 44 (map json_group_text groups)) (codes "]") (codes "}"))

module _ (L : Laws) where
  pub text_again : (groups : List Group) → All IsHeldByJson groups → AreGroupsText (unremarked groups) (json_groups_text groups)
  text_again groups h =
      let back = groups_back L groups h in
      subst (AreGroupsText (unremarked groups)) (whole_text groups) (record {
        value = groups_data groups;
        is_text = record { utf8 = back.utf8; reading = reads_back (groups_data groups) back };
        are_groups = groups_again L groups h;
      })

  pub all_again : GroupsWrittenAgain
  all_again = record { group = group_again L; groups = groups_again L; text = text_again }

one_text : OneJsonGroups → (bytes : List ℕ) (a b : List RemarkedGroup) → AreGroupsText a bytes → AreGroupsText b bytes → a ≡ b
one_text laws bytes a b h k =
    let i = h.is_text.reading in
    let j = k.is_text.reading in
    let same : h.value ≡ k.value = cc in
    laws.once k.value a b (subst (λ (d : Data). AreJsonGroups a d) same h.are_groups) k.are_groups

remarked_once : (a b : List Group) → unremarked a ≡ unremarked b → a ≡ b
remarked_once a b e = sym (all_back (λ (g : RemarkedGroup). g.0) (λ g. (g, [])) (λ g. refl) a) ∙ ap (map (λ (g : RemarkedGroup). g.0)) e ∙ all_back (λ (g : RemarkedGroup). g.0) (λ g. (g, [])) (λ g. refl) b

pub equal_texts : OneJsonGroups → GroupsWrittenAgain → EqualGroupsTexts
equal_texts laws written a b h k = (
  (λ same. remarked_once a b (one_text laws (json_groups_text b) (unremarked a) (unremarked b) (subst (AreGroupsText (unremarked a)) same (written.text a h)) (written.text b k))),
  (λ same. ap json_groups_text same),
)
