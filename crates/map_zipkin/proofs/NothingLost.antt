-- Nothing is lost of groups exactly where they are their own normal form.
use Rattle.std.proofs.Common.{◌≡◌, ℕ, Bool, true, false, not, List, [], ◌∷◌, ◌++◌, map, All, Option, Some, None, option_map, refl, sym, ap, ◌∙◌, subst, true≢false}
use Rattle.std.specs.Prelude.{◌≢◌, ◌&&◌, if◌then◌else◌, ⊤}
use Rattle.std.specs.List.{flat_map}
use Rattle.std.specs.Option.{option_or}
use Rattle.std.specs.Str.{bytes_eq}
use Rattle.std.proofs.lemmas.List.Elements.{All-nil, All-cons, All-head, All-tail, All-weaker}
use Rattle.trace_model.specs.Attributes.{Rise, keys}
use Rattle.trace_model.specs.Soundness.{IsSoundGroup, IsSoundScope, IsSoundSpan}
use Rattle.trace_model.specs.ValueTexts.{value_text}
use Rattle.trace_model.specs.declared.loss.Loss.{Loss}
use Rattle.trace_model.specs.declared.loss.LossRow.TheVariants as rows
use Rattle.trace_model.specs.declared.place.Place.TheVariants as places
use Rattle.trace_model.specs.declared.span.Span.{Span}
use Rattle.trace_model.specs.declared.group.Group.{Group}
use Rattle.trace_model.specs.declared.group.Scope.{Scope}
use Rattle.span_tags.proofs.AttributeLaws.{key_itself}
use Rattle.span_tags.specs.Losses.{is_empty, differ, lost, lost_keys, Names, named, scopes_losses}
use Rattle.span_tags.proofs.QuietLaws.{Quiet, both, quiet_as, row_quiet, differ_not, given_not, same_test, same_parts, keys_quiet, scopes_quiet}
use Rattle.span_tags.specs.Runs.{IsPlain}
use Rattle.span_tags.proofs.RunLaws.{in_front_spans, scoped_all, on_span}
use Rattle.span_tags.specs.Runs.{Scoped, spans_of, scoped, in_front, runs}
use Rattle.span_tags.specs.TagKeys.{service_key}
use Rattle.span_tags.specs.TagWords.{Pairs}
use Rattle.map_zipkin.specs.Keys.{peer_key}
use Rattle.map_zipkin.specs.StatedLaws.{IsPlainGroup, NothingLost}
use Rattle.map_zipkin.specs.Losses.{goes, changes, span_losses, resource_losses, follows, names_before, last_of, run_behind, has_no_span, unit_losses, group_losses, groups_losses}
use Rattle.map_zipkin.specs.private.LossWalks.{kept_texts}
use Rattle.map_zipkin.specs.Normal.{normal_pairs, zipkin_normal_span, normal_one, normal_spans}
use Rattle.map_zipkin.specs.Regrouped.{RunSpan, in_scope, run_of, runs_of, same_resource, plain_group, group_of_one, before, regrouped}
use Rattle.map_zipkin.specs.Writing.{as_text}
use Rattle.map_zipkin.specs.declared.run.Run.{Run}
use Rattle.map_zipkin.proofs.HeldSpans.{scope_sound}
use Rattle.map_zipkin.proofs.KeptTexts.{normal_kept, all_stay, none_go}
use Rattle.map_zipkin.proofs.QuietSpans.{pairs_stay, values_stay, keys_stay, BytesStay, plain_span, span_quiet}
use Rattle.map_zipkin.proofs.ReadNormal.{map_map}
use Rattle.map_zipkin.proofs.Regrouping.{regrouped_spans, regroupings}

-- ---- normal forms that are made pair by pair

abbrev texts_of : Group → Pairs
texts_of group = kept_texts service_key group.resource

abbrev plain_spans : Group → List (Scoped Span)
plain_spans group = map (on_span plain_span) (scoped group.scopes)

normal_plain : (span : Span) → IsSoundSpan span → zipkin_normal_span span ≡ plain_span span
normal_plain span sound =
    let same = normal_kept peer_key span.attributes sound.attributes.rising in λ i. record (zipkin_normal_span span) { attributes = same i }

sound_spans : (group : Group) → IsSoundGroup group → All (λ one. IsSoundSpan one.span) (scoped group.scopes)
sound_spans group sound = scoped_all (λ one. IsSoundSpan one.span) group.scopes
    (All-weaker IsSoundScope (λ scope. All (λ one. IsSoundSpan one.span) (spans_of scope)) scope_sound group.scopes sound.scopes)

same_map : {A B : Type 0} (f g : A → B) (P : A → Type 0) → ((x : A) → P x → f x ≡ g x) → (xs : List A) → All P xs → map f xs ≡ map g xs
same_map f g P each [] all = refl
same_map f g P each (x ∷ xs) all =
    let here = each x (All-head P x xs all) in
    let rest = same_map f g P each xs (All-tail P x xs all) in
    λ i. here i ∷ rest i

resource_texts : (group : Group) → IsSoundGroup group → normal_pairs service_key group.resource ≡ texts_of group
resource_texts group sound = normal_kept service_key group.resource sound.resource.rising

spans_texts : (group : Group) → IsSoundGroup group → normal_spans group ≡ map (run_of (texts_of group)) (plain_spans group)
spans_texts group sound =
    let resource = resource_texts group sound in
    same_map (normal_one group.resource) (λ one. run_of (texts_of group) (on_span plain_span one)) (λ one. IsSoundSpan one.span)
    (λ one its. let span = normal_plain one.span its in λ i. (record { resource = resource i; name = one.name; version = one.version }, span i))
    (scoped group.scopes) (sound_spans group sound)
    ∙ sym (map_map (run_of (texts_of group)) (on_span plain_span) (scoped group.scopes))

-- ---- of one group nothing is lost

record IsOwnGroup (before_it : Option Run) (group : Group) : Type 0 where
  some : has_no_span group ≡ false
  apart : follows before_it group.resource ≡ false
  resource : texts_of group ≡ group.resource
  dropped : group.dropped ≡ 0
  schema_url : group.schema_url ≡ []
  scopes : runs (plain_spans group) ≡ group.scopes

abbrev AreOwnGroups : Option Run → List Group → Type 0
AreOwnGroups last [] = ⊤
AreOwnGroups last (group ∷ groups) = IsOwnGroup last group × AreOwnGroups (run_behind last group) groups

itself_quiet : (xs : List Loss) → Quiet xs (xs ≡ [])
itself_quiet xs = (λ e. e, λ e. e)

left_true : (a b : Bool) → a ≡ false → (not a && b) ≡ false → b ≡ false
left_true true b e both_false = absurd (true≢false e)
left_true false b e both_false = both_false

names_none : (last : Option Run) (resource : Pairs) → follows last resource ≡ false → names_before last resource ≡ None
names_none last resource apart =
    ap (λ (b : Bool). if b then option_map (λ (run : Run). named run.name run.version) last else None) apart

unit_quiet : (last : Option Run) (group : Group)
    → Quiet (unit_losses last group) ((has_no_span group ≡ false) × ((not (has_no_span group) && follows last group.resource) ≡ false))
unit_quiet last group =
    let joined : Bool = not (has_no_span group) && follows last group.resource in
    both (lost places.Whole rows.UnitEmpty (has_no_span group)) (lost places.Whole rows.UnitJoined joined)
    (row_quiet places.Whole rows.UnitEmpty [] (has_no_span group) (same_test (has_no_span group))) (row_quiet places.Whole rows.UnitJoined [] joined (same_test joined))

resource_quiet : (group : Group) → Quiet (resource_losses group) ((texts_of group ≡ group.resource) × ((group.dropped ≡ 0) × (group.schema_url ≡ [])))
resource_quiet group =
    let resource = group.resource in
    let rest_2 = both (lost places.Resource rows.SchemaUrl (not (is_empty group.schema_url))) _
    (row_quiet places.Resource rows.SchemaUrl [] _ (given_not group.schema_url)) (keys_quiet places.Resource rows.Empty (goes service_key) resource) in
    let rest_1 = both (lost places.Resource rows.DroppedCount (differ group.dropped 0)) _ (row_quiet places.Resource rows.DroppedCount [] _ (differ_not group.dropped 0)) rest_2 in
    quiet_as (resource_losses group)
    (both (lost_keys places.Resource rows.Value (changes service_key) resource) _ (keys_quiet places.Resource rows.Value (changes service_key) resource) rest_1)
    (λ holds. (all_stay service_key resource (pairs_stay service_key resource holds.0 holds.1.1.1), (holds.1.0, holds.1.1.0)))
    (λ stays. let all = none_go service_key resource stays.0 in
    (values_stay service_key resource all, (stays.1.0, (stays.1.1, keys_stay service_key resource all))))

module _ (bytes : BytesStay) where
  spans_quiet : (scopes : List Scope) → Quiet (scopes_losses span_losses 1 1 None scopes) (runs (map (on_span plain_span) (scoped scopes)) ≡ scopes)
  spans_quiet scopes = scopes_quiet plain_span span_losses (span_quiet bytes) 1 1 scopes

  group_quiet : (last : Option Run) (group : Group) → Quiet (group_losses last group) (IsOwnGroup last group)
  group_quiet last group =
      let names = names_before last group.resource in
      quiet_as (group_losses last group)
      (both (unit_losses last group) _ (unit_quiet last group)
      (both (resource_losses group) (scopes_losses span_losses 1 1 names group.scopes) (resource_quiet group) (itself_quiet (scopes_losses span_losses 1 1 names group.scopes))))
      (λ holds.
      let apart = left_true (has_no_span group) (follows last group.resource) holds.0.0 holds.0.1 in
      record {
        some = holds.0.0;
        apart = apart;
        resource = holds.1.0.0;
        dropped = holds.1.0.1.0;
        schema_url = holds.1.0.1.1;
        scopes = (spans_quiet group.scopes).0 (ap (λ (n : Option Names). scopes_losses span_losses 1 1 n group.scopes) (sym (names_none last group.resource apart)) ∙ holds.1.1);
      })
      (λ own. (
        (own.some, ap (λ b. not b && follows last group.resource) own.some ∙ own.apart),
        (
          (own.resource, (own.dropped, own.schema_url)),
          ap (λ (n : Option Names). scopes_losses span_losses 1 1 n group.scopes) (names_none last group.resource own.apart) ∙ (spans_quiet group.scopes).1 own.scopes,
        ),
      ))

  groups_quiet : (last : Option Run) (groups : List Group) → Quiet (groups_losses last groups) (AreOwnGroups last groups)
  groups_quiet last [] = (λ e. tt, λ own. refl)
  groups_quiet last (group ∷ groups) =
      both (group_losses last group) (groups_losses (run_behind last group) groups) (group_quiet last group) (groups_quiet (run_behind last group) groups)

-- ---- the run of the last span

-- it has the resource of the group
record IsBehind (group : Group) (run : Option Run) : Type 0 where
  last : Run
  is : run ≡ Some last
  resource : last.resource ≡ normal_pairs service_key group.resource

last_in : (resource : Pairs) (one : Scoped Span) (more : List (Scoped Span))
    → (run : Run) × (option_map (λ (span : RunSpan). span.0) (last_of (map (normal_one resource) (one ∷ more))) ≡ Some run) × (run.resource ≡ normal_pairs service_key resource)
last_in resource one [] = ((normal_one resource one).0, refl, refl)
last_in resource one (next ∷ more) = last_in resource next more

is_behind : (last : Option Run) (group : Group) → has_no_span group ≡ false → IsBehind group (run_behind last group)
is_behind last group some = by (scoped group.scopes) some
  where
    by : (spans : List (Scoped Span)) → is_empty spans ≡ false
        → IsBehind group (option_or (option_map (λ (span : RunSpan). span.0) (last_of (map (normal_one group.resource) spans))) last)
    by [] empty = absurd (true≢false empty)
    by (one ∷ more) given =
        let found = last_in group.resource one more in
        record { last = found.0; is = ap (λ (run : Option Run). option_or run last) found.1; resource = found.2 }

-- ---- groups that are regrouped as they are

both_true : (a b : Bool) → a ≡ true → b ≡ true → (a && b) ≡ true
both_true a b first second = ap (λ x. x && b) first ∙ second

kept_itself : (key : List ℕ) (l : Pairs) → same_resource (kept_texts key l) (kept_texts key l) ≡ true
kept_itself key [] = refl
kept_itself key (pair ∷ l) = by (goes key pair) (kept_itself key l)
  where
    by : (b : Bool) → same_resource (kept_texts key l) (kept_texts key l) ≡ true
        → same_resource ((if b then [] else as_text pair ∷ []) ++ kept_texts key l) ((if b then [] else as_text pair ∷ []) ++ kept_texts key l) ≡ true
    by true rest = rest
    by false rest =
        both_true (bytes_eq pair.0 pair.0 && bytes_eq (value_text pair.1) (value_text pair.1)) (same_resource (kept_texts key l) (kept_texts key l))
        (both_true (bytes_eq pair.0 pair.0) (bytes_eq (value_text pair.1) (value_text pair.1)) (key_itself pair.0) (key_itself (value_text pair.1))) rest

-- a resource in normal form is the same as itself
pub resource_itself : (resource : Pairs) → Rise (keys resource) → same_resource (normal_pairs service_key resource) (normal_pairs service_key resource) ≡ true
resource_itself resource up =
    ap (λ (pairs : Pairs). same_resource pairs pairs) (normal_kept service_key resource up) ∙ kept_itself service_key resource

-- the first group has another resource
abbrev BeginsApart : Pairs → List Group → Type 0
BeginsApart resource [] = ⊤
BeginsApart resource (group ∷ groups) = same_resource resource group.resource ≡ false

one_apart : (resource : Pairs) (one : Scoped Span) (groups : List Group) → BeginsApart resource groups
    → before (run_of resource one) groups ≡ plain_group resource (in_front one []) ∷ groups
one_apart resource one [] apart = refl
one_apart resource one (group ∷ groups) apart =
    ap (λ (b : Bool). if b then plain_group group.resource (in_front one group.scopes) ∷ groups else plain_group resource (in_front one []) ∷ group ∷ groups) apart

front_group : (resource : Pairs) → same_resource resource resource ≡ true → (one : Scoped Span) (more : List (Scoped Span)) (rest : List RunSpan)
    → BeginsApart resource (regrouped rest) → regrouped (map (run_of resource) (one ∷ more) ++ rest) ≡ plain_group resource (runs (one ∷ more)) ∷ regrouped rest
front_group resource itself one [] rest apart = one_apart resource one (regrouped rest) apart
front_group resource itself one (next ∷ more) rest apart =
    ap (before (run_of resource one)) (front_group resource itself next more rest apart)
    ∙ ap (λ (b : Bool). if b then plain_group resource (in_front one (runs (next ∷ more))) ∷ regrouped rest
    else plain_group resource (in_front one []) ∷ plain_group resource (runs (next ∷ more)) ∷ regrouped rest) itself

front_some : (resource : Pairs) → same_resource resource resource ≡ true → (spans : List (Scoped Span)) (rest : List RunSpan) → is_empty spans ≡ false
    → BeginsApart resource (regrouped rest) → regrouped (map (run_of resource) spans ++ rest) ≡ plain_group resource (runs spans) ∷ regrouped rest
front_some resource itself [] rest some apart = absurd (true≢false some)
front_some resource itself (one ∷ more) rest some apart = front_group resource itself one more rest apart

still_some : (f : Span → Span) (spans : List (Scoped Span)) → is_empty (map (on_span f) spans) ≡ is_empty spans
still_some f [] = refl
still_some f (one ∷ more) = refl

own_group : (last : Option Run) (group : Group) → IsOwnGroup last group → plain_group (texts_of group) (runs (plain_spans group)) ≡ group
own_group last group own = λ i. record {
  resource = own.resource i;
  dropped = sym own.dropped i;
  schema_url = sym own.schema_url i;
  scopes = own.scopes i;
}

begins_apart : (last : Option Run) (group : Group) (groups : List Group) → IsSoundGroup group → All IsSoundGroup groups → has_no_span group ≡ false
    → AreOwnGroups (run_behind last group) groups → BeginsApart (texts_of group) groups
begins_apart last group [] sound all some own = tt
begins_apart last group (next ∷ groups) sound all some own =
    let behind = is_behind last group some in
    let its : normal_pairs service_key next.resource ≡ next.resource = resource_texts next (All-head IsSoundGroup next groups all) ∙ own.0.resource in
    ap (same_resource (texts_of group)) (sym its)
    ∙ ap (λ (r : Pairs). same_resource r (normal_pairs service_key next.resource)) (sym (behind.resource ∙ resource_texts group sound))
    ∙ ap (λ (run : Option Run). follows run next.resource) (sym behind.is)
    ∙ own.0.apart

own_regrouped : (last : Option Run) (groups : List Group) → All IsSoundGroup groups → AreOwnGroups last groups → regrouped (flat_map normal_spans groups) ≡ groups
own_regrouped last [] all own = refl
own_regrouped last (group ∷ groups) all own =
    let sound = All-head IsSoundGroup group groups all in
    let others = All-tail IsSoundGroup group groups all in
    let rest : regrouped (flat_map normal_spans groups) ≡ groups = own_regrouped (run_behind last group) groups others own.1 in
    ap (λ (l : List RunSpan). regrouped (l ++ flat_map normal_spans groups)) (spans_texts group sound)
    ∙ front_some (texts_of group) (kept_itself service_key group.resource) (plain_spans group) (flat_map normal_spans groups)
    (still_some plain_span (scoped group.scopes) ∙ own.0.some)
    (subst (BeginsApart (texts_of group)) (sym rest) (begins_apart last group groups sound others own.0.some own.1))
    ∙ (λ i. own_group last group own.0 i ∷ rest i)

-- ---- and back

-- equal resources of groups one after the other
abbrev is_same : Option Pairs → Pairs → Bool
is_same None resource = false
is_same (Some last) resource = same_resource last resource

abbrev AreApart : Option Pairs → List Group → Type 0
AreApart last [] = ⊤
AreApart last (group ∷ groups) = (is_same last group.resource ≡ false) × AreApart (Some group.resource) groups

before_apart : (one : RunSpan) (groups : List Group) → AreApart None groups → AreApart None (before one groups)
before_apart one [] apart = (refl, tt)
before_apart one (group ∷ groups) apart = by (same_resource one.0.resource group.resource) refl
  where
    by : (b : Bool) → same_resource one.0.resource group.resource ≡ b
        → AreApart None (if b then plain_group group.resource (in_front (in_scope one) group.scopes) ∷ groups else group_of_one one ∷ group ∷ groups)
    by true e = (refl, apart.1)
    by false e = (refl, (e, apart.1))

regrouped_apart : (l : List RunSpan) → AreApart None (regrouped l)
regrouped_apart [] = tt
regrouped_apart (one ∷ more) = before_apart one (regrouped more) (regrouped_apart more)

-- its scopes are the runs of its spans
abbrev HasRuns : Group → Type 0
HasRuns group = runs (scoped group.scopes) ≡ group.scopes

grown_runs : (one : Scoped Span) (scopes : List Scope) → runs (scoped scopes) ≡ scopes → runs (scoped (in_front one scopes)) ≡ in_front one scopes
grown_runs one scopes same = ap runs (in_front_spans one scopes) ∙ ap (in_front one) same

before_runs : (one : RunSpan) (groups : List Group) → All HasRuns groups → All HasRuns (before one groups)
before_runs one [] all = All-cons HasRuns (group_of_one one) [] (grown_runs (in_scope one) [] refl) (All-nil HasRuns)
before_runs one (group ∷ groups) all = by (same_resource one.0.resource group.resource)
  where
    by : (b : Bool) → All HasRuns (if b then plain_group group.resource (in_front (in_scope one) group.scopes) ∷ groups else group_of_one one ∷ group ∷ groups)
    by true = All-cons HasRuns (plain_group group.resource (in_front (in_scope one) group.scopes)) groups
        (grown_runs (in_scope one) group.scopes (All-head HasRuns group groups all)) (All-tail HasRuns group groups all)
    by false = All-cons HasRuns (group_of_one one) (group ∷ groups) (grown_runs (in_scope one) [] refl) all

regrouped_runs : (l : List RunSpan) → All HasRuns (regrouped l)
regrouped_runs [] = All-nil HasRuns
regrouped_runs (one ∷ more) = before_runs one (regrouped more) (regrouped_runs more)

-- lists of the same spans
same_front : {A B : Type 0} (f g : A → B) (xs : List A) (ys zs : List B) → map f xs ++ ys ≡ map g xs ++ zs → (map f xs ≡ map g xs) × (ys ≡ zs)
same_front f g [] ys zs same = (refl, same)
same_front f g (x ∷ xs) ys zs same =
    let parts = same_parts (f x) (g x) (map f xs ++ ys) (map g xs ++ zs) same in
    let rest = same_front f g xs ys zs parts.1 in
    (λ i. parts.0 i ∷ rest.0 i, rest.1)

spans_same : (resource : Pairs) (spans : List (Scoped Span)) → map (normal_one resource) spans ≡ map (run_of resource) spans → map (on_span zipkin_normal_span) spans ≡ spans
spans_same resource [] same = refl
spans_same resource (one ∷ more) same =
    let parts = same_parts (normal_one resource one) (run_of resource one) (map (normal_one resource) more) (map (run_of resource) more) same in
    let here : on_span zipkin_normal_span one ≡ one = ap in_scope parts.0 in
    let rest = spans_same resource more parts.1 in
    λ i. here i ∷ rest i

resource_same : (resource : Pairs) (spans : List (Scoped Span)) → is_empty spans ≡ false → map (normal_one resource) spans ≡ map (run_of resource) spans
    → normal_pairs service_key resource ≡ resource
resource_same resource [] some same = absurd (true≢false some)
resource_same resource (one ∷ more) some same =
    let parts = same_parts (normal_one resource one) (run_of resource one) (map (normal_one resource) more) (map (run_of resource) more) same in
    ap (λ (span : RunSpan). span.0.resource) parts.0

has_span : (scopes : List Scope) → scopes ≢ [] → All IsPlain scopes → is_empty (scoped scopes) ≡ false
has_span [] some plain = absurd (some refl)
has_span (scope ∷ scopes) some plain = by scope.spans (All-head IsPlain scope scopes plain).some
  where
    by : (spans : List Span) → spans ≢ [] → is_empty (map (λ span. record { name = scope.name; version = scope.version; span = span }) spans ++ scoped scopes) ≡ false
    by [] given = absurd (given refl)
    by (one ∷ spans) given = refl

-- the run has the resource
abbrev Matches : Option Run → Option Pairs → Type 0
Matches run last = (resource : Pairs) → follows run resource ≡ is_same last (normal_pairs service_key resource)

own_by : (run : Option Run) (last : Option Pairs) (groups : List Group) → Matches run last → All IsSoundGroup groups → All IsPlainGroup groups → All HasRuns groups
    → AreApart last groups → flat_map normal_spans groups ≡ flat_map runs_of groups → AreOwnGroups run groups
own_by run last [] matches sound plain again apart same = tt
own_by run last (group ∷ groups) matches sound plain again apart same =
    let its = All-head IsSoundGroup group groups sound in
    let here = All-head IsPlainGroup group groups plain in
    let parts = same_front (normal_one group.resource) (run_of group.resource) (scoped group.scopes) (flat_map normal_spans groups) (flat_map runs_of groups) same in
    let some : has_no_span group ≡ false = has_span group.scopes here.some here.scopes in
    let resource : normal_pairs service_key group.resource ≡ group.resource = resource_same group.resource (scoped group.scopes) some parts.0 in
    let spans : plain_spans group ≡ scoped group.scopes =
    same_map (on_span plain_span) (on_span zipkin_normal_span) (λ one. IsSoundSpan one.span)
    (λ one of_it. ap (λ (span : Span). record { name = one.name; version = one.version; span = span }) (sym (normal_plain one.span of_it))) (scoped group.scopes) (sound_spans group its)
    ∙ spans_same group.resource (scoped group.scopes) parts.0 in
    let behind = is_behind run group some in (
      record {
        some = some;
        apart = matches group.resource ∙ ap (is_same last) resource ∙ apart.0;
        resource = sym (resource_texts group its) ∙ resource;
        dropped = here.dropped;
        schema_url = here.schema_url;
        scopes = ap runs spans ∙ All-head HasRuns group groups again;
      },
      own_by (run_behind run group) (Some group.resource) groups
          (λ other. ap (λ (r : Option Run). follows r other) behind.is
          ∙ ap (λ (r : Pairs). same_resource r (normal_pairs service_key other)) (behind.resource ∙ resource))
          (All-tail IsSoundGroup group groups sound) (All-tail IsPlainGroup group groups plain) (All-tail HasRuns group groups again) apart.1 parts.1,
    )

regrouped_own : (groups : List Group) → All IsSoundGroup groups → regrouped (flat_map normal_spans groups) ≡ groups → AreOwnGroups None groups
regrouped_own groups sound same =
    let l = flat_map normal_spans groups in
    own_by None None groups (λ resource. refl) sound (subst (All IsPlainGroup) same (regroupings.plain l)) (subst (All HasRuns) same (regrouped_runs l))
    (subst (AreApart None) same (regrouped_apart l)) (sym (regrouped_spans l) ∙ ap (flat_map runs_of) same)

pub nothing_lost : BytesStay → NothingLost
nothing_lost bytes groups sound = quiet_as (groups_losses None groups) (groups_quiet bytes None groups) (own_regrouped None groups sound) (regrouped_own groups sound)
