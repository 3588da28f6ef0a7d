-- Regrouped spans: they are those of the list, in order, and each of their groups has a resource and plain scopes alone.
use Rattle.std.proofs.Common.{◌≡◌, Bool, true, false, List, [], ◌∷◌, ◌++◌, map, All, refl, sym, ap, ◌∙◌, subst}
use Rattle.std.specs.Prelude.{◌≢◌, ◌&&◌, if◌then◌else◌}
use Rattle.std.specs.List.{flat_map}
use Rattle.std.specs.Str.{bytes_eq}
use Rattle.std.proofs.lemmas.List.Elements.{All-nil, All-cons, All-head, All-tail}
use Rattle.span_tags.proofs.AttributeLaws.{same_key}
use Rattle.span_tags.specs.Runs.{IsPlain}
use Rattle.span_tags.proofs.RunLaws.{in_front_spans, in_front_plain}
use Rattle.span_tags.specs.Runs.{Scoped, scoped, plain_scope, in_front}
use Rattle.span_tags.specs.TagWords.{Pairs}
use Rattle.trace_model.specs.declared.span.Span.{Span}
use Rattle.trace_model.specs.declared.group.Group.{Group}
use Rattle.trace_model.specs.declared.group.Scope.{Scope}
use Rattle.trace_model.specs.declared.value.Value.{Value, Text}
use Rattle.map_zipkin.specs.StatedLaws.{Regroupings}
use Rattle.map_zipkin.specs.Regrouped.{RunSpan, in_scope, run_of, runs_of, same_text, same_resource, plain_group, group_of_one, before, regrouped}

-- ---- equal resources

both_true : (a b : Bool) → (a && b) ≡ true → (a ≡ true) × (b ≡ true)
both_true true b e = (refl, e)
both_true false b e = (e, cc)

text_same : (a b : Value) → same_text a b ≡ true → a ≡ b
text_same (Text a) (Text b) e = ap Text (same_key a b e)
text_same a b e = absurd (cc)

pub resource_same : (a b : Pairs) → same_resource a b ≡ true → a ≡ b
resource_same [] [] e = refl
resource_same [] (q ∷ qs) e = absurd (cc)
resource_same (p ∷ ps) [] e = absurd (cc)
resource_same (p ∷ ps) (q ∷ qs) e =
    let parts = both_true (bytes_eq p.0 q.0 && same_text p.1 q.1) (same_resource ps qs) e in
    let first = both_true (bytes_eq p.0 q.0) (same_text p.1 q.1) parts.0 in
    let key : p.0 ≡ q.0 = same_key p.0 q.0 first.0 in
    let value : p.1 ≡ q.1 = text_same p.1 q.1 first.1 in
    let rest : ps ≡ qs = resource_same ps qs parts.1 in
    λ i. (key i, value i) ∷ rest i

-- ---- the spans of what is regrouped

abbrev spans_in : List Group → List RunSpan
spans_in groups = flat_map runs_of groups

groups_joined : (one : RunSpan) (group : Group) (groups : List Group) → one.0.resource ≡ group.resource
    → spans_in (plain_group group.resource (in_front (in_scope one) group.scopes) ∷ groups) ≡ one ∷ spans_in (group ∷ groups)
groups_joined one group groups same =
    let spans : scoped (in_front (in_scope one) group.scopes) ≡ in_scope one ∷ scoped group.scopes = in_front_spans (in_scope one) group.scopes in
    let first : run_of group.resource (in_scope one) ≡ one = ap (λ resource. run_of resource (in_scope one)) (sym same) in
    ap (λ l. map (run_of group.resource) l ++ spans_in groups) spans ∙ ap (λ x. x ∷ spans_in (group ∷ groups)) first

before_spans : (one : RunSpan) (groups : List Group) → spans_in (before one groups) ≡ one ∷ spans_in groups
before_spans one [] = refl
before_spans one (group ∷ groups) = by (same_resource one.0.resource group.resource) refl
  where
    by : (b : Bool) → same_resource one.0.resource group.resource ≡ b
        → spans_in (if b then plain_group group.resource (in_front (in_scope one) group.scopes) ∷ groups else group_of_one one ∷ group ∷ groups) ≡ one ∷ spans_in (group ∷ groups)
    by true e = groups_joined one group groups (resource_same one.0.resource group.resource e)
    by false e = refl

-- the spans of the groups are those of the list
pub regrouped_spans : (l : List RunSpan) → flat_map runs_of (regrouped l) ≡ l
regrouped_spans [] = refl
regrouped_spans (one ∷ more) = before_spans one (regrouped more) ∙ ap (λ l. one ∷ l) (regrouped_spans more)

-- and make the same groups again
pub regrouped_again : (l : List RunSpan) → regrouped (flat_map runs_of (regrouped l)) ≡ regrouped l
regrouped_again l = ap regrouped (regrouped_spans l)

-- ---- their groups

-- a group of a resource, and of plain scopes of such spans
pub record IsGroupOf (R : Pairs → Type 0) (S : Scoped Span → Type 0) (group : Group) : Type 0 where
  pub resource : R group.resource
  pub dropped : group.dropped ≡ 0
  pub schema_url : group.schema_url ≡ []
  pub some : group.scopes ≢ []
  pub plain : All IsPlain group.scopes
  pub spans : All S (scoped group.scopes)

in_front_some : (one : Scoped Span) (scopes : List Scope) → in_front one scopes ≢ []
in_front_some one [] e = cc
in_front_some one (scope ∷ scopes) e = by (bytes_eq one.name scope.name && bytes_eq one.version scope.version) e
  where
    by : (b : Bool) → (if b then plain_scope scope.name scope.version (one.span ∷ scope.spans) ∷ scopes else plain_scope one.name one.version (one.span ∷ []) ∷ scope ∷ scopes) ≡ [] → ⊥
    by true same = cc
    by false same = cc

module _ (R : Pairs → Type 0) (S : Scoped Span → Type 0) where
  abbrev pub IsRunOf : RunSpan → Type 0
  IsRunOf one = R one.0.resource × S (in_scope one)

  grown : (resource : Pairs) (one : Scoped Span) (scopes : List Scope) → R resource → S one → All IsPlain scopes → All S (scoped scopes)
      → IsGroupOf R S (plain_group resource (in_front one scopes))
  grown resource one scopes its here plain spans = record {
    resource = its;
    dropped = refl;
    schema_url = refl;
    some = in_front_some one scopes;
    plain = in_front_plain one scopes plain;
    spans = subst (All S) (sym (in_front_spans one scopes)) (All-cons S one (scoped scopes) here spans);
  }

  alone_is : (one : RunSpan) → IsRunOf one → IsGroupOf R S (group_of_one one)
  alone_is one its = grown one.0.resource (in_scope one) [] its.0 its.1 (All-nil IsPlain) (All-nil S)

  before_all : (one : RunSpan) (groups : List Group) → IsRunOf one → All (IsGroupOf R S) groups → All (IsGroupOf R S) (before one groups)
  before_all one [] its all = All-cons (IsGroupOf R S) (group_of_one one) [] (alone_is one its) (All-nil (IsGroupOf R S))
  before_all one (group ∷ groups) its all = by (same_resource one.0.resource group.resource)
    where
      first : IsGroupOf R S group
      first = All-head (IsGroupOf R S) group groups all

      by : (b : Bool) → All (IsGroupOf R S) (if b then plain_group group.resource (in_front (in_scope one) group.scopes) ∷ groups else group_of_one one ∷ group ∷ groups)
      by true = All-cons (IsGroupOf R S) (plain_group group.resource (in_front (in_scope one) group.scopes)) groups
          (grown group.resource (in_scope one) group.scopes first.resource its.1 first.plain first.spans) (All-tail (IsGroupOf R S) group groups all)
      by false = All-cons (IsGroupOf R S) (group_of_one one) (group ∷ groups) (alone_is one its) all

  -- what all spans and their runs have, the groups have
  pub regrouped_all : (l : List RunSpan) → All IsRunOf l → All (IsGroupOf R S) (regrouped l)
  regrouped_all [] all = All-nil (IsGroupOf R S)
  regrouped_all (one ∷ more) all = before_all one (regrouped more) (All-head IsRunOf one more all) (regrouped_all more (All-tail IsRunOf one more all))

anything : (l : List RunSpan) → All (IsRunOf (λ resource. Unit {0}) (λ one. Unit {0})) l
anything l k d lt = (tt, tt)

-- the laws
pub regroupings : Regroupings
regroupings = record {
  spans = regrouped_spans;
  plain = λ l k d lt.
      let group = regrouped_all (λ resource. Unit {0}) (λ one. Unit {0}) l (anything l) k d lt in
      record { dropped = group.dropped; schema_url = group.schema_url; some = group.some; scopes = group.plain };
  again = regrouped_again;
}
