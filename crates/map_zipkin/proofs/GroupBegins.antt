-- Where the scopes and the groups of regrouped spans begin: behind spans of which the last has another run or another resource than the next.
use Rattle.std.proofs.Common.{◌≡◌, ℕ, suc, ◌+◌, Bool, true, false, List, [], ◌∷◌, ◌++◌, length, All, Option, Some, None, refl, sym, ap, ◌∙◌, subst, true≢false, ⊎_elim, inl, inr, arith}
use Rattle.std.specs.Prelude.{◌↔◌, ◌≢◌, ◌⊎◌, ◌&&◌, if◌then◌else◌}
use Rattle.std.specs.Str.{bytes_eq}
use Rattle.std.proofs.lemmas.Grind.{flat_map-append}
use Rattle.std.proofs.lemmas.List.{length-append}
use Rattle.std.proofs.lemmas.List.Elements.{All-head}
use Rattle.trace_model.specs.declared.span.Span.{Span}
use Rattle.trace_model.specs.declared.group.Group.{Group}
use Rattle.trace_model.specs.declared.group.Scope.{Scope}
use Rattle.span_tags.specs.LossMeanings.{spans_in}
use Rattle.span_tags.specs.Losses.{named}
use Rattle.span_tags.specs.Runs.{Scoped, is_of, plain_scope, in_front}
use Rattle.span_tags.specs.TagWords.{Pairs}
use Rattle.span_tags.proofs.BeginLaws.{Starts, starts_first, front_more, front_one, are_names_at, BeginsWith, begins_with, scoped_length}
use Rattle.span_tags.proofs.RunLaws.{in_front_spans}
use Rattle.map_zipkin.specs.LossMeaning.{scopes_in, all_spans, BeginsGroup}
use Rattle.map_zipkin.specs.Regrouped.{RunSpan, in_scope, same_resource, plain_group, group_of_one, before, regrouped}
use Rattle.map_zipkin.specs.StatedLaws.{IsPlainGroup}
use Rattle.map_zipkin.specs.declared.run.Run.{Run}
use Rattle.map_zipkin.proofs.Regrouping.{resource_same, regroupings}

-- ---- one more span in front

-- the first group has the resource
abbrev is_first : Pairs → List Group → Bool
is_first resource [] = false
is_first resource (group ∷ groups) = same_resource resource group.resource

abbrev joined : Bool → Scoped Span → List Scope → List Scope
joined b one scopes = if b then in_front one scopes else plain_scope one.name one.version (one.span ∷ []) ∷ scopes

in_front_both : (one : Scoped Span) (scopes more : List Scope) → scopes ≢ [] → in_front one scopes ++ more ≡ in_front one (scopes ++ more)
in_front_both one [] more some = absurd (some refl)
in_front_both one (scope ∷ scopes) more some = by (is_of one scope)
  where
    by : (b : Bool) → (if b then plain_scope scope.name scope.version (one.span ∷ scope.spans) ∷ scopes else plain_scope one.name one.version (one.span ∷ []) ∷ scope ∷ scopes) ++ more
        ≡ (if b then plain_scope scope.name scope.version (one.span ∷ scope.spans) ∷ (scopes ++ more) else plain_scope one.name one.version (one.span ∷ []) ∷ scope ∷ (scopes ++ more))
    by true = refl
    by false = refl

before_scopes : (one : RunSpan) (groups : List Group) → All IsPlainGroup groups
    → scopes_in (before one groups) ≡ joined (is_first one.0.resource groups) (in_scope one) (scopes_in groups)
before_scopes one [] all = refl
before_scopes one (group ∷ groups) all = by (same_resource one.0.resource group.resource)
  where
    by : (b : Bool) → scopes_in (if b then plain_group group.resource (in_front (in_scope one) group.scopes) ∷ groups else group_of_one one ∷ group ∷ groups)
        ≡ joined b (in_scope one) (group.scopes ++ scopes_in groups)
    by true = in_front_both (in_scope one) group.scopes (scopes_in groups) (All-head IsPlainGroup group groups all).some
    by false = refl

first_resource : (resource : Pairs) (one : RunSpan) (groups : List Group) → is_first resource (before one groups) ≡ same_resource resource one.0.resource
first_resource resource one [] = refl
first_resource resource one (group ∷ groups) = by (same_resource one.0.resource group.resource) refl
  where
    by : (b : Bool) → same_resource one.0.resource group.resource ≡ b
        → is_first resource (if b then plain_group group.resource (in_front (in_scope one) group.scopes) ∷ groups else group_of_one one ∷ group ∷ groups) ≡ same_resource resource one.0.resource
    by true e = ap (same_resource resource) (sym (resource_same one.0.resource group.resource e))
    by false e = refl

-- ---- scopes

joined_first : (b : Bool) (one : Scoped Span) (scopes : List Scope) → Starts 0 (joined b one scopes)
joined_first true one scopes = starts_first one scopes
joined_first false one scopes = inl refl

joined_more : (b : Bool) (one : Scoped Span) (n : ℕ) (scopes : List Scope) → Starts (suc (suc n)) (joined b one scopes) ↔ Starts (suc n) scopes
joined_more true one n scopes = front_more one n scopes
joined_more false one n scopes = (
  λ starts. ⊎_elim (λ (e : suc (suc n) ≡ 0). absurd (omega (arith, e)))
      (λ (rest : (m : ℕ) × (suc (suc n) ≡ 1 + m) × Starts m scopes).
      let same : rest.0 ≡ suc n = omega (arith, rest.1) in subst (λ (m : ℕ). Starts m scopes) same rest.2) starts,
  λ starts. inr (suc n, omega arith, starts),
)

joined_one : (b : Bool) (one next : Scoped Span) (scopes : List Scope) → BeginsWith next scopes
    → Starts 1 (joined b one scopes) ↔ ((b && are_names_at (Some (named one.name one.version)) next) ≡ false)
joined_one true one next scopes first = front_one one next scopes first
joined_one false one next scopes first = (λ starts. refl, λ e. inr (0, refl, subst (Starts 0) (sym first.is) (inl refl)))

joined_with : (b : Bool) (one : Scoped Span) (scopes : List Scope) → BeginsWith one (joined b one scopes)
joined_with true one scopes = begins_with one scopes
joined_with false one scopes = record {
  scope = plain_scope one.name one.version (one.span ∷ []);
  others = scopes;
  is = refl;
  name = refl;
  version = refl;
  some = 0;
  spans = refl;
}

-- a span has the resource, and the name and version
abbrev pub has_resource : Option Run → RunSpan → Bool
has_resource None next = false
has_resource (Some run) next = same_resource run.resource next.0.resource

abbrev pub has_run : Option Run → RunSpan → Bool
has_run None next = false
has_run (Some run) next = same_resource run.resource next.0.resource && (bytes_eq run.name next.0.name && bytes_eq run.version next.0.version)

abbrev pub last_of_runs : Option Run → List RunSpan → Option Run
last_of_runs run [] = run
last_of_runs run (one ∷ more) = last_of_runs (Some one.0) more

pub scopes_start : (front : List RunSpan) (next : RunSpan) (more : List RunSpan)
    → Starts (length front) (scopes_in (regrouped (front ++ next ∷ more))) ↔ (has_run (last_of_runs None front) next ≡ false)
scopes_start [] next more = (
  λ starts. refl,
  λ e. subst (Starts 0) (sym (before_scopes next (regrouped more) (regroupings.plain more)))
      (joined_first (is_first next.0.resource (regrouped more)) (in_scope next) (scopes_in (regrouped more))),
)
scopes_start (one ∷ []) next more =
    let rest = regrouped (next ∷ more) in
    let first : BeginsWith (in_scope next) (scopes_in rest) = subst (BeginsWith (in_scope next)) (sym (before_scopes next (regrouped more) (regroupings.plain more)))
    (joined_with (is_first next.0.resource (regrouped more)) (in_scope next) (scopes_in (regrouped more))) in
    let list = before_scopes one rest (regroupings.plain (next ∷ more)) in
    let known = joined_one (is_first one.0.resource rest) (in_scope one) (in_scope next) (scopes_in rest) first in
    let test : (is_first one.0.resource rest && (bytes_eq one.0.name next.0.name && bytes_eq one.0.version next.0.version)) ≡ has_run (Some one.0) next =
    ap (λ (b : Bool). b && (bytes_eq one.0.name next.0.name && bytes_eq one.0.version next.0.version)) (first_resource one.0.resource next (regrouped more)) in
    (λ starts. sym test ∙ known.0 (subst (Starts 1) list starts), λ e. subst (Starts 1) (sym list) (known.1 (test ∙ e)))
scopes_start (one ∷ two ∷ front) next more =
    let rest = regrouped (two ∷ front ++ next ∷ more) in
    let list = before_scopes one rest (regroupings.plain (two ∷ front ++ next ∷ more)) in
    let step = joined_more (is_first one.0.resource rest) (in_scope one) (length front) (scopes_in rest) in
    let later = scopes_start (two ∷ front) next more in (
      λ starts. later.0 (step.0 (subst (Starts (suc (suc (length front)))) list starts)),
      λ e. subst (Starts (suc (suc (length front)))) (sym list) (step.1 (later.1 e)),
    )

-- ---- groups

abbrev pub StartsGroup : ℕ → List Group → Type 0
StartsGroup n [] = ⊥
StartsGroup n (group ∷ groups) = (n ≡ 0) ⊎ ((m : ℕ) × (n ≡ length (spans_in group.scopes) + m) × StartsGroup m groups)

spans_with : (group : Group) (groups : List Group) → length (all_spans (group ∷ groups)) ≡ length (spans_in group.scopes) + length (all_spans groups)
spans_with group groups =
    ap length (flat_map-append (λ (scope : Scope). scope.spans) group.scopes (scopes_in groups)) ∙ length-append (spans_in group.scopes) (all_spans groups)

pub begins_group : (n : ℕ) (groups : List Group) → StartsGroup n groups → BeginsGroup n groups
begins_group n [] starts = absurd starts
begins_group n (group ∷ groups) (inl zero_is) = record { before = []; group = group; others = groups; split = refl; spans = sym zero_is }
begins_group n (group ∷ groups) (inr (m, is, starts)) =
    let rest = begins_group m groups starts in
    let count = rest.spans in
    record {
      before = group ∷ rest.before;
      group = rest.group;
      others = rest.others;
      split = ap (λ (l : List Group). group ∷ l) rest.split;
      spans = omega (arith, is, count, spans_with group rest.before);
    }

group_at : (front : List Group) (group : Group) (others : List Group) (n : ℕ) → length (all_spans front) ≡ n → StartsGroup n (front ++ group ∷ others)
group_at [] group others n spans = inl (sym spans)
group_at (one ∷ front) group others n spans =
    inr (length (all_spans front), omega (arith, spans, spans_with one front), group_at front group others (length (all_spans front)) refl)

pub group_begins : (n : ℕ) (groups : List Group) → BeginsGroup n groups → StartsGroup n groups
group_begins n groups begins = subst (StartsGroup n) (sym begins.split) (group_at begins.before begins.group begins.others n begins.spans)

front_length : (one : Scoped Span) (scopes : List Scope) → length (spans_in (in_front one scopes)) ≡ suc (length (spans_in scopes))
front_length one scopes = sym (scoped_length (in_front one scopes)) ∙ ap length (in_front_spans one scopes) ∙ ap suc (scoped_length scopes)

before_first : (one : RunSpan) (groups : List Group) → StartsGroup 0 (before one groups)
before_first one [] = inl refl
before_first one (group ∷ groups) = by (same_resource one.0.resource group.resource)
  where
    by : (b : Bool) → StartsGroup 0 (if b then plain_group group.resource (in_front (in_scope one) group.scopes) ∷ groups else group_of_one one ∷ group ∷ groups)
    by true = inl refl
    by false = inl refl

before_more : (one : RunSpan) (n : ℕ) (groups : List Group) → StartsGroup (suc (suc n)) (before one groups) ↔ StartsGroup (suc n) groups
before_more one n [] = (
  λ starts. ⊎_elim (λ (e : suc (suc n) ≡ 0). absurd (omega (arith, e)))
      (λ (rest : (m : ℕ) × (suc (suc n) ≡ 1 + m) × ⊥). rest.2) starts,
  λ starts. absurd starts,
)
before_more one n (group ∷ groups) = by (same_resource one.0.resource group.resource)
  where
    by : (b : Bool) → StartsGroup (suc (suc n)) (if b then plain_group group.resource (in_front (in_scope one) group.scopes) ∷ groups else group_of_one one ∷ group ∷ groups)
        ↔ StartsGroup (suc n) (group ∷ groups)
    by true = (
      λ starts. ⊎_elim (λ (e : suc (suc n) ≡ 0). absurd (omega (arith, e)))
          (λ (rest : (m : ℕ) × (suc (suc n) ≡ length (spans_in (in_front (in_scope one) group.scopes)) + m) × StartsGroup m groups).
          inr (rest.0, omega (arith, rest.1, front_length (in_scope one) group.scopes), rest.2)) starts,
      λ starts. ⊎_elim (λ (e : suc n ≡ 0). absurd (omega (arith, e)))
          (λ (rest : (m : ℕ) × (suc n ≡ length (spans_in group.scopes) + m) × StartsGroup m groups).
          inr (rest.0, omega (arith, rest.1, front_length (in_scope one) group.scopes), rest.2)) starts,
    )
    by false = (
      λ starts. ⊎_elim (λ (e : suc (suc n) ≡ 0). absurd (omega (arith, e)))
          (λ (rest : (m : ℕ) × (suc (suc n) ≡ 1 + m) × StartsGroup m (group ∷ groups)).
          let same : rest.0 ≡ suc n = omega (arith, rest.1) in subst (λ (m : ℕ). StartsGroup m (group ∷ groups)) same rest.2) starts,
      λ starts. inr (suc n, omega arith, starts),
    )

-- a group of spans has one
record BeginsSome (groups : List Group) : Type 0 where
  group : Group
  others : List Group
  is : groups ≡ group ∷ others
  some : ℕ
  spans : length (spans_in group.scopes) ≡ suc some

some_first : (one : RunSpan) (groups : List Group) → BeginsSome (before one groups)
some_first one [] = record { group = group_of_one one; others = []; is = refl; some = 0; spans = refl }
some_first one (group ∷ groups) = by (same_resource one.0.resource group.resource)
  where
    by : (b : Bool) → BeginsSome (if b then plain_group group.resource (in_front (in_scope one) group.scopes) ∷ groups else group_of_one one ∷ group ∷ groups)
    by true = record {
      group = plain_group group.resource (in_front (in_scope one) group.scopes);
      others = groups;
      is = refl;
      some = length (spans_in group.scopes);
      spans = front_length (in_scope one) group.scopes;
    }
    by false = record { group = group_of_one one; others = group ∷ groups; is = refl; some = 0; spans = refl }

before_one : (one : RunSpan) (groups : List Group) → BeginsSome groups → StartsGroup 1 (before one groups) ↔ (is_first one.0.resource groups ≡ false)
before_one one groups first =
    subst (λ (l : List Group). StartsGroup 1 (before one l) ↔ (is_first one.0.resource l ≡ false)) (sym first.is) (by (same_resource one.0.resource first.group.resource))
  where
    by : (b : Bool) → StartsGroup 1 (if b then plain_group first.group.resource (in_front (in_scope one) first.group.scopes) ∷ first.others else group_of_one one ∷ first.group ∷ first.others) ↔ (b ≡ false)
    by true = (
      λ starts. ⊎_elim (λ (e : 1 ≡ 0). absurd (omega (arith, e)))
          (λ (rest : (m : ℕ) × (1 ≡ length (spans_in (in_front (in_scope one) first.group.scopes)) + m) × StartsGroup m first.others).
          absurd (omega (arith, rest.1, front_length (in_scope one) first.group.scopes, first.spans))) starts,
      λ e. absurd (true≢false e),
    )
    by false = (λ starts. refl, λ e. inr (0, refl, inl refl))

pub groups_start : (front : List RunSpan) (next : RunSpan) (more : List RunSpan)
    → StartsGroup (length front) (regrouped (front ++ next ∷ more)) ↔ (has_resource (last_of_runs None front) next ≡ false)
groups_start [] next more = (λ starts. refl, λ e. before_first next (regrouped more))
groups_start (one ∷ []) next more =
    let known = before_one one (regrouped (next ∷ more)) (some_first next (regrouped more)) in
    let test = first_resource one.0.resource next (regrouped more) in
    (λ starts. sym test ∙ known.0 starts, λ e. known.1 (test ∙ e))
groups_start (one ∷ two ∷ front) next more =
    let step = before_more one (length front) (regrouped (two ∷ front ++ next ∷ more)) in
    let rest = groups_start (two ∷ front) next more in
    (λ starts. rest.0 (step.0 starts), λ e. step.1 (rest.1 e))
