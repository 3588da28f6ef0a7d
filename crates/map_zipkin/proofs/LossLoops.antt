-- The walks that tell losses: what each turn adds or leaves.
--     some_member               a list has a member at each place before its end
--     skipped, some_found ..    a scope without spans, one with some, and none with any
--     last_run_is               the run of the last span, by the names of its scope
--     same_step, same_apart ..  a normal form along a resource, pair by pair
--     kept_step, kept_end       the normal form that is made of it
--     group_told                what a group loses
use Rattle.std.proofs.Common.{◌≡◌, ℕ, zero, suc, ◌+◌, ◌≤◌, ◌<◌, ◌==◌, Bool, true, false, nat_le, leb-true, leb-false, List, [], ◌∷◌, ◌++◌, length, map, get_or, drop, drop-cons, drop_of_length-le, Option, Some, None, option_map, refl, sym, ap, ◌∙◌, true≢false, append_assoc, append-nil, add-one, arith}
use Rattle.std.specs.Prelude.{not, if◌then◌else◌}
use Rattle.std.proofs.lemmas.Bool.Decides.{Decides-eqb}
use Rattle.trace_model.specs.declared.loss.Loss.{Loss}
use Rattle.trace_model.specs.declared.span.Span.{Span}
use Rattle.trace_model.specs.declared.group.Group.{Group}
use Rattle.trace_model.specs.declared.group.Scope.{Scope}
use Rattle.trace_model.specs.declared.value.Value.{Value}
use Rattle.span_tags.specs.Losses.{is_empty, Names, named, names_of, names_behind, scopes_losses}
use Rattle.span_tags.specs.Runs.{Scoped, under, scoped}
use Rattle.span_tags.specs.TagKeys.{service_key}
use Rattle.span_tags.specs.TagWords.{Pairs}
use Rattle.map_zipkin.specs.Losses.{follows, group_losses, last_of, names_before, resource_losses, span_losses, unit_losses}
use Rattle.map_zipkin.specs.private.LossWalks.{kept_text, kept_texts, still_same, Advances, names_where, names_at_end, joined_losses}
use Rattle.map_zipkin.specs.Normal.{normal_pairs, normal_one}
use Rattle.map_zipkin.specs.Regrouped.{RunSpan, same_resource}
use Rattle.map_zipkin.specs.declared.run.Run.{Run}

pub some_member : {A : Type 0} (xs : List A) (i : ℕ) → i < length xs → (x : A) × (x ≡ get_or xs i x)
some_member [] i low = absurd (omega (arith, low))
some_member (x ∷ xs) zero low = (x, refl)
some_member (x ∷ xs) (suc i) low = some_member xs i (omega (arith, low))

split_at : {A : Type 0} (i : ℕ) (x : A) (xs : List A) → i < length xs → x ≡ get_or xs i x → drop i xs ≡ x ∷ drop (suc i) xs
split_at i x xs low is = drop-cons xs i x low ∙ ap (λ y. y ∷ drop (suc i) xs) (sym is)

-- ---- scopes

no_span : (scope : Scope) (scopes : List Scope) (spans : List Span) → not (is_empty spans) ≡ false → map (under scope.name scope.version) spans ++ scoped scopes ≡ scoped scopes
no_span scope scopes [] empty = refl
no_span scope scopes (one ∷ spans) empty = absurd (true≢false empty)

a_span : (scope : Scope) (scopes : List Scope) (spans : List Span) → not (is_empty spans) ≡ true → is_empty (map (under scope.name scope.version) spans ++ scoped scopes) ≡ false
a_span scope scopes [] some = absurd (true≢false (sym some))
a_span scope scopes (one ∷ spans) some = refl

pub skipped : (i : ℕ) (scope : Scope) (scopes : List Scope) → i < length scopes → scope ≡ get_or scopes i scope → not (is_empty scope.spans) ≡ false
    → scoped (drop i scopes) ≡ scoped scopes → scoped (drop (i + 1) scopes) ≡ scoped scopes
skipped i scope scopes low is empty so_far =
    ap (λ n. scoped (drop n scopes)) (add-one i)
    ∙ sym (no_span scope (drop (suc i) scopes) scope.spans empty)
    ∙ ap scoped (sym (split_at i scope scopes low is)) ∙ so_far

pub some_found : (i : ℕ) (scope : Scope) (scopes : List Scope) → i < length scopes → scope ≡ get_or scopes i scope → not (is_empty scope.spans) ≡ true
    → scoped (drop i scopes) ≡ scoped scopes → is_empty (scoped scopes) ≡ false
some_found i scope scopes low is some so_far =
    ap is_empty (sym so_far ∙ ap scoped (split_at i scope scopes low is))
    ∙ a_span scope (drop (suc i) scopes) scope.spans some

pub none_found : (i : ℕ) (scopes : List Scope) → length scopes ≤ i → scoped (drop i scopes) ≡ scoped scopes → is_empty (scoped scopes) ≡ true
none_found i scopes ended so_far = ap is_empty (sym so_far ∙ ap scoped (drop_of_length-le scopes ended))

-- one scope more
pub names_more : (i : ℕ) (scope : Scope) (scopes : List Scope) (last behind : Option Names) → i < length scopes → scope ≡ get_or scopes i scope
    → behind ≡ names_behind last scope → names_at_end last (drop i scopes) ≡ names_at_end None scopes → names_at_end behind (drop (i + 1) scopes) ≡ names_at_end None scopes
names_more i scope scopes last behind low is next so_far =
    (λ k. names_at_end (next k) (drop (add-one i k) scopes))
    ∙ ap (names_at_end last) (sym (split_at i scope scopes low is)) ∙ so_far

-- ---- the run of the last span

abbrev names_last : Option Names → List (Scoped Span) → Option Names
names_last last [] = last
names_last last (one ∷ more) = names_last (Some (named one.name one.version)) more

in_scope_last : (scope : Scope) (spans : List Span) (last : Option Names) (rest : List (Scoped Span))
    → names_last last (map (under scope.name scope.version) spans ++ rest) ≡ names_last (if is_empty spans then last else Some (names_of scope)) rest
in_scope_last scope [] last rest = refl
in_scope_last scope (one ∷ []) last rest = refl
in_scope_last scope (one ∷ next ∷ spans) last rest = in_scope_last scope (next ∷ spans) (Some (names_of scope)) rest

at_end_last : (last : Option Names) (scopes : List Scope) → names_at_end last scopes ≡ names_last last (scoped scopes)
at_end_last last [] = refl
at_end_last last (scope ∷ scopes) = at_end_last (names_behind last scope) scopes ∙ sym (in_scope_last scope scope.spans last (scoped scopes))

-- the run of these names
abbrev pub run_named : Pairs → Names → Run
run_named resource names = record { resource = normal_pairs service_key resource; name = names.name; version = names.version }

run_last : (resource : Pairs) (last : Option Names) (one : Scoped Span) (more : List (Scoped Span))
    → option_map (λ (span : RunSpan). span.0) (last_of (map (normal_one resource) (one ∷ more))) ≡ option_map (run_named resource) (names_last last (one ∷ more))
run_last resource last one [] = refl
run_last resource last one (next ∷ more) = run_last resource (Some (named one.name one.version)) next more

run_of_last : (resource : Pairs) (spans : List (Scoped Span))
    → option_map (λ (span : RunSpan). span.0) (last_of (map (normal_one resource) spans)) ≡ option_map (run_named resource) (names_last None spans)
run_of_last resource [] = refl
run_of_last resource (one ∷ more) = run_last resource None one more

pub last_run_is : (resource : Pairs) (scopes : List Scope)
    → option_map (λ (span : RunSpan). span.0) (last_of (map (normal_one resource) (scoped scopes))) ≡ option_map (run_named resource) (names_at_end None scopes)
last_run_is resource scopes = run_of_last resource (scoped scopes) ∙ ap (option_map (run_named resource)) (sym (at_end_last None scopes))

-- ---- a normal form along a resource

-- at the end of the resource
more_left : (l : Pairs) (n : ℕ) → n ≤ length l → (n ≡ length l → ⊥) → false ≡ same_resource (drop n l) []
more_left [] n low other = absurd (other (omega (arith, low)))
more_left (p ∷ l) n low other = by (nat_le (length (p ∷ l)) n) refl
  where
    by : (b : Bool) → nat_le (length (p ∷ l)) n ≡ b → false ≡ same_resource (drop n (p ∷ l)) []
    by true ended = absurd (other (omega (arith, low, leb-true (length (p ∷ l)) n ended)))
    by false more = ap (λ r. same_resource r []) (sym (drop-cons (p ∷ l) n p (leb-false (length (p ∷ l)) n more)))

pub end_on : (normal : Pairs) (place : ℕ) → place ≤ length normal → (place == length normal) ≡ still_same normal place []
end_on normal place within = by (place == length normal) refl
  where
    by : (b : Bool) → (place == length normal) ≡ b → b ≡ still_same normal place []
    by true e =
        let all : place ≡ length normal = (Decides-eqb place (length normal)).0 e in
        ap (λ l. same_resource l []) (sym (drop_of_length-le normal (omega (arith, all))))
    by false e = more_left normal place within (λ all. true≢false (sym ((Decides-eqb place (length normal)).1 all) ∙ e))

-- one pair more
pub same_step : (i place next : ℕ) (pair : List ℕ × Value) (normal resource : Pairs) → i < length resource → pair ≡ get_or resource i pair
    → ((left : Pairs) → Advances normal place pair left (Some next)) → still_same normal place (drop i resource) ≡ still_same normal 0 resource
    → still_same normal next (drop (i + 1) resource) ≡ still_same normal 0 resource
same_step i place next pair normal resource low is behind so_far =
    ap (λ n. still_same normal next (drop n resource)) (add-one i) ∙ behind (drop (suc i) resource)
    ∙ ap (still_same normal place) (sym (split_at i pair resource low is)) ∙ so_far

-- another pair
pub same_apart : (i place : ℕ) (pair : List ℕ × Value) (normal resource : Pairs) → i < length resource → pair ≡ get_or resource i pair
    → ((left : Pairs) → Advances normal place pair left None) → still_same normal place (drop i resource) ≡ still_same normal 0 resource
    → false ≡ still_same normal 0 resource
same_apart i place pair normal resource low is apart so_far =
    sym (apart (drop (suc i) resource)) ∙ ap (still_same normal place) (sym (split_at i pair resource low is)) ∙ so_far

pub same_end : (i place : ℕ) (normal resource : Pairs) → length resource ≤ i → place ≤ length normal
    → still_same normal place (drop i resource) ≡ still_same normal 0 resource → (place == length normal) ≡ still_same normal 0 resource
same_end i place normal resource ended within so_far =
    end_on normal place within ∙ ap (still_same normal place) (sym (drop_of_length-le resource ended)) ∙ so_far

-- one pair more of the resource, in normal form
pub kept_step : (i : ℕ) (pair : List ℕ × Value) (whole resource old new : Pairs) → i < length resource → pair ≡ get_or resource i pair
    → new ≡ old ++ kept_text service_key pair → old ++ kept_texts service_key (drop i resource) ≡ whole
    → new ++ kept_texts service_key (drop (i + 1) resource) ≡ whole
kept_step i pair whole resource old new low is added so_far =
    (λ k. added k ++ kept_texts service_key (drop (add-one i k) resource))
    ∙ append_assoc old (kept_text service_key pair) (kept_texts service_key (drop (suc i) resource))
    ∙ ap (λ l. old ++ kept_texts service_key l) (sym (split_at i pair resource low is)) ∙ so_far

pub kept_end : (i : ℕ) (whole resource normal : Pairs) → length resource ≤ i → normal ++ kept_texts service_key (drop i resource) ≡ whole → normal ≡ whole
kept_end i whole resource normal ended so_far =
    sym (append-nil normal) ∙ ap (λ l. normal ++ kept_texts service_key l) (sym (drop_of_length-le resource ended)) ∙ so_far

-- ---- a group

pub group_told : (before : Option Run) (group : Group) (joined : Bool) (names : Option Names) (first second last : List Loss)
    → joined ≡ follows before group.resource → names ≡ names_where joined before → first ≡ joined_losses joined group.scopes
    → second ≡ first ++ resource_losses group → last ≡ second ++ scopes_losses span_losses 1 1 names group.scopes → last ≡ group_losses before group
group_told before group joined names first second last same names_are unit resource scopes =
    scopes ∙ ap (λ l. l ++ scopes_losses span_losses 1 1 names group.scopes) resource
    ∙ (λ i. (whole i ++ resource_losses group) ++ scopes_losses span_losses 1 1 (before_is i) group.scopes)
    ∙ append_assoc (unit_losses before group) (resource_losses group) (scopes_losses span_losses 1 1 (names_before before group.resource) group.scopes)
  where
    whole : first ≡ unit_losses before group
    whole = unit ∙ ap (λ b. joined_losses b group.scopes) same

    before_is : names ≡ names_before before group.resource
    before_is = names_are ∙ ap (λ b. names_where b before) same
