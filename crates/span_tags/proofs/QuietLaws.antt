-- Where nothing is lost: the losses of each part are none exactly where that part is its own normal form.
--     Quiet found P      nothing is found exactly where P
--     both               of two parts, one behind the other
--     row_quiet, keys_quiet, mapped_quiet, list_quiet      of a row, of the keys of pairs, and of the members of a list
--     scopes_quiet       of the scopes of a group
use Rattle.std.proofs.Common.{◌≡◌, ℕ, suc, ◌+◌, Bool, true, false, not, List, [], ◌∷◌, ◌++◌, length, map, All, Option, Some, None, refl, sym, ap, ◌∙◌, subst, true≢false}
use Rattle.std.specs.Prelude.{◌↔◌, ◌≢◌, ◌&&◌, ◌==◌, ⊤, if◌then◌else◌}
use Rattle.std.specs.List.{AllByRecursion}
use Rattle.std.specs.Str.{bytes_eq}
use Rattle.std.proofs.lemmas.Bool.Decides.{Decides-eqb}
use Rattle.std.proofs.lemmas.List.Elements.{All-head, All-tail}
use Rattle.trace_model.specs.declared.loss.Loss.{Loss}
use Rattle.trace_model.specs.declared.loss.LossRow.{LossRow}
use Rattle.trace_model.specs.declared.loss.LossRow.TheVariants as rows
use Rattle.trace_model.specs.declared.place.Place.{Place}
use Rattle.trace_model.specs.declared.place.Place.TheVariants as places
use Rattle.trace_model.specs.declared.span.Span.{Span}
use Rattle.trace_model.specs.declared.group.Scope.{Scope}
use Rattle.trace_model.specs.declared.value.Value.{Value}
use Rattle.span_tags.proofs.AttributeLaws.{key_itself}
use Rattle.span_tags.specs.Losses.{is_empty, differ, lost_key, lost, lost_keys, losses_of, Names, names_of, are_names_of, joins, names_behind, scope_losses, scopes_losses}
use Rattle.span_tags.specs.Runs.{IsPlain, Scoped, under, spans_of, scoped, is_of, plain_scope, in_front, runs}
use Rattle.span_tags.proofs.RunLaws.{runs_plain, scoped_runs, on_span}
use Rattle.span_tags.specs.TagWords.{Pairs}

-- ---- parts

abbrev pub Quiet : List Loss → Type 0 → Type 0
Quiet found P = (found ≡ []) ↔ P

none_in_both : (xs ys : List Loss) → xs ++ ys ≡ [] → (xs ≡ []) × (ys ≡ [])
none_in_both [] ys e = (refl, e)
none_in_both (x ∷ xs) ys e = absurd (cc)

pub both : {P Q : Type 0} (xs ys : List Loss) → Quiet xs P → Quiet ys Q → Quiet (xs ++ ys) (P × Q)
both xs ys first second = (
  λ e. let parts = none_in_both xs ys e in (first.0 parts.0, second.0 parts.1),
  λ holds. ap (λ l. l ++ ys) (first.1 holds.0) ∙ second.1 holds.1,
)

-- the same in other words
pub quiet_as : {P Q : Type 0} (xs : List Loss) → Quiet xs P → (P → Q) → (Q → P) → Quiet xs Q
quiet_as xs quiet to from = (λ e. to (quiet.0 e), λ q. quiet.1 (from q))

-- ---- rows

pub row_quiet : {P : Type 0} (place : Place) (row : LossRow) (key : List ℕ) (told : Bool) → ((told ≡ false) ↔ P) → Quiet (lost_key place row key told) P
row_quiet place row key true known = (λ e. absurd (cc), λ holds. absurd (true≢false (known.1 holds)))
row_quiet place row key false known = (λ e. known.0 refl, λ holds. refl)

-- two numbers
pub differ_not : (m n : ℕ) → (differ m n ≡ false) ↔ (m ≡ n)
differ_not m n = (λ e. (Decides-eqb m n).0 (not_not (m == n) e), λ same. ap not ((Decides-eqb m n).1 same))
  where
    not_not : (b : Bool) → not b ≡ false → b ≡ true
    not_not true e = refl
    not_not false e = absurd (true≢false e)

-- a list that is empty
pub given_not : {A : Type 0} (xs : List A) → (not (is_empty xs) ≡ false) ↔ (xs ≡ [])
given_not [] = (λ e. refl, λ none. refl)
given_not (x ∷ xs) = (λ e. absurd (true≢false e), λ none. absurd (cc))

pub same_test : (b : Bool) → (b ≡ false) ↔ (b ≡ false)
same_test b = (λ e. e, λ e. e)

-- ---- lists

pub same_parts : {A : Type 0} (x y : A) (xs ys : List A) → x ∷ xs ≡ y ∷ ys → (x ≡ y) × (xs ≡ ys)
same_parts x y xs ys e = (cc, cc)

pub keys_quiet : (place : Place) (row : LossRow) (such : List ℕ × Value → Bool) (pairs : Pairs)
    → Quiet (lost_keys place row such pairs) (AllByRecursion (λ pair. such pair ≡ false) pairs)
keys_quiet place row such [] = (λ e. tt, λ holds. refl)
keys_quiet place row such (pair ∷ pairs) = both (lost_key place row pair.0 (such pair)) (lost_keys place row such pairs)
    (row_quiet place row pair.0 (such pair) (same_test (such pair))) (keys_quiet place row such pairs)

-- pairs that another value is made for where they are such
pub mapped_quiet : (f : List ℕ × Value → List ℕ × Value) (such : List ℕ × Value → Bool) → ((pair : List ℕ × Value) → (such pair ≡ false) ↔ (f pair ≡ pair))
    → (place : Place) (row : LossRow) (pairs : Pairs) → Quiet (lost_keys place row such pairs) (map f pairs ≡ pairs)
mapped_quiet f such known place row [] = (λ e. refl, λ holds. refl)
mapped_quiet f such known place row (pair ∷ pairs) = quiet_as (lost_keys place row such (pair ∷ pairs))
    (both (lost_key place row pair.0 (such pair)) (lost_keys place row such pairs)
    (row_quiet place row pair.0 (such pair) (known pair)) (mapped_quiet f such known place row pairs))
    (λ holds. λ i. holds.0 i ∷ holds.1 i)
    (λ same. same_parts (f pair) pair (map f pairs) pairs same)

-- members of which each has its number
pub list_quiet : {A : Type 0} (f : A → A) (losses : ℕ → A → List Loss) → ((n : ℕ) (x : A) → Quiet (losses n x) (f x ≡ x))
    → (n : ℕ) (xs : List A) → Quiet (losses_of losses n xs) (map f xs ≡ xs)
list_quiet f losses known n [] = (λ e. refl, λ holds. refl)
list_quiet f losses known n (x ∷ xs) = quiet_as (losses_of losses n (x ∷ xs))
    (both (losses n x) (losses_of losses (suc n) xs) (known n x) (list_quiet f losses known (suc n) xs))
    (λ holds. λ i. holds.0 i ∷ holds.1 i)
    (λ same. same_parts (f x) x (map f xs) xs same)

-- ---- scopes

-- it holds a name, a version and spans alone, and doesn't join the scope of the span before
pub record IsOwn (before : Option Names) (scope : Scope) : Type 0 where
  pub dropped : scope.dropped ≡ 0
  pub schema_url : scope.schema_url ≡ []
  pub attributes : scope.attributes ≡ []
  pub some : is_empty scope.spans ≡ false
  pub apart : are_names_of before scope ≡ false

left_true : (a b : Bool) → a ≡ false → (not a && b) ≡ false → b ≡ false
left_true true b e both_false = absurd (true≢false e)
left_true false b e both_false = both_false

pub scope_quiet : (place : Place) (before : Option Names) (scope : Scope) → Quiet (scope_losses place (joins before scope) scope) (IsOwn before scope)
scope_quiet place before scope =
    let joined : Bool = joins before scope in
    let rest_3 = both (lost place rows.ScopeEmpty (is_empty scope.spans)) (lost place rows.ScopeJoined joined)
    (row_quiet place rows.ScopeEmpty [] (is_empty scope.spans) (same_test (is_empty scope.spans))) (row_quiet place rows.ScopeJoined [] joined (same_test joined)) in
    let rest_2 = both (lost place rows.Attributes (not (is_empty scope.attributes))) _ (row_quiet place rows.Attributes [] _ (given_not scope.attributes)) rest_3 in
    let rest_1 = both (lost place rows.SchemaUrl (not (is_empty scope.schema_url))) _ (row_quiet place rows.SchemaUrl [] _ (given_not scope.schema_url)) rest_2 in
    quiet_as (scope_losses place joined scope)
    (both (lost place rows.DroppedCount (differ scope.dropped 0)) _ (row_quiet place rows.DroppedCount [] _ (differ_not scope.dropped 0)) rest_1)
    (λ holds. record {
      dropped = holds.0;
      schema_url = holds.1.0;
      attributes = holds.1.1.0;
      some = holds.1.1.1.0;
      apart = left_true (is_empty scope.spans) (are_names_of before scope) holds.1.1.1.0 holds.1.1.1.1;
    })
    (λ own. (
      own.dropped,
      (
        own.schema_url,
        (
          own.attributes,
          (
            own.some,
            ap (λ b. not b && are_names_of before scope) own.some ∙ own.apart,
          ),
        ),
      ),
    ))

module _ (f : Span → Span) where
  -- each scope is its own, and its spans stay
  abbrev pub AreOwn : Option Names → List Scope → Type 0
  AreOwn before [] = ⊤
  AreOwn before (scope ∷ scopes) = IsOwn before scope × ((map f scope.spans ≡ scope.spans) × AreOwn (names_behind before scope) scopes)

  pub own_quiet : (span_losses : ℕ → Span → List Loss) → ((n : ℕ) (span : Span) → Quiet (span_losses n span) (f span ≡ span))
      → (c s : ℕ) (before : Option Names) (scopes : List Scope) → Quiet (scopes_losses span_losses c s before scopes) (AreOwn before scopes)
  own_quiet span_losses known c s before [] = (λ e. tt, λ holds. refl)
  own_quiet span_losses known c s before (scope ∷ scopes) = both (scope_losses (places.Scope c) (joins before scope) scope) _
      (scope_quiet (places.Scope c) before scope)
      (both (losses_of span_losses s scope.spans) _ (list_quiet f span_losses known s scope.spans)
      (own_quiet span_losses known (suc c) (s + length scope.spans) (names_behind before scope) scopes))

-- ---- runs of own scopes

-- no scope has the names of that before
abbrev pub AreApart : Option Names → List Scope → Type 0
AreApart before [] = ⊤
AreApart before (scope ∷ scopes) = (are_names_of before scope ≡ false) × AreApart (Some (names_of scope)) scopes

front_apart : (one : Scoped Span) (scopes : List Scope) → AreApart None scopes → AreApart None (in_front one scopes)
front_apart one [] apart = (refl, tt)
front_apart one (scope ∷ scopes) apart = by (is_of one scope) refl
  where
    by : (b : Bool) → is_of one scope ≡ b → AreApart None (if b then plain_scope scope.name scope.version (one.span ∷ scope.spans) ∷ scopes else plain_scope one.name one.version (one.span ∷ []) ∷ scope ∷ scopes)
    by true e = (refl, apart.1)
    by false e = (refl, (e, apart.1))

pub runs_apart : (l : List (Scoped Span)) → AreApart None (runs l)
runs_apart [] = tt
runs_apart (one ∷ more) = front_apart one (runs more) (runs_apart more)

-- the first scope has other names than these
abbrev pub BeginsApart : List ℕ → List ℕ → List Scope → Type 0
BeginsApart name version [] = ⊤
BeginsApart name version (scope ∷ scopes) = are_names_of (Some (record { name = name; version = version })) scope ≡ false

one_apart : (name version : List ℕ) (one : Span) (scopes : List Scope) → BeginsApart name version scopes
    → in_front (under name version one) scopes ≡ plain_scope name version (one ∷ []) ∷ scopes
one_apart name version one [] apart = refl
one_apart name version one (scope ∷ scopes) apart =
    ap (λ (b : Bool). if b then plain_scope scope.name scope.version (one ∷ scope.spans) ∷ scopes else plain_scope name version (one ∷ []) ∷ scope ∷ scopes) apart

-- spans of a name and version in front of others are a scope of their own
pub front_run : (name version : List ℕ) (one : Span) (spans : List Span) (l : List (Scoped Span)) → BeginsApart name version (runs l)
    → runs (map (under name version) (one ∷ spans) ++ l) ≡ plain_scope name version (one ∷ spans) ∷ runs l
front_run name version one [] l apart = one_apart name version one (runs l) apart
front_run name version one (two ∷ spans) l apart =
    ap (in_front (under name version one)) (front_run name version two spans l apart)
    ∙ ap (λ (b : Bool). if b && bytes_eq version version then plain_scope name version (one ∷ two ∷ spans) ∷ runs l
    else plain_scope name version (one ∷ []) ∷ plain_scope name version (two ∷ spans) ∷ runs l) (key_itself name)
    ∙ ap (λ (b : Bool). if b then plain_scope name version (one ∷ two ∷ spans) ∷ runs l
    else plain_scope name version (one ∷ []) ∷ plain_scope name version (two ∷ spans) ∷ runs l) (key_itself version)

module _ (f : Span → Span) where
  -- the spans of a scope, each taken by f
  on_spans : (name version : List ℕ) (spans : List Span) (l : List (Scoped Span))
      → map (on_span f) (map (under name version) spans ++ l) ≡ map (under name version) (map f spans) ++ map (on_span f) l
  on_spans name version [] l = refl
  on_spans name version (span ∷ spans) l = ap (λ (rest : List (Scoped Span)). under name version (f span) ∷ rest) (on_spans name version spans l)

  begins_apart : (name version : List ℕ) (scopes : List Scope) → AreOwn f (Some (record { name = name; version = version })) scopes → BeginsApart name version scopes
  begins_apart name version [] own = tt
  begins_apart name version (scope ∷ scopes) own = own.0.apart

  own_scope : (before : Option Names) (scope : Scope) → IsOwn before scope → plain_scope scope.name scope.version scope.spans ≡ scope
  own_scope before scope own = λ i. record {
    name = scope.name;
    version = scope.version;
    attributes = sym own.attributes i;
    dropped = sym own.dropped i;
    schema_url = sym own.schema_url i;
    spans = scope.spans;
  }

  -- in front of other scopes
  own_front : (before : Option Names) (scope : Scope) (spans : List Span) (scopes : List Scope) → scope.spans ≡ spans → IsOwn before scope
      → AreOwn f (Some (names_of scope)) scopes → runs (map (on_span f) (scoped scopes)) ≡ scopes
      → runs (map (under scope.name scope.version) spans ++ map (on_span f) (scoped scopes)) ≡ scope ∷ scopes
  own_front before scope [] scopes is own rest same = absurd (true≢false (sym (ap is_empty is) ∙ own.some))
  own_front before scope (one ∷ spans) scopes is own rest same =
      front_run scope.name scope.version one spans (map (on_span f) (scoped scopes))
      (subst (BeginsApart scope.name scope.version) (sym same) (begins_apart scope.name scope.version scopes rest))
      ∙ (λ i. plain_scope scope.name scope.version (sym is i) ∷ same i)
      ∙ ap (λ (s : Scope). s ∷ scopes) (own_scope before scope own)

  pub own_runs : (before : Option Names) (scopes : List Scope) → AreOwn f before scopes → runs (map (on_span f) (scoped scopes)) ≡ scopes
  own_runs before [] own = refl
  own_runs before (scope ∷ scopes) own =
      ap runs (on_spans scope.name scope.version scope.spans (scoped scopes))
      ∙ ap (λ (spans : List Span). runs (map (under scope.name scope.version) spans ++ map (on_span f) (scoped scopes))) own.1.0
      ∙ own_front before scope scope.spans scopes refl own.0 rest (own_runs (names_behind before scope) scopes own.1.1)
    where
      rest : AreOwn f (Some (names_of scope)) scopes
      rest = subst (λ (b : Bool). AreOwn f (if b then before else Some (names_of scope)) scopes) own.0.some own.1.1

  -- ---- and back

  stay_apart : {A : Type 0} (g : A → A) (xs ys : List A) → map g (xs ++ ys) ≡ xs ++ ys → (map g xs ≡ xs) × (map g ys ≡ ys)
  stay_apart g [] ys same = (refl, same)
  stay_apart g (x ∷ xs) ys same =
      let parts = same_parts (g x) x (map g (xs ++ ys)) (xs ++ ys) same in
      let rest = stay_apart g xs ys parts.1 in
      (λ i. parts.0 i ∷ rest.0 i, rest.1)

  spans_stay : (name version : List ℕ) (spans : List Span) → map (on_span f) (map (under name version) spans) ≡ map (under name version) spans → map f spans ≡ spans
  spans_stay name version [] same = refl
  spans_stay name version (span ∷ spans) same =
      let parts = same_parts (under name version (f span)) (under name version span) (map (on_span f) (map (under name version) spans)) (map (under name version) spans) same in
      let here : f span ≡ span = ap (λ (one : Scoped Span). one.span) parts.0 in
      let rest : map f spans ≡ spans = spans_stay name version spans parts.1 in
      λ i. here i ∷ rest i

  some_of : (spans : List Span) → spans ≢ [] → is_empty spans ≡ false
  some_of [] some = absurd (some refl)
  some_of (one ∷ spans) some = refl

  pub own_by : (before : Option Names) (scopes : List Scope) → All IsPlain scopes → AreApart before scopes → map (on_span f) (scoped scopes) ≡ scoped scopes → AreOwn f before scopes
  own_by before [] plain apart same = tt
  own_by before (scope ∷ scopes) plain apart same =
      let here : IsPlain scope = All-head IsPlain scope scopes plain in
      let some : is_empty scope.spans ≡ false = some_of scope.spans here.some in
      let parts = stay_apart (on_span f) (spans_of scope) (scoped scopes) same in (
        record { dropped = here.dropped; schema_url = here.schema_url; attributes = here.attributes; some = some; apart = apart.0 },
        (
          spans_stay scope.name scope.version scope.spans parts.0,
          subst (λ (b : Bool). AreOwn f (if b then before else Some (names_of scope)) scopes) (sym some)
              (own_by (Some (names_of scope)) scopes (All-tail IsPlain scope scopes plain) apart.1 parts.1),
        ),
      )

  runs_own : (scopes : List Scope) → runs (map (on_span f) (scoped scopes)) ≡ scopes → AreOwn f None scopes
  runs_own scopes same = own_by None scopes
      (subst (All IsPlain) same (runs_plain (map (on_span f) (scoped scopes))))
      (subst (AreApart None) same (runs_apart (map (on_span f) (scoped scopes))))
      (sym (scoped_runs (map (on_span f) (scoped scopes))) ∙ ap scoped same)

  -- scopes of which nothing is lost are the runs of their spans
  pub scopes_quiet : (span_losses : ℕ → Span → List Loss) → ((n : ℕ) (span : Span) → Quiet (span_losses n span) (f span ≡ span))
      → (c s : ℕ) (scopes : List Scope) → Quiet (scopes_losses span_losses c s None scopes) (runs (map (on_span f) (scoped scopes)) ≡ scopes)
  scopes_quiet span_losses known c s scopes = quiet_as (scopes_losses span_losses c s None scopes) (own_quiet f span_losses known c s None scopes)
      (own_runs None scopes) (runs_own scopes)
