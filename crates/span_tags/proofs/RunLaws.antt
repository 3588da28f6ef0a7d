-- Laws of runs: their spans are those of the list, in order, and each of their scopes is plain and has a span.
use Rattle.std.proofs.Common.{◌≡◌, ℕ, Bool, true, false, List, [], ◌∷◌, ◌++◌, map, All, refl, sym, ap, ◌∙◌, subst}
use Rattle.std.specs.Prelude.{◌&&◌, if◌then◌else◌}
use Rattle.std.specs.Str.{bytes_eq}
use Rattle.std.proofs.lemmas.List.Elements.{All-nil, All-cons, All-head, All-tail, All-append}
use Rattle.std.proofs.lemmas.Slice.Eq.{bytes_eq-Decides}
use Rattle.trace_model.specs.declared.span.Span.{Span}
use Rattle.trace_model.specs.declared.group.Scope.{Scope}
use Rattle.span_tags.specs.Runs.{Scoped, spans_of, scoped, is_of, plain_scope, in_front, runs, IsPlain}

-- ---- the spans of runs

both_true : (a b : Bool) → (a && b) ≡ true → (a ≡ true) × (b ≡ true)
both_true true b e = (refl, e)
both_true false b e = (e, cc)

-- a span that is of a scope has its name and version
is_of_same : (one : Scoped Span) (scope : Scope) → is_of one scope ≡ true → record { name = scope.name; version = scope.version; span = one.span } ≡ one
is_of_same one scope e =
    let parts = both_true (bytes_eq one.name scope.name) (bytes_eq one.version scope.version) e in
    let name : one.name ≡ scope.name = (bytes_eq-Decides one.name scope.name).0 parts.0 in
    let version : one.version ≡ scope.version = (bytes_eq-Decides one.version scope.version).0 parts.1 in
    λ i. record { name = sym name i; version = sym version i; span = one.span }

pub in_front_spans : (one : Scoped Span) (scopes : List Scope) → scoped (in_front one scopes) ≡ one ∷ scoped scopes
in_front_spans one [] = refl
in_front_spans one (scope ∷ scopes) = by (is_of one scope) refl
  where
    by : (b : Bool) → is_of one scope ≡ b → scoped (if b then plain_scope scope.name scope.version (one.span ∷ scope.spans) ∷ scopes else plain_scope one.name one.version (one.span ∷ []) ∷ scope ∷ scopes) ≡ one ∷ scoped (scope ∷ scopes)
    by true e = ap (λ (x : Scoped Span). x ∷ scoped (scope ∷ scopes)) (is_of_same one scope e)
    by false e = refl

pub scoped_runs : (l : List (Scoped Span)) → scoped (runs l) ≡ l
scoped_runs [] = refl
scoped_runs (one ∷ more) = in_front_spans one (runs more) ∙ ap (λ (l : List (Scoped Span)). one ∷ l) (scoped_runs more)

plain_is : (name version : List ℕ) (one : Span) (spans : List Span) → IsPlain (plain_scope name version (one ∷ spans))
plain_is name version one spans = record { attributes = refl; dropped = refl; schema_url = refl; some = λ e. cc }

pub in_front_plain : (one : Scoped Span) (scopes : List Scope) → All IsPlain scopes → All IsPlain (in_front one scopes)
in_front_plain one [] all = All-cons IsPlain _ [] (plain_is one.name one.version one.span []) (All-nil IsPlain)
in_front_plain one (scope ∷ scopes) all = by (is_of one scope)
  where
    by : (b : Bool) → All IsPlain (if b then plain_scope scope.name scope.version (one.span ∷ scope.spans) ∷ scopes else plain_scope one.name one.version (one.span ∷ []) ∷ scope ∷ scopes)
    by true = All-cons IsPlain _ scopes (plain_is scope.name scope.version one.span scope.spans) (All-tail IsPlain scope scopes all)
    by false = All-cons IsPlain _ (scope ∷ scopes) (plain_is one.name one.version one.span []) all

pub runs_plain : (l : List (Scoped Span)) → All IsPlain (runs l)
runs_plain [] = All-nil IsPlain
runs_plain (one ∷ more) = in_front_plain one (runs more) (runs_plain more)

-- ---- what spans have

all_parts : {X : Type 0} (Q : X → Type 0) (xs ys : List X) → All Q (xs ++ ys) → All Q xs × All Q ys
all_parts Q [] ys all = (All-nil Q, all)
all_parts Q (x ∷ xs) ys all =
    let rest = all_parts Q xs ys (All-tail Q x (xs ++ ys) all) in (All-cons Q x xs (All-head Q x (xs ++ ys) all) rest.0, rest.1)

-- what the spans of each scope have, all spans have
pub scoped_all : (Q : Scoped Span → Type 0) (scopes : List Scope) → All (λ scope. All Q (spans_of scope)) scopes → All Q (scoped scopes)
scoped_all Q [] all = All-nil Q
scoped_all Q (scope ∷ scopes) all = All-append Q (spans_of scope) (scoped scopes)
    (All-head (λ scope. All Q (spans_of scope)) scope scopes all) (scoped_all Q scopes (All-tail (λ scope. All Q (spans_of scope)) scope scopes all))

-- what all spans have, those of each scope have
pub scoped_each : (Q : Scoped Span → Type 0) (scopes : List Scope) → All Q (scoped scopes) → All (λ scope. All Q (spans_of scope)) scopes
scoped_each Q [] all = All-nil (λ scope. All Q (spans_of scope))
scoped_each Q (scope ∷ scopes) all =
    let parts = all_parts Q (spans_of scope) (scoped scopes) all in
    All-cons (λ scope. All Q (spans_of scope)) scope scopes parts.0 (scoped_each Q scopes parts.1)

-- a run is plain, and its spans have what those of the list have
pub runs_each : (Q : Scoped Span → Type 0) (l : List (Scoped Span)) → All Q l → All (λ scope. IsPlain scope × All Q (spans_of scope)) (runs l)
runs_each Q l all = both (runs l) (runs_plain l) (scoped_each Q (runs l) (subst (All Q) (sym (scoped_runs l)) all))
  where
    both : (scopes : List Scope) → All IsPlain scopes → All (λ scope. All Q (spans_of scope)) scopes → All (λ scope. IsPlain scope × All Q (spans_of scope)) scopes
    both scopes plain each = λ k d lt. (plain k d lt, each k d lt)

-- ---- functions that keep names and versions

abbrev pub on_span : (Span → Span) → Scoped Span → Scoped Span
on_span f one = record { name = one.name; version = one.version; span = f one.span }

abbrev pub on_scope : (Span → Span) → Scope → Scope
on_scope f scope = record scope { spans = map f scope.spans }

in_front_map : (f : Span → Span) (one : Scoped Span) (scopes : List Scope) → in_front (on_span f one) (map (on_scope f) scopes) ≡ map (on_scope f) (in_front one scopes)
in_front_map f one [] = refl
in_front_map f one (scope ∷ scopes) = by (is_of one scope)
  where
    by : (b : Bool) → (if b then plain_scope scope.name scope.version (f one.span ∷ map f scope.spans) ∷ map (on_scope f) scopes
        else plain_scope one.name one.version (f one.span ∷ []) ∷ on_scope f scope ∷ map (on_scope f) scopes)
        ≡ map (on_scope f) (if b then plain_scope scope.name scope.version (one.span ∷ scope.spans) ∷ scopes else plain_scope one.name one.version (one.span ∷ []) ∷ scope ∷ scopes)
    by true = refl
    by false = refl

-- the runs of other spans under the same names and versions are the same runs
pub runs_map : (f : Span → Span) (l : List (Scoped Span)) → runs (map (on_span f) l) ≡ map (on_scope f) (runs l)
runs_map f [] = refl
runs_map f (one ∷ more) = ap (in_front (on_span f one)) (runs_map f more) ∙ in_front_map f one (runs more)
