-- One more span behind a run.
use Rattle.std.proofs.Common.{◌≡◌, ℕ, Bool, true, false, ◌&&◌, List, [], ◌∷◌, ◌++◌, refl, sym, ap, ◌∙◌, append_assoc}
use Rattle.std.specs.Str.{bytes_eq}
use Rattle.trace_model.specs.declared.span.Span.{Span}
use Rattle.trace_model.specs.declared.group.Scope.{Scope}
use Rattle.span_tags.proofs.AttributeLaws.{same_key, key_itself}
use Rattle.span_tags.specs.Runs.{Scoped, plain_scope, is_of, in_front}
use Rattle.span_tags.specs.ReadRuns.{joined}

both : (a b : Bool) → a && b ≡ true → (a ≡ true) × (b ≡ true)
both true true e = (refl, refl)
both true false e = cc
both false b e = cc

same_names : (a b c d : List ℕ) → bytes_eq a b && bytes_eq c d ≡ true → (a ≡ b) × (c ≡ d)
same_names a b c d e = let parts = both (bytes_eq a b) (bytes_eq c d) e in (same_key a b parts.0, same_key c d parts.1)

-- a span in front is a run in front
front_by : (one : Scoped Span) (scope : Scope) (scopes : List Scope) (same : Bool) → is_of one scope ≡ same
    → in_front one (scope ∷ scopes) ≡ joined one.name one.version (one.span ∷ []) (scope ∷ scopes)
front_by one scope scopes false e = rw e refl
front_by one scope scopes true e =
    let names = same_names one.name scope.name one.version scope.version e in
    rw e (cc (names.0, names.1))

pub front_joins : (one : Scoped Span) (scopes : List Scope) → in_front one scopes ≡ joined one.name one.version (one.span ∷ []) scopes
front_joins one [] = refl
front_joins one (scope ∷ scopes) = front_by one scope scopes (is_of one scope) refl

-- two runs of equal name and version
twice_by : (name version : List ℕ) (spans : List Span) (span : Span) (scope : Scope) (scopes : List Scope) (same : Bool)
    → bytes_eq name scope.name && bytes_eq version scope.version ≡ same
    → joined name version spans (joined name version (span ∷ []) (scope ∷ scopes)) ≡ joined name version (spans ++ span ∷ []) (scope ∷ scopes)
twice_by name version spans span scope scopes false e = rw e (rw (key_itself name, key_itself version) refl)
twice_by name version spans span scope scopes true e =
    rw e (rw (key_itself name, key_itself version) (ap (λ l. plain_scope name version l ∷ scopes) (sym (append_assoc spans (span ∷ []) scope.spans))))

joins_twice : (name version : List ℕ) (spans : List Span) (span : Span) (scopes : List Scope)
    → joined name version spans (joined name version (span ∷ []) scopes) ≡ joined name version (spans ++ span ∷ []) scopes
joins_twice name version spans span [] = rw (key_itself name, key_itself version) refl
joins_twice name version spans span (scope ∷ scopes) =
    twice_by name version spans span scope scopes (bytes_eq name scope.name && bytes_eq version scope.version) refl

-- the span is of the run
pub joins_more : (name version : List ℕ) (spans : List Span) (one : Scoped Span) (scopes : List Scope)
    → bytes_eq name one.name && bytes_eq version one.version ≡ true
    → joined name version (spans ++ one.span ∷ []) scopes ≡ joined name version spans (in_front one scopes)
joins_more name version spans one scopes e =
    let names = same_names name one.name version one.version e in
    let fronts : in_front one scopes ≡ joined name version (one.span ∷ []) scopes =
    front_joins one scopes ∙ (ap (λ n. joined n one.version (one.span ∷ []) scopes) (sym names.0) ∙ ap (λ v. joined name v (one.span ∷ []) scopes) (sym names.1)) in
    sym (ap (joined name version spans) fronts ∙ joins_twice name version spans one.span scopes)

-- the span is of another
apart_by : (name version : List ℕ) (spans : List Span) (one : Scoped Span) (scope : Scope) (scopes : List Scope) (same : Bool)
    → bytes_eq name one.name && bytes_eq version one.version ≡ false → bytes_eq one.name scope.name && bytes_eq one.version scope.version ≡ same
    → joined name version spans (joined one.name one.version (one.span ∷ []) (scope ∷ scopes))
    ≡ plain_scope name version spans ∷ joined one.name one.version (one.span ∷ []) (scope ∷ scopes)
apart_by name version spans one scope scopes false other e = rw e (rw other refl)
apart_by name version spans one scope scopes true other e = rw e (rw other refl)

pub apart_more : (name version : List ℕ) (spans : List Span) (one : Scoped Span) (scopes : List Scope)
    → bytes_eq name one.name && bytes_eq version one.version ≡ false
    → plain_scope name version spans ∷ joined one.name one.version (one.span ∷ []) scopes ≡ joined name version spans (in_front one scopes)
apart_more name version spans one scopes e = sym (ap (joined name version spans) (front_joins one scopes) ∙ aside scopes)
  where
    aside : (scopes : List Scope) → joined name version spans (joined one.name one.version (one.span ∷ []) scopes)
        ≡ plain_scope name version spans ∷ joined one.name one.version (one.span ∷ []) scopes
    aside [] = rw e refl
    aside (scope ∷ scopes) = apart_by name version spans one scope scopes (bytes_eq one.name scope.name && bytes_eq one.version scope.version) e refl

-- the same of runs in hand, by what is said of their parts
pub added_to : (name version new_name new_version : List ℕ) (spans new_spans : List Span) (one : Scoped Span) (scopes : List Scope)
    → new_name ≡ name → new_version ≡ version → new_spans ≡ spans ++ one.span ∷ [] → bytes_eq name one.name && bytes_eq version one.version ≡ true
    → joined new_name new_version new_spans scopes ≡ joined name version spans (in_front one scopes)
added_to name version new_name new_version spans new_spans one scopes en ev es same =
    ap (λ n. joined n new_version new_spans scopes) en
    ∙ (ap (λ v. joined name v new_spans scopes) ev
    ∙ (ap (λ s. joined name version s scopes) es ∙ joins_more name version spans one scopes same))

pub added_first : (new_name new_version : List ℕ) (new_spans : List Span) (one : Scoped Span) (scopes : List Scope)
    → new_name ≡ one.name → new_version ≡ one.version → new_spans ≡ one.span ∷ [] → joined new_name new_version new_spans scopes ≡ in_front one scopes
added_first new_name new_version new_spans one scopes en ev es =
    ap (λ n. joined n new_version new_spans scopes) en
    ∙ (ap (λ v. joined one.name v new_spans scopes) ev ∙ (ap (λ s. joined one.name one.version s scopes) es ∙ sym (front_joins one scopes)))

pub added_behind : (name version new_name new_version : List ℕ) (spans new_spans : List Span) (done new_done : List Scope) (one : Scoped Span) (scopes : List Scope)
    → new_name ≡ one.name → new_version ≡ one.version → new_spans ≡ one.span ∷ [] → new_done ≡ done ++ plain_scope name version spans ∷ []
    → bytes_eq name one.name && bytes_eq version one.version ≡ false
    → new_done ++ joined new_name new_version new_spans scopes ≡ done ++ joined name version spans (in_front one scopes)
added_behind name version new_name new_version spans new_spans done new_done one scopes en ev es ed apart =
    let begun : joined new_name new_version new_spans scopes ≡ joined one.name one.version (one.span ∷ []) scopes =
    ap (λ n. joined n new_version new_spans scopes) en
    ∙ (ap (λ v. joined one.name v new_spans scopes) ev ∙ ap (λ s. joined one.name one.version s scopes) es) in
    ap (λ d. d ++ joined new_name new_version new_spans scopes) ed
    ∙ (append_assoc done (plain_scope name version spans ∷ []) (joined new_name new_version new_spans scopes)
    ∙ ap (λ l. done ++ l) (ap (λ l. plain_scope name version spans ∷ l) begun ∙ apart_more name version spans one scopes apart))
