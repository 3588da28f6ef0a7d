-- Where the scopes of runs begin: behind spans of which the last has another name or version than the next.
--     Starts n scopes           a scope begins behind this many spans, scope by scope
--     joins_meant               a scope joins that of the span before exactly where no run begins with its first span
use Rattle.std.proofs.Common.{◌≡◌, ℕ, suc, ◌+◌, Bool, true, false, not, List, [], ◌∷◌, ◌++◌, length, map, Option, Some, None, refl, sym, ap, ◌∙◌, subst, true≢false, ⊎_elim, inl, inr, arith}
use Rattle.std.specs.Prelude.{◌↔◌, ◌≢◌, ◌⊎◌, ◌&&◌, if◌then◌else◌}
use Rattle.std.specs.Str.{bytes_eq}
use Rattle.std.proofs.lemmas.Grind.{flat_map-append}
use Rattle.std.proofs.lemmas.List.{map-append, length-map, length-append}
use Rattle.trace_model.specs.declared.span.Span.{Span}
use Rattle.trace_model.specs.declared.group.Scope.{Scope}
use Rattle.span_tags.specs.LossMeanings.{spans_in, Begins}
use Rattle.span_tags.specs.Losses.{is_empty, Names, named, are_names_of, joins, names_behind}
use Rattle.span_tags.specs.Runs.{Scoped, under, spans_of, scoped, is_of, plain_scope, in_front, runs}
use Rattle.span_tags.proofs.AttributeLaws.{same_key}
use Rattle.span_tags.proofs.MeaningLaws.{told_not, names_after}
use Rattle.span_tags.proofs.RunLaws.{scoped_runs, on_span}

-- ---- scope by scope

abbrev pub Starts : ℕ → List Scope → Type 0
Starts n [] = ⊥
Starts n (scope ∷ scopes) = (n ≡ 0) ⊎ ((m : ℕ) × (n ≡ length scope.spans + m) × Starts m scopes)

-- the spans before a scope and before one more in front
before_more : (one : Scope) (before : List Scope) (n m : ℕ) → length (spans_in before) ≡ m → n ≡ length one.spans + m → length (spans_in (one ∷ before)) ≡ n
before_more one before n m spans is = omega (arith, spans, is, length-append one.spans (spans_in before))

pub begins_starts : (n : ℕ) (scopes : List Scope) → Starts n scopes → Begins n scopes
begins_starts n [] starts = absurd starts
begins_starts n (scope ∷ scopes) (inl zero_is) = record { before = []; scope = scope; others = scopes; split = refl; spans = sym zero_is }
begins_starts n (scope ∷ scopes) (inr (m, is, starts)) =
    let rest = begins_starts m scopes starts in
    record {
      before = scope ∷ rest.before;
      scope = rest.scope;
      others = rest.others;
      split = ap (λ (l : List Scope). scope ∷ l) rest.split;
      spans = before_more scope rest.before n m rest.spans is;
    }

starts_at : (before : List Scope) (scope : Scope) (others : List Scope) (n : ℕ) → length (spans_in before) ≡ n → Starts n (before ++ scope ∷ others)
starts_at [] scope others n spans = inl (sym spans)
starts_at (one ∷ before) scope others n spans =
    inr (length (spans_in before), omega (arith, spans, length-append one.spans (spans_in before)), starts_at before scope others (length (spans_in before)) refl)

pub starts_begins : (n : ℕ) (scopes : List Scope) → Begins n scopes → Starts n scopes
starts_begins n scopes begins = subst (Starts n) (sym begins.split) (starts_at begins.before begins.scope begins.others n begins.spans)

-- ---- one more span in front

pub starts_first : (one : Scoped Span) (scopes : List Scope) → Starts 0 (in_front one scopes)
starts_first one [] = inl refl
starts_first one (scope ∷ scopes) = by (is_of one scope)
  where
    by : (b : Bool) → Starts 0 (if b then plain_scope scope.name scope.version (one.span ∷ scope.spans) ∷ scopes else plain_scope one.name one.version (one.span ∷ []) ∷ scope ∷ scopes)
    by true = inl refl
    by false = inl refl

-- behind more than one span, as before
pub front_more : (one : Scoped Span) (n : ℕ) (scopes : List Scope) → Starts (suc (suc n)) (in_front one scopes) ↔ Starts (suc n) scopes
front_more one n [] = (
  λ starts. ⊎_elim (λ (e : suc (suc n) ≡ 0). absurd (omega (arith, e)))
      (λ (rest : (m : ℕ) × (suc (suc n) ≡ 1 + m) × ⊥). rest.2) starts,
  λ starts. absurd starts,
)
front_more one n (scope ∷ scopes) = by (is_of one scope)
  where
    by : (b : Bool) → Starts (suc (suc n)) (if b then plain_scope scope.name scope.version (one.span ∷ scope.spans) ∷ scopes else plain_scope one.name one.version (one.span ∷ []) ∷ scope ∷ scopes)
        ↔ Starts (suc n) (scope ∷ scopes)
    by true = (
      λ starts. ⊎_elim (λ (e : suc (suc n) ≡ 0). absurd (omega (arith, e)))
          (λ (rest : (m : ℕ) × (suc (suc n) ≡ suc (length scope.spans) + m) × Starts m scopes). inr (rest.0, omega (arith, rest.1), rest.2)) starts,
      λ starts. ⊎_elim (λ (e : suc n ≡ 0). absurd (omega (arith, e)))
          (λ (rest : (m : ℕ) × (suc n ≡ length scope.spans + m) × Starts m scopes). inr (rest.0, omega (arith, rest.1), rest.2)) starts,
    )
    by false = (
      λ starts. ⊎_elim (λ (e : suc (suc n) ≡ 0). absurd (omega (arith, e)))
          (λ (rest : (m : ℕ) × (suc (suc n) ≡ 1 + m) × Starts m (scope ∷ scopes)).
          let same : rest.0 ≡ suc n = omega (arith, rest.1) in subst (λ (m : ℕ). Starts m (scope ∷ scopes)) same rest.2) starts,
      λ starts. inr (suc n, omega arith, starts),
    )

-- a span has the name and version
abbrev pub are_names_at : Option Names → Scoped Span → Bool
are_names_at None one = false
are_names_at (Some before) one = bytes_eq before.name one.name && bytes_eq before.version one.version

-- the first scope has the name and version of the span in front, and a span
pub record BeginsWith (one : Scoped Span) (scopes : List Scope) : Type 0 where
  pub scope : Scope
  pub others : List Scope
  pub is : scopes ≡ scope ∷ others
  pub name : scope.name ≡ one.name
  pub version : scope.version ≡ one.version
  pub some : ℕ
  pub spans : length scope.spans ≡ suc some

both_true : (a b : Bool) → (a && b) ≡ true → (a ≡ true) × (b ≡ true)
both_true true b e = (refl, e)
both_true false b e = absurd (true≢false (sym e))

pub begins_with : (one : Scoped Span) (scopes : List Scope) → BeginsWith one (in_front one scopes)
begins_with one [] = record {
  scope = plain_scope one.name one.version (one.span ∷ []);
  others = [];
  is = refl;
  name = refl;
  version = refl;
  some = 0;
  spans = refl;
}
begins_with one (scope ∷ scopes) = by (is_of one scope) refl
  where
    by : (b : Bool) → is_of one scope ≡ b
        → BeginsWith one (if b then plain_scope scope.name scope.version (one.span ∷ scope.spans) ∷ scopes else plain_scope one.name one.version (one.span ∷ []) ∷ scope ∷ scopes)
    by true e =
        let parts = both_true (bytes_eq one.name scope.name) (bytes_eq one.version scope.version) e in
        record {
          scope = plain_scope scope.name scope.version (one.span ∷ scope.spans);
          others = scopes;
          is = refl;
          name = sym (same_key one.name scope.name parts.0);
          version = sym (same_key one.version scope.version parts.1);
          some = length scope.spans;
          spans = refl;
        }
    by false e = record {
      scope = plain_scope one.name one.version (one.span ∷ []);
      others = scope ∷ scopes;
      is = refl;
      name = refl;
      version = refl;
      some = 0;
      spans = refl;
    }

-- behind one span, where the next has another name or version
pub front_one : (one next : Scoped Span) (scopes : List Scope) → BeginsWith next scopes
    → Starts 1 (in_front one scopes) ↔ (are_names_at (Some (named one.name one.version)) next ≡ false)
front_one one next scopes first =
    subst (λ (l : List Scope). Starts 1 (in_front one l) ↔ (are_names_at (Some (named one.name one.version)) next ≡ false)) (sym first.is)
    (subst (λ (t : Bool). Starts 1 (in_front one (first.scope ∷ first.others)) ↔ (t ≡ false)) test (by (is_of one first.scope)))
  where
    test : is_of one first.scope ≡ are_names_at (Some (named one.name one.version)) next
    test = λ i. bytes_eq one.name (first.name i) && bytes_eq one.version (first.version i)

    by : (b : Bool) → Starts 1 (if b then plain_scope first.scope.name first.scope.version (one.span ∷ first.scope.spans) ∷ first.others
        else plain_scope one.name one.version (one.span ∷ []) ∷ first.scope ∷ first.others) ↔ (b ≡ false)
    by true = (
      λ starts. ⊎_elim (λ (e : 1 ≡ 0). absurd (omega (arith, e)))
          (λ (rest : (m : ℕ) × (1 ≡ suc (length first.scope.spans) + m) × Starts m first.others). absurd (omega (arith, rest.1, first.spans))) starts,
      λ e. absurd (true≢false e),
    )
    by false = (λ starts. refl, λ e. inr (0, refl, inl refl))

-- ---- runs

-- the name and version of the last span
abbrev pub last_names : Option Names → List (Scoped Span) → Option Names
last_names names [] = names
last_names names (one ∷ more) = last_names (Some (named one.name one.version)) more

pub starts_runs : (front : List (Scoped Span)) (next : Scoped Span) (more : List (Scoped Span))
    → Starts (length front) (runs (front ++ next ∷ more)) ↔ (are_names_at (last_names None front) next ≡ false)
starts_runs [] next more = (λ starts. refl, λ e. starts_first next (runs more))
starts_runs (one ∷ []) next more = front_one one next (runs (next ∷ more)) (begins_with next (runs more))
starts_runs (one ∷ two ∷ front) next more =
    let step = front_more one (length front) (runs (two ∷ front ++ next ∷ more)) in
    let rest = starts_runs (two ∷ front) next more in
    (λ starts. rest.0 (step.0 starts), λ e. step.1 (rest.1 e))

-- ---- scopes and their spans

under_names : (name version : List ℕ) (spans : List Span) (rest : List (Scoped Span))
    → last_names (Some (named name version)) (map (under name version) spans ++ rest) ≡ last_names (Some (named name version)) rest
under_names name version [] rest = refl
under_names name version (span ∷ spans) rest = under_names name version spans rest

scope_names : (names : Option Names) (name version : List ℕ) (spans : List Span) (rest : List (Scoped Span))
    → last_names names (map (under name version) spans ++ rest) ≡ last_names (if is_empty spans then names else Some (named name version)) rest
scope_names names name version [] rest = refl
scope_names names name version (span ∷ spans) rest = under_names name version spans rest

pub names_scoped : (names : Option Names) (scopes : List Scope) → names_after names scopes ≡ last_names names (scoped scopes)
names_scoped names [] = refl
names_scoped names (scope ∷ scopes) =
    names_scoped (names_behind names scope) scopes ∙ sym (scope_names names scope.name scope.version scope.spans (scoped scopes))

spans_under : (name version : List ℕ) (spans : List Span) (rest : List (Scoped Span)) (others : List Span) → length rest ≡ length others
    → length (map (under name version) spans ++ rest) ≡ length (spans ++ others)
spans_under name version [] rest others same = same
spans_under name version (span ∷ spans) rest others same = ap suc (spans_under name version spans rest others same)

pub scoped_length : (scopes : List Scope) → length (scoped scopes) ≡ length (spans_in scopes)
scoped_length [] = refl
scoped_length (scope ∷ scopes) = spans_under scope.name scope.version scope.spans (scoped scopes) (spans_in scopes) (scoped_length scopes)

under_spans : (name version : List ℕ) (spans : List Span) (l : List (Scoped Span)) (others : List Span) → map (λ (one : Scoped Span). one.span) l ≡ others
    → map (λ (one : Scoped Span). one.span) (map (under name version) spans ++ l) ≡ spans ++ others
under_spans name version [] l others same = same
under_spans name version (span ∷ spans) l others same = ap (λ (rest : List Span). span ∷ rest) (under_spans name version spans l others same)

pub in_scoped : (scopes : List Scope) → map (λ (one : Scoped Span). one.span) (scoped scopes) ≡ spans_in scopes
in_scoped [] = refl
in_scoped (scope ∷ scopes) = under_spans scope.name scope.version scope.spans (scoped scopes) (spans_in scopes) (in_scoped scopes)

module _ (f : Span → Span) where
  on_names : (names : Option Names) (l : List (Scoped Span)) → last_names names (map (on_span f) l) ≡ last_names names l
  on_names names [] = refl
  on_names names (one ∷ more) = on_names (Some (named one.name one.version)) more

  abbrev made : List Scope → List (Scoped Span)
  made scopes = map (on_span f) (scoped scopes)

  made_at : (before : List Scope) (scope : Scope) (others : List Scope) (span : Span) (more : List Span) → scope.spans ≡ span ∷ more
      → made (before ++ scope ∷ others) ≡ made before ++ on_span f (under scope.name scope.version span) ∷ map (on_span f) (map (under scope.name scope.version) more ++ scoped others)
  made_at before scope others span more is =
      ap (map (on_span f)) (flat_map-append spans_of before (scope ∷ others))
      ∙ map-append (on_span f) (scoped before) (spans_of scope ++ scoped others)
      ∙ ap (λ (spans : List Span). made before ++ map (on_span f) (map (under scope.name scope.version) spans ++ scoped others)) is

  -- a run begins with the first span of a scope exactly where the last span before has another name or version
  pub begins_scope : (before : List Scope) (scope : Scope) (others : List Scope) (span : Span) (more : List Span) → scope.spans ≡ span ∷ more
      → Starts (length (spans_in before)) (runs (made (before ++ scope ∷ others))) ↔ (are_names_of (names_after None before) scope ≡ false)
  begins_scope before scope others span more is =
      let first = on_span f (under scope.name scope.version span) in
      let rest = map (on_span f) (map (under scope.name scope.version) more ++ scoped others) in
      let count : length (made before) ≡ length (spans_in before) = length-map (scoped before) (on_span f) ∙ scoped_length before in
      let names : last_names None (made before) ≡ names_after None before = on_names None (scoped before) ∙ sym (names_scoped None before) in
      let same : are_names_at (last_names None (made before)) first ≡ are_names_of (names_after None before) scope = ap (λ (n : Option Names). are_names_at n first) names ∙ of_scope (names_after None before) in
      let known = starts_runs (made before) first rest in
      let list = made_at before scope others span more is in (
        λ starts. sym same ∙ known.0 (subst (λ (l : List (Scoped Span)). Starts (length (made before)) (runs l)) list (subst (λ (n : ℕ). Starts n (runs (made (before ++ scope ∷ others)))) (sym count) starts)),
        λ e. subst (λ (n : ℕ). Starts n (runs (made (before ++ scope ∷ others)))) count
            (subst (λ (l : List (Scoped Span)). Starts (length (made before)) (runs l)) (sym list) (known.1 (same ∙ e))),
      )
    where
      of_scope : (names : Option Names) → are_names_at names (on_span f (under scope.name scope.version span)) ≡ are_names_of names scope
      of_scope None = refl
      of_scope (Some names) = refl

  -- it joins the scope of the span before
  pub joins_meant : (before : List Scope) (scope : Scope) (others : List Scope)
      → (joins (names_after None before) scope ≡ true)
      ↔ ((scope.spans ≢ []) × (Begins (0 + length (spans_in before)) (runs (made (before ++ scope ∷ others))) → ⊥))
  joins_meant before scope others = by scope.spans refl
    where
      count : 0 + length (spans_in before) ≡ length (spans_in before)
      count = omega arith

      by : (spans : List Span) → scope.spans ≡ spans → ((not (is_empty spans) && are_names_of (names_after None before) scope) ≡ true)
          ↔ ((spans ≢ []) × (Begins (0 + length (spans_in before)) (runs (made (before ++ scope ∷ others))) → ⊥))
      by [] is = (λ e. absurd (true≢false (sym e)), λ holds. absurd (holds.0 refl))
      by (span ∷ more) is =
          let known = begins_scope before scope others span more is in
          let begins : Begins (0 + length (spans_in before)) (runs (made (before ++ scope ∷ others))) ↔ (are_names_of (names_after None before) scope ≡ false) = (
            λ it. known.0 (starts_begins (length (spans_in before)) (runs (made (before ++ scope ∷ others)))
                (subst (λ (n : ℕ). Begins n (runs (made (before ++ scope ∷ others)))) count it)),
            λ e. subst (λ (n : ℕ). Begins n (runs (made (before ++ scope ∷ others)))) (sym count)
                (begins_starts (length (spans_in before)) (runs (made (before ++ scope ∷ others))) (known.1 e)),
          ) in
          let told = told_not (are_names_of (names_after None before) scope) (begins.1, begins.0) in
          (λ e. (λ none. absurd (cc), told.0 e), λ holds. told.1 holds.1)

  -- the spans of runs are those of the scopes, taken by f
  map_spans : (name version : List ℕ) (spans : List Span) (l : List (Scoped Span)) (others : List Span) → map (λ (one : Scoped Span). one.span) (map (on_span f) l) ≡ others
      → map (λ (one : Scoped Span). one.span) (map (on_span f) (map (under name version) spans ++ l)) ≡ map f spans ++ others
  map_spans name version [] l others same = same
  map_spans name version (span ∷ spans) l others same = ap (λ (rest : List Span). f span ∷ rest) (map_spans name version spans l others same)

  made_spans : (scopes : List Scope) → map (λ (one : Scoped Span). one.span) (made scopes) ≡ map f (spans_in scopes)
  made_spans [] = refl
  made_spans (scope ∷ scopes) =
      map_spans scope.name scope.version scope.spans (scoped scopes) (map f (spans_in scopes)) (made_spans scopes)
      ∙ sym (map-append f scope.spans (spans_in scopes))

  pub runs_spans : (scopes : List Scope) → spans_in (runs (made scopes)) ≡ map f (spans_in scopes)
  runs_spans scopes =
      sym (in_scoped (runs (made scopes))) ∙ ap (map (λ (one : Scoped Span). one.span)) (scoped_runs (made scopes)) ∙ made_spans scopes
