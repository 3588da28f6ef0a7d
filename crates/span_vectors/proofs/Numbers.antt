-- The spans of a gauge are those of the numbers from 1 on, each once, in order; and the numbers of their kinds and codes.
use Rattle.std.proofs.Common.{◌≡◌, ℕ, zero, suc, ◌+◌, ◌*◌, ◌%◌, ◌<◌, ◌≤◌, List, [], ◌∷◌, ◌++◌, length, refl, sym, ap, ◌∙◌, arith}
use Rattle.std.specs.Prelude.{min}
use Rattle.std.specs.List.{flat_map}
use Rattle.std.proofs.lemmas.List.{append-nil}
use Rattle.std.proofs.lemmas.List.FromFn.{map-range_with_len_more, length-map-range_with_len}
use Rattle.std.proofs.lemmas.Grind.{flat_map-append}
use Rattle.trace_model.specs.Flat.{flat}
use Rattle.trace_model.specs.OtlpParts.{kind_number, code_number}
use Rattle.trace_model.specs.declared.span.Span.{Span}
use Rattle.trace_model.specs.declared.group.Group.{Group}
use Rattle.trace_model.specs.declared.group.Scope.{Scope}
use Rattle.span_vectors.specs.Gauge.{kind_numbered, code_numbered, gauge_span, gauge_spans, first_span, group_size, gauge_group, first_groups, group_count, gauge}

-- ---- spans

same_first : (a b n : ℕ) → a ≡ b → gauge_spans a n ≡ gauge_spans b n
same_first a b n e = ap (λ (x : ℕ). gauge_spans x n) e

same_count : (a m n : ℕ) → m ≡ n → gauge_spans a m ≡ gauge_spans a n
same_count a m n e = ap (λ (x : ℕ). gauge_spans a x) e

one_in_front : (a n : ℕ) → gauge_spans a (suc n) ≡ gauge_span a ∷ gauge_spans (a + 1) n
unfolding gauge_spans
one_in_front a n = refl

nothing : (a : ℕ) → gauge_spans a 0 ≡ []
unfolding gauge_spans
nothing a = refl

spans_append : (a m n : ℕ) → gauge_spans a m ++ gauge_spans (a + m) n ≡ gauge_spans a (m + n)
spans_append a zero n =
    ap (λ (l : List Span). l ++ gauge_spans (a + 0) n) (nothing a)
    ∙ (same_first (a + 0) a n (omega arith) ∙ same_count a n (0 + n) (omega arith))
spans_append a (suc m) n =
    ap (λ (l : List Span). l ++ gauge_spans (a + suc m) n) (one_in_front a m)
    ∙ (ap (λ (l : List Span). gauge_span a ∷ (gauge_spans (a + 1) m ++ l)) (same_first (a + suc m) ((a + 1) + m) n (omega arith))
    ∙ (ap (λ (l : List Span). gauge_span a ∷ l) (spans_append (a + 1) m n)
    ∙ (sym (one_in_front a (m + n)) ∙ same_count a (suc (m + n)) (suc m + n) (omega arith))))

-- ---- groups

flat_group : (spans group : ℕ) → flat (gauge_group spans group ∷ []) ≡ gauge_spans (first_span group) (group_size spans group)
unfolding gauge_group
flat_group spans group = append-nil (gauge_spans (first_span group) (group_size spans group))

flat_append : (a b : List Group) → flat (a ++ b) ≡ flat a ++ flat b
flat_append a b =
    ap (λ (l : List Scope). flat_map (λ (scope : Scope). scope.spans) l) (flat_map-append (λ (group : Group). group.scopes) a b)
    ∙ flat_map-append (λ (scope : Scope). scope.spans) (flat_map (λ (group : Group). group.scopes) a) (flat_map (λ (group : Group). group.scopes) b)

no_groups : (spans : ℕ) → first_groups spans 0 ≡ []
unfolding first_groups
no_groups spans = refl

more_groups : (spans n : ℕ) → first_groups spans (suc n) ≡ first_groups spans n ++ gauge_group spans (n + 1) ∷ []
unfolding first_groups
more_groups spans n =
    ap (λ (m : ℕ). first_groups spans m) (let e : suc n ≡ n + 1 = omega arith in e)
    ∙ map-range_with_len_more (gauge_group spans) 1 n (n + 1) (omega arith)

flat_first : (spans n : ℕ) → n ≤ group_count spans → flat (first_groups spans n) ≡ gauge_spans 1 (min (100 * n) spans)
flat_first spans zero low = ap (λ (l : List Group). flat l) (no_groups spans) ∙ (sym (nothing 1) ∙ same_count 1 0 (min (100 * 0) spans) (omega arith))
flat_first spans (suc n) low =
    ap (λ (l : List Group). flat l) (more_groups spans n)
    ∙ (flat_append (first_groups spans n) (gauge_group spans (n + 1) ∷ [])
    ∙ (ap (λ (l : List Span). l ++ flat (gauge_group spans (n + 1) ∷ [])) (flat_first spans n (omega (arith, low)))
    ∙ (ap (λ (l : List Span). gauge_spans 1 (min (100 * n) spans) ++ l)
    (flat_group spans (n + 1) ∙ same_first (first_span (n + 1)) (1 + min (100 * n) spans) (group_size spans (n + 1)) (omega (arith, low)))
    ∙ (spans_append 1 (min (100 * n) spans) (group_size spans (n + 1))
    ∙ same_count 1 (min (100 * n) spans + group_size spans (n + 1)) (min (100 * suc n) spans) (omega (arith, low))))))

pub gauge_flat : (spans : ℕ) → flat (gauge spans) ≡ gauge_spans 1 spans
gauge_flat spans = flat_first spans (group_count spans) (omega arith) ∙ same_count 1 (min (100 * group_count spans) spans) spans (omega arith)

pub spans_counted : (spans : ℕ) → length (flat (gauge spans)) ≡ spans
unfolding gauge_spans
spans_counted spans = ap (λ (l : List Span). length l) (gauge_flat spans) ∙ length-map-range_with_len gauge_span 1 spans

pub groups_counted : (spans : ℕ) → length (gauge spans) ≡ group_count spans
unfolding first_groups
groups_counted spans = length-map-range_with_len (gauge_group spans) 1 (group_count spans)

-- ---- numbers of enums

kind_at : (n : ℕ) → n < 5 → kind_number (kind_numbered (1 + n)) ≡ 1 + n
kind_at zero low = refl
kind_at (suc zero) low = refl
kind_at (suc (suc zero)) low = refl
kind_at (suc (suc (suc zero))) low = refl
kind_at (suc (suc (suc (suc zero)))) low = refl
kind_at (suc (suc (suc (suc (suc n))))) low = absurd (omega (arith, low))

code_at : (n : ℕ) → n < 3 → code_number (code_numbered n) ≡ n
code_at zero low = refl
code_at (suc zero) low = refl
code_at (suc (suc zero)) low = refl
code_at (suc (suc (suc n))) low = absurd (omega (arith, low))

pub kinds_numbered : (i : ℕ) → kind_number (gauge_span i).kind ≡ 1 + i % 5
unfolding gauge_span
kinds_numbered i = kind_at (i % 5) (omega arith)

pub codes_numbered : (i : ℕ) → code_number (gauge_span i).status.code ≡ i % 3
unfolding gauge_span
codes_numbered i = code_at (i % 3) (omega arith)
