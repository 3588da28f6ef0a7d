-- The rows of a span and those that it has in common with its scope make the tags of all its columns.
use Rattle.std.proofs.Common.{◌≡◌, ℕ, Bool, true, false, List, [], ◌∷◌, ◌++◌, refl, sym, ap, ◌∙◌, true≢false, append_assoc}
use Rattle.std.specs.Option.{option_or}
use Rattle.trace_model.specs.Attributes.{placed, attrs}
use Rattle.trace_model.specs.declared.span.Span.{Span}
use Rattle.span_tags.specs.Columns.{is_key, rows_by}
use Rattle.span_tags.proofs.AttributeLaws.{option_or-none, option_or-assoc, last_at, last_at-append, last_at-rising, attrs_rise, at_attrs, same_pairs}
use Rattle.span_tags.proofs.ColumnLaws.{each_key}
use Rattle.span_tags.proofs.RowLaws.{last_told, last_at-rows, told_none}
use Rattle.span_tags.specs.Runs.{Scoped}
use Rattle.span_tags.specs.TagWords.{Pairs}
use Rattle.map_zipkin.specs.TagColumns.{TagColumns, all_columns, row_of, is_column, zipkin_columns_of, column_rows}
use Rattle.map_zipkin.specs.Writing.{resource_pairs}
use Rattle.map_zipkin.specs.private.WritingSoFar.{unshared_columns, unshared_rows, shared_pairs}
use Rattle.map_zipkin.specs.declared.columns.Column.{Column}
use Rattle.map_zipkin.specs.declared.columns.Column.TheVariants as columns
use Rattle.map_zipkin.proofs.ColumnLemmas.{its_key, told, none_in_rows}

-- what is put in front of pairs hangs on their attributes alone
pub in_front_of : (a l m : Pairs) → attrs l ≡ attrs m → attrs (a ++ l) ≡ attrs (a ++ m)
in_front_of [] l m e = e
in_front_of (p ∷ a) l m e = ap (placed p) (in_front_of a l m e)

-- pairs in order or not
pub attrs_within : (a l : Pairs) → attrs (attrs a ++ l) ≡ attrs (a ++ l)
attrs_within a l = same_pairs (attrs (attrs a ++ l)) (attrs (a ++ l)) (attrs_rise (attrs a ++ l)) (attrs_rise (a ++ l)) (λ k.
    at_attrs k (attrs a ++ l)
    ∙ (last_at-append k (attrs a) l
    ∙ (ap (option_or (last_at k l)) (last_at-rising k (attrs a) (attrs_rise a) ∙ at_attrs k a)
    ∙ (sym (last_at-append k a l)
    ∙ sym (at_attrs k (a ++ l))))))

-- ---- two lists of columns

abbrev shared_columns : List Column
shared_columns = columns.ScopeName ∷ columns.ScopeVersion ∷ []

module _ (one : Scoped Span) where
  abbrev c : TagColumns
  c = zipkin_columns_of one

  abbrev shared : Pairs
  shared = rows_by row_of shared_columns c

  abbrev unshared : Pairs
  unshared = rows_by row_of unshared_columns c

  -- what stands in both stands in all
  abbrev Joined : List ℕ → Type 0
  Joined k = option_or (last_at k shared) (last_at k unshared) ≡ last_at k (column_rows c)

  abbrev Both : List ℕ → Type 0
  Both k = option_or (last_told k (told shared_columns c)) (last_told k (told unshared_columns c)) ≡ last_told k (told all_columns c)

  both : (column : Column) → Both (row_of column).key
  both columns.ScopeName = option_or-none (c columns.ScopeName)
  both columns.ScopeVersion = option_or-none (c columns.ScopeVersion)
  both other = refl

  in_both : (column : Column) → Joined (row_of column).key
  in_both column =
      let k = (row_of column).key in
      (λ i. option_or (last_at-rows k (told shared_columns c) i) (last_at-rows k (told unshared_columns c) i))
      ∙ (both column ∙ sym (last_at-rows k (told all_columns c)))

  none_of : (some : List Column) (k : List ℕ) → is_column k ≡ false → is_key row_of some k ≡ false
  none_of some k none = by (is_key row_of some k) refl
    where
      by : (b : Bool) → is_key row_of some k ≡ b → b ≡ false
      by true is = absurd (true≢false (sym (each_key row_of (λ q. is_column q ≡ true) some its_key k is) ∙ none))
      by false is = refl

  joined : (k : List ℕ) → Joined k
  joined k = by (is_column k) refl
    where
      by : (b : Bool) → is_column k ≡ b → Joined k
      by true is = each_key row_of Joined all_columns in_both k is
      by false none =
          (λ i. option_or
          ((last_at-rows k (told shared_columns c) ∙ told_none k (told shared_columns c) (none_of shared_columns k none)) i)
          ((last_at-rows k (told unshared_columns c) ∙ told_none k (told unshared_columns c) (none_of unshared_columns k none)) i))
          ∙ sym (none_in_rows k c none)

  rows_joined : (rest : Pairs) → attrs (unshared ++ (shared ++ rest)) ≡ attrs (column_rows c ++ rest)
  rows_joined rest = same_pairs (attrs (unshared ++ (shared ++ rest))) (attrs (column_rows c ++ rest)) (attrs_rise (unshared ++ (shared ++ rest))) (attrs_rise (column_rows c ++ rest)) (λ k.
      at_attrs k (unshared ++ (shared ++ rest))
      ∙ (last_at-append k unshared (shared ++ rest)
      ∙ (ap (λ o. option_or o (last_at k unshared)) (last_at-append k shared rest)
      ∙ (option_or-assoc (last_at k rest) (last_at k shared) (last_at k unshared)
      ∙ (ap (option_or (last_at k rest)) (joined k)
      ∙ sym (at_attrs k (column_rows c ++ rest) ∙ last_at-append k (column_rows c) rest))))))

  pub rows_are_columns : (resource l : Pairs)
      → attrs (unshared_rows one.span ++ (attrs (shared_pairs resource one.name one.version) ++ l)) ≡ attrs (column_rows c ++ (resource_pairs resource ++ l))
  rows_are_columns resource l =
      let pairs = shared_pairs resource one.name one.version in
      let shown : pairs ++ l ≡ shared ++ (resource_pairs resource ++ l) = simp append_assoc in
      in_front_of unshared (attrs pairs ++ l) (pairs ++ l) (attrs_within pairs l)
      ∙ (ap (λ m. attrs (unshared ++ m)) shown ∙ rows_joined (resource_pairs resource ++ l))
