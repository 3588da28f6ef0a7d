-- Laws of columns, over any table.
use Rattle.std.proofs.Common.{◌≡◌, ◌==◌, ℕ, Bool, true, false, ◌||◌, List, [], ◌∷◌, ◌++◌, All, length, find, Option, Some, None, refl, sym, subst, true≢false}
use Rattle.std.specs.Str.{bytes_eq}
use Rattle.std.proofs.lemmas.List.Elements.{All-nil, All-append}
use Rattle.trace_model.specs.declared.value.Value.{Value}
use Rattle.span_tags.proofs.AttributeLaws.{same_key}
use Rattle.span_tags.specs.Columns.{ColumnsOf, Row, is_key, rows_by, left_out_by}
use Rattle.span_tags.specs.TagWords.{row, if_left}

module _ {C A : Type 0} (row_of : C → Row C A) where
  -- what each row has, all have
  pub all_rows : (P : List ℕ × Value → Type 0) (columns : List C) (c : ColumnsOf C) → ((column : C) → All P (row (row_of column).key (c column))) → All P (rows_by row_of columns c)
  all_rows P [] c each = All-nil P
  all_rows P (column ∷ more) c each = All-append P (row (row_of column).key (c column)) (rows_by row_of more c) (each column) (all_rows P more c each)

  -- where each tag says something, none is left out
  pub none_left : (columns : List C) (c : ColumnsOf C) → ((column : C) → (row_of column).is_idle (c column) c ≡ false) → left_out_by row_of columns c ≡ []
  none_left [] c told = refl
  none_left (column ∷ more) c told = λ i. if_left (row_of column).key (told column i) ++ none_left more c told i

  -- what holds for each of their keys holds for a key that is one of them
  pub each_key : (P : List ℕ → Type 0) (columns : List C) → ((column : C) → P (row_of column).key) → (k : List ℕ) → is_key row_of columns k ≡ true → P k
  each_key P [] each k e = absurd (true≢false (sym e))
  each_key P (column ∷ more) each k e = by (each_key P more each k) (bytes_eq k (row_of column).key) refl e
    where
      by : (is_key row_of more k ≡ true → P k) → (b : Bool) → bytes_eq k (row_of column).key ≡ b → (b || is_key row_of more k) ≡ true → P k
      by later true same found = subst P (sym (same_key k (row_of column).key same)) (each column)
      by later false apart found = later found

  -- ---- keys of which no two have one length

  -- whether it is the key of this column
  abbrev pub is_key_of : List ℕ → Option C → Bool
  is_key_of key None = false
  is_key_of key (Some column) = bytes_eq key (row_of column).key

  abbrev pub of_length : List C → ℕ → Option C
  of_length columns bytes = find (λ column. length (row_of column).key == bytes) columns

  -- a key is compared with the column of its length alone
  pub key_by_length : (columns : List C) → ((column : C) → is_key_of (row_of column).key (of_length columns (length (row_of column).key)) ≡ true)
      → ((column : C) → is_key row_of columns (row_of column).key ≡ true) → (key : List ℕ) → is_key_of key (of_length columns (length key)) ≡ is_key row_of columns key
  key_by_length columns found its key = by (is_key_of key (of_length columns (length key))) (is_key row_of columns key) (back (of_length columns (length key)))
      (each_key (λ k. is_key_of k (of_length columns (length k)) ≡ true) columns found key)
    where
      back : (column : Option C) → is_key_of key column ≡ true → is_key row_of columns key ≡ true
      back None e = absurd (true≢false (sym e))
      back (Some column) e = subst (λ k. is_key row_of columns k ≡ true) (sym (same_key key (row_of column).key e)) (its column)

      by : (a b : Bool) → (a ≡ true → b ≡ true) → (b ≡ true → a ≡ true) → a ≡ b
      by true b there here = sym (there refl)
      by false true there here = here refl
      by false false there here = refl
