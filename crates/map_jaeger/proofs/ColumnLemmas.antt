-- What is written in the columns is looked up again, before attributes under other keys.
use Rattle.std.proofs.Common.{◌≡◌, ℕ, true, false, List, ◌++◌, length, map, Option, None, option_map, refl, ap, ◌∙◌}
use Rattle.std.specs.Option.{option_or}
use Rattle.trace_model.specs.Attributes.{Rise, keys, attrs, at}
use Rattle.trace_model.specs.declared.value.Value.{Value}
use Rattle.span_tags.proofs.AttributeLaws.{last_at, at_attrs-append, on_values, at_map}
use Rattle.span_tags.proofs.ColumnLaws.{is_key_of, of_length, key_by_length as keys_by_length}
use Rattle.span_tags.proofs.RowLaws.{Told, last_told, last_at-rows, told_none, on_rows}
use Rattle.map_jaeger.specs.Columns.{Columns, all_columns, row_of, rows, looked, has_column}
use Rattle.map_jaeger.specs.TagValues.{normal_value}
use Rattle.map_jaeger.specs.declared.columns.Column.{Column}
use Rattle.map_jaeger.specs.declared.columns.Column.TheVariants as columns

pub its_key : (column : Column) → has_column (row_of column).key ≡ true
its_key columns.Error = refl
its_key other = refl

-- no two keys have one length
pub key_by_length : (key : List ℕ) → is_key_of row_of key (of_length row_of all_columns (length key)) ≡ has_column key
key_by_length = keys_by_length row_of all_columns each its_key
  where
    each : (column : Column) → is_key_of row_of (row_of column).key (of_length row_of all_columns (length (row_of column).key)) ≡ true
    each columns.Error = refl
    each other = refl

-- ---- rows

abbrev told : Columns → Told
told c = map (λ column. ((row_of column).key, c column)) all_columns

its_value : (c : Columns) (column : Column) → last_told (row_of column).key (told c) ≡ c column
its_value c columns.Error = refl
its_value c other = refl

-- under other keys no row stands
pub none_in_rows : (k : List ℕ) (c : Columns) → has_column k ≡ false → last_at k (rows c) ≡ None
none_in_rows k c e = last_at-rows k (told c) ∙ told_none k (told c) e

-- ---- columns

-- no tag of the table stands among these
abbrev pub AreFree : List (List ℕ × Value) → Type 0
AreFree rest = (k : List ℕ) → has_column k ≡ true → at k rest ≡ None

pub looked_back : (c : Columns) (rest : List (List ℕ × Value)) → Rise (keys rest) → AreFree rest → looked (attrs (rows c ++ rest)) ≡ c
looked_back c rest up free = λ i column. found column i
  where
    found : (column : Column) → looked (attrs (rows c ++ rest)) column ≡ c column
    found column =
        let k = (row_of column).key in
        at_attrs-append k (rows c) rest up
        ∙ (ap (λ o. option_or o (last_at k (rows c))) (free k (its_key column))
        ∙ (last_at-rows k (told c) ∙ its_value c column))

-- ---- columns that hold leaves

abbrev pub normal_column : Option Value → Option Value
normal_column value = option_map normal_value value

abbrev pub normal_columns : Columns → Columns
normal_columns c = λ column. normal_column (c column)

-- the normal form of the rows is the rows of the normal form
pub normal_rows : (c : Columns) → on_values normal_value (rows c) ≡ rows (normal_columns c)
normal_rows c = on_rows normal_value (told c)

-- the same where each value is told as a leaf, and the columns hold leaves
pub looked_back_leaves : (c : Columns) (rest : List (List ℕ × Value)) → Rise (keys rest) → AreFree rest → normal_columns c ≡ c → looked (on_values normal_value (attrs (rows c ++ rest))) ≡ c
looked_back_leaves c rest up free leaves =
    (λ i column. at_map normal_value (row_of column).key (attrs (rows c ++ rest)) i) ∙ (ap normal_columns (looked_back c rest up free) ∙ leaves)
