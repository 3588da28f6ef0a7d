-- What is written in the columns is looked up again: their rows, before pairs under other keys, hold them.
use Rattle.std.proofs.Common.{◌≡◌, ℕ, true, false, List, ◌++◌, length, map, Contains, lit≤, None, option_map, refl, ap, ◌∙◌}
use Rattle.std.specs.Prelude.{cond}
use Rattle.std.specs.Option.{option_or}
use Rattle.std.specs.Str.{bytes_eq}
use Rattle.trace_model.specs.Attributes.{attrs, at}
use Rattle.trace_model.specs.ValueTexts.{value_text}
use Rattle.trace_model.specs.declared.value.Value.{Value, Text}
use Rattle.span_tags.proofs.AttributeLaws.{last_at, last_at-append, at_attrs, on_values}
use Rattle.span_tags.proofs.ColumnLaws.{is_key_of, of_length, key_by_length as keys_by_length}
use Rattle.span_tags.proofs.RowLaws.{Told, last_told, last_at-rows, told_none, told_at, last_told-at, on_rows}
use Rattle.span_tags.specs.TagWords.{Pairs}
use Rattle.map_zipkin.specs.Keys.{is_zipkin_reserved, peer_key}
use Rattle.map_zipkin.specs.OwnColumns.{all_own, own_row, own_form, own_forms, is_own, own_rows, own_in}
use Rattle.map_zipkin.specs.TagColumns.{TagColumns, all_columns, row_of, is_column, column_rows, columns_in}
use Rattle.map_zipkin.specs.Writing.{is_told}
use Rattle.map_zipkin.specs.declared.columns.Column.{Column}
use Rattle.map_zipkin.specs.declared.columns.Column.TheVariants as columns
use Rattle.map_zipkin.specs.declared.own.Own.{Own}
use Rattle.map_zipkin.specs.declared.own.Own.TheVariants as owns

-- ---- rows

pub its_key : (column : Column) → is_column (row_of column).key ≡ true
its_key columns.Error = refl
its_key other = refl

-- no two keys have one length
pub key_by_length : (key : List ℕ) → is_key_of row_of key (of_length row_of all_columns (length key)) ≡ is_column key
key_by_length = keys_by_length row_of all_columns each its_key
  where
    each : (column : Column) → is_key_of row_of (row_of column).key (of_length row_of all_columns (length (row_of column).key)) ≡ true
    each columns.Error = refl
    each other = refl

abbrev pub told : List Column → TagColumns → Told
told some c = map (λ column. ((row_of column).key, c column)) some

its_value : (c : TagColumns) (column : Column) → last_told (row_of column).key (told all_columns c) ≡ c column
its_value c columns.Error = refl
its_value c other = refl

-- under other keys no row stands
pub none_in_rows : (k : List ℕ) (c : TagColumns) → is_column k ≡ false → last_at k (column_rows c) ≡ None
none_in_rows k c e = last_at-rows k (told all_columns c) ∙ told_none k (told all_columns c) e

-- ---- columns

-- no tag of the table stands among these
abbrev pub AreFree : Pairs → Type 0
AreFree rest = (column : Column) → last_at (row_of column).key rest ≡ None

pub columns_back : (c : TagColumns) (rest : Pairs) → AreFree rest → columns_in (attrs (column_rows c ++ rest)) ≡ c
columns_back c rest free = λ i column. found column i
  where
    found : (column : Column) → columns_in (attrs (column_rows c ++ rest)) column ≡ c column
    found column =
        let k = (row_of column).key in
        at_attrs k (column_rows c ++ rest)
        ∙ (last_at-append k (column_rows c) rest
        ∙ (ap (λ o. option_or o (last_at k (column_rows c))) (free column)
        ∙ (last_at-rows k (told all_columns c) ∙ its_value c column)))

-- ---- columns that hold texts

abbrev pub textual : Value → Value
textual value = Text (value_text value)

abbrev pub texts_of_columns : TagColumns → TagColumns
texts_of_columns c = λ column. option_map textual (c column)

pub texts_in_rows : (c : TagColumns) → on_values textual (column_rows c) ≡ column_rows (texts_of_columns c)
texts_in_rows c = on_rows textual (told all_columns c)

-- ---- keys of Zipkin's own

abbrev own_keys : List (List ℕ)
own_keys = map (λ own. (own_row own).key) all_own

-- the rows of what pairs hold under the own keys hold it there, and nothing else
pub own_at : (k : List ℕ) (l : Pairs) → last_at k (own_rows (own_in l)) ≡ cond (is_own k) (at k l) None
own_at k l = last_at-rows k (told_at l own_keys) ∙ last_told-at k l own_keys

-- no own key is one of a column, or has a place of its own
pub own_apart : (own : Own) → is_zipkin_reserved (own_row own).key ≡ false
own_apart owns.Debug = refl
own_apart other = refl

pub own_untold : (own : Own) → is_told (own_row own).key ≡ false
own_untold owns.Debug = refl
own_untold other = refl

pub own_no_peer : (own : Own) → bytes_eq peer_key (own_row own).key ≡ false
own_no_peer owns.Debug = refl
own_no_peer other = refl

-- each own key is among those with their forms
pub own_there : (own : Own) → Contains own_forms ((own_row own).key, own_form own)
own_there owns.Debug = (0, lit≤ tt, refl)
own_there owns.LocalIpv4 = (1, lit≤ tt, refl)
own_there owns.LocalIpv6 = (2, lit≤ tt, refl)
own_there owns.LocalPort = (3, lit≤ tt, refl)
own_there owns.RemoteIpv4 = (4, lit≤ tt, refl)
own_there owns.RemoteIpv6 = (5, lit≤ tt, refl)
own_there owns.RemotePort = (6, lit≤ tt, refl)
own_there owns.Shared = (7, lit≤ tt, refl)
