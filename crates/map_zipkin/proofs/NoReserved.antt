-- Tags of which none stands under a reserved key hold nothing in any column, and none of them is left out there.
use Rattle.std.proofs.Common.{◌≡◌, ℕ, Bool, true, false, cond, ◌||◌, List, [], ◌∷◌, ◌++◌, Option, Some, None, is_some, refl, sym, ap, subst, ◌∙◌, true≢false}
use Rattle.std.specs.List.{list_any}
use Rattle.std.specs.Str.{bytes_eq}
use Rattle.trace_model.specs.Attributes.{at}
use Rattle.trace_model.specs.Remarks.{Keys}
use Rattle.trace_model.specs.declared.value.Value.{Value}
use Rattle.span_tags.specs.Columns.{left_out_by as left_out_of}
use Rattle.span_tags.proofs.AttributeLaws.{same_key}
use Rattle.span_tags.specs.TagKeys.{service_key}
use Rattle.span_tags.specs.TagWords.{Pairs, if_left}
use Rattle.map_zipkin.specs.Keys.{resource_prefix, resource_key, is_zipkin_reserved}
use Rattle.map_zipkin.specs.Remarks.{first_columns, reserved_left}
use Rattle.map_zipkin.specs.TagColumns.{TagColumns, row_of, columns_in, is_idle_in}
use Rattle.map_zipkin.specs.declared.columns.Column.{Column}
use Rattle.map_zipkin.specs.declared.columns.Column.TheVariants as columns
use Rattle.map_zipkin.specs.declared.reading.columns.Told.{Told}
use Rattle.map_zipkin.specs.private.ReadColumns.{IsZipkinTold, IsZipkinToldBy}
use Rattle.map_zipkin.proofs.ColumnLemmas.{its_key}

abbrev NoneReserved : Pairs → Type 0
NoneReserved tags = list_any (λ tag. is_zipkin_reserved tag.0) tags ≡ false

none_at : (key : List ℕ) (tags : Pairs) → is_zipkin_reserved key ≡ true → NoneReserved tags → at key tags ≡ None
none_at key [] is none = refl
none_at key (tag ∷ tags) is none = by (none_at key tags is) (is_zipkin_reserved tag.0) (bytes_eq key tag.0) refl refl none
  where
    by : (NoneReserved tags → at key tags ≡ None) → (r b : Bool) → is_zipkin_reserved tag.0 ≡ r → bytes_eq key tag.0 ≡ b → (r || list_any (λ tag. is_zipkin_reserved tag.0) tags) ≡ false
        → cond b (Some tag.1) (at key tags) ≡ None
    by later true b e same none = absurd (true≢false none)
    by later false true e same none = absurd (true≢false (sym is ∙ ap is_zipkin_reserved (same_key key tag.0 same) ∙ e))
    by later false false e apart none = later none

its_reserved : (column : Column) → is_zipkin_reserved (row_of column).key ≡ true
its_reserved column = ap (λ b. b || is_some (resource_key (row_of column).key)) (its_key column)

no_columns : (tags : Pairs) → NoneReserved tags → columns_in tags ≡ (λ column. None)
no_columns tags none = λ i column. none_at (row_of column).key tags (its_reserved column) none i

pub nothing_told : (tags : Pairs) (told : Told) → list_any (λ tag. is_zipkin_reserved tag.0) tags ≡ false
    → IsZipkinTold (λ column. None) told → IsZipkinToldBy tags told
nothing_told tags told none is = subst (λ c. IsZipkinTold c told) (sym (no_columns tags none)) is

left_by : TagColumns → Option Value → Keys
left_by c service = left_out_of row_of first_columns c
    ++ (if_left (resource_prefix ++ service_key) (is_some service) ++ if_left (row_of columns.Code).key (is_idle_in c columns.Code))

pub nothing_left : (tags : Pairs) → list_any (λ tag. is_zipkin_reserved tag.0) tags ≡ false → reserved_left (columns_in tags) tags ≡ []
unfolding left_by
nothing_left tags none = λ i. left_by (no_columns tags none i) (none_at (resource_prefix ++ service_key) tags refl none i)
