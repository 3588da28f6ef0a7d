-- Tags and references, in which no struct stands: what their rows mean together.
use Rattle.std.proofs.Common.{◌≡◌, ◌≤◌, ◌∷◌, ℕ, zero, suc, ℤ, pos, Bool, true, false, Option, Some, None, List, [], inl, inr, refl, sym, ap, ◌∙◌, arith}
use Rattle.std.specs.List.{flat_map}
use Rattle.span_io.specs.declared.cause.Cause.TheVariants as causes
use Rattle.span_io.specs.Offences.{FormatLaws}
use Rattle.span_io.specs.Tables.{MeansText, NotText, Values, Mean, givens}
use Rattle.thrift_core.specs.FieldValues.{values_of, truth_in, i32_in, i64_in, double_in, binary_in}
use Rattle.thrift_core.specs.Messages.{FieldItem, structs, fields_of}
use Rattle.thrift_core.specs.Parts.{Spelling}
use Rattle.jaeger_model.proofs.ReferenceLemmas.{reference_laws}
use Rattle.jaeger_model.proofs.RowKinds.{means_kind, text_kind, enum_kind, StructProof}
use Rattle.jaeger_model.proofs.StructProofs.{binary_proof, int_proof, long_proof, truth_proof, eight_proof, struct_proof, given_back, given_on, some_held, found_or}
use Rattle.jaeger_model.proofs.StructRows.{TableProof, TableFound, AtEnd}
use Rattle.jaeger_model.proofs.TagLemmas.{tag_laws}
use Rattle.jaeger_model.specs.declared.span.SpanRef.{SpanRef}
use Rattle.jaeger_model.specs.declared.tag.Tag.{Tag}
use Rattle.jaeger_model.specs.declared.tag.TagValue.{TagValue}
use Rattle.jaeger_model.specs.declared.tag.TagValue.TheVariants as values
use Rattle.jaeger_model.specs.declared.reading.tag.TagType.{TagType}
use Rattle.jaeger_model.specs.declared.reading.tag.TagType.TheVariants as types
use Rattle.jaeger_model.specs.Identifiers.{span_id_of, trace_id_of}
use Rattle.jaeger_model.specs.Meanings.{Required, Means, MeansEnum}
use Rattle.jaeger_model.specs.Reference.{reference_number, IsPointed, IsSpanRef, reference_table, reference_ends, reference_rules}
use Rattle.jaeger_model.specs.Rows.{nothing_wrong, BadEnum, SomeMissing, given_to, required, or_else}
use Rattle.jaeger_model.specs.Tag.{type_of, no_double, HeldByTag, IsNamed, IsTag, tag_type_number, tag_required, tag_table, tag_ends, tag_rules}

-- ---- tags

type_small : (t : TagType) → tag_type_number t ≤ 4
type_small types.Text = omega arith
type_small types.Double = omega arith
type_small types.Truth = omega arith
type_small types.Long = omega arith
type_small types.Bytes = omega arith

type_named : (k : ℕ) → k ≤ 4 → (t : TagType) × (k ≡ tag_type_number t)
type_named zero small = (types.Text, refl)
type_named (suc zero) small = (types.Double, refl)
type_named (suc (suc zero)) small = (types.Truth, refl)
type_named (suc (suc (suc zero))) small = (types.Long, refl)
type_named (suc (suc (suc (suc zero)))) small = (types.Bytes, refl)
type_named (suc (suc (suc (suc (suc k))))) small = absurd (omega (arith, small))

type_of_small : (value : TagValue) → type_of value ≤ 4
type_of_small (values.Text text) = omega arith
type_of_small (values.Eight bytes) = omega arith
type_of_small (values.Truth truth) = omega arith
type_of_small (values.Number number) = omega arith
type_of_small (values.Bytes bytes) = omega arith

-- the value that a type names
named : (t : TagType) (held : HeldByTag) → (value : TagValue) × (type_of value ≡ tag_type_number t) × IsNamed value held
named types.Text held = (values.Text held.text, refl, refl)
named types.Double held = (values.Eight held.double, refl, refl)
named types.Truth held = (values.Truth held.truth, refl, refl)
named types.Long held = (values.Number held.number, refl, refl)
named types.Bytes held = (values.Bytes held.bytes, refl, refl)

-- an enum by its numbers
by_number : {E : Type 0} (number_of : E → ℕ) (xs : List ℤ) (e : E) (k : ℕ) → k ≡ number_of e → Required (λ n m. n ≡ pos m) xs k → Required (MeansEnum number_of) xs e
by_number number_of [] e k same h = absurd h
by_number number_of (x ∷ []) e k same h = h ∙ ap pos same
by_number number_of (x ∷ y ∷ more) e k same h = absurd h

to_number : {E : Type 0} (number_of : E → ℕ) (xs : List ℤ) (e : E) (k : ℕ) → k ≡ number_of e → Required (MeansEnum number_of) xs e → Required (λ n m. n ≡ pos m) xs k
to_number number_of [] e k same h = absurd h
to_number number_of (x ∷ []) e k same h = h ∙ ap pos (sym same)
to_number number_of (x ∷ y ∷ more) e k same h = absurd h

tag_values : (tag : Tag) (items : List FieldItem) → IsTag tag (fields_of items) → (v : Values tag_table) × Mean tag_table (givens tag_table items) v
tag_values tag items is =
    let t = type_named (type_of tag.value) (type_of_small tag.value) in (
      (tag.key, (t.0, (is.held.text, (is.held.double, (is.held.truth, (is.held.number, (is.held.bytes, tt))))))),
      (
        given_back binary_in 1 MeansText required items tag.key is.key,
        (
          given_back i32_in 2 (MeansEnum tag_type_number) required items t.0 (by_number tag_type_number (values_of i32_in 2 (fields_of items)) t.0 (type_of tag.value) t.1 is.kind),
          (
            given_back binary_in 3 MeansText (or_else []) items is.held.text is.text,
            (
              given_back double_in 4 Means (or_else no_double) items is.held.double is.double,
              (
                given_back truth_in 5 Means (or_else false) items is.held.truth is.truth,
                (given_back i64_in 6 Means (or_else (pos 0)) items is.held.number is.number, (given_back binary_in 7 Means (or_else []) items is.held.bytes is.bytes, tt)),
              ),
            ),
          ),
        ),
      ),
    )

tag_clean : (tag : Tag) (items : List FieldItem) → IsTag tag (fields_of items) → SomeMissing tag_required items → ⊥
tag_clean tag items is (inl none) = some_held MeansText (flat_map (λ (item : FieldItem). given_to binary_in 1 item) items) tag.key (given_back binary_in 1 MeansText required items tag.key is.key) none
tag_clean tag items is (inr (inl none)) = some_held (λ n k. n ≡ pos k) (flat_map (λ (item : FieldItem). given_to i32_in 2 item) items) (type_of tag.value) (given_back i32_in 2 (λ n k. n ≡ pos k) required items (type_of tag.value) is.kind) none
tag_clean tag items is (inr (inr none)) = none

module _ (Spells : Spelling) (left : ℕ) where
  tag_end : (items : List FieldItem) → TableFound tag_table items → AtEnd Spells left (λ l. (x : Tag) × IsTag x (fields_of l)) tag_ends items
  tag_end items (inl none, others) = inr (causes.Missing, (refl, inl none), λ m e. omega (arith, e.0))
  tag_end items (inr key, (inl none, others)) = inr (causes.Missing, (refl, inr (inl none)), λ m e. omega (arith, e.0))
  tag_end items (inr key, (inr kind, (text, (double, (truth, (number, (bytes, nothing))))))) =
      let its_text = found_or MeansText [] (flat_map (λ (item : FieldItem). given_to binary_in 3 item) items) text in
      let its_double = found_or Means no_double (flat_map (λ (item : FieldItem). given_to double_in 4 item) items) double in
      let its_truth = found_or Means false (flat_map (λ (item : FieldItem). given_to truth_in 5 item) items) truth in
      let its_number = found_or Means (pos 0) (flat_map (λ (item : FieldItem). given_to i64_in 6 item) items) number in
      let its_bytes = found_or Means [] (flat_map (λ (item : FieldItem). given_to binary_in 7 item) items) bytes in
      let held : HeldByTag = record { text = its_text.0; double = its_double.0; truth = its_truth.0; number = its_number.0; bytes = its_bytes.0 } in
      let value = named kind.0 held in
      inl (
        record { key = key.0; value = value.0 },
        record {
          key = given_on binary_in 1 MeansText required items key.0 key.1;
          kind = to_number tag_type_number (values_of i32_in 2 (fields_of items)) kind.0 (type_of value.0) value.1 (given_on i32_in 2 (MeansEnum tag_type_number) required items kind.0 kind.1);
          held = held;
          text = given_on binary_in 3 MeansText (or_else []) items its_text.0 its_text.1;
          double = given_on double_in 4 Means (or_else no_double) items its_double.0 its_double.1;
          truth = given_on truth_in 5 Means (or_else false) items its_truth.0 its_truth.1;
          number = given_on i64_in 6 Means (or_else (pos 0)) items its_number.0 its_number.1;
          bytes = given_on binary_in 7 Means (or_else []) items its_bytes.0 its_bytes.1;
          value = value.2;
        },
      )

  abbrev tag_rows : TableProof Spells left tag_table
  tag_rows = (
    binary_proof Spells left 1 MeansText NotText required (text_kind Spells left _),
    (
      int_proof Spells left 2 (MeansEnum tag_type_number) (BadEnum 4) required (enum_kind Spells left _ 4 tag_type_number type_small type_named),
      (
        binary_proof Spells left 3 MeansText NotText (or_else []) (text_kind Spells left _),
        (
          eight_proof Spells left 4 Means nothing_wrong (or_else no_double) (means_kind Spells left _),
          (
            truth_proof Spells left 5 Means nothing_wrong (or_else false) (means_kind Spells left _),
            (
              long_proof Spells left 6 Means nothing_wrong (or_else (pos 0)) (means_kind Spells left _),
              (binary_proof Spells left 7 Means nothing_wrong (or_else []) (means_kind Spells left _), tt),
            ),
          ),
        ),
      ),
    ),
  )

  pub tag_struct : FormatLaws (structs Spells left) → StructProof Spells left IsTag tag_rules
  tag_struct L = struct_proof Spells left L tag_table tag_rows refl tag_ends (tag_laws Spells left L) IsTag (record { values = tag_values; clean = λ tag items is n e. tag_clean tag items is e.1 }) tag_end

-- ---- references

kind_small : (b : Bool) → reference_number b ≤ 1
kind_small true = omega arith
kind_small false = omega arith

kind_named : (k : ℕ) → k ≤ 1 → (b : Bool) × (k ≡ reference_number b)
kind_named zero small = (true, refl)
kind_named (suc zero) small = (false, refl)
kind_named (suc (suc k)) small = absurd (omega (arith, small))

-- the span to which a reference of these points
pointed : (child_of : Bool) (trace span : Option ℕ) → (reference : Option SpanRef) × IsPointed reference child_of trace span
pointed child_of None span = (None, inl refl)
pointed child_of (Some trace) None = (None, inr refl)
pointed child_of (Some trace) (Some span) = (Some (record { child_of = child_of; trace = trace; span = span }), (refl, refl, refl))

abbrev reference_values : (reference : Option SpanRef) (items : List FieldItem) → IsSpanRef reference (fields_of items) → (v : Values reference_table) × Mean reference_table (givens reference_table items) v
reference_values reference items is = (
  (is.child_of, (is.low, (is.high, (is.span, tt)))),
  (
    given_back i32_in 1 (MeansEnum reference_number) required items is.child_of is.kind,
    (
      given_back i64_in 2 Means required items is.low is.its_low,
      (given_back i64_in 3 Means required items is.high is.its_high, (given_back i64_in 4 Means required items is.span is.its_span, tt)),
    ),
  ),
)

reference_clean : (reference : Option SpanRef) (items : List FieldItem) → IsSpanRef reference (fields_of items) → SomeMissing reference_table items → ⊥
reference_clean reference items is = of (reference_values reference items is).1
  where
    of : Mean reference_table (givens reference_table items) (reference_values reference items is).0 → SomeMissing reference_table items → ⊥
    of means (inl none) = some_held (MeansEnum reference_number) (givens reference_table items).0 is.child_of means.0 none
    of means (inr (inl none)) = some_held Means (givens reference_table items).1.0 is.low means.1.0 none
    of means (inr (inr (inl none))) = some_held Means (givens reference_table items).1.1.0 is.high means.1.1.0 none
    of means (inr (inr (inr (inl none)))) = some_held Means (givens reference_table items).1.1.1.0 is.span means.1.1.1.0 none
    of means (inr (inr (inr (inr none)))) = none

module _ (Spells : Spelling) (left : ℕ) where
  reference_end : (items : List FieldItem) → TableFound reference_table items → AtEnd Spells left (λ l. (x : Option SpanRef) × IsSpanRef x (fields_of l)) reference_ends items
  reference_end items (inl none, others) = inr (causes.Missing, (refl, inl none), λ m e. omega (arith, e.0))
  reference_end items (inr kind, (inl none, others)) = inr (causes.Missing, (refl, inr (inl none)), λ m e. omega (arith, e.0))
  reference_end items (inr kind, (inr low, (inl none, others))) = inr (causes.Missing, (refl, inr (inr (inl none))), λ m e. omega (arith, e.0))
  reference_end items (inr kind, (inr low, (inr high, (inl none, others)))) = inr (causes.Missing, (refl, inr (inr (inr (inl none)))), λ m e. omega (arith, e.0))
  reference_end items (inr kind, (inr low, (inr high, (inr span, nothing)))) =
      let at = pointed kind.0 (trace_id_of high.0 low.0) (span_id_of span.0) in
      inl (
        at.0,
        record {
          child_of = kind.0;
          kind = given_on i32_in 1 (MeansEnum reference_number) required items kind.0 kind.1;
          low = low.0;
          its_low = given_on i64_in 2 Means required items low.0 low.1;
          high = high.0;
          its_high = given_on i64_in 3 Means required items high.0 high.1;
          span = span.0;
          its_span = given_on i64_in 4 Means required items span.0 span.1;
          pointed = at.1;
        },
      )

  abbrev reference_rows : TableProof Spells left reference_table
  reference_rows = (
    int_proof Spells left 1 (MeansEnum reference_number) (BadEnum 1) required (enum_kind Spells left _ 1 reference_number kind_small kind_named),
    (
      long_proof Spells left 2 Means nothing_wrong required (means_kind Spells left _),
      (long_proof Spells left 3 Means nothing_wrong required (means_kind Spells left _), (long_proof Spells left 4 Means nothing_wrong required (means_kind Spells left _), tt)),
    ),
  )

  pub reference_struct : FormatLaws (structs Spells left) → StructProof Spells left IsSpanRef reference_rules
  reference_struct L =
      struct_proof Spells left L reference_table reference_rows refl reference_ends (reference_laws Spells left L) IsSpanRef
      (record { values = reference_values; clean = λ reference items is n e. reference_clean reference items is e.1 }) reference_end
