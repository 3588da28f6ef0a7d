-- The tables of jaeger.thrift in two protocols, and what follows of two texts of one batch's tree, or of trees that are the same but for
-- free fields.
use Rattle.std.proofs.Common.{◌≡◌, ◌⊎◌, ◌-◌, ◌∷◌, ℕ, pos, ℤ, Bool, false, Option, List, [], inl, inr, refl, sym, subst, arith}
use Rattle.std.specs.Prelude.{◌↔◌}
use Rattle.std.specs.List.{AllZip}
use Rattle.span_io.specs.Causes.{cause_number}
use Rattle.span_io.specs.declared.cause.Cause.{Cause}
use Rattle.span_io.proofs.OffenceLaws.{one_cause}
use Rattle.span_io.specs.Offences.{Least}
use Rattle.span_io.proofs.RowLaws.{all_zip_equal}
use Rattle.span_io.specs.Tables.{Row, MeansText, NotText, IsFree}
use Rattle.thrift_core.specs.FieldValues.{of_id, truth_in, i32_in, i64_in, double_in, binary_in, struct_in, list_in}
use Rattle.thrift_core.specs.Messages.{FieldItem, fields_of}
use Rattle.thrift_core.proofs.OneReading.{one_fields}
use Rattle.thrift_core.specs.Parts.{Spelling}
use Rattle.thrift_core.specs.Trees.{Tree, Fields, StructText, outer_levels}
use Rattle.jaeger_model.proofs.BatchProofs.{batch_struct}
use Rattle.jaeger_model.proofs.FreeFields.{Holds, moved}
use Rattle.jaeger_model.proofs.FreeMeanings.{bare_none, same_things, fields_self, Containers, nothing_shape, tagged_shape, span_shape, batch_shape, binary_quiet, int_quiet, long_quiet, truth_quiet, eight_quiet, in_tagged, in_references, in_tags, in_logs, in_process, in_spans, AnyTwo, in_stats, own_log, own_process, own_span, own_batch, tag_same, reference_same, log_same, process_same, span_same, batch_same}
use Rattle.jaeger_model.proofs.LeafProofs.{tag_struct, reference_struct}
use Rattle.jaeger_model.proofs.OuterProofs.{log_struct, process_struct}
use Rattle.jaeger_model.proofs.RowKinds.{StructProof}
use Rattle.jaeger_model.proofs.RowPairKinds.{ListAlike, alike_pair, plain_pair, structure_pair, structures_pair}
use Rattle.jaeger_model.proofs.RowPairs.{Keeps, format_laws, SameCause, StructPair, Both, both_hold, RowPair, TablePair, no_rows, row_then, none_too, missing_too, struct_pair}
use Rattle.jaeger_model.proofs.SpanProofs.{span_struct}
use Rattle.jaeger_model.specs.Batch.{MeansSpans, MeansNothing, IsBatch, IsBatchText, batch_table, batch_ends, batch_rules}
use Rattle.jaeger_model.specs.declared.batch.Batch.{Batch}
use Rattle.jaeger_model.specs.declared.span.Log.{Log}
use Rattle.jaeger_model.specs.declared.span.SpanRef.{SpanRef}
use Rattle.jaeger_model.specs.declared.tag.Tag.{Tag}
use Rattle.jaeger_model.specs.FreeAtAnyDepth.{FieldsPadded, NothingInside, TagPadded, ReferencePadded, InTagged, LogPadded, ProcessPadded, InSpan, JSpanPadded, InBatch, FreeAtAnyDepth}
use Rattle.jaeger_model.specs.InnerRows.{with_text, structures}
use Rattle.jaeger_model.specs.StatedLaws.{BatchOffends, OneTree}
use Rattle.jaeger_model.specs.Log.{MeansTags, IsLog, log_table, log_ends, log_rules}
use Rattle.jaeger_model.specs.Meanings.{Means, MeansTime, MeansEnum}
use Rattle.jaeger_model.specs.Process.{IsProcess, MeansProcess, process_table, process_ends, process_rules}
use Rattle.jaeger_model.specs.Reference.{reference_number, IsSpanRef, reference_table, reference_ends, reference_rules}
use Rattle.jaeger_model.specs.Rows.{given_to, nothing_wrong, BadEnum, BadTime, text_of_id, bytes, number, time_of_id, int, enum_of_id, truth, double, required, or_else, Missing}
use Rattle.jaeger_model.specs.Span.{MeansReferences, MeansLogs, IsJSpan, or_empty, span_required, jspan_table, BadIds, BadEnd, jspan_ends, jspan_rules}
use Rattle.jaeger_model.specs.Tag.{no_double, IsTag, tag_type_number, tag_required, tag_table, tag_ends, tag_rules}

-- ---- rows in which no struct stands

module _ (A B : Spelling) (left : ℕ) (own : List (Row FieldItem)) (Inside : ℕ → Tree → Tree → Type 0) (shape : (n : ℕ) (tree other : Tree) → Inside n tree other → Containers tree other) (id : ℕ) where
  text_pair : ((item : FieldItem) → IsFree own item → given_to binary_in id item ≡ []) → (IsAbsent : List ℕ → Type 0) → RowPair A B left own Inside (text_of_id id IsAbsent) (text_of_id id IsAbsent)
  text_pair passes IsAbsent = plain_pair A B left own Inside binary_in id passes (binary_quiet Inside shape id) MeansText IsAbsent NotText (λ x n h. omega (arith, h.0))

  bytes_pair : ((item : FieldItem) → IsFree own item → given_to binary_in id item ≡ []) → (IsAbsent : List ℕ → Type 0) → RowPair A B left own Inside (bytes id IsAbsent) (bytes id IsAbsent)
  bytes_pair passes IsAbsent = plain_pair A B left own Inside binary_in id passes (binary_quiet Inside shape id) Means IsAbsent nothing_wrong (λ x n h. absurd h)

  number_pair : ((item : FieldItem) → IsFree own item → given_to i64_in id item ≡ []) → (IsAbsent : ℤ → Type 0) → RowPair A B left own Inside (number id IsAbsent) (number id IsAbsent)
  number_pair passes IsAbsent = plain_pair A B left own Inside i64_in id passes (long_quiet Inside shape id) Means IsAbsent nothing_wrong (λ x n h. absurd h)

  time_pair : ((item : FieldItem) → IsFree own item → given_to i64_in id item ≡ []) → RowPair A B left own Inside (time_of_id id required) (time_of_id id required)
  time_pair passes = plain_pair A B left own Inside i64_in id passes (long_quiet Inside shape id) MeansTime required BadTime (λ x n h. omega (arith, h.0))

  int_pair : ((item : FieldItem) → IsFree own item → given_to i32_in id item ≡ []) → RowPair A B left own Inside (int id required) (int id required)
  int_pair passes = plain_pair A B left own Inside i32_in id passes (int_quiet Inside shape id) Means required nothing_wrong (λ x n h. absurd h)

  enum_pair : ((item : FieldItem) → IsFree own item → given_to i32_in id item ≡ []) → (last : ℕ) {E : Type 0} (number_of : E → ℕ) → RowPair A B left own Inside (enum_of_id id last E number_of required) (enum_of_id id last E number_of required)
  enum_pair passes last {E} number_of = plain_pair A B left own Inside i32_in id passes (int_quiet Inside shape id) (MeansEnum number_of) required (BadEnum last) (λ x n h. omega (arith, h.0))

  truth_pair : ((item : FieldItem) → IsFree own item → given_to truth_in id item ≡ []) → (IsAbsent : Bool → Type 0) → RowPair A B left own Inside (truth id IsAbsent) (truth id IsAbsent)
  truth_pair passes IsAbsent = plain_pair A B left own Inside truth_in id passes (truth_quiet Inside shape id) Means IsAbsent nothing_wrong (λ x n h. absurd h)

  double_pair : ((item : FieldItem) → IsFree own item → given_to double_in id item ≡ []) → (IsAbsent : List ℕ → Type 0) → RowPair A B left own Inside (double id IsAbsent) (double id IsAbsent)
  double_pair passes IsAbsent = plain_pair A B left own Inside double_in id passes (eight_quiet Inside shape id) Means IsAbsent nothing_wrong (λ x n h. absurd h)

-- ---- what a struct's end says of its fields

-- one of two fields is missing
either_missing : {P Q R S : Type 0} (n : ℕ) → P ↔ R → Q ↔ S → ((n ≡ 8) × (P ⊎ Q)) ↔ ((n ≡ 8) × (R ⊎ S))
either_missing {P} {Q} {R} {S} n first second = (λ h. (h.0, on h.1), λ h. (h.0, back h.1))
  where
    on : P ⊎ Q → R ⊎ S
    on (inl p) = inl (first.0 p)
    on (inr q) = inr (second.0 q)

    back : R ⊎ S → P ⊎ Q
    back (inl r) = inl (first.1 r)
    back (inr s) = inr (second.1 s)

-- the identifiers, and the end, of a span whose numbers are the same
ids_moved : (f g : Fields) → Holds i64_in 1 f g → Holds i64_in 2 f g → Holds i64_in 3 f g → Holds i64_in 8 f g → Holds i64_in 9 f g → (n : ℕ) → BadIds f n ⊎ BadEnd f n → BadIds g n ⊎ BadEnd g n
ids_moved f g e1 e2 e3 e8 e9 n (inl (is, inl none)) =
    inl (is, inl (record { low = none.low; its_low = moved Means required none.low _ _ e1 none.its_low; high = none.high; its_high = moved Means required none.high _ _ e2 none.its_high; zero = none.zero }))
ids_moved f g e1 e2 e3 e8 e9 n (inl (is, inr (id, its, none))) = inl (is, inr (id, moved Means required id _ _ e3 its, none))
ids_moved f g e1 e2 e3 e8 e9 n (inr (is, late)) =
    inr (
      is,
      record {
        start = late.start;
        its_start = moved MeansTime required late.start _ _ e8 late.its_start;
        duration = late.duration;
        its_duration = moved MeansTime required late.duration _ _ e9 late.its_duration;
        late = late.late;
      },
    )

-- ---- structs

-- what is known of each struct in one protocol
module _ (Spells : Spelling) (kept : Keeps Spells) (left : ℕ) where
  tag_known : StructProof Spells left IsTag tag_rules
  tag_known = tag_struct Spells left (format_laws Spells kept left)

  reference_known : StructProof Spells left IsSpanRef reference_rules
  reference_known = reference_struct Spells left (format_laws Spells kept left)

  log_known : StructProof Spells left IsLog (log_rules Spells left)
  log_known = log_struct Spells kept.reads kept.ThenVarint kept.Refuses kept.exactly kept.parts left

  process_known : StructProof Spells left IsProcess (process_rules Spells left)
  process_known = process_struct Spells kept.reads kept.ThenVarint kept.Refuses kept.exactly kept.parts left

  span_known : StructProof Spells left IsJSpan (jspan_rules Spells left)
  span_known = span_struct Spells kept.reads kept.ThenVarint kept.Refuses kept.exactly kept.parts left

  batch_known : StructProof Spells left IsBatch (batch_rules Spells left)
  batch_known = batch_struct Spells kept.reads kept.ThenVarint kept.Refuses kept.exactly kept.parts left

module _ (A B : Spelling) (k : Keeps A) (j : Keeps B) where
  tag_must : (left : ℕ) → TablePair A B left tag_table NothingInside tag_required tag_required
  tag_must left =
      row_then _ _ _ _ (text_pair A B left tag_table NothingInside nothing_shape 1 (λ item free. free.0) required)
      (row_then _ _ _ _ (enum_pair A B left tag_table NothingInside nothing_shape 2 (λ item free. free.1.0) 4 tag_type_number) no_rows)

  tag_rows : (left : ℕ) → TablePair A B left tag_table NothingInside tag_table tag_table
  tag_rows left =
      row_then _ _ _ _ (text_pair A B left tag_table NothingInside nothing_shape 1 (λ item free. free.0) required)
      (row_then _ _ _ _ (enum_pair A B left tag_table NothingInside nothing_shape 2 (λ item free. free.1.0) 4 tag_type_number)
      (row_then _ _ _ _ (text_pair A B left tag_table NothingInside nothing_shape 3 (λ item free. free.1.1.0) (or_else []))
      (row_then _ _ _ _ (double_pair A B left tag_table NothingInside nothing_shape 4 (λ item free. free.1.1.1.0) (or_else no_double))
      (row_then _ _ _ _ (truth_pair A B left tag_table NothingInside nothing_shape 5 (λ item free. free.1.1.1.1.0) (or_else false))
      (row_then _ _ _ _ (number_pair A B left tag_table NothingInside nothing_shape 6 (λ item free. free.1.1.1.1.1.0) (or_else (pos 0)))
      (row_then _ _ _ _ (bytes_pair A B left tag_table NothingInside nothing_shape 7 (λ item free. free.1.1.1.1.1.1.0) (or_else [])) no_rows))))))

  tag_pair : (left : ℕ) → StructPair A B left TagPadded tag_rules tag_rules
  tag_pair left =
      struct_pair A B left tag_table NothingInside k j tag_table tag_table (tag_rows left) tag_ends (missing_too A B left tag_table NothingInside tag_required tag_required (tag_must left)) IsTag tag_same (tag_known A k left) (tag_known B j left)

  -- a row of tags
  tags_pair : (left : ℕ) (own : List (Row FieldItem)) (Inside : ℕ → Tree → Tree → Type 0) (id : ℕ) → ((item : FieldItem) → IsFree own item → with_text item.text (given_to list_in id item) ≡ [])
      → ((n : ℕ) (tree other : Tree) → Inside n tree other → AllZip (ListAlike TagPadded) (of_id list_in id (pos n) tree) (of_id list_in id (pos n) other)) → (IsAbsent : List Tag → Type 0)
      → RowPair A B left own Inside (structures A (left - 2) tag_rules id (List Tag) MeansTags IsAbsent) (structures B (left - 2) tag_rules id (List Tag) MeansTags IsAbsent)
  tags_pair left own Inside id passes inner IsAbsent =
      structures_pair A B k j left own Inside TagPadded (fields_self tag_table NothingInside) tag_rules tag_rules (tag_known A k (left - 2)).laws (tag_known B j (left - 2)).laws (tag_pair (left - 2)) id passes inner MeansTags IsAbsent

  reference_rows : (left : ℕ) → TablePair A B left reference_table NothingInside reference_table reference_table
  reference_rows left =
      row_then _ _ _ _ (enum_pair A B left reference_table NothingInside nothing_shape 1 (λ item free. free.0) 1 reference_number)
      (row_then _ _ _ _ (number_pair A B left reference_table NothingInside nothing_shape 2 (λ item free. free.1.0) required)
      (row_then _ _ _ _ (number_pair A B left reference_table NothingInside nothing_shape 3 (λ item free. free.1.1.0) required)
      (row_then _ _ _ _ (number_pair A B left reference_table NothingInside nothing_shape 4 (λ item free. free.1.1.1.0) required) no_rows)))

  reference_pair : (left : ℕ) → StructPair A B left ReferencePadded reference_rules reference_rules
  reference_pair left =
      struct_pair A B left reference_table NothingInside k j reference_table reference_table (reference_rows left) reference_ends (missing_too A B left reference_table NothingInside reference_table reference_table (reference_rows left)) IsSpanRef
      reference_same (reference_known A k left) (reference_known B j left)

  log_end : (left : ℕ) (seen past : List FieldItem) → Both A B left own_log InTagged seen past → (n : ℕ) → log_ends seen n ↔ log_ends past n
  log_end left seen past both n =
      either_missing n
      (none_too A B left own_log InTagged (λ x y. x ≡ y) _ _ (both_hold A B left own_log InTagged i64_in 1 (λ item free. free.0) (λ x y. x ≡ y) (λ x. refl) (same_things InTagged i64_in 1 (long_quiet InTagged tagged_shape 1)) seen past both))
      (none_too A B left own_log InTagged (ListAlike TagPadded) _ _
      (both_hold A B left own_log InTagged list_in 2 (λ item free. bare_none item.text (given_to list_in 2 item) free.1.0) (ListAlike TagPadded) (λ l. inl refl) in_tagged seen past both))

  log_pair : (left : ℕ) → StructPair A B left LogPadded (log_rules A left) (log_rules B left)
  log_pair left =
      struct_pair A B left own_log InTagged k j (log_table A left) (log_table B left)
      (row_then _ _ _ _ (time_pair A B left own_log InTagged tagged_shape 1 (λ item free. free.0))
      (row_then _ _ _ _ (tags_pair left own_log InTagged 2 (λ item free. free.1.0) in_tagged required) no_rows))
      log_ends (log_end left) IsLog log_same (log_known A k left) (log_known B j left)

  process_pair : (left : ℕ) → StructPair A B left ProcessPadded (process_rules A left) (process_rules B left)
  process_pair left =
      struct_pair A B left own_process InTagged k j (process_table A left) (process_table B left)
      (row_then _ _ _ _ (text_pair A B left own_process InTagged tagged_shape 1 (λ item free. free.0) required)
      (row_then _ _ _ _ (tags_pair left own_process InTagged 2 (λ item free. free.1.0) in_tagged (or_else [])) no_rows))
      process_ends (missing_too A B left own_process InTagged (text_of_id 1 required ∷ []) (text_of_id 1 required ∷ []) (row_then _ _ _ _ (text_pair A B left own_process InTagged tagged_shape 1 (λ item free. free.0) required) no_rows)) IsProcess process_same (process_known A k left) (process_known B j left)

  -- ---- spans

  references_pair : (left : ℕ) → RowPair A B left own_span InSpan (structures A (left - 2) reference_rules 6 (List (Option SpanRef)) MeansReferences or_empty) (structures B (left - 2) reference_rules 6 (List (Option SpanRef)) MeansReferences or_empty)
  references_pair left =
      structures_pair A B k j left own_span InSpan ReferencePadded (fields_self reference_table NothingInside) reference_rules reference_rules (reference_known A k (left - 2)).laws (reference_known B j (left - 2)).laws (reference_pair (left - 2)) 6
      (λ item free. free.1.1.1.1.1.0) in_references MeansReferences or_empty

  logs_pair : (left : ℕ) → RowPair A B left own_span InSpan (structures A (left - 2) (log_rules A (left - 2)) 11 (List Log) MeansLogs or_empty) (structures B (left - 2) (log_rules B (left - 2)) 11 (List Log) MeansLogs or_empty)
  logs_pair left =
      structures_pair A B k j left own_span InSpan LogPadded (fields_self own_log InTagged) (log_rules A (left - 2)) (log_rules B (left - 2)) (log_known A k (left - 2)).laws (log_known B j (left - 2)).laws (log_pair (left - 2)) 11
      (λ item free. free.1.1.1.1.1.1.1.1.1.1.0) in_logs MeansLogs or_empty

  span_must : (left : ℕ) → TablePair A B left own_span InSpan span_required span_required
  span_must left =
      row_then _ _ _ _ (number_pair A B left own_span InSpan span_shape 1 (λ item free. free.0) required)
      (row_then _ _ _ _ (number_pair A B left own_span InSpan span_shape 2 (λ item free. free.1.0) required)
      (row_then _ _ _ _ (number_pair A B left own_span InSpan span_shape 3 (λ item free. free.1.1.0) required)
      (row_then _ _ _ _ (number_pair A B left own_span InSpan span_shape 4 (λ item free. free.1.1.1.0) required)
      (row_then _ _ _ _ (text_pair A B left own_span InSpan span_shape 5 (λ item free. free.1.1.1.1.0) required)
      (row_then _ _ _ _ (int_pair A B left own_span InSpan span_shape 7 (λ item free. free.1.1.1.1.1.1.0))
      (row_then _ _ _ _ (time_pair A B left own_span InSpan span_shape 8 (λ item free. free.1.1.1.1.1.1.1.0))
      (row_then _ _ _ _ (time_pair A B left own_span InSpan span_shape 9 (λ item free. free.1.1.1.1.1.1.1.1.0)) no_rows)))))))

  span_rows : (left : ℕ) → TablePair A B left own_span InSpan (jspan_table A left) (jspan_table B left)
  span_rows left =
      row_then _ _ _ _ (number_pair A B left own_span InSpan span_shape 1 (λ item free. free.0) required)
      (row_then _ _ _ _ (number_pair A B left own_span InSpan span_shape 2 (λ item free. free.1.0) required)
      (row_then _ _ _ _ (number_pair A B left own_span InSpan span_shape 3 (λ item free. free.1.1.0) required)
      (row_then _ _ _ _ (number_pair A B left own_span InSpan span_shape 4 (λ item free. free.1.1.1.0) required)
      (row_then _ _ _ _ (text_pair A B left own_span InSpan span_shape 5 (λ item free. free.1.1.1.1.0) required)
      (row_then _ _ _ _ (references_pair left)
      (row_then _ _ _ _ (int_pair A B left own_span InSpan span_shape 7 (λ item free. free.1.1.1.1.1.1.0))
      (row_then _ _ _ _ (time_pair A B left own_span InSpan span_shape 8 (λ item free. free.1.1.1.1.1.1.1.0))
      (row_then _ _ _ _ (time_pair A B left own_span InSpan span_shape 9 (λ item free. free.1.1.1.1.1.1.1.1.0))
      (row_then _ _ _ _ (tags_pair left own_span InSpan 10 (λ item free. free.1.1.1.1.1.1.1.1.1.0) in_tags or_empty)
      (row_then _ _ _ _ (logs_pair left) no_rows))))))))))

  span_end : (left : ℕ) (seen past : List FieldItem) → Both A B left own_span InSpan seen past → (n : ℕ) → jspan_ends seen n ↔ jspan_ends past n
  span_end left seen past both n = (on, back)
    where
      missing : Missing span_required seen n ↔ Missing span_required past n
      missing = missing_too A B left own_span InSpan span_required span_required (span_must left) seen past both n

      same : (id : ℕ) → ((item : FieldItem) → IsFree own_span item → given_to i64_in id item ≡ []) → Holds i64_in id (fields_of seen) (fields_of past)
      same id passes = all_zip_equal _ _ (both_hold A B left own_span InSpan i64_in id passes (λ x y. x ≡ y) (λ x. refl) (same_things InSpan i64_in id (long_quiet InSpan span_shape id)) seen past both)

      on : jspan_ends seen n → jspan_ends past n
      on (inl h) = inl (missing.0 h)
      on (inr h) = inr (ids_moved (fields_of seen) (fields_of past) (same 1 (λ item free. free.0)) (same 2 (λ item free. free.1.0)) (same 3 (λ item free. free.1.1.0)) (same 8 (λ item free. free.1.1.1.1.1.1.1.0)) (same 9 (λ item free. free.1.1.1.1.1.1.1.1.0)) n h)

      back : jspan_ends past n → jspan_ends seen n
      back (inl h) = inl (missing.1 h)
      back (inr h) = inr (ids_moved (fields_of past) (fields_of seen) (sym (same 1 (λ item free. free.0))) (sym (same 2 (λ item free. free.1.0))) (sym (same 3 (λ item free. free.1.1.0))) (sym (same 8 (λ item free. free.1.1.1.1.1.1.1.0))) (sym (same 9 (λ item free. free.1.1.1.1.1.1.1.1.0))) n h)

  span_pair : (left : ℕ) → StructPair A B left JSpanPadded (jspan_rules A left) (jspan_rules B left)
  span_pair left = struct_pair A B left own_span InSpan k j (jspan_table A left) (jspan_table B left) (span_rows left) jspan_ends (span_end left) IsJSpan span_same (span_known A k left) (span_known B j left)

  -- ---- batches

  batch_rows : (left : ℕ) → TablePair A B left own_batch InBatch (batch_table A left) (batch_table B left)
  batch_rows left =
      row_then _ _ _ _ (structure_pair A B left own_batch InBatch ProcessPadded (fields_self own_process InTagged) (process_rules A (left - 1)) (process_rules B (left - 1)) (process_pair (left - 1)) 1 (λ item free. free.0) in_process MeansProcess required)
      (row_then _ _ _ _ (structures_pair A B k j left own_batch InBatch JSpanPadded (fields_self own_span InSpan) (jspan_rules A (left - 2)) (jspan_rules B (left - 2)) (span_known A k (left - 2)).laws (span_known B j (left - 2)).laws (span_pair (left - 2)) 2 (λ item free. free.1.0) in_spans MeansSpans required)
      (row_then _ _ _ _ (number_pair A B left own_batch InBatch batch_shape 3 (λ item free. free.1.1.0) (or_else (pos 0)))
      (row_then _ _ _ _ (alike_pair A B left own_batch InBatch struct_in 4 (λ item free. free.1.1.1.0) AnyTwo (λ x. tt) in_stats MeansNothing (λ value. Unit {0}) nothing_wrong (λ x n h. absurd h) (λ x y alike n. (λ h. h, λ h. h))) no_rows)))

  batch_end : (left : ℕ) (seen past : List FieldItem) → Both A B left own_batch InBatch seen past → (n : ℕ) → batch_ends seen n ↔ batch_ends past n
  batch_end left seen past both n =
      either_missing n
      (none_too A B left own_batch InBatch ProcessPadded _ _
      (both_hold A B left own_batch InBatch struct_in 1 (λ item free. bare_none item.text (given_to struct_in 1 item) free.0) ProcessPadded (fields_self own_process InTagged) in_process seen past both))
      (none_too A B left own_batch InBatch (ListAlike JSpanPadded) _ _
      (both_hold A B left own_batch InBatch list_in 2 (λ item free. bare_none item.text (given_to list_in 2 item) free.1.0) (ListAlike JSpanPadded) (λ l. inl refl) in_spans seen past both))

  batch_pair : (left : ℕ) → StructPair A B left (FieldsPadded own_batch InBatch) (batch_rules A left) (batch_rules B left)
  batch_pair left = struct_pair A B left own_batch InBatch k j (batch_table A left) (batch_table B left) (batch_rows left) batch_ends (batch_end left) IsBatch batch_same (batch_known A k left) (batch_known B j left)

-- ---- two texts of fields that are the same, but for free ones

same_means : (A B : Spelling) → Keeps A → (f g : Fields) (text other : List ℕ) → StructText A outer_levels f text → StructText B outer_levels g other → (batch : Batch) → (IsBatch batch f → IsBatch batch g)
    → IsBatchText A batch text → IsBatchText B batch other
same_means A B kept f g text other stands there batch moves is =
    let one = (one_fields A kept.reads kept.ThenVarint kept.Refuses kept.exactly is.fields f outer_levels (pos 0) text [] [] is.struct_text stands).0 in
    record { fields = g; struct_text = there; means = moves (subst (λ (x : Fields). IsBatch batch x) one is.means) }

counts_too : (Offends Others : ℕ → ℕ → Type 0) → SameCause Offends Others → (n : ℕ) → Least Offends n ↔ Least Others n
counts_too Offends Others (inl none) n = (λ h. absurd (none.0 h.place n h.offence), λ h. absurd (none.1 h.place n h.offence))
counts_too Offends Others (inr (cause, least, same)) n =
    (λ h. subst (λ m. Least Others m) (one_cause Offends (cause_number cause) n least h) same, λ h. subst (λ m. Least Offends m) (one_cause Others (cause_number cause) n same h) least)

-- in two protocols
module _ (A B : Spelling) (k : Keeps A) (j : Keeps B) (f g : Fields) (padded : FieldsPadded own_batch InBatch f g) (text other : List ℕ) (stands : StructText A outer_levels f text) (there : StructText B outer_levels g other) where
  one_batch_text : (batch : Batch) → IsBatchText A batch text ↔ IsBatchText B batch other
  one_batch_text batch = (same_means A B k f g text other stands there batch (batch_same f g padded batch).0, same_means B A j g f other text there stands batch (batch_same f g padded batch).1)

  one_batch_cause : (cause : Cause) → Least (BatchOffends A text) (cause_number cause) ↔ Least (BatchOffends B other) (cause_number cause)
  one_batch_cause cause = counts_too (BatchOffends A text) (BatchOffends B other) (batch_pair A B k j outer_levels f g padded text other stands there) (cause_number cause)

pub one_tree : (A B : Spelling) → Keeps A → Keeps B → OneTree A B
one_tree A B k j = record {
  same_batch = λ fields text other stands there. one_batch_text A B k j fields fields (fields_self own_batch InBatch fields) text other stands there;
  same_cause = λ fields text other stands there. one_batch_cause A B k j fields fields (fields_self own_batch InBatch fields) text other stands there;
}

pub free_anywhere : (Spells : Spelling) → Keeps Spells → FreeAtAnyDepth Spells
free_anywhere Spells kept = record {
  none = λ items. fields_self own_batch InBatch (fields_of items);
  means = λ items others text other padded stands there. one_batch_text Spells Spells kept kept (fields_of items) (fields_of others) padded text other stands there;
  offends = λ items others text other padded stands there. one_batch_cause Spells Spells kept kept (fields_of items) (fields_of others) padded text other stands there;
}
