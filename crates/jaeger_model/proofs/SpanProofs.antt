-- Spans: what their rows mean together.
use Rattle.std.proofs.Common.{◌≡◌, ◌⊎◌, ◌≤◌, ◌<◌, ◌+◌, ◌-◌, ℕ, Option, Some, None, List, [], is_none, inl, inr, refl, arith}
use Rattle.std.specs.List.{flat_map, count_by}
use Rattle.std.proofs.lemmas.Bool.{cases_lt}
use Rattle.span_ids.specs.Times.{nanos, last_micros}
use Rattle.span_io.specs.declared.cause.Cause.{Cause}
use Rattle.span_io.specs.declared.cause.Cause.TheVariants as causes
use Rattle.span_io.specs.Offences.{FormatLaws}
use Rattle.span_io.specs.Tables.{MeansText, NotText, Values, Mean, givens}
use Rattle.thrift_core.specs.FieldValues.{values_of, i32_in, i64_in, binary_in, list_in}
use Rattle.thrift_core.specs.Messages.{FieldItem, structs, fields_of}
use Rattle.thrift_core.specs.Parts.{Part, Spelling}
use Rattle.thrift_core.specs.Protocols.{ReadsExactly, PartLaws}
use Rattle.thrift_core.specs.Reading.{ReadingOf}
use Rattle.thrift_core.proofs.StructLaws.{struct_laws}
use Rattle.thrift_core.specs.Trees.{Fields, Trees}
use Rattle.jaeger_model.proofs.LeafProofs.{tag_struct, reference_struct}
use Rattle.jaeger_model.proofs.OuterProofs.{log_struct}
use Rattle.jaeger_model.proofs.RowKinds.{means_kind, text_kind, time_kind, StructProof}
use Rattle.jaeger_model.proofs.SpanLemmas.{some_missing, no_trace, no_id, ends_late, ends_well}
use Rattle.jaeger_model.proofs.SpanTable.{span_laws}
use Rattle.jaeger_model.proofs.StructProofs.{binary_proof, int_proof, long_proof, structures_proof, struct_proof, given_back, given_on, inner_back, inner_on, found_or, held_value, value_held}
use Rattle.jaeger_model.proofs.StructRows.{TableProof, TableFound, AtEnd}
use Rattle.jaeger_model.specs.declared.span.JSpan.{JSpan}
use Rattle.jaeger_model.specs.declared.reading.span.SpanParts.{SpanParts}
use Rattle.jaeger_model.specs.Identifiers.{span_id_of, trace_id_of}
use Rattle.jaeger_model.specs.InnerRows.{with_text}
use Rattle.jaeger_model.specs.Log.{MeansTags, IsLog, log_rules}
use Rattle.jaeger_model.specs.Meanings.{Means, MeansTime}
use Rattle.jaeger_model.specs.Reference.{IsSpanRef, reference_rules}
use Rattle.jaeger_model.specs.Rows.{nothing_wrong, BadTime, SomeMissing, given_to, required}
use Rattle.jaeger_model.specs.Span.{kept_reference, MeansReferences, MeansLogs, IsJSpan, or_empty, span_required, jspan_table, jspan_ends, jspan_rules}
use Rattle.jaeger_model.specs.private.SpanSoFar.{HasParts}
use Rattle.jaeger_model.specs.Tag.{IsTag, tag_rules}

-- ---- the parts of a span

parts_of : (span : JSpan) (fields : Fields) → IsJSpan span fields → (parts : SpanParts) × HasParts parts fields
parts_of span fields is =
    let id = held_value (λ n id. span_id_of n ≡ Some id) (values_of i64_in 3 fields) span.id is.id in
    let parent = held_value (λ n parent. span_id_of n ≡ parent) (values_of i64_in 4 fields) span.parent is.parent in (
      record {
        low = is.trace.low;
        high = is.trace.high;
        id = id.0;
        parent = parent.0;
        name = span.name;
        references = record { kept = span.references; others = span.invalid_refs };
        flags = span.flags;
        start = span.start;
        duration = is.times.duration;
        tags = span.tags;
        logs = span.logs;
      },
      record {
        low = is.trace.its_low;
        high = is.trace.its_high;
        id = id.1;
        parent = parent.1;
        name = is.name;
        references = is.references;
        flags = is.flags;
        start = is.times.its_start;
        duration = is.times.its_duration;
        tags = is.tags;
        logs = is.logs;
      },
    )

span_clean : (span : JSpan) (items : List FieldItem) → IsJSpan span (fields_of items) → (n : ℕ) → jspan_ends items n → ⊥
unfolding parts_of
span_clean span items is =
    let id = held_value (λ n id. span_id_of n ≡ Some id) (values_of i64_in 3 (fields_of items)) span.id is.id in
    let parts = parts_of span (fields_of items) is in
    ends_well parts.0 span.trace span.id is.trace.joined id.2 items parts.1 (omega (arith, is.times.sum, is.times.in_range))

-- ---- the span of its parts, or how it offends

span_of : (parts : SpanParts) (trace id : ℕ) → JSpan
span_of parts trace id = record {
  trace = trace;
  id = id;
  parent = span_id_of parts.parent;
  name = parts.name;
  references = parts.references.kept;
  invalid_refs = parts.references.others;
  flags = parts.flags;
  start = parts.start;
  end = parts.start + parts.duration;
  tags = parts.tags;
  logs = parts.logs;
}

made_span : (parts : SpanParts) (fields : Fields) → HasParts parts fields → (trace id : ℕ) → trace_id_of parts.high parts.low ≡ Some trace → span_id_of parts.id ≡ Some id
    → parts.start + parts.duration ≤ nanos last_micros → IsJSpan (span_of parts trace id) fields
unfolding span_of
made_span parts fields h trace id is_trace is_id within = record {
  trace = record { low = parts.low; its_low = h.low; high = parts.high; its_high = h.high; joined = is_trace };
  id = value_held (λ n i. span_id_of n ≡ Some i) (values_of i64_in 3 fields) parts.id id h.id is_id;
  parent = value_held (λ n parent. span_id_of n ≡ parent) (values_of i64_in 4 fields) parts.parent (span_id_of parts.parent) h.parent refl;
  name = h.name;
  references = h.references;
  flags = h.flags;
  times = record { its_start = h.start; duration = parts.duration; its_duration = h.duration; sum = refl; in_range = within };
  tags = h.tags;
  logs = h.logs;
}

module _ (Spells : Spelling) (left : ℕ) where
  abbrev SpanEnd : List FieldItem → Type 0
  SpanEnd items = AtEnd Spells left (λ l. (x : JSpan) × IsJSpan x (fields_of l)) jspan_ends items

  by_parts : (parts : SpanParts) (items : List FieldItem) → HasParts parts (fields_of items) → SpanEnd items
  by_parts parts items h = of_trace (trace_id_of parts.high parts.low) refl
    where
      of_time : (trace id : ℕ) → trace_id_of parts.high parts.low ≡ Some trace → span_id_of parts.id ≡ Some id → (nanos last_micros < parts.start + parts.duration) ⊎ (parts.start + parts.duration ≤ nanos last_micros) → SpanEnd items
      of_time trace id is_trace is_id (inl late) = let bad = ends_late parts trace id is_trace is_id items h late in inr (causes.BadTime, bad.0, bad.1)
      of_time trace id is_trace is_id (inr within) = inl (span_of parts trace id, made_span parts (fields_of items) h trace id is_trace is_id within)

      of_id : (trace : ℕ) → trace_id_of parts.high parts.low ≡ Some trace → (id : Option ℕ) → span_id_of parts.id ≡ id → SpanEnd items
      of_id trace is_trace None e = let bad = no_id parts items h e in inr (causes.BadId, bad.0, bad.1)
      of_id trace is_trace (Some id) e = of_time trace id is_trace e (cases_lt (nanos last_micros) (parts.start + parts.duration))

      of_trace : (trace : Option ℕ) → trace_id_of parts.high parts.low ≡ trace → SpanEnd items
      of_trace None e = let bad = no_trace parts items h e in inr (causes.BadId, bad.0, bad.1)
      of_trace (Some trace) e = of_id trace e (span_id_of parts.id) refl

  missing : (items : List FieldItem) → SomeMissing span_required items → SpanEnd items
  missing items none = let bad = some_missing items none in inr (causes.Missing, bad.0, bad.1)

  -- ---- by its rows

  span_values : (span : JSpan) (items : List FieldItem) → IsJSpan span (fields_of items) → (v : Values (jspan_table Spells left)) × Mean (jspan_table Spells left) (givens (jspan_table Spells left) items) v
  span_values span items is = of (parts_of span (fields_of items) is).0 (parts_of span (fields_of items) is).1
    where
      of : (parts : SpanParts) → HasParts parts (fields_of items) → (v : Values (jspan_table Spells left)) × Mean (jspan_table Spells left) (givens (jspan_table Spells left) items) v
      of parts h = (
        (parts.low, (parts.high, (parts.id, (parts.parent, (parts.name, (h.references.all, (parts.flags, (parts.start, (parts.duration, (parts.tags, (parts.logs, tt))))))))))),
        (
          given_back i64_in 1 Means required items parts.low h.low,
          (
            given_back i64_in 2 Means required items parts.high h.high,
            (
              given_back i64_in 3 Means required items parts.id h.id,
              (
                given_back i64_in 4 Means required items parts.parent h.parent,
                (
                  given_back binary_in 5 MeansText required items parts.name h.name,
                  (
                    inner_back list_in 6 MeansReferences or_empty items h.references.all h.references.given,
                    (
                      given_back i32_in 7 Means required items parts.flags h.flags,
                      (
                        given_back i64_in 8 MeansTime required items parts.start h.start,
                        (
                          given_back i64_in 9 MeansTime required items parts.duration h.duration,
                          (inner_back list_in 10 MeansTags or_empty items parts.tags h.tags, (inner_back list_in 11 MeansLogs or_empty items parts.logs h.logs, tt)),
                        ),
                      ),
                    ),
                  ),
                ),
              ),
            ),
          ),
        ),
      )

  abbrev Lists : ℕ → List FieldItem → List (Trees × List ℕ)
  Lists id items = flat_map (λ (item : FieldItem). with_text item.text (given_to list_in id item)) items

  span_end : (items : List FieldItem) → TableFound (jspan_table Spells left) items → SpanEnd items
  span_end items (inl none, others) = missing items (inl none)
  span_end items (inr low, (inl none, others)) = missing items (inr (inl none))
  span_end items (inr low, (inr high, (inl none, others))) = missing items (inr (inr (inl none)))
  span_end items (inr low, (inr high, (inr id, (inl none, others)))) = missing items (inr (inr (inr (inl none))))
  span_end items (inr low, (inr high, (inr id, (inr parent, (inl none, others))))) = missing items (inr (inr (inr (inr (inl none)))))
  span_end items (inr low, (inr high, (inr id, (inr parent, (inr name, (references, (inl none, others))))))) = missing items (inr (inr (inr (inr (inr (inl none))))))
  span_end items (inr low, (inr high, (inr id, (inr parent, (inr name, (references, (inr flags, (inl none, others)))))))) = missing items (inr (inr (inr (inr (inr (inr (inl none)))))))
  span_end items (inr low, (inr high, (inr id, (inr parent, (inr name, (references, (inr flags, (inr start, (inl none, others))))))))) = missing items (inr (inr (inr (inr (inr (inr (inr (inl none))))))))
  span_end items (inr low, (inr high, (inr id, (inr parent, (inr name, (references, (inr flags, (inr start, (inr duration, (tags, (logs, nothing))))))))))) =
      let all = found_or (λ (held : Trees × List ℕ) v. MeansReferences held.0 v) [] (Lists 6 items) references in
      let its_tags = found_or (λ (held : Trees × List ℕ) v. MeansTags held.0 v) [] (Lists 10 items) tags in
      let its_logs = found_or (λ (held : Trees × List ℕ) v. MeansLogs held.0 v) [] (Lists 11 items) logs in
      by_parts (record {
        low = low.0;
        high = high.0;
        id = id.0;
        parent = parent.0;
        name = name.0;
        references = record { kept = flat_map kept_reference all.0; others = count_by (λ r. is_none r) all.0 };
        flags = flags.0;
        start = start.0;
        duration = duration.0;
        tags = its_tags.0;
        logs = its_logs.0;
      }) items (record {
        low = given_on i64_in 1 Means required items low.0 low.1;
        high = given_on i64_in 2 Means required items high.0 high.1;
        id = given_on i64_in 3 Means required items id.0 id.1;
        parent = given_on i64_in 4 Means required items parent.0 parent.1;
        name = given_on binary_in 5 MeansText required items name.0 name.1;
        references = record { all = all.0; given = inner_on list_in 6 MeansReferences or_empty items all.0 all.1; kept = refl; others = refl };
        flags = given_on i32_in 7 Means required items flags.0 flags.1;
        start = given_on i64_in 8 MeansTime required items start.0 start.1;
        duration = given_on i64_in 9 MeansTime required items duration.0 duration.1;
        tags = inner_on list_in 10 MeansTags or_empty items its_tags.0 its_tags.1;
        logs = inner_on list_in 11 MeansLogs or_empty items its_logs.0 its_logs.1;
      })

module _ (Spells : Spelling) (reads : ReadingOf) (ThenVarint : Part → List ℕ → Type 0) (Refuses : Part → Cause → List ℕ → Type 0) (R : ReadsExactly Spells reads ThenVarint Refuses) (P : PartLaws Spells ThenVarint Refuses) (left : ℕ) where
  laws : (m : ℕ) → FormatLaws (structs Spells m)
  laws m = struct_laws Spells reads ThenVarint Refuses R P m

  abbrev span_rows : TableProof Spells left (jspan_table Spells left)
  span_rows = (
    long_proof Spells left 1 Means nothing_wrong required (means_kind Spells left _),
    (
      long_proof Spells left 2 Means nothing_wrong required (means_kind Spells left _),
      (
        long_proof Spells left 3 Means nothing_wrong required (means_kind Spells left _),
        (
          long_proof Spells left 4 Means nothing_wrong required (means_kind Spells left _),
          (
            binary_proof Spells left 5 MeansText NotText required (text_kind Spells left _),
            (
              structures_proof Spells reads ThenVarint Refuses R P IsSpanRef reference_rules left 6 (reference_struct Spells (left - 2) (laws (left - 2))) or_empty,
              (
                int_proof Spells left 7 Means nothing_wrong required (means_kind Spells left _),
                (
                  long_proof Spells left 8 MeansTime BadTime required (time_kind Spells left _),
                  (
                    long_proof Spells left 9 MeansTime BadTime required (time_kind Spells left _),
                    (
                      structures_proof Spells reads ThenVarint Refuses R P IsTag tag_rules left 10 (tag_struct Spells (left - 2) (laws (left - 2))) or_empty,
                      (structures_proof Spells reads ThenVarint Refuses R P IsLog (log_rules Spells (left - 2)) left 11 (log_struct Spells reads ThenVarint Refuses R P (left - 2)) or_empty, tt),
                    ),
                  ),
                ),
              ),
            ),
          ),
        ),
      ),
    ),
  )

  pub span_struct : StructProof Spells left IsJSpan (jspan_rules Spells left)
  span_struct =
      struct_proof Spells left (laws left) (jspan_table Spells left) span_rows refl jspan_ends (span_laws Spells laws left) IsJSpan (record { values = span_values Spells left; clean = span_clean }) (span_end Spells left)
