-- The canonical struct of a proper batch means that batch.
use Rattle.std.proofs.Common.{◌≡◌, ◌<◌, ◌≤◌, ◌^◌, ◌%◌, ◌/◌, ◌*◌, ◌+◌, ◌-◌, ◌++◌, ℕ, zero, suc, ℤ, pos, false, Option, Some, None, is_none, List, [], ◌∷◌, map, All, IsUtf8, refl, ap, subst, sym, ◌∙◌, arith}
use Rattle.std.specs.Int.{w64, cast_signed, cast_unsigned}
use Rattle.std.specs.List.{flat_map, count_by}
use Rattle.std.proofs.Math.Nat.{div-lt_iff_lt-mul}
use Rattle.std.proofs.lemmas.Int.{of_z-to_z}
use Rattle.std.proofs.lemmas.Nat.{mod_below, shr_split}
use Rattle.std.proofs.lemmas.List.{map-id}
use Rattle.std.proofs.lemmas.List.Elements.{All-head, All-tail}
use Rattle.span_ids.specs.Times.{micros, nanos, last_micros, IsWhole}
use Rattle.span_io.specs.Tables.{Singular, MeansText}
use Rattle.thrift_core.specs.FieldValues.{values_of, i32_in, i64_in, binary_in, list_in, EachStruct}
use Rattle.thrift_core.specs.Trees.{i32, Tree, leaf, binary, Fields, Trees}
use Rattle.thrift_core.specs.Written.{FieldRow, fields_of_rows, struct_trees}
use Rattle.jaeger_model.specs.declared.batch.Batch.{Batch}
use Rattle.jaeger_model.specs.declared.span.JSpan.{JSpan}
use Rattle.jaeger_model.specs.declared.span.Log.{Log}
use Rattle.jaeger_model.specs.declared.span.SpanRef.{SpanRef}
use Rattle.jaeger_model.specs.declared.tag.Tag.{Tag}
use Rattle.jaeger_model.specs.declared.tag.TagValue.{TagValue}
use Rattle.jaeger_model.specs.declared.tag.TagValue.TheVariants as values
use Rattle.jaeger_model.specs.Batch.{IsBatch}
use Rattle.jaeger_model.specs.Canonical.{number_tree, id_tree, parent_tree, low_tree, high_tree, filled_list, tag_rows, log_rows, reference_rows, reference_and_flag_rows, time_rows, tag_and_log_rows, jspan_rows, process_rows, batch_fields}
use Rattle.jaeger_model.specs.Identifiers.{some_id, span_id_of, trace_id_of}
use Rattle.jaeger_model.specs.Log.{IsLog, MeansTags}
use Rattle.jaeger_model.specs.Meanings.{Required, MeansTime}
use Rattle.jaeger_model.specs.Process.{IsProcess}
use Rattle.span_ids.specs.Proper.{IsProperParent, IsProperSpanId, IsProperTraceId}
use Rattle.jaeger_model.specs.Proper.{IsProperTagValue, IsProperTag, IsProperLog, IsProperReference, IsProperJSpan, IsProperBatch}
use Rattle.jaeger_model.specs.Reference.{IsSpanRef}
use Rattle.jaeger_model.specs.Span.{IsJSpan, MeansLogs, MeansReferences, kept_reference}
use Rattle.jaeger_model.specs.Tag.{IsTag, HeldByTag, no_double}
use Rattle.jaeger_model.specs.Writable.{IsWritableLog, IsWritableSpan, IsWritable}
use Rattle.jaeger_model.specs.WrittenAgain.{all_kept, all_counted, HasAllKept}

-- ---- numbers

bits_back : (id : ℕ) → id < 2 ^ 64 → cast_unsigned w64 (cast_signed w64 id) ≡ id
bits_back id lt = of_z-to_z w64 id lt

some_back : (id : ℕ) → 0 < id → some_id id ≡ Some id
some_back zero some = absurd (omega arith)
some_back (suc n) some = refl

id_back : (id : ℕ) → IsProperSpanId id → span_id_of (cast_signed w64 id) ≡ Some id
id_back id p = ap some_id (bits_back id p.1) ∙ some_back id p.0

trace_back : (trace : ℕ) → IsProperTraceId trace → trace_id_of (cast_signed w64 (trace / 2 ^ 64)) (cast_signed w64 (trace % 2 ^ 64)) ≡ Some trace
trace_back trace p =
    let high : cast_unsigned w64 (cast_signed w64 (trace / 2 ^ 64)) ≡ trace / 2 ^ 64 = bits_back (trace / 2 ^ 64) ((div-lt_iff_lt-mul {k = 2 ^ 64} {x = trace} {y = 2 ^ 64} (omega arith)).1 p.1) in
    let low : cast_unsigned w64 (cast_signed w64 (trace % 2 ^ 64)) ≡ trace % 2 ^ 64 = bits_back (trace % 2 ^ 64) (mod_below trace (2 ^ 64) (omega arith)) in
    ap (λ h. some_id (h * 2 ^ 64 + cast_unsigned w64 (cast_signed w64 (trace % 2 ^ 64)))) high
    ∙ ap (λ l. some_id (trace / 2 ^ 64 * 2 ^ 64 + l)) low
    ∙ ap some_id (shr_split trace 64)
    ∙ some_back trace p.0

time_back : (time : ℕ) → time < 2 ^ 64 → IsWhole time → MeansTime (pos (micros time)) time
time_back time lt whole = (micros time, refl, omega arith, omega arith)

-- ---- lists of structs

module _ {A B : Type 0} (rows : A → List FieldRow) (f : A → B) (Is : B → Fields → Type 0) (Good : A → Type 0) (means : (x : A) → Good x → Is (f x) (fields_of_rows (rows x))) where
  each_means : (xs : List A) → All Good xs → EachStruct Is (struct_trees rows xs) (map f xs)
  unfolding EachStruct struct_trees
  each_means [] good = tt
  each_means (x ∷ xs) good = (means x (All-head Good x xs good), each_means xs (All-tail Good x xs good))

module _ {A : Type 0} (rows : A → List FieldRow) (Is : A → Fields → Type 0) (Good : A → Type 0) (means : (x : A) → Good x → Is x (fields_of_rows (rows x))) where
  all_mean : (xs : List A) → All Good xs → EachStruct Is (struct_trees rows xs) xs
  all_mean xs good = subst (λ (l : List A). EachStruct Is (struct_trees rows xs) l) (map-id xs) (each_means rows (λ x. x) Is Good means xs good)

-- what a list gives that is left out where it is empty
abbrev given_list : {A : Type 0} → (A → List FieldRow) → List A → List Trees
given_list rows [] = []
given_list rows (x ∷ xs) = struct_trees rows (x ∷ xs) ∷ []

-- ---- tags, logs and references

-- what its fields hold
abbrev held_by : TagValue → HeldByTag
held_by (values.Text text) = record { text = text; double = no_double; truth = false; number = pos 0; bytes = [] }
held_by (values.Eight eight) = record { text = []; double = eight; truth = false; number = pos 0; bytes = [] }
held_by (values.Truth truth) = record { text = []; double = no_double; truth = truth; number = pos 0; bytes = [] }
held_by (values.Number number) = record { text = []; double = no_double; truth = false; number = number; bytes = [] }
held_by (values.Bytes bytes) = record { text = []; double = no_double; truth = false; number = pos 0; bytes = bytes }

abbrev tag_of : List ℕ → TagValue → Tag
tag_of key value = record { key = key; value = value }

-- by the fields of a value, of which but one is absent
parts_mean : (key : List ℕ) (value : TagValue) → IsUtf8 key → IsProperTagValue value → IsTag (tag_of key value) (fields_of_rows (tag_rows (tag_of key value)))
unfolding values_of fields_of_rows
parts_mean key (values.Text text) k v = record { key = (k, refl); kind = refl; held = held_by (values.Text text); text = (v, refl); double = refl; truth = refl; number = refl; bytes = refl; value = refl }
parts_mean key (values.Eight eight) k v = record { key = (k, refl); kind = refl; held = held_by (values.Eight eight); text = refl; double = refl; truth = refl; number = refl; bytes = refl; value = refl }
parts_mean key (values.Truth truth) k v = record { key = (k, refl); kind = refl; held = held_by (values.Truth truth); text = refl; double = refl; truth = refl; number = refl; bytes = refl; value = refl }
parts_mean key (values.Number number) k v = record { key = (k, refl); kind = refl; held = held_by (values.Number number); text = refl; double = refl; truth = refl; number = refl; bytes = refl; value = refl }
parts_mean key (values.Bytes bytes) k v = record { key = (k, refl); kind = refl; held = held_by (values.Bytes bytes); text = refl; double = refl; truth = refl; number = refl; bytes = refl; value = refl }

tag_means : (tag : Tag) → IsProperTag tag → IsTag tag (fields_of_rows (tag_rows tag))
tag_means tag p = parts_mean tag.key tag.value p.key p.value

tags_mean : (tags : List Tag) → All IsProperTag tags → MeansTags (struct_trees tag_rows tags) tags
tags_mean tags p = all_mean tag_rows IsTag IsProperTag tag_means tags p

given_tags : (tags : List Tag) → All IsProperTag tags → Singular MeansTags (λ list. list ≡ []) (given_list tag_rows tags) tags
given_tags [] p = refl
given_tags (x ∷ tags) p = tags_mean (x ∷ tags) p

log_means : (log : Log) → IsWritableLog log × IsProperLog log → IsLog log (fields_of_rows (log_rows log))
unfolding values_of fields_of_rows
log_means log h = record { time = time_back log.time h.1.time h.0.time; tags = tags_mean log.fields h.1.fields }

given_logs : (logs : List Log) → All (λ log. IsWritableLog log × IsProperLog log) logs → Singular MeansLogs (λ list. list ≡ []) (given_list log_rows logs) logs
given_logs [] h = refl
given_logs (x ∷ logs) h = all_mean log_rows IsLog (λ log. IsWritableLog log × IsProperLog log) log_means (x ∷ logs) h

reference_means : (r : SpanRef) → IsProperReference r → IsSpanRef (Some r) (fields_of_rows (reference_rows r))
unfolding values_of fields_of_rows
reference_means r p = record {
  child_of = r.child_of;
  kind = refl;
  low = cast_signed w64 (r.trace % 2 ^ 64);
  its_low = refl;
  high = cast_signed w64 (r.trace / 2 ^ 64);
  its_high = refl;
  span = cast_signed w64 r.span;
  its_span = refl;
  pointed = (refl, trace_back r.trace p.trace, id_back r.span p.span);
}

given_references : (references : List SpanRef) → All IsProperReference references
    → Singular MeansReferences (λ list. list ≡ []) (given_list reference_rows references) (map Some references)
given_references [] p = refl
given_references (x ∷ references) p = each_means reference_rows Some IsSpanRef IsProperReference reference_means (x ∷ references) p

kept_all : (references : List SpanRef) → references ≡ flat_map kept_reference (map Some references)
kept_all [] = refl
kept_all (x ∷ references) = ap (λ l. x ∷ l) (kept_all references)

none_other : (references : List SpanRef) → 0 ≡ count_by (λ r. is_none r) (map Some references)
none_other [] = refl
none_other (x ∷ references) = none_other references

-- ---- the process

process_means : (service : List ℕ) (tags : List Tag) → IsUtf8 service → All IsProperTag tags → IsProcess (record { service = service; tags = tags }) (fields_of_rows (process_rows service tags))
unfolding values_of fields_of_rows
process_means service [] s p = record { service = (s, refl); tags = refl }
process_means service (x ∷ tags) s p = record { service = (s, refl); tags = tags_mean (x ∷ tags) p }

-- ---- what the fields of a span give

-- its rows, by their values
abbrev rows_by_values : (low high id parent start duration flags : ℤ) → List ℕ → List SpanRef → List Tag → List Log → List FieldRow
rows_by_values low high id parent start duration flags name references tags logs =
    ((pos 1, number_tree low) ∷ (pos 2, number_tree high) ∷ (pos 3, number_tree id) ∷ (pos 4, number_tree parent) ∷ (pos 5, binary name) ∷ [])
    ++ ((filled_list (pos 6) reference_rows references ++ (pos 7, leaf (i32 flags)) ∷ [])
    ++ (((pos 8, number_tree start) ∷ (pos 9, number_tree duration) ∷ []) ++ (filled_list (pos 10) tag_rows tags ++ filled_list (pos 11) log_rows logs)))

record Gives (fields : Fields) (low high id parent start duration flags : ℤ) (name : List ℕ) (references : List SpanRef) (tags : List Tag) (logs : List Log) : Type 0 where
  its_low : values_of i64_in 1 fields ≡ low ∷ []
  its_high : values_of i64_in 2 fields ≡ high ∷ []
  its_id : values_of i64_in 3 fields ≡ id ∷ []
  its_parent : values_of i64_in 4 fields ≡ parent ∷ []
  its_name : values_of binary_in 5 fields ≡ name ∷ []
  its_references : values_of list_in 6 fields ≡ given_list reference_rows references
  its_flags : values_of i32_in 7 fields ≡ flags ∷ []
  its_start : values_of i64_in 8 fields ≡ start ∷ []
  its_duration : values_of i64_in 9 fields ≡ duration ∷ []
  its_tags : values_of list_in 10 fields ≡ given_list tag_rows tags
  its_logs : values_of list_in 11 fields ≡ given_list log_rows logs

module _ (low high id parent start duration flags : ℤ) (name : List ℕ) where
  gives : (references : List SpanRef) (tags : List Tag) (logs : List Log)
      → Gives (fields_of_rows (rows_by_values low high id parent start duration flags name references tags logs)) low high id parent start duration flags name references tags logs
  unfolding values_of fields_of_rows
  gives [] [] [] = record { its_low = refl; its_high = refl; its_id = refl; its_parent = refl; its_name = refl; its_references = refl; its_flags = refl; its_start = refl; its_duration = refl; its_tags = refl; its_logs = refl }
  gives [] [] (l ∷ logs) = record { its_low = refl; its_high = refl; its_id = refl; its_parent = refl; its_name = refl; its_references = refl; its_flags = refl; its_start = refl; its_duration = refl; its_tags = refl; its_logs = refl }
  gives [] (t ∷ tags) [] = record { its_low = refl; its_high = refl; its_id = refl; its_parent = refl; its_name = refl; its_references = refl; its_flags = refl; its_start = refl; its_duration = refl; its_tags = refl; its_logs = refl }
  gives [] (t ∷ tags) (l ∷ logs) = record { its_low = refl; its_high = refl; its_id = refl; its_parent = refl; its_name = refl; its_references = refl; its_flags = refl; its_start = refl; its_duration = refl; its_tags = refl; its_logs = refl }
  gives (r ∷ references) [] [] = record { its_low = refl; its_high = refl; its_id = refl; its_parent = refl; its_name = refl; its_references = refl; its_flags = refl; its_start = refl; its_duration = refl; its_tags = refl; its_logs = refl }
  gives (r ∷ references) [] (l ∷ logs) = record { its_low = refl; its_high = refl; its_id = refl; its_parent = refl; its_name = refl; its_references = refl; its_flags = refl; its_start = refl; its_duration = refl; its_tags = refl; its_logs = refl }
  gives (r ∷ references) (t ∷ tags) [] = record { its_low = refl; its_high = refl; its_id = refl; its_parent = refl; its_name = refl; its_references = refl; its_flags = refl; its_start = refl; its_duration = refl; its_tags = refl; its_logs = refl }
  gives (r ∷ references) (t ∷ tags) (l ∷ logs) = record { its_low = refl; its_high = refl; its_id = refl; its_parent = refl; its_name = refl; its_references = refl; its_flags = refl; its_start = refl; its_duration = refl; its_tags = refl; its_logs = refl }

-- ---- spans

once : {A B : Type 0} (M : A → B → Type 0) (given : List A) (held : A) (value : B) → given ≡ held ∷ [] → M held value → Required M given value
once M given held value e h = subst (λ (l : List _). Required M l value) (sym e) h

parent_number : (parent : Option ℕ) → IsProperParent parent → (n : ℤ) × (parent_tree parent ≡ number_tree n) × (span_id_of n ≡ parent)
parent_number None p = (pos 0, refl, refl)
parent_number (Some id) p = (cast_signed w64 id, refl, id_back id p)

-- the rows of a span, with the parent's value
abbrev rows_with : Tree → JSpan → List FieldRow
rows_with parent s =
    ((pos 1, low_tree s.trace) ∷ (pos 2, high_tree s.trace) ∷ (pos 3, id_tree s.id) ∷ (pos 4, parent) ∷ (pos 5, binary s.name) ∷ [])
    ++ (reference_and_flag_rows s ++ (time_rows s ++ tag_and_log_rows s))

whole_sum : (start end : ℕ) → IsWhole start → IsWhole end → start ≤ end → end ≡ start + (end / 1000 - start / 1000) * 1000
whole_sum start end a b le = omega arith

whole_small : (end : ℕ) → IsWhole end → micros end ≤ last_micros → end ≤ nanos last_micros
whole_small end whole le = omega arith

module _ (s : JSpan) (w : IsWritableSpan s) (p : IsProperJSpan s) (n : ℤ) (is_parent : span_id_of n ≡ s.parent) where
  abbrev span_low : ℤ
  span_low = cast_signed w64 (s.trace % 2 ^ 64)

  abbrev span_high : ℤ
  span_high = cast_signed w64 (s.trace / 2 ^ 64)

  abbrev span_duration : ℕ
  span_duration = micros s.end - micros s.start

  abbrev fields_by_values : Fields
  fields_by_values = fields_of_rows (rows_by_values span_low span_high (cast_signed w64 s.id) n (pos (micros s.start)) (pos span_duration) s.flags s.name s.references s.tags s.logs)

  by_values : IsJSpan (all_kept s) fields_by_values
  by_values =
      let g = gives span_low span_high (cast_signed w64 s.id) n (pos (micros s.start)) (pos span_duration) s.flags s.name s.references s.tags s.logs in
      let end_small : micros s.end ≤ last_micros = omega (arith, p.end) in
      record {
        trace = record {
          low = span_low;
          its_low = once (λ held value. value ≡ held) _ span_low span_low g.its_low refl;
          high = span_high;
          its_high = once (λ held value. value ≡ held) _ span_high span_high g.its_high refl;
          joined = trace_back s.trace p.trace;
        };
        id = once (λ held value. span_id_of held ≡ Some value) _ (cast_signed w64 s.id) s.id g.its_id (id_back s.id p.id);
        parent = once (λ held value. span_id_of held ≡ value) _ n s.parent g.its_parent is_parent;
        name = once MeansText _ s.name s.name g.its_name (p.name, refl);
        references = record {
          all = map Some s.references;
          given = subst (λ l. Singular MeansReferences (λ list. list ≡ []) l (map Some s.references)) (sym g.its_references) (given_references s.references p.references);
          kept = kept_all s.references;
          others = none_other s.references;
        };
        flags = once (λ held value. value ≡ held) _ s.flags s.flags g.its_flags refl;
        times = record {
          its_start = once MeansTime _ (pos (micros s.start)) s.start g.its_start (time_back s.start p.start w.start);
          duration = nanos span_duration;
          its_duration = once MeansTime _ (pos span_duration) (nanos span_duration) g.its_duration (span_duration, refl, omega arith, refl);
          sum = whole_sum s.start s.end w.start w.end w.ordered;
          in_range = whole_small s.end w.end end_small;
        };
        tags = subst (λ l. Singular MeansTags (λ list. list ≡ []) l s.tags) (sym g.its_tags) (given_tags s.tags p.tags);
        logs = subst (λ l. Singular MeansLogs (λ list. list ≡ []) l s.logs) (sym g.its_logs) (given_logs s.logs (λ k d lt. (w.logs.each k d lt, p.logs k d lt)));
      }

span_means : (s : JSpan) → IsWritableSpan s × IsProperJSpan s → IsJSpan (all_kept s) (fields_of_rows (jspan_rows s))
span_means s h =
    let parent = parent_number s.parent h.1.parent in
    subst (λ t. IsJSpan (all_kept s) (fields_of_rows (rows_with t s))) (sym parent.1) (by_values s h.0 h.1 parent.0 parent.2)

-- ---- batches

pub batch_means : (batch : Batch) → IsWritable batch → IsProperBatch batch → IsBatch (all_counted batch) (batch_fields batch)
unfolding values_of fields_of_rows
batch_means batch w p = record {
  process = process_means batch.service batch.tags p.service p.tags;
  spans = each_means jspan_rows all_kept IsJSpan (λ span. IsWritableSpan span × IsProperJSpan span) span_means batch.spans (λ k d lt. (w.spans.each k d lt, p.spans k d lt));
  sequence = omega arith;
  stats = omega arith;
}

kept_same : (s : JSpan) → HasAllKept s → all_kept s ≡ s
kept_same s e =
    ap (λ n. record { trace = s.trace; id = s.id; parent = s.parent; name = s.name; references = s.references; invalid_refs = n; flags = s.flags; start = s.start; end = s.end; tags = s.tags; logs = s.logs }) (sym e)

all_same : (spans : List JSpan) → All HasAllKept spans → map all_kept spans ≡ spans
all_same [] h = refl
all_same (s ∷ spans) h =
    ap (λ r. r ∷ map all_kept spans) (kept_same s (All-head HasAllKept s spans h))
    ∙ ap (λ l. s ∷ l) (all_same spans (All-tail HasAllKept s spans h))

pub batch_same : (batch : Batch) → All HasAllKept batch.spans → all_counted batch ≡ batch
batch_same batch h = ap (λ spans. record { service = batch.service; tags = batch.tags; spans = spans }) (all_same batch.spans h)
