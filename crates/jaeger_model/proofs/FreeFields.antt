-- Free fields change nothing that a struct means: the fields of each row's id hold the same.
use Rattle.std.proofs.Common.{◌≡◌, ◌++◌, ◌∷◌, ℕ, pos, Option, Some, List, [], refl, sym, ap, subst, ◌∙◌}
use Rattle.std.specs.List.{flat_map}
use Rattle.std.specs.Prelude.{map}
use Rattle.std.proofs.lemmas.List.Concat.{flat_map-cons}
use Rattle.span_io.specs.declared.cause.Cause.{Cause}
use Rattle.span_io.specs.Tables.{Row, Singular, MeansText, IsFree}
use Rattle.thrift_core.specs.FieldValues.{values_of, truth_in, i32_in, i64_in, double_in, binary_in, struct_in, list_in}
use Rattle.thrift_core.specs.Messages.{FieldItem, fields_of}
use Rattle.thrift_core.proofs.OneReading.{one_fields}
use Rattle.thrift_core.specs.Parts.{Part, Spelling}
use Rattle.thrift_core.specs.Protocols.{ReadsExactly, PartLaws}
use Rattle.thrift_core.specs.Reading.{ReadingOf}
use Rattle.thrift_core.specs.Trees.{Tree, Fields, StructText, outer_levels}
use Rattle.jaeger_model.proofs.FieldLemmas.{values_given}
use Rattle.jaeger_model.proofs.StructProofs.{pairs_given}
use Rattle.jaeger_model.specs.Batch.{MeansSpans, AtMostOne, IsBatch, IsBatchText, batch_table}
use Rattle.jaeger_model.specs.declared.batch.Batch.{Batch}
use Rattle.jaeger_model.specs.declared.process.Process.{Process}
use Rattle.jaeger_model.specs.declared.span.JSpan.{JSpan}
use Rattle.jaeger_model.specs.declared.span.Log.{Log}
use Rattle.jaeger_model.specs.declared.span.SpanRef.{SpanRef}
use Rattle.jaeger_model.specs.declared.tag.Tag.{Tag}
use Rattle.jaeger_model.specs.Identifiers.{span_id_of}
use Rattle.jaeger_model.specs.InnerRows.{with_text}
use Rattle.jaeger_model.specs.StatedLaws.{SameButFree, no_more, on_both, on_this, on_that, PassesFreeFields, FreeFields}
use Rattle.jaeger_model.specs.Log.{MeansTags, IsLog, log_table}
use Rattle.jaeger_model.specs.Meanings.{Means, MeansTime, MeansEnum}
use Rattle.jaeger_model.specs.Process.{IsProcess, MeansProcess, process_table}
use Rattle.jaeger_model.specs.Reference.{reference_number, IsSpanRef, reference_table}
use Rattle.jaeger_model.specs.Rows.{given_to, required, or_else}
use Rattle.jaeger_model.specs.Span.{MeansReferences, MeansLogs, IsJSpan, or_empty, jspan_table}
use Rattle.jaeger_model.specs.Tag.{no_double, IsTag, tag_table}

-- ---- what is given to a row

-- to which free fields give nothing
module _ (table : List (Row FieldItem)) {A : Type 0} (give : FieldItem → List A) (nothing : (item : FieldItem) → IsFree table item → give item ≡ []) where
  with_free : (free : FieldItem) (items : List FieldItem) → IsFree table free → flat_map give (free ∷ items) ≡ flat_map give items
  with_free free items is = flat_map-cons give free items ∙ ap (λ l. l ++ flat_map give items) (nothing free is)

  same_given : (items others : List FieldItem) → SameButFree table items others → flat_map give items ≡ flat_map give others
  same_given _ _ no_more = refl
  same_given _ _ (on_both item items others same) =
      flat_map-cons give item items ∙ (ap (λ l. give item ++ l) (same_given items others same) ∙ sym (flat_map-cons give item others))
  same_given _ _ (on_this free items others is same) = with_free free items is ∙ same_given items others same
  same_given _ _ (on_that free items others is same) = same_given items others same ∙ sym (with_free free others is)

module _ (table : List (Row FieldItem)) (items others : List FieldItem) (same : SameButFree table items others) {A : Type 0} (take : Tree → List A) (id : ℕ) where
  abbrev Same : Type 0
  Same = values_of take id (fields_of items) ≡ values_of take id (fields_of others)

  same_values : ((item : FieldItem) → IsFree table item → given_to take id item ≡ []) → Same
  same_values nothing = sym (values_given take id items) ∙ (same_given table (λ item. given_to take id item) nothing items others same ∙ values_given take id others)

  -- of a row whose things have their bytes
  same_inner : ((item : FieldItem) → IsFree table item → with_text item.text (given_to take id item) ≡ []) → Same
  same_inner nothing =
      sym (pairs_given take id items)
      ∙ (ap (λ (l : List (A × List ℕ)). map (λ x. x.0) l) (same_given table (λ item. with_text item.text (given_to take id item)) nothing items others same) ∙ pairs_given take id others)

-- ---- what the fields mean, where those of each id hold the same

-- the fields of an id hold the same
abbrev pub Holds : {A : Type 0} → (Tree → List A) → ℕ → Fields → Fields → Type 0
Holds take id fields others = values_of take id fields ≡ values_of take id others

-- those of an id mean what they mean on the other side
abbrev pub Moves : {A B : Type 0} → (Tree → List A) → ℕ → (A → B → Type 0) → (B → Type 0) → Fields → Fields → Type 0
Moves {A} {B} take id M IsAbsent fields others = (v : B) → Singular M IsAbsent (values_of take id fields) v → Singular M IsAbsent (values_of take id others) v

pub moved : {A B : Type 0} (M : A → B → Type 0) (IsAbsent : B → Type 0) (v : B) (xs ys : List A) → xs ≡ ys → Singular M IsAbsent xs v → Singular M IsAbsent ys v
moved {A} M IsAbsent v xs ys same h = subst (λ (l : List A). Singular M IsAbsent l v) same h

module _ (a b : Fields) where
  pub tag_moved : (tag : Tag) → Holds binary_in 1 a b → Holds i32_in 2 a b → Holds binary_in 3 a b → Holds double_in 4 a b → Holds truth_in 5 a b → Holds i64_in 6 a b → Holds binary_in 7 a b → IsTag tag a → IsTag tag b
  tag_moved tag e1 e2 e3 e4 e5 e6 e7 is = record {
    key = moved MeansText (λ x. ⊥) tag.key _ _ e1 is.key;
    kind = moved (λ n k. n ≡ pos k) (λ x. ⊥) _ _ _ e2 is.kind;
    held = is.held;
    text = moved MeansText (λ t. t ≡ []) is.held.text _ _ e3 is.text;
    double = moved Means (λ d. d ≡ no_double) is.held.double _ _ e4 is.double;
    truth = moved Means _ is.held.truth _ _ e5 is.truth;
    number = moved Means (λ n. n ≡ pos 0) is.held.number _ _ e6 is.number;
    bytes = moved Means (λ t. t ≡ []) is.held.bytes _ _ e7 is.bytes;
    value = is.value;
  }

  pub reference_moved : (reference : Option SpanRef) → Holds i32_in 1 a b → Holds i64_in 2 a b → Holds i64_in 3 a b → Holds i64_in 4 a b → IsSpanRef reference a → IsSpanRef reference b
  reference_moved reference e1 e2 e3 e4 is = record {
    child_of = is.child_of;
    kind = moved (MeansEnum reference_number) (λ x. ⊥) is.child_of _ _ e1 is.kind;
    low = is.low;
    its_low = moved Means (λ x. ⊥) is.low _ _ e2 is.its_low;
    high = is.high;
    its_high = moved Means (λ x. ⊥) is.high _ _ e3 is.its_high;
    span = is.span;
    its_span = moved Means (λ x. ⊥) is.span _ _ e4 is.its_span;
    pointed = is.pointed;
  }

  pub log_moved : (log : Log) → Holds i64_in 1 a b → Moves list_in 2 MeansTags required a b → IsLog log a → IsLog log b
  log_moved log e1 e2 is = record { time = moved MeansTime (λ x. ⊥) log.time _ _ e1 is.time; tags = e2 log.fields is.tags }

  pub process_moved : (process : Process) → Holds binary_in 1 a b → Moves list_in 2 MeansTags (or_else []) a b → IsProcess process a → IsProcess process b
  process_moved process e1 e2 is = record { service = moved MeansText (λ x. ⊥) process.service _ _ e1 is.service; tags = e2 process.tags is.tags }

  -- the fields of a span's rows
  pub record SpanHolds : Type 0 where
    pub low : Holds i64_in 1 a b
    pub high : Holds i64_in 2 a b
    pub id : Holds i64_in 3 a b
    pub parent : Holds i64_in 4 a b
    pub name : Holds binary_in 5 a b
    pub references : Moves list_in 6 MeansReferences or_empty a b
    pub flags : Holds i32_in 7 a b
    pub start : Holds i64_in 8 a b
    pub duration : Holds i64_in 9 a b
    pub tags : Moves list_in 10 MeansTags or_empty a b
    pub logs : Moves list_in 11 MeansLogs or_empty a b

  pub span_moved : (span : JSpan) → SpanHolds → IsJSpan span a → IsJSpan span b
  span_moved span e is = record {
    trace = record {
      low = is.trace.low;
      its_low = moved Means (λ x. ⊥) is.trace.low _ _ e.low is.trace.its_low;
      high = is.trace.high;
      its_high = moved Means (λ x. ⊥) is.trace.high _ _ e.high is.trace.its_high;
      joined = is.trace.joined;
    };
    id = moved (λ n i. span_id_of n ≡ Some i) (λ x. ⊥) span.id _ _ e.id is.id;
    parent = moved (λ n p. span_id_of n ≡ p) (λ x. ⊥) span.parent _ _ e.parent is.parent;
    name = moved MeansText (λ x. ⊥) span.name _ _ e.name is.name;
    references = record {
      all = is.references.all;
      given = e.references is.references.all is.references.given;
      kept = is.references.kept;
      others = is.references.others;
    };
    flags = moved Means (λ x. ⊥) span.flags _ _ e.flags is.flags;
    times = record {
      its_start = moved MeansTime (λ x. ⊥) span.start _ _ e.start is.times.its_start;
      duration = is.times.duration;
      its_duration = moved MeansTime (λ x. ⊥) is.times.duration _ _ e.duration is.times.its_duration;
      sum = is.times.sum;
      in_range = is.times.in_range;
    };
    tags = e.tags span.tags is.tags;
    logs = e.logs span.logs is.logs;
  }

  pub batch_moved : (batch : Batch) → Moves struct_in 1 MeansProcess required a b → Moves list_in 2 MeansSpans required a b → Holds i64_in 3 a b
      → (AtMostOne (values_of struct_in 4 a) → AtMostOne (values_of struct_in 4 b)) → IsBatch batch a → IsBatch batch b
  batch_moved batch e1 e2 e3 e4 is = record {
    process = e1 (record { service = batch.service; tags = batch.tags }) is.process;
    spans = e2 batch.spans is.spans;
    sequence = subst AtMostOne e3 is.sequence;
    stats = e4 is.stats;
  }

-- ---- so of fields that are the same but for free ones

-- it is enough to go one way
other_way : (table : List (Row FieldItem)) (items others : List FieldItem) → SameButFree table items others → SameButFree table others items
other_way table _ _ no_more = no_more
other_way table _ _ (on_both item items others same) = on_both item others items (other_way table items others same)
other_way table _ _ (on_this free items others is same) = on_that free others items is (other_way table items others same)
other_way table _ _ (on_that free items others is same) = on_this free others items is (other_way table items others same)

both_ways : {X : Type 0} (table : List (Row FieldItem)) (Is : X → Fields → Type 0) → ((items others : List FieldItem) → SameButFree table items others → (x : X) → Is x (fields_of items) → Is x (fields_of others)) → PassesFreeFields table Is
both_ways table Is moves items others same x = (moves items others same x, moves others items (other_way table items others same) x)

tag_passes : PassesFreeFields tag_table IsTag
tag_passes = both_ways tag_table IsTag (λ items others s tag is.
    tag_moved (fields_of items) (fields_of others) tag (same_values tag_table items others s binary_in 1 (λ item free. free.0)) (same_values tag_table items others s i32_in 2 (λ item free. free.1.0))
    (same_values tag_table items others s binary_in 3 (λ item free. free.1.1.0)) (same_values tag_table items others s double_in 4 (λ item free. free.1.1.1.0))
    (same_values tag_table items others s truth_in 5 (λ item free. free.1.1.1.1.0)) (same_values tag_table items others s i64_in 6 (λ item free. free.1.1.1.1.1.0))
    (same_values tag_table items others s binary_in 7 (λ item free. free.1.1.1.1.1.1.0)) is)

reference_passes : PassesFreeFields reference_table IsSpanRef
reference_passes = both_ways reference_table IsSpanRef (λ items others s reference is.
    reference_moved (fields_of items) (fields_of others) reference (same_values reference_table items others s i32_in 1 (λ item free. free.0)) (same_values reference_table items others s i64_in 2 (λ item free. free.1.0))
    (same_values reference_table items others s i64_in 3 (λ item free. free.1.1.0)) (same_values reference_table items others s i64_in 4 (λ item free. free.1.1.1.0)) is)

module _ (Spells : Spelling) (left : ℕ) where
  log_passes : PassesFreeFields (log_table Spells left) IsLog
  log_passes = both_ways (log_table Spells left) IsLog (λ items others s log is.
      log_moved (fields_of items) (fields_of others) log (same_values (log_table Spells left) items others s i64_in 1 (λ item free. free.0)) (λ v. moved MeansTags required v _ _ (same_inner (log_table Spells left) items others s list_in 2 (λ item free. free.1.0))) is)

  process_passes : PassesFreeFields (process_table Spells left) IsProcess
  process_passes = both_ways (process_table Spells left) IsProcess (λ items others s process is.
      process_moved (fields_of items) (fields_of others) process (same_values (process_table Spells left) items others s binary_in 1 (λ item free. free.0))
      (λ v. moved MeansTags (or_else []) v _ _ (same_inner (process_table Spells left) items others s list_in 2 (λ item free. free.1.0))) is)

  span_holds : (items others : List FieldItem) → SameButFree (jspan_table Spells left) items others → SpanHolds (fields_of items) (fields_of others)
  span_holds items others s = record {
    low = same_values (jspan_table Spells left) items others s i64_in 1 (λ item free. free.0);
    high = same_values (jspan_table Spells left) items others s i64_in 2 (λ item free. free.1.0);
    id = same_values (jspan_table Spells left) items others s i64_in 3 (λ item free. free.1.1.0);
    parent = same_values (jspan_table Spells left) items others s i64_in 4 (λ item free. free.1.1.1.0);
    name = same_values (jspan_table Spells left) items others s binary_in 5 (λ item free. free.1.1.1.1.0);
    references = λ v. moved MeansReferences or_empty v _ _ (same_inner (jspan_table Spells left) items others s list_in 6 (λ item free. free.1.1.1.1.1.0));
    flags = same_values (jspan_table Spells left) items others s i32_in 7 (λ item free. free.1.1.1.1.1.1.0);
    start = same_values (jspan_table Spells left) items others s i64_in 8 (λ item free. free.1.1.1.1.1.1.1.0);
    duration = same_values (jspan_table Spells left) items others s i64_in 9 (λ item free. free.1.1.1.1.1.1.1.1.0);
    tags = λ v. moved MeansTags or_empty v _ _ (same_inner (jspan_table Spells left) items others s list_in 10 (λ item free. free.1.1.1.1.1.1.1.1.1.0));
    logs = λ v. moved MeansLogs or_empty v _ _ (same_inner (jspan_table Spells left) items others s list_in 11 (λ item free. free.1.1.1.1.1.1.1.1.1.1.0));
  }

  span_passes : PassesFreeFields (jspan_table Spells left) IsJSpan
  span_passes = both_ways (jspan_table Spells left) IsJSpan (λ items others s span is. span_moved (fields_of items) (fields_of others) span (span_holds items others s) is)

  batch_passes : PassesFreeFields (batch_table Spells left) IsBatch
  batch_passes = both_ways (batch_table Spells left) IsBatch (λ items others s batch is.
      batch_moved (fields_of items) (fields_of others) batch (λ v. moved MeansProcess required v _ _ (same_inner (batch_table Spells left) items others s struct_in 1 (λ item free. free.0)))
      (λ v. moved MeansSpans required v _ _ (same_inner (batch_table Spells left) items others s list_in 2 (λ item free. free.1.0))) (same_values (batch_table Spells left) items others s i64_in 3 (λ item free. free.1.1.0))
      (subst AtMostOne (same_values (batch_table Spells left) items others s struct_in 4 (λ item free. free.1.1.1.0))) is)

module _ (Spells : Spelling) (reads : ReadingOf) (ThenVarint : Part → List ℕ → Type 0) (Refuses : Part → Cause → List ℕ → Type 0) (R : ReadsExactly Spells reads ThenVarint Refuses) (P : PartLaws Spells ThenVarint Refuses) where
  text_moved : (items others : List FieldItem) (text other : List ℕ) → SameButFree (batch_table Spells outer_levels) items others → StructText Spells outer_levels (fields_of items) text → StructText Spells outer_levels (fields_of others) other
      → (batch : Batch) → IsBatchText Spells batch text → IsBatchText Spells batch other
  text_moved items others text other same stands there batch is =
      let one = (one_fields Spells reads ThenVarint Refuses R is.fields (fields_of items) outer_levels (pos 0) text [] [] is.struct_text stands).0 in
      record { fields = fields_of others; struct_text = there; means = (batch_passes Spells outer_levels items others same batch).0 (subst (λ (f : Fields). IsBatch batch f) one is.means) }

  pub free_fields : FreeFields Spells
  free_fields = record {
    tag = tag_passes;
    reference = reference_passes;
    log = log_passes Spells;
    process = process_passes Spells;
    span = span_passes Spells;
    batch = batch_passes Spells;
    text = λ items others text other same stands there batch. (
      text_moved items others text other same stands there batch,
      text_moved others items other text (other_way (batch_table Spells outer_levels) items others same) there stands batch,
    );
  }
