-- Free fields added or removed, at any depth, change nothing that a struct means.
use Rattle.std.proofs.Common.{◌≡◌, ◌++◌, ◌∷◌, ◌==◌, if◌then◌else◌, ℕ, pos, Option, List, [], inl, inr, refl, sym, ap, subst, arith}
use Rattle.std.specs.Prelude.{◌↔◌}
use Rattle.std.specs.List.{AllZip}
use Rattle.std.proofs.lemmas.Slice.Zip.{AllZip-long}
use Rattle.span_io.proofs.RowLaws.{all_zip_append, all_zip_equal, all_zip_self, singular_moves}
use Rattle.span_io.specs.Tables.{Row, IsFree}
use Rattle.thrift_core.specs.FieldValues.{of_id, values_of, truth_in, i32_in, i64_in, double_in, binary_in, struct_in, list_in, EachStruct}
use Rattle.thrift_core.specs.Messages.{FieldItem}
use Rattle.thrift_core.specs.Trees.{Tree, structure, list_of, Fields, no_fields, field_then, Trees, outer_levels}
use Rattle.jaeger_model.proofs.FreeFields.{Holds, Moves, tag_moved, reference_moved, log_moved, process_moved, span_moved, batch_moved}
use Rattle.jaeger_model.proofs.RowPairKinds.{ListAlike}
use Rattle.jaeger_model.specs.Batch.{MeansSpans, IsBatch, batch_table}
use Rattle.jaeger_model.specs.declared.batch.Batch.{Batch}
use Rattle.jaeger_model.specs.declared.process.Process.{Process}
use Rattle.jaeger_model.specs.declared.span.JSpan.{JSpan}
use Rattle.jaeger_model.specs.declared.span.Log.{Log}
use Rattle.jaeger_model.specs.declared.span.SpanRef.{SpanRef}
use Rattle.jaeger_model.specs.declared.tag.Tag.{Tag}
use Rattle.jaeger_model.specs.FreeAtAnyDepth.{FieldsPadded, no_more, on_both, inside, on_this, on_that, EachPadded, no_structs, struct_then, no_protocol, NothingInside, TagPadded, ReferencePadded, InTagged, its_tags, LogPadded, ProcessPadded, InSpan, references, tags, logs, JSpanPadded, InBatch, process, spans, stats}
use Rattle.jaeger_model.specs.InnerRows.{with_text}
use Rattle.jaeger_model.specs.Log.{MeansTags, IsLog, log_table}
use Rattle.jaeger_model.specs.Process.{IsProcess, MeansProcess, process_table}
use Rattle.jaeger_model.specs.Reference.{IsSpanRef, reference_table}
use Rattle.jaeger_model.specs.Rows.{given_to, required, or_else}
use Rattle.jaeger_model.specs.Span.{MeansReferences, MeansLogs, IsJSpan, or_empty, jspan_table}
use Rattle.jaeger_model.specs.Tag.{IsTag, tag_table}

-- nothing is held where nothing is held with its bytes
pub bare_none : {X : Type 0} (text : List ℕ) (xs : List X) → with_text text xs ≡ [] → xs ≡ []
bare_none text [] none = refl
bare_none text (x ∷ xs) none = cc

-- what is equal is so thing by thing
pub same_things : (Inside : ℕ → Tree → Tree → Type 0) {X : Type 0} (take : Tree → List X) (id : ℕ) → ((n : ℕ) (tree other : Tree) → Inside n tree other → of_id take id (pos n) tree ≡ of_id take id (pos n) other)
    → (n : ℕ) (tree other : Tree) → Inside n tree other → AllZip (λ x y. x ≡ y) (of_id take id (pos n) tree) (of_id take id (pos n) other)
same_things Inside {X} take id quiet n tree other is =
    subst (λ (l : List X). AllZip (λ x y. x ≡ y) (of_id take id (pos n) tree) l) (quiet n tree other is) (all_zip_self (λ x y. x ≡ y) (λ x. refl) (of_id take id (pos n) tree))

-- ---- fields that are the same but for free ones

module _ (table : List (Row FieldItem)) (Inside : ℕ → Tree → Tree → Type 0) where
  pub fields_self : (fields : Fields) → FieldsPadded table Inside fields fields
  fields_self no_fields = no_more
  fields_self (field_then id tree more) = on_both id tree more more (fields_self more)

  fields_turned : ((n : ℕ) (tree other : Tree) → Inside n tree other → Inside n other tree) → (fields others : Fields) → FieldsPadded table Inside fields others → FieldsPadded table Inside others fields
  fields_turned turned _ _ no_more = no_more
  fields_turned turned _ _ (on_both id tree more others each) = on_both id tree others more (fields_turned turned more others each)
  fields_turned turned _ _ (inside id tree other more others is each) = inside id other tree others more (turned id tree other is) (fields_turned turned more others each)
  fields_turned turned _ _ (on_this free more others is each) = on_that free others more is (fields_turned turned more others each)
  fields_turned turned _ _ (on_that free more others is each) = on_this free others more is (fields_turned turned more others each)

  -- what the fields of an id hold, thing by thing
  held_alike : {X : Type 0} (take : Tree → List X) (id : ℕ) → ((item : FieldItem) → IsFree table item → given_to take id item ≡ []) → (Alike : X → X → Type 0) → ((x : X) → Alike x x)
      → ((n : ℕ) (tree other : Tree) → Inside n tree other → AllZip Alike (of_id take id (pos n) tree) (of_id take id (pos n) other)) → (fields others : Fields) → FieldsPadded table Inside fields others
      → AllZip Alike (values_of take id fields) (values_of take id others)
  unfolding values_of
  held_alike take id passes Alike self inner _ _ no_more = tt
  held_alike take id passes Alike self inner _ _ (on_both its tree more others each) =
      all_zip_append Alike (of_id take id its tree) (values_of take id more) (of_id take id its tree) (values_of take id others) (all_zip_self Alike self (of_id take id its tree)) (held_alike take id passes Alike self inner more others each)
  held_alike take id passes Alike self inner _ _ (inside n tree other more others is each) =
      all_zip_append Alike (of_id take id (pos n) tree) (values_of take id more) (of_id take id (pos n) other) (values_of take id others) (inner n tree other is) (held_alike take id passes Alike self inner more others each)
  held_alike {X} take id passes Alike self inner _ _ (on_this free more others is each) =
      subst (λ (l : List X). AllZip Alike (l ++ values_of take id more) (values_of take id others)) (sym (passes free is)) (held_alike take id passes Alike self inner more others each)
  held_alike {X} take id passes Alike self inner _ _ (on_that free more others is each) =
      subst (λ (l : List X). AllZip Alike (values_of take id more) (l ++ values_of take id others)) (sym (passes free is)) (held_alike take id passes Alike self inner more others each)

  -- of a row in which nothing differs
  pub same_held : {X : Type 0} (take : Tree → List X) (id : ℕ) → ((item : FieldItem) → IsFree table item → given_to take id item ≡ [])
      → ((n : ℕ) (tree other : Tree) → Inside n tree other → of_id take id (pos n) tree ≡ of_id take id (pos n) other) → (fields others : Fields) → FieldsPadded table Inside fields others → Holds take id fields others
  same_held {X} take id passes quiet fields others padded =
      all_zip_equal (values_of take id fields) (values_of take id others)
      (held_alike take id passes (λ x y. x ≡ y) (λ x. refl) (same_things Inside take id quiet) fields others padded)

  -- of a row of structs, which has the bytes of each
  moves_alike : {X V : Type 0} (take : Tree → List X) (id : ℕ) → ((item : FieldItem) → IsFree table item → with_text item.text (given_to take id item) ≡ []) → (Alike : X → X → Type 0) → ((x : X) → Alike x x)
      → ((n : ℕ) (tree other : Tree) → Inside n tree other → AllZip Alike (of_id take id (pos n) tree) (of_id take id (pos n) other)) → (Means : X → V → Type 0) → ((x y : X) → Alike x y → (v : V) → Means x v → Means y v)
      → (IsAbsent : V → Type 0) (fields others : Fields) → FieldsPadded table Inside fields others → Moves take id Means IsAbsent fields others
  moves_alike take id passes Alike self inner Means moves IsAbsent fields others padded v h =
      singular_moves Alike Means moves IsAbsent (values_of take id fields) (values_of take id others)
      (held_alike take id (λ item free. bare_none item.text (given_to take id item) (passes item free)) Alike self inner fields others padded) v h

-- ---- lists of structs

each_turned : (Padded : Fields → Fields → Type 0) → ((f g : Fields) → Padded f g → Padded g f) → (trees others : Trees) → EachPadded Padded trees others → EachPadded Padded others trees
each_turned Padded turned _ _ no_structs = no_structs
each_turned Padded turned _ _ (struct_then this other more others is each) = struct_then other this others more (turned this other is) (each_turned Padded turned more others each)

module _ {X : Type 0} (Is : X → Fields → Type 0) (Padded : Fields → Fields → Type 0) (means : (f g : Fields) → Padded f g → (x : X) → Is x f → Is x g) where
  structs_move : (trees others : Trees) → EachPadded Padded trees others → (xs : List X) → EachStruct Is trees xs → EachStruct Is others xs
  unfolding EachStruct
  structs_move _ _ no_structs xs h = h
  structs_move _ _ (struct_then this other more others is each) [] h = h
  structs_move _ _ (struct_then this other more others is each) (x ∷ xs) h = (means this other is x h.0, structs_move more others each xs h.1)

  lists_move : (trees others : Trees) → ListAlike Padded trees others → (xs : List X) → EachStruct Is trees xs → EachStruct Is others xs
  lists_move trees others (inl same) xs h = subst (λ (t : Trees). EachStruct Is t xs) same h
  lists_move trees others (inr each) xs h = structs_move trees others each xs h

-- ---- what may differ inside a field is a list or a struct

pub data Containers : Tree → Tree → Type 0 where
  two_lists : (trees others : Trees) → Containers (list_of trees) (list_of others)
  two_structs : (this other : Fields) → Containers (structure this) (structure other)

pub nothing_shape : (n : ℕ) (tree other : Tree) → NothingInside n tree other → Containers tree other
nothing_shape n tree other is = absurd is

pub tagged_shape : (n : ℕ) (tree other : Tree) → InTagged n tree other → Containers tree other
tagged_shape _ _ _ (its_tags trees others each) = two_lists trees others

pub span_shape : (n : ℕ) (tree other : Tree) → InSpan n tree other → Containers tree other
span_shape _ _ _ (references trees others each) = two_lists trees others
span_shape _ _ _ (tags trees others each) = two_lists trees others
span_shape _ _ _ (logs trees others each) = two_lists trees others

pub batch_shape : (n : ℕ) (tree other : Tree) → InBatch n tree other → Containers tree other
batch_shape _ _ _ (process this other is) = two_structs this other
batch_shape _ _ _ (spans trees others each) = two_lists trees others
batch_shape _ _ _ (stats this other) = two_structs this other

quiet_by : {X : Type 0} (take : Tree → List X) → ((a b : Trees) → take (list_of a) ≡ take (list_of b)) → ((a b : Fields) → take (structure a) ≡ take (structure b)) → (id n : ℕ) (tree other : Tree) → Containers tree other
    → of_id take id (pos n) tree ≡ of_id take id (pos n) other
quiet_by {X} take lists structs id n _ _ (two_lists trees others) = ap (λ (l : List X). if n == id then l else []) (lists trees others)
quiet_by {X} take lists structs id n _ _ (two_structs this other) = ap (λ (l : List X). if n == id then l else []) (structs this other)

module _ (Inside : ℕ → Tree → Tree → Type 0) (shape : (n : ℕ) (tree other : Tree) → Inside n tree other → Containers tree other) (id n : ℕ) (tree other : Tree) (is : Inside n tree other) where
  pub binary_quiet : of_id binary_in id (pos n) tree ≡ of_id binary_in id (pos n) other
  binary_quiet = quiet_by binary_in (λ a b. refl) (λ a b. refl) id n tree other (shape n tree other is)

  pub int_quiet : of_id i32_in id (pos n) tree ≡ of_id i32_in id (pos n) other
  int_quiet = quiet_by i32_in (λ a b. refl) (λ a b. refl) id n tree other (shape n tree other is)

  pub long_quiet : of_id i64_in id (pos n) tree ≡ of_id i64_in id (pos n) other
  long_quiet = quiet_by i64_in (λ a b. refl) (λ a b. refl) id n tree other (shape n tree other is)

  pub truth_quiet : of_id truth_in id (pos n) tree ≡ of_id truth_in id (pos n) other
  truth_quiet = quiet_by truth_in (λ a b. refl) (λ a b. refl) id n tree other (shape n tree other is)

  pub eight_quiet : of_id double_in id (pos n) tree ≡ of_id double_in id (pos n) other
  eight_quiet = quiet_by double_in (λ a b. refl) (λ a b. refl) id n tree other (shape n tree other is)

-- ---- what rows of structs hold

pub in_tagged : (n : ℕ) (tree other : Tree) → InTagged n tree other → AllZip (ListAlike TagPadded) (of_id list_in 2 (pos n) tree) (of_id list_in 2 (pos n) other)
in_tagged _ _ _ (its_tags trees others each) = (inr each, tt)

pub in_references : (n : ℕ) (tree other : Tree) → InSpan n tree other → AllZip (ListAlike ReferencePadded) (of_id list_in 6 (pos n) tree) (of_id list_in 6 (pos n) other)
in_references _ _ _ (references trees others each) = (inr each, tt)
in_references _ _ _ (tags trees others each) = tt
in_references _ _ _ (logs trees others each) = tt

pub in_tags : (n : ℕ) (tree other : Tree) → InSpan n tree other → AllZip (ListAlike TagPadded) (of_id list_in 10 (pos n) tree) (of_id list_in 10 (pos n) other)
in_tags _ _ _ (references trees others each) = tt
in_tags _ _ _ (tags trees others each) = (inr each, tt)
in_tags _ _ _ (logs trees others each) = tt

pub in_logs : (n : ℕ) (tree other : Tree) → InSpan n tree other → AllZip (ListAlike LogPadded) (of_id list_in 11 (pos n) tree) (of_id list_in 11 (pos n) other)
in_logs _ _ _ (references trees others each) = tt
in_logs _ _ _ (tags trees others each) = tt
in_logs _ _ _ (logs trees others each) = (inr each, tt)

pub in_process : (n : ℕ) (tree other : Tree) → InBatch n tree other → AllZip ProcessPadded (of_id struct_in 1 (pos n) tree) (of_id struct_in 1 (pos n) other)
in_process _ _ _ (process this other is) = (is, tt)
in_process _ _ _ (spans trees others each) = tt
in_process _ _ _ (stats this other) = tt

pub in_spans : (n : ℕ) (tree other : Tree) → InBatch n tree other → AllZip (ListAlike JSpanPadded) (of_id list_in 2 (pos n) tree) (of_id list_in 2 (pos n) other)
in_spans _ _ _ (process this other is) = tt
in_spans _ _ _ (spans trees others each) = (inr each, tt)
in_spans _ _ _ (stats this other) = tt

-- of the stats nothing is said
abbrev pub AnyTwo : Fields → Fields → Type 0
AnyTwo this other = Unit {0}

pub in_stats : (n : ℕ) (tree other : Tree) → InBatch n tree other → AllZip AnyTwo (of_id struct_in 4 (pos n) tree) (of_id struct_in 4 (pos n) other)
in_stats _ _ _ (process this other is) = tt
in_stats _ _ _ (spans trees others each) = tt
in_stats _ _ _ (stats this other) = (tt, tt)

-- ---- the structs of jaeger.thrift

-- the tables by which fields are free
abbrev pub own_log : List (Row FieldItem)
own_log = log_table no_protocol outer_levels

abbrev pub own_process : List (Row FieldItem)
own_process = process_table no_protocol outer_levels

abbrev pub own_span : List (Row FieldItem)
own_span = jspan_table no_protocol outer_levels

abbrev pub own_batch : List (Row FieldItem)
own_batch = batch_table no_protocol outer_levels

tag_turned : (f g : Fields) → TagPadded f g → TagPadded g f
tag_turned f g padded = fields_turned tag_table NothingInside (λ n tree other is. is) f g padded

reference_turned : (f g : Fields) → ReferencePadded f g → ReferencePadded g f
reference_turned f g padded = fields_turned reference_table NothingInside (λ n tree other is. is) f g padded

in_tagged_turned : (n : ℕ) (tree other : Tree) → InTagged n tree other → InTagged n other tree
in_tagged_turned _ _ _ (its_tags trees others each) = its_tags others trees (each_turned TagPadded tag_turned trees others each)

log_turned : (f g : Fields) → LogPadded f g → LogPadded g f
log_turned f g padded = fields_turned own_log InTagged in_tagged_turned f g padded

process_turned : (f g : Fields) → ProcessPadded f g → ProcessPadded g f
process_turned f g padded = fields_turned own_process InTagged in_tagged_turned f g padded

in_span_turned : (n : ℕ) (tree other : Tree) → InSpan n tree other → InSpan n other tree
in_span_turned _ _ _ (references trees others each) = references others trees (each_turned ReferencePadded reference_turned trees others each)
in_span_turned _ _ _ (tags trees others each) = tags others trees (each_turned TagPadded tag_turned trees others each)
in_span_turned _ _ _ (logs trees others each) = logs others trees (each_turned LogPadded log_turned trees others each)

span_turned : (f g : Fields) → JSpanPadded f g → JSpanPadded g f
span_turned f g padded = fields_turned own_span InSpan in_span_turned f g padded

in_batch_turned : (n : ℕ) (tree other : Tree) → InBatch n tree other → InBatch n other tree
in_batch_turned _ _ _ (process this other is) = process other this (process_turned this other is)
in_batch_turned _ _ _ (spans trees others each) = spans others trees (each_turned JSpanPadded span_turned trees others each)
in_batch_turned _ _ _ (stats this other) = stats other this

batch_turned : (f g : Fields) → FieldsPadded own_batch InBatch f g → FieldsPadded own_batch InBatch g f
batch_turned f g padded = fields_turned own_batch InBatch in_batch_turned f g padded

-- ---- what they mean

tag_means : (f g : Fields) → TagPadded f g → (tag : Tag) → IsTag tag f → IsTag tag g
tag_means f g padded tag is =
    tag_moved f g tag
    (same_held tag_table NothingInside binary_in 1 (λ item free. free.0) (binary_quiet NothingInside nothing_shape 1) f g padded)
    (same_held tag_table NothingInside i32_in 2 (λ item free. free.1.0) (int_quiet NothingInside nothing_shape 2) f g padded)
    (same_held tag_table NothingInside binary_in 3 (λ item free. free.1.1.0) (binary_quiet NothingInside nothing_shape 3) f g padded)
    (same_held tag_table NothingInside double_in 4 (λ item free. free.1.1.1.0) (eight_quiet NothingInside nothing_shape 4) f g padded)
    (same_held tag_table NothingInside truth_in 5 (λ item free. free.1.1.1.1.0) (truth_quiet NothingInside nothing_shape 5) f g padded)
    (same_held tag_table NothingInside i64_in 6 (λ item free. free.1.1.1.1.1.0) (long_quiet NothingInside nothing_shape 6) f g padded)
    (same_held tag_table NothingInside binary_in 7 (λ item free. free.1.1.1.1.1.1.0) (binary_quiet NothingInside nothing_shape 7) f g padded)
    is

reference_means : (f g : Fields) → ReferencePadded f g → (reference : Option SpanRef) → IsSpanRef reference f → IsSpanRef reference g
reference_means f g padded reference is =
    reference_moved f g reference
    (same_held reference_table NothingInside i32_in 1 (λ item free. free.0) (int_quiet NothingInside nothing_shape 1) f g padded)
    (same_held reference_table NothingInside i64_in 2 (λ item free. free.1.0) (long_quiet NothingInside nothing_shape 2) f g padded)
    (same_held reference_table NothingInside i64_in 3 (λ item free. free.1.1.0) (long_quiet NothingInside nothing_shape 3) f g padded)
    (same_held reference_table NothingInside i64_in 4 (λ item free. free.1.1.1.0) (long_quiet NothingInside nothing_shape 4) f g padded)
    is

log_means : (f g : Fields) → LogPadded f g → (log : Log) → IsLog log f → IsLog log g
log_means f g padded log is =
    log_moved f g log
    (same_held own_log InTagged i64_in 1 (λ item free. free.0) (long_quiet InTagged tagged_shape 1) f g padded)
    (moves_alike own_log InTagged list_in 2 (λ item free. free.1.0) (ListAlike TagPadded) (λ l. inl refl) in_tagged MeansTags (lists_move IsTag TagPadded tag_means) required f g padded)
    is

process_means : (f g : Fields) → ProcessPadded f g → (its : Process) → IsProcess its f → IsProcess its g
process_means f g padded its is =
    process_moved f g its
    (same_held own_process InTagged binary_in 1 (λ item free. free.0) (binary_quiet InTagged tagged_shape 1) f g padded)
    (moves_alike own_process InTagged list_in 2 (λ item free. free.1.0) (ListAlike TagPadded) (λ l. inl refl) in_tagged MeansTags (lists_move IsTag TagPadded tag_means) (or_else []) f g padded)
    is

span_means : (f g : Fields) → JSpanPadded f g → (span : JSpan) → IsJSpan span f → IsJSpan span g
span_means f g padded span is =
    span_moved f g span
    (record {
      low = same_held own_span InSpan i64_in 1 (λ item free. free.0) (long_quiet InSpan span_shape 1) f g padded;
      high = same_held own_span InSpan i64_in 2 (λ item free. free.1.0) (long_quiet InSpan span_shape 2) f g padded;
      id = same_held own_span InSpan i64_in 3 (λ item free. free.1.1.0) (long_quiet InSpan span_shape 3) f g padded;
      parent = same_held own_span InSpan i64_in 4 (λ item free. free.1.1.1.0) (long_quiet InSpan span_shape 4) f g padded;
      name = same_held own_span InSpan binary_in 5 (λ item free. free.1.1.1.1.0) (binary_quiet InSpan span_shape 5) f g padded;
      references = moves_alike own_span InSpan list_in 6 (λ item free. free.1.1.1.1.1.0) (ListAlike ReferencePadded) (λ l. inl refl) in_references MeansReferences (lists_move IsSpanRef ReferencePadded reference_means) or_empty f g padded;
      flags = same_held own_span InSpan i32_in 7 (λ item free. free.1.1.1.1.1.1.0) (int_quiet InSpan span_shape 7) f g padded;
      start = same_held own_span InSpan i64_in 8 (λ item free. free.1.1.1.1.1.1.1.0) (long_quiet InSpan span_shape 8) f g padded;
      duration = same_held own_span InSpan i64_in 9 (λ item free. free.1.1.1.1.1.1.1.1.0) (long_quiet InSpan span_shape 9) f g padded;
      tags = moves_alike own_span InSpan list_in 10 (λ item free. free.1.1.1.1.1.1.1.1.1.0) (ListAlike TagPadded) (λ l. inl refl) in_tags MeansTags (lists_move IsTag TagPadded tag_means) or_empty f g padded;
      logs = moves_alike own_span InSpan list_in 11 (λ item free. free.1.1.1.1.1.1.1.1.1.1.0) (ListAlike LogPadded) (λ l. inl refl) in_logs MeansLogs (lists_move IsLog LogPadded log_means) or_empty f g padded;
    })
    is

batch_means : (f g : Fields) → FieldsPadded own_batch InBatch f g → (batch : Batch) → IsBatch batch f → IsBatch batch g
batch_means f g padded batch is =
    batch_moved f g batch
    (moves_alike own_batch InBatch struct_in 1 (λ item free. free.0) ProcessPadded (fields_self own_process InTagged) in_process MeansProcess process_means required f g padded)
    (moves_alike own_batch InBatch list_in 2 (λ item free. free.1.0) (ListAlike JSpanPadded) (λ l. inl refl) in_spans MeansSpans (lists_move IsJSpan JSpanPadded span_means) required f g padded)
    (same_held own_batch InBatch i64_in 3 (λ item free. free.1.1.0) (long_quiet InBatch batch_shape 3) f g padded)
    (λ few. omega (arith, few, AllZip-long AnyTwo (values_of struct_in 4 f) (values_of struct_in 4 g) (held_alike own_batch InBatch struct_in 4 (λ item free. free.1.1.1.0) AnyTwo (λ x. tt) in_stats f g padded)))
    is

-- ---- both ways

pub tag_same : (f g : Fields) → TagPadded f g → (x : Tag) → IsTag x f ↔ IsTag x g
tag_same f g padded x = (tag_means f g padded x, tag_means g f (tag_turned f g padded) x)

pub reference_same : (f g : Fields) → ReferencePadded f g → (x : Option SpanRef) → IsSpanRef x f ↔ IsSpanRef x g
reference_same f g padded x = (reference_means f g padded x, reference_means g f (reference_turned f g padded) x)

pub log_same : (f g : Fields) → LogPadded f g → (x : Log) → IsLog x f ↔ IsLog x g
log_same f g padded x = (log_means f g padded x, log_means g f (log_turned f g padded) x)

pub process_same : (f g : Fields) → ProcessPadded f g → (x : Process) → IsProcess x f ↔ IsProcess x g
process_same f g padded x = (process_means f g padded x, process_means g f (process_turned f g padded) x)

pub span_same : (f g : Fields) → JSpanPadded f g → (x : JSpan) → IsJSpan x f ↔ IsJSpan x g
span_same f g padded x = (span_means f g padded x, span_means g f (span_turned f g padded) x)

pub batch_same : (f g : Fields) → FieldsPadded own_batch InBatch f g → (x : Batch) → IsBatch x f ↔ IsBatch x g
batch_same f g padded x = (batch_means f g padded x, batch_means g f (batch_turned f g padded) x)
