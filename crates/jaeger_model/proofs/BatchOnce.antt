-- Fields are those of one batch at most, and so of each kind of struct in it.
use Rattle.std.proofs.Common.{◌≡◌, ◌∷◌, ℕ, ◌+◌, zero, suc, ℤ, pos, Bool, true, false, Option, Some, None, List, [], is_none, inl, inr, refl, sym, ap, subst, ◌∙◌, arith}
use Rattle.std.specs.List.{flat_map, count_by}
use Rattle.span_ids.specs.Times.{nanos}
use Rattle.span_io.proofs.RowLaws.{singular_once}
use Rattle.span_io.specs.Tables.{Singular, MeansText}
use Rattle.thrift_core.specs.FieldValues.{values_of, truth_in, i32_in, i64_in, double_in, binary_in, struct_in, list_in, IsStructOf, EachStruct}
use Rattle.thrift_core.specs.Trees.{Tree, leaf, binary, structure, map_of, set_of, list_of, Fields, Trees, no_trees, tree_then}
use Rattle.jaeger_model.specs.Batch.{MeansSpans, IsBatch}
use Rattle.jaeger_model.specs.declared.batch.Batch.{Batch}
use Rattle.jaeger_model.specs.declared.process.Process.{Process}
use Rattle.jaeger_model.specs.declared.span.JSpan.{JSpan}
use Rattle.jaeger_model.specs.declared.span.Log.{Log}
use Rattle.jaeger_model.specs.declared.span.SpanRef.{SpanRef}
use Rattle.jaeger_model.specs.declared.tag.Tag.{Tag}
use Rattle.jaeger_model.specs.declared.tag.TagValue.{TagValue}
use Rattle.jaeger_model.specs.declared.tag.TagValue.TheVariants as values
use Rattle.jaeger_model.specs.Identifiers.{span_id_of, trace_id_of}
use Rattle.jaeger_model.specs.Log.{MeansTags, IsLog}
use Rattle.jaeger_model.specs.Meanings.{Required, Means, MeansTime, MeansEnum}
use Rattle.jaeger_model.specs.Process.{IsProcess, MeansProcess}
use Rattle.jaeger_model.specs.Reference.{reference_number, IsPointed, IsSpanRef}
use Rattle.jaeger_model.specs.Span.{kept_reference, MeansReferences, MeansLogs, IsJSpan}
use Rattle.jaeger_model.specs.Tag.{type_of, no_double, HeldByTag, IsNamed, IsTag}

-- ---- what a field means

required_once : {A B : Type 0} (M : A → B → Type 0) → ((held : A) (x y : B) → M held x → M held y → x ≡ y) → (xs : List A) (x y : B) → Required M xs x → Required M xs y → x ≡ y
required_once M one [] x y h k = absurd h
required_once M one (held ∷ []) x y h k = one held x y h k
required_once M one (held ∷ other ∷ more) x y h k = absurd h

same_held : {A : Type 0} (xs : List A) (x y : A) → Required Means xs x → Required Means xs y → x ≡ y
same_held xs x y h k = required_once Means (λ held a b e f. e ∙ sym f) xs x y h k

same_or : {A : Type 0} (absent : A) (xs : List A) (x y : A) → Singular Means (λ z. z ≡ absent) xs x → Singular Means (λ z. z ≡ absent) xs y → x ≡ y
same_or absent xs x y h k = singular_once Means absent (λ held a b e f. e ∙ sym f) xs x y h k

same_text : (xs : List (List ℕ)) (x y : List ℕ) → Required MeansText xs x → Required MeansText xs y → x ≡ y
same_text xs x y h k = required_once MeansText (λ held a b e f. e.1 ∙ sym f.1) xs x y h k

same_time : (xs : List ℤ) (x y : ℕ) → Required MeansTime xs x → Required MeansTime xs y → x ≡ y
same_time xs x y h k = required_once MeansTime one xs x y h k
  where
    one : (held : ℤ) (a b : ℕ) → MeansTime held a → MeansTime held b → a ≡ b
    one held a b m n = let same : pos m.0 ≡ pos n.0 = sym m.1 ∙ n.1 in let micros : m.0 ≡ n.0 = cc in m.3 ∙ (ap nanos micros ∙ sym n.3)

same_number : (xs : List ℤ) (x y : ℕ) → Required (λ n k. n ≡ pos k) xs x → Required (λ n k. n ≡ pos k) xs y → x ≡ y
same_number xs x y h k = required_once (λ n i. n ≡ pos i) (λ held a b e f. let same : pos a ≡ pos b = sym e ∙ f in cc) xs x y h k

-- ---- lists of structs

module _ {X : Type 0} (Is : X → Fields → Type 0) (one : (fields : Fields) (x y : X) → Is x fields → Is y fields → x ≡ y) where
  struct_once : (tree : Tree) (x y : X) → IsStructOf (λ inner. Is x inner) tree → IsStructOf (λ inner. Is y inner) tree → x ≡ y
  struct_once (leaf l) x y h k = absurd h
  struct_once (binary l) x y h k = absurd h
  struct_once (structure inner) x y h k = one inner x y h k
  struct_once (map_of l) x y h k = absurd h
  struct_once (set_of l) x y h k = absurd h
  struct_once (list_of l) x y h k = absurd h

  each_once : (trees : Trees) (xs ys : List X) → EachStruct Is trees xs → EachStruct Is trees ys → xs ≡ ys
  unfolding EachStruct
  each_once no_trees [] [] h k = refl
  each_once no_trees [] (y ∷ ys) h k = absurd k
  each_once no_trees (x ∷ xs) ys h k = absurd h
  each_once (tree_then tree more) [] ys h k = absurd h
  each_once (tree_then tree more) (x ∷ xs) [] h k = absurd k
  each_once (tree_then tree more) (x ∷ xs) (y ∷ ys) h k =
      let first = struct_once tree x y h.0 k.0 in
      let others = each_once more xs ys h.1 k.1 in
      λ i. first i ∷ others i

-- ---- tags

-- the value of a type, by what is held
value_of : ℕ → HeldByTag → TagValue
value_of zero held = values.Text held.text
value_of (suc zero) held = values.Eight held.double
value_of (suc (suc zero)) held = values.Truth held.truth
value_of (suc (suc (suc zero))) held = values.Number held.number
value_of (suc (suc (suc (suc n)))) held = values.Bytes held.bytes

is_value_of : (value : TagValue) (held : HeldByTag) → IsNamed value held → value ≡ value_of (type_of value) held
unfolding value_of
is_value_of (values.Text text) held is = ap values.Text is
is_value_of (values.Eight bytes) held is = ap values.Eight is
is_value_of (values.Truth truth) held is = ap values.Truth is
is_value_of (values.Number number) held is = ap values.Number is
is_value_of (values.Bytes bytes) held is = ap values.Bytes is

tag_once : (fields : Fields) (a b : Tag) → IsTag a fields → IsTag b fields → a ≡ b
tag_once fields a b h k =
    let key = same_text (values_of binary_in 1 fields) a.key b.key h.key k.key in
    let kind = same_number (values_of i32_in 2 fields) (type_of a.value) (type_of b.value) h.kind k.kind in
    let text = singular_once MeansText [] (λ held x y e f. e.1 ∙ sym f.1) (values_of binary_in 3 fields) h.held.text k.held.text h.text k.text in
    let double = same_or no_double (values_of double_in 4 fields) h.held.double k.held.double h.double k.double in
    let truth = same_or false (values_of truth_in 5 fields) h.held.truth k.held.truth h.truth k.truth in
    let number = same_or (pos 0) (values_of i64_in 6 fields) h.held.number k.held.number h.number k.number in
    let bytes = same_or [] (values_of binary_in 7 fields) h.held.bytes k.held.bytes h.bytes k.bytes in
    let held : h.held ≡ k.held = λ i. record { text = text i; double = double i; truth = truth i; number = number i; bytes = bytes i } in
    let value = is_value_of a.value h.held h.value ∙ ((λ i. value_of (kind i) (held i)) ∙ sym (is_value_of b.value k.held k.value)) in
    λ i. record { key = key i; value = value i }

tags_once : (trees : Trees) (xs ys : List Tag) → MeansTags trees xs → MeansTags trees ys → xs ≡ ys
tags_once trees xs ys h k = each_once IsTag tag_once trees xs ys h k

-- ---- references

pointed_once : (a b : Option SpanRef) (c : Bool) (trace span : Option ℕ) → IsPointed a c trace span → IsPointed b c trace span → a ≡ b
pointed_once None None c trace span h k = refl
pointed_once None (Some b) c trace span (inl none) k = let never : None ≡ Some b.trace = sym none ∙ k.1 in absurd (cc)
pointed_once None (Some b) c trace span (inr none) k = let never : None ≡ Some b.span = sym none ∙ k.2 in absurd (cc)
pointed_once (Some a) None c trace span h (inl none) = let never : None ≡ Some a.trace = sym none ∙ h.1 in absurd (cc)
pointed_once (Some a) None c trace span h (inr none) = let never : None ≡ Some a.span = sym none ∙ h.2 in absurd (cc)
pointed_once (Some a) (Some b) c trace span h k =
    let traces : Some a.trace ≡ Some b.trace = sym h.1 ∙ k.1 in
    let spans : Some a.span ≡ Some b.span = sym h.2 ∙ k.2 in
    let its_trace : a.trace ≡ b.trace = cc in
    let its_span : a.span ≡ b.span = cc in
    let child = h.0 ∙ sym k.0 in
    λ i. Some (record { child_of = child i; trace = its_trace i; span = its_span i })

child_once : (xs : List ℤ) (x y : Bool) → Required (MeansEnum reference_number) xs x → Required (MeansEnum reference_number) xs y → x ≡ y
child_once xs x y h k = required_once (MeansEnum reference_number) (λ held a b e f. let same : pos (reference_number a) ≡ pos (reference_number b) = sym e ∙ f in one a b (cc)) xs x y h k
  where
    one : (a b : Bool) → reference_number a ≡ reference_number b → a ≡ b
    one true true e = refl
    one true false e = absurd (omega (arith, e))
    one false true e = absurd (omega (arith, e))
    one false false e = refl

reference_once : (fields : Fields) (a b : Option SpanRef) → IsSpanRef a fields → IsSpanRef b fields → a ≡ b
reference_once fields a b h k =
    let child = child_once (values_of i32_in 1 fields) h.child_of k.child_of h.kind k.kind in
    let low = same_held (values_of i64_in 2 fields) h.low k.low h.its_low k.its_low in
    let high = same_held (values_of i64_in 3 fields) h.high k.high h.its_high k.its_high in
    let span = same_held (values_of i64_in 4 fields) h.span k.span h.its_span k.its_span in
    let trace_same : trace_id_of k.high k.low ≡ trace_id_of h.high h.low = λ i. trace_id_of (sym high i) (sym low i) in
    let moved = subst (λ c. IsPointed b c (trace_id_of k.high k.low) (span_id_of k.span)) (sym child) k.pointed in
    let traced = subst (λ (t : Option ℕ). IsPointed b h.child_of t (span_id_of k.span)) trace_same moved in
    pointed_once a b h.child_of (trace_id_of h.high h.low) (span_id_of h.span) h.pointed (subst (λ (s : Option ℕ). IsPointed b h.child_of (trace_id_of h.high h.low) s) (ap span_id_of (sym span)) traced)

-- ---- logs, processes, spans and batches

log_once : (fields : Fields) (a b : Log) → IsLog a fields → IsLog b fields → a ≡ b
log_once fields a b h k =
    let time = same_time (values_of i64_in 1 fields) a.time b.time h.time k.time in
    let tags = required_once MeansTags tags_once (values_of list_in 2 fields) a.fields b.fields h.tags k.tags in
    λ i. record { time = time i; fields = tags i }

process_once : (fields : Fields) (a b : Process) → IsProcess a fields → IsProcess b fields → a ≡ b
process_once fields a b h k =
    let service = same_text (values_of binary_in 1 fields) a.service b.service h.service k.service in
    let tags = singular_once MeansTags [] tags_once (values_of list_in 2 fields) a.tags b.tags h.tags k.tags in
    λ i. record { service = service i; tags = tags i }

span_once : (fields : Fields) (a b : JSpan) → IsJSpan a fields → IsJSpan b fields → a ≡ b
span_once fields a b h k =
    let low = same_held (values_of i64_in 1 fields) h.trace.low k.trace.low h.trace.its_low k.trace.its_low in
    let high = same_held (values_of i64_in 2 fields) h.trace.high k.trace.high h.trace.its_high k.trace.its_high in
    let traces : Some a.trace ≡ Some b.trace = sym h.trace.joined ∙ ((λ i. trace_id_of (high i) (low i)) ∙ k.trace.joined) in
    let trace : a.trace ≡ b.trace = cc in
    let id = required_once (λ n i. span_id_of n ≡ Some i) (λ held x y e f. let same : Some x ≡ Some y = sym e ∙ f in cc) (values_of i64_in 3 fields) a.id b.id h.id k.id in
    let parent = required_once (λ n p. span_id_of n ≡ p) (λ held x y e f. sym e ∙ f) (values_of i64_in 4 fields) a.parent b.parent h.parent k.parent in
    let name = same_text (values_of binary_in 5 fields) a.name b.name h.name k.name in
    let all = singular_once MeansReferences [] (λ trees xs ys e f. each_once IsSpanRef reference_once trees xs ys e f) (values_of list_in 6 fields) h.references.all k.references.all h.references.given k.references.given in
    let kept = h.references.kept ∙ (ap (λ (l : List (Option SpanRef)). flat_map kept_reference l) all ∙ sym k.references.kept) in
    let others = h.references.others ∙ (ap (λ (l : List (Option SpanRef)). count_by (λ r. is_none r) l) all ∙ sym k.references.others) in
    let flags = same_held (values_of i32_in 7 fields) a.flags b.flags h.flags k.flags in
    let start = same_time (values_of i64_in 8 fields) a.start b.start h.times.its_start k.times.its_start in
    let duration = same_time (values_of i64_in 9 fields) h.times.duration k.times.duration h.times.its_duration k.times.its_duration in
    let end = h.times.sum ∙ ((λ i. start i + duration i) ∙ sym k.times.sum) in
    let tags = singular_once MeansTags [] tags_once (values_of list_in 10 fields) a.tags b.tags h.tags k.tags in
    let logs = singular_once MeansLogs [] (λ trees xs ys e f. each_once IsLog log_once trees xs ys e f) (values_of list_in 11 fields) a.logs b.logs h.logs k.logs in
    λ i. record {
      trace = trace i;
      id = id i;
      parent = parent i;
      name = name i;
      references = kept i;
      invalid_refs = others i;
      flags = flags i;
      start = start i;
      end = end i;
      tags = tags i;
      logs = logs i;
    }

pub batch_once : (fields : Fields) (a b : Batch) → IsBatch a fields → IsBatch b fields → a ≡ b
batch_once fields a b h k =
    let process = required_once MeansProcess process_once (values_of struct_in 1 fields) (record { service = a.service; tags = a.tags }) (record { service = b.service; tags = b.tags }) h.process k.process in
    let spans = required_once MeansSpans (λ trees xs ys e f. each_once IsJSpan span_once trees xs ys e f) (values_of list_in 2 fields) a.spans b.spans h.spans k.spans in
    λ i. record { service = (process i).service; tags = (process i).tags; spans = spans i }
