-- What is read of bytes is proper: texts are UTF-8, numbers have the bits of their types, and no identifier is zero.
use Rattle.std.proofs.Common.{◌≡◌, ℕ, ◌+◌, ◌*◌, ◌<◌, ◌^◌, zero, suc, ℤ, pos, Bool, true, false, cond, List, [], ◌∷◌, ◌++◌, length, All, Option, Some, None, is_some, unwrap_or, refl, sym, ap, subst, true≢false, arith}
use Rattle.std.specs.Prelude.{IsUtf8, FitsSigned, ⊤}
use Rattle.std.specs.Int.{w32, w64, cast_unsigned}
use Rattle.std.specs.List.{flat_map}
use Rattle.std.proofs.lemmas.Int.{fits_signed_from_abs}
use Rattle.std.proofs.lemmas.List.Elements.{All-nil, All-cons, All-head, All-tail, All-append, All-map}
use Rattle.std.proofs.lemmas.Str.{IsUtf8-nil}
use Rattle.span_io.specs.Frames.{AreBytes}
use Rattle.span_io.specs.Tables.{Singular, MeansText}
use Rattle.thrift_core.specs.FieldValues.{i32_in, i64_in, double_in, binary_in, struct_in, list_in, IsStructOf, has_id, of_id, values_of, EachStruct}
use Rattle.thrift_core.specs.Parts.{Part, header, truth, byte, short, int, long, eight, size, list_head, map_head, WordOf, Spelling, Begins}
use Rattle.thrift_core.specs.Protocols.{IsProperLong, SpellsProper}
use Rattle.thrift_core.specs.Trees.{Leaf, truth_value, i8, i16, i32, i64, double, Tree, leaf, binary, structure, map_of, set_of, list_of, Fields, no_fields, field_then, Trees, no_trees, tree_then, Pairs, no_pairs, pair_then, LeafThen, ValueThen, FieldsThen, ElementsThen, PairsThen, outer_levels}
use Rattle.thrift_core.specs.declared.type_code.TypeCode.{TypeCode}
use Rattle.jaeger_model.specs.Batch.{IsBatch, IsBatchText}
use Rattle.jaeger_model.specs.Identifiers.{some_id, span_id_of, trace_id_of}
use Rattle.jaeger_model.specs.Log.{IsLog}
use Rattle.jaeger_model.specs.Meanings.{Required, Means, MeansTime}
use Rattle.jaeger_model.specs.Process.{IsProcess, MeansProcess}
use Rattle.span_ids.specs.Proper.{IsProperTraceId, IsProperSpanId, IsProperParent}
use Rattle.jaeger_model.specs.Proper.{IsProperTagValue, IsProperTag, IsProperLog, IsProperReference, IsProperJSpan, IsProperBatch}
use Rattle.jaeger_model.specs.Reference.{IsSpanRef}
use Rattle.jaeger_model.specs.Span.{IsJSpan, kept_reference}
use Rattle.jaeger_model.specs.Tag.{IsTag, IsNamed, no_double}
use Rattle.jaeger_model.specs.WrittenAgain.{all_kept, all_counted}
use Rattle.jaeger_model.specs.declared.batch.Batch.{Batch}
use Rattle.jaeger_model.specs.declared.process.Process.{Process}
use Rattle.jaeger_model.specs.declared.span.JSpan.{JSpan}
use Rattle.jaeger_model.specs.declared.span.Log.{Log}
use Rattle.jaeger_model.specs.declared.span.SpanRef.{SpanRef}
use Rattle.jaeger_model.specs.declared.tag.Tag.{Tag}
use Rattle.jaeger_model.specs.declared.tag.TagValue.{TagValue}
use Rattle.jaeger_model.specs.declared.tag.TagValue.TheVariants as values

-- ---- trees of bytes

abbrev IsProperDouble : List ℕ → Type 0
IsProperDouble bytes = (length bytes ≡ 8) × AreBytes bytes

abbrev IsInt : ℤ → Type 0
IsInt n = FitsSigned w32 n

abbrev IsProperLeaf : Leaf → Type 0
IsProperLeaf (i32 n) = IsInt n
IsProperLeaf (i64 n) = IsProperLong n
IsProperLeaf (double bytes) = IsProperDouble bytes
IsProperLeaf other = ⊤

abbrev mutual
  IsProperTree : Tree → Type 0
  IsProperTree (leaf held) = IsProperLeaf held
  IsProperTree (binary bytes) = AreBytes bytes
  IsProperTree (structure inner) = AreProperFields inner
  IsProperTree (list_of trees) = AreProperTrees trees
  IsProperTree (set_of trees) = ⊤
  IsProperTree (map_of pairs) = ⊤

  AreProperFields : Fields → Type 0
  AreProperFields no_fields = ⊤
  AreProperFields (field_then id tree more) = IsProperTree tree × AreProperFields more

  AreProperTrees : Trees → Type 0
  AreProperTrees no_trees = ⊤
  AreProperTrees (tree_then tree more) = IsProperTree tree × AreProperTrees more

both_bytes : (xs ys : List ℕ) → AreBytes (xs ++ ys) → AreBytes xs × AreBytes ys
both_bytes [] ys all = (All-nil (λ b. b < 256), all)
both_bytes (x ∷ xs) ys all =
    let rest = both_bytes xs ys (All-tail (λ b. b < 256) x (xs ++ ys) all) in
    (All-cons (λ b. b < 256) x xs (All-head (λ b. b < 256) x (xs ++ ys) all) rest.0, rest.1)

module _ (Spells : Spelling) (S : SpellsProper Spells) where
  its_bytes : (part : Part) (word : WordOf part) (whole rest : List ℕ) (h : Begins Spells part word whole rest) → AreBytes whole → AreBytes h.text × AreBytes rest
  its_bytes part word whole rest h all = both_bytes h.text rest (subst AreBytes h.parts all)

  after_part : (part : Part) (word : WordOf part) (whole rest : List ℕ) → Begins Spells part word whole rest → AreBytes whole → AreBytes rest
  after_part part word whole rest h all = (its_bytes part word whole rest h all).1

  leaf_read : (held : Leaf) (given : Option Bool) (whole rest : List ℕ) → LeafThen Spells held given whole rest → AreBytes whole → IsProperLeaf held × AreBytes rest
  leaf_read (truth_value b) given whole rest h all = (tt, after_part (truth given) b whole rest h all)
  leaf_read (i8 n) given whole rest h all = (tt, after_part byte n whole rest h all)
  leaf_read (i16 n) given whole rest h all = (tt, after_part short n whole rest h all)
  leaf_read (i32 n) given whole rest h all = let b = its_bytes int n whole rest h all in (S.int n h.text b.0 h.spelled, b.1)
  leaf_read (i64 n) given whole rest h all = let b = its_bytes long n whole rest h all in (S.long n h.text b.0 h.spelled, b.1)
  leaf_read (double bytes) given whole rest h all = let b = its_bytes eight bytes whole rest h all in (S.eight bytes h.text b.0 h.spelled, b.1)

  mutual
    unfolding ValueThen FieldsThen ElementsThen PairsThen

    value_read : (tree : Tree) (left : ℕ) (given : Option Bool) (whole rest : List ℕ) → ValueThen Spells tree left given whole rest → AreBytes whole → IsProperTree tree × AreBytes rest
    value_read (leaf held) left given whole rest h all = leaf_read held given whole rest h all
    value_read (binary bytes) left given whole rest h all = both_bytes bytes rest (subst AreBytes h.2 (after_part size (length bytes) whole h.0 h.1 all))
    value_read (structure inner) zero given whole rest h all = absurd h
    value_read (structure inner) (suc left) given whole rest h all = fields_read inner left (pos 0) whole rest h all
    value_read (map_of pairs) zero given whole rest h all = absurd h
    value_read (map_of pairs) (suc left) given whole rest h all = (tt, pairs_read pairs h.0.key h.0.value left h.1 rest h.4 (after_part (map_head left) h.0 whole h.1 h.2 all))
    value_read (set_of trees) zero given whole rest h all = absurd h
    value_read (set_of trees) (suc left) given whole rest h all = (tt, (elements_read trees h.0.element left h.1 rest h.4 (after_part (list_head left) h.0 whole h.1 h.2 all)).1)
    value_read (list_of trees) zero given whole rest h all = absurd h
    value_read (list_of trees) (suc left) given whole rest h all = elements_read trees h.0.element left h.1 rest h.4 (after_part (list_head left) h.0 whole h.1 h.2 all)

    fields_read : (inner : Fields) (left : ℕ) (last : ℤ) (whole rest : List ℕ) → FieldsThen Spells inner left last whole rest → AreBytes whole → AreProperFields inner × AreBytes rest
    fields_read no_fields left last whole rest h all = (tt, after_part (header left last) None whole rest h all)
    fields_read (field_then id tree more) left last whole rest h all =
        let here = value_read tree left h.0 h.1 h.2 h.4 (after_part (header left last) _ whole h.1 h.3 all) in
        let others = fields_read more left id h.2 rest h.5 here.1 in
        ((here.0, others.0), others.1)

    elements_read : (trees : Trees) (kind : Option TypeCode) (left : ℕ) (whole rest : List ℕ) → ElementsThen Spells trees kind left whole rest → AreBytes whole → AreProperTrees trees × AreBytes rest
    elements_read no_trees kind left whole rest h all = (tt, subst AreBytes h all)
    elements_read (tree_then tree more) kind left whole rest h all =
        let here = value_read tree left None whole h.1 h.2 all in
        let others = elements_read more kind left h.1 rest h.3 here.1 in
        ((here.0, others.0), others.1)

    pairs_read : (pairs : Pairs) (key value : Option TypeCode) (left : ℕ) (whole rest : List ℕ) → PairsThen Spells pairs key value left whole rest → AreBytes whole → AreBytes rest
    pairs_read no_pairs key value left whole rest h all = subst AreBytes h all
    pairs_read (pair_then first second more) key value left whole rest h all =
        let one = value_read first left None whole h.2 h.4 all in
        let two = value_read second left None h.2 h.3 h.5 one.1 in
        pairs_read more key value left h.3 rest h.6 two.1

-- ---- what fields hold

module _ {A : Type 0} (take : Tree → List A) (P : A → Type 0) (each : (tree : Tree) → IsProperTree tree → All P (take tree)) where
  of_field : (id : ℕ) (its : ℤ) (tree : Tree) → IsProperTree tree → All P (of_id take id its tree)
  of_field id its tree proper = by (has_id id its)
    where
      by : (has : Bool) → All P (cond has (take tree) [])
      by true = each tree proper
      by false = All-nil P

  held_by : (id : ℕ) (inner : Fields) → AreProperFields inner → All P (values_of take id inner)
  unfolding values_of
  held_by id no_fields proper = All-nil P
  held_by id (field_then its tree more) proper = All-append P (of_id take id its tree) (values_of take id more) (of_field id its tree proper.0) (held_by id more proper.1)

one : {A : Type 0} (P : A → Type 0) (x : A) → P x → All P (x ∷ [])
one P x h = All-cons P x [] h (All-nil P)

ints : (tree : Tree) → IsProperTree tree → All IsInt (i32_in tree)
ints (leaf (i32 n)) h = one IsInt n h
ints other h = All-nil IsInt

longs : (tree : Tree) → IsProperTree tree → All IsProperLong (i64_in tree)
longs (leaf (i64 n)) h = one IsProperLong n h
longs other h = All-nil IsProperLong

doubles : (tree : Tree) → IsProperTree tree → All IsProperDouble (double_in tree)
doubles (leaf (double bytes)) h = one IsProperDouble bytes h
doubles other h = All-nil IsProperDouble

binaries : (tree : Tree) → IsProperTree tree → All AreBytes (binary_in tree)
binaries (binary bytes) h = one AreBytes bytes h
binaries other h = All-nil AreBytes

structures : (tree : Tree) → IsProperTree tree → All AreProperFields (struct_in tree)
structures (structure inner) h = one AreProperFields inner h
structures other h = All-nil AreProperFields

lists : (tree : Tree) → IsProperTree tree → All AreProperTrees (list_in tree)
lists (list_of trees) h = one AreProperTrees trees h
lists other h = All-nil AreProperTrees

-- what a field that stands at most once means, or its default
singly : {A B : Type 0} (Says : A → B → Type 0) (IsDefault : B → Type 0) (P : A → Type 0) (Q : Type 0) (held : List A) (value : B)
    → ((x : A) → P x → Says x value → Q) → (IsDefault value → Q) → All P held → Singular Says IsDefault held value → Q
singly Says IsDefault P Q [] value from none all h = none h
singly Says IsDefault P Q (x ∷ []) value from none all h = from x (All-head P x [] all) h
singly Says IsDefault P Q (x ∷ other ∷ more) value from none all h = absurd h

-- each struct of a list
module _ {B : Type 0} (Is : B → Fields → Type 0) (Q : B → Type 0) (each : (x : B) (inner : Fields) → AreProperFields inner → Is x inner → Q x) where
  of_tree : (tree : Tree) (x : B) → IsProperTree tree → IsStructOf (λ inner. Is x inner) tree → Q x
  of_tree (structure inner) x proper h = each x inner proper h
  of_tree other x proper h = absurd h

  of_trees : (trees : Trees) (xs : List B) → AreProperTrees trees → EachStruct Is trees xs → All Q xs
  unfolding EachStruct
  of_trees no_trees [] proper h = All-nil Q
  of_trees no_trees (x ∷ xs) proper h = absurd h
  of_trees (tree_then tree more) [] proper h = absurd h
  of_trees (tree_then tree more) (x ∷ xs) proper h = All-cons Q x xs (of_tree tree x proper.0 h.0) (of_trees more xs proper.1 h.1)

  -- in a field that is optional, or isn't
  optional : (id : ℕ) (inner : Fields) (xs : List B) → AreProperFields inner → Singular (λ trees list. EachStruct Is trees list) (λ list. list ≡ []) (values_of list_in id inner) xs → All Q xs
  optional id inner xs proper h =
      singly (λ trees list. EachStruct Is trees list) (λ list. list ≡ []) AreProperTrees (All Q xs) (values_of list_in id inner) xs
      (λ trees its h. of_trees trees xs its h) (λ e. subst (All Q) (sym e) (All-nil Q)) (held_by list_in AreProperTrees lists id inner proper) h

  given : (id : ℕ) (inner : Fields) (xs : List B) → AreProperFields inner → Singular (λ trees list. EachStruct Is trees list) (λ list. ⊥) (values_of list_in id inner) xs → All Q xs
  given id inner xs proper h =
      singly (λ trees list. EachStruct Is trees list) (λ list. ⊥) AreProperTrees (All Q xs) (values_of list_in id inner) xs
      (λ trees its h. of_trees trees xs its h) (λ no. absurd no) (held_by list_in AreProperTrees lists id inner proper) h

-- ---- texts, numbers and times

text_utf8 : (id : ℕ) (inner : Fields) (text : List ℕ) → AreProperFields inner → Required MeansText (values_of binary_in id inner) text → IsUtf8 text
text_utf8 id inner text proper h =
    singly MeansText (λ t. ⊥) AreBytes (IsUtf8 text) (values_of binary_in id inner) text
    (λ held its h. subst IsUtf8 (sym h.1) h.0) (λ no. absurd no) (held_by binary_in AreBytes binaries id inner proper) h

long_proper : (id : ℕ) (inner : Fields) (n : ℤ) → AreProperFields inner → Required Means (values_of i64_in id inner) n → IsProperLong n
long_proper id inner n proper h =
    singly Means (λ t. ⊥) IsProperLong (IsProperLong n) (values_of i64_in id inner) n
    (λ held its h. subst IsProperLong (sym h) its) (λ no. absurd no) (held_by i64_in IsProperLong longs id inner proper) h

int_proper : (id : ℕ) (inner : Fields) (n : ℤ) → AreProperFields inner → Required Means (values_of i32_in id inner) n → IsInt n
int_proper id inner n proper h =
    singly Means (λ t. ⊥) IsInt (IsInt n) (values_of i32_in id inner) n
    (λ held its h. subst IsInt (sym h) its) (λ no. absurd no) (held_by i32_in IsInt ints id inner proper) h

time_low : (held : List ℤ) (time : ℕ) → Required MeansTime held time → time < 2 ^ 64
time_low [] time h = absurd h
time_low (n ∷ []) time h = omega (arith, h.2, h.3)
time_low (n ∷ other ∷ more) time h = absurd h

-- ---- identifiers

id_some : (n id : ℕ) → some_id n ≡ Some id → (0 < id) × (id ≡ n)
id_some zero id e = absurd (true≢false (sym (ap is_some e)))
id_some (suc n) id e = let same : suc n ≡ id = ap (λ o. unwrap_or o 0) e in (omega (arith, same), sym same)

span_id_proper : (n : ℤ) (id : ℕ) → IsProperLong n → span_id_of n ≡ Some id → IsProperSpanId id
span_id_proper n id its e = let w = id_some (cast_unsigned w64 n) id e in let low = its.1 in (w.0, omega (arith, w.1, low))

trace_id_proper : (high low : ℤ) (id : ℕ) → IsProperLong high → IsProperLong low → trace_id_of high low ≡ Some id → IsProperTraceId id
trace_id_proper high low id its_high its_low e =
    let w = id_some (cast_unsigned w64 high * 2 ^ 64 + cast_unsigned w64 low) id e in
    let a = its_high.1 in
    let b = its_low.1 in
    (w.0, omega (arith, w.1, a, b))

parent_by : (n : ℤ) (parent : Option ℕ) → IsProperLong n → span_id_of n ≡ parent → IsProperParent parent
parent_by n None its e = tt
parent_by n (Some id) its e = span_id_proper n id its e

-- ---- tags and logs

zero_double : IsProperDouble no_double
zero_double = (refl, λ k d lt. (both_bytes no_double [] small).0 k d lt)
  where
    here : (xs : List ℕ) → AreBytes xs → AreBytes (0 ∷ xs)
    here xs all = All-cons (λ b. b < 256) 0 xs (omega arith) all

    small : AreBytes (no_double ++ [])
    small = here (0 ∷ 0 ∷ 0 ∷ 0 ∷ 0 ∷ 0 ∷ 0 ∷ []) (here (0 ∷ 0 ∷ 0 ∷ 0 ∷ 0 ∷ 0 ∷ []) (here (0 ∷ 0 ∷ 0 ∷ 0 ∷ 0 ∷ []) (here (0 ∷ 0 ∷ 0 ∷ 0 ∷ []) (here (0 ∷ 0 ∷ 0 ∷ []) (here (0 ∷ 0 ∷ []) (here (0 ∷ []) (here [] (All-nil (λ b. b < 256)))))))))

module _ (tag : Tag) (inner : Fields) (proper : AreProperFields inner) (h : IsTag tag inner) where
  tag_text : IsUtf8 h.held.text
  tag_text = singly MeansText (λ t. t ≡ []) AreBytes (IsUtf8 h.held.text) (values_of binary_in 3 inner) h.held.text
      (λ held its h. subst IsUtf8 (sym h.1) h.0) (λ e. subst IsUtf8 (sym e) IsUtf8-nil) (held_by binary_in AreBytes binaries 3 inner proper) h.text

  tag_double : IsProperDouble h.held.double
  tag_double = singly Means (λ d. d ≡ no_double) IsProperDouble (IsProperDouble h.held.double) (values_of double_in 4 inner) h.held.double
      (λ held its e. subst IsProperDouble (sym e) its) (λ e. subst IsProperDouble (sym e) zero_double) (held_by double_in IsProperDouble doubles 4 inner proper) h.double

  tag_number : FitsSigned w64 h.held.number
  tag_number = singly Means (λ n. n ≡ pos 0) IsProperLong (FitsSigned w64 h.held.number) (values_of i64_in 6 inner) h.held.number
      (λ held its e. subst (FitsSigned w64) (sym e) its.0) (λ e. subst (FitsSigned w64) (sym e) (fits_signed_from_abs w64 (pos 0) (omega arith))) (held_by i64_in IsProperLong longs 6 inner proper) h.number

  tag_bytes : AreBytes h.held.bytes
  tag_bytes = singly Means (λ b. b ≡ []) AreBytes (AreBytes h.held.bytes) (values_of binary_in 7 inner) h.held.bytes
      (λ held its e. subst AreBytes (sym e) its) (λ e. subst AreBytes (sym e) (All-nil (λ b. b < 256))) (held_by binary_in AreBytes binaries 7 inner proper) h.bytes

  named : (value : TagValue) → IsNamed value h.held → IsProperTagValue value
  named (values.Text text) e = subst IsUtf8 (sym e) tag_text
  named (values.Eight bytes) e = subst IsProperDouble (sym e) tag_double
  named (values.Truth told) e = tt
  named (values.Number number) e = subst (FitsSigned w64) (sym e) tag_number
  named (values.Bytes bytes) e = subst AreBytes (sym e) tag_bytes

tag_proper : (tag : Tag) (inner : Fields) → AreProperFields inner → IsTag tag inner → IsProperTag tag
tag_proper tag inner proper h = record { key = text_utf8 1 inner tag.key proper h.key; value = named tag inner proper h tag.value h.value }

log_proper : (log : Log) (inner : Fields) → AreProperFields inner → IsLog log inner → IsProperLog log
log_proper log inner proper h = record { time = time_low _ log.time h.time; fields = given IsTag IsProperTag tag_proper 2 inner log.fields proper h.tags }

-- ---- references

IsProperRef : Option SpanRef → Type 0
IsProperRef None = ⊤
IsProperRef (Some reference) = IsProperReference reference

reference_proper : (reference : Option SpanRef) (inner : Fields) → AreProperFields inner → IsSpanRef reference inner → IsProperRef reference
unfolding IsProperRef
reference_proper None inner proper h = tt
reference_proper (Some reference) inner proper h = record {
  trace = trace_id_proper h.high h.low reference.trace (long_proper 3 inner h.high proper h.its_high) (long_proper 2 inner h.low proper h.its_low) h.pointed.1;
  span = span_id_proper h.span reference.span (long_proper 4 inner h.span proper h.its_span) h.pointed.2;
}

kept_proper : (all : List (Option SpanRef)) → All IsProperRef all → All IsProperReference (flat_map kept_reference all)
unfolding IsProperRef
kept_proper [] proper = All-nil IsProperReference
kept_proper (None ∷ all) proper = kept_proper all (All-tail IsProperRef None all proper)
kept_proper (Some reference ∷ all) proper =
    All-cons IsProperReference reference (flat_map kept_reference all) (All-head IsProperRef (Some reference) all proper) (kept_proper all (All-tail IsProperRef (Some reference) all proper))

-- ---- spans and the batch

span_proper : (span : JSpan) (inner : Fields) → AreProperFields inner → IsJSpan span inner → IsProperJSpan (all_kept span)
span_proper span inner proper h = record {
  trace = trace_id_proper h.trace.high h.trace.low span.trace (long_proper 2 inner h.trace.high proper h.trace.its_high) (long_proper 1 inner h.trace.low proper h.trace.its_low) h.trace.joined;
  id = singly (λ n id. span_id_of n ≡ Some id) (λ id. ⊥) IsProperLong (IsProperSpanId span.id) (values_of i64_in 3 inner) span.id
      (λ n its e. span_id_proper n span.id its e) (λ no. absurd no) (held_by i64_in IsProperLong longs 3 inner proper) h.id;
  parent = singly (λ n parent. span_id_of n ≡ parent) (λ parent. ⊥) IsProperLong (IsProperParent span.parent) (values_of i64_in 4 inner) span.parent
      (λ n its e. parent_by n span.parent its e) (λ no. absurd no) (held_by i64_in IsProperLong longs 4 inner proper) h.parent;
  name = text_utf8 5 inner span.name proper h.name;
  references = subst (All IsProperReference) (sym h.references.kept) (kept_proper h.references.all (optional IsSpanRef IsProperRef reference_proper 6 inner h.references.all proper h.references.given));
  invalid_refs = omega arith;
  flags = int_proper 7 inner span.flags proper h.flags;
  start = time_low _ span.start h.times.its_start;
  end = let last = h.times.in_range in omega (arith, last);
  tags = optional IsTag IsProperTag tag_proper 10 inner span.tags proper h.tags;
  logs = optional IsLog IsProperLog log_proper 11 inner span.logs proper h.logs;
}

record IsProperProcess (process : Process) : Type 0 where
  service : IsUtf8 process.service
  tags : All IsProperTag process.tags

process_proper : (process : Process) (inner : Fields) → AreProperFields inner → IsProcess process inner → IsProperProcess process
process_proper process inner proper h = record { service = text_utf8 1 inner process.service proper h.service; tags = optional IsTag IsProperTag tag_proper 2 inner process.tags proper h.tags }

abbrev IsProperKept : JSpan → Type 0
IsProperKept span = IsProperJSpan (all_kept span)

batch_proper : (batch : Batch) (inner : Fields) → AreProperFields inner → IsBatch batch inner → IsProperBatch (all_counted batch)
batch_proper batch inner proper h =
    let its : Process = record { service = batch.service; tags = batch.tags } in
    let process : IsProperProcess its = singly MeansProcess (λ p. ⊥) AreProperFields (IsProperProcess its) (values_of struct_in 1 inner) its
    (λ fields holds is. process_proper its fields holds is) (λ no. absurd no) (held_by struct_in AreProperFields structures 1 inner proper) h.process in
    let spans : All IsProperKept batch.spans = given IsJSpan IsProperKept span_proper 2 inner batch.spans proper h.spans in
    record { service = process.service; tags = process.tags; spans = All-map IsProperJSpan all_kept batch.spans spans }

pub read_proper : (Spells : Spelling) → SpellsProper Spells → (batch : Batch) (text : List ℕ) → AreBytes text → IsBatchText Spells batch text → IsProperBatch (all_counted batch)
read_proper Spells S batch text all is = batch_proper batch is.fields (fields_read Spells S is.fields outer_levels (pos 0) text [] is.struct_text all).0 is.means
