-- The canonical struct of a proper batch may be written.
use Rattle.std.proofs.Common.{◌≡◌, ◌<◌, ◌≤◌, ◌^◌, ◌%◌, ◌/◌, ◌-◌, ◌++◌, ℕ, suc, ℤ, pos, Bool, Option, Some, None, List, [], ◌∷◌, length, get_or, true, false, All, refl, ap, subst, sym, arith, rules, append_assoc}
use Rattle.std.specs.Prelude.{◌<ℤ◌, FitsSigned}
use Rattle.std.specs.Int.{w16, w32, w64, cast_signed}
use Rattle.std.proofs.Math.Facts.{sfits_to_z}
use Rattle.std.proofs.Math.Nat.{div-lt_iff_lt-mul}
use Rattle.std.proofs.lemmas.Int.{fits_signed_from_abs}
use Rattle.std.proofs.lemmas.List.{append-nil}
use Rattle.std.proofs.lemmas.Nat.{mod_below}
use Rattle.std.proofs.lemmas.List.Elements.{All-head, All-tail}
use Rattle.span_ids.specs.Times.{micros, last_micros}
use Rattle.thrift_core.specs.Parts.{header, HasLevel}
use Rattle.thrift_core.specs.Protocols.{MayWrite, IsGiven, field_head, last_size}
use Rattle.thrift_core.specs.Trees.{truth_value, i8, i16, i32, i64, double, Tree, leaf, binary, structure, map_of, set_of, list_of, kind_of, outer_levels}
use Rattle.thrift_core.specs.Written.{Keeping, given, FieldRow, fields_of_rows, struct_trees, MayWriteValue, MayWriteFields, MayWriteElements}
use Rattle.thrift_core.proofs.WrittenLaws.{struct_count, struct_type}
use Rattle.thrift_core.specs.declared.type_code.TypeCode.TheVariants as kinds
use Rattle.jaeger_model.specs.declared.batch.Batch.{Batch}
use Rattle.jaeger_model.specs.declared.span.JSpan.{JSpan}
use Rattle.jaeger_model.specs.declared.span.Log.{Log}
use Rattle.jaeger_model.specs.declared.span.SpanRef.{SpanRef}
use Rattle.jaeger_model.specs.declared.tag.Tag.{Tag}
use Rattle.jaeger_model.specs.declared.tag.TagValue.{TagValue}
use Rattle.jaeger_model.specs.declared.tag.TagValue.TheVariants as values
use Rattle.jaeger_model.specs.Canonical.{number_tree, id_tree, micros_tree, parent_tree, enum_tree, low_tree, high_tree, list_tree, filled_list, value_row, tag_rows, log_rows, reference_rows, reference_and_flag_rows, time_rows, tag_and_log_rows, jspan_rows, process_rows, batch_fields}
use Rattle.jaeger_model.specs.Reference.{reference_number}
use Rattle.jaeger_model.specs.Tag.{type_of}
use Rattle.span_ids.specs.Proper.{IsProperParent}
use Rattle.jaeger_model.specs.Proper.{IsProperTagValue, IsProperTag, IsProperLog, IsProperReference, IsProperJSpan, IsProperBatch}
use Rattle.span_io.specs.Sizes.{IsShort}
use Rattle.jaeger_model.specs.Writable.{IsShortValue, IsWritableTag, IsWritableLog, IsWritableSpan, IsWritable, AreWritable}

is_given : (tree : Tree) → IsGiven (kind_of tree) (given tree)
is_given (leaf (truth_value b)) = tt
is_given (leaf (i8 n)) = tt
is_given (leaf (i16 n)) = tt
is_given (leaf (i32 n)) = tt
is_given (leaf (i64 n)) = tt
is_given (leaf (double bytes)) = tt
is_given (binary bytes) = tt
is_given (structure inner) = tt
is_given (map_of pairs) = tt
is_given (set_of trees) = tt
is_given (list_of trees) = tt

-- numbers of ids
record Rises (last id : ℤ) : Type 0 where
  rises : last <ℤ id
  fits : FitsSigned w16 id

module _ (keeps : Keeping) where
  head_may : (tree : Tree) (left : ℕ) (last id : ℤ) → Rises last id → HasLevel left (kind_of tree) → MayWrite keeps (header left last) (field_head keeps id (kind_of tree) (given tree))
  head_may tree left last id r level = (r.rises, r.fits, level, given tree, is_given tree, refl)

  -- a field and others
  row_may : (tree : Tree) (more : List FieldRow) (left : ℕ) (last id : ℤ) → Rises last id → HasLevel left (kind_of tree) → MayWriteValue keeps tree left (keeps (given tree))
      → MayWriteFields keeps (fields_of_rows more) left id → MayWriteFields keeps (fields_of_rows ((id, tree) ∷ more)) left last
  unfolding MayWriteFields fields_of_rows
  row_may tree more left last id r level value others = (head_may tree left last id r level, value, others)

  none_may : (left : ℕ) (last : ℤ) → MayWriteFields keeps (fields_of_rows []) left last
  unfolding MayWriteFields fields_of_rows
  none_may left last = tt

  long_may : (n : ℤ) (more : List FieldRow) (left : ℕ) (last id : ℤ) → Rises last id → FitsSigned w64 n
      → MayWriteFields keeps (fields_of_rows more) left id → MayWriteFields keeps (fields_of_rows ((id, number_tree n) ∷ more)) left last
  unfolding MayWriteValue
  long_may n more left last id r fits others = row_may (number_tree n) more left last id r (λ e. absurd e) fits others

  int_may : (n : ℤ) (more : List FieldRow) (left : ℕ) (last id : ℤ) → Rises last id → FitsSigned w32 n
      → MayWriteFields keeps (fields_of_rows more) left id → MayWriteFields keeps (fields_of_rows ((id, leaf (i32 n)) ∷ more)) left last
  unfolding MayWriteValue
  int_may n more left last id r fits others = row_may (leaf (i32 n)) more left last id r (λ e. absurd e) fits others

  binary_may : (bytes : List ℕ) (more : List FieldRow) (left : ℕ) (last id : ℤ) → Rises last id → IsShort bytes
      → MayWriteFields keeps (fields_of_rows more) left id → MayWriteFields keeps (fields_of_rows ((id, binary bytes) ∷ more)) left last
  unfolding MayWriteValue
  binary_may bytes more left last id r sized others = row_may (binary bytes) more left last id r (λ e. absurd e) sized others

  double_may : (bytes : List ℕ) (left : ℕ) → (length bytes ≡ 8) × All (λ b. b < 256) bytes → MayWriteValue keeps (leaf (double bytes)) left (keeps None)
  unfolding MayWriteValue
  double_may bytes left h = h

  truth_may : (b : Bool) (left : ℕ) → MayWriteValue keeps (leaf (truth_value b)) left (keeps (Some b))
  unfolding MayWriteValue
  truth_may b left = refl

  -- lists
  module _ {A : Type 0} (rows : A → List FieldRow) (left : ℕ) where
    abbrev Each : A → Type 0
    Each x = MayWriteFields keeps (fields_of_rows (rows x)) left (pos 0)

    elements_may : (xs : List A) → All Each xs → MayWriteElements keeps (struct_trees rows xs) kinds.Struct (suc left)
    unfolding MayWriteElements MayWriteValue struct_trees
    elements_may [] all = tt
    elements_may (x ∷ xs) all = (refl, All-head Each x xs all, elements_may xs (All-tail Each x xs all))

    list_may : (xs : List A) (held : Option Bool) → IsShort xs → All Each xs → MayWriteValue keeps (list_tree rows xs) (suc (suc left)) held
    unfolding MayWriteValue
    list_may xs held sized all = (
      (kinds.Struct, ap Some (struct_type rows xs), subst (λ n. n ≤ last_size) (sym (struct_count rows xs)) sized, λ some level. omega arith),
      subst (λ kind. MayWriteElements keeps (struct_trees rows xs) kind (suc left)) (sym (struct_type rows xs)) (elements_may xs all),
    )

    filled_may : (xs : List A) (more : List FieldRow) (last id : ℤ) → Rises last id → IsShort xs → All Each xs
        → MayWriteFields keeps (fields_of_rows more) (suc (suc left)) last → MayWriteFields keeps (fields_of_rows more) (suc (suc left)) id
        → MayWriteFields keeps (fields_of_rows (filled_list id rows xs ++ more)) (suc (suc left)) last
    filled_may [] more last id r sized all without others = without
    filled_may (x ∷ xs) more last id r sized all without others =
        row_may (list_tree rows (x ∷ xs)) more (suc (suc left)) last id r (λ e. omega arith) (list_may (x ∷ xs) (keeps None) sized all) others

-- ---- ids and numbers of each struct

up : (m n : ℕ) → m < n → n < 32768 → Rises (pos m) (pos n)
up m n lt small = record { rises = search (rules, lt); fits = fits_signed_from_abs w16 (pos n) (omega arith) }

fits_id : (id : ℕ) → id < 2 ^ 64 → FitsSigned w64 (cast_signed w64 id)
fits_id id lt = sfits_to_z {w = w64} {n = id} (record { fits = lt })

fits_micros : (n : ℕ) → n ≤ last_micros → FitsSigned w64 (pos n)
fits_micros n le = fits_signed_from_abs w64 (pos n) (omega arith)

fits_enum : (n : ℕ) → n ≤ 4 → FitsSigned w32 (pos n)
fits_enum n le = fits_signed_from_abs w32 (pos n) (omega arith)

all_both : {A : Type 0} (P Q R : A → Type 0) → ((x : A) → P x → Q x → R x) → (xs : List A) → All P xs → All Q xs → All R xs
all_both P Q R both xs p q = λ k d lt. both (get_or xs k d) (p k d lt) (q k d lt)

type_small : (value : TagValue) → type_of value ≤ 4
type_small (values.Text text) = omega arith
type_small (values.Eight bytes) = omega arith
type_small (values.Truth truth) = omega arith
type_small (values.Number number) = omega arith
type_small (values.Bytes bytes) = omega arith

reference_small : (child_of : Bool) → reference_number child_of ≤ 4
reference_small true = omega arith
reference_small false = omega arith

parent_fits : (parent : Option ℕ) → IsProperParent parent → (n : ℤ) × (parent_tree parent ≡ number_tree n) × FitsSigned w64 n
parent_fits None h = (pos 0, refl, fits_micros 0 (omega arith))
parent_fits (Some id) h = (cast_signed w64 id, refl, fits_id id h.1)

micros_small : (time : ℕ) → time < 2 ^ 64 → micros time ≤ last_micros
micros_small time lt = omega arith

low_small : (trace : ℕ) → trace % 2 ^ 64 < 2 ^ 64
low_small trace = mod_below trace (2 ^ 64) (omega arith)

high_small : (trace : ℕ) → trace < 2 ^ 128 → trace / 2 ^ 64 < 2 ^ 64
high_small trace lt = (div-lt_iff_lt-mul {k = 2 ^ 64} {x = trace} {y = 2 ^ 64} (omega arith)).1 lt

module _ (keeps : Keeping) where
  value_may : (value : TagValue) (left : ℕ) → IsShortValue value → IsProperTagValue value → MayWriteFields keeps (fields_of_rows (value_row value ∷ [])) left (pos 2)
  value_may (values.Text text) left sized proper = binary_may keeps text [] left (pos 2) (pos 3) (up 2 3 (omega arith) (omega arith)) sized (none_may keeps left (pos 3))
  value_may (values.Eight bytes) left sized proper =
      row_may keeps (leaf (double bytes)) [] left (pos 2) (pos 4) (up 2 4 (omega arith) (omega arith)) (λ e. absurd e) (double_may keeps bytes left proper) (none_may keeps left (pos 4))
  value_may (values.Truth truth) left sized proper =
      row_may keeps (leaf (truth_value truth)) [] left (pos 2) (pos 5) (up 2 5 (omega arith) (omega arith)) (λ e. absurd e) (truth_may keeps truth left) (none_may keeps left (pos 5))
  value_may (values.Number number) left sized proper = long_may keeps number [] left (pos 2) (pos 6) (up 2 6 (omega arith) (omega arith)) proper (none_may keeps left (pos 6))
  value_may (values.Bytes bytes) left sized proper = binary_may keeps bytes [] left (pos 2) (pos 7) (up 2 7 (omega arith) (omega arith)) sized (none_may keeps left (pos 7))

  tag_may : (left : ℕ) (tag : Tag) → IsWritableTag tag → IsProperTag tag → MayWriteFields keeps (fields_of_rows (tag_rows tag)) left (pos 0)
  tag_may left tag w p =
      binary_may keeps tag.key ((pos 2, enum_tree (type_of tag.value)) ∷ value_row tag.value ∷ []) left (pos 0) (pos 1) (up 0 1 (omega arith) (omega arith)) w.key
      (int_may keeps (pos (type_of tag.value)) (value_row tag.value ∷ []) left (pos 1) (pos 2) (up 1 2 (omega arith) (omega arith)) (fits_enum (type_of tag.value) (type_small tag.value))
      (value_may tag.value left w.value p.value))

  tags_may : (left : ℕ) (tags : List Tag) → AreWritable IsWritableTag tags → All IsProperTag tags → All (λ tag. MayWriteFields keeps (fields_of_rows (tag_rows tag)) left (pos 0)) tags
  tags_may left tags w p = all_both IsWritableTag IsProperTag (λ tag. MayWriteFields keeps (fields_of_rows (tag_rows tag)) left (pos 0)) (tag_may left) tags w.each p

  log_may : (left : ℕ) (log : Log) → IsWritableLog log → IsProperLog log → MayWriteFields keeps (fields_of_rows (log_rows log)) (suc (suc left)) (pos 0)
  log_may left log w p =
      long_may keeps (pos (micros log.time)) ((pos 2, list_tree tag_rows log.fields) ∷ []) (suc (suc left)) (pos 0) (pos 1) (up 0 1 (omega arith) (omega arith)) (fits_micros (micros log.time) (micros_small log.time p.time))
      (row_may keeps (list_tree tag_rows log.fields) [] (suc (suc left)) (pos 1) (pos 2) (up 1 2 (omega arith) (omega arith)) (λ e. omega arith)
      (list_may keeps tag_rows left log.fields (keeps None) w.fields.sized (tags_may left log.fields w.fields p.fields)) (none_may keeps (suc (suc left)) (pos 2)))

  reference_may : (left : ℕ) (r : SpanRef) → IsProperReference r → MayWriteFields keeps (fields_of_rows (reference_rows r)) left (pos 0)
  reference_may left r p =
      int_may keeps (pos (reference_number r.child_of)) ((pos 2, low_tree r.trace) ∷ (pos 3, high_tree r.trace) ∷ (pos 4, id_tree r.span) ∷ []) left (pos 0) (pos 1) (up 0 1 (omega arith) (omega arith))
      (fits_enum (reference_number r.child_of) (reference_small r.child_of))
      (long_may keeps (cast_signed w64 (r.trace % 2 ^ 64)) ((pos 3, high_tree r.trace) ∷ (pos 4, id_tree r.span) ∷ []) left (pos 1) (pos 2) (up 1 2 (omega arith) (omega arith)) (fits_id (r.trace % 2 ^ 64) (low_small r.trace))
      (long_may keeps (cast_signed w64 (r.trace / 2 ^ 64)) ((pos 4, id_tree r.span) ∷ []) left (pos 2) (pos 3) (up 2 3 (omega arith) (omega arith)) (fits_id (r.trace / 2 ^ 64) (high_small r.trace p.trace.1))
      (long_may keeps (cast_signed w64 r.span) [] left (pos 3) (pos 4) (up 3 4 (omega arith) (omega arith)) (fits_id r.span p.span.1) (none_may keeps left (pos 4)))))

  -- a list at the end
  filled_end : {A : Type 0} (rows : A → List FieldRow) (left : ℕ) (xs : List A) (last id : ℤ) → Rises last id → IsShort xs
      → All (λ x. MayWriteFields keeps (fields_of_rows (rows x)) left (pos 0)) xs → MayWriteFields keeps (fields_of_rows (filled_list id rows xs)) (suc (suc left)) last
  filled_end rows left xs last id r sized all =
      subst (λ l. MayWriteFields keeps (fields_of_rows l) (suc (suc left)) last) (append-nil (filled_list id rows xs))
      (filled_may keeps rows left xs [] last id r sized all (none_may keeps (suc (suc left)) last) (none_may keeps (suc (suc left)) id))

  module _ (left : ℕ) (s : JSpan) (w : IsWritableSpan s) (p : IsProperJSpan s) where
    abbrev levels : ℕ
    levels = suc (suc (suc (suc left)))

    logs_may : (last : ℤ) → Rises last (pos 11) → MayWriteFields keeps (fields_of_rows (filled_list (pos 11) log_rows s.logs)) levels last
    logs_may last r =
        filled_end log_rows (suc (suc left)) s.logs last (pos 11) r w.logs.sized
        (all_both IsWritableLog IsProperLog (λ log. MayWriteFields keeps (fields_of_rows (log_rows log)) (suc (suc left)) (pos 0)) (log_may left) s.logs w.logs.each p.logs)

    ends_may : MayWriteFields keeps (fields_of_rows (tag_and_log_rows s)) levels (pos 9)
    ends_may =
        filled_may keeps tag_rows (suc (suc left)) s.tags (filled_list (pos 11) log_rows s.logs) (pos 9) (pos 10) (up 9 10 (omega arith) (omega arith)) w.tags.sized (tags_may (suc (suc left)) s.tags w.tags p.tags)
        (logs_may (pos 9) (up 9 11 (omega arith) (omega arith))) (logs_may (pos 10) (up 10 11 (omega arith) (omega arith)))

    times_may : MayWriteFields keeps (fields_of_rows (time_rows s ++ tag_and_log_rows s)) levels (pos 7)
    times_may =
        long_may keeps (pos (micros s.start)) ((pos 9, micros_tree (micros s.end - micros s.start)) ∷ tag_and_log_rows s) levels (pos 7) (pos 8) (up 7 8 (omega arith) (omega arith))
        (fits_micros (micros s.start) (micros_small s.start p.start))
        (long_may keeps (pos (micros s.end - micros s.start)) (tag_and_log_rows s) levels (pos 8) (pos 9) (up 8 9 (omega arith) (omega arith))
        (let le : micros s.end ≤ last_micros = micros_small s.end p.end in fits_micros (micros s.end - micros s.start) (omega arith)) ends_may)

    flags_may : (last : ℤ) → Rises last (pos 7) → MayWriteFields keeps (fields_of_rows ((pos 7, leaf (i32 s.flags)) ∷ (time_rows s ++ tag_and_log_rows s))) levels last
    flags_may last r = int_may keeps s.flags (time_rows s ++ tag_and_log_rows s) levels last (pos 7) r p.flags times_may

    references_may : MayWriteFields keeps (fields_of_rows (reference_and_flag_rows s ++ (time_rows s ++ tag_and_log_rows s))) levels (pos 5)
    references_may =
        subst (λ l. MayWriteFields keeps (fields_of_rows l) levels (pos 5)) (sym (append_assoc (filled_list (pos 6) reference_rows s.references) ((pos 7, leaf (i32 s.flags)) ∷ []) (time_rows s ++ tag_and_log_rows s)))
        (filled_may keeps reference_rows (suc (suc left)) s.references ((pos 7, leaf (i32 s.flags)) ∷ (time_rows s ++ tag_and_log_rows s)) (pos 5) (pos 6) (up 5 6 (omega arith) (omega arith)) w.references
        (λ k d lt. reference_may (suc (suc left)) (get_or s.references k d) (p.references k d lt)) (flags_may (pos 5) (up 5 7 (omega arith) (omega arith))) (flags_may (pos 6) (up 6 7 (omega arith) (omega arith))))

    name_may : MayWriteFields keeps (fields_of_rows ((pos 5, binary s.name) ∷ (reference_and_flag_rows s ++ (time_rows s ++ tag_and_log_rows s)))) levels (pos 4)
    name_may = binary_may keeps s.name (reference_and_flag_rows s ++ (time_rows s ++ tag_and_log_rows s)) levels (pos 4) (pos 5) (up 4 5 (omega arith) (omega arith)) w.name references_may

    parent_may : MayWriteFields keeps (fields_of_rows ((pos 4, parent_tree s.parent) ∷ (pos 5, binary s.name) ∷ (reference_and_flag_rows s ++ (time_rows s ++ tag_and_log_rows s)))) levels (pos 3)
    parent_may =
        let parent = parent_fits s.parent p.parent in
        let others = (pos 5, binary s.name) ∷ (reference_and_flag_rows s ++ (time_rows s ++ tag_and_log_rows s)) in
        subst (λ t. MayWriteFields keeps (fields_of_rows ((pos 4, t) ∷ others)) levels (pos 3)) (sym parent.1)
        (long_may keeps parent.0 others levels (pos 3) (pos 4) (up 3 4 (omega arith) (omega arith)) parent.2 name_may)

    span_may : MayWriteFields keeps (fields_of_rows (jspan_rows s)) levels (pos 0)
    span_may =
        let others = (pos 4, parent_tree s.parent) ∷ (pos 5, binary s.name) ∷ (reference_and_flag_rows s ++ (time_rows s ++ tag_and_log_rows s)) in
        long_may keeps (cast_signed w64 (s.trace % 2 ^ 64)) ((pos 2, high_tree s.trace) ∷ (pos 3, id_tree s.id) ∷ others) levels (pos 0) (pos 1) (up 0 1 (omega arith) (omega arith)) (fits_id (s.trace % 2 ^ 64) (low_small s.trace))
        (long_may keeps (cast_signed w64 (s.trace / 2 ^ 64)) ((pos 3, id_tree s.id) ∷ others) levels (pos 1) (pos 2) (up 1 2 (omega arith) (omega arith)) (fits_id (s.trace / 2 ^ 64) (high_small s.trace p.trace.1))
        (long_may keeps (cast_signed w64 s.id) others levels (pos 2) (pos 3) (up 2 3 (omega arith) (omega arith)) (fits_id s.id p.id.1) parent_may))

  process_may : (left : ℕ) (service : List ℕ) (tags : List Tag) → IsShort service → AreWritable IsWritableTag tags → All IsProperTag tags
      → MayWriteFields keeps (fields_of_rows (process_rows service tags)) (suc (suc left)) (pos 0)
  process_may left service tags sized w p =
      binary_may keeps service (filled_list (pos 2) tag_rows tags) (suc (suc left)) (pos 0) (pos 1) (up 0 1 (omega arith) (omega arith)) sized
      (filled_end tag_rows left tags (pos 1) (pos 2) (up 1 2 (omega arith) (omega arith)) w.sized (tags_may left tags w p))

  process_value_may : (left : ℕ) (service : List ℕ) (tags : List Tag) → IsShort service → AreWritable IsWritableTag tags → All IsProperTag tags
      → MayWriteValue keeps (structure (fields_of_rows (process_rows service tags))) (suc (suc (suc left))) (keeps None)
  unfolding MayWriteValue
  process_value_may left service tags sized w p = process_may left service tags sized w p

  pub batch_may : (batch : Batch) → IsWritable batch → IsProperBatch batch → MayWriteFields keeps (batch_fields batch) outer_levels (pos 0)
  batch_may batch w p =
      row_may keeps (structure (fields_of_rows (process_rows batch.service batch.tags))) ((pos 2, list_tree jspan_rows batch.spans) ∷ []) 31 (pos 0) (pos 1) (up 0 1 (omega arith) (omega arith)) (λ e. omega arith)
      (process_value_may 28 batch.service batch.tags w.service w.tags p.tags)
      (row_may keeps (list_tree jspan_rows batch.spans) [] 31 (pos 1) (pos 2) (up 1 2 (omega arith) (omega arith)) (λ e. omega arith)
      (list_may keeps jspan_rows 29 batch.spans (keeps None) w.spans.sized
      (all_both IsWritableSpan IsProperJSpan (λ span. MayWriteFields keeps (fields_of_rows (jspan_rows span)) 29 (pos 0)) (span_may 25) batch.spans w.spans.each p.spans)) (none_may keeps 31 (pos 2)))
