-- In no batch an offence has the number of Truncated.
use Rattle.std.proofs.Common.{◌⊎◌, inl, inr, ℕ, ℤ, ◌-◌, pos, false, Option, List, [], ◌∷◌, Bool, arith}
use Rattle.std.specs.List.{flat_map}
use Rattle.span_io.specs.Offences.{Rules, Offence, unread, here, inside, at_end}
use Rattle.span_io.specs.Tables.{Row, OfFirst, table_here, table_inside, rules_by, Twice, NotText}
use Rattle.thrift_core.specs.Messages.{FieldItem, StructRest, structs, whole_struct}
use Rattle.thrift_core.specs.Parts.{Spelling}
use Rattle.thrift_core.specs.Trees.{Fields, Trees, no_trees, tree_then, outer_levels}
use Rattle.jaeger_model.specs.Batch.{batch_table, batch_ends, MeansSpans, passed}
use Rattle.jaeger_model.specs.InnerRows.{structure, structures, BadElement, ElementsOffend}
use Rattle.jaeger_model.specs.StatedLaws.{BatchOffends}
use Rattle.jaeger_model.specs.Log.{MeansTags, log_table, log_ends, log_rules}
use Rattle.jaeger_model.specs.Process.{MeansProcess, process_table, process_ends, process_rules}
use Rattle.jaeger_model.specs.Reference.{reference_number, reference_table, reference_ends, reference_rules}
use Rattle.jaeger_model.specs.Rows.{BadEnum, BadTime, required, or_else, text_of_id, bytes, number, time_of_id, int, enum_of_id, truth, double}
use Rattle.jaeger_model.specs.Span.{MeansLogs, MeansReferences, jspan_table, jspan_ends, jspan_rules, or_empty}
use Rattle.jaeger_model.specs.Tag.{no_double, tag_type_number, tag_table, tag_ends, tag_rules}
use Rattle.jaeger_model.specs.declared.span.SpanRef.{SpanRef}
use Rattle.jaeger_model.specs.declared.span.JSpan.{JSpan}
use Rattle.jaeger_model.specs.declared.span.Log.{Log}
use Rattle.jaeger_model.specs.declared.tag.Tag.{Tag}

-- ---- rows

record RowNotCut (row : Row FieldItem) : Type 0 where
  here : (earlier : List row.Given) (held : row.Given) → row.here earlier held 1 → ⊥
  inside : (held : row.Given) (place : ℕ) → row.inside held place 1 → ⊥

abbrev TableNotCut : List (Row FieldItem) → Type 0
TableNotCut [] = Unit {0}
TableNotCut (row ∷ table) = RowNotCut row × TableNotCut table

not_twice : {A : Type 0} (earlier : List A) (Wrong : Type 0) → (Wrong → ⊥) → Twice earlier 1 ⊎ Wrong → ⊥
not_twice earlier Wrong f (inl h) = omega (arith, h.0)
not_twice earlier Wrong f (inr h) = f h

text_row : (id : ℕ) (IsAbsent : List ℕ → Type 0) → RowNotCut (text_of_id id IsAbsent)
text_row id IsAbsent = record { here = λ earlier held h. not_twice earlier (NotText held 1) (λ w. omega (arith, w.0)) h; inside = λ held place h. h }

time_row : (id : ℕ) (IsAbsent : ℕ → Type 0) → RowNotCut (time_of_id id IsAbsent)
time_row id IsAbsent = record { here = λ earlier held h. not_twice earlier (BadTime held 1) (λ w. omega (arith, w.0)) h; inside = λ held place h. h }

enum_row : (id last : ℕ) (E : Type 0) (number_of : E → ℕ) (IsAbsent : E → Type 0) → RowNotCut (enum_of_id id last E number_of IsAbsent)
enum_row id last E number_of IsAbsent = record { here = λ earlier held h. not_twice earlier (BadEnum last held 1) (λ w. omega (arith, w.0)) h; inside = λ held place h. h }

bytes_row : (id : ℕ) (IsAbsent : List ℕ → Type 0) → RowNotCut (bytes id IsAbsent)
bytes_row id IsAbsent = record { here = λ earlier held h. not_twice earlier ⊥ (λ w. w) h; inside = λ held place h. h }

double_row : (id : ℕ) (IsAbsent : List ℕ → Type 0) → RowNotCut (double id IsAbsent)
double_row id IsAbsent = record { here = λ earlier held h. not_twice earlier ⊥ (λ w. w) h; inside = λ held place h. h }

truth_row : (id : ℕ) (IsAbsent : Bool → Type 0) → RowNotCut (truth id IsAbsent)
truth_row id IsAbsent = record { here = λ earlier held h. not_twice earlier ⊥ (λ w. w) h; inside = λ held place h. h }

number_row : (id : ℕ) (IsAbsent : ℤ → Type 0) → RowNotCut (number id IsAbsent)
number_row id IsAbsent = record { here = λ earlier held h. not_twice earlier ⊥ (λ w. w) h; inside = λ held place h. h }

int_row : (id : ℕ) (IsAbsent : ℤ → Type 0) → RowNotCut (int id IsAbsent)
int_row id IsAbsent = record { here = λ earlier held h. not_twice earlier ⊥ (λ w. w) h; inside = λ held place h. h }

passed_row : (id : ℕ) → RowNotCut (passed id)
passed_row id = record { here = λ earlier held h. not_twice earlier ⊥ (λ w. w) h; inside = λ held place h. h }

-- ---- rows that hold structs

abbrev StructNotCut : Spelling → ℕ → Rules FieldItem → Type 0
StructNotCut Spells left rules = (text : StructRest) (place : ℕ) → Offence (structs Spells left) rules text place 1 → ⊥

module _ (Spells : Spelling) (left : ℕ) (rules : Rules FieldItem) (never : StructNotCut Spells left rules) where
  elements_not_cut : (total : ℕ) (trees : Trees) (text : List ℕ) (place : ℕ) → ElementsOffend Spells left rules total trees text place 1 → ⊥
  unfolding ElementsOffend
  elements_not_cut total no_trees text place h = h
  elements_not_cut total (tree_then tree more) text place h = elim h.4 [
    | inl w ↦ never (whole_struct h.0) w.0 w.1
    | inr w ↦ elements_not_cut total more h.1 place w
  ]

  struct_row : (id : ℕ) (B : Type 0) (Means : Fields → B → Type 0) (IsAbsent : B → Type 0) → RowNotCut (structure Spells left rules id B Means IsAbsent)
  struct_row id B Means IsAbsent = record { here = λ earlier held h. not_twice earlier ⊥ (λ w. w) h; inside = λ held place h. never (whole_struct held.1) place h }

  list_row : (id : ℕ) (B : Type 0) (Means : Trees → B → Type 0) (IsAbsent : B → Type 0) → RowNotCut (structures Spells left rules id B Means IsAbsent)
  list_row id B Means IsAbsent = record {
    here = λ earlier held h. not_twice earlier (BadElement held 1) (λ w. omega (arith, w.0)) h;
    inside = λ held place h. elements_not_cut _ held.0 h.1 place h.3;
  }

-- ---- structs by their tables

of_first : {A : Type 0} (l : List A) (Says : A → Type 0) (Else : Type 0) → ((x : A) → Says x → ⊥) → (Else → ⊥) → OfFirst l Says Else → ⊥
of_first [] Says Else f g h = g h
of_first (x ∷ more) Says Else f g h = f x h

here_not_cut : (table : List (Row FieldItem)) → TableNotCut table → (seen : List FieldItem) (this : FieldItem) → table_here table seen this 1 → ⊥
here_not_cut [] rows seen this h = h
here_not_cut (row ∷ table) rows seen this h =
    of_first (row.given this) (λ x. row.here (flat_map row.given seen) x 1) (table_here table seen this 1) (rows.0.here (flat_map row.given seen)) (here_not_cut table rows.1 seen this) h

inside_not_cut : (table : List (Row FieldItem)) → TableNotCut table → (this : FieldItem) (place : ℕ) → table_inside table this place 1 → ⊥
inside_not_cut [] rows this place h = h
inside_not_cut (row ∷ table) rows this place h =
    of_first (row.given this) (λ x. row.inside x place 1) (table_inside table this place 1) (λ x w. rows.0.inside x place w) (inside_not_cut table rows.1 this place) h

struct_not_cut : (Spells : Spelling) (left : ℕ) (table : List (Row FieldItem)) (ends : List FieldItem → ℕ → Type 0) → TableNotCut table → ((seen : List FieldItem) → ends seen 1 → ⊥)
    → StructNotCut Spells left (rules_by table ends)
struct_not_cut Spells left table ends rows never text place (unread h) = h.offends
struct_not_cut Spells left table ends rows never text place (here h) = here_not_cut table rows h.seen h.this h.offends
struct_not_cut Spells left table ends rows never text place (inside h) = inside_not_cut table rows h.this h.inner h.offends
struct_not_cut Spells left table ends rows never text place (at_end h) = never h.seen h.offends

-- ---- the structs of jaeger.thrift

module _ (Spells : Spelling) (left : ℕ) where
  tag_not_cut : StructNotCut Spells left tag_rules
  tag_not_cut = struct_not_cut Spells left tag_table tag_ends rows (λ seen h. omega (arith, h.0))
    where
      rows : TableNotCut tag_table
      rows = (
        text_row 1 required,
        (
          enum_row 2 4 _ tag_type_number required,
          (text_row 3 (or_else []), (double_row 4 (or_else no_double), (truth_row 5 (or_else false), (number_row 6 (or_else (pos 0)), (bytes_row 7 (or_else []), tt))))),
        ),
      )

  reference_not_cut : StructNotCut Spells left reference_rules
  reference_not_cut = struct_not_cut Spells left reference_table reference_ends rows (λ seen h. omega (arith, h.0))
    where
      rows : TableNotCut reference_table
      rows = (enum_row 1 1 Bool reference_number required, (number_row 2 required, (number_row 3 required, (number_row 4 required, tt))))

module _ (Spells : Spelling) (left : ℕ) where
  log_not_cut : StructNotCut Spells left (log_rules Spells left)
  log_not_cut = struct_not_cut Spells left (log_table Spells left) log_ends rows (λ seen h. omega (arith, h.0))
    where
      rows : TableNotCut (log_table Spells left)
      rows = (time_row 1 required, (list_row Spells (left - 2) tag_rules (tag_not_cut Spells (left - 2)) 2 (List Tag) MeansTags required, tt))

  process_not_cut : StructNotCut Spells left (process_rules Spells left)
  process_not_cut = struct_not_cut Spells left (process_table Spells left) process_ends rows (λ seen h. omega (arith, h.0))
    where
      rows : TableNotCut (process_table Spells left)
      rows = (text_row 1 required, (list_row Spells (left - 2) tag_rules (tag_not_cut Spells (left - 2)) 2 (List Tag) MeansTags (or_else []), tt))

jspan_ends_not_cut : (seen : List FieldItem) → jspan_ends seen 1 → ⊥
jspan_ends_not_cut seen (inl h) = omega (arith, h.0)
jspan_ends_not_cut seen (inr (inl h)) = omega (arith, h.0)
jspan_ends_not_cut seen (inr (inr h)) = omega (arith, h.0)

module _ (Spells : Spelling) (left : ℕ) where
  jspan_not_cut : StructNotCut Spells left (jspan_rules Spells left)
  jspan_not_cut = struct_not_cut Spells left (jspan_table Spells left) jspan_ends rows jspan_ends_not_cut
    where
      lists : TableNotCut (
          structures Spells (left - 2) tag_rules 10 (List Tag) MeansTags or_empty ∷ structures Spells (left - 2) (log_rules Spells (left - 2)) 11 (List Log) MeansLogs or_empty ∷ []
          )
      lists = (
        list_row Spells (left - 2) tag_rules (tag_not_cut Spells (left - 2)) 10 (List Tag) MeansTags or_empty,
        (list_row Spells (left - 2) (log_rules Spells (left - 2)) (log_not_cut Spells (left - 2)) 11 (List Log) MeansLogs or_empty, tt),
      )

      references : RowNotCut (structures Spells (left - 2) reference_rules 6 (List (Option SpanRef)) MeansReferences or_empty)
      references = list_row Spells (left - 2) reference_rules (reference_not_cut Spells (left - 2)) 6 (List (Option SpanRef)) MeansReferences or_empty

      rows : TableNotCut (jspan_table Spells left)
      rows = (
        number_row 1 required,
        (number_row 2 required, (number_row 3 required, (number_row 4 required, (text_row 5 required, (references, (int_row 7 required, (time_row 8 required, (time_row 9 required, lists)))))))),
      )

module _ (Spells : Spelling) where
  pub batch_not_cut : (unit : List ℕ) (place : ℕ) → BatchOffends Spells unit place 1 → ⊥
  batch_not_cut unit = struct_not_cut Spells outer_levels (batch_table Spells outer_levels) batch_ends rows (λ seen h. omega (arith, h.0)) (whole_struct unit)
    where
      rows : TableNotCut (batch_table Spells outer_levels)
      rows = (
        struct_row Spells (outer_levels - 1) (process_rules Spells (outer_levels - 1)) (process_not_cut Spells (outer_levels - 1)) 1 _ MeansProcess required,
        (
          list_row Spells (outer_levels - 2) (jspan_rules Spells (outer_levels - 2)) (jspan_not_cut Spells (outer_levels - 2)) 2 (List JSpan) MeansSpans required,
          (number_row 3 (or_else (pos 0)), (passed_row 4, tt)),
        ),
      )
