-- Batches: what their rows mean together, and what follows of the texts of batches.
use Rattle.std.proofs.Common.{◌≡◌, ◌⊎◌, ◌∷◌, ◌-◌, ℕ, pos, List, [], length, Result, Ok, Err, IfOk, inl, inr, refl, ap, subst, arith}
use Rattle.std.specs.List.{flat_map}
use Rattle.span_io.specs.Causes.{cause_number}
use Rattle.span_io.specs.declared.cause.Cause.{Cause}
use Rattle.span_io.specs.declared.cause.Cause.TheVariants as causes
use Rattle.span_io.specs.declared.halt.Halt.{Halt}
use Rattle.span_io.specs.declared.halt.Halt.TheVariants as halts
use Rattle.span_io.specs.Offences.{FormatLaws}
use Rattle.span_io.specs.Offences.{Least, Judges, OnlyReads}
use Rattle.span_io.specs.Tables.{Singular, Values, Mean, givens, nothing_inside}
use Rattle.thrift_core.specs.FieldValues.{values_of, i64_in, struct_in, list_in}
use Rattle.thrift_core.specs.Messages.{FieldItem, structs, fields_of}
use Rattle.thrift_core.proofs.OneReading.{one_fields}
use Rattle.thrift_core.specs.Parts.{Part, Spelling}
use Rattle.thrift_core.specs.Protocols.{ReadsExactly, PartLaws}
use Rattle.thrift_core.specs.Reading.{ReadingOf}
use Rattle.thrift_core.proofs.StructLaws.{struct_laws}
use Rattle.thrift_core.specs.Trees.{Tree, Fields, outer_levels}
use Rattle.jaeger_model.proofs.BatchLemmas.{batch_laws}
use Rattle.jaeger_model.proofs.BatchOnce.{batch_once}
use Rattle.jaeger_model.proofs.LogLemmas.{both_held}
use Rattle.jaeger_model.proofs.OuterProofs.{process_struct}
use Rattle.jaeger_model.proofs.RowKinds.{Kind, row_proof, given_is, given_apart, means_kind, StructProof}
use Rattle.jaeger_model.proofs.RowShapes.{given_few, struct_few}
use Rattle.jaeger_model.proofs.SpanProofs.{span_struct}
use Rattle.jaeger_model.proofs.StructProofs.{long_proof, structures_proof, structure_proof, struct_proof, given_back, given_on, inner_back, inner_on, given_nothing, inner_nothing}
use Rattle.jaeger_model.proofs.StructRows.{TableProof, TableFound, AtEnd}
use Rattle.jaeger_model.specs.Batch.{MeansSpans, MeansNothing, AtMostOne, IsBatch, IsBatchText, batch_table, batch_ends, batch_rules}
use Rattle.jaeger_model.specs.declared.batch.Batch.{Batch}
use Rattle.jaeger_model.specs.declared.process.Process.{Process}
use Rattle.jaeger_model.specs.StatedLaws.{BatchOffends, OneBatch, SomeBatch}
use Rattle.jaeger_model.specs.Meanings.{Means}
use Rattle.jaeger_model.specs.Process.{IsProcess, MeansProcess, process_rules}
use Rattle.jaeger_model.specs.Rows.{nothing_wrong, given_to, required, or_else}
use Rattle.jaeger_model.specs.Span.{IsJSpan, jspan_rules}

-- ---- fields that mean nothing

-- one at most, as a row that has the value of its one field, or this one
one_or : {A B : Type 0} (Means : A → B → Type 0) (default : B) (value : A → B) → ((x : A) → Means x (value x)) → (xs : List A) → AtMostOne xs → (v : B) × Singular Means (λ z. z ≡ default) xs v
one_or Means default value is [] few = (default, refl)
one_or Means default value is (x ∷ []) few = (value x, is x)
one_or Means default value is (x ∷ y ∷ more) few = absurd (omega (arith, few))

at_most : {A B : Type 0} (Means : A → B → Type 0) (IsAbsent : B → Type 0) (xs : List A) (v : B) → Singular Means IsAbsent xs v → AtMostOne xs
at_most Means IsAbsent [] v h = omega arith
at_most Means IsAbsent (x ∷ []) v h = omega arith
at_most Means IsAbsent (x ∷ y ∷ more) v h = absurd h

module _ {A B : Type 0} (take : Tree → List A) (id : ℕ) (Means : A → B → Type 0) (IsAbsent : B → Type 0) (items : List FieldItem) where
  few_on : (flat_map (λ (item : FieldItem). given_to take id item) items ≡ []) ⊎ ((v : B) × Singular Means IsAbsent (flat_map (λ (item : FieldItem). given_to take id item) items) v) → AtMostOne (values_of take id (fields_of items))
  few_on (inl none) = omega (arith, ap length (given_nothing take id items none))
  few_on (inr (v, h)) = at_most Means IsAbsent (values_of take id (fields_of items)) v (given_on take id Means IsAbsent items v h)

module _ (Spells : Spelling) (reads : ReadingOf) (ThenVarint : Part → List ℕ → Type 0) (Refuses : Part → Cause → List ℕ → Type 0) (R : ReadsExactly Spells reads ThenVarint Refuses) (P : PartLaws Spells ThenVarint Refuses) where
  laws : (m : ℕ) → FormatLaws (structs Spells m)
  laws m = struct_laws Spells reads ThenVarint Refuses R P m

  module _ (left : ℕ) where
    batch_values : (batch : Batch) (items : List FieldItem) → IsBatch batch (fields_of items) → (v : Values (batch_table Spells left)) × Mean (batch_table Spells left) (givens (batch_table Spells left) items) v
    batch_values batch items is =
        let process : Process = record { service = batch.service; tags = batch.tags } in
        let sequence = one_or Means (pos 0) (λ n. n) (λ n. refl) (values_of i64_in 3 (fields_of items)) is.sequence in (
          (process, (batch.spans, (sequence.0, (tt, tt)))),
          (
            inner_back struct_in 1 MeansProcess required items process is.process,
            (
              inner_back list_in 2 MeansSpans required items batch.spans is.spans,
              (given_back i64_in 3 Means (or_else (pos 0)) items sequence.0 sequence.1, (given_back struct_in 4 MeansNothing (λ v. Unit {0}) items tt (one_thing (values_of struct_in 4 (fields_of items)) is.stats), tt)),
            ),
          ),
        )
      where
        one_thing : (xs : List Fields) → AtMostOne xs → Singular MeansNothing (λ v. Unit {0}) xs tt
        one_thing [] few = tt
        one_thing (x ∷ []) few = tt
        one_thing (x ∷ y ∷ more) few = absurd (omega (arith, few))

    batch_end : (items : List FieldItem) → TableFound (batch_table Spells left) items → AtEnd Spells left (λ l. (x : Batch) × IsBatch x (fields_of l)) batch_ends items
    batch_end items (inl none, others) = inr (causes.Missing, (refl, inl (inner_nothing struct_in 1 items none)), λ m e. omega (arith, e.0))
    batch_end items (inr process, (inl none, others)) = inr (causes.Missing, (refl, inr (inner_nothing list_in 2 items none)), λ m e. omega (arith, e.0))
    batch_end items (inr process, (inr spans, (sequence, (stats, nothing)))) = inl (
      record { service = process.0.service; tags = process.0.tags; spans = spans.0 },
      record {
        process = inner_on struct_in 1 MeansProcess required items process.0 process.1;
        spans = inner_on list_in 2 MeansSpans required items spans.0 spans.1;
        sequence = few_on i64_in 3 Means (or_else (pos 0)) items sequence;
        stats = few_on struct_in 4 MeansNothing (λ v. Unit {0}) items stats;
      },
    )

    nothing_kind : Kind Spells left (λ item. given_to struct_in 4 item) MeansNothing nothing_wrong nothing_inside
    nothing_kind = record {
      right = λ x v means n h. h;
      clean = λ x v means comes place n h. h;
      above = λ x n h. absurd h;
      wrong = λ x. inl (λ n h. h);
      inside = λ x comes right. inl (λ place n h. h);
      some = λ x comes right inner. (tt, tt);
    }

    abbrev batch_rows : TableProof Spells left (batch_table Spells left)
    batch_rows = (
      structure_proof Spells reads ThenVarint Refuses R P IsProcess (process_rules Spells (left - 1)) left 1 (process_struct Spells reads ThenVarint Refuses R P (left - 1)) required,
      (
        structures_proof Spells reads ThenVarint Refuses R P IsJSpan (jspan_rules Spells (left - 2)) left 2 (span_struct Spells reads ThenVarint Refuses R P (left - 2)) required,
        (
          long_proof Spells left 3 Means nothing_wrong (or_else (pos 0)) (means_kind Spells left _),
          (
            row_proof Spells left (λ item. given_to struct_in 4 item) MeansNothing nothing_wrong nothing_inside nothing_kind (λ v. Unit {0}) 4 (λ item x gives. (given_is struct_in 4 item x gives).0)
                (given_apart struct_in 4) (λ item. given_few struct_in struct_few 4 item),
            tt,
          ),
        ),
      ),
    )

    pub batch_struct : StructProof Spells left IsBatch (batch_rules Spells left)
    batch_struct =
        struct_proof Spells left (laws left) (batch_table Spells left) batch_rows refl batch_ends (batch_laws Spells laws left) IsBatch
        (record {
          values = batch_values;
          clean = λ batch items is n e. both_held MeansProcess MeansSpans (values_of struct_in 1 (fields_of items)) (values_of list_in 2 (fields_of items)) (record { service = batch.service; tags = batch.tags }) batch.spans is.process is.spans n e;
        }) batch_end

  pub one_batch : OneBatch Spells
  one_batch = record {
    once = λ text a b h k.
        let same = (one_fields Spells reads ThenVarint Refuses R k.fields h.fields outer_levels (pos 0) text [] [] k.struct_text h.struct_text).0 in
        batch_once h.fields a b h.means (subst (λ (f : Fields). IsBatch b f) same k.means);
    fine = λ batch text is place number. (batch_struct outer_levels).fine batch is.fields text is.struct_text is.means place number;
  }

  pub some_batch : SomeBatch Spells
  some_batch fields text stands = of ((batch_struct outer_levels).some fields text stands)
    where
      of : ((batch : Batch) × IsBatch batch fields) ⊎ ((cause : Cause) × Least (BatchOffends Spells text) (cause_number cause))
          → ((batch : Batch) × IsBatchText Spells batch text) ⊎ ((cause : Cause) × Least (BatchOffends Spells text) (cause_number cause))
      of (inl (batch, is)) = inl (batch, record { fields = fields; struct_text = stands; means = is })
      of (inr least) = inr least

-- what reading a batch answers
pub only_batch : (Spells : Spelling) (text : List ℕ) → OneBatch Spells → (answer : Result Batch (Halt Cause)) → IfOk answer (λ batch. IsBatchText Spells batch text) → Judges answer (BatchOffends Spells text)
    → (batch : Batch) → IsBatchText Spells batch text → OnlyReads answer batch
only_batch Spells text one (Ok read) value judged batch is = one.once text read batch value is
only_batch Spells text one (Err (halts.Why cause)) value judged batch is = one.fine batch text is judged.place (cause_number cause) judged.offence
only_batch Spells text one (Err halts.OutOfMemory) value judged batch is = tt
