-- Logs, processes and batches, in which structs stand: what their rows mean together.
use Rattle.std.proofs.Common.{◌-◌, ℕ, List, [], inl, inr, refl, arith}
use Rattle.std.specs.List.{flat_map}
use Rattle.span_io.specs.declared.cause.Cause.{Cause}
use Rattle.span_io.specs.declared.cause.Cause.TheVariants as causes
use Rattle.span_io.specs.Offences.{FormatLaws}
use Rattle.span_io.specs.Tables.{MeansText, NotText, Values, Mean, givens}
use Rattle.thrift_core.specs.FieldValues.{values_of, i64_in, binary_in, list_in}
use Rattle.thrift_core.specs.Messages.{FieldItem, structs, fields_of}
use Rattle.thrift_core.specs.Parts.{Part, Spelling}
use Rattle.thrift_core.specs.Protocols.{ReadsExactly, PartLaws}
use Rattle.thrift_core.specs.Reading.{ReadingOf}
use Rattle.thrift_core.proofs.StructLaws.{struct_laws}
use Rattle.thrift_core.specs.Trees.{Trees}
use Rattle.jaeger_model.proofs.LeafProofs.{tag_struct}
use Rattle.jaeger_model.proofs.LogLemmas.{log_laws, process_laws, both_held}
use Rattle.jaeger_model.proofs.RowKinds.{text_kind, time_kind, StructProof}
use Rattle.jaeger_model.proofs.StructProofs.{binary_proof, long_proof, structures_proof, struct_proof, given_back, given_on, inner_back, inner_on, some_held, found_or, given_nothing, inner_nothing}
use Rattle.jaeger_model.proofs.StructRows.{TableProof, TableFound, AtEnd}
use Rattle.jaeger_model.specs.declared.process.Process.{Process}
use Rattle.jaeger_model.specs.declared.span.Log.{Log}
use Rattle.jaeger_model.specs.InnerRows.{with_text}
use Rattle.jaeger_model.specs.Log.{MeansTags, IsLog, log_table, log_ends, log_rules}
use Rattle.jaeger_model.specs.Meanings.{MeansTime}
use Rattle.jaeger_model.specs.Process.{IsProcess, process_table, process_ends, process_rules}
use Rattle.jaeger_model.specs.Rows.{BadTime, given_to, required, or_else}
use Rattle.jaeger_model.specs.Tag.{IsTag, tag_rules}

module _ (Spells : Spelling) (reads : ReadingOf) (ThenVarint : Part → List ℕ → Type 0) (Refuses : Part → Cause → List ℕ → Type 0) (R : ReadsExactly Spells reads ThenVarint Refuses) (P : PartLaws Spells ThenVarint Refuses) where
  laws : (m : ℕ) → FormatLaws (structs Spells m)
  laws m = struct_laws Spells reads ThenVarint Refuses R P m

  module _ (left : ℕ) where
    -- ---- logs

    log_values : (log : Log) (items : List FieldItem) → IsLog log (fields_of items) → (v : Values (log_table Spells left)) × Mean (log_table Spells left) (givens (log_table Spells left) items) v
    log_values log items is =
        ((log.time, (log.fields, tt)), (given_back i64_in 1 MeansTime required items log.time is.time, (inner_back list_in 2 MeansTags required items log.fields is.tags, tt)))

    log_end : (items : List FieldItem) → TableFound (log_table Spells left) items → AtEnd Spells left (λ l. (x : Log) × IsLog x (fields_of l)) log_ends items
    log_end items (inl none, others) = inr (causes.Missing, (refl, inl (given_nothing i64_in 1 items none)), λ m e. omega (arith, e.0))
    log_end items (inr time, (inl none, others)) = inr (causes.Missing, (refl, inr (inner_nothing list_in 2 items none)), λ m e. omega (arith, e.0))
    log_end items (inr time, (inr tags, nothing)) = inl (
      record { time = time.0; fields = tags.0 },
      record { time = given_on i64_in 1 MeansTime required items time.0 time.1; tags = inner_on list_in 2 MeansTags required items tags.0 tags.1 },
    )

    abbrev log_rows : TableProof Spells left (log_table Spells left)
    log_rows = (
      long_proof Spells left 1 MeansTime BadTime required (time_kind Spells left _),
      (structures_proof Spells reads ThenVarint Refuses R P IsTag tag_rules left 2 (tag_struct Spells (left - 2) (laws (left - 2))) required, tt),
    )

    pub log_struct : StructProof Spells left IsLog (log_rules Spells left)
    log_struct =
        struct_proof Spells left (laws left) (log_table Spells left) log_rows refl log_ends (log_laws Spells laws left) IsLog
        (record {
          values = log_values;
          clean = λ log items is n e. both_held MeansTime MeansTags (values_of i64_in 1 (fields_of items)) (values_of list_in 2 (fields_of items)) log.time log.fields is.time is.tags n e;
        }) log_end

    -- ---- processes

    process_values : (process : Process) (items : List FieldItem) → IsProcess process (fields_of items) → (v : Values (process_table Spells left)) × Mean (process_table Spells left) (givens (process_table Spells left) items) v
    process_values process items is = (
      (process.service, (process.tags, tt)),
      (given_back binary_in 1 MeansText required items process.service is.service, (inner_back list_in 2 MeansTags (or_else []) items process.tags is.tags, tt)),
    )

    process_clean : (process : Process) (items : List FieldItem) → IsProcess process (fields_of items) → (n : ℕ) → process_ends items n → ⊥
    process_clean process items is n (e, inl none) =
        some_held MeansText (flat_map (λ (item : FieldItem). given_to binary_in 1 item) items) process.service (given_back binary_in 1 MeansText required items process.service is.service) none
    process_clean process items is n (e, inr none) = none

    process_end : (items : List FieldItem) → TableFound (process_table Spells left) items → AtEnd Spells left (λ l. (x : Process) × IsProcess x (fields_of l)) process_ends items
    process_end items (inl none, others) = inr (causes.Missing, (refl, inl none), λ m e. omega (arith, e.0))
    process_end items (inr service, (tags, nothing)) =
        let list = found_or (λ (held : Trees × List ℕ) v. MeansTags held.0 v) [] (flat_map (λ (item : FieldItem). with_text item.text (given_to list_in 2 item)) items) tags in
        inl (
          record { service = service.0; tags = list.0 },
          record { service = given_on binary_in 1 MeansText required items service.0 service.1; tags = inner_on list_in 2 MeansTags (or_else []) items list.0 list.1 },
        )

    abbrev process_rows : TableProof Spells left (process_table Spells left)
    process_rows = (
      binary_proof Spells left 1 MeansText NotText required (text_kind Spells left _),
      (structures_proof Spells reads ThenVarint Refuses R P IsTag tag_rules left 2 (tag_struct Spells (left - 2) (laws (left - 2))) (or_else []), tt),
    )

    pub process_struct : StructProof Spells left IsProcess (process_rules Spells left)
    process_struct =
        struct_proof Spells left (laws left) (process_table Spells left) process_rows refl process_ends (process_laws Spells laws left) IsProcess (record { values = process_values; clean = process_clean }) process_end
