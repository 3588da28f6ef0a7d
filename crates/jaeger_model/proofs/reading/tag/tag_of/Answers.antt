use Rattle.std.proofs.Common.{◌≡◌, pos, false, [], refl, sym, subst, ◌∙◌, to_z, of_z, w64, rules}
use Rattle.std.proofs.lemmas.Int.{to_z-of_z}
use Rattle.span_io.specs.Tables.{Singular, MeansText}
use Rattle.thrift_core.specs.FieldValues.{values_of, truth_in, i32_in, i64_in, double_in, binary_in}
use Rattle.thrift_core.specs.Messages.{fields_of}
use Rattle.jaeger_model.specs.Meanings.{Means, MeansEnum}
use Rattle.jaeger_model.specs.Tag.{no_double, tag_type_number}
use Rattle.jaeger_model.proofs.FieldLemmas.{required_held, optional_held, numbers_held}
use Rattle.jaeger_model.proofs.reading.tag.tag_of.Goals as goal

pub returns-clause-value : goal.returns-clause-value
returns-clause-value c = λ items gathered.
    let kind = numbers_held tag_type_number (values_of i32_in 2 (fields_of items)) c.in-Some.kind
    (required_held i32_in 2 (MeansEnum tag_type_number) items c.args.rows.kind c.in-Some.kind c.in-Some.is gathered.kind) in
    record {
      key = required_held binary_in 1 MeansText items c.args.rows.key c.in-Some-key.key c.in-Some-key.is gathered.key;
      kind = subst (λ k. Singular (λ n k'. n ≡ pos k') (λ x. ⊥) (values_of i32_in 2 (fields_of items)) k) (sym c.named_value-value.ensures.kind) kind;
      held = record {
        text = c.unwrap_or.result;
        double = c.unwrap_or-2.result;
        truth = c.unwrap_or-3.result;
        number = to_z w64 (of_z w64 c.unwrap_or-4.result);
        bytes = c.unwrap_or-5.result;
      };
      text = optional_held binary_in 3 MeansText items (λ t. t ≡ []) c.args.rows.text c.new.result c.unwrap_or.result c.unwrap_or.ensures c.new.ensures gathered.text;
      double = optional_held double_in 4 Means items (λ d. d ≡ no_double) c.args.rows.double no_double c.unwrap_or-2.result c.unwrap_or-2.ensures refl gathered.double;
      truth = optional_held truth_in 5 Means items (λ b. b ≡ false) c.args.rows.truth false c.unwrap_or-3.result c.unwrap_or-3.ensures refl gathered.truth;
      number = optional_held i64_in 6 Means items (λ n. n ≡ pos 0) c.args.rows.number (pos 0) (to_z w64 (of_z w64 c.unwrap_or-4.result))
          (to_z-of_z w64 c.unwrap_or-4.result (record { sfits = search rules }) ∙ c.unwrap_or-4.ensures) refl gathered.number;
      bytes = optional_held binary_in 7 Means items (λ b. b ≡ []) c.args.rows.bytes c.new-2.result c.unwrap_or-5.result c.unwrap_or-5.ensures c.new-2.ensures gathered.bytes;
      value = c.named_value-value.ensures.named;
    }
