use Rattle.std.proofs.Common.{ℤ, Some, sym, ap, ◌∙◌, to_z, of_z, w64, rules}
use Rattle.std.proofs.lemmas.Int.{to_z-of_z}
use Rattle.thrift_core.specs.FieldValues.{i32_in, i64_in}
use Rattle.jaeger_model.specs.Meanings.{Means, MeansEnum}
use Rattle.jaeger_model.specs.Reference.{reference_number}
use Rattle.jaeger_model.proofs.FieldLemmas.{required_held}
use Rattle.jaeger_model.proofs.reading.reference.reference_of.Goals as goal

pub returns-clause-value : goal.returns-clause-value
returns-clause-value c = λ items gathered.
    let low = c.in-Some-low.is ∙ ap (λ (n : ℤ). Some n) (sym (to_z-of_z w64 c.in-Some-low.low (record { sfits = search rules }))) in
    let high = c.in-Some-high.is ∙ ap (λ (n : ℤ). Some n) (sym (to_z-of_z w64 c.in-Some-high.high (record { sfits = search rules }))) in
    let span = c.in-Some-span.is ∙ ap (λ (n : ℤ). Some n) (sym (to_z-of_z w64 c.in-Some-span.span (record { sfits = search rules }))) in
    record {
      child_of = c.in-Some.child_of;
      kind = required_held i32_in 1 (MeansEnum reference_number) items c.args.rows.now.child_of c.in-Some.child_of c.in-Some.is gathered.child_of;
      low = to_z w64 (of_z w64 c.in-Some-low.low);
      its_low = required_held i64_in 2 Means items c.args.rows.now.low _ low gathered.low;
      high = to_z w64 (of_z w64 c.in-Some-high.high);
      its_high = required_held i64_in 3 Means items c.args.rows.now.high _ high gathered.high;
      span = to_z w64 (of_z w64 c.in-Some-span.span);
      its_span = required_held i64_in 4 Means items c.args.rows.now.span _ span gathered.span;
      pointed = c.pointed.ensures;
    }
