use Rattle.std.proofs.Common.{Some, ◌+◌, ap, sym, ◌∙◌, w64, rules, arith, refl}
use Rattle.std.proofs.lemmas.Int.{to_z-of_z}
use Rattle.thrift_core.specs.FieldValues.{values_of, i64_in}
use Rattle.thrift_core.specs.Messages.{fields_of}
use Rattle.jaeger_model.specs.Identifiers.{span_id_of, trace_id_of}
use Rattle.jaeger_model.proofs.SpanLemmas.{no_trace, no_id, ends_late, ends_well, fits_answer, whole_micros}
use Rattle.jaeger_model.proofs.reading.span.span_of_parts.Goals as goal

pub returns-in_default-clause-ended : goal.returns-in_default-clause-ended
returns-in_default-clause-ended c = λ items h.
    let high = to_z-of_z w64 c.args.parts.high (record { sfits = search rules }) in
    let low = to_z-of_z w64 c.args.parts.low (record { sfits = search rules }) in
    no_trace c.args.parts items h (sym (c.in_default.ensures ∙ λ i. trace_id_of (high i) (low i)))

pub returns-in_default-span_of-clause-ended : goal.returns-in_default-span_of-clause-ended
returns-in_default-span_of-clause-ended c = λ items h.
    let id = to_z-of_z w64 c.args.parts.id (record { sfits = search rules }) in
    no_id c.args.parts items h (sym (c.in_default-span_of.ensures ∙ ap span_id_of id))

pub returns-in_default-end_of-clause-ended : goal.returns-in_default-end_of-clause-ended
returns-in_default-end_of-clause-ended c = λ items h.
    let high = to_z-of_z w64 c.args.parts.high (record { sfits = search rules }) in
    let low = to_z-of_z w64 c.args.parts.low (record { sfits = search rules }) in
    let id = to_z-of_z w64 c.args.parts.id (record { sfits = search rules }) in
    ends_late c.args.parts _ _ (sym (c.in-Some.ensures ∙ λ i. trace_id_of (high i) (low i))) (sym (c.in-Some-span_of.ensures ∙ ap span_id_of id)) items h (omega (arith, c.in_default-end_of.ensures.none.0 refl))

pub returns-clause-ended : goal.returns-clause-ended
returns-clause-ended c = λ items h.
    let high = to_z-of_z w64 c.args.parts.high (record { sfits = search rules }) in
    let low = to_z-of_z w64 c.args.parts.low (record { sfits = search rules }) in
    let id = to_z-of_z w64 c.args.parts.id (record { sfits = search rules }) in
    let fits = fits_answer (c.args.parts.start + c.args.parts.duration) (Some c.in-Some-end_of.end) c.in-Some-end_of.end refl (λ high. c.in-Some-end_of.ensures.none.1 high) in
    ends_well c.args.parts _ _ (sym (c.in-Some.ensures ∙ λ i. trace_id_of (high i) (low i))) (sym (c.in-Some-span_of.ensures ∙ ap span_id_of id)) items h
    (whole_micros (values_of i64_in 8 (fields_of items)) (values_of i64_in 9 (fields_of items)) c.args.parts.start c.args.parts.duration h.start h.duration fits)
