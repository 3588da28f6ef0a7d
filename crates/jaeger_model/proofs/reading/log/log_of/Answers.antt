use Rattle.std.proofs.Common.{refl, inl, inr, arith}
use Rattle.thrift_core.specs.FieldValues.{values_of, i64_in, list_in}
use Rattle.thrift_core.specs.Messages.{fields_of}
use Rattle.jaeger_model.specs.private.ListsSoFar.{MeansEach}
use Rattle.jaeger_model.specs.Log.{MeansTags}
use Rattle.jaeger_model.specs.Meanings.{MeansTime}
use Rattle.jaeger_model.specs.Tag.{IsTag}
use Rattle.jaeger_model.proofs.FieldLemmas.{required_held}
use Rattle.jaeger_model.proofs.LogLemmas.{list_required, no_field, no_list, both_held}
use Rattle.jaeger_model.proofs.reading.log.log_of.Goals as goal

pub returns-clause-value : goal.returns-clause-value
returns-clause-value g c = λ left items gathered. record {
  time = required_held i64_in 1 MeansTime items c.args.rows.time c.in-Some.time c.in-Some.is gathered.time;
  tags = list_required IsTag 2 items c.args.rows.fields c.in-Some-fields.fields c.in-Some-fields.is gathered.fields;
}

pub returns-clause-ended : goal.returns-clause-ended
returns-clause-ended g c = λ left items gathered.
    both_held MeansTime MeansTags (values_of i64_in 1 (fields_of items)) (values_of list_in 2 (fields_of items)) c.in-Some.time c.in-Some-fields.fields
    (required_held i64_in 1 MeansTime items c.args.rows.time c.in-Some.time c.in-Some.is gathered.time) (list_required IsTag 2 items c.args.rows.fields c.in-Some-fields.fields c.in-Some-fields.is gathered.fields)

pub returns-in_default-clause-ended : goal.returns-in_default-clause-ended
returns-in_default-clause-ended g c = λ left items gathered. ((refl, inl (no_field i64_in 1 MeansTime items c.args.rows.time c.in_default.is gathered.time)), λ n e. omega (arith, e.0))

pub returns-in_default-fields-clause-ended : goal.returns-in_default-fields-clause-ended
returns-in_default-fields-clause-ended g c = λ left items gathered. ((refl, inr (no_list (MeansEach IsTag) 2 items c.args.rows.fields c.in_default-fields.is gathered.fields)), λ n e. omega (arith, e.0))
