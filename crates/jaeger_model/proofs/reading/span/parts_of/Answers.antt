use Rattle.std.proofs.Common.{ℤ, Some, sym, ap, ◌∙◌, w32, w64, rules}
use Rattle.std.proofs.lemmas.Int.{to_z-of_z}
use Rattle.span_io.specs.Tables.{MeansText}
use Rattle.thrift_core.specs.FieldValues.{i32_in, i64_in, binary_in}
use Rattle.jaeger_model.specs.Meanings.{Means, MeansTime}
use Rattle.jaeger_model.specs.Log.{IsLog}
use Rattle.jaeger_model.specs.Tag.{IsTag}
use Rattle.jaeger_model.proofs.FieldLemmas.{required_held}
use Rattle.jaeger_model.proofs.SpanLemmas.{list_held, list_counted, references_held, references_counted}
use Rattle.jaeger_model.proofs.reading.span.parts_of.Goals as goal

pub returns-clause-value : goal.returns-clause-value
returns-clause-value g c = λ left items gathered. record {
  low = required_held i64_in 1 Means items c.args.rows.low _ (c.in_ok-ok_or.ensures.ok_part ∙ ap (λ (n : ℤ). Some n) (sym (to_z-of_z w64 c.in_ok-ok_or.field-0 (record { sfits = search rules })))) gathered.low;
  high = required_held i64_in 2 Means items c.args.rows.high _ (c.in_ok-ok_or-2.ensures.ok_part ∙ ap (λ (n : ℤ). Some n) (sym (to_z-of_z w64 c.in_ok-ok_or-2.field-0 (record { sfits = search rules })))) gathered.high;
  id = required_held i64_in 3 Means items c.args.rows.id _ (c.in_ok-ok_or-3.ensures.ok_part ∙ ap (λ (n : ℤ). Some n) (sym (to_z-of_z w64 c.in_ok-ok_or-3.field-0 (record { sfits = search rules })))) gathered.id;
  parent = required_held i64_in 4 Means items c.args.rows.parent _ (c.in_ok-ok_or-4.ensures.ok_part ∙ ap (λ (n : ℤ). Some n) (sym (to_z-of_z w64 c.in_ok-ok_or-4.field-0 (record { sfits = search rules })))) gathered.parent;
  name = required_held binary_in 5 MeansText items c.args.rows.name c.in_ok-ok_or-5.field-0 c.in_ok-ok_or-5.ensures.ok_part gathered.name;
  references = references_held items c.args.rows.references c.none.result c.unwrap_or.result c.unwrap_or.ensures c.none.ensures gathered.references;
  flags = required_held i32_in 7 Means items c.args.rows.flags _ (c.in_ok-ok_or-6.ensures.ok_part ∙ ap (λ (n : ℤ). Some n) (sym (to_z-of_z w32 c.in_ok-ok_or-6.field-0 (record { sfits = search rules })))) gathered.flags;
  start = required_held i64_in 8 MeansTime items c.args.rows.start c.in_ok-ok_or-7.field-0 c.in_ok-ok_or-7.ensures.ok_part gathered.start;
  duration = required_held i64_in 9 MeansTime items c.args.rows.duration c.in_ok-ok_or-8.field-0 c.in_ok-ok_or-8.ensures.ok_part gathered.duration;
  tags = list_held IsTag 10 items c.args.rows.tags c.new.result c.unwrap_or-2.result c.unwrap_or-2.ensures c.new.ensures gathered.tags;
  logs = list_held IsLog 11 items c.args.rows.logs c.new-2.result c.unwrap_or-3.result c.unwrap_or-3.ensures c.new-2.ensures gathered.logs;
}

pub returns-clause-counted : goal.returns-clause-counted
returns-clause-counted g c = λ left items gathered. record {
  logs = list_counted IsLog _ c.args.rows.logs c.new-2.result c.unwrap_or-3.result c.unwrap_or-3.ensures c.new-2.ensures gathered.logs;
  references = references_counted _ c.args.rows.references c.none.result c.unwrap_or.result c.unwrap_or.ensures c.none.ensures gathered.references;
}
