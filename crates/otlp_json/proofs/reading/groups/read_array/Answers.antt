use Rattle.std.proofs.Common.{sym, rules, arith}
use Rattle.serde_json.specs.View.{items_of}
use Rattle.json_nodes.specs.Lents.{elements_left}
use Rattle.span_io.proofs.PathLaws.{exits_input}
use Rattle.json_members.proofs.CountedLaws.{array_values}
use Rattle.json_members.proofs.ElementLaws.{items_listed, clean_array, refuses_array}
use Rattle.otlp_json.specs.Group.{group_offends}
use Rattle.otlp_json.proofs.reading.groups.read_array.Goals as goal

pub returns-in_err-groups-clause-judged : goal.returns-in_err-groups-clause-judged
returns-in_err-groups-clause-judged c =
    exits_input c.in_err-groups.field-0.0 _ _ (search rules)
    (refuses_array group_offends _ _ c.in-Some.ensures _ c.in_err-groups.ensures.judged)

pub returns-clause-value : goal.returns-clause-value
returns-clause-value c = record {
  held = items_of (elements_left c.in-Some.elements);
  shape = sym c.in-Some.ensures;
  means = rw items_listed c.in_ok-groups.ensures.value;
}

pub returns-clause-judged : goal.returns-clause-judged
returns-clause-judged c = clean_array group_offends _ _ c.in-Some.ensures c.in_ok-groups.ensures.judged

pub read_each-requires : goal.read_each-requires
read_each-requires c =
    let whole = array_values _ _ (sym c.in-Some.ensures) in record { counted = omega (arith, c.requires.counted, whole) }
