use Rattle.std.proofs.Common.{sym, rules, arith}
use Rattle.span_io.proofs.PathLaws.{exits}
use Rattle.json_members.proofs.CountedLaws.{array_values}
use Rattle.json_members.proofs.ElementLaws.{clean_array, halts_array}
use Rattle.otlp_json.proofs.ListLemmas.{found_given}
use Rattle.otlp_json.proofs.reading.lists.rows_in.Goals as goal

pub returns-in_err-rows-clause-judged : goal.returns-in_err-rows-clause-judged
returns-in_err-rows-clause-judged g c =
    exits c.in_err-rows.field-0.0 _ _ (search rules)
    (halts_array g.R.Rows.offends _ _ c.in-Some.ensures _ c.in_err-rows.ensures.judged)

pub returns-clause-value : goal.returns-clause-value
returns-clause-value g c =
    found_given g.R.Rows.means (g.R.Rows.told c.args.number) _ _ _ c.in-Some.ensures c.in_ok-rows.ensures.value

pub returns-clause-judged : goal.returns-clause-judged
returns-clause-judged g c = clean_array g.R.Rows.offends _ _ c.in-Some.ensures c.in_ok-rows.ensures.judged

pub read_rows-requires : goal.read_rows-requires
read_rows-requires g c =
    let whole = array_values _ _ (sym c.in-Some.ensures) in record { counted = omega (arith, c.requires.counted, whole) }
