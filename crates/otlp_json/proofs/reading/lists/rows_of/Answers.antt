use Rattle.std.proofs.Common.{subst, arith}
use Rattle.json_nodes.specs.Lents.{lent_view as view}
use Rattle.json_members.proofs.CountedLaws.{found_fewer}
use Rattle.otlp_json.specs.private.Found.{AreGiven}
use Rattle.otlp_json.proofs.ListLemmas.{none_given}
use Rattle.otlp_json.proofs.reading.lists.rows_of.Goals as goal

pub returns-in_default-clause-value : goal.returns-in_default-clause-value
returns-in_default-clause-value g c =
    subst (λ o. AreGiven g.R.Rows.means (g.R.Rows.told c.args.number) o c.in_ok-rows.rows) c.in_default.ensures
    (none_given g.R.Rows.means (g.R.Rows.told c.args.number) _ (c.in_ok-rows.ensures.none c.args.number))

pub rows_in-requires : goal.rows_in-requires
rows_in-requires g c =
    let fewer = found_fewer c.args.name.now (view c.args.v.now) (view c.in-Some.found) c.in-Some.ensures in
    record { counted = omega (arith, c.requires.counted, fewer) }
