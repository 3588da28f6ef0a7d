use Rattle.http_conn.proofs.FieldLemmas.{one_more, twice_more}
use Rattle.http_conn.proofs.fields.Once.and.Goals as goal

pub returns-in-At : goal.returns-in-At
returns-in-At c = λ values held. one_more c.args.self c.in-At.field-0 values c.args.value.now c.in-At.is held

pub returns-in-Twice : goal.returns-in-Twice
returns-in-Twice c = λ values held. twice_more c.args.self values c.args.value.now c.in-Twice.is held
