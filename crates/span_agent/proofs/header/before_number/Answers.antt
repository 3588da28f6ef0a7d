use Rattle.std.proofs.Common.{ap, refl, sym}
use Rattle.span_io.specs.Walks.{Walk}
use Rattle.span_agent.proofs.HeaderLemmas.{no_four, one_four, taken_four}
use Rattle.span_agent.proofs.header.before_number.Goals as goal

pub returns-in-Ok : goal.returns-in-Ok
returns-in-Ok c =
    let behind = ap (λ (w : Walk). w.rest) c.in-Ok.ensures.ok in
    record {
      found = (refl, taken_four c.args.c.now.rest c.take.new.self.rest (λ few. let never = c.in-Ok.ensures.short.1 few in cc) behind);
      only = λ name rest h. (sym h.0, one_four c.args.c.now.rest c.take.new.self.rest rest behind h.1);
    }

pub returns-in-Err : goal.returns-in-Err
returns-in-Err c = record { found = tt; only = λ name rest h. absurd (no_four c.args.c.now.rest rest (c.in-Err.ensures.short.0 refl) h.1) }
