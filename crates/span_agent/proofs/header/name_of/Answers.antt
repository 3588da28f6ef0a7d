use Rattle.std.proofs.Common.{ap, refl}
use Rattle.span_io.specs.Walks.{Walk}
use Rattle.span_agent.specs.Headers.{NameThen}
use Rattle.span_agent.proofs.HeaderLemmas.{no_name, none_found, one_name, taken_name}
use Rattle.span_agent.proofs.header.name_of.Goals as goal

pub returns-in-Ok : goal.returns-in-Ok
returns-in-Ok c =
    let behind = ap (λ (w : Walk). w.rest) c.in-Ok.ensures.ok in
    record {
      found = taken_name c.args.size c.args.c.now.rest c.in-Ok.name.now c.take.new.self.rest (λ few. let never = c.in-Ok.ensures.short.1 few in cc) c.in-Ok.ensures.value behind;
      only = λ name rest h. one_name c.args.size c.args.c.now.rest c.in-Ok.name.now c.take.new.self.rest name rest c.in-Ok.ensures.value behind h;
    }

pub returns-in-Err : goal.returns-in-Err
returns-in-Err c = none_found (λ name whole rest. NameThen c.args.size name whole rest) _ _ (λ name rest h.
    no_name c.args.size c.args.c.now.rest name rest (c.in-Err.ensures.short.0 refl) h)
