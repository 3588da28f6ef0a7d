use Rattle.std.proofs.Common.{refl}
use Rattle.span_relay.proofs.RunLemmas.{next_is}
use Rattle.span_relay.proofs.run.relay_next.Goals as goal

pub returns-clause-ok : goal.returns-clause-ok
returns-clause-ok g c =
    let e = c.relay_connection-ended.ensures in
    next_is c.args.to c.shipped.result c.relay_connection-ended.result _ _ _ _ _ _ _ c.shipped.ensures.values c.in_ok-conn.ensures.ok c.close.ensures e.rows
    (λ no_read no_write. record {
      adds = e.rows;
      is_kept = refl;
      full = e.full;
      refused = e.refused;
      each = e.each;
      served = e.served;
      read = e.read;
      write = e.write;
      memory = e.memory;
      answers = e.answers;
      causes = e.causes;
      mark = e.mark;
      no_read_fault = no_read;
      no_write_fault = no_write;
    })
