use Rattle.std.proofs.Common.{◌≡◌, ◌<◌, ◌≤◌, ◌+◌, false, true, length, slice_index, ap, sym, arith}
use Rattle.proto_wire.proofs.ShortRecords.{short_at}
use Rattle.proto_wire.proofs.reading.short_record.Goals as goal

pub returns-clause-some : goal.returns-clause-some
returns-clause-some c =
    let size : c.from.result ≡ slice_index c.rest.result.now 1 = c.from.ensures in
    let further = c.in-Ok.ensures.ok in
    let enough : length c.args.c.now.rest < 2 + c.from.result → ⊥ = λ h. absurd (let clash : false ≡ true = c.in-Ok.ensures.short.1 h in cc) in
    let fits : 2 + slice_index c.rest.result.now 1 ≤ length c.rest.result.now = omega (arith, enough, size, ap length c.rest.ensures) in
    let taken = c.in-Ok.ensures.value in
    rw (c.from-2.ensures, further, size, sym c.rest.ensures)
    (short_at c.rest.result.now c.in-Ok.taken.now c.in-len2-up.len_at_least (omega arith) (omega arith) (omega arith) (omega arith) fits (rw (sym size, c.rest.ensures) taken))
