use Rattle.std.proofs.Common.{ℕ, ◌+◌, List, length, take, Err, refl, ap, subst, ◌∙◌, arith}
use Rattle.std.proofs.lemmas.List.{length-take}
use Rattle.std.proofs.lemmas.Result.{err_from_is_err_and}
use Rattle.http_conn.specs.Heads.{EndsAt, EndsFirstAt, EndsNowhere}
use Rattle.http_conn.proofs.SendLemmas.{exit_full, exit_head, exit_nothing, exit_read, known_before, waits_more, waits_start}
use Rattle.http_conn.proofs.send.read_answer.Goals as goal

pub pieces-init : goal.pieces-init
pieces-init g c = record { size = refl; fits = omega arith; waits = waits_start (g.C.Duplex.link c.args.conn.now) }

pub returns-in_err-given : goal.returns-in_err-given
returns-in_err-given g c =
    let bytes = take c.pieces.count c.pieces.buffer in
    let p = err_from_is_err_and c.from_residual.result c.from_residual.ensures.1 in
    let e = exit_read (length c.args.buffer.now) c.gains_then.ensures (g.C.Duplex.link c.args.conn.now) (g.C.Duplex.link c.pieces.conn)
    (g.C.Duplex.link c.read_behind.new.conn) bytes c.in_err-given.field-0.0 c.pieces.invariant.waits c.in_err-given.ensures
    (omega (arith, length-take c.pieces.count c.pieces.buffer, c.pieces.invariant.fits, c.pieces.invariant.size)) in
    record { reads = rw (p.1 ∙ ap Err p.2) e.reads; mark = e.mark }

pub returns-then-given-eq0 : goal.returns-then-given-eq0
returns-then-given-eq0 g c =
    let bytes = take c.pieces.count c.pieces.buffer in
    let new = take (c.pieces.count + c.in_ok-given.given) c.read_behind.new.buffer in
    let read = c.in_ok-given.ensures in
    let e = exit_nothing (length c.args.buffer.now) c.gains_then.ensures (g.C.Duplex.link c.args.conn.now) (g.C.Duplex.link c.pieces.conn)
    (g.C.Duplex.link c.read_behind.new.conn) bytes new c.in_ok-given.given c.pieces.invariant.waits read.reads c.if-given-eq0.true
    (omega (arith, length-take (c.pieces.count + c.in_ok-given.given) c.read_behind.new.buffer, read.fits, c.read_behind.auto.buffer, c.pieces.invariant.size)) in
    record { reads = e.reads; mark = e.mark }

pub find_end-requires : goal.find_end-requires
find_end-requires g c = λ k lt e.
    let bytes = take c.pieces.count c.pieces.buffer in
    let new = take (c.pieces.count + c.in_ok-given.given) c.read_behind.new.buffer in
    known_before (g.C.Duplex.link c.args.conn.now) (g.C.Duplex.link c.pieces.conn) (g.C.Duplex.link c.read_behind.new.conn) bytes new c.in_ok-given.given
    c.pieces.invariant.waits c.in_ok-given.ensures.reads k
    (omega (arith, lt, c.saturating_sub.ensures, length-take c.pieces.count c.pieces.buffer, c.pieces.invariant.fits))
    (subst (λ (l : List ℕ). EndsAt l k) c.front-bytes.ensures e)

pub returns-in-Some : goal.returns-in-Some
returns-in-Some g c =
    let bytes = take c.pieces.count c.pieces.buffer in
    let new = take (c.pieces.count + c.in_ok-given.given) c.read_behind.new.buffer in
    let read = c.in_ok-given.ensures in
    let e = exit_head (length c.args.buffer.now) c.gains_then.ensures (g.C.Duplex.link c.args.conn.now) (g.C.Duplex.link c.pieces.conn)
    (g.C.Duplex.link c.read_behind.new.conn) bytes new c.front.result.now c.in_ok-given.given c.in-Some.place c.read_status.result
    c.pieces.invariant.waits read.reads (omega (arith, c.if-given-eq0.false))
    (omega (arith, length-take (c.pieces.count + c.in_ok-given.given) c.read_behind.new.buffer, read.fits, c.read_behind.auto.buffer, c.pieces.invariant.size))
    (subst (λ (l : List ℕ). EndsFirstAt l c.in-Some.place) c.front-bytes.ensures c.in-Some.ensures.some)
    (c.front.ensures ∙ ap (take (c.in-Some.place + 4)) c.front-bytes.ensures) c.read_status.ensures.some c.read_status.ensures.only in
    record { reads = e.reads; mark = e.mark }

pub pieces-preserved : goal.pieces-preserved
pieces-preserved g c =
    let bytes = take c.pieces.count c.pieces.buffer in
    let new = take (c.pieces.count + c.in_ok-given.given) c.read_behind.new.buffer in
    let read = c.in_ok-given.ensures in
    record {
      size = c.read_behind.auto.buffer ∙ c.pieces.invariant.size;
      fits = read.fits;
      waits = waits_more (g.C.Duplex.link c.args.conn.now) (g.C.Duplex.link c.pieces.conn) (g.C.Duplex.link c.read_behind.new.conn) bytes new
          c.in_ok-given.given c.pieces.invariant.waits read.reads (omega (arith, c.if-given-eq0.false))
          (subst (λ (l : List ℕ). EndsNowhere l) c.front-bytes.ensures c.in_default.ensures.none);
    }

pub returns : goal.returns
returns g c =
    let bytes = take c.pieces.count c.pieces.buffer in
    let e = exit_full (length c.args.buffer.now) c.gains_then.ensures (g.C.Duplex.link c.args.conn.now) (g.C.Duplex.link c.pieces.conn) bytes
    c.pieces.invariant.waits
    (omega (arith, length-take c.pieces.count c.pieces.buffer, c.pieces.invariant.fits, c.pieces.invariant.size, c.pieces-test.false)) in
    record { reads = e.reads; mark = e.mark }
