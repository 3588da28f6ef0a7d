use Rattle.std.proofs.Common.{◌++◌, length}
use Rattle.http_conn.proofs.SendLemmas.{answered_behind, failed_behind, mark_behind, not_answered_behind, mark_unread}
use Rattle.http_conn.proofs.send.exchange.Goals as goal

pub returns-in_default : goal.returns-in_default
returns-in_default g c = record {
  sends = c.in_default.ensures;
  mark = mark_unread (g.C.Duplex.link c.args.conn.now) (g.C.Duplex.link c.send_both.new.conn) (c.args.first.now ++ c.args.second.now) c.in_default.ensures.inlet;
}

pub returns-in-Ok-Some : goal.returns-in-Ok-Some
returns-in-Ok-Some g c =
    let before = g.C.Duplex.link c.args.conn.now in
    let middle = g.C.Duplex.link c.send_both.new.conn in
    let now = g.C.Duplex.link c.read_answer.new.conn in
    let text = c.args.first.now ++ c.args.second.now in
    record {
      sends = answered_behind (length c.args.buffer.now) c.gains_then.ensures before middle now text c.in-Ok.ensures c.in-Ok-Some.status (rw c.in-Ok-Some.field-0-is at c.in-Ok-Some.ensures).reads;
      mark = mark_behind (length c.args.buffer.now) c.gains_then.ensures before middle now text c.in-Ok.ensures c.read_answer.ensures.mark;
    }

pub returns-in-Ok-None : goal.returns-in-Ok-None
returns-in-Ok-None g c =
    let before = g.C.Duplex.link c.args.conn.now in
    let middle = g.C.Duplex.link c.send_both.new.conn in
    let now = g.C.Duplex.link c.read_answer.new.conn in
    let text = c.args.first.now ++ c.args.second.now in
    record {
      sends = not_answered_behind (length c.args.buffer.now) c.gains_then.ensures before middle now text c.in-Ok.ensures (rw c.in-Ok-None.field-0-is at c.in-Ok-None.ensures).reads;
      mark = mark_behind (length c.args.buffer.now) c.gains_then.ensures before middle now text c.in-Ok.ensures c.read_answer.ensures.mark;
    }

pub returns-in-Err : goal.returns-in-Err
returns-in-Err g c =
    let before = g.C.Duplex.link c.args.conn.now in
    let middle = g.C.Duplex.link c.send_both.new.conn in
    let now = g.C.Duplex.link c.read_answer.new.conn in
    let text = c.args.first.now ++ c.args.second.now in
    record {
      sends = failed_behind (length c.args.buffer.now) c.gains_then.ensures before middle now text c.in-Ok.ensures c.in-Err.ensures.reads;
      mark = mark_behind (length c.args.buffer.now) c.gains_then.ensures before middle now text c.in-Ok.ensures c.read_answer.ensures.mark;
    }
