use Rattle.std.proofs.Common.{◌++◌, codes}
use Rattle.httparse.specs.Ascii.{crlf_bytes}
use Rattle.http_conn.proofs.Growth.{both_err, both_ok}
use Rattle.http_conn.proofs.reply.write_kind.Goals as goal

pub returns-clause-ok : goal.returns-clause-ok
returns-clause-ok c =
    both_ok c.append_both.result c.args.out.now c.append.new.self c.append_both.new.self (codes "Content-Type: ") (c.args.kind.now ++ crlf_bytes) c.in_ok-append.ensures.ok
    c.append_both.ensures.ok

pub returns-clause-err : goal.returns-clause-err
returns-clause-err c =
    both_err c.append_both.result c.args.out.now c.append.new.self c.append_both.new.self (codes "Content-Type: ") (c.args.kind.now ++ crlf_bytes) c.in_ok-append.ensures.ok
    c.append_both.ensures.err
