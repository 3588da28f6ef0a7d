use Rattle.std.proofs.Common.{◌++◌, codes}
use Rattle.std.specs.Fmt.{decimal}
use Rattle.httparse.specs.Ascii.{crlf_bytes}
use Rattle.http_conn.proofs.Growth.{both_err}
use Rattle.http_conn.proofs.reply.write_length.Goals as goal

pub returns-clause-err : goal.returns-clause-err
returns-clause-err c =
    both_err c.append_both.result c.args.out.now c.append.new.self c.append_both.new.self (codes "Content-Length: ") (decimal c.args.count ++ crlf_bytes)
    c.in_ok-append.ensures.ok c.append_both.ensures.err
