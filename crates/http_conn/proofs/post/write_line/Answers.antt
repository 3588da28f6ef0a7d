use Rattle.std.proofs.Common.{◌++◌, codes}
use Rattle.http_conn.proofs.Growth.{both_ok}
use Rattle.http_conn.specs.Posts.{path_for}
use Rattle.http_conn.proofs.post.write_line.Goals as goal

pub returns : goal.returns
returns c =
    both_ok c.append_both.result c.args.out.now c.append.new.self c.append_both.new.self (codes "POST ") (path_for c.args.form ++ codes " HTTP/1.1\r\n")
    c.in_ok-append.ensures.ok (rw c.path_for.ensures at c.append_both.ensures.ok)
