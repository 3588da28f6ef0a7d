use Rattle.std.proofs.Common.{List, ℕ, ◌++◌, ap, ◌∙◌}
use Rattle.std.proofs.lemmas.Result.{on_ok_weaker}
use Rattle.http_conn.specs.Replies.{type_line}
use Rattle.http_conn.proofs.AnswerLemmas.{head_written}
use Rattle.http_conn.proofs.post.write_head.Goals as goal

pub returns : goal.returns
returns c =
    on_ok_weaker c.append.result
    (head_written c.args.address.now c.args.form c.args.count c.args.out.now c.write_line.new.out c.in_ok-write_line.ensures
    c.write_host.new.out c.in_ok-write_host.ensures c.write_type.new.out
    (c.in_ok-write_type.ensures.ok ∙ ap (λ (l : List ℕ). c.write_host.new.out ++ type_line l) (c.as_bytes.ensures.value ∙ c.type_of.ensures))
    c.write_length.new.out c.in_ok-write_length.ensures.ok c.write_close.new.out c.in_ok-write_close.ensures.ok c.append.new.self)
    c.append.ensures.ok
