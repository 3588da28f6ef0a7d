use Rattle.std.proofs.Common.{List, ℕ, ◌++◌, ap, subst, ◌∙◌}
use Rattle.std.proofs.lemmas.Result.{on_err_weaker, on_ok_weaker}
use Rattle.span_io.specs.Outside.{GrowsFront}
use Rattle.http_conn.specs.Replies.{type_line}
use Rattle.http_conn.proofs.AnswerLemmas.{all_written, at_close, at_length, at_status, at_type, none_behind}
use Rattle.http_conn.proofs.Growth.{on_err_from}
use Rattle.http_conn.proofs.reply.answer.Goals as goal

pub returns-in_err-write_status-clause-err : goal.returns-in_err-write_status-clause-err
returns-in_err-write_status-clause-err c =
    on_err_from c.from_residual.result (at_status c.args.status c.args.kind.now c.args.body.now c.args.close c.args.out.now c.write_status.new.out c.in_err-write_status.ensures.err)

pub returns-in_err-write_type-clause-err : goal.returns-in_err-write_type-clause-err
returns-in_err-write_type-clause-err c =
    on_err_from c.from_residual-in_err-write_type.result
    (at_type c.args.status c.args.kind.now c.args.body.now c.args.close c.args.out.now c.write_status.new.out c.in_ok-write_status.ensures.ok c.write_type.new.out
    (subst (λ (l : List ℕ). GrowsFront c.write_status.new.out c.write_type.new.out (type_line l)) c.as_bytes.ensures.value c.in_err-write_type.ensures.err))

pub returns-in_err-write_length-clause-err : goal.returns-in_err-write_length-clause-err
returns-in_err-write_length-clause-err c =
    on_err_from c.from_residual-in_err-write_length.result
    (at_length c.args.status c.args.kind.now c.args.body.now c.args.close c.args.out.now c.write_status.new.out c.in_ok-write_status.ensures.ok c.write_type.new.out
    (c.in_ok-write_type.ensures.ok ∙ ap (λ (l : List ℕ). c.write_status.new.out ++ type_line l) c.as_bytes.ensures.value) c.write_length.new.out c.in_err-write_length.ensures.err)

pub returns-in_err-write_close-clause-err : goal.returns-in_err-write_close-clause-err
returns-in_err-write_close-clause-err c =
    on_err_from c.from_residual-in_err-write_close.result
    (at_close c.args.status c.args.kind.now c.args.body.now c.args.close c.args.out.now c.write_status.new.out c.in_ok-write_status.ensures.ok c.write_type.new.out
    (c.in_ok-write_type.ensures.ok ∙ ap (λ (l : List ℕ). c.write_status.new.out ++ type_line l) c.as_bytes.ensures.value) c.write_length.new.out c.in_ok-write_length.ensures.ok
    c.write_close.new.out c.in_err-write_close.ensures.err)

pub returns-clause-ok : goal.returns-clause-ok
returns-clause-ok c =
    on_ok_weaker c.append_both.result
    (all_written c.args.status c.args.kind.now c.args.body.now c.args.close c.args.out.now c.write_status.new.out c.in_ok-write_status.ensures.ok c.write_type.new.out
    (c.in_ok-write_type.ensures.ok ∙ ap (λ (l : List ℕ). c.write_status.new.out ++ type_line l) c.as_bytes.ensures.value) c.write_length.new.out c.in_ok-write_length.ensures.ok
    c.write_close.new.out c.in_ok-write_close.ensures.ok c.append_both.new.self)
    c.append_both.ensures.ok

pub returns-clause-err : goal.returns-clause-err
returns-clause-err c =
    on_err_weaker c.append_both.result
    (none_behind c.args.status c.args.kind.now c.args.body.now c.args.close c.args.out.now c.write_status.new.out c.in_ok-write_status.ensures.ok c.write_type.new.out
    (c.in_ok-write_type.ensures.ok ∙ ap (λ (l : List ℕ). c.write_status.new.out ++ type_line l) c.as_bytes.ensures.value) c.write_length.new.out c.in_ok-write_length.ensures.ok
    c.write_close.new.out c.in_ok-write_close.ensures.ok c.append_both.new.self)
    c.append_both.ensures.err
