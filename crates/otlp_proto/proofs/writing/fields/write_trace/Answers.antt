use Rattle.std.proofs.Common.{List, ℕ, ◌++◌, ap, subst, ◌∙◌}
use Rattle.std.proofs.lemmas.Result.{on_ok_weaker, on_err_weaker}
use Rattle.span_io.specs.Outside.{GrowsFront}
use Rattle.otlp_proto.specs.Canonical.{bytes_field}
use Rattle.otlp_proto.proofs.writing.fields.write_trace.Goals as goal

pub returns-clause-ok : goal.returns-clause-ok
returns-clause-ok c = on_ok_weaker c.write_record.result (λ e. e ∙ ap (λ (l : List ℕ). c.args.out.now ++ bytes_field c.args.number l) c.to_bytes.ensures.written) c.write_record.ensures.ok

pub returns-clause-err : goal.returns-clause-err
returns-clause-err c =
    on_err_weaker c.write_record.result (λ front. subst (λ (l : List ℕ). GrowsFront c.args.out.now c.write_record.new.out (bytes_field c.args.number l)) c.to_bytes.ensures.written front) c.write_record.ensures.err
