use Rattle.std.proofs.Common.{rules, sym, subst}
use Rattle.span_io.specs.Outside.{GrowsFront}
use Rattle.jaeger_model.specs.private.Growing.{GrowsBy}
use Rattle.jaeger_model.proofs.Growth.{exits, front_behind, seq, stop}
use Rattle.jaeger_model.proofs.SpanPieces.{span_pieces}
use Rattle.jaeger_model.proofs.writing.spans.JSpanStructure.write_fields.Goals as goal

pub returns-in_err-write_identity : goal.returns-in_err-write_identity
returns-in_err-write_identity g c = λ left.
    exits c.from_residual.result c.in_err-write_identity.field-0.0 _ _ _ (search rules)
    (subst (λ l. GrowsFront c.args.out.now c.write_identity.new.out l) (sym (span_pieces g.P.Parts.keeps g.P.Parts.writes c.args.self.now left))
    (stop _ _ _ _ (c.in_err-write_identity.ensures left)))

pub returns-in_err-write_references_and_flags : goal.returns-in_err-write_references_and_flags
returns-in_err-write_references_and_flags g c = λ left.
    exits c.from_residual-in_err-write_references_and_flags.result c.in_err-write_references_and_flags.field-0.0 _ _ _ (search rules)
    (subst (λ l. GrowsFront c.args.out.now c.write_references_and_flags.new.out l) (sym (span_pieces g.P.Parts.keeps g.P.Parts.writes c.args.self.now left))
    (front_behind _ _ _ _ _ (c.in_ok-write_identity.ensures left)
    (stop _ _ _ _ (c.in_err-write_references_and_flags.ensures left))))

pub returns-in_err-write_times : goal.returns-in_err-write_times
returns-in_err-write_times g c = λ left.
    exits c.from_residual-in_err-write_times.result c.in_err-write_times.field-0.0 _ _ _ (search rules)
    (subst (λ l. GrowsFront c.args.out.now c.write_times.new.out l) (sym (span_pieces g.P.Parts.keeps g.P.Parts.writes c.args.self.now left))
    (front_behind _ _ _ _ _ (c.in_ok-write_identity.ensures left)
    (front_behind _ _ _ _ _ (c.in_ok-write_references_and_flags.ensures left)
    (stop _ _ _ _ (c.in_err-write_times.ensures left)))))

pub returns : goal.returns
returns g c = λ left.
    subst (λ l. GrowsBy c.write_tags_and_logs.result c.args.out.now c.write_tags_and_logs.new.out l) (sym (span_pieces g.P.Parts.keeps g.P.Parts.writes c.args.self.now left))
    (seq c.write_tags_and_logs.result _ _ _ _ _ (c.in_ok-write_identity.ensures left)
    (seq c.write_tags_and_logs.result _ _ _ _ _ (c.in_ok-write_references_and_flags.ensures left)
    (seq c.write_tags_and_logs.result _ _ _ _ _ (c.in_ok-write_times.ensures left) (c.write_tags_and_logs.ensures left))))
