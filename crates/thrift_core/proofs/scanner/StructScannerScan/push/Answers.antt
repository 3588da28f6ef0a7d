use Rattle.std.proofs.Common.{refl, arith}
use Rattle.thrift_core.proofs.StructPushes.{seen_nothing, refused_exactly, refused_framed, needs_exactly, needs_framed, needs_on, ends_exactly, ends_framed, ends_within}
use Rattle.thrift_core.proofs.scanner.StructScannerScan.push.Goals as goal

pub returns-in-None-clause-exact : goal.returns-in-None-clause-exact
returns-in-None-clause-exact g c = λ bytes seen.
    needs_exactly g.P.Parts.spells g.P.Parts.reads g.P.Parts.then_varint g.P.Parts.refuses g.met.P.Parts.reads_exactly g.met.P.Parts.part_laws
    c.args.self.now.limit c.args.self.now.size c.args.self.now.refused c.args.self.now.at c.args.piece.now c.min-taken.result (omega (arith, c.min-taken.ensures, c.saturating_sub.ensures))
    c.in-Err.halted c.resume.new.at c.in-Err.ensures c.in-None.ensures.told bytes seen

pub returns-in-None-clause-frame : goal.returns-in-None-clause-frame
returns-in-None-clause-frame g c = λ bytes seen.
    needs_framed g.P.Parts.spells g.P.Parts.reads g.P.Parts.then_varint g.P.Parts.refuses g.met.P.Parts.reads_exactly g.met.P.Parts.part_laws
    c.args.self.now.limit c.args.self.now.size c.args.self.now.refused c.args.self.now.at c.args.piece.now c.min-taken.result (omega (arith, c.min-taken.ensures, c.saturating_sub.ensures))
    c.in-Err.halted c.resume.new.at c.in-Err.ensures c.in-None.ensures.told bytes seen

pub returns-in-None-clause-stands : goal.returns-in-None-clause-stands
returns-in-None-clause-stands g c = λ bytes seen.
    needs_on g.P.Parts.spells g.P.Parts.reads g.P.Parts.then_varint g.P.Parts.refuses g.met.P.Parts.reads_exactly g.met.P.Parts.part_laws
    c.args.self.now.limit c.args.self.now.size c.args.self.now.refused c.args.self.now.at c.args.piece.now c.min-taken.result (omega (arith, c.min-taken.ensures, c.saturating_sub.ensures))
    c.in-Err.halted c.resume.new.at c.in-Err.ensures c.in-None.ensures.told (c.in-None.ensures.short refl) bytes seen

pub returns-in-Some-refusal-clause-exact : goal.returns-in-Some-refusal-clause-exact
returns-in-Some-refusal-clause-exact g c = λ bytes seen.
    refused_exactly g.P.Parts.spells g.P.Parts.reads g.P.Parts.then_varint g.P.Parts.refuses g.met.P.Parts.reads_exactly g.met.P.Parts.part_laws
    c.args.self.now.limit c.args.self.now.size c.args.self.now.refused c.args.self.now.at c.args.piece.now c.min-taken.result (omega (arith, c.min-taken.ensures, c.saturating_sub.ensures))
    c.in-Err.halted c.resume.new.at c.in-Err.ensures c.in-Some-refusal.cause c.in-Some-refusal.ensures.told bytes seen

pub returns-in-Some-refusal-clause-frame : goal.returns-in-Some-refusal-clause-frame
returns-in-Some-refusal-clause-frame g c = λ bytes seen.
    refused_framed g.P.Parts.spells g.P.Parts.reads g.P.Parts.then_varint g.P.Parts.refuses g.met.P.Parts.reads_exactly g.met.P.Parts.part_laws
    c.args.self.now.limit c.args.self.now.size c.args.self.now.refused c.args.self.now.at c.args.piece.now c.min-taken.result (omega (arith, c.min-taken.ensures, c.saturating_sub.ensures))
    c.in-Err.halted c.resume.new.at c.in-Err.ensures c.in-Some-refusal.cause c.in-Some-refusal.ensures.told bytes seen

pub returns-in-Ok-clause-exact : goal.returns-in-Ok-clause-exact
returns-in-Ok-clause-exact g c = λ bytes seen.
    ends_exactly g.P.Parts.spells g.P.Parts.reads g.P.Parts.then_varint g.P.Parts.refuses g.met.P.Parts.reads_exactly g.met.P.Parts.part_laws
    c.args.self.now.limit c.args.self.now.size c.args.self.now.refused c.args.self.now.at c.args.piece.now c.min-taken.result (omega (arith, c.min-taken.ensures, c.saturating_sub.ensures))
    c.in-Ok.n c.resume.new.at c.in-Ok.ensures bytes seen

pub returns-in-Ok-clause-frame : goal.returns-in-Ok-clause-frame
returns-in-Ok-clause-frame g c = λ bytes seen.
    ends_framed g.P.Parts.spells g.P.Parts.reads g.P.Parts.then_varint g.P.Parts.refuses g.met.P.Parts.reads_exactly g.met.P.Parts.part_laws
    c.args.self.now.limit c.args.self.now.size c.args.self.now.refused c.args.self.now.at c.args.piece.now c.min-taken.result (omega (arith, c.min-taken.ensures, c.saturating_sub.ensures))
    c.in-Ok.n c.resume.new.at c.in-Ok.ensures bytes seen

pub returns-in-Ok-clause-within : goal.returns-in-Ok-clause-within
returns-in-Ok-clause-within g c = λ bytes seen.
    ends_within g.P.Parts.spells g.P.Parts.reads g.P.Parts.then_varint g.P.Parts.refuses g.met.P.Parts.reads_exactly g.met.P.Parts.part_laws
    c.args.self.now.limit c.args.self.now.size c.args.self.now.refused c.args.self.now.at c.args.piece.now c.min-taken.result (omega (arith, c.min-taken.ensures, c.saturating_sub.ensures))
    c.in-Ok.n c.resume.new.at c.in-Ok.ensures bytes seen

pub returns-in-Ok-clause-stands : goal.returns-in-Ok-clause-stands
returns-in-Ok-clause-stands g c = λ bytes seen.
    seen_nothing g.P.Parts.spells g.P.Parts.then_varint c.args.self.now.limit 0 c.args.self.now.refused c.restart.new.self seen.going refl c.restart.ensures
