use Rattle.std.proofs.Common.{subst, arith}
use Rattle.thrift_core.specs.Walks.{outer_struct}
use Rattle.thrift_core.specs.private.Halting.{HaltsAs}
use Rattle.thrift_core.specs.Stops.{StopsFor}
use Rattle.thrift_core.proofs.FirstStruct.{lacks_beyond, lacks_within, truncated_full, truncated_short, refused_at}
use Rattle.thrift_core.proofs.frame.refusal.Goals as goal

pub returns-then-many-saturating_sub-clause-told : goal.returns-then-many-saturating_sub-clause-told
returns-then-many-saturating_sub-clause-told g c = λ bytes size within halts.
    lacks_beyond g.P.Parts.spells g.P.Parts.reads g.P.Parts.then_varint g.P.Parts.refuses g.met.P.Parts.reads_exactly g.met.P.Parts.part_laws c.args.limit bytes (omega (arith, size, within)) c.in-Lacking.many
    (subst (λ h. HaltsAs g.P.Parts.spells g.P.Parts.reads outer_struct bytes h) c.in-Lacking.is halts) (omega (arith, size, c.if-many-saturating_sub.true, c.saturating_sub.ensures))

pub returns-else-many-saturating_sub-clause-told : goal.returns-else-many-saturating_sub-clause-told
returns-else-many-saturating_sub-clause-told g c = λ bytes size within halts.
    lacks_within g.P.Parts.spells g.P.Parts.reads g.P.Parts.then_varint g.P.Parts.refuses g.met.P.Parts.reads_exactly g.met.P.Parts.part_laws c.args.limit bytes (omega (arith, size, within)) c.in-Lacking.many
    (subst (λ h. HaltsAs g.P.Parts.spells g.P.Parts.reads outer_struct bytes h) c.in-Lacking.is halts) (omega (arith, size, c.if-many-saturating_sub.false, c.saturating_sub.ensures))

pub returns-then-there-limit-clause-told : goal.returns-then-there-limit-clause-told
returns-then-there-limit-clause-told g c = λ bytes size within halts.
    let stop : StopsFor g.P.Parts.spells g.P.Parts.reads outer_struct bytes c.in-For.cause = subst (λ h. HaltsAs g.P.Parts.spells g.P.Parts.reads outer_struct bytes h) c.in-For.is halts in
    truncated_full g.P.Parts.spells g.P.Parts.reads g.P.Parts.then_varint g.P.Parts.refuses g.met.P.Parts.reads_exactly g.met.P.Parts.part_laws c.args.limit bytes (omega (arith, size, within))
    (subst (λ x. StopsFor g.P.Parts.spells g.P.Parts.reads outer_struct bytes x) c.in-Truncated.is stop) (omega (arith, size, within, c.if-there-limit.true))

pub returns-else-there-limit-clause-told : goal.returns-else-there-limit-clause-told
returns-else-there-limit-clause-told g c = λ bytes size within halts.
    let stop : StopsFor g.P.Parts.spells g.P.Parts.reads outer_struct bytes c.in-For.cause = subst (λ h. HaltsAs g.P.Parts.spells g.P.Parts.reads outer_struct bytes h) c.in-For.is halts in
    truncated_short g.P.Parts.spells g.P.Parts.reads g.P.Parts.then_varint g.P.Parts.refuses g.met.P.Parts.reads_exactly g.met.P.Parts.part_laws c.args.limit bytes (omega (arith, size, within))
    (subst (λ x. StopsFor g.P.Parts.spells g.P.Parts.reads outer_struct bytes x) c.in-Truncated.is stop) (λ e. omega (arith, e, size, c.if-there-limit.false))

pub returns-in_default-clause-told : goal.returns-in_default-clause-told
returns-in_default-clause-told g c = λ bytes size within halts.
    let stop : StopsFor g.P.Parts.spells g.P.Parts.reads outer_struct bytes c.in-For.cause = subst (λ h. HaltsAs g.P.Parts.spells g.P.Parts.reads outer_struct bytes h) c.in-For.is halts in
    refused_at g.P.Parts.spells g.P.Parts.reads g.P.Parts.then_varint g.P.Parts.refuses g.met.P.Parts.reads_exactly g.met.P.Parts.part_laws c.args.limit bytes (omega (arith, size, within)) c.in-For.cause c.in_default.not-Truncated stop
