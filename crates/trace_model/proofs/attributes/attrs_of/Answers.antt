use Rattle.std.proofs.Common.{subst}
use Rattle.std.proofs.lemmas.Result.{IfOk-weaker}
use Rattle.trace_model.specs.Attributes.{Rise, keys}
use Rattle.trace_model.proofs.AttributesOf.{same_attrs}
use Rattle.trace_model.proofs.SoundLemmas.{sound_from}
use Rattle.trace_model.proofs.attributes.attrs_of.Goals as goal

pub returns-then-keys_rise-clause-same : goal.returns-then-keys_rise-clause-same
returns-then-keys_rise-clause-same c =
    let up : Rise (keys c.args.list) = subst (λ l. Rise (keys l)) c.as_slice.ensures (c.keys_rise.ensures c.if-keys_rise.true) in
    same_attrs c.args.list c.args.list (c.rising_attributes.ensures.themselves c.args.list up)

pub returns-clause-same : goal.returns-clause-same
returns-clause-same c = IfOk-weaker c.gathered.result _ _ (λ parts are. same_attrs parts.0 c.args.list are) c.gathered.ensures.attributes

pub returns-clause-sound : goal.returns-clause-sound
returns-clause-sound c all = IfOk-weaker c.gathered.result _ _ (λ parts are. sound_from parts.0 c.args.list are all) c.gathered.ensures.attributes
