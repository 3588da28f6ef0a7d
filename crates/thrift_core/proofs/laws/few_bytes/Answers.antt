use Rattle.thrift_core.proofs.laws.few_bytes.Goals as goal

pub returns : goal.returns
returns g c = g.met.P.Parts.few_bytes
