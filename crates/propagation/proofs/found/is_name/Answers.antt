use Rattle.propagation.proofs.FoundLemmas.{named_is}
use Rattle.propagation.proofs.found.is_name.Goals as goal

pub returns : goal.returns
returns c = λ value. named_is c.args.wanted.now c.args.name.now value c.eq_ignore_ascii_case.result c.eq_ignore_ascii_case.ensures.test
