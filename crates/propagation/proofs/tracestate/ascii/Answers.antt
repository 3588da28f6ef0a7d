use Rattle.propagation.proofs.StateTexts.{ascii_text}
use Rattle.propagation.proofs.tracestate.ascii.Goals as goal

pub unwrap-requires : goal.unwrap-requires
unwrap-requires c = ascii_text _ _ c.args.text.now c.from_utf8.result c.requires c.from_utf8.ensures.cases
