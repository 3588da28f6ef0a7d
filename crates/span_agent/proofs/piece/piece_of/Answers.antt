use Rattle.span_agent.proofs.PieceLemmas.{says_halt, says_text}
use Rattle.span_agent.proofs.piece.piece_of.Goals as goal

pub returns-in-Ok-clause-piece : goal.returns-in-Ok-clause-piece
returns-in-Ok-clause-piece c = λ verdict v.
    let a = c.in-Ok.ensures.verdict verdict v in
    says_text c.args.to verdict c.in-Ok.text a.0 c.ended.result a.1 c.ended.ensures.ok c.ended.ensures.err

pub returns-in-Err-clause-piece : goal.returns-in-Err-clause-piece
returns-in-Err-clause-piece c = λ verdict v.
    says_halt c.args.to verdict c.in-Err.bad c.halt_of.result c.halt_of.ensures (c.in-Err.ensures.verdict verdict v)
