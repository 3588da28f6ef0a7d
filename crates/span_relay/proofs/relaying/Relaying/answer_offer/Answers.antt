use Rattle.span_relay.proofs.AnswerLemmas.{halts_offered, on_err}
use Rattle.span_relay.proofs.relaying.Relaying.answer_offer.Goals as goal

pub returns-clause-err : goal.returns-clause-err
returns-clause-err g c =
    on_err c.answer_outcome.result _
    (halts_offered c.args.self.now.to c.args.from c.args.close (g.K.Keeper.spool c.args.self.now.keeper.now) (g.K.Keeper.spool c.keep.new.keeper) c.args.self.now.outcomes.now.items c.take_room.new.outcomes.items c.push.new.self.items
    c.args.text.now c.in_ok-kept.kept c.in_ok-kept.ensures.ok c.in_ok-kept.ensures.counted c.in_ok-kept.ensures.sound.1 c.in_ok-take_room.ensures.same c.in_ok-take_room.ensures.short c.in-Ok.ensures.items)
