use Rattle.std.proofs.Common.{◌≡◌, List, [], ◌∷◌, ◌++◌, ◌+◌, ap, arith, length, length-append, sym, ◌∙◌}
use Rattle.std.proofs.lemmas.Bool.{false≢true}
use Rattle.span_relay.specs.declared.round.Round.{Round}
use Rattle.span_relay.proofs.RunLemmas.{each_halts, so_far_more, so_far_none, still_listening}
use Rattle.span_relay.proofs.run.relay_each.Goals as goal

pub turns-init : goal.turns-init
turns-init g c = record {
  so_far = so_far_none c.args.to c.args.target.now c.args.holds.now _ _ _ _ _;
  listening = c.requires.listening;
  short = c.requires.short;
}

pub returns-then-turned-clause-relays : goal.returns-then-turned-clause-relays
returns-then-turned-clause-relays g c =
    let pushed : c.push.new.self.items ≡ c.turns.rounds.items ++ c.send_after-turned.result.round ∷ [] =
    c.in-Ok-push.ensures.items ∙ ap (λ (l : List Round). l ++ c.send_after-turned.result.round ∷ []) c.in-Ok.ensures.same in
    each_halts c.args.to c.args.target.now c.turns.done c.args.holds.now c.turns.holds _ _ _ _ _ _ _ _ _ _ c.turns.invariant.so_far
    c.in-Ok-relay_next.ended c.send_after-turned.result c.send_after-turned.new.holds _ _ _ _ _ _ c.in-Ok-relay_next.ensures.ok c.send_after-turned.ensures pushed
    c.args.count c.turns-test.true c.if-turned.true

pub turns-preserved : goal.turns-preserved
turns-preserved g c =
    let pushed : c.push.new.self.items ≡ c.turns.rounds.items ++ c.send_after-turned.result.round ∷ [] =
    c.in-Ok-push.ensures.items ∙ ap (λ (l : List Round). l ++ c.send_after-turned.result.round ∷ []) c.in-Ok.ensures.same in
    let one : length c.push.new.self.items ≡ length c.take_room.new.rounds.items + 1 =
    ap length c.in-Ok-push.ensures.items ∙ length-append c.take_room.new.rounds.items (c.send_after-turned.result.round ∷ []) in
    record {
      so_far = so_far_more c.args.to c.args.target.now c.turns.done c.args.holds.now c.turns.holds _ _ _ _ _ _ _ _ _ _ c.turns.invariant.so_far
          c.in-Ok-relay_next.ended c.send_after-turned.result c.send_after-turned.new.holds _ _ _ _ _ _ c.in-Ok-relay_next.ensures.ok c.send_after-turned.ensures pushed
          (λ stops. false≢true (sym c.if-turned.false ∙ stops));
      listening = still_listening (g.D.Door.doorway c.turns.door) (g.D.Door.doorway c.relay_next.new.door) c.in-Ok-relay_next.ensures.ok.gives.same.listening c.turns.invariant.listening;
      short = omega (arith, one, c.in-Ok.ensures.short);
    }
