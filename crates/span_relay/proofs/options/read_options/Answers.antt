use Rattle.std.proofs.Common.{ℕ, List, Some, refl, sym, ap, ◌∙◌, arith}
use Rattle.std.specs.Prelude.{codes}
use Rattle.std.proofs.lemmas.Bool.{false≢true}
use Rattle.span_notes.specs.Pairs.{texts}
use Rattle.span_notes.proofs.WordLaws.{place_within, same_number, word_at}
use Rattle.span_relay.proofs.WordLemmas.{all_spelled, can_relay, never_form, never_place, none_spelled}
use Rattle.span_relay.proofs.options.read_options.Goals as goal

pub returns-then-words-ne8 : goal.returns-then-words-ne8
returns-then-words-ne8 c = λ options.
    none_spelled _ options (texts c.args.words.now) refl (λ s. c.if-words-ne8.true (sym (same_number c.args.words.now) ∙ s.number))

pub returns-in_err-address : goal.returns-in_err-address
returns-in_err-address c = λ options.
    none_spelled c.from_residual.result options (texts c.args.words.now) c.from_residual.ensures (λ s. never_place options.address ((c.in_err-address.ensures options.address).1 s.listen))

pub returns-in_err-to : goal.returns-in_err-to
returns-in_err-to c = λ options.
    none_spelled c.from_residual-in_err-to.result options (texts c.args.words.now) c.from_residual-in_err-to.ensures (λ s. never_form options.to ((c.in_err-to.ensures options.to).1 s.form))

pub returns-in_err-peer : goal.returns-in_err-peer
returns-in_err-peer c = λ options.
    none_spelled c.from_residual-in_err-peer.result options (texts c.args.words.now) c.from_residual-in_err-peer.ensures
    (λ s. never_place options.peer ((c.in_err-peer.ensures options.peer).1 (s.peer.0, s.peer.1)))

pub returns-in_err-count : goal.returns-in_err-count
returns-in_err-count c = λ options.
    none_spelled c.from_residual-in_err-count.result options (texts c.args.words.now) c.from_residual-in_err-count.ensures
    (λ s. never_place options.count ((c.in_err-count.ensures options.count).1 s.connections))

pub bounds-words-peer : goal.bounds-words-peer
bounds-words-peer c =
    let has = (c.in_ok-peer.ensures c.in_ok-peer.peer).0 refl in
    place_within c.args.words.now 0 (codes "--peer") c.in_ok-peer.peer has.0 has.1

pub offset_bounds-words-peer : goal.offset_bounds-words-peer
offset_bounds-words-peer c =
    let has = (c.in_ok-peer.ensures c.in_ok-peer.peer).0 refl in
    let within = place_within c.args.words.now 0 (codes "--peer") c.in_ok-peer.peer has.0 has.1 in omega (arith, within, c.if-words-ne8.false)

pub returns-then-not-can_relay : goal.returns-then-not-can_relay
returns-then-not-can_relay c = λ options.
    let has = (c.in_ok-peer.ensures c.in_ok-peer.peer).0 refl in
    let here = word_at c.args.words.now c.in_ok-peer.peer c.index-words-peer.result
    (place_within c.args.words.now 0 (codes "--peer") c.in_ok-peer.peer has.0 has.1) c.index-words-peer.is ∙ ap (λ (w : List ℕ). Some w) (sym c.as_str.ensures.value) in
    none_spelled _ options (texts c.args.words.now) refl
    (λ s. false≢true (sym c.if-not-can_relay.true ∙ c.can_relay.ensures.1
    (can_relay (texts c.args.words.now) (same_number c.args.words.now ∙ c.if-words-ne8.false) c.in_ok-address.address c.in_ok-peer.peer c.in_ok-to.to c.in_ok-count.count
    c.as_str.result.now here c.in_ok-address.ensures c.in_ok-to.ensures c.in_ok-peer.ensures c.in_ok-count.ensures options s)))

pub returns : goal.returns
returns c =
    let has = (c.in_ok-peer.ensures c.in_ok-peer.peer).0 refl in
    let here = word_at c.args.words.now c.in_ok-peer.peer c.index-words-peer.result
    (place_within c.args.words.now 0 (codes "--peer") c.in_ok-peer.peer has.0 has.1) c.index-words-peer.is ∙ ap (λ (w : List ℕ). Some w) (sym c.as_str.ensures.value) in
    all_spelled (texts c.args.words.now) (same_number c.args.words.now ∙ c.if-words-ne8.false) c.in_ok-address.address c.in_ok-peer.peer c.in_ok-to.to c.in_ok-count.count
    c.as_str.result.now here c.in_ok-address.ensures c.in_ok-to.ensures c.in_ok-peer.ensures c.in_ok-count.ensures (c.can_relay.ensures.0 c.if-not-can_relay.false)
