use Rattle.std.proofs.Common.{◌≡◌, Option, Some, None, refl, sym, ◌∙◌, subst, arith}
use Rattle.std.specs.Prelude.{slice_get}
use Rattle.span_notes.specs.Pairs.{texts}
use Rattle.span_notes.proofs.WordLaws.{one_word, word_at}
use Rattle.span_relay.specs.declared.options.Options.{Options}
use Rattle.span_relay.proofs.RunLemmas.{never_two, relays_as}
use Rattle.span_relay.proofs.WordLemmas.{address_within, peer_address, peer_within}
use Rattle.span_relay.proofs.run.relay_run.Goals as goal

never_none : (options : Options) → ◌≡◌ {A = Option Options} None (Some options) → ⊥
never_none options e = cc

one_some : (a b : Options) → ◌≡◌ {A = Option Options} (Some a) (Some b) → a ≡ b
one_some a b e = cc

pub returns-in-None-clause-usage : goal.returns-in-None-clause-usage
returns-in-None-clause-usage g c = (λ two options spelled. never_none options ((c.in-None.ensures options).1 spelled), λ none. refl)

pub returns-in-None-clause-relays : goal.returns-in-None-clause-relays
returns-in-None-clause-relays g c = λ options spelled address at peer there. absurd (never_none options ((c.in-None.ensures options).1 spelled))

pub returns-in-Some-clause-usage : goal.returns-in-Some-clause-usage
returns-in-Some-clause-usage g c = (
  λ two. absurd (never_two c.relay.ensures.end (sym c.relay.ensures.is_status ∙ two)),
  λ none. absurd (none c.in-Some.options ((c.in-Some.ensures c.in-Some.options).0 refl)),
)

pub returns-in-Some-clause-untouched : goal.returns-in-Some-clause-untouched
returns-in-Some-clause-untouched g c = λ two. absurd (never_two c.relay.ensures.end (sym c.relay.ensures.is_status ∙ two))

pub returns-in-Some-clause-usage_noted : goal.returns-in-Some-clause-usage_noted
returns-in-Some-clause-usage_noted g c = λ two. absurd (never_two c.relay.ensures.end (sym c.relay.ensures.is_status ∙ two))

pub bounds-words-options : goal.bounds-words-options
bounds-words-options g c = address_within c.args.words.now c.in-Some.options ((c.in-Some.ensures c.in-Some.options).0 refl)

pub bounds-words-options-in-Some : goal.bounds-words-options-in-Some
bounds-words-options-in-Some g c = peer_within c.args.words.now c.in-Some.options ((c.in-Some.ensures c.in-Some.options).0 refl)

pub offset_bounds-words-options : goal.offset_bounds-words-options
offset_bounds-words-options g c =
    let place = address_within c.args.words.now c.in-Some.options ((c.in-Some.ensures c.in-Some.options).0 refl) in omega (arith, place)

pub offset_bounds-words-options-in-Some : goal.offset_bounds-words-options-in-Some
offset_bounds-words-options-in-Some g c =
    let place = peer_within c.args.words.now c.in-Some.options ((c.in-Some.ensures c.in-Some.options).0 refl) in omega (arith, place)

pub relay-requires-clause-target : goal.relay-requires-clause-target
relay-requires-clause-target g c =
    let mine = (c.in-Some.ensures c.in-Some.options).0 refl in
    let here = word_at c.args.words.now c.in-Some.options.peer c.index-words-options-in-Some.result (peer_within c.args.words.now c.in-Some.options mine)
    c.index-words-options-in-Some.is in
    peer_address (texts c.args.words.now) c.in-Some.options c.as_str-in-Some.result.now mine (rw c.as_str-in-Some.ensures.value here)

pub relay-requires-clause-some : goal.relay-requires-clause-some
relay-requires-clause-some g c = ((c.in-Some.ensures c.in-Some.options).0 refl).connections.some

pub returns-in-Some-clause-relays : goal.returns-in-Some-clause-relays
returns-in-Some-clause-relays g c = λ options spelled word at other there.
    let mine = (c.in-Some.ensures c.in-Some.options).0 refl in
    let same : c.in-Some.options ≡ options = one_some c.in-Some.options options ((c.in-Some.ensures options).1 spelled) in
    let here = word_at c.args.words.now c.in-Some.options.address c.index-words-options.result (address_within c.args.words.now c.in-Some.options mine)
    c.index-words-options.is in
    let its = word_at c.args.words.now c.in-Some.options.peer c.index-words-options-in-Some.result (peer_within c.args.words.now c.in-Some.options mine)
    c.index-words-options-in-Some.is in
    let at_mine = subst (λ (o : Options). slice_get (texts c.args.words.now) o.address ≡ Some word) (sym same) at in
    let there_mine = subst (λ (o : Options). slice_get (texts c.args.words.now) o.peer ≡ Some other) (sym same) there in
    let address : c.as_str.result.now ≡ word = c.as_str.ensures.value ∙ one_word _ _ (sym here ∙ at_mine) in
    let peer : c.as_str-in-Some.result.now ≡ other = c.as_str-in-Some.ensures.value ∙ one_word _ _ (sym its ∙ there_mine) in
    relays_as c.in-Some.options options c.as_str.result.now word c.as_str-in-Some.result.now other c.relay.result _ _ _ _ _ _ _ _ _ _ same address peer c.relay.ensures
