use Rattle.std.proofs.Common.{◌≡◌, Option, Some, None, refl, sym, ◌∙◌, subst, arith}
use Rattle.std.specs.Prelude.{slice_get}
use Rattle.span_notes.specs.Pairs.{texts}
use Rattle.span_notes.proofs.WordLaws.{one_word, word_at}
use Rattle.span_agent.specs.declared.options.Options.{Options}
use Rattle.span_agent.proofs.RunLemmas.{never_two, received_in_vain, receives_as, untouched_in_vain}
use Rattle.span_agent.proofs.WordLemmas.{address_within}
use Rattle.span_agent.proofs.run.agent_run.Goals as goal

never_none : (options : Options) → ◌≡◌ {A = Option Options} None (Some options) → ⊥
never_none options e = cc

one_some : (a b : Options) → ◌≡◌ {A = Option Options} (Some a) (Some b) → a ≡ b
one_some a b e = cc

pub returns-in-None-clause-usage : goal.returns-in-None-clause-usage
returns-in-None-clause-usage g c = (λ two options spelled. never_none options ((c.in-None.ensures options).1 spelled), λ none. refl)

pub returns-in-None-clause-usage_noted : goal.returns-in-None-clause-usage_noted
returns-in-None-clause-usage_noted g c = λ two. c.note_line.ensures.line

pub returns-in-None-clause-post_in_vain : goal.returns-in-None-clause-post_in_vain
returns-in-None-clause-post_in_vain g c = untouched_in_vain (g.P.Post.mailbox c.args.post.now)

pub returns-in-Some-clause-post_in_vain : goal.returns-in-Some-clause-post_in_vain
returns-in-Some-clause-post_in_vain g c =
    received_in_vain c.receive.ensures.end (g.P.Post.mailbox c.args.post.now) (g.P.Post.mailbox c.receive.new.post) c.receive.ensures.received.post.course

pub returns-in-None-clause-receives : goal.returns-in-None-clause-receives
returns-in-None-clause-receives g c = λ options spelled word at. absurd (never_none options ((c.in-None.ensures options).1 spelled))

pub returns-in-Some-clause-usage : goal.returns-in-Some-clause-usage
returns-in-Some-clause-usage g c = (
  λ two. absurd (never_two c.receive.ensures.end (sym c.receive.ensures.is_status ∙ two)),
  λ none. absurd (none c.in-Some.options ((c.in-Some.ensures c.in-Some.options).0 refl)),
)

pub returns-in-Some-clause-untouched : goal.returns-in-Some-clause-untouched
returns-in-Some-clause-untouched g c = λ two. absurd (never_two c.receive.ensures.end (sym c.receive.ensures.is_status ∙ two))

pub returns-in-Some-clause-usage_noted : goal.returns-in-Some-clause-usage_noted
returns-in-Some-clause-usage_noted g c = λ two. absurd (never_two c.receive.ensures.end (sym c.receive.ensures.is_status ∙ two))

pub offset_bounds-words-options : goal.offset_bounds-words-options
offset_bounds-words-options g c =
    let place = address_within c.args.words.now c.in-Some.options ((c.in-Some.ensures c.in-Some.options).0 refl) in omega (arith, place)

pub bounds-words-options : goal.bounds-words-options
bounds-words-options g c = address_within c.args.words.now c.in-Some.options ((c.in-Some.ensures c.in-Some.options).0 refl)

pub receive-requires : goal.receive-requires
receive-requires g c = ((c.in-Some.ensures c.in-Some.options).0 refl).datagrams.some

pub returns-in-Some-clause-receives : goal.returns-in-Some-clause-receives
returns-in-Some-clause-receives g c = λ options spelled word at.
    let same : c.in-Some.options ≡ options = one_some c.in-Some.options options ((c.in-Some.ensures options).1 spelled) in
    let here = word_at c.args.words.now c.in-Some.options.address c.index-words-options.result
    (address_within c.args.words.now c.in-Some.options ((c.in-Some.ensures c.in-Some.options).0 refl)) c.index-words-options.is in
    let there = subst (λ (o : Options). slice_get (texts c.args.words.now) o.address ≡ Some word) (sym same) at in
    let address : c.as_str.result.now ≡ word = c.as_str.ensures.value ∙ one_word _ _ (sym here ∙ there) in
    receives_as c.in-Some.options options c.as_str.result.now word c.receive.result _ _ _ _ _ _ same address c.receive.ensures
