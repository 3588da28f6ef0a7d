-- The `tracestate` of several lines.
use Rattle.std.proofs.Common.{◌≡◌, ℕ, List, [], ◌∷◌, ◌++◌, sym, ap, subst, ◌∙◌}
use Rattle.std.specs.Prelude.{Bool, drop}
use Rattle.std.specs.List.{join_with_byte}
use Rattle.std.proofs.lemmas.Grind.{flat_map-append}
use Rattle.std.proofs.lemmas.List.{append-nil}
use Rattle.propagation.specs.Blocks.{Header}
use Rattle.propagation.specs.Heads.{TellsState, header_values, tracestate_name}
use Rattle.propagation.specs.private.HeadSteps.{behind_commas, IsStateOf}
use Rattle.propagation.proofs.FoundLemmas.{more_values}

-- the values joined by commas, with one comma more in front
pub joined_behind : (value : List ℕ) (values : List (List ℕ)) → behind_commas (value ∷ values) ≡ 44 ∷ join_with_byte 44 (value ∷ values)
joined_behind value [] = ap (λ s. 44 ∷ s) (append-nil value)
joined_behind value (next ∷ values) = ap (λ s. 44 ∷ (value ++ s)) (joined_behind next values)

pub state_of_one : (headers : List Header) (value : List ℕ) → header_values tracestate_name headers ≡ value ∷ [] → (state : List ℕ) (dropped : Bool) → IsStateOf value state dropped → TellsState headers state dropped
state_of_one headers value one state dropped h = subst (λ vs. IsStateOf (join_with_byte 44 vs) state dropped) (sym one) h

-- where two values stand at least, what was joined is a comma and the text that is told
pub state_of_more : (headers : List Header) (a b : List ℕ) (more : List (List ℕ)) (joined : List ℕ) → header_values tracestate_name headers ≡ a ∷ b ∷ more → joined ≡ behind_commas (header_values tracestate_name headers)
    → (state : List ℕ) (dropped : Bool) → IsStateOf (drop 1 joined) state dropped → TellsState headers state dropped
state_of_more headers a b more joined two is state dropped h =
    let told = subst (λ s. IsStateOf (drop 1 s) state dropped) (is ∙ ap behind_commas two ∙ joined_behind a (b ∷ more)) h in
    subst (λ vs. IsStateOf (join_with_byte 44 vs) state dropped) (sym two) told

-- ---- values that are joined header by header

pub state_added : (old now value : List ℕ) (values : List (List ℕ)) → values ≡ value ∷ [] → now ≡ old ++ ((44 ∷ []) ++ value) → now ≡ old ++ behind_commas values
state_added old now value values one e = e ∙ ap (λ s. old ++ s) (sym (ap behind_commas one ∙ append-nil (44 ∷ value)))

pub none_added : (old : List ℕ) (values : List (List ℕ)) → values ≡ [] → old ≡ old ++ behind_commas values
none_added old values none = sym (append-nil old) ∙ ap (λ s. old ++ behind_commas s) (sym none)

pub states_more : (headers : List Header) (h : Header) (old now : List ℕ) → old ≡ behind_commas (header_values tracestate_name headers) → now ≡ old ++ behind_commas (header_values tracestate_name (h ∷ []))
    → now ≡ behind_commas (header_values tracestate_name (headers ++ h ∷ []))
states_more headers h old now e f =
    f ∙ ap (λ s. s ++ behind_commas (header_values tracestate_name (h ∷ []))) e
    ∙ sym (flat_map-append (λ value. 44 ∷ value) (header_values tracestate_name headers) (header_values tracestate_name (h ∷ [])))
    ∙ ap behind_commas (sym (more_values tracestate_name headers (h ∷ [])))
