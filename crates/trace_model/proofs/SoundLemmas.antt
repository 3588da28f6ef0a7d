-- What is sound is so in its parts.
use Rattle.std.proofs.Common.{ℕ, List, All}
use Rattle.std.specs.Prelude.{Contains}
use Rattle.std.proofs.lemmas.List.Elements.{All-contains, All-weaker}
use Rattle.trace_model.specs.declared.value.Value.{Value}
use Rattle.trace_model.specs.Attributes.{AreAttributes}
use Rattle.trace_model.specs.Values.{IsSound, AreSound}
use Rattle.trace_model.proofs.Places.{All-from_contains, last_is_in}

pub among_from : (attributes pairs : List (List ℕ × Value)) → AreAttributes attributes pairs → All (λ pair. Contains pairs pair) attributes
among_from attributes pairs are = All-from_contains (λ (pair : List ℕ × Value). Contains pairs pair) attributes
    (λ pair there. last_is_in pair pairs ((are.last pair).0 there))

pub sound_from : (attributes pairs : List (List ℕ × Value)) → AreAttributes attributes pairs → All (λ pair. IsSound pair.1) pairs → AreSound attributes
sound_from attributes pairs are sound = record {
  rising = are.rising;
  values = All-weaker (λ (pair : List ℕ × Value). Contains pairs pair) (λ (pair : List ℕ × Value). IsSound pair.1)
      (λ pair there. All-contains (λ (pair : List ℕ × Value). IsSound pair.1) pairs pair sound there) attributes (among_from attributes pairs are);
}
