use Rattle.std.specs.Prelude.{◌↔◌, Contains}
use Rattle.std.proofs.Common.{◌≡◌, List, ℕ, sym, subst}
use Rattle.std.proofs.lemmas.List.{map-id}
use Rattle.trace_model.specs.declared.value.Value.{Value}
use Rattle.trace_model.specs.Attributes.{Rise, AreAttributes, AreRepeated}
use Rattle.trace_model.proofs.Rising.{same_rising}
use Rattle.trace_model.proofs.SoundLemmas.{among_from}
use Rattle.trace_model.proofs.laws.attributes_once.Goals as goal

one_attributes : (pairs first second : List (List ℕ × Value)) → AreAttributes first pairs → AreAttributes second pairs → first ≡ second
one_attributes pairs first second one other = same_rising (λ (pair : List ℕ × Value). pair.0) first second one.rising other.rising
    (λ z. (λ there. (other.last z).1 ((one.last z).0 there), λ there. (one.last z).1 ((other.last z).0 there)))

one_in_order : (first second : List (List ℕ)) → Rise first → Rise second → ((key : List ℕ) → Contains first key ↔ Contains second key) → first ≡ second
one_in_order first second one other same = same_rising (λ (k : List ℕ). k) first second (subst Rise (sym (map-id first)) one) (subst Rise (sym (map-id second)) other) same

one_repeated : (pairs : List (List ℕ × Value)) (first second : List (List ℕ)) → AreRepeated first pairs → AreRepeated second pairs → first ≡ second
one_repeated pairs first second one other = same_rising (λ (k : List ℕ). k) first second
    (subst Rise (sym (map-id first)) one.rising) (subst Rise (sym (map-id second)) other.rising)
    (λ z. (λ there. (other.twice z).1 ((one.twice z).0 there), λ there. (one.twice z).1 ((other.twice z).0 there)))

pub returns : goal.returns
returns c = record { attributes = one_attributes; among = among_from; repeated = one_repeated; same_keys = one_in_order }
