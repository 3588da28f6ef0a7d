-- Attributes, as they are made of their pairs.
use Rattle.std.proofs.Common.{◌≡◌, ℕ, ◌⊎◌, inl, inr, List, [], ◌++◌, Option, Some, None, refl, sym, subst}
use Rattle.std.specs.Prelude.{◌↔◌, Contains}
use Rattle.std.proofs.lemmas.List.Elements.{Contains-append_cases, Contains-append_left, Contains-append_right}
use Rattle.serde_json.specs.Data.{Data}
use Rattle.span_io.specs.declared.cause.Cause.{Cause}
use Rattle.span_io.specs.declared.halt.Halt.{Halt}
use Rattle.span_io.specs.Paths.{optional, Given, NothingOffends, Halts}
use Rattle.trace_model.specs.Attributes.{AreRepeated, StandsTwice}
use Rattle.trace_model.specs.Remarks.{Keys}
use Rattle.trace_model.specs.declared.value.Value.{Value}
use Rattle.trace_model.specs.declared.noted.KeyValue.{KeyValue}
use Rattle.trace_model.specs.declared.noted.Noted.{Noted}
use Rattle.trace_model.specs.OtlpParts.{keys_inside, AreNotedAttributes}
use Rattle.json_members.specs.Members.{AreHeld}
use Rattle.otlp_json.specs.Attributes.{AreJsonPairs, AreJsonAttributes, pairs_offend}
use Rattle.otlp_json.specs.private.Found.{AreGiven, PairsTold}
use Rattle.otlp_json.specs.Values.{held_offends, json_key_value_in, inner_pair_offends}
use Rattle.trace_model.specs.Values.{most_levels}

same_offences : (d : Data) → held_offends most_levels (inner_pair_offends most_levels) d ≡ pairs_offend d
unfolding inner_pair_offends
same_offences d = refl

same_optional : (o : Option Data) → optional (held_offends most_levels (inner_pair_offends most_levels)) o ≡ optional pairs_offend o
same_optional None = refl
same_optional (Some d) = same_offences d

pub attributes_clean : (o : Option Data) → NothingOffends (optional (held_offends most_levels (inner_pair_offends most_levels)) o) → NothingOffends (optional pairs_offend o)
attributes_clean o h = subst NothingOffends (same_optional o) h

pub attributes_halt : (halt : Halt Cause) (o : Option Data) → Halts halt (optional (held_offends most_levels (inner_pair_offends most_levels)) o) → Halts halt (optional pairs_offend o)
attributes_halt halt o h = subst (Halts halt) (same_optional o) h

given_pairs : (pairs : List KeyValue) (o : Option Data) → Given (AreHeld (json_key_value_in most_levels)) (λ ps. ps ≡ []) pairs o → Given AreJsonPairs (λ ps. ps ≡ []) pairs o
unfolding json_key_value_in
given_pairs pairs None h = h
given_pairs pairs (Some d) h = record { held = h.held; shape = h.shape; means = h.means }

pub made_attributes : (o : Option Data) (rows : Noted (List (List ℕ × Value)) Keys) (attributes : List (List ℕ × Value)) (keys : Keys) → AreGiven (json_key_value_in most_levels) PairsTold o rows → AreNotedAttributes rows.means rows.notes attributes keys → AreJsonAttributes attributes keys o
made_attributes o rows attributes keys h make = record {
  pairs = h.found;
  each = given_pairs h.found o h.each;
  make = subst (λ (l : List (List ℕ × Value)). AreNotedAttributes l (keys_inside h.found) attributes keys) h.told.entries (subst (λ (l : Keys). AreNotedAttributes rows.means l attributes keys) h.told.noted make);
}

module _ (pairs : List (List ℕ × Value)) (repeated inside noted keys : Keys) (twice : AreRepeated repeated pairs) (e : noted ≡ inside ++ repeated) (same : (key : List ℕ) → Contains keys key ↔ Contains noted key) where
  there_to : (key : List ℕ) → Contains keys key → StandsTwice key pairs ⊎ Contains inside key
  there_to key h = on (Contains-append_cases inside repeated key (subst (λ (l : Keys). Contains l key) e ((same key).0 h)))
    where
      on : Contains inside key ⊎ Contains repeated key → StandsTwice key pairs ⊎ Contains inside key
      on (inl k) = inr k
      on (inr k) = inl ((twice.twice key).0 k)

  back_from : (key : List ℕ) → StandsTwice key pairs ⊎ Contains inside key → Contains keys key
  back_from key (inl k) = (same key).1 (subst (λ (l : Keys). Contains l key) (sym e) (Contains-append_right inside repeated key ((twice.twice key).1 k)))
  back_from key (inr k) = (same key).1 (subst (λ (l : Keys). Contains l key) (sym e) (Contains-append_left inside repeated key k))

  pub keys_named : (key : List ℕ) → Contains keys key ↔ (StandsTwice key pairs ⊎ Contains inside key)
  keys_named key = (there_to key, back_from key)
