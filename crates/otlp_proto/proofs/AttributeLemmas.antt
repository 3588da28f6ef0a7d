-- Attributes of a message, pair by pair.
use Rattle.std.proofs.Common.{◌≡◌, ℕ, List, [], ◌∷◌, ◌++◌, map, ◌⊎◌, inl, inr, ⊎_elim, sym, subst, ap, ◌∙◌}
use Rattle.std.specs.Prelude.{◌↔◌, Contains}
use Rattle.std.proofs.lemmas.List.Elements.{Contains-append_left, Contains-append_right, Contains-append_cases}
use Rattle.trace_model.specs.Attributes.{AreAttributes, AreRepeated, Rise, StandsTwice}
use Rattle.trace_model.specs.declared.value.Value.{Value}
use Rattle.otlp_proto.specs.declared.reading.attributes.AttributeRows.{AttributeRows}
use Rattle.trace_model.specs.declared.noted.KeyValue.{KeyValue}
use Rattle.trace_model.specs.OtlpParts.{entry, keys_inside, leaf, levels_below}
use Rattle.otlp_proto.specs.declared.reading.plain.PlainPair.{PlainPair}
use Rattle.otlp_proto.specs.private.PlainPairs.{value_of, IsPlainPair}
use Rattle.otlp_proto.proofs.PlainLemmas.{pair_reading}
use Rattle.std.proofs.lemmas.List.{append-nil}
use Rattle.trace_model.proofs.ToldLaws.{pair_added}
use Rattle.otlp_proto.specs.Attributes.{attribute_at, AttributesOf}
use Rattle.otlp_proto.specs.private.AttributesSoFar.{GatheredAttributes}
use Rattle.span_io.proofs.RowLaws.{all_zip_push}

pub attribute_push : (earlier : List (List ℕ)) (held : List ℕ) (old new : AttributeRows) (p : KeyValue) → attribute_at held p → new.pairs ≡ old.pairs ++ entry p ∷ [] → new.noted ≡ old.noted ++ p.value.notes
    → GatheredAttributes earlier old → GatheredAttributes (earlier ++ held ∷ []) new
attribute_push earlier held old new p pair pairs noted so_far = record {
  members = so_far.members ++ p ∷ [];
  each = all_zip_push attribute_at earlier so_far.members held p so_far.each pair;
  told = pair_added so_far.members old.pairs new.pairs old.noted new.noted p pairs noted so_far.told;
}

-- one in whose value no key is noted
pub plain_push : (earlier : List (List ℕ)) (held : List ℕ) (old new : AttributeRows) (pair : PlainPair) (made : List ℕ × Value) → IsPlainPair pair held → made.0 ≡ pair.key.now → made.1 ≡ value_of pair.value
    → new.pairs ≡ old.pairs ++ made ∷ [] → new.noted ≡ old.noted → GatheredAttributes earlier old → GatheredAttributes (earlier ++ held ∷ []) new
plain_push earlier held old new pair made is key value pairs noted so_far =
    let p : KeyValue = record { key = made.0; value = leaf made.1 } in
    attribute_push earlier held old new p (pair_reading levels_below pair held is p key (ap leaf value)) pairs (noted ∙ sym (append-nil old.noted)) so_far

-- the attributes, and the keys that are noted: those inside the values, and those that stand more than once
pub attributes_are : (texts : List (List ℕ)) (rows : AttributeRows) (attributes : List (List ℕ × Value)) (repeated noted keys : List (List ℕ)) → GatheredAttributes texts rows → AreAttributes attributes rows.pairs → AreRepeated repeated rows.pairs
    → noted ≡ rows.noted ++ repeated → Rise keys → ((key : List ℕ) → Contains keys key ↔ Contains noted key) → AttributesOf texts attributes keys
attributes_are texts rows attributes repeated noted keys gathered kept twice e rising same = record {
  pairs = gathered.members;
  each = gathered.each;
  make = record {
    kept = subst (λ (l : List (List ℕ × Value)). AreAttributes attributes l) gathered.told.entries kept;
    rising = rising;
    noted = λ key. (λ there. given key ((same key).0 there), λ is. (same key).1 (back key is));
  };
}
  where
    of_members : AreRepeated repeated (map entry gathered.members)
    of_members = subst (λ (l : List (List ℕ × Value)). AreRepeated repeated l) gathered.told.entries twice

    given : (key : List ℕ) → Contains noted key → StandsTwice key (map entry gathered.members) ⊎ Contains (keys_inside gathered.members) key
    given key there = ⊎_elim
        (λ (h : Contains rows.noted key). inr (subst (λ (l : List (List ℕ)). Contains l key) gathered.told.noted h))
        (λ (h : Contains repeated key). inl ((of_members.twice key).0 h))
        (Contains-append_cases rows.noted repeated key (subst (λ (l : List (List ℕ)). Contains l key) e there))

    back : (key : List ℕ) → StandsTwice key (map entry gathered.members) ⊎ Contains (keys_inside gathered.members) key → Contains noted key
    back key is = subst (λ (l : List (List ℕ)). Contains l key) (sym e) (⊎_elim
        (λ (h : StandsTwice key (map entry gathered.members)). Contains-append_right rows.noted repeated key ((of_members.twice key).1 h))
        (λ (h : Contains (keys_inside gathered.members) key). Contains-append_left rows.noted repeated key (subst (λ (l : List (List ℕ)). Contains l key) (sym gathered.told.noted) h))
        is)
