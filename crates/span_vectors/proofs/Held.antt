-- The gauge is a sound trace, in which each number, text and identifier lies in its range.
use Rattle.std.proofs.Common.{◌≡◌, ℕ, ◌%◌, ◌<◌, ◌^◌, pos, true, false, ◌-◌, List, [], ◌∷◌, All, Some, None, cond, refl, arith}
use Rattle.std.specs.Prelude.{codes, IsUtf8, ◌==◌, ◌&&◌, Bool}
use Rattle.std.specs.Int.{w64}
use Rattle.std.specs.List.{list_all}
use Rattle.std.specs.List.Sorted.{IsStrictlySortedBy}
use Rattle.std.proofs.Math.Dec.{ltb}
use Rattle.std.proofs.lemmas.Bool.{ltb-true, false≢true}
use Rattle.std.proofs.lemmas.Bool.Decides.{nat_tests}
use Rattle.std.proofs.lemmas.Int.{fits_signed_from_abs}
use Rattle.std.proofs.lemmas.List.Elements.{All-nil, All-cons}
use Rattle.std.proofs.lemmas.Str.{IsUtf8-nil, IsUtf8-from_ascii}
use Rattle.std.proofs.lemmas.Str.Ascii.{IsAscii-from_all}
use Rattle.span_ids.specs.Proper.{IsProperParent}
use Rattle.trace_model.specs.Attributes.{Rise}
use Rattle.trace_model.specs.Proper.{IsProperPair, AreProper, IsProperEvent, IsProperLink, IsProperSpan, IsProperScope, IsProperGroup}
use Rattle.trace_model.specs.Soundness.{IsSoundEvent, IsSoundLink, IsSoundSpan, IsSoundScope, IsSoundGroup, IsSoundTrace}
use Rattle.trace_model.specs.Values.{IsSound, AreSound}
use Rattle.trace_model.specs.declared.value.Value.{Value, Number, Text}
use Rattle.span_vectors.specs.Gauge.{gauge_span, gauge_parent, gauge_attributes, gauge_spans, gauge_scope, gauge_resource, gauge_group, gauge, first_span, group_size, HasGroup}
use Rattle.span_vectors.proofs.Spans.{all_spans, all_groups, number_within}

-- ---- attributes

attributes_rise : Rise (codes "n" ∷ codes "t" ∷ [])
unfolding IsStrictlySortedBy
attributes_rise = ((refl, tt), (tt, tt))

resource_rises : Rise (codes "service.name" ∷ [])
unfolding IsStrictlySortedBy
resource_rises = (tt, tt)

pub alone : {X : Type 0} (P : X → Type 0) (x : X) → P x → All P (x ∷ [])
alone P x h = All-cons P x [] h (All-nil P)

pub both : {X : Type 0} (P : X → Type 0) (x y : X) → P x → P y → All P (x ∷ y ∷ [])
both P x y first second = All-cons P x (y ∷ []) first (alone P y second)

abbrev pub number_pair : ℕ → List ℕ × Value
number_pair i = (codes "n", Number (pos i))

abbrev pub text_pair : List ℕ × Value
text_pair = (codes "t", Text (codes "x"))

abbrev pub service_pair : List ℕ × Value
service_pair = (codes "service.name", Text (codes "gauge"))

abbrev IsSoundPair : List ℕ × Value → Type 0
IsSoundPair pair = IsSound pair.1

pub attributes_sound : (i : ℕ) → AreSound (gauge_attributes i)
attributes_sound i = record {
  rising = attributes_rise;
  values = both IsSoundPair (number_pair i) text_pair (record { shallow = omega arith; rising = tt }) (record { shallow = omega arith; rising = tt });
}

pub resource_sound : AreSound gauge_resource
resource_sound = record { rising = resource_rises; values = alone IsSoundPair service_pair (record { shallow = omega arith; rising = tt }) }

none_sound : AreSound []
unfolding IsStrictlySortedBy
none_sound = record { rising = tt; values = All-nil IsSoundPair }

below : (bs : List ℕ) → list_all (λ b. ltb b 128) bs ≡ true → All (λ b. b < 128) bs
below [] e = All-nil (λ b. b < 128)
below (b ∷ bs) e = by (λ rest. below bs rest) (ltb b 128) refl e
  where
    by : (list_all (λ c. ltb c 128) bs ≡ true → All (λ c. c < 128) bs) → (low : Bool) → ltb b 128 ≡ low → (low && list_all (λ c. ltb c 128) bs) ≡ true → All (λ c. c < 128) (b ∷ bs)
    by others true low rest = All-cons (λ c. c < 128) b bs (ltb-true b 128 low) (others rest)
    by others false low rest = absurd (false≢true rest)

ascii : (bs : List ℕ) → list_all (λ b. ltb b 128) bs ≡ true → IsUtf8 bs
ascii bs e = IsUtf8-from_ascii bs (IsAscii-from_all bs (below bs e))

attributes_proper : (i : ℕ) → i < 2 ^ 32 → AreProper (gauge_attributes i)
attributes_proper i low = both IsProperPair (number_pair i) text_pair
    (record { key = ascii (codes "n") refl; value = fits_signed_from_abs w64 (pos i) (omega arith) })
    (record { key = ascii (codes "t") refl; value = ascii (codes "x") refl })

resource_proper : AreProper gauge_resource
resource_proper = alone IsProperPair service_pair (record { key = ascii (codes "service.name") refl; value = ascii (codes "gauge") refl })

-- ---- spans

pub span_sound : (i : ℕ) → IsSoundSpan (gauge_span i)
unfolding gauge_span
span_sound i = record { attributes = attributes_sound i; events = All-nil IsSoundEvent; links = All-nil IsSoundLink }

parent_proper : (i : ℕ) → 0 < i → i < 2 ^ 32 → IsProperParent (gauge_parent i)
parent_proper i some low = by (i % 100 == 1) refl
  where
    by : (t : Bool) → (i % 100 == 1) ≡ t → IsProperParent (cond t None (Some (i - 1)))
    by true e = tt
    by false e = (grind (arith, nat_tests), omega arith)

pub span_proper : (i : ℕ) → 0 < i → i < 2 ^ 32 → IsProperSpan (gauge_span i)
unfolding gauge_span
span_proper i some low = record {
  trace = (omega arith, omega arith);
  id = (omega arith, omega arith);
  state = IsUtf8-nil;
  parent = parent_proper i some low;
  name = ascii (codes "op") refl;
  start = omega arith;
  end = omega arith;
  attributes = attributes_proper i low;
  dropped_attributes = omega arith;
  events = All-nil IsProperEvent;
  dropped_events = omega arith;
  links = All-nil IsProperLink;
  dropped_links = omega arith;
  status = record { message = IsUtf8-nil };
  flags = omega arith;
}

-- ---- groups

pub group_sound : (spans group : ℕ) → IsSoundGroup (gauge_group spans group)
unfolding gauge_group
group_sound spans group = record {
  resource = resource_sound;
  scopes = alone IsSoundScope (gauge_scope (gauge_spans (first_span group) (group_size spans group))) (record {
    attributes = none_sound;
    spans = all_spans IsSoundSpan (first_span group) (group_size spans group) (λ i low high. span_sound i);
  });
}

pub group_proper : (spans group : ℕ) → spans < 2 ^ 32 → HasGroup spans group → IsProperGroup (gauge_group spans group)
unfolding gauge_group
group_proper spans group few has = record {
  resource = resource_proper;
  dropped = omega arith;
  schema_url = IsUtf8-nil;
  scopes = alone IsProperScope (gauge_scope (gauge_spans (first_span group) (group_size spans group))) (record {
    name = ascii (codes "gauge") refl;
    version = IsUtf8-nil;
    attributes = All-nil IsProperPair;
    dropped = omega arith;
    schema_url = IsUtf8-nil;
    spans = all_spans IsProperSpan (first_span group) (group_size spans group)
        (λ i low high. let n = number_within spans group i has low high in span_proper i n.0 (omega (arith, n.1)));
  });
}

pub gauge_sound : (spans : ℕ) → IsSoundTrace (gauge spans)
gauge_sound spans = all_groups IsSoundGroup spans (λ group has. group_sound spans group)

pub gauge_proper : (spans : ℕ) → spans < 2 ^ 32 → All IsProperGroup (gauge spans)
gauge_proper spans few = all_groups IsProperGroup spans (λ group has. group_proper spans group few has)
