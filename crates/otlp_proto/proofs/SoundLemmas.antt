-- What is read is sound: no deeper than the levels that were left, and the keys of each map in it rise.
use Rattle.std.proofs.Common.{◌≡◌, ℕ, zero, suc, ◌+◌, ◌≤◌, List, [], ◌∷◌, map, All, refl, sym, subst, arith}
use Rattle.std.specs.Prelude.{◌↔◌}
use Rattle.std.proofs.lemmas.List.Elements.{All-nil, All-cons}
use Rattle.std.specs.List.{AllZip}
use Rattle.trace_model.specs.Attributes.{Rise, keys}
use Rattle.trace_model.specs.Remarks.{Keys}
use Rattle.trace_model.specs.Values.{depth, MapsRise, IsSound, AreSound}
use Rattle.trace_model.specs.declared.value.Value.{Value}
use Rattle.trace_model.specs.declared.value.Value.TheVariants as values
use Rattle.otlp_proto.specs.Attributes.{AttributesOf}
use Rattle.span_io.specs.Tables.{Singular}
use Rattle.otlp_proto.specs.Rows.{bytes_of}
use Rattle.otlp_proto.specs.Values.{Member, string_value, bool_value, int_value, double_value, array_value, kvlist_value, bytes_value, members_of, IsListText, IsMapText, MeansMember, IsValueText, IsKeyValueText, value_in, key_value_in, key_value_at}
use Rattle.trace_model.specs.declared.noted.KeyValue.{KeyValue}
use Rattle.trace_model.specs.OtlpParts.{NotedValue, leaf, entry, levels_below}
use Rattle.trace_model.proofs.PartLaws.{Sound, kept_all}

pub each_all : {A B C : Type 0} (Is : A → B → Type 0) (f : B → C) (P : C → Type 0) → ((x : B) (a : A) → Is a x → P (f x)) → (held : List A) (xs : List B) → AllZip Is held xs → All P (map f xs)
each_all Is f P so [] [] all = All-nil P
each_all Is f P so [] (x ∷ xs) all = absurd all
each_all Is f P so (a ∷ held) [] all = absurd all
each_all Is f P so (a ∷ held) (x ∷ xs) all = All-cons P (f x) (map f xs) (so x a all.0) (each_all Is f P so held xs all.1)

module _ (list_depth : (d : ℕ) (members : List Value) → (depth (values.List members) ≤ d + 1) ↔ All (λ value. depth value ≤ d) members)
    (map_depth : (d : ℕ) (pairs : List (List ℕ × Value)) → (depth (values.Map pairs) ≤ d + 1) ↔ All (λ pair. depth pair.1 ≤ d) pairs)
    (list_rises : (members : List Value) → MapsRise (values.List members) ↔ All MapsRise members)
    (map_rises : (pairs : List (List ℕ × Value)) → MapsRise (values.Map pairs) ↔ (Rise (keys pairs) × All (λ pair. MapsRise pair.1) pairs)) where
  module _ (d : ℕ) (IsValue : List ℕ → NotedValue → Type 0) (IsKeyValue : List ℕ → KeyValue → Type 0)
      (values_sound : (r : NotedValue) (text : List ℕ) → IsValue text r → Sound d r.means) (pairs_sound : (p : KeyValue) (text : List ℕ) → IsKeyValue text p → Sound d p.value.means) where
    list_sound : (r : NotedValue) (text : List ℕ) → IsListText IsValue text r → Sound (d + 1) r.means
    list_sound r text is = subst (Sound (d + 1)) (sym is.make.value) (record {
      shallow = (list_depth d (map (λ m. m.means) is.members)).1 (each_all IsValue (λ m. m.means) (λ v. depth v ≤ d) (λ x a h. (values_sound x a h).shallow) (bytes_of 1 is.records) is.members is.each);
      rising = (list_rises (map (λ m. m.means) is.members)).1 (each_all IsValue (λ m. m.means) MapsRise (λ x a h. (values_sound x a h).rising) (bytes_of 1 is.records) is.members is.each);
    })

    map_sound : (r : NotedValue) (text : List ℕ) → IsMapText IsKeyValue text r → Sound (d + 1) r.means
    map_sound r text is = subst (Sound (d + 1)) (sym is.make.value) (record {
      shallow = (map_depth d is.make.attributes).1 (kept_all (λ pair. depth pair.1 ≤ d) is.make.attributes (map entry is.pairs) is.make.kept
          (each_all IsKeyValue entry (λ pair. depth pair.1 ≤ d) (λ x a h. (pairs_sound x a h).shallow) (bytes_of 1 is.records) is.pairs is.each));
      rising = (map_rises is.make.attributes).1 (
        is.make.kept.rising,
        kept_all (λ pair. MapsRise pair.1) is.make.attributes (map entry is.pairs) is.make.kept
            (each_all IsKeyValue entry (λ pair. MapsRise pair.1) (λ x a h. (pairs_sound x a h).rising) (bytes_of 1 is.records) is.pairs is.each),
      );
    })

    leaf_sound : (r : NotedValue) (v : Value) → depth v ≡ 1 → MapsRise v → r ≡ leaf v → Sound (d + 1) r.means
    leaf_sound r v one rises e = subst (λ (x : NotedValue). Sound (d + 1) x.means) (sym e) (record { shallow = omega (arith, one); rising = rises })

    member_sound : (m : Member) (r : NotedValue) → MeansMember IsValue IsKeyValue m r → Sound (d + 1) r.means
    member_sound (string_value held) r h = leaf_sound r (values.Text held) refl tt h.1
    member_sound (bool_value n) r h = leaf_sound r (values.Truth h.0) refl tt h.1
    member_sound (int_value n) r h = leaf_sound r (values.Number _) refl tt h
    member_sound (double_value n) r h = leaf_sound r (values.Eight _) refl tt h
    member_sound (array_value held) r h = list_sound r held h
    member_sound (kvlist_value held) r h = map_sound r held h
    member_sound (bytes_value held) r h = leaf_sound r (values.Bytes held) refl tt h

    value_sound : (r : NotedValue) (text : List ℕ) → IsValueText IsValue IsKeyValue text r → Sound (d + 1) r.means
    value_sound r text is = of (members_of is.records) is.value
      where
        of : (ms : List Member) → Singular (MeansMember IsValue IsKeyValue) (λ x. x ≡ leaf values.Nothing) ms r → Sound (d + 1) r.means
        of [] h = leaf_sound r values.Nothing refl tt h
        of (m ∷ []) h = member_sound m r h
        of (m ∷ other ∷ more) h = absurd h

    pair_sound : (p : KeyValue) (text : List ℕ) → IsKeyValueText (λ held r. IsValueText IsValue IsKeyValue held r) text p → Sound (d + 1) p.value.means
    pair_sound p text is = of (bytes_of 2 is.records) is.value
      where
        of : (texts : List (List ℕ)) → Singular (λ held r. IsValueText IsValue IsKeyValue held r) (λ r. r ≡ leaf values.Nothing) texts p.value → Sound (d + 1) p.value.means
        of [] h = leaf_sound p.value values.Nothing refl tt h
        of (held ∷ []) h = value_sound p.value held h
        of (held ∷ other ∷ more) h = absurd h

  mutual
    unfolding value_in key_value_in

    value_in_sound : (left : ℕ) (r : NotedValue) (text : List ℕ) → value_in left text r → Sound left r.means
    value_in_sound zero r text is = absurd is
    value_in_sound (suc left) r text is =
        let so = value_sound left (value_in left) (key_value_in left) (value_in_sound left) (key_value_in_sound left) r text is in record { shallow = omega (arith, so.shallow); rising = so.rising }

    key_value_in_sound : (left : ℕ) (p : KeyValue) (text : List ℕ) → key_value_in left text p → Sound left p.value.means
    key_value_in_sound zero p text is = absurd is
    key_value_in_sound (suc left) p text is =
        let so = pair_sound left (value_in left) (key_value_in left) (value_in_sound left) (key_value_in_sound left) p text is in record { shallow = omega (arith, so.shallow); rising = so.rising }

  pub attributes_sound : (texts : List (List ℕ)) (pairs : List KeyValue) → AllZip (λ held p. key_value_at levels_below held p) texts pairs → All (λ pair. IsSound pair.1) (map entry pairs)
  attributes_sound texts pairs each = each_all (λ held p. key_value_at levels_below held p) entry (λ pair. IsSound pair.1) sound texts pairs each
    where
      sound : (p : KeyValue) (held : List ℕ) → key_value_at levels_below held p → IsSound p.value.means
      sound p held is = let so = pair_sound levels_below (value_in levels_below) (key_value_in levels_below) (value_in_sound levels_below) (key_value_in_sound levels_below) p held is in record { shallow = so.shallow; rising = so.rising }

  pub attributes_of_sound : (texts : List (List ℕ)) (attributes : List (List ℕ × Value)) (keys : Keys) → AttributesOf texts attributes keys → AreSound attributes
  attributes_of_sound texts attributes keys is = record {
    rising = is.make.kept.rising;
    values = kept_all (λ pair. IsSound pair.1) attributes (map entry is.pairs) is.make.kept (attributes_sound texts is.pairs is.each);
  }
