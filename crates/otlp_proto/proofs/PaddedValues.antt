-- Free records added anywhere in values, lists, maps, `KeyValue`s and attributes change no meaning, and no number of the offence that counts.
use Rattle.std.proofs.Common.{◌≡◌, ℕ, zero, suc, ◌⊎◌, inl, inr, List, refl, sym, subst}
use Rattle.std.specs.Prelude.{◌↔◌}
use Rattle.std.specs.List.{AllZip}
use Rattle.span_io.proofs.FreeItemLaws.{equal_padding, text_self}
use Rattle.span_io.proofs.FreeItemLaws.{SameOffence, RowPadding, TablePadding}
use Rattle.span_io.specs.Offences.{Offence}
use Rattle.span_io.specs.Tables.{Next}
use Rattle.proto_wire.specs.Messages.{messages}
use Rattle.trace_model.specs.StatedLaws.{AttributesOnce, AttributesExist}
use Rattle.trace_model.specs.declared.value.Value.TheVariants as values
use Rattle.otlp_proto.specs.StatedLaws.{WireFacts}
use Rattle.otlp_proto.specs.Attributes.{attribute_at, attribute_rules, attributes}
use Rattle.otlp_proto.specs.PaddedValues.{MemberPadded, table_of_list, table_of_map, value_padded, key_value_padded, ListPadded, MapPadded, ValuePadded, KeyValuePadded, value_paddings, key_value_paddings, AttributePadded}
use Rattle.otlp_proto.specs.Rows.{text}
use Rattle.otlp_proto.proofs.Shapes.{list_laws, map_laws, value_laws, key_value_laws}
use Rattle.otlp_proto.specs.Values.{Member, string_value, bool_value, int_value, double_value, array_value, kvlist_value, bytes_value, IsListText, IsMapText, MeansMember, value_in, key_value_in, value_at, key_value_at, BadMember, InMember, many_table, value_offends, key_value_offends, table_of_value, value_rules, table_of_key_value, key_value_rules, list_rules, map_rules}
use Rattle.trace_model.specs.declared.noted.KeyValue.{KeyValue}
use Rattle.trace_model.specs.OtlpParts.{levels_below, NotedValue, leaf}
use Rattle.otlp_proto.proofs.RowDecisions.{text_decides}
use Rattle.otlp_proto.proofs.RowPaddings.{Keeps, message_padding, moved, endless_same}
use Rattle.span_io.proofs.RowLaws.{same_twice, singular_moves, all_zip_moves}
use Rattle.otlp_proto.proofs.ValueDecisions.{list_table_decides, map_table_decides, value_table_decides, key_value_table_decides}

-- ---- members of a value

member_self : (InList InMap : List ℕ → List ℕ → Type 0) → ((held : List ℕ) → InList held held) → ((held : List ℕ) → InMap held held) → (member : Member) → MemberPadded InList InMap member member
member_self InList InMap lists maps (string_value held) = refl
member_self InList InMap lists maps (bool_value n) = refl
member_self InList InMap lists maps (int_value n) = refl
member_self InList InMap lists maps (double_value n) = refl
member_self InList InMap lists maps (array_value held) = (held, refl, lists held)
member_self InList InMap lists maps (kvlist_value held) = (held, refl, maps held)
member_self InList InMap lists maps (bytes_value held) = refl

module _ (InList InMap : List ℕ → List ℕ → Type 0) where
  same_bad : (x y : Member) → MemberPadded InList InMap x y → (n : ℕ) → BadMember x n ↔ BadMember y n
  same_bad (string_value held) y padded n = subst (λ m. BadMember (string_value held) n ↔ BadMember m n) (sym padded) (λ h. h, λ h. h)
  same_bad (bool_value k) y padded n = subst (λ m. ⊥ ↔ BadMember m n) (sym padded) (λ h. h, λ h. h)
  same_bad (int_value k) y padded n = subst (λ m. ⊥ ↔ BadMember m n) (sym padded) (λ h. h, λ h. h)
  same_bad (double_value k) y padded n = subst (λ m. ⊥ ↔ BadMember m n) (sym padded) (λ h. h, λ h. h)
  same_bad (array_value held) y padded n = subst (λ m. ⊥ ↔ BadMember m n) (sym padded.1) (λ h. h, λ h. h)
  same_bad (kvlist_value held) y padded n = subst (λ m. ⊥ ↔ BadMember m n) (sym padded.1) (λ h. h, λ h. h)
  same_bad (bytes_value held) y padded n = subst (λ m. ⊥ ↔ BadMember m n) (sym padded) (λ h. h, λ h. h)

  module _ (IsValue : List ℕ → NotedValue → Type 0) (IsKeyValue : List ℕ → KeyValue → Type 0) (OffendsList OffendsMap : List ℕ → ℕ → ℕ → Type 0)
      (lists : Keeps (λ held r. IsListText IsValue held r) OffendsList InList) (maps : Keeps (λ held r. IsMapText IsKeyValue held r) OffendsMap InMap) where
    abbrev SameInside : Member → Member → Type 0
    SameInside x y = SameOffence (λ p n. InMember OffendsList OffendsMap x p n) (λ p n. InMember OffendsList OffendsMap y p n)

    same_inside : (x y : Member) → MemberPadded InList InMap x y → SameInside x y
    same_inside (string_value held) y padded = subst (λ m. SameInside (string_value held) m) (sym padded) (inl (λ p n h. h, λ p n h. h))
    same_inside (bool_value k) y padded = subst (λ m. SameInside (bool_value k) m) (sym padded) (inl (λ p n h. h, λ p n h. h))
    same_inside (int_value k) y padded = subst (λ m. SameInside (int_value k) m) (sym padded) (inl (λ p n h. h, λ p n h. h))
    same_inside (double_value k) y padded = subst (λ m. SameInside (double_value k) m) (sym padded) (inl (λ p n h. h, λ p n h. h))
    same_inside (array_value held) y padded = subst (λ m. SameInside (array_value held) m) (sym padded.1) (lists.same held padded.0 padded.2)
    same_inside (kvlist_value held) y padded = subst (λ m. SameInside (kvlist_value held) m) (sym padded.1) (maps.same held padded.0 padded.2)
    same_inside (bytes_value held) y padded = subst (λ m. SameInside (bytes_value held) m) (sym padded) (inl (λ p n h. h, λ p n h. h))

    member_moves : (x y : Member) → MemberPadded InList InMap x y → (v : NotedValue) → MeansMember IsValue IsKeyValue x v → MeansMember IsValue IsKeyValue y v
    member_moves (string_value held) y padded v is = subst (λ m. MeansMember IsValue IsKeyValue m v) (sym padded) is
    member_moves (bool_value k) y padded v is = subst (λ m. MeansMember IsValue IsKeyValue m v) (sym padded) is
    member_moves (int_value k) y padded v is = subst (λ m. MeansMember IsValue IsKeyValue m v) (sym padded) is
    member_moves (double_value k) y padded v is = subst (λ m. MeansMember IsValue IsKeyValue m v) (sym padded) is
    member_moves (array_value held) y padded v is = subst (λ m. MeansMember IsValue IsKeyValue m v) (sym padded.1) (lists.means held padded.0 padded.2 v is)
    member_moves (kvlist_value held) y padded v is = subst (λ m. MeansMember IsValue IsKeyValue m v) (sym padded.1) (maps.means held padded.0 padded.2 v is)
    member_moves (bytes_value held) y padded v is = subst (λ m. MeansMember IsValue IsKeyValue m v) (sym padded) is

either : {A B C D : Type 0} → A ↔ B → C ↔ D → (A ⊎ C) ↔ (B ⊎ D)
either {A} {B} {C} {D} first second = (to, from)
  where
    to : A ⊎ C → B ⊎ D
    to (inl a) = inl (first.0 a)
    to (inr c) = inr (second.0 c)

    from : B ⊎ D → A ⊎ C
    from (inl b) = inl (first.1 b)
    from (inr d) = inr (second.1 d)

-- ---- messages, by the levels that are left

many_pads : (left : ℕ) (B : Type 0) (Is : List ℕ → B → Type 0) (Offends : List ℕ → ℕ → ℕ → Type 0) (Padded : List ℕ → List ℕ → Type 0) → Keeps Is Offends Padded
    → TablePadding (many_table left B Is Offends) (Padded, tt)
many_pads left B Is Offends Padded keeps = (
  record {
    none = keeps.none;
    here = λ earlier others each x y padded n. (λ h. h, λ h. h);
    inside = keeps.same;
    means = all_zip_moves Padded Is keeps.means;
  },
  tt,
)

module _ (facts : WireFacts) (once : AttributesOnce) (exist : AttributesExist) (next : (rest : List ℕ) → Next messages rest) where
  -- where those that stand in a list or map keep it
  module _ (left : ℕ) (below : Keeps (value_in left) (value_offends left) (value_padded left)) (pairs_below : Keeps (key_value_in left) (key_value_offends left) (key_value_padded left)) where
    list_pads : TablePadding (table_of_list left) (value_padded left, tt)
    list_pads = many_pads left NotedValue (value_in left) (value_offends left) (value_padded left) below

    map_pads : TablePadding (table_of_map left) (key_value_padded left, tt)
    map_pads = many_pads left KeyValue (key_value_in left) (key_value_offends left) (key_value_padded left) pairs_below

    list_over : Keeps (λ held r. IsListText (value_in left) held r) (λ held p n. Offence messages (list_rules left) held p n) (ListPadded left)
    list_over = record {
      none = text_self messages facts.format next (table_of_list left) (value_padded left, tt) list_pads;
      means = λ held other t r is.
          let m = moved facts (table_of_list left) (value_padded left, tt) list_pads held other t is.records is.wire (is.members, tt) (is.each, tt) in
          record { records = m.records; wire = m.wire; members = is.members; each = m.mean.0; make = is.make };
      same = endless_same facts (table_of_list left) (value_padded left, tt) list_pads (list_table_decides facts once exist next left) (list_laws facts.format left);
    }

    map_over : Keeps (λ held r. IsMapText (key_value_in left) held r) (λ held p n. Offence messages (map_rules left) held p n) (MapPadded left)
    map_over = record {
      none = text_self messages facts.format next (table_of_map left) (key_value_padded left, tt) map_pads;
      means = λ held other t r is.
          let m = moved facts (table_of_map left) (key_value_padded left, tt) map_pads held other t is.records is.wire (is.pairs, tt) (is.each, tt) in
          record { records = m.records; wire = m.wire; pairs = is.pairs; each = m.mean.0; make = is.make };
      same = endless_same facts (table_of_map left) (key_value_padded left, tt) map_pads (map_table_decides facts once exist next left) (map_laws facts.format left);
    }

    abbrev InList : List ℕ → ℕ → ℕ → Type 0
    InList held p n = Offence messages (list_rules left) held p n

    abbrev InMap : List ℕ → ℕ → ℕ → Type 0
    InMap held p n = Offence messages (map_rules left) held p n

    abbrev Padded : Member → Member → Type 0
    Padded x y = MemberPadded (ListPadded left) (MapPadded left) x y

    value_pads : TablePadding (table_of_value left) (value_paddings left)
    value_pads = (
      record {
        none = member_self (ListPadded left) (MapPadded left) list_over.none map_over.none;
        here = λ earlier others each x y padded n. either (same_twice Padded earlier others each n) (same_bad (ListPadded left) (MapPadded left) x y padded n);
        inside = same_inside (ListPadded left) (MapPadded left) (value_in left) (key_value_in left) InList InMap list_over map_over;
        means = singular_moves Padded (MeansMember (value_in left) (key_value_in left))
            (member_moves (ListPadded left) (MapPadded left) (value_in left) (key_value_in left) InList InMap list_over map_over) (λ x. x ≡ leaf values.Nothing);
      },
      tt,
    )

    value_over : Keeps (value_at left) (λ held p n. Offence messages (value_rules left) held p n) (ValuePadded left)
    value_over = record {
      none = text_self messages facts.format next (table_of_value left) (value_paddings left) value_pads;
      means = λ held other t r is.
          let m = moved facts (table_of_value left) (value_paddings left) value_pads held other t is.records is.wire (r, tt) (is.value, tt) in
          record { records = m.records; wire = m.wire; value = m.mean.0 };
      same = endless_same facts (table_of_value left) (value_paddings left) value_pads (value_table_decides facts once exist next left) (value_laws facts.format left);
    }

    key_value_pads : TablePadding (table_of_key_value left) (key_value_paddings left)
    key_value_pads = (
      equal_padding (text 1) (text_decides 1),
      (message_padding (λ held r. value_at left held r) (λ held p n. Offence messages (value_rules left) held p n) (ValuePadded left) value_over 2 (leaf values.Nothing), tt),
    )

    key_value_over : Keeps (key_value_at left) (λ held p n. Offence messages (key_value_rules left) held p n) (KeyValuePadded left)
    key_value_over = record {
      none = text_self messages facts.format next (table_of_key_value left) (key_value_paddings left) key_value_pads;
      means = λ held other t r is.
          let m = moved facts (table_of_key_value left) (key_value_paddings left) key_value_pads held other t is.records is.wire (r.key, (r.value, tt)) (is.key, (is.value, tt)) in
          record { records = m.records; wire = m.wire; key = m.mean.0; value = m.mean.1.0 };
      same = endless_same facts (table_of_key_value left) (key_value_paddings left) key_value_pads (key_value_table_decides facts once exist next left) (key_value_laws facts.format left);
    }

  mutual
    unfolding value_padded key_value_padded value_in key_value_in value_offends key_value_offends

    pub value_in_keeps : (left : ℕ) → Keeps (value_in left) (value_offends left) (value_padded left)
    value_in_keeps zero = record { none = λ held. refl; means = λ held other same r is. absurd is; same = λ held other same. inl (λ p n h. h, λ p n h. h) }
    value_in_keeps (suc left) =
        let keeps = value_over left (value_in_keeps left) (key_value_in_keeps left) in
        record { none = λ held. keeps.none held; means = λ held other t r is. keeps.means held other t r is; same = λ held other t. keeps.same held other t }

    pub key_value_in_keeps : (left : ℕ) → Keeps (key_value_in left) (key_value_offends left) (key_value_padded left)
    key_value_in_keeps zero = record { none = λ held. refl; means = λ held other same r is. absurd is; same = λ held other same. inl (λ p n h. h, λ p n h. h) }
    key_value_in_keeps (suc left) =
        let keeps = key_value_over left (value_in_keeps left) (key_value_in_keeps left) in
        record { none = λ held. keeps.none held; means = λ held other t r is. keeps.means held other t r is; same = λ held other t. keeps.same held other t }

  pub list_keeps : (left : ℕ) → Keeps (λ held r. IsListText (value_in left) held r) (λ held p n. Offence messages (list_rules left) held p n) (ListPadded left)
  list_keeps left = list_over left (value_in_keeps left) (key_value_in_keeps left)

  pub map_keeps : (left : ℕ) → Keeps (λ held r. IsMapText (key_value_in left) held r) (λ held p n. Offence messages (map_rules left) held p n) (MapPadded left)
  map_keeps left = map_over left (value_in_keeps left) (key_value_in_keeps left)

  pub value_keeps : (left : ℕ) → Keeps (value_at left) (λ held p n. Offence messages (value_rules left) held p n) (ValuePadded left)
  value_keeps left = value_over left (value_in_keeps left) (key_value_in_keeps left)

  pub key_value_keeps : (left : ℕ) → Keeps (key_value_at left) (λ held p n. Offence messages (key_value_rules left) held p n) (KeyValuePadded left)
  key_value_keeps left = key_value_over left (value_in_keeps left) (key_value_in_keeps left)

  -- ---- attributes

  pub attribute_keeps : Keeps attribute_at (λ held p n. Offence messages attribute_rules held p n) AttributePadded
  attribute_keeps = key_value_keeps levels_below

  pub attributes_padding : (number : ℕ) → RowPadding (attributes number) AttributePadded
  attributes_padding number = record {
    none = attribute_keeps.none;
    here = λ earlier others each x y padded n. (λ h. h, λ h. h);
    inside = attribute_keeps.same;
    means = λ xs ys each a is. record { pairs = is.pairs; each = goes xs ys each is.pairs is.each; make = is.make };
  }
    where
      goes : (xs ys : List (List ℕ)) → AllZip AttributePadded xs ys → (pairs : List KeyValue) → AllZip attribute_at xs pairs → AllZip attribute_at ys pairs
      goes xs ys each pairs is = all_zip_moves AttributePadded (λ held p. attribute_at held p) attribute_keeps.means xs ys each pairs is
