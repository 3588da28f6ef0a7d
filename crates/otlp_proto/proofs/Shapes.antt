-- What stands inside a record offends within its bytes, in each row of OTLP's tables, and at their end with no number above a bound. The
-- search for the offence that counts asks it.
use Rattle.std.proofs.Common.{◌≡◌, ℕ, zero, suc, ◌≤◌, inl, inr, ◌==◌, if◌then◌else◌, Bool, true, false, List, [], ◌∷◌, length, refl, ap, subst, arith}
use Rattle.span_io.specs.Offences.{Offence}
use Rattle.span_io.specs.Offences.{FormatLaws, RulesLaws}
use Rattle.span_io.specs.Tables.{Row, rules_by, no_ends}
use Rattle.span_io.proofs.TableLaws.{IsFew, HasBareEnd, RowShape, TableShape, table_rules, message_within, message_late}
use Rattle.proto_wire.specs.Messages.{messages, inner_size, NoRecord}
use Rattle.proto_wire.specs.Records.{Held, varint, fixed64, bytes, fixed32, Record}
use Rattle.otlp_proto.specs.Attributes.{attributes, attribute_rules}
use Rattle.otlp_proto.specs.Rows.{bytes_in, varint_in, fixed64_in, fixed32_in, bytes_row, number_row, text, time, flags, count, enum, trace_id, span_id, message, messages_of}
use Rattle.otlp_proto.specs.Values.{Member, string_value, bool_value, int_value, double_value, array_value, kvlist_value, bytes_value, member_in, InMember, value_in, key_value_in, value_offends, key_value_offends, many_table, many_rules, value_table, key_value_table, table_of_value, value_rules, table_of_key_value, key_value_rules, list_rules, map_rules}
use Rattle.trace_model.specs.declared.noted.KeyValue.{KeyValue}
use Rattle.trace_model.specs.OtlpParts.{NotedValue, levels_below}

-- what offends in some bytes does so within them, and at their end with no number above `top`
pub record Bounded (top : ℕ) (Offends : List ℕ → ℕ → ℕ → Type 0) : Type 0 where
  pub within : (held : List ℕ) (place n : ℕ) → Offends held place n → place ≤ length held
  pub late : (held : List ℕ) (place n : ℕ) → Offends held place n → length held ≤ place → n ≤ top

-- ---- what a record gives to a row

few_if : {A : Type 0} (b : Bool) (x : A) → IsFew (if b then x ∷ [] else [])
few_if true x = inr (x, refl)
few_if false x = inl refl

pub bytes_few : (number : ℕ) (r : Record) → IsFew (bytes_in number r)
bytes_few number r = of r.held
  where
    of : (h : Held) → IsFew (bytes_in number (record { number = r.number; held = h }))
    of (bytes held) = few_if (r.number == number) held
    of (varint n) = inl refl
    of (fixed64 n) = inl refl
    of (fixed32 n) = inl refl

pub varint_few : (number : ℕ) (r : Record) → IsFew (varint_in number r)
varint_few number r = of r.held
  where
    of : (h : Held) → IsFew (varint_in number (record { number = r.number; held = h }))
    of (varint n) = few_if (r.number == number) n
    of (bytes held) = inl refl
    of (fixed64 n) = inl refl
    of (fixed32 n) = inl refl

pub fixed64_few : (number : ℕ) (r : Record) → IsFew (fixed64_in number r)
fixed64_few number r = of r.held
  where
    of : (h : Held) → IsFew (fixed64_in number (record { number = r.number; held = h }))
    of (fixed64 n) = few_if (r.number == number) n
    of (bytes held) = inl refl
    of (varint n) = inl refl
    of (fixed32 n) = inl refl

pub fixed32_few : (number : ℕ) (r : Record) → IsFew (fixed32_in number r)
fixed32_few number r = of r.held
  where
    of : (h : Held) → IsFew (fixed32_in number (record { number = r.number; held = h }))
    of (fixed32 n) = few_if (r.number == number) n
    of (bytes held) = inl refl
    of (varint n) = inl refl
    of (fixed64 n) = inl refl

-- the bytes that it gives are those that it holds
bytes_small : (number : ℕ) (r : Record) (x : List ℕ) → bytes_in number r ≡ x ∷ [] → length x ≡ inner_size r.held
bytes_small number r x e = of r.held e
  where
    one : (b : Bool) (held : List ℕ) → (if b then held ∷ [] else []) ≡ x ∷ [] → length x ≡ length held
    one true held e = ap length (let same : x ≡ held = cc in same)
    one false held e = cc

    of : (h : Held) → bytes_in number (record { number = r.number; held = h }) ≡ x ∷ [] → length x ≡ inner_size h
    of (bytes held) e = one (r.number == number) held e
    of (varint n) e = cc
    of (fixed64 n) e = cc
    of (fixed32 n) e = cc

-- ---- rows

module _ (top : ℕ) where
  pub bytes_shape : (number : ℕ) (B : Type 0) (Means : List (List ℕ) → B → Type 0) (Here : List (List ℕ) → List ℕ → ℕ → Type 0) (Inside : List ℕ → ℕ → ℕ → Type 0) → Bounded top Inside
      → RowShape messages (bytes_row number B Means Here Inside) top
  bytes_shape number B Means Here Inside bounded = record {
    few = bytes_few number;
    within = λ r x gives place n h. (omega arith, omega (arith, bounded.within x place n h, bytes_small number r x gives));
    late = λ bare r x gives place n h behind. bounded.late x place n h (omega (arith, bytes_small number r x gives));
  }

  pub number_shape : (give : Record → List ℕ) (B : Type 0) (Means : List ℕ → B → Type 0) (Here : List ℕ → ℕ → ℕ → Type 0) → ((r : Record) → IsFew (give r)) → RowShape messages (number_row give B Means Here) top
  number_shape give B Means Here few = record { few = few; within = λ r x gives place n h. absurd h; late = λ bare r x gives place n h behind. absurd h }

  nothing_bounded : Bounded top (λ held place n. ⊥)
  nothing_bounded = record { within = λ held place n h. absurd h; late = λ held place n h behind. absurd h }

  pub text_shape : (number : ℕ) → RowShape messages (text number) top
  text_shape number = bytes_shape number _ _ _ _ nothing_bounded

  pub trace_id_shape : (number : ℕ) → RowShape messages (trace_id number) top
  trace_id_shape number = bytes_shape number _ _ _ _ nothing_bounded

  pub span_id_shape : (number : ℕ) → RowShape messages (span_id number) top
  span_id_shape number = bytes_shape number _ _ _ _ nothing_bounded

  pub time_shape : (number : ℕ) → RowShape messages (time number) top
  time_shape number = number_shape (fixed64_in number) _ _ _ (fixed64_few number)

  pub flags_shape : (number : ℕ) → RowShape messages (flags number) top
  flags_shape number = number_shape (fixed32_in number) _ _ _ (fixed32_few number)

  pub count_shape : (number : ℕ) → RowShape messages (count number) top
  count_shape number = number_shape (varint_in number) _ _ _ (varint_few number)

  pub enum_shape : (number last : ℕ) (E : Type 0) (number_of : E → ℕ) (default : E) → RowShape messages (enum number last E number_of default) top
  enum_shape number last E number_of default = number_shape (varint_in number) _ _ _ (varint_few number)

  pub message_shape : (number : ℕ) (B : Type 0) (Is : List ℕ → B → Type 0) (absent : B) (Offends : List ℕ → ℕ → ℕ → Type 0) → Bounded top Offends → RowShape messages (message number B Is absent Offends) top
  message_shape number B Is absent Offends bounded = bytes_shape number B _ _ Offends bounded

  pub messages_shape : (number : ℕ) (B : Type 0) (Is : List ℕ → B → Type 0) (Offends : List ℕ → ℕ → ℕ → Type 0) → Bounded top Offends → RowShape messages (messages_of number B Is Offends) top
  messages_shape number B Is Offends bounded = bytes_shape number (List B) _ _ Offends bounded

-- where no record begins the number of the cause is at most 3
pub unread_late : (rest : List ℕ) (n : ℕ) → NoRecord rest n → n ≤ 3
unread_late rest n (inl h) = omega (arith, h.0)
unread_late rest n (inr (inl h)) = omega (arith, h.0)
unread_late rest n (inr (inr h)) = omega (arith, h.0)

-- a message's end has no bytes
pub bare_end : HasBareEnd messages
bare_end = ([], refl, refl)

-- ---- members of a value

member_bytes : Member → List ℕ
member_bytes (array_value held) = held
member_bytes (kvlist_value held) = held
member_bytes other = []

pub member_few : (r : Record) → IsFew (member_in r)
member_few r = of r.held
  where
    few_or : (b : Bool) (x : Member) (rest : List Member) → IsFew rest → IsFew (if b then x ∷ [] else rest)
    few_or true x rest few = inr (x, refl)
    few_or false x rest few = few

    of : (h : Held) → IsFew (member_in (record { number = r.number; held = h }))
    of (bytes held) = few_or (r.number == 1) (string_value held) _ (few_or (r.number == 5) (array_value held) _ (few_or (r.number == 6) (kvlist_value held) _ (few_if (r.number == 7) (bytes_value held))))
    of (varint n) = few_or (r.number == 2) (bool_value n) _ (few_if (r.number == 3) (int_value n))
    of (fixed64 n) = few_if (r.number == 4) (double_value n)
    of (fixed32 n) = inl refl

member_small : (r : Record) (m : Member) → member_in r ≡ m ∷ [] → length (member_bytes m) ≤ inner_size r.held
unfolding member_bytes
member_small r m e = of r.held e
  where
    is_first : (x : Member) (size : ℕ) → length (member_bytes x) ≤ size → x ∷ [] ≡ m ∷ [] → length (member_bytes m) ≤ size
    is_first x size small e = let same : x ≡ m = cc in subst (λ (y : Member). length (member_bytes y) ≤ size) same small

    small_or : (b : Bool) (x : Member) (rest : List Member) (size : ℕ) → length (member_bytes x) ≤ size → (rest ≡ m ∷ [] → length (member_bytes m) ≤ size) → (if b then x ∷ [] else rest) ≡ m ∷ [] → length (member_bytes m) ≤ size
    small_or true x rest size small other e = is_first x size small e
    small_or false x rest size small other e = other e

    never : (size : ℕ) → [] ≡ m ∷ [] → length (member_bytes m) ≤ size
    never size e = cc

    of : (h : Held) → member_in (record { number = r.number; held = h }) ≡ m ∷ [] → length (member_bytes m) ≤ inner_size h
    of (bytes held) e = small_or (r.number == 1) (string_value held) _ (length held) (omega arith) (
        small_or (r.number == 5) (array_value held) _ (length held) (omega arith) (
        small_or (r.number == 6) (kvlist_value held) _ (length held) (omega arith) (
        small_or (r.number == 7) (bytes_value held) [] (length held) (omega arith) (never (length held))))) e
    of (varint n) e = small_or (r.number == 2) (bool_value n) _ 0 (omega arith) (small_or (r.number == 3) (int_value n) [] 0 (omega arith) (never 0)) e
    of (fixed64 n) e = small_or (r.number == 4) (double_value n) [] 0 (omega arith) (never 0) e
    of (fixed32 n) e = never 0 e

module _ (IsValue : List ℕ → NotedValue → Type 0) (IsKeyValue : List ℕ → KeyValue → Type 0) (InList InMap : List ℕ → ℕ → ℕ → Type 0) (lists : Bounded 3 InList) (maps : Bounded 3 InMap) where
  in_member_within : (m : Member) (place n : ℕ) → InMember InList InMap m place n → place ≤ length (member_bytes m)
  unfolding member_bytes
  in_member_within (string_value held) place n h = absurd h
  in_member_within (bool_value k) place n h = absurd h
  in_member_within (int_value k) place n h = absurd h
  in_member_within (double_value k) place n h = absurd h
  in_member_within (array_value held) place n h = lists.within held place n h
  in_member_within (kvlist_value held) place n h = maps.within held place n h
  in_member_within (bytes_value held) place n h = absurd h

  in_member_late : (m : Member) (place n : ℕ) → InMember InList InMap m place n → length (member_bytes m) ≤ place → n ≤ 3
  unfolding member_bytes
  in_member_late (string_value held) place n h late = absurd h
  in_member_late (bool_value k) place n h late = absurd h
  in_member_late (int_value k) place n h late = absurd h
  in_member_late (double_value k) place n h late = absurd h
  in_member_late (array_value held) place n h late = lists.late held place n h late
  in_member_late (kvlist_value held) place n h late = maps.late held place n h late
  in_member_late (bytes_value held) place n h late = absurd h

  pub value_shape : TableShape messages (value_table IsValue IsKeyValue InList InMap) 3
  value_shape = (
    record {
      few = member_few;
      within = λ r m gives place n h. (omega arith, omega (arith, in_member_within m place n h, member_small r m gives));
      late = λ bare r m gives place n h behind. in_member_late m place n h (omega (arith, member_small r m gives));
    },
    tt,
  )

-- ---- messages

module _ (laws : FormatLaws messages) where
  -- of a message that doesn't offend at its end
  endless : (table : List (Row Record)) (top : ℕ) → 3 ≤ top → TableShape messages table top → Bounded top (λ held place n. Offence messages (rules_by table no_ends) held place n)
  endless table top above shape = record {
    within = λ held place n o. message_within messages laws table top shape no_ends (λ bare seen m e. absurd e) held place n o;
    late = λ held place n o behind. message_late messages laws table top shape bare_end (omega arith) no_ends top (omega arith) (λ rest m u. omega (arith, unread_late rest m u, above)) (λ seen m e. absurd e) held place n o behind;
  }

  -- and what it keeps
  endless_rules : (table : List (Row Record)) (top : ℕ) → TableShape messages table top → RulesLaws messages (rules_by table no_ends)
  endless_rules table top shape = table_rules messages laws table top shape no_ends (λ bare seen m e. absurd e)

  pub many_shape : (left : ℕ) (B : Type 0) (Is : List ℕ → B → Type 0) (Offends : List ℕ → ℕ → ℕ → Type 0) → Bounded 3 Offends → TableShape messages (many_table left B Is Offends) 3
  many_shape left B Is Offends bounded = (bytes_shape 3 1 (List B) _ _ Offends bounded, tt)

  many_bounded : (left : ℕ) (B : Type 0) (Is : List ℕ → B → Type 0) (Offends : List ℕ → ℕ → ℕ → Type 0) → Bounded 3 Offends → Bounded 3 (λ held p n. Offence messages (many_rules left B Is Offends) held p n)
  many_bounded left B Is Offends bounded = endless (many_table left B Is Offends) 3 (omega arith) (many_shape left B Is Offends bounded)

  key_value_shape : (IsValue : List ℕ → NotedValue → Type 0) (Offends : List ℕ → ℕ → ℕ → Type 0) → Bounded 3 Offends → TableShape messages (key_value_table IsValue Offends) 3
  key_value_shape IsValue Offends bounded = (text_shape 3 1, (message_shape 3 2 NotedValue IsValue _ Offends bounded, tt))

  -- a value and a `KeyValue`, where what stands below them is bounded
  module _ (left : ℕ) (below : Bounded 3 (value_offends left)) (pairs_below : Bounded 3 (key_value_offends left)) where
    value_shape_over : TableShape messages (table_of_value left) 3
    value_shape_over = value_shape (value_in left) (key_value_in left) (λ held p n. Offence messages (list_rules left) held p n) (λ held p n. Offence messages (map_rules left) held p n)
        (many_bounded left NotedValue (value_in left) (value_offends left) below) (many_bounded left KeyValue (key_value_in left) (key_value_offends left) pairs_below)

    value_over : Bounded 3 (λ held p n. Offence messages (value_rules left) held p n)
    value_over = endless (table_of_value left) 3 (omega arith) value_shape_over

    key_value_shape_over : TableShape messages (table_of_key_value left) 3
    key_value_shape_over = key_value_shape _ (λ held p n. Offence messages (value_rules left) held p n) value_over

    key_value_over : Bounded 3 (λ held p n. Offence messages (key_value_rules left) held p n)
    key_value_over = endless (table_of_key_value left) 3 (omega arith) key_value_shape_over

  mutual
    unfolding value_offends key_value_offends

    pub value_bounded : (left : ℕ) → Bounded 3 (value_offends left)
    value_bounded zero = record { within = λ held p n h. absurd h; late = λ held p n h behind. absurd h }
    value_bounded (suc left) =
        let over = value_over left (value_bounded left) (key_value_bounded left) in
        record { within = λ held p n h. over.within held p n h; late = λ held p n h behind. over.late held p n h behind }

    pub key_value_bounded : (left : ℕ) → Bounded 3 (key_value_offends left)
    key_value_bounded zero = record { within = λ held p n h. absurd h; late = λ held p n h behind. absurd h }
    key_value_bounded (suc left) =
        let over = key_value_over left (value_bounded left) (key_value_bounded left) in
        record { within = λ held p n h. over.within held p n h; late = λ held p n h behind. over.late held p n h behind }

  -- ---- the messages, with their shapes and what their rules keep

  pub list_laws : (left : ℕ) → RulesLaws messages (list_rules left)
  list_laws left = endless_rules (many_table left NotedValue (value_in left) (value_offends left)) 3 (many_shape left NotedValue (value_in left) (value_offends left) (value_bounded left))

  pub map_laws : (left : ℕ) → RulesLaws messages (map_rules left)
  map_laws left = endless_rules (many_table left KeyValue (key_value_in left) (key_value_offends left)) 3 (many_shape left KeyValue (key_value_in left) (key_value_offends left) (key_value_bounded left))

  pub shape_of_value : (left : ℕ) → TableShape messages (table_of_value left) 3
  shape_of_value left = value_shape_over left (value_bounded left) (key_value_bounded left)

  pub value_laws : (left : ℕ) → RulesLaws messages (value_rules left)
  value_laws left = endless_rules (table_of_value left) 3 (shape_of_value left)

  pub shape_of_key_value : (left : ℕ) → TableShape messages (table_of_key_value left) 3
  shape_of_key_value left = key_value_shape_over left (value_bounded left) (key_value_bounded left)

  pub key_value_laws : (left : ℕ) → RulesLaws messages (key_value_rules left)
  key_value_laws left = endless_rules (table_of_key_value left) 3 (shape_of_key_value left)

  pub attribute_bounded : Bounded 3 (λ held p n. Offence messages attribute_rules held p n)
  attribute_bounded = key_value_over levels_below (value_bounded levels_below) (key_value_bounded levels_below)

  pub attributes_shape : (number : ℕ) → RowShape messages (attributes number) 3
  attributes_shape number = bytes_shape 3 number _ _ _ _ attribute_bounded

pub higher : (low high : ℕ) (Offends : List ℕ → ℕ → ℕ → Type 0) → low ≤ high → Bounded low Offends → Bounded high Offends
higher low high Offends above bounded = record { within = bounded.within; late = λ held p n h behind. omega (arith, bounded.late held p n h behind, above) }
