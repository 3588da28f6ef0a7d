-- What is read of values is proper: texts are UTF-8, integers have 64 bits, doubles eight bytes, and bytes are bytes.
use Rattle.std.proofs.Common.{◌≡◌, ℕ, zero, suc, ◌<◌, ◌^◌, ◌%◌, ◌∷◌, List, [], map, All, Option, Some, None, refl, sym, subst, arith}
use Rattle.std.specs.Prelude.{◌↔◌, ◌==◌, ⊤, IsUtf8, FitsSigned, pos}
use Rattle.std.specs.Int.{w64, cast_signed, to_be_bytes, int_wrap}
use Rattle.std.specs.List.{AllByRecursion}
use Rattle.std.proofs.lemmas.Int.{SFits-int_wrap}
use Rattle.std.proofs.lemmas.List.Elements.{All-from_recursion}
use Rattle.std.proofs.lemmas.Str.{IsUtf8-nil}
use Rattle.span_io.specs.Tables.{Singular, MeansText}
use Rattle.proto_wire.specs.Records.{Held, varint, fixed64, bytes, fixed32, Record}
use Rattle.trace_model.specs.Proper.{IsProperValue, IsProperPair, AreProper}
use Rattle.trace_model.specs.Remarks.{Keys}
use Rattle.trace_model.specs.declared.value.Value.{Value}
use Rattle.trace_model.specs.declared.value.Value.TheVariants as values
use Rattle.otlp_proto.specs.Attributes.{attribute_at, AttributesOf}
use Rattle.otlp_proto.specs.Rows.{bytes_of, MeansCount, MeansNumber}
use Rattle.otlp_proto.specs.Identifiers.{MeansTraceId, MeansSpanId}
use Rattle.span_ids.specs.Proper.{IsProperParent}
use Rattle.otlp_proto.specs.Values.{Member, string_value, bool_value, int_value, double_value, array_value, kvlist_value, bytes_value, member_in, members_of, IsListText, IsMapText, MeansMember, IsValueText, IsKeyValueText, value_in, key_value_in}
use Rattle.trace_model.specs.declared.noted.KeyValue.{KeyValue}
use Rattle.trace_model.specs.OtlpParts.{levels_below, NotedValue, leaf, entry}
use Rattle.otlp_proto.proofs.Ranges.{AreBytes, InRange, AllInRange, wire_in_range, all_bytes, in_each, chosen, span_below, trace_below, span_above, trace_above}
use Rattle.trace_model.proofs.PartLaws.{kept_all, each_in_range, ProperTrace}

-- ---- rows

-- the value of a singular row has what its default and each that is meant have
pub singular_in_range : {A B : Type 0} (Means : A → B → Type 0) (absent : B) (Q : A → Type 0) (P : B → Type 0) → P absent → ((x : A) (b : B) → Q x → Means x b → P b)
    → (xs : List A) (b : B) → AllByRecursion Q xs → Singular Means (λ x. x ≡ absent) xs b → P b
singular_in_range Means absent Q P none some [] b all h = subst P (sym h) none
singular_in_range Means absent Q P none some (x ∷ []) b all h = some x b all.0 h
singular_in_range Means absent Q P none some (x ∷ other ∷ more) b all h = absurd h

pub text_proper : (texts : List (List ℕ)) (text : List ℕ) → AllByRecursion AreBytes texts → Singular MeansText (λ t. t ≡ []) texts text → IsUtf8 text
text_proper texts text all h = singular_in_range MeansText [] AreBytes IsUtf8 IsUtf8-nil (λ x t b m. subst IsUtf8 (sym m.1) m.0) texts text all h

-- ---- members of values

abbrev MemberInRange : Member → Type 0
MemberInRange (int_value n) = n < 2 ^ 64
MemberInRange (array_value held) = AreBytes held
MemberInRange (kvlist_value held) = AreBytes held
MemberInRange (string_value held) = ⊤
MemberInRange (bool_value n) = ⊤
MemberInRange (double_value n) = ⊤
MemberInRange (bytes_value held) = AreBytes held

member_in_range : (own : ℕ) (held : Held) → InRange held → AllByRecursion MemberInRange (member_in (record { number = own; held = held }))
member_in_range own (varint n) h = chosen MemberInRange (own == 2) (bool_value n) _ tt (chosen MemberInRange (own == 3) (int_value n) [] h tt)
member_in_range own (fixed64 n) h = chosen MemberInRange (own == 4) (double_value n) [] tt tt
member_in_range own (bytes held) h =
    chosen MemberInRange (own == 1) (string_value held) _ tt (chosen MemberInRange (own == 5) (array_value held) _ h (chosen MemberInRange (own == 6) (kvlist_value held) _ h (chosen MemberInRange (own == 7) (bytes_value held) [] h tt)))
member_in_range own (fixed32 n) h = tt

members_in_range : (records : List Record) → AllInRange records → AllByRecursion MemberInRange (members_of records)
members_in_range records all = in_each MemberInRange member_in (λ r h. member_in_range r.number r.held h) records all

signed_fits : (n : ℕ) → n < 2 ^ 64 → FitsSigned w64 (cast_signed w64 n)
unfolding int_wrap
signed_fits n below = subst (λ m. FitsSigned w64 (cast_signed w64 m)) (let e : n % 2 ^ 64 ≡ n = omega (arith, below) in e) (SFits-int_wrap w64 (pos n))

byte_low : (n : ℕ) → n % 256 < 256
byte_low n = omega arith

double_proper : (n : ℕ) → IsProperValue (values.Eight (to_be_bytes w64 n))
double_proper n = (refl, All-from_recursion (λ b. b < 256) (to_be_bytes w64 n) (byte_low _, (byte_low _, (byte_low _, (byte_low _, (byte_low _, (byte_low _, (byte_low _, (byte_low _, tt)))))))))

-- ---- values

module _ (list_proper : (members : List Value) → IsProperValue (values.List members) ↔ All IsProperValue members)
    (map_proper : (pairs : List (List ℕ × Value)) → IsProperValue (values.Map pairs) ↔ AreProper pairs) where
  module _ (IsValue : List ℕ → NotedValue → Type 0) (IsKeyValue : List ℕ → KeyValue → Type 0)
      (values_proper : (r : NotedValue) (text : List ℕ) → AreBytes text → IsValue text r → IsProperValue r.means) (key_values_proper : (p : KeyValue) (text : List ℕ) → AreBytes text → IsKeyValue text p → IsProperPair (entry p)) where
    list_member_proper : (r : NotedValue) (text : List ℕ) → AreBytes text → IsListText IsValue text r → IsProperValue r.means
    list_member_proper r text all is = subst IsProperValue (sym is.make.value)
        ((list_proper (map (λ m. m.means) is.members)).1 (each_in_range IsValue (λ m. m.means) AreBytes IsProperValue (λ x a b h. values_proper x a b h) (bytes_of 1 is.records) is.members (all_bytes 1 is.records (wire_in_range is.records text all is.wire)) is.each))

    map_member_proper : (r : NotedValue) (text : List ℕ) → AreBytes text → IsMapText IsKeyValue text r → IsProperValue r.means
    map_member_proper r text all is = subst IsProperValue (sym is.make.value) ((map_proper is.make.attributes).1 (kept_all IsProperPair is.make.attributes (map entry is.pairs) is.make.kept
        (each_in_range IsKeyValue entry AreBytes IsProperPair (λ x a b h. key_values_proper x a b h) (bytes_of 1 is.records) is.pairs (all_bytes 1 is.records (wire_in_range is.records text all is.wire)) is.each)))

    leaf_proper : (r : NotedValue) (v : Value) → IsProperValue v → r ≡ leaf v → IsProperValue r.means
    leaf_proper r v so e = subst (λ (x : NotedValue). IsProperValue x.means) (sym e) so

    member_proper : (m : Member) (r : NotedValue) → MemberInRange m → MeansMember IsValue IsKeyValue m r → IsProperValue r.means
    member_proper (string_value held) r in_range h = leaf_proper r (values.Text held) h.0 h.1
    member_proper (bool_value n) r in_range h = leaf_proper r (values.Truth h.0) tt h.1
    member_proper (int_value n) r in_range h = leaf_proper r (values.Number (cast_signed w64 n)) (signed_fits n in_range) h
    member_proper (double_value n) r in_range h = leaf_proper r (values.Eight (to_be_bytes w64 n)) (double_proper n) h
    member_proper (array_value held) r in_range h = list_member_proper r held in_range h
    member_proper (kvlist_value held) r in_range h = map_member_proper r held in_range h
    member_proper (bytes_value held) r in_range h = leaf_proper r (values.Bytes held) in_range h

    value_proper : (r : NotedValue) (text : List ℕ) → AreBytes text → IsValueText IsValue IsKeyValue text r → IsProperValue r.means
    value_proper r text all is = singular_in_range (MeansMember IsValue IsKeyValue) (leaf values.Nothing) MemberInRange (λ x. IsProperValue x.means) tt (λ m x b h. member_proper m x b h)
        (members_of is.records) r (members_in_range is.records (wire_in_range is.records text all is.wire)) is.value

    key_value_proper : (p : KeyValue) (text : List ℕ) → AreBytes text → IsKeyValueText (λ held r. IsValueText IsValue IsKeyValue held r) text p → IsProperPair (entry p)
    key_value_proper p text all is = record {
      key = text_proper (bytes_of 1 is.records) p.key (all_bytes 1 is.records (wire_in_range is.records text all is.wire)) is.key;
      value = singular_in_range (λ held (r : NotedValue). IsValueText IsValue IsKeyValue held r) (leaf values.Nothing) AreBytes (λ x. IsProperValue x.means) tt (λ held x b h. value_proper x held b h)
          (bytes_of 2 is.records) p.value (all_bytes 2 is.records (wire_in_range is.records text all is.wire)) is.value;
    }

  mutual
    unfolding value_in key_value_in

    value_in_proper : (left : ℕ) (r : NotedValue) (text : List ℕ) → AreBytes text → value_in left text r → IsProperValue r.means
    value_in_proper zero r text all is = absurd is
    value_in_proper (suc left) r text all is = value_proper (value_in left) (key_value_in left) (value_in_proper left) (key_value_in_proper left) r text all is

    key_value_in_proper : (left : ℕ) (p : KeyValue) (text : List ℕ) → AreBytes text → key_value_in left text p → IsProperPair (entry p)
    key_value_in_proper zero p text all is = absurd is
    key_value_in_proper (suc left) p text all is = key_value_proper (value_in left) (key_value_in left) (value_in_proper left) (key_value_in_proper left) p text all is

  attribute_proper : (p : KeyValue) (text : List ℕ) → AreBytes text → attribute_at text p → IsProperPair (entry p)
  attribute_proper p text all is = key_value_proper (value_in levels_below) (key_value_in levels_below) (value_in_proper levels_below) (key_value_in_proper levels_below) p text all is

  pub attributes_proper : (texts : List (List ℕ)) (attributes : List (List ℕ × Value)) (keys : Keys) → AllByRecursion AreBytes texts → AttributesOf texts attributes keys → AreProper attributes
  attributes_proper texts attributes keys all is = kept_all IsProperPair attributes (map entry is.pairs) is.make.kept
      (each_in_range (λ held p. attribute_at held p) entry AreBytes IsProperPair (λ p held b h. attribute_proper p held b h) texts is.pairs all is.each)

-- ---- rows of numbers and identifiers

pub count_proper : (numbers : List ℕ) (count : ℕ) → Singular MeansCount (λ n. n ≡ 0) numbers count → count < 2 ^ 32
count_proper [] count h = omega (arith, h)
count_proper (n ∷ []) count h = omega (arith, h)
count_proper (n ∷ other ∷ more) count h = absurd h

pub number_proper : (limit : ℕ) → 0 < limit → (numbers : List ℕ) (number : ℕ) → AllByRecursion (λ n. n < limit) numbers → Singular MeansNumber (λ n. n ≡ 0) numbers number → number < limit
number_proper limit some numbers number all h = singular_in_range MeansNumber 0 (λ n. n < limit) (λ n. n < limit) some (λ n m below e. subst (λ x. x < limit) (sym e) below) numbers number all h

trace_means : (held : List ℕ) (id : Option ℕ) → AreBytes held → MeansTraceId held id → ProperTrace id
trace_means held None all h = tt
trace_means held (Some id) all h = (subst (λ n. 0 < n) (sym h.1) (trace_above held h.0.0 h.0.1), subst (λ n. n < 2 ^ 128) (sym h.1) (trace_below held h.0.0 all))

span_means : (held : List ℕ) (id : Option ℕ) → AreBytes held → MeansSpanId held id → IsProperParent id
span_means held None all h = tt
span_means held (Some id) all h = (subst (λ n. 0 < n) (sym h.1) (span_above held h.0.0 h.0.1), subst (λ n. n < 2 ^ 64) (sym h.1) (span_below held h.0.0 all))

pub trace_proper : (texts : List (List ℕ)) (id : Option ℕ) → AllByRecursion AreBytes texts → Singular MeansTraceId (λ x. x ≡ None) texts id → ProperTrace id
trace_proper texts id all h = singular_in_range MeansTraceId None AreBytes ProperTrace tt trace_means texts id all h

pub span_id_proper : (texts : List (List ℕ)) (id : Option ℕ) → AllByRecursion AreBytes texts → Singular MeansSpanId (λ x. x ≡ None) texts id → IsProperParent id
span_id_proper texts id all h = singular_in_range MeansSpanId None AreBytes IsProperParent tt span_means texts id all h
