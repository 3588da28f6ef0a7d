-- What is read of a text in UTF-8 has strings and keys in UTF-8, and integers of 64 bits.
use Rattle.std.proofs.Common.{◌≡◌, ℕ, zero, suc, ◌≤◌, ◌^◌, ◌==◌, ℤ, pos, neg_ℤ, Bool, true, false, cond, ◌&&◌, nat_lt, nat_le, List, [], ◌∷◌, length, drop, Option, Some, None, option_map, option_and_then, is_some, IsUtf8, refl, sym, ap, ◌∙◌, subst, true≢false, leb-true, ltb-true, arith}
use Rattle.std.specs.Prelude.{⊤, FitsSigned, slice_index}
use Rattle.std.specs.Int.{w64}
use Rattle.std.specs.Ordering.{nat_cmp, match_ordering}
use Rattle.std.specs.Cmp.Lexicographic.{slice_cmp}
use Rattle.std.specs.declared.cmp.Ordering.{Ordering}
use Rattle.std.specs.declared.cmp.Ordering.TheVariants.{Less, Equal, Greater}
use Rattle.std.proofs.lemmas.Bool.{and_parts}
use Rattle.std.proofs.lemmas.Int.{fits_signed_from_abs}
use Rattle.std.proofs.lemmas.List.Elements.{All-head, All-tail}
use Rattle.fast_float.specs.Text.{minus, Parts, scan, digits_of, nearest, with_sign}
use Rattle.std.specs.Float.{binary64, float_is_finite}
use Rattle.json.specs.Json as json
use Rattle.json.specs.Lex.{tokens}
use Rattle.json.specs.Token as token
use Rattle.json.specs.Token.{Token}
use Rattle.serde_json.specs.Data.{Num, unsigned, negative, float, Data, null, boolean, number, string, array, object, Items, no_items, item, Members, no_members, member, put}
use Rattle.serde_json.specs.Find.{as_i64}
use Rattle.serde_json.specs.Read.{is_integer, float_of, number_from, number_of, of_json, of_items, of_members, max_depth, read}
use Rattle.trace_model.proofs.JsonTokens.{IsTextToken, AreTexts, tokens_texts}

-- ---- values of JSON

abbrev mutual
  TextJson : json.Json → Type 0
  TextJson json.null = ⊤
  TextJson (json.boolean b) = ⊤
  TextJson (json.number s) = ⊤
  TextJson (json.string s) = IsUtf8 s
  TextJson (json.array js) = TextItems js
  TextJson (json.object ms) = TextMembers ms

  TextItems : json.Items → Type 0
  TextItems json.no_items = ⊤
  TextItems (json.item j js) = TextJson j × TextItems js

  TextMembers : json.Members → Type 0
  TextMembers json.no_members = ⊤
  TextMembers (json.member k j ms) = IsUtf8 k × TextJson j × TextMembers ms

abbrev Fine : {A : Type 0} → (A → Type 0) → Option (A × List Token) → Type 0
Fine P None = ⊤
Fine P (Some r) = P r.0 × AreTexts r.1

abbrev Keeps : {A : Type 0} → (A → Type 0) → (List Token → Option (A × List Token)) → Type 0
Keeps P parse = (ts : List Token) → AreTexts ts → Fine P (parse ts)

mapped : {A B : Type 0} (P : A → Type 0) (Q : B → Type 0) (f : A → B) → ((a : A) → P a → Q (f a)) → (o : Option (A × List Token)) → Fine P o → Fine Q (json.parse_map f o)
mapped P Q f each None fine = tt
mapped P Q f each (Some r) fine = (each r.0 fine.0, fine.1)

then_fine : {A B : Type 0} (P : A → Type 0) (Q : B → Type 0) (next : A × List Token → Option (B × List Token)) → ((r : A × List Token) → P r.0 → AreTexts r.1 → Fine Q (next r))
    → (o : Option (A × List Token)) → Fine P o → Fine Q (option_and_then next o)
then_fine P Q next each None fine = tt
then_fine P Q next each (Some r) fine = each r fine.0 fine.1

abbrev Rest : Option (List Token) → Type 0
Rest None = ⊤
Rest (Some ts) = AreTexts ts

end_fine : (ts : List Token) → AreTexts ts → Rest (json.after_end_array ts)
end_fine [] all = tt
end_fine (token.begin_object ∷ ts) all = tt
end_fine (token.end_object ∷ ts) all = tt
end_fine (token.begin_array ∷ ts) all = tt
end_fine (token.end_array ∷ ts) all = All-tail IsTextToken token.end_array ts all
end_fine (token.key s ∷ ts) all = tt
end_fine (token.string s ∷ ts) all = tt
end_fine (token.number s ∷ ts) all = tt
end_fine (token.boolean b ∷ ts) all = tt
end_fine (token.null ∷ ts) all = tt
end_fine (token.bad ∷ ts) all = tt

abbrev TextKey : Option (List ℕ) → Type 0
TextKey None = ⊤
TextKey (Some k) = IsUtf8 k

key_fine : Keeps TextKey json.read_key
key_fine [] all = tt
key_fine (token.begin_object ∷ ts) all = tt
key_fine (token.end_object ∷ ts) all = (tt, All-tail IsTextToken token.end_object ts all)
key_fine (token.begin_array ∷ ts) all = tt
key_fine (token.end_array ∷ ts) all = tt
key_fine (token.key s ∷ ts) all = (All-head IsTextToken (token.key s) ts all, All-tail IsTextToken (token.key s) ts all)
key_fine (token.string s ∷ ts) all = tt
key_fine (token.number s ∷ ts) all = tt
key_fine (token.boolean b ∷ ts) all = tt
key_fine (token.null ∷ ts) all = tt
key_fine (token.bad ∷ ts) all = tt

module _ (value : List Token → Option (json.Json × List Token)) (values : Keeps TextJson value) where
  step_items : (more : List Token → Option (json.Items × List Token)) → Keeps TextItems more → (ts : List Token) → AreTexts ts → (o : Option (List Token)) → Rest o
      → Fine TextItems (json.items_step value more ts o)
  step_items more its ts all (Some rest) fine = (tt, fine)
  step_items more its ts all None fine = then_fine TextJson TextItems (λ p. json.parse_map (json.item p.0) (more p.1))
      (λ p here rest. mapped TextItems TextItems (json.item p.0) (λ js others. (here, others)) (more p.1) (its p.1 rest)) (value ts) (values ts all)

  items_fine : (n : ℕ) → Keeps TextItems (json.items value n)
  unfolding json.items
  items_fine zero ts all = tt
  items_fine (suc n) ts all = step_items (json.items value n) (items_fine n) ts all (json.after_end_array ts) (end_fine ts all)

  step_members : (more : List Token → Option (json.Members × List Token)) → Keeps TextMembers more → (k : Option (List ℕ)) → TextKey k → (ts : List Token) → AreTexts ts
      → Fine TextMembers (json.members_step value more k ts)
  step_members more its None key ts all = (tt, all)
  step_members more its (Some k) key ts all = then_fine TextJson TextMembers (λ p. json.parse_map (json.member k p.0) (more p.1))
      (λ p here rest. mapped TextMembers TextMembers (json.member k p.0) (λ ms others. (key, here, others)) (more p.1) (its p.1 rest)) (value ts) (values ts all)

  members_fine : (n : ℕ) → Keeps TextMembers (json.members value n)
  unfolding json.members
  members_fine zero ts all = tt
  members_fine (suc n) ts all = then_fine TextKey TextMembers (λ p. json.members_step value (json.members value n) p.0 p.1)
      (λ p key rest. step_members (json.members value n) (members_fine n) p.0 key p.1 rest) (json.read_key ts) (key_fine ts all)

with_fine : (a : List Token → Option (json.Items × List Token)) (o : List Token → Option (json.Members × List Token)) → Keeps TextItems a → Keeps TextMembers o
    → Keeps TextJson (json.value_with a o)
with_fine a o its theirs [] all = tt
with_fine a o its theirs (token.begin_object ∷ ts) all = mapped TextMembers TextJson json.object (λ ms is. is) (o ts) (theirs ts (All-tail IsTextToken token.begin_object ts all))
with_fine a o its theirs (token.end_object ∷ ts) all = tt
with_fine a o its theirs (token.begin_array ∷ ts) all = mapped TextItems TextJson json.array (λ js is. is) (a ts) (its ts (All-tail IsTextToken token.begin_array ts all))
with_fine a o its theirs (token.end_array ∷ ts) all = tt
with_fine a o its theirs (token.key s ∷ ts) all = tt
with_fine a o its theirs (token.string s ∷ ts) all = (All-head IsTextToken (token.string s) ts all, All-tail IsTextToken (token.string s) ts all)
with_fine a o its theirs (token.number s ∷ ts) all = (tt, All-tail IsTextToken (token.number s) ts all)
with_fine a o its theirs (token.boolean b ∷ ts) all = (tt, All-tail IsTextToken (token.boolean b) ts all)
with_fine a o its theirs (token.null ∷ ts) all = (tt, All-tail IsTextToken token.null ts all)
with_fine a o its theirs (token.bad ∷ ts) all = tt

value_fine : (depth : ℕ) → Keeps TextJson (json.value depth)
unfolding json.value
value_fine zero = with_fine (λ ts. None) (λ ts. None) (λ ts all. tt) (λ ts all. tt)
value_fine (suc depth) = with_fine (λ ts. json.items (json.value depth) (length ts) ts) (λ ts. json.members (json.value depth) (length ts) ts)
    (λ ts all. items_fine (json.value depth) (value_fine depth) (length ts) ts all) (λ ts all. members_fine (json.value depth) (value_fine depth) (length ts) ts all)

-- ---- numbers

abbrev pub FitsNum : Num → Type 0
FitsNum n = (z : ℤ) → as_i64 n ≡ Some z → FitsSigned w64 z

-- ---- data

abbrev mutual
  pub FineData : Data → Type 0
  FineData null = ⊤
  FineData (boolean b) = ⊤
  FineData (number n) = (s : List ℕ) × (number_of s ≡ Some n)
  FineData (string s) = IsUtf8 s
  FineData (array ds) = FineItems ds
  FineData (object ms) = FineMembers ms

  pub FineItems : Items → Type 0
  FineItems no_items = ⊤
  FineItems (item d ds) = FineData d × FineItems ds

  pub FineMembers : Members → Type 0
  FineMembers no_members = ⊤
  FineMembers (member k d ms) = IsUtf8 k × FineData d × FineMembers ms

put_fine : (k : List ℕ) (d : Data) (ms : Members) → IsUtf8 k → FineData d → FineMembers ms → FineMembers (put k d ms)
put_fine k d no_members key its all = (key, its, tt)
put_fine k d (member l e ms) key its all = by (put_fine k d ms key its all.2) (slice_cmp nat_cmp k l)
  where
    by : FineMembers (put k d ms) → (o : Ordering) → FineMembers (match_ordering o (member k d (member l e ms)) (member l d ms) (member l e (put k d ms)))
    by rest Less = (key, its, all)
    by rest Equal = (all.0, its, all.2)
    by rest Greater = (all.0, all.1, rest)

abbrev Holds : {A : Type 0} → (A → Type 0) → Option A → Type 0
Holds P None = ⊤
Holds P (Some a) = P a

number_fine : (s : List ℕ) (o : Option Num) → number_of s ≡ o → Holds FineData (option_map number o)
number_fine s None e = tt
number_fine s (Some n) e = (s, e)

in_map : {A B : Type 0} (P : A → Type 0) (Q : B → Type 0) (f : A → B) → ((a : A) → P a → Q (f a)) → (o : Option A) → Holds P o → Holds Q (option_map f o)
in_map P Q f each None held = tt
in_map P Q f each (Some a) held = each a held

in_then : {A B : Type 0} (P : A → Type 0) (Q : B → Type 0) (next : A → Option B) → ((a : A) → P a → Holds Q (next a)) → (o : Option A) → Holds P o → Holds Q (option_and_then next o)
in_then P Q next each None held = tt
in_then P Q next each (Some a) held = each a held

mutual
  data_fine : (j : json.Json) → TextJson j → Holds FineData (of_json j)
  data_fine json.null is = tt
  data_fine (json.boolean b) is = tt
  data_fine (json.number s) is = number_fine s (number_of s) refl
  data_fine (json.string s) is = is
  data_fine (json.array js) is = in_map FineItems FineData array (λ ds fine. fine) (of_items js) (data_items js is)
  data_fine (json.object ms) is = in_map FineMembers FineData object (λ found fine. fine) (of_members ms no_members) (data_members ms is no_members tt)

  data_items : (js : json.Items) → TextItems js → Holds FineItems (of_items js)
  data_items json.no_items is = tt
  data_items (json.item j js) is = in_then FineData FineItems (λ d. option_map (item d) (of_items js))
      (λ d fine. in_map FineItems FineItems (item d) (λ ds others. (fine, others)) (of_items js) (data_items js is.1)) (of_json j) (data_fine j is.0)

  data_members : (ms : json.Members) → TextMembers ms → (found : Members) → FineMembers found → Holds FineMembers (of_members ms found)
  data_members json.no_members is found fine = fine
  data_members (json.member k j ms) is found fine = in_then FineData FineMembers (λ d. of_members ms (put k d found))
      (λ d here. data_members ms is.2 (put k d found) (put_fine k d found is.0 here fine)) (of_json j) (data_fine j is.1)

last_fine : (j : json.Json) (ts : List Token) → TextJson j → Holds TextJson (json.if_last j ts)
last_fine j [] is = is
last_fine j (t ∷ ts) is = tt

document_fine : (o : Option (json.Json × List Token)) → Fine TextJson o → Holds TextJson (option_and_then (λ p. json.if_last p.0 p.1) o)
document_fine None fine = tt
document_fine (Some r) fine = last_fine r.0 r.1 fine.0

read_fine : (text : List ℕ) → IsUtf8 text → Holds FineData (read text)
read_fine text utf8 = in_then TextJson FineData of_json data_fine (option_and_then (λ p. json.if_last p.0 p.1) (json.value max_depth (tokens text)))
    (document_fine (json.value max_depth (tokens text)) (value_fine max_depth (tokens text) (tokens_texts text utf8)))

-- what is read of a text in UTF-8
pub read_is_fine : (text : List ℕ) (d : Data) → IsUtf8 text → read text ≡ Some d → FineData d
read_is_fine text d utf8 e = subst (Holds FineData) e (read_fine text utf8)

-- ---- integers that are read have 64 bits

float_fits : (sign : Bool) (p : Parts) (n : Num) → float_of sign p ≡ Some n → FitsNum n
float_fits sign p n e = by (float_is_finite (nearest binary64 sign p)) e
  where
    by : (b : Bool) → cond b (Some (float (nearest binary64 sign p))) None ≡ Some n → FitsNum n
    by true e z is = let same : float (nearest binary64 sign p) ≡ n = cc in absurd (true≢false (sym (ap is_some (ap as_i64 same ∙ is))))
    by false e z is = absurd (true≢false (sym (ap is_some e)))

unsigned_fits : (m : ℕ) → FitsNum (unsigned m)
unsigned_fits m z is = by (nat_lt m (2 ^ 63)) refl is
  where
    by : (b : Bool) → nat_lt m (2 ^ 63) ≡ b → cond b (Some (pos m)) None ≡ Some z → FitsSigned w64 z
    by true small e =
        let lt = ltb-true m (2 ^ 63) small in
        let same : pos m ≡ z = cc in
        subst (FitsSigned w64) same (fits_signed_from_abs w64 (pos m) (omega (arith, lt)))
    by false big e = absurd (true≢false (sym (ap is_some e)))

negative_fits : (n : ℕ) → n ≤ 2 ^ 63 → FitsSigned w64 (neg_ℤ (pos n))
negative_fits zero le = record { sfits = omega arith }
negative_fits (suc n) le = record { sfits = omega (arith, le) }

from_fits : (sign : Bool) (p : Parts) (n : Num) → number_from sign p ≡ Some n → FitsNum n
from_fits false p n e = by (is_integer p && nat_lt (digits_of p) (2 ^ 64)) e
  where
    by : (b : Bool) → cond b (Some (unsigned (digits_of p))) (float_of false p) ≡ Some n → FitsNum n
    by true e = let same : unsigned (digits_of p) ≡ n = cc in subst FitsNum same (unsigned_fits (digits_of p))
    by false e = float_fits false p n e
from_fits true p n e = by (is_integer p && nat_lt 0 (digits_of p) && nat_le (digits_of p) (2 ^ 63)) refl e
  where
    by : (b : Bool) → (is_integer p && nat_lt 0 (digits_of p) && nat_le (digits_of p) (2 ^ 63)) ≡ b → cond b (Some (negative (with_sign true (digits_of p)))) (float_of true p) ≡ Some n → FitsNum n
    by true is e = λ z found.
        let parts = and_parts (is_integer p && nat_lt 0 (digits_of p)) (nat_le (digits_of p) (2 ^ 63)) is in
        let low = leb-true (digits_of p) (2 ^ 63) parts.1 in
        let same : negative (with_sign true (digits_of p)) ≡ n = cc in
        let told : Some (neg_ℤ (pos (digits_of p))) ≡ Some z = ap as_i64 same ∙ found in
        let is_z : neg_ℤ (pos (digits_of p)) ≡ z = cc in
        subst (FitsSigned w64) is_z (negative_fits (digits_of p) low)
    by false is e = float_fits true p n e

pub number_fits : (s : List ℕ) (n : Num) → number_of s ≡ Some n → FitsNum n
unfolding number_of
number_fits s n e = by (slice_index s 0 == minus) e
  where
    by : (b : Bool) → cond b (number_from true (scan (drop 1 s))) (number_from false (scan s)) ≡ Some n → FitsNum n
    by true e = from_fits true (scan (drop 1 s)) n e
    by false e = from_fits false (scan s) n e
