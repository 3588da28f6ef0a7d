-- Values under the keys of Zipkin's own that are of their form: they are texts, and what is written of them is read back.
use Rattle.std.proofs.Common.{◌≡◌, ℕ, ◌<◌, ◌≤◌, ◌^◌, Bool, true, false, cond, ◌&&◌, ◌==◌, nat_le, List, [], ◌∷◌, Option, Some, None, is_some, option_map, option_and_then, unwrap_or, decimal, refl, sym, ap, ◌∙◌, subst, true≢false, le-leb, leb-true, eqb-true, arith}
use Rattle.std.specs.Prelude.{codes}
use Rattle.std.specs.Str.{bytes_eq}
use Rattle.std.specs.Str.Parse.{digits_value}
use Rattle.std.proofs.lemmas.Fmt.{decimal_is_IsNumeral_wide}
use Rattle.trace_model.specs.declared.value.Value.{Value, Text, Truth, Number, Eight, Bytes, List', Map', Nothing}
use Rattle.span_tags.proofs.AttributeLaws.{same_key, key_itself}
use Rattle.span_tags.specs.TagWords.{decimal_in, at_most, count_in, text_given, is_idle}
use Rattle.map_zipkin.specs.Faults.{IsOutOfForm}
use Rattle.map_zipkin.specs.OwnColumns.{truth_given, is_true_text, is_address, has_port, is_port_text}
use Rattle.map_zipkin.specs.TagColumns.{count_text, text_told, port_told}
use Rattle.map_zipkin.proofs.ColumnLemmas.{textual}

-- ---- decimals

pub decimal_back : (n : ℕ) → n < 10 ^ 64 → decimal_in (decimal n) ≡ Some n
decimal_back n lt =
    let e : digits_value 10 (decimal n) ≡ n = (decimal_is_IsNumeral_wide n lt).1 in
    (λ i. cond (bytes_eq (decimal (e i)) (decimal n)) (Some (e i)) None) ∙ ap (λ b. cond b (Some n) None) (key_itself (decimal n))

decimal_by : (t : List ℕ) (m n : ℕ) (b : Bool) → bytes_eq (decimal m) t ≡ b → cond b (Some m) None ≡ Some n → t ≡ decimal n
decimal_by t m n true same e = let number : m ≡ n = cc in sym (same_key (decimal m) t same) ∙ ap decimal number
decimal_by t m n false apart e = absurd (true≢false (sym (ap is_some e)))

pub decimal_of : (t : List ℕ) (n : ℕ) → decimal_in t ≡ Some n → t ≡ decimal n
decimal_of t n e = decimal_by t (digits_value 10 t) n (bytes_eq (decimal (digits_value 10 t)) t) refl e

-- ---- counts

count_read : (n : ℕ) → n < 2 ^ 32 → count_in (Some (Text (decimal n))) ≡ Some n
count_read n lt = ap (option_and_then (at_most 4294967295)) (decimal_back n (omega (arith, lt))) ∙ ap (λ b. cond b (Some n) None) (le-leb n 4294967295 (omega (arith, lt)))

count_by : (n : ℕ) (b : Bool) → (n == 0) ≡ b → n < 2 ^ 32 → unwrap_or (count_in (cond b None (Some (Text (decimal n))))) 0 ≡ n
count_by n true e lt = sym (eqb-true n 0 e)
count_by n false e lt = ap (λ o. unwrap_or o 0) (count_read n lt)

pub count_back : (n : ℕ) → n < 2 ^ 32 → unwrap_or (count_in (count_text n)) 0 ≡ n
count_back n lt = count_by n (n == 0) refl lt

told_by : (n : ℕ) (b : Bool) → n < 2 ^ 32 → is_idle (cond b None (Some (Text (decimal n)))) (count_in (cond b None (Some (Text (decimal n))))) ≡ false
told_by n true lt = refl
told_by n false lt = ap (is_idle (Some (Text (decimal n)))) (count_read n lt)

pub count_told : (n : ℕ) → n < 2 ^ 32 → is_idle (count_text n) (count_in (count_text n)) ≡ false
count_told n lt = told_by n (n == 0) lt

-- ---- texts

pub text_leaf : (text : List ℕ) → option_map textual (text_given text) ≡ text_given text
text_leaf [] = refl
text_leaf (x ∷ more) = refl

pub count_leaf : (n : ℕ) → option_map textual (count_text n) ≡ count_text n
count_leaf n = by (n == 0)
  where
    by : (b : Bool) → option_map textual (cond b None (Some (Text (decimal n)))) ≡ cond b None (Some (Text (decimal n)))
    by true = refl
    by false = refl

truth_leaf : (truth : Bool) → option_map textual (truth_given truth) ≡ truth_given truth
truth_leaf true = refl
truth_leaf false = refl

-- ---- forms

-- what stands at an own key, if anything, is of its form
abbrev pub IsFormed : (Value → Bool) → Option Value → Type 0
IsFormed form value = IsOutOfForm form value → ⊥

true_by : (text : List ℕ) (b : Bool) → bytes_eq text (codes "true") ≡ b → (b ≡ false → ⊥) → truth_given true ≡ Some (Text text)
true_by text true same formed = ap (λ t. Some (Text t)) (sym (same_key text (codes "true") same))
true_by text false apart formed = absurd (formed refl)

pub truth_back : (value : Option Value) → IsFormed is_true_text value → truth_given (is_some value) ≡ value
truth_back None formed = refl
truth_back (Some (Text text)) formed = true_by text (bytes_eq text (codes "true")) refl formed
truth_back (Some (Truth b)) formed = absurd (formed refl)
truth_back (Some (Number z)) formed = absurd (formed refl)
truth_back (Some (Eight d)) formed = absurd (formed refl)
truth_back (Some (Bytes b)) formed = absurd (formed refl)
truth_back (Some (List' shape members)) formed = absurd (formed refl)
truth_back (Some (Map' shape members)) formed = absurd (formed refl)
truth_back (Some Nothing) formed = absurd (formed refl)

pub address_back : (value : Option Value) → IsFormed is_address value → text_given (text_told value) ≡ value
address_back None formed = refl
address_back (Some (Text [])) formed = absurd (formed refl)
address_back (Some (Text (x ∷ more))) formed = refl
address_back (Some (Truth b)) formed = absurd (formed refl)
address_back (Some (Number z)) formed = absurd (formed refl)
address_back (Some (Eight d)) formed = absurd (formed refl)
address_back (Some (Bytes b)) formed = absurd (formed refl)
address_back (Some (List' shape members)) formed = absurd (formed refl)
address_back (Some (Map' shape members)) formed = absurd (formed refl)
address_back (Some Nothing) formed = absurd (formed refl)

-- ---- ports

pub record IsPort (n : ℕ) : Type 0 where
  pub low : 1 ≤ n
  pub high : n ≤ 65535

port_tests : (n : ℕ) (a b : Bool) → nat_le 1 n ≡ a → nat_le n 65535 ≡ b → ((a && b) ≡ false → ⊥) → IsPort n
port_tests n true true low high formed = record { low = leb-true 1 n low; high = leb-true n 65535 high }
port_tests n true false low high formed = absurd (formed refl)
port_tests n false b low high formed = absurd (formed refl)

-- the text of a port
pub record IsPortText (text : List ℕ) (n : ℕ) : Type 0 where
  pub number : decimal_in text ≡ Some n
  pub port : IsPort n

port_by : (text : List ℕ) (o : Option ℕ) → decimal_in text ≡ o → (has_port o ≡ false → ⊥) → (n : ℕ) × IsPortText text n
port_by text None e formed = absurd (formed refl)
port_by text (Some n) e formed = (n, record { number = e; port = port_tests n (nat_le 1 n) (nat_le n 65535) refl refl formed })

port_written : (n : ℕ) (b : Bool) → (n == 0) ≡ b → 1 ≤ n → cond b None (Some (Text (decimal n))) ≡ Some (Text (decimal n))
port_written n true e low = let zero_is : n ≡ 0 = eqb-true n 0 e in absurd (omega (arith, zero_is, low))
port_written n false e low = refl

text_port_back : (text : List ℕ) (n : ℕ) → IsPortText text n → count_text (port_told (Some (Text text))) ≡ Some (Text text)
text_port_back text n is =
    ap (λ o. count_text (unwrap_or o 0)) is.number
    ∙ port_written n (n == 0) refl is.port.low
    ∙ ap (λ t. Some (Text t)) (sym (decimal_of text n is.number))

pub port_back : (value : Option Value) → IsFormed is_port_text value → count_text (port_told value) ≡ value
port_back None formed = refl
port_back (Some (Text text)) formed = let found = port_by text (decimal_in text) refl formed in text_port_back text found.0 found.1
port_back (Some (Truth b)) formed = absurd (formed refl)
port_back (Some (Number z)) formed = absurd (formed refl)
port_back (Some (Eight d)) formed = absurd (formed refl)
port_back (Some (Bytes b)) formed = absurd (formed refl)
port_back (Some (List' shape members)) formed = absurd (formed refl)
port_back (Some (Map' shape members)) formed = absurd (formed refl)
port_back (Some Nothing) formed = absurd (formed refl)

-- a port has 16 bits
pub port_fits : (value : Option Value) → IsFormed is_port_text value → port_told value < 65536
port_fits None formed = omega arith
port_fits (Some (Text text)) formed =
    let found = port_by text (decimal_in text) refl formed in
    let high = found.1.port.high in
    subst (λ (o : Option ℕ). unwrap_or o 0 < 65536) (sym found.1.number) (omega (arith, high))
port_fits (Some (Truth b)) formed = omega arith
port_fits (Some (Number z)) formed = omega arith
port_fits (Some (Eight d)) formed = omega arith
port_fits (Some (Bytes b)) formed = omega arith
port_fits (Some (List' shape members)) formed = omega arith
port_fits (Some (Map' shape members)) formed = omega arith
port_fits (Some Nothing) formed = omega arith

-- ---- values of these forms are texts

pub truth_text_leaf : (value : Option Value) → IsFormed is_true_text value → option_map textual value ≡ value
truth_text_leaf value formed = subst (λ o. option_map textual o ≡ o) (truth_back value formed) (truth_leaf (is_some value))

pub address_leaf : (value : Option Value) → IsFormed is_address value → option_map textual value ≡ value
address_leaf value formed = subst (λ o. option_map textual o ≡ o) (address_back value formed) (text_leaf (text_told value))

pub port_leaf : (value : Option Value) → IsFormed is_port_text value → option_map textual value ≡ value
port_leaf value formed = subst (λ o. option_map textual o ≡ o) (port_back value formed) (count_leaf (port_told value))
