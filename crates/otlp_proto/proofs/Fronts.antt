-- What is written as nothing.
use Rattle.std.proofs.Common.{◌≡◌, ℕ, ◌+◌, ◌/◌, ◌%◌, Bool, true, false, List, [], ◌∷◌, ◌++◌, refl, sym, ◌∙◌}
use Rattle.std.specs.Prelude.{◌==◌, if◌then◌else◌, nat_lt}
use Rattle.std.proofs.lemmas.Bool.{eqb-true}
use Rattle.span_io.specs.Varint.{varint_text, shortest_within}
use Rattle.proto_wire.specs.Records.{varint, bytes, Record}
use Rattle.proto_wire.specs.Wire.{record_text, held_text, key_of}
use Rattle.otlp_proto.specs.Canonical.{bytes_field, filled_field, count_field, list_text}
use Rattle.otlp_proto.proofs.ListTexts.{list_first}

varint_some : (n : ℕ) → varint_text n ≡ [] → ⊥
unfolding varint_text shortest_within
varint_some n e = of (nat_lt n 128) e
  where
    of : (b : Bool) → (if b then n ∷ [] else (128 + n % 128) ∷ shortest_within 8 (n / 128)) ≡ [] → ⊥
    of true h = cc
    of false h = cc

pub front_none : (front rest : List ℕ) → front ++ rest ≡ [] → front ≡ []
front_none [] rest e = refl
front_none (b ∷ front) rest e = absurd cc

pub rest_none : (front rest : List ℕ) → front ++ rest ≡ [] → rest ≡ []
rest_none [] rest e = e
rest_none (b ∷ front) rest e = absurd cc

pub record_some : (r : Record) → record_text r ≡ [] → ⊥
unfolding record_text
record_some r e = varint_some (key_of r) (front_none (varint_text (key_of r)) (held_text r.held) e)

pub no_filled : (number : ℕ) (held : List ℕ) → filled_field number held ≡ [] → held ≡ []
no_filled number [] e = refl
no_filled number (b ∷ held) e = absurd (record_some (record { number = number; held = bytes (b ∷ held) }) e)

no_count_as : (number n : ℕ) (b : Bool) → (n == 0) ≡ b → (if b then [] else record_text (record { number = number; held = varint n })) ≡ [] → n ≡ 0
no_count_as number n true is e = eqb-true n 0 is
no_count_as number n false is e = absurd (record_some (record { number = number; held = varint n }) e)

pub no_count : (number n : ℕ) → count_field number n ≡ [] → n ≡ 0
no_count number n e = no_count_as number n (n == 0) refl e

pub no_list : {A : Type 0} (number : ℕ) (text : A → List ℕ) (xs : List A) → list_text number text xs ≡ [] → xs ≡ []
no_list number text [] e = refl
no_list number text (x ∷ xs) e =
    absurd (record_some (record { number = number; held = bytes (text x) }) (front_none (bytes_field number (text x)) (list_text number text xs) (sym (list_first number text x xs) ∙ e)))
