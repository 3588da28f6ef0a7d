-- The records that the text of a field is made of, where it is short enough.
use Rattle.std.proofs.Common.{◌≡◌, ℕ, ◌<◌, ◌^◌, Bool, true, false, List, [], ◌∷◌, ◌++◌, length, map, All, refl, sym, ap, subst, ◌∙◌, arith, length-append, append_assoc}
use Rattle.std.specs.Prelude.{◌==◌, if◌then◌else◌, Option, Some, None}
use Rattle.std.specs.Int.{w64, to_be_bytes}
use Rattle.std.proofs.Math.Dec.{ltb}
use Rattle.std.proofs.lemmas.Bool.{ltb-true}
use Rattle.std.proofs.lemmas.List.{append-nil}
use Rattle.std.proofs.lemmas.List.Elements.{All-nil, All-cons}
use Rattle.proto_wire.specs.Records.{Held, bytes, Record, IsFieldNumber, IsProper}
use Rattle.proto_wire.specs.Wire.{SpellsRecord, Wire, record_text, opening_text}
use Rattle.otlp_proto.specs.Canonical.{bytes_field, filled_field, parent_field, list_text}
use Rattle.otlp_proto.proofs.Growth.{opened}
use Rattle.otlp_proto.proofs.ListTexts.{list_first}

-- ---- texts that are short enough

abbrev pub Fits : List ℕ → Type 0
Fits text = length text < 2 ^ 64

pub front_fits : (front rest : List ℕ) → Fits (front ++ rest) → Fits front
front_fits front rest h = let whole = length-append front rest in omega arith

pub rest_fits : (front rest : List ℕ) → Fits (front ++ rest) → Fits rest
rest_fits front rest h = let whole = length-append front rest in omega arith

pub none_fits : Fits []
none_fits = omega arith

pub held_fits : (number : ℕ) (held : List ℕ) → Fits (bytes_field number held) → Fits held
held_fits number held h = rest_fits (opening_text number (length held)) held (subst Fits (opened number held) h)

pub filled_fits : (number : ℕ) (held : List ℕ) → Fits (filled_field number held) → Fits held
filled_fits number [] h = none_fits
filled_fits number (b ∷ held) h = held_fits number (b ∷ held) h

pub list_fits : {A : Type 0} (number : ℕ) (text : A → List ℕ) (xs : List A) → Fits (list_text number text xs) → All (λ x. Fits (text x)) xs
list_fits number text [] h = All-nil (λ x. Fits (text x))
list_fits number text (x ∷ xs) h =
    let parts : Fits (bytes_field number (text x) ++ list_text number text xs) = subst Fits (list_first number text x xs) h in
    All-cons (λ x. Fits (text x)) x xs
    (held_fits number (text x) (front_fits (bytes_field number (text x)) (list_text number text xs) parts))
    (list_fits number text xs (rest_fits (bytes_field number (text x)) (list_text number text xs) parts))

-- ---- what a field that may be left out gives

abbrev pub present : List ℕ → List (List ℕ)
present [] = []
present (b ∷ held) = (b ∷ held) ∷ []

abbrev pub unless_zero : Bool → ℕ → List ℕ
unless_zero true n = []
unless_zero false n = n ∷ []

abbrev pub some : ℕ → List ℕ
some n = unless_zero (n == 0) n

abbrev pub parent_held : Option ℕ → List (List ℕ)
parent_held None = []
parent_held (Some id) = to_be_bytes w64 id ∷ []

abbrev pub record_of : {A : Type 0} → (A → Held) → ℕ → A → Record
record_of hold number x = record { number = number; held = hold x }

-- ---- the records of a text

pub wires_joined : (rs ss : List Record) (s t : List ℕ) → Wire rs s → Wire ss t → Wire (rs ++ ss) (s ++ t)
unfolding Wire
wires_joined [] ss s t first second = subst (λ (l : List ℕ). Wire ss (l ++ t)) (sym first) second
wires_joined (r ∷ rs) ss s t first second = (
  first.0 ++ t,
  record { text = first.1.text; spelled = first.1.spelled; parts = ap (λ (l : List ℕ). l ++ t) first.1.parts ∙ append_assoc first.1.text first.0 t },
  wires_joined rs ss first.0 t first.2 second,
)

-- the number of a field, which is known
abbrev pub IsSmall : ℕ → Type 0
IsSmall number = (if ltb 0 number then ltb number 32 else false) ≡ true

pub field_number : (number : ℕ) → IsSmall number → IsFieldNumber number
field_number number small = of (ltb 0 number) refl small
  where
    of : (b : Bool) → ltb 0 number ≡ b → (if b then ltb number 32 else false) ≡ true → IsFieldNumber number
    of true is less = (omega (arith, ltb-true 0 number is), omega (arith, ltb-true number 32 less))
    of false is less = absurd (cc)

pub no_wire : Wire [] []
unfolding Wire
no_wire = refl

module _ (spelled : (r : Record) → IsProper r → SpellsRecord (record_text r) r) where
  pub one_wire : (r : Record) → IsProper r → Wire (r ∷ []) (record_text r)
  unfolding Wire
  one_wire r proper = ([], record { text = record_text r; spelled = spelled r proper; parts = sym (append-nil (record_text r)) }, refl)

  module _ (number : ℕ) (small : IsSmall number) where
    pub held_wire : (held : List ℕ) → Fits (bytes_field number held) → Wire (record_of bytes number held ∷ []) (bytes_field number held)
    held_wire held h = one_wire (record_of bytes number held) (record { number = field_number number small; held = held_fits number held h })

    pub filled_wire : (held : List ℕ) → Fits (filled_field number held) → Wire (map (record_of bytes number) (present held)) (filled_field number held)
    filled_wire [] h = no_wire
    filled_wire (b ∷ held) h = held_wire (b ∷ held) h

    pub list_wire : {A : Type 0} (text : A → List ℕ) (xs : List A) → Fits (list_text number text xs) → Wire (map (record_of bytes number) (map text xs)) (list_text number text xs)
    unfolding list_text
    list_wire text [] h = no_wire
    list_wire text (x ∷ xs) h =
        let parts : Fits (bytes_field number (text x) ++ list_text number text xs) = subst Fits (list_first number text x xs) h in
        subst (λ (l : List ℕ). Wire (record_of bytes number (text x) ∷ map (record_of bytes number) (map text xs)) l) (sym (list_first number text x xs))
        (wires_joined (record_of bytes number (text x) ∷ []) (map (record_of bytes number) (map text xs)) (bytes_field number (text x)) (list_text number text xs)
        (held_wire (text x) (front_fits (bytes_field number (text x)) (list_text number text xs) parts))
        (list_wire text xs (rest_fits (bytes_field number (text x)) (list_text number text xs) parts)))

    pub number_wire : (hold : ℕ → Held) (b : Bool) (n : ℕ) → IsProper (record_of hold number n) → Wire (map (record_of hold number) (unless_zero b n)) (if b then [] else record_text (record_of hold number n))
    number_wire hold true n proper = no_wire
    number_wire hold false n proper = one_wire (record_of hold number n) proper

    pub parent_wire : (parent : Option ℕ) → Fits (parent_field number parent) → Wire (map (record_of bytes number) (parent_held parent)) (parent_field number parent)
    parent_wire None h = no_wire
    parent_wire (Some id) h = held_wire (to_be_bytes w64 id) h
