-- The rows of a message as they are written: the records of each, their text, and the value that they mean.
use Rattle.std.proofs.Common.{◌≡◌, ℕ, Bool, true, false, List, [], ◌∷◌, ◌++◌, map, refl, sym, ap, subst, ◌∙◌, append_assoc}
use Rattle.std.specs.Prelude.{◌==◌, if◌then◌else◌}
use Rattle.std.specs.List.{flat_map, AllByRecursion}
use Rattle.std.proofs.lemmas.Bool.{eqb-true, eqb-false}
use Rattle.std.proofs.lemmas.List.{append-nil}
use Rattle.std.proofs.lemmas.List.Concat.{flat_map-append, flat_map-cons}
use Rattle.span_io.specs.Tables.{Row, givens, Values, Mean}
use Rattle.proto_wire.specs.Records.{Held, varint, fixed64, bytes, fixed32, Record}
use Rattle.proto_wire.specs.Wire.{Wire}
use Rattle.otlp_proto.specs.Rows.{bytes_in, varint_in, fixed64_in, fixed32_in, bytes_row, number_row}
use Rattle.otlp_proto.proofs.FieldLemmas.{Fits, front_fits, rest_fits, none_fits, record_of, no_wire, wires_joined}
use Rattle.otlp_proto.proofs.Ranges.{both}

-- a row, and the value that its records mean; records of another number give it nothing
pub record Written (row : Row Record) : Type 0 where
  pub value : row.Value
  pub number : ℕ
  pub text : List ℕ
  pub records : List Record
  pub numbered : AllByRecursion (λ r. r.number ≡ number) records
  pub wire : Fits text → Wire records text
  pub means : Fits text → row.Means (flat_map row.given records) value
  pub apart : (r : Record) → (r.number == number) ≡ false → row.given r ≡ []

-- ---- numbers

same_number : (n : ℕ) → (n == n) ≡ true
same_number n = of (n == n) refl
  where
    of : (b : Bool) → (n == n) ≡ b → (n == n) ≡ true
    of true e = e
    of false e = absurd (eqb-false n n e refl)

pub other_number : (n m : ℕ) → (n == m) ≡ false → (m == n) ≡ false
other_number n m differ = of (m == n) refl
  where
    of : (b : Bool) → (m == n) ≡ b → (m == n) ≡ false
    of true e = absurd (eqb-false n m differ (sym (eqb-true m n e)))
    of false e = e

-- ---- what records of a number give

pub numbered_all : {A : Type 0} (number : ℕ) (hold : A → Held) (xs : List A) → AllByRecursion (λ (r : Record). r.number ≡ number) (map (record_of hold number) xs)
numbered_all number hold [] = tt
numbered_all number hold (x ∷ xs) = (refl, numbered_all number hold xs)

pub given_all : {A : Type 0} (give : Record → List A) (to_record : A → Record) → ((x : A) → give (to_record x) ≡ x ∷ []) → (xs : List A) → flat_map give (map to_record xs) ≡ xs
given_all give to_record one [] = refl
given_all give to_record one (x ∷ xs) =
    flat_map-cons give (to_record x) (map to_record xs) ∙ ap (λ l. l ++ flat_map give (map to_record xs)) (one x) ∙ ap (λ l. x ∷ l) (given_all give to_record one xs)

pub chosen_own : {A : Type 0} (number : ℕ) (x : A) → (if number == number then x ∷ [] else []) ≡ x ∷ []
chosen_own number x = ap (λ b. if b then x ∷ [] else []) (same_number number)

chosen_none : {A : Type 0} (b : Bool) (x : A) → b ≡ false → (if b then x ∷ [] else []) ≡ []
chosen_none true x e = absurd (cc)
chosen_none false x e = refl

pub bytes_apart : (number : ℕ) (r : Record) → (r.number == number) ≡ false → bytes_in number r ≡ []
bytes_apart number r other = of r.held
  where
    of : (held : Held) → bytes_in number (record { number = r.number; held = held }) ≡ []
    of (bytes held) = chosen_none (r.number == number) held other
    of (varint n) = refl
    of (fixed64 n) = refl
    of (fixed32 n) = refl

pub varint_apart : (number : ℕ) (r : Record) → (r.number == number) ≡ false → varint_in number r ≡ []
varint_apart number r other = of r.held
  where
    of : (held : Held) → varint_in number (record { number = r.number; held = held }) ≡ []
    of (bytes held) = refl
    of (varint n) = chosen_none (r.number == number) n other
    of (fixed64 n) = refl
    of (fixed32 n) = refl

pub fixed64_apart : (number : ℕ) (r : Record) → (r.number == number) ≡ false → fixed64_in number r ≡ []
fixed64_apart number r other = of r.held
  where
    of : (held : Held) → fixed64_in number (record { number = r.number; held = held }) ≡ []
    of (bytes held) = refl
    of (varint n) = refl
    of (fixed64 n) = chosen_none (r.number == number) n other
    of (fixed32 n) = refl

pub fixed32_apart : (number : ℕ) (r : Record) → (r.number == number) ≡ false → fixed32_in number r ≡ []
fixed32_apart number r other = of r.held
  where
    of : (held : Held) → fixed32_in number (record { number = r.number; held = held }) ≡ []
    of (bytes held) = refl
    of (varint n) = refl
    of (fixed64 n) = refl
    of (fixed32 n) = chosen_none (r.number == number) n other

-- a row of wire type 2
abbrev pub of_bytes : (number : ℕ) (B : Type 0) (Means : List (List ℕ) → B → Type 0) (Here : List (List ℕ) → List ℕ → ℕ → Type 0) (Inside : List ℕ → ℕ → ℕ → Type 0) (value : B) (held : List (List ℕ)) (text : List ℕ)
    → (Fits text → Wire (map (record_of bytes number) held) text) → (Fits text → Means held value) → Written (bytes_row number B Means Here Inside)
of_bytes number B Means Here Inside value held text wire means = record {
  value = value;
  number = number;
  text = text;
  records = map (record_of bytes number) held;
  numbered = numbered_all number bytes held;
  wire = wire;
  means = λ fits. subst (λ l. Means l value) (sym (given_all (bytes_in number) (record_of bytes number) (λ x. chosen_own number x) held)) (means fits);
  apart = bytes_apart number;
}

-- a row of numbers, by what finds them in a record
pub record Finds (number : ℕ) (hold : ℕ → Held) (give : Record → List ℕ) : Type 0 where
  pub own : (n : ℕ) → give (record_of hold number n) ≡ n ∷ []
  pub apart : (r : Record) → (r.number == number) ≡ false → give r ≡ []

pub finds_varint : (number : ℕ) → Finds number varint (varint_in number)
finds_varint number = record { own = λ n. chosen_own number n; apart = varint_apart number }

pub finds_fixed64 : (number : ℕ) → Finds number fixed64 (fixed64_in number)
finds_fixed64 number = record { own = λ n. chosen_own number n; apart = fixed64_apart number }

pub finds_fixed32 : (number : ℕ) → Finds number fixed32 (fixed32_in number)
finds_fixed32 number = record { own = λ n. chosen_own number n; apart = fixed32_apart number }

abbrev pub of_numbers : (number : ℕ) (hold : ℕ → Held) (give : Record → List ℕ) → Finds number hold give → (B : Type 0) (Means : List ℕ → B → Type 0) (Here : List ℕ → ℕ → ℕ → Type 0) (value : B) (held text : List ℕ)
    → (Fits text → Wire (map (record_of hold number) held) text) → Means held value → Written (number_row give B Means Here)
of_numbers number hold give finds B Means Here value held text wire means = record {
  value = value;
  number = number;
  text = text;
  records = map (record_of hold number) held;
  numbered = numbered_all number hold held;
  wire = wire;
  means = λ fits. subst (λ l. Means l value) (sym (given_all give (record_of hold number) finds.own held)) means;
  apart = finds.apart;
}

-- ---- a message of these rows

abbrev pub AllWritten : List (Row Record) → Type 0
AllWritten [] = Unit {0}
AllWritten (row ∷ table) = Written row × AllWritten table

infixr 5 ◌and◌
-- a row, and then others
abbrev pub ◌and◌ : {A B : Type 0} → A → B → A × B
row and rows = (row, rows)

abbrev pub values_of : (table : List (Row Record)) → AllWritten table → Values table
values_of [] rows = tt
values_of (row ∷ table) rows = (rows.0.value, values_of table rows.1)

abbrev pub numbers_of : (table : List (Row Record)) → AllWritten table → List ℕ
numbers_of [] rows = []
numbers_of (row ∷ table) rows = rows.0.number ∷ numbers_of table rows.1

abbrev records_of : (table : List (Row Record)) → AllWritten table → List Record
records_of [] rows = []
records_of (row ∷ table) rows = rows.0.records ++ records_of table rows.1

abbrev pub text_of : (table : List (Row Record)) → AllWritten table → List ℕ
text_of [] rows = []
text_of (row ∷ []) rows = rows.0.text
text_of (row ∷ next ∷ table) rows = rows.0.text ++ text_of (next ∷ table) rows.1

-- no number is another's
abbrev pub differs : ℕ → List ℕ → Bool
differs n [] = true
differs n (m ∷ ms) = if n == m then false else differs n ms

abbrev pub distinct : List ℕ → Bool
distinct [] = true
distinct (n ∷ ns) = if differs n ns then distinct ns else false

abbrev Apart : ℕ → List Record → Type 0
Apart n records = AllByRecursion (λ r. (r.number == n) ≡ false) records

abbrev AllApart : List ℕ → List Record → Type 0
AllApart [] records = Unit {0}
AllApart (n ∷ ns) records = Apart n records × AllApart ns records

pub if_both : (b c : Bool) → (if b then c else false) ≡ true → (b ≡ true) × (c ≡ true)
if_both true c e = (refl, e)
if_both false c e = absurd (cc)

pub if_neither : (b c : Bool) → (if b then false else c) ≡ true → (b ≡ false) × (c ≡ true)
if_neither true c e = absurd (cc)
if_neither false c e = (refl, e)

own_apart : (n m : ℕ) → (n == m) ≡ false → (records : List Record) → AllByRecursion (λ r. r.number ≡ n) records → Apart m records
own_apart n m differ [] all = tt
own_apart n m differ (r ∷ records) all = (ap (λ k. k == m) all.0 ∙ differ, own_apart n m differ records all.1)

apart_from_all : (n : ℕ) (ns : List ℕ) → differs n ns ≡ true → (front mine : List Record) → AllApart ns front → AllByRecursion (λ r. r.number ≡ n) mine → AllApart ns (front ++ mine)
apart_from_all n [] differ front mine apart own = tt
apart_from_all n (m ∷ ms) differ front mine apart own =
    let parts = if_neither (n == m) (differs n ms) differ in
    (both (λ r. (r.number == m) ≡ false) front mine apart.0 (own_apart n m parts.0 mine own), apart_from_all n ms parts.1 front mine apart.1 own)

others_apart : (n : ℕ) (table : List (Row Record)) (rows : AllWritten table) → differs n (numbers_of table rows) ≡ true → Apart n (records_of table rows)
others_apart n [] rows differ = tt
others_apart n (row ∷ table) rows differ =
    let parts = if_neither (n == rows.0.number) (differs n (numbers_of table rows.1)) differ in
    both (λ r. (r.number == n) ≡ false) rows.0.records (records_of table rows.1)
    (own_apart rows.0.number n (other_number n rows.0.number parts.0) rows.0.records rows.0.numbered) (others_apart n table rows.1 parts.1)

none_given : (row : Row Record) (w : Written row) (records : List Record) → Apart w.number records → flat_map row.given records ≡ []
none_given row w [] apart = refl
none_given row w (r ∷ records) apart = flat_map-cons row.given r records ∙ ap (λ l. l ++ flat_map row.given records) (w.apart r apart.0) ∙ none_given row w records apart.1

only_own : (row : Row Record) (w : Written row) (front back : List Record) → Apart w.number front → Apart w.number back
    → flat_map row.given (front ++ (w.records ++ back)) ≡ flat_map row.given w.records
only_own row w front back before behind =
    flat_map-append row.given front (w.records ++ back)
    ∙ ap (λ l. l ++ flat_map row.given (w.records ++ back)) (none_given row w front before)
    ∙ flat_map-append row.given w.records back
    ∙ ap (λ l. flat_map row.given w.records ++ l) (none_given row w back behind)
    ∙ append-nil (flat_map row.given w.records)

own_fits : (row : Row Record) (table : List (Row Record)) (rows : AllWritten (row ∷ table)) → Fits (text_of (row ∷ table) rows)
    → Fits rows.0.text × Fits (text_of table rows.1)
own_fits row [] rows fits = (fits, none_fits)
own_fits row (next ∷ table) rows fits =
    (front_fits rows.0.text (text_of (next ∷ table) rows.1) fits, rest_fits rows.0.text (text_of (next ∷ table) rows.1) fits)

wire_of : (table : List (Row Record)) (rows : AllWritten table) → Fits (text_of table rows) → Wire (records_of table rows) (text_of table rows)
wire_of [] rows fits = no_wire
wire_of (row ∷ []) rows fits = subst (λ (l : List Record). Wire l rows.0.text) (sym (append-nil rows.0.records)) (rows.0.wire fits)
wire_of (row ∷ next ∷ table) rows fits =
    let parts = own_fits row (next ∷ table) rows fits in
    wires_joined rows.0.records (records_of (next ∷ table) rows.1) rows.0.text (text_of (next ∷ table) rows.1) (rows.0.wire parts.0) (wire_of (next ∷ table) rows.1 parts.1)

mean_of : (table : List (Row Record)) (rows : AllWritten table) (front : List Record) → AllApart (numbers_of table rows) front
    → distinct (numbers_of table rows) ≡ true → Fits (text_of table rows) → Mean table (givens table (front ++ records_of table rows)) (values_of table rows)
mean_of [] rows front apart each fits = tt
mean_of (row ∷ table) rows front apart each fits =
    let others = records_of table rows.1 in
    let differ = if_both (differs rows.0.number (numbers_of table rows.1)) (distinct (numbers_of table rows.1)) each in
    let parts = own_fits row table rows fits in
    let behind = others_apart rows.0.number table rows.1 differ.0 in
    let later = apart_from_all rows.0.number (numbers_of table rows.1) differ.0 front rows.0.records apart.1 rows.0.numbered in (
      subst (λ (l : List row.Given). row.Means l rows.0.value) (sym (only_own row rows.0 front others apart.0 behind)) (rows.0.means parts.0),
      subst (λ (l : List Record). Mean table (givens table l) (values_of table rows.1)) (append_assoc front rows.0.records others) (mean_of table rows.1 (front ++ rows.0.records) later differ.1 parts.1),
    )

-- the text of these rows, and what its records mean
pub record IsReadAs (table : List (Row Record)) (values : Values table) (text : List ℕ) : Type 0 where
  pub records : List Record
  pub wire : Wire records text
  pub mean : Mean table (givens table records) values

all_apart_none : (ns : List ℕ) → AllApart ns []
all_apart_none [] = tt
all_apart_none (n ∷ ns) = (tt, all_apart_none ns)

pub read_as : (table : List (Row Record)) (rows : AllWritten table) → distinct (numbers_of table rows) ≡ true → Fits (text_of table rows)
    → IsReadAs table (values_of table rows) (text_of table rows)
read_as table rows each fits = record {
  records = records_of table rows;
  wire = wire_of table rows fits;
  mean = mean_of table rows [] (all_apart_none (numbers_of table rows)) each fits;
}
