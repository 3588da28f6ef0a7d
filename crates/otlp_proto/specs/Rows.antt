-- Rows of the tables of OTLP's messages: which records belong to a row, by the number of its field and its wire type, what value they
-- give to it, and how they offend.
use Rattle.std.specs.Prelude.{◌≡◌, ℕ, ◌%◌, ◌^◌, ◌⊎◌, ◌==◌, if◌then◌else◌, List, [], ◌∷◌, Option, None}
use Rattle.std.specs.List.{AllZip, flat_map}
use Rattle.span_io.specs.Tables.{Row, MeansByItems, Singular, Twice, MeansText, NotText, Above, nothing_inside}
use Rattle.proto_wire.specs.Records.{Held, varint, fixed64, bytes, fixed32, Record}
use Rattle.proto_wire.specs.Wire.{Wire}
use Rattle.otlp_proto.specs.Identifiers.{MeansTraceId, MeansSpanId, WrongLength}

-- what a record holds, if it is of this number and of wire type 2
abbrev pub bytes_in : ℕ → Record → List (List ℕ)
bytes_in number r = of r.held
  where
    of : Held → List (List ℕ)
    of (bytes held) = if r.number == number then held ∷ [] else []
    of (varint n) = []
    of (fixed64 n) = []
    of (fixed32 n) = []

-- the same of wire type 0
abbrev pub varint_in : ℕ → Record → List ℕ
varint_in number r = of r.held
  where
    of : Held → List ℕ
    of (varint n) = if r.number == number then n ∷ [] else []
    of (bytes held) = []
    of (fixed64 n) = []
    of (fixed32 n) = []

-- the same of wire type 1
abbrev pub fixed64_in : ℕ → Record → List ℕ
fixed64_in number r = of r.held
  where
    of : Held → List ℕ
    of (fixed64 n) = if r.number == number then n ∷ [] else []
    of (varint n) = []
    of (bytes held) = []
    of (fixed32 n) = []

-- the same of wire type 5
abbrev pub fixed32_in : ℕ → Record → List ℕ
fixed32_in number r = of r.held
  where
    of : Held → List ℕ
    of (fixed32 n) = if r.number == number then n ∷ [] else []
    of (varint n) = []
    of (fixed64 n) = []
    of (bytes held) = []

-- what the records of this number and wire type hold, in their order
abbrev pub bytes_of : ℕ → List Record → List (List ℕ)
bytes_of number records = flat_map (bytes_in number) records

-- the same of wire type 0: the numbers of the varints with this field number
abbrev pub varints_of : ℕ → List Record → List ℕ
varints_of number records = flat_map (varint_in number) records

-- the same of wire type 1: the numbers of 8 bytes with this field number
abbrev pub fixed64s_of : ℕ → List Record → List ℕ
fixed64s_of number records = flat_map (fixed64_in number) records

-- the same of wire type 5: the numbers of 4 bytes with this field number
abbrev pub fixed32s_of : ℕ → List Record → List ℕ
fixed32s_of number records = flat_map (fixed32_in number) records

-- ---- what one record of a row means

-- a message, by the relation of what its records are those of, in any order
abbrev pub MeansMessage : {X : Type 0} → (X → List Record → Type 0) → List ℕ → X → Type 0
MeansMessage Is = MeansByItems Wire Is

-- a time or flags
abbrev pub MeansNumber : ℕ → ℕ → Type 0
MeansNumber n number = number ≡ n

-- a count of 32 bits, the low ones of its varint
abbrev pub MeansCount : ℕ → ℕ → Type 0
MeansCount n count = count ≡ n % 2 ^ 32

-- ---- rows by wire type

-- the row of a field of wire type 2, by its number: what all its records mean together, how one offends behind earlier ones,
-- and how the message that it holds offends
abbrev pub bytes_row : ℕ → (B : Type 0) → (List (List ℕ) → B → Type 0) → (List (List ℕ) → List ℕ → ℕ → Type 0)
    → (List ℕ → ℕ → ℕ → Type 0) → Row Record
bytes_row number B Means Here Inside = record {
  Given = List ℕ;
  given = λ r. bytes_in number r;
  Value = B;
  Means = λ held value. Means held value;
  here = λ earlier held n. Here earlier held n;
  inside = λ held place n. Inside held place n;
}

-- of numbers, as `give` finds them
abbrev pub number_row : (Record → List ℕ) → (B : Type 0) → (List ℕ → B → Type 0) → (List ℕ → ℕ → ℕ → Type 0) → Row Record
number_row give B Means Here = record {
  Given = ℕ;
  given = λ r. give r;
  Value = B;
  Means = λ held value. Means held value;
  here = λ earlier k n. Here earlier k n;
  inside = λ k place n. ⊥;
}

-- ---- the rows of the tables, each with the number of its field

-- string
abbrev pub text : ℕ → Row Record
text number = bytes_row number (List ℕ) (λ held t. Singular MeansText (λ x. x ≡ []) held t) (λ earlier held n. Twice earlier n ⊎ NotText held n) nothing_inside

-- fixed64, a time
abbrev pub time : ℕ → Row Record
time number =
    number_row (fixed64_in number) ℕ (λ held n. Singular MeansNumber (λ x. x ≡ 0) held n) (λ earlier k n. Twice earlier n)

-- fixed32
abbrev pub flags : ℕ → Row Record
flags number =
    number_row (fixed32_in number) ℕ (λ held n. Singular MeansNumber (λ x. x ≡ 0) held n) (λ earlier k n. Twice earlier n)

-- uint32
abbrev pub count : ℕ → Row Record
count number =
    number_row (varint_in number) ℕ (λ held n. Singular MeansCount (λ x. x ≡ 0) held n) (λ earlier k n. Twice earlier n)

-- an enum of 0 to `last`, by the number of each of its values
abbrev pub enum : ℕ → ℕ → (E : Type 0) → (E → ℕ) → E → Row Record
enum number last E number_of default = number_row (varint_in number) E (λ held e. Singular (λ n x. n ≡ number_of x) (λ x. x ≡ default) held e) (λ earlier k n. Twice earlier n ⊎ Above last k n)

-- bytes, the identifier of a trace
abbrev pub trace_id : ℕ → Row Record
trace_id number = bytes_row number (Option ℕ) (λ held id. Singular MeansTraceId (λ x. x ≡ None) held id) (λ earlier held n. Twice earlier n ⊎ WrongLength 16 held n) nothing_inside

-- bytes, the identifier of a span
abbrev pub span_id : ℕ → Row Record
span_id number = bytes_row number (Option ℕ) (λ held id. Singular MeansSpanId (λ x. x ≡ None) held id) (λ earlier held n. Twice earlier n ⊎ WrongLength 8 held n) nothing_inside

-- one message, with what its absence means
abbrev pub message : ℕ → (B : Type 0) → (List ℕ → B → Type 0) → B → (List ℕ → ℕ → ℕ → Type 0) → Row Record
message number B Means absent Offends =
    bytes_row number B (λ held x. Singular Means (λ y. y ≡ absent) held x) (λ earlier held n. Twice earlier n) Offends

-- repeated messages
abbrev pub messages_of : ℕ → (B : Type 0) → (List ℕ → B → Type 0) → (List ℕ → ℕ → ℕ → Type 0) → Row Record
messages_of number B Means Offends = bytes_row number (List B) (λ held xs. AllZip Means held xs) (λ earlier held n. ⊥) Offends
