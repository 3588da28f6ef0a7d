-- `Status` (OTLP trace.proto): `message` 2, a text, and `code` 3, an enum of 0 to 2.
use Rattle.std.specs.Prelude.{◌≡◌, ℕ, List, [], ◌∷◌}
use Rattle.span_io.specs.FreeItems.{Paddings, Same, TextPadded}
use Rattle.span_io.specs.Offences.{Rules}
use Rattle.span_io.specs.Tables.{Row, Singular, rules_by, no_ends, MeansText}
use Rattle.proto_wire.specs.Messages.{messages}
use Rattle.proto_wire.specs.Records.{Record}
use Rattle.trace_model.specs.declared.span.Code.{Code}
use Rattle.trace_model.specs.declared.span.Code.TheVariants as codes
use Rattle.trace_model.specs.declared.span.Status.{Status}
use Rattle.otlp_proto.specs.Rows.{bytes_of, varints_of, text, enum}
use Rattle.trace_model.specs.OtlpParts.{code_number}

-- the varint of `code` is the number of this `Status.StatusCode`; it isn't cut to 32 bits, as a count is
abbrev pub MeansCode : ℕ → Code → Type 0
MeansCode n code = n ≡ code_number code

-- the records, in any order, are those of this status
pub record IsStatus (s : Status) (records : List Record) : Type 0 where
  pub message : Singular MeansText (λ text. text ≡ []) (bytes_of 2 records) s.message
  pub code : Singular MeansCode (λ code. code ≡ codes.Unset) (varints_of 3 records) s.code

-- the fields of `Status`, a row each: `message` 2 and `code` 3; there is no field 1
abbrev pub status_table : List (Row Record)
status_table = text 2 ∷ enum 3 2 Code code_number codes.Unset ∷ []

-- how a `Status` offends: in its rows, and never by what it lacks at its end
abbrev pub status_rules : Rules Record
status_rules = rules_by status_table no_ends

-- free records added in it, and in what its rows hold
abbrev pub status_padded : Paddings status_table
status_padded = (Same, (Same, tt))

-- the bytes of a status, and the same with free records added
abbrev pub StatusPadded : List ℕ → List ℕ → Type 0
StatusPadded held other = TextPadded messages status_table status_padded held other
