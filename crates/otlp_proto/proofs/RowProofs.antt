-- What is proved of a row of OTLP's tables: where what stands inside it offends, that it has one meaning, that it is decided, and that free
-- records inside it change nothing. A message has one list of these beside its table.
use Rattle.std.proofs.Common.{◌≡◌, ◌≤◌, ℕ, ◌==◌, true, false, List, [], ◌∷◌, ap, ◌∙◌}
use Rattle.span_io.proofs.FreeItemLaws.{equal_padding}
use Rattle.span_io.specs.FreeItems.{Paddings, Same}
use Rattle.span_io.proofs.FreeItemLaws.{RowPadding, TablePadding}
use Rattle.span_io.proofs.RowLaws.{EnumLaws}
use Rattle.span_io.proofs.TableDecisions.{RowDecides, TableDecides, Apart}
use Rattle.span_io.proofs.TableLaws.{RowShape, TableShape, RowMeaning, TableMeaning}
use Rattle.span_io.specs.Tables.{Row, IsFree}
use Rattle.proto_wire.specs.Messages.{messages}
use Rattle.proto_wire.specs.Records.{Record}
use Rattle.otlp_proto.specs.Attributes.{attributes}
use Rattle.otlp_proto.specs.StatedLaws.{ReadingLaws}
use Rattle.otlp_proto.specs.PaddedValues.{AttributePadded}
use Rattle.otlp_proto.specs.Rows.{bytes_in, varint_in, fixed64_in, fixed32_in, text, time, flags, count, enum, trace_id, span_id}
use Rattle.otlp_proto.proofs.PaddedValues.{attributes_padding}
use Rattle.otlp_proto.proofs.RowDecisions.{text_decides, time_decides, flags_decides, count_decides, enum_decides, trace_id_decides, span_id_decides}
use Rattle.otlp_proto.proofs.RowMeanings.{text_meaning, time_meaning, flags_meaning, count_meaning, enum_meaning, trace_id_meaning, span_id_meaning}
use Rattle.otlp_proto.proofs.Shapes.{text_shape, time_shape, flags_shape, count_shape, enum_shape, trace_id_shape, span_id_shape, attributes_shape}
use Rattle.otlp_proto.proofs.ValueDecisions.{attributes_decides, bytes_is, varint_is, fixed64_is, fixed32_is}
use Rattle.otlp_proto.proofs.ValueReadings.{attributes_meaning}
use Rattle.otlp_proto.proofs.WrittenRows.{differs, distinct, if_both, if_neither, bytes_apart, varint_apart, fixed64_apart, fixed32_apart}

-- Of a row to which records of one number alone give something.
pub record RowProof (row : Row Record) (Padded : row.Given → row.Given → Type 0) (top : ℕ) : Type 0 where
  pub number : ℕ
  pub own : (r : Record) (x : row.Given) → row.given r ≡ x ∷ [] → r.number ≡ number
  pub apart : (r : Record) → (r.number == number) ≡ false → row.given r ≡ []
  pub shape : RowShape messages row top
  pub meaning : RowMeaning row
  pub decides : RowDecides row
  pub pads : RowPadding row Padded

-- ---- tables

abbrev pub TableProof : (table : List (Row Record)) → Paddings table → ℕ → Type 0
TableProof [] padded top = Unit {0}
TableProof (row ∷ table) padded top = RowProof row padded.0 top × TableProof table padded.1 top

module _ (top : ℕ) where
  pub shapes : (table : List (Row Record)) (padded : Paddings table) → TableProof table padded top → TableShape messages table top
  shapes [] padded rows = tt
  shapes (row ∷ table) padded rows = (rows.0.shape, shapes table padded.1 rows.1)

  pub meanings : (table : List (Row Record)) (padded : Paddings table) → TableProof table padded top → TableMeaning table
  meanings [] padded rows = tt
  meanings (row ∷ table) padded rows = (rows.0.meaning, meanings table padded.1 rows.1)

  pub decisions : (table : List (Row Record)) (padded : Paddings table) → TableProof table padded top → TableDecides table
  decisions [] padded rows = tt
  decisions (row ∷ table) padded rows = (rows.0.decides, decisions table padded.1 rows.1)

  pub paddings : (table : List (Row Record)) (padded : Paddings table) → TableProof table padded top → TablePadding table padded
  paddings [] padded rows = tt
  paddings (row ∷ table) padded rows = (rows.0.pads, paddings table padded.1 rows.1)

  -- the numbers of the rows
  abbrev pub numbered : (table : List (Row Record)) (padded : Paddings table) → TableProof table padded top → List ℕ
  numbered [] padded rows = []
  numbered (row ∷ table) padded rows = rows.0.number ∷ numbered table padded.1 rows.1

  -- a record of another number than all of them is free
  free_of_others : (table : List (Row Record)) (padded : Paddings table) (rows : TableProof table padded top) (r : Record) (n : ℕ) → r.number ≡ n → differs n (numbered table padded rows) ≡ true → IsFree table r
  free_of_others [] padded rows r n is differ = tt
  free_of_others (row ∷ table) padded rows r n is differ =
      let parts = if_neither (n == rows.0.number) (differs n (numbered table padded.1 rows.1)) differ in
      (rows.0.apart r (ap (λ k. k == rows.0.number) is ∙ parts.0), free_of_others table padded.1 rows.1 r n is parts.1)

  -- a record is of one row at most
  pub all_apart : (table : List (Row Record)) (padded : Paddings table) (rows : TableProof table padded top) → distinct (numbered table padded rows) ≡ true → Apart table
  all_apart [] padded rows each = tt
  all_apart (row ∷ table) padded rows each =
      let parts = if_both (differs rows.0.number (numbered table padded.1 rows.1)) (distinct (numbered table padded.1 rows.1)) each in
      (λ r x gives. free_of_others table padded.1 rows.1 r rows.0.number (rows.0.own r x gives) parts.0, all_apart table padded.1 rows.1 parts.1)

-- ---- rows

pub bytes_own : (number : ℕ) (r : Record) (x : List ℕ) → bytes_in number r ≡ x ∷ [] → r.number ≡ number
bytes_own number r x gives = ap (λ (s : Record). s.number) (bytes_is number r x gives)

pub varint_own : (number : ℕ) (r : Record) (x : ℕ) → varint_in number r ≡ x ∷ [] → r.number ≡ number
varint_own number r x gives = ap (λ (s : Record). s.number) (varint_is number r x gives)

pub fixed64_own : (number : ℕ) (r : Record) (x : ℕ) → fixed64_in number r ≡ x ∷ [] → r.number ≡ number
fixed64_own number r x gives = ap (λ (s : Record). s.number) (fixed64_is number r x gives)

pub fixed32_own : (number : ℕ) (r : Record) (x : ℕ) → fixed32_in number r ≡ x ∷ [] → r.number ≡ number
fixed32_own number r x gives = ap (λ (s : Record). s.number) (fixed32_is number r x gives)

-- of a row that holds no message
abbrev pub plain_proof : (row : Row Record) (top number : ℕ) → ((r : Record) (x : row.Given) → row.given r ≡ x ∷ [] → r.number ≡ number) → ((r : Record) → (r.number == number) ≡ false → row.given r ≡ [])
    → RowShape messages row top → RowMeaning row → RowDecides row → RowProof row Same top
plain_proof row top number own apart shape meaning decides =
    record { number = number; own = own; apart = apart; shape = shape; meaning = meaning; decides = decides; pads = equal_padding row decides }

module _ (K : ReadingLaws) (top number : ℕ) where
  abbrev pub text_proof : RowProof (text number) Same top
  text_proof = plain_proof (text number) top number (bytes_own number) (bytes_apart number) (text_shape top number) (text_meaning number) (text_decides number)

  abbrev pub time_proof : RowProof (time number) Same top
  time_proof = plain_proof (time number) top number (fixed64_own number) (fixed64_apart number) (time_shape top number) (time_meaning number) (time_decides number)

  abbrev pub flags_proof : RowProof (flags number) Same top
  flags_proof = plain_proof (flags number) top number (fixed32_own number) (fixed32_apart number) (flags_shape top number) (flags_meaning number) (flags_decides number)

  abbrev pub count_proof : RowProof (count number) Same top
  count_proof = plain_proof (count number) top number (varint_own number) (varint_apart number) (count_shape top number) (count_meaning number) (count_decides number)

  abbrev pub enum_proof : (last : ℕ) (E : Type 0) (number_of : E → ℕ) (default : E) → EnumLaws E number_of last → ((k : ℕ) → k ≤ last → (e : E) × (k ≡ number_of e)) → RowProof (enum number last E number_of default) Same top
  enum_proof last E number_of default laws named = plain_proof (enum number last E number_of default) top number (varint_own number) (varint_apart number)
      (enum_shape top number last E number_of default) (enum_meaning number last E number_of default laws) (enum_decides number last E number_of default named)

  abbrev pub trace_id_proof : RowProof (trace_id number) Same top
  trace_id_proof = plain_proof (trace_id number) top number (bytes_own number) (bytes_apart number) (trace_id_shape top number) (trace_id_meaning K.ids.trace_once number) (trace_id_decides number)

  abbrev pub span_id_proof : RowProof (span_id number) Same top
  span_id_proof = plain_proof (span_id number) top number (bytes_own number) (bytes_apart number) (span_id_shape top number) (span_id_meaning K.ids.span_once number) (span_id_decides number)

abbrev pub attributes_proof : ReadingLaws → (number : ℕ) → RowProof (attributes number) AttributePadded 3
attributes_proof K number = record {
  number = number;
  own = bytes_own number;
  apart = bytes_apart number;
  shape = attributes_shape K.facts.format number;
  meaning = attributes_meaning K.facts K.once number;
  decides = attributes_decides K.facts K.once K.exist K.next number;
  pads = attributes_padding K.facts K.once K.exist K.next number;
}
