-- A message is told by the values of its rows: so bytes mean one message at most, nothing offends in bytes that mean one, and records
-- that give the same to each row mean the same.
use Rattle.std.proofs.Common.{◌≡◌, ℕ, true, List, ◌∷◌, ◌++◌, sym, ap, subst, ◌∙◌}
use Rattle.std.specs.Prelude.{◌↔◌}
use Rattle.span_io.specs.Offences.{Offence}
use Rattle.span_io.specs.Tables.{Row, givens, Givens, Values, Mean, rules_by, IsFree}
use Rattle.span_io.proofs.TableLaws.{TableShape, TableMeaning, values_once, table_fine, givens_without}
use Rattle.proto_wire.specs.Messages.{messages}
use Rattle.proto_wire.specs.Records.{Record}
use Rattle.proto_wire.specs.Wire.{Wire}
use Rattle.otlp_proto.specs.StatedLaws.{WireFacts}
use Rattle.otlp_proto.specs.Rows.{MeansMessage}
use Rattle.otlp_proto.proofs.FieldLemmas.{Fits}
use Rattle.otlp_proto.proofs.ValueReadings.{wire_whole}
use Rattle.otlp_proto.proofs.WrittenRows.{AllWritten, values_of, numbers_of, text_of, distinct, read_as}

-- what the records of a message mean, row by row, and the message of these values
pub record Bridge (X : Type 0) (table : List (Row Record)) (ends : List Record → ℕ → Type 0) (Is : X → List Record → Type 0) : Type 0 where
  pub of : Values table → X
  pub values : (x : X) (records : List Record) → Is x records → Values table
  pub mean : (x : X) (records : List Record) (is : Is x records) → Mean table (givens table records) (values x records is)
  pub again : (x : X) (records : List Record) (is : Is x records) → x ≡ of (values x records is)
  pub build : (records : List Record) (v : Values table) → ((n : ℕ) → ends records n → ⊥) → Mean table (givens table records) v → Is (of v) records
  -- the end of a message that means something is right, and it goes by the rows
  pub ended : (x : X) (records : List Record) → Is x records → (n : ℕ) → ends records n → ⊥
  pub ends_same : (records others : List Record) → givens table records ≡ givens table others → (n : ℕ) → ends records n → ends others n

module _ (facts : WireFacts) {X : Type 0} (table : List (Row Record)) (top : ℕ) (shape : TableShape messages table top) (meaning : TableMeaning table) (ends : List Record → ℕ → Type 0) (Is : X → List Record → Type 0)
    (bridge : Bridge X table ends Is) where
  pub once_of : (text : List ℕ) (x y : X) (records others : List Record) → Wire records text → Wire others text → Is x records → Is y others → x ≡ y
  once_of text x y records others wire again h k =
      let same = facts.one_reading text others records again wire in
      let other = subst (λ (l : List Record). Is y l) same k in
      bridge.again x records h
      ∙ ap bridge.of (values_once messages top table meaning (givens table records) (bridge.values x records h) (bridge.values y records other) (bridge.mean x records h) (bridge.mean y records other))
      ∙ sym (bridge.again y records other)

  pub fine_of : (x : X) (text : List ℕ) (records : List Record) → Wire records text → Is x records → (place n : ℕ) → Offence messages (rules_by table ends) text place n → ⊥
  fine_of x text records wire is =
      table_fine messages facts.format table top shape meaning ends text records (wire_whole records text wire) (bridge.values x records is) (bridge.mean x records is) (bridge.ended x records is)

-- records that give the same to each row
module _ {X : Type 0} (table : List (Row Record)) (ends : List Record → ℕ → Type 0) (Is : X → List Record → Type 0) (bridge : Bridge X table ends Is) where
  pub moves : (x : X) (records others : List Record) → givens table records ≡ givens table others → Is x records → Is x others
  moves x records others same is =
      subst (λ (y : X). Is y others) (sym (bridge.again x records is))
      (bridge.build others (bridge.values x records is) (λ n bad. bridge.ended x records is n (bridge.ends_same others records (sym same) n bad))
      (subst (λ (g : Givens table). Mean table g (bridge.values x records is)) same (bridge.mean x records is)))

  -- a record of no row changes nothing
  pub without_free : (x : X) (before behind : List Record) (free : Record) → IsFree table free → Is x (before ++ free ∷ behind) ↔ Is x (before ++ behind)
  without_free x before behind free is =
      let same = givens_without table before behind free is in
      (moves x (before ++ free ∷ behind) (before ++ behind) same, moves x (before ++ behind) (before ++ free ∷ behind) (sym same))

-- what is written of the rows is read back
pub read_back : {X : Type 0} (table : List (Row Record)) (ends : List Record → ℕ → Type 0) (Is : X → List Record → Type 0) (bridge : Bridge X table ends Is) (rows : AllWritten table) → distinct (numbers_of table rows) ≡ true
    → ((records : List Record) → Mean table (givens table records) (values_of table rows) → (n : ℕ) → ends records n → ⊥) → Fits (text_of table rows) → MeansMessage Is (text_of table rows) (bridge.of (values_of table rows))
read_back table ends Is bridge rows each fine fits =
    let read = read_as table rows each fits in
    record { items = read.records; are = read.wire; is = bridge.build read.records (values_of table rows) (fine read.records read.mean) read.mean }
