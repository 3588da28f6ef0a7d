-- What is proved of a message of OTLP, by what is proved of its rows: what offends in it does so within its bytes, bytes mean one such
-- message at most, they mean one or an offence counts, and free records added anywhere in it change nothing.
use Rattle.std.proofs.Common.{◌≡◌, ◌≤◌, ℕ, inl, inr, true, List, sym, subst, ⊎_elim, arith}
use Rattle.std.specs.Prelude.{◌↔◌}
use Rattle.span_io.proofs.FreeItemLaws.{means_padded, items_given, padded_whole, same_offence, text_self}
use Rattle.span_io.specs.FreeItems.{Paddings, GivenPadded, TextPadded}
use Rattle.span_io.specs.Offences.{RulesLaws}
use Rattle.span_io.specs.Offences.{Offence}
use Rattle.span_io.proofs.TableDecisions.{DecidedHere, decide_message}
use Rattle.span_io.proofs.TableLaws.{table_rules, message_within, message_late}
use Rattle.span_io.specs.Tables.{Row, rules_by, no_ends}
use Rattle.proto_wire.specs.Messages.{messages}
use Rattle.proto_wire.specs.Records.{Record}
use Rattle.otlp_proto.specs.StatedLaws.{ReadingLaws}
use Rattle.otlp_proto.specs.Rows.{message, messages_of, MeansMessage}
use Rattle.otlp_proto.proofs.Bridges.{Bridge, once_of, fine_of}
use Rattle.otlp_proto.proofs.RowDecisions.{Chosen, message_decides, messages_decides}
use Rattle.otlp_proto.proofs.RowMeanings.{Reads, message_meaning, messages_meaning}
use Rattle.otlp_proto.proofs.RowPaddings.{Keeps, message_padding, messages_padding}
use Rattle.otlp_proto.proofs.RowProofs.{RowProof, bytes_own, TableProof, shapes, meanings, decisions, paddings, numbered, all_apart}
use Rattle.otlp_proto.proofs.Shapes.{Bounded, higher, unread_late, bare_end, message_shape, messages_shape}
use Rattle.otlp_proto.proofs.ValueDecisions.{whole_wire}
use Rattle.otlp_proto.proofs.ValueReadings.{wire_whole}
use Rattle.otlp_proto.proofs.WrittenRows.{distinct, bytes_apart}

-- the end of a message, in which numbers up to `inner` may offend at its last place: it offends with none below, and with none above `top`
pub record EndProof (table : List (Row Record)) (padded : Paddings table) (ends : List Record → ℕ → Type 0) (inner top : ℕ) : Type 0 where
  pub decided : (seen : List Record) → DecidedHere (λ n. ends seen n)
  pub moves : (items others : List Record) → GivenPadded table padded items others → (n : ℕ) → ends items n ↔ ends others n
  pub above : (seen : List Record) (n : ℕ) → ends seen n → inner ≤ n
  pub below : (seen : List Record) (n : ℕ) → ends seen n → n ≤ top

pub never_ends : {table : List (Row Record)} {padded : Paddings table} {inner top : ℕ} → EndProof table padded no_ends inner top
never_ends = record { decided = λ seen. inl (λ n h. h); moves = λ items others given n. (λ h. h, λ h. h); above = λ seen n h. absurd h; below = λ seen n h. absurd h }

pub record MessageProof {X : Type 0} (Is : X → List Record → Type 0) (table : List (Row Record)) (padded : Paddings table) (ends : List Record → ℕ → Type 0) (top : ℕ) : Type 0 where
  pub rules : RulesLaws messages (rules_by table ends)
  pub bounded : Bounded top (λ held p n. Offence messages (rules_by table ends) held p n)
  pub reads : Reads (MeansMessage Is) (λ held p n. Offence messages (rules_by table ends) held p n)
  pub chosen : (text : List ℕ) → Chosen (MeansMessage Is) (λ held p n. Offence messages (rules_by table ends) held p n) text
  pub keeps : Keeps (MeansMessage Is) (λ held p n. Offence messages (rules_by table ends) held p n) (λ held other. TextPadded messages table padded held other)

module _ (K : ReadingLaws) {X : Type 0} (table : List (Row Record)) (padded : Paddings table) (ends : List Record → ℕ → Type 0) (Is : X → List Record → Type 0) (inner top : ℕ) (less : inner ≤ top) (some : 3 ≤ top)
    (rows : TableProof table padded inner) (each : distinct (numbered inner table padded rows) ≡ true) (end : EndProof table padded ends inner top) (bridge : Bridge X table ends Is) where
  rules : RulesLaws messages (rules_by table ends)
  rules = table_rules messages K.facts.format table inner (shapes inner table padded rows) ends (λ bare. end.above)

  -- the records of a text to which free ones were added mean the same
  of_items : (x : X) (items others : List Record) → GivenPadded table padded items others → Is x items → Is x others
  of_items x items others given is =
      subst (λ (y : X). Is y others) (sym (bridge.again x items is))
      (bridge.build others (bridge.values x items is) (λ n bad. bridge.ended x items is n ((end.moves items others given n).1 bad))
      (means_padded table padded (paddings inner table padded rows) items others given (bridge.values x items is) (bridge.mean x items is)))

  moved : (text other : List ℕ) → TextPadded messages table padded text other → (x : X) → MeansMessage Is text x → MeansMessage Is other x
  moved text other t x m =
      let whole = padded_whole messages K.facts.format table padded text other t m.items (wire_whole m.items text m.are) in
      record {
        items = t.others;
        are = whole_wire t.others other whole.1;
        is = of_items x t.items t.others (items_given table padded t.items t.others t.same) (subst (λ (l : List Record). Is x l) whole.0 m.is);
      }

  pub proved : MessageProof Is table padded ends top
  proved = record {
    rules = rules;
    bounded = record {
      within = λ held p n o. message_within messages K.facts.format table inner (shapes inner table padded rows) ends (λ bare. end.above) held p n o;
      late = λ held p n o behind.
          message_late messages K.facts.format table inner (shapes inner table padded rows) bare_end (omega arith) ends top less (λ rest m u. omega (arith, unread_late rest m u, some)) end.below held p n o behind;
    };
    reads = record {
      once = λ held x y a b. once_of K.facts table inner (shapes inner table padded rows) (meanings inner table padded rows) ends Is bridge held x y a.items b.items a.are b.are a.is b.is;
      fine = λ x held m. fine_of K.facts table inner (shapes inner table padded rows) (meanings inner table padded rows) ends Is bridge x held m.items m.are m.is;
    };
    chosen = λ text. ⊎_elim (λ m. inl (bridge.of m.values, record { items = m.items; are = whole_wire m.items text m.whole; is = bridge.build m.items m.values m.clean_end m.mean })) (λ least. inr least)
        (decide_message messages K.facts.format K.next table inner (shapes inner table padded rows) (decisions inner table padded rows) (all_apart inner table padded rows each) ends rules end.decided text);
    keeps = record {
      none = text_self messages K.facts.format K.next table padded (paddings inner table padded rows);
      means = λ held other t x m. moved held other t x m;
      same = λ held other t. same_offence messages K.facts.format table padded (decisions inner table padded rows) (paddings inner table padded rows) ends rules end.decided end.moves held other t;
    };
  }

-- ---- rows of messages

module _ {X : Type 0} {Is : X → List Record → Type 0} {table : List (Row Record)} {padded : Paddings table} {ends : List Record → ℕ → Type 0} (low top : ℕ) (less : low ≤ top) (proof : MessageProof Is table padded ends low) (number : ℕ) where
  abbrev Offends : List ℕ → ℕ → ℕ → Type 0
  Offends held p n = Offence messages (rules_by table ends) held p n

  abbrev Padded : List ℕ → List ℕ → Type 0
  Padded held other = TextPadded messages table padded held other

  abbrev pub message_proof : (absent : X) → RowProof (message number X (MeansMessage Is) absent Offends) Padded top
  message_proof absent = record {
    number = number;
    own = bytes_own number;
    apart = bytes_apart number;
    shape = message_shape top number X (MeansMessage Is) absent Offends (higher low top Offends less proof.bounded);
    meaning = message_meaning number X (MeansMessage Is) absent Offends proof.reads;
    decides = message_decides (MeansMessage Is) Offends proof.reads proof.chosen number absent;
    pads = message_padding (MeansMessage Is) Offends Padded proof.keeps number absent;
  }

  abbrev pub messages_proof : RowProof (messages_of number X (MeansMessage Is) Offends) Padded top
  messages_proof = record {
    number = number;
    own = bytes_own number;
    apart = bytes_apart number;
    shape = messages_shape top number X (MeansMessage Is) Offends (higher low top Offends less proof.bounded);
    meaning = messages_meaning number X (MeansMessage Is) Offends proof.reads;
    decides = messages_decides (MeansMessage Is) Offends proof.reads proof.chosen number;
    pads = messages_padding (MeansMessage Is) Offends Padded proof.keeps number;
  }
