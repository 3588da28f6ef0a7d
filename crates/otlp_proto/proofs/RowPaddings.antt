-- What is added in the messages that a row's records hold changes no meaning of the row, where it changes none of them.
use Rattle.std.proofs.Common.{◌≡◌, ℕ, List, inl, subst}
use Rattle.span_io.proofs.FreeItemLaws.{means_padded, items_given, padded_whole, same_offence}
use Rattle.span_io.specs.FreeItems.{Paddings, TextPadded}
use Rattle.span_io.proofs.FreeItemLaws.{SameOffence, RowPadding, TablePadding}
use Rattle.span_io.specs.Offences.{RulesLaws}
use Rattle.span_io.specs.Offences.{Offence}
use Rattle.span_io.proofs.RowLaws.{same_twice, singular_moves, all_zip_moves}
use Rattle.span_io.proofs.TableDecisions.{TableDecides}
use Rattle.span_io.specs.Tables.{Row, Values, Mean, givens, rules_by, no_ends}
use Rattle.proto_wire.specs.Messages.{messages}
use Rattle.proto_wire.specs.Records.{Record}
use Rattle.proto_wire.specs.Wire.{Wire}
use Rattle.otlp_proto.specs.StatedLaws.{WireFacts}
use Rattle.otlp_proto.specs.Rows.{message, messages_of}
use Rattle.otlp_proto.proofs.ValueDecisions.{whole_wire}
use Rattle.otlp_proto.proofs.ValueReadings.{wire_whole}

-- ---- rows of messages

-- what a message in a row keeps
pub record Keeps {B : Type 0} (Means : List ℕ → B → Type 0) (Offends : List ℕ → ℕ → ℕ → Type 0) (Padded : List ℕ → List ℕ → Type 0) : Type 0 where
  pub none : (held : List ℕ) → Padded held held
  pub means : (held other : List ℕ) → Padded held other → (x : B) → Means held x → Means other x
  pub same : (held other : List ℕ) → Padded held other → SameOffence (λ p n. Offends held p n) (λ p n. Offends other p n)

module _ {B : Type 0} (Means : List ℕ → B → Type 0) (Offends : List ℕ → ℕ → ℕ → Type 0) (Padded : List ℕ → List ℕ → Type 0) (keeps : Keeps Means Offends Padded) where
  pub message_padding : (number : ℕ) (absent : B) → RowPadding (message number B Means absent Offends) Padded
  message_padding number absent = record {
    none = keeps.none;
    here = λ earlier others each x y padded n. same_twice Padded earlier others each n;
    inside = keeps.same;
    means = singular_moves Padded Means keeps.means (λ v. v ≡ absent);
  }

  pub messages_padding : (number : ℕ) → RowPadding (messages_of number B Means Offends) Padded
  messages_padding number = record {
    none = keeps.none;
    here = λ earlier others each x y padded n. (λ h. h, λ h. h);
    inside = keeps.same;
    means = all_zip_moves Padded Means keeps.means;
  }

-- ---- messages

module _ (facts : WireFacts) (table : List (Row Record)) (padded : Paddings table) (pads : TablePadding table padded) where
  -- the records of the other bytes, with what they mean
  pub record Moved (other : List ℕ) (v : Values table) : Type 0 where
    pub records : List Record
    pub wire : Wire records other
    pub mean : Mean table (givens table records) v

  pub moved : (text other : List ℕ) → TextPadded messages table padded text other → (records : List Record) → Wire records text
      → (v : Values table) → Mean table (givens table records) v → Moved other v
  moved text other t records wire v mean =
      let whole = padded_whole messages facts.format table padded text other t records (wire_whole records text wire) in
      let given = items_given table padded t.items t.others t.same in
      record {
        records = t.others;
        wire = whole_wire t.others other whole.1;
        mean = means_padded table padded pads t.items t.others given v (subst (λ (l : List Record). Mean table (givens table l) v) whole.0 mean);
      }

  -- of a message that doesn't offend at its end
  pub endless_same : TableDecides table → RulesLaws messages (rules_by table no_ends) → (text other : List ℕ) → TextPadded messages table padded text other
      → SameOffence (λ p n. Offence messages (rules_by table no_ends) text p n) (λ p n. Offence messages (rules_by table no_ends) other p n)
  endless_same decides laws text other t =
      same_offence messages facts.format table padded decides pads no_ends laws (λ seen. inl (λ n h. h)) (λ items others given n. (λ h. h, λ h. h)) text other t
