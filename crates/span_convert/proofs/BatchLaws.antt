-- Two walks over one file of batches, what a batch is, and that each file has batches, behind which it ends or isn't read for a cause.
use Rattle.std.proofs.Common.{◌≡◌, ◌++◌, ◌∷◌, ◌⊎◌, inl, inr, ℕ, List, [], length, take, refl, ap, sym, ◌∙◌, subst}
use Rattle.std.proofs.lemmas.List.{append-nil}
use Rattle.std.specs.List.{AllByRecursion, AllZip}
use Rattle.span_io.specs.Causes.{cause_number}
use Rattle.span_io.specs.Frames.{ItemsThen, GoesOn}
use Rattle.span_io.specs.Framings.{Framed}
use Rattle.span_io.specs.Offences.{Least}
use Rattle.span_io.proofs.RowLaws.{all_zip_once}
use Rattle.span_io.specs.declared.cause.Cause.{Cause}
use Rattle.span_io.specs.declared.limits.Limits.{Limits}
use Rattle.trace_model.specs.OtlpParts.{NotedGroup}
use Rattle.jaeger_model.specs.Batch.{IsBatchText}
use Rattle.jaeger_model.specs.StatedLaws.{BatchOffends}
use Rattle.jaeger_model.specs.declared.batch.Batch.{Batch}
use Rattle.map_jaeger.specs.Reading.{group_of}
use Rattle.map_jaeger.specs.Remarks.{AreRemarks}
use Rattle.span_convert.specs.BatchFiles.{ProtocolWords, batches, RefusedBatch, HoldsBatches, IsBatchUnit, ReadsBatches}
use Rattle.span_convert.specs.FramedForms.{FramedForm}
use Rattle.span_convert.specs.private.InputLaws.{BatchLaws}
use Rattle.span_convert.specs.Units.{batch_form}
use Rattle.span_convert.proofs.BatchRemarks.{remarks_once, some_remarks}
use Rattle.span_convert.proofs.FrameLemmas.{none_framed, no_items, FirstItems, first_items, framed_longer, same_items}
use Rattle.span_convert.proofs.SourceLaws.{SourceLaws, HeldBy, GoOn, AllUnits, IsDecidedUnit}

module _ (protocol : ProtocolWords) (L : BatchLaws protocol) where
  abbrev from : FramedForm
  from = batch_form protocol

  abbrev IsUnit : List ℕ → NotedGroup → Type 0
  IsUnit = IsBatchUnit protocol.spells

  pub one_group : (unit : List ℕ) (g h : NotedGroup) → IsUnit unit g → IsUnit unit h → g ≡ h
  one_group unit g h a b =
      let batch : a.batch ≡ b.batch = L.batch.once unit a.batch b.batch a.text b.text in
      let means : g.means ≡ h.means = a.means ∙ ap group_of batch ∙ sym b.means in
      let notes : g.notes ≡ h.notes = remarks_once L.once b.batch g.notes h.notes (subst (λ (x : Batch). AreRemarks x g.notes) batch a.remarks) b.remarks in
      λ i. record { means = means i; notes = notes i }

  -- ---- all batches of a file

  -- each frame is the text of a struct
  all_framed : (limit : ℕ) (units : List (List ℕ)) (rest bytes : List ℕ) → ItemsThen (batches protocol) limit units rest bytes → AllByRecursion (batches protocol).Whole units
  unfolding ItemsThen
  all_framed limit [] rest bytes h = tt
  all_framed limit (unit ∷ units) rest bytes h = (h.0, all_framed limit units rest h.2 h.4)

  pub batch_units : (limits : Limits) (bytes : List ℕ) → AllUnits from limits bytes
  batch_units limits bytes =
      let w : Framed (batches protocol) (RefusedBatch protocol) limits.unit (take limits.binary bytes) = L.framing.some_framing limits.unit (take limits.binary bytes) in
      record {
        units = w.items;
        rest = w.rest;
        held = w.framed.items_then;
        framed = all_framed limits.unit w.items w.rest (take limits.binary bytes) w.framed.items_then;
        rest_is = w.rest_is;
      }

  -- ---- two walks over one file

  go_on : (limits : Limits) (units others : List (List ℕ)) (rest other : List ℕ) → GoesOn (batches protocol) limits.unit units others rest other → GoOn from limits units others rest other
  go_on limits units others rest other w = record {
    behind = w.more;
    parts = w.parts;
    ended = λ none.
        let e : (w.more ≡ []) × (rest ≡ other) = no_items (batches protocol) limits.unit w.more other rest none w.items_then in
        (w.parts ∙ ap (λ (l : List (List ℕ)). units ++ l) e.0 ∙ append-nil units, e.1);
  }

  units_walk : (limits : Limits) (text : List ℕ) (units others : List (List ℕ)) (rest other : List ℕ) → HoldsBatches protocol limits text units rest → HoldsBatches protocol limits text others other
      → GoOn from limits units others rest other ⊎ GoOn from limits others units other rest
  units_walk limits text units others rest other h g = elim (L.framing.walks limits.unit (take limits.binary text) rest other units others h g) [
    | inl w ↦ inl (go_on limits units others rest other w)
    | inr w ↦ inr (go_on limits others units other rest w)
  ]

  before_unit : (limits : Limits) (text : List ℕ) (before : List (List ℕ)) (unit rest : List ℕ) → HoldsBatches protocol limits text (before ++ unit ∷ []) rest → HeldBy from limits text before
  before_unit limits text before unit rest h =
      let w : FirstItems (batches protocol) limits.unit before (take limits.binary text) = first_items (batches protocol) limits.unit before (unit ∷ []) rest (take limits.binary text) h in
      record { rest = w.rest; held = w.items_then }

  pub batch_laws : SourceLaws from
  batch_laws = record {
    one_group = one_group;
    fine = λ unit g is. L.batch.fine is.batch unit is.text;
    walks = units_walk;
    before = before_unit;
    nothing = λ limits. none_framed (batches protocol) limits.unit limits.binary;
    longer = λ limits text more units rest. framed_longer (batches protocol) (RefusedBatch protocol) L.pieces limits.unit limits.binary units rest text more;
    step = L.step;
    pieces = L.pieces;
  }

  -- ---- a file is read as one trace

  pub one_file : (text : List ℕ) (a b : List NotedGroup) → ReadsBatches protocol text a → ReadsBatches protocol text b → a ≡ b
  one_file text a b h g =
      let units : h.units ≡ g.units = same_items (batches protocol) (RefusedBatch protocol) L.step L.framing (length text) text h.units g.units h.framed g.framed in
      all_zip_once IsUnit one_group g.units a b (subst (λ (l : List (List ℕ)). AllZip IsUnit l a) units h.are_groups) g.are_groups

  -- ---- each batch is decided

  pub decided_batch : (unit : List ℕ) → (batches protocol).Whole unit → IsDecidedUnit from unit
  decided_batch unit whole = of (L.some whole.0 unit whole.1)
    where
      of : ((batch : Batch) × IsBatchText protocol.spells batch unit) ⊎ ((cause : Cause) × Least (BatchOffends protocol.spells unit) (cause_number cause)) → IsDecidedUnit from unit
      of (inl (batch, text)) =
          let noted = some_remarks L.exist batch in
          inl (record { means = group_of batch; notes = noted.0 }, record { batch = batch; text = text; means = refl; remarks = noted.1 })
      of (inr least) = inr least
