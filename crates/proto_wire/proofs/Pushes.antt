-- What a push answers, and where the scanner stands behind it.
use Rattle.std.proofs.Common.{◌≡◌, ◌≤◌, ◌<◌, ◌+◌, ◌-◌, ◌↔◌, ◌++◌, inr, ℕ, List, length, min, take, sym, ◌∙◌, subst, arith}
use Rattle.std.proofs.lemmas.List.{length-append}
use Rattle.span_io.specs.declared.step.Step.{Step}
use Rattle.span_io.specs.declared.step.Step.TheVariants as steps
use Rattle.span_io.specs.Steps.{behind}
use Rattle.span_io.specs.VarintLaws.{VarintLaws}
use Rattle.span_io.specs.Frames.{BeginsFrame}
use Rattle.span_io.specs.Pieces.{PieceLaws}
use Rattle.span_io.proofs.PieceSteps.{piece_laws}
use Rattle.proto_wire.specs.declared.scanner.UnitScanner.{UnitScanner}
use Rattle.proto_wire.specs.Wire.{records, RefusedBy, FirstIs, NeedsMoreBytes}
use Rattle.proto_wire.specs.Scanners.{longest_head, IsHead, Seen}
use Rattle.proto_wire.specs.private.HeldLengths.{Counts}
use Rattle.proto_wire.proofs.FirstFrame.{record_laws}
use Rattle.proto_wire.proofs.Heads.{head_of_more}

-- what is answered on all bytes of this head and number
abbrev Answers : ℕ → List ℕ → ℕ → Step → Type 0
Answers limit head there step = (all : List ℕ) → IsHead head all → Counts limit there all → FirstIs limit all step

module _ (L : VarintLaws) (old : UnitScanner) (piece head : List ℕ) (there : ℕ)
    (kept : head ≡ take longest_head (old.head.items ++ piece)) (summed : there ≡ old.size + min (length piece) (old.limit - old.size)) where
  laws : PieceLaws records RefusedBy
  laws = piece_laws records RefusedBy (record_laws L)

  module _ (bytes : List ℕ) (seen : Seen old bytes) where
    head_is : IsHead head (bytes ++ piece)
    head_is = head_of_more old.head.items bytes piece head seen.head kept

    counts : Counts old.limit there (bytes ++ piece)
    counts = record {
      at_most = omega (arith, summed, seen.size, length-append bytes piece);
      below = λ less. omega (arith, less, summed, seen.size, seen.within, length-append bytes piece);
    }

    first : (step : Step) → Answers old.limit head there step → FirstIs old.limit (bytes ++ piece) step
    first step h = h (bytes ++ piece) head_is counts

    pub exactly : (answer : Step) → Answers old.limit head there (behind (length bytes) answer) → (step : Step) → (answer ≡ step) ↔ FirstIs old.limit (bytes ++ piece) (behind (length bytes) step)
    exactly answer h step = laws.counted old.limit bytes piece answer (first (behind (length bytes) answer) h) step

    -- what an exact answer says of frames
    framed : (answer : Step) → ((step : Step) → (answer ≡ step) ↔ FirstIs old.limit (bytes ++ piece) (behind (length bytes) step)) → (n : ℕ)
        → (answer ≡ steps.Unit n) ↔ BeginsFrame records old.limit (length bytes + n) (bytes ++ piece)
    framed answer exact n =
        let is = exact (steps.Unit n) in
        let begins = laws.begins old.limit (length bytes + n) (bytes ++ piece) in
        (λ e. begins.0 (is.0 e), λ h. is.1 (begins.1 h))

    pub framed_exactly : (answer : Step) → Answers old.limit head there (behind (length bytes) answer) → (n : ℕ)
        → (answer ≡ steps.Unit n) ↔ BeginsFrame records old.limit (length bytes + n) (bytes ++ piece)
    framed_exactly answer h = framed answer (exactly answer h)

    pub goes_on : (new : UnitScanner) → new.limit ≡ old.limit → new.head.items ≡ head → new.size ≡ there → new.refused ≡ old.refused → Answers old.limit head there steps.Need → Seen new (bytes ++ piece)
    goes_on new limit items size refused h =
        let needs : NeedsMoreBytes old.limit (bytes ++ piece) = first steps.Need h in
        let few : length (bytes ++ piece) < old.limit = laws.few old.limit (bytes ++ piece) needs in
        record {
          going = refused ∙ seen.going;
          head = items ∙ head_is;
          size = size ∙ counts.below (omega (arith, few, counts.at_most));
          within = omega (arith, size, limit, few, counts.at_most);
          waits = inr (subst (λ m. NeedsMoreBytes m (bytes ++ piece)) (sym limit) needs);
        }

    module _ (n : ℕ) (h : Answers old.limit head there (steps.Unit n)) where
      ends : (length bytes < n) × (n ≤ length bytes + length piece)
      ends = laws.ends_behind old.limit n bytes piece seen.waits ((laws.begins old.limit n (bytes ++ piece)).0 (first (steps.Unit n) h))

      pub ends_within : (m : ℕ) → m ≡ n - old.size → (1 ≤ m) × (m ≤ length piece)
      ends_within m e = (omega (arith, e, ends.0, seen.size), omega (arith, e, ends.1, seen.size))

      pub ends_exactly : (m : ℕ) → m ≡ n - old.size → (step : Step) → (steps.Unit m ≡ step) ↔ FirstIs old.limit (bytes ++ piece) (behind (length bytes) step)
      ends_exactly m e step =
          let same : n ≡ length bytes + m = omega (arith, e, ends.0, seen.size) in
          laws.counted old.limit bytes piece (steps.Unit m) (subst (λ k. FirstIs old.limit (bytes ++ piece) (steps.Unit k)) same (first (steps.Unit n) h)) step

      pub framed_ends : (m : ℕ) → m ≡ n - old.size → (k : ℕ) → (steps.Unit m ≡ steps.Unit k) ↔ BeginsFrame records old.limit (length bytes + k) (bytes ++ piece)
      framed_ends m e = framed (steps.Unit m) (ends_exactly m e)
