-- What a push of a scanner of structs answers, and where the scanner stands behind it.
use Rattle.std.proofs.Common.{◌≡◌, ◌≤◌, ◌<◌, ◌+◌, ◌-◌, ◌↔◌, ◌++◌, ◌∷◌, inl, inr, ℕ, Option, Some, None, List, [], length, min, take, Ok, refl, ap, sym, ◌∙◌, subst, arith}
use Rattle.std.proofs.lemmas.List.{length-append, length-take, take_all, take_min}
use Rattle.std.proofs.Math.Seq.{take-append-add}
use Rattle.span_io.specs.declared.cause.Cause.{Cause}
use Rattle.span_io.specs.declared.cause.Cause.TheVariants as causes
use Rattle.span_io.specs.declared.step.Step.{Step}
use Rattle.span_io.specs.declared.step.Step.TheVariants as steps
use Rattle.span_io.specs.Frames.{BeginsFrame, NeedsMore}
use Rattle.span_io.proofs.FramingLaws.{of_front}
use Rattle.span_io.specs.Pieces.{PieceLaws}
use Rattle.span_io.proofs.PieceSteps.{piece_laws}
use Rattle.span_io.specs.Steps.{behind}
use Rattle.thrift_core.specs.declared.passing.Halted.{Halted}
use Rattle.thrift_core.specs.declared.position.Position.{Position}
use Rattle.thrift_core.specs.Parts.{Part, Spelling}
use Rattle.thrift_core.specs.Positions.{PlaceOf, Seen}
use Rattle.thrift_core.specs.private.Halting.{IsAtStart, Halting, Joined, step_of}
use Rattle.thrift_core.specs.Protocols.{ReadsExactly, PartLaws}
use Rattle.thrift_core.specs.Reading.{ReadingOf}
use Rattle.thrift_core.specs.private.Halting.{HaltsAs, cause_of}
use Rattle.thrift_core.specs.Values.{struct_frames, RefusedStruct, FirstStructIs}
use Rattle.thrift_core.specs.Walks.{outer_struct}
use Rattle.thrift_core.proofs.FirstStruct.{passed_first}
use Rattle.thrift_core.proofs.Stacks.{at_start}
use Rattle.thrift_core.proofs.TextsFrom.{outer_laws}
use Rattle.thrift_core.proofs.WalkSteps.{onward}

-- before the first byte a scanner has seen nothing
pub seen_nothing : (Spells : Spelling) (ThenVarint : Part → List ℕ → Type 0) (limit count : ℕ) (refused : Option Cause) (at : Position) → refused ≡ None → count ≡ 0 → IsAtStart at
    → Seen Spells ThenVarint limit count refused at []
seen_nothing Spells ThenVarint limit count refused at going none start = record {
  going = going;
  size = none;
  within = omega (arith, none);
  place = at_start Spells at.stack.top at.stack.below.items at.carry.items at.missing start.0 start.1.0 start.1.1;
  waits = inl refl;
}

module _ (Spells : Spelling) (reads : ReadingOf) (ThenVarint : Part → List ℕ → Type 0) (Refuses : Part → Cause → List ℕ → Type 0) (R : ReadsExactly Spells reads ThenVarint Refuses) (L : PartLaws Spells ThenVarint Refuses)
    (limit count : ℕ) (refused : Option Cause) (old : Position) (piece : List ℕ) (taken : ℕ) (most : taken ≡ min (length piece) (limit - count)) where
  laws : PieceLaws (struct_frames Spells ThenVarint) (RefusedStruct Spells Refuses)
  laws = piece_laws (struct_frames Spells ThenVarint) (RefusedStruct Spells Refuses) (outer_laws Spells reads ThenVarint Refuses R L)

  abbrev FirstIs : List ℕ → Step → Type 0
  FirstIs bytes step = FirstStructIs Spells ThenVarint Refuses limit bytes step

  module _ (bytes : List ℕ) (seen : Seen Spells ThenVarint limit count refused old bytes) where
    front_is : bytes ++ take taken piece ≡ take limit (bytes ++ piece)
    front_is =
        let room : taken ≡ min (limit - count) (length piece) = omega (arith, most) in
        let all : length bytes + (limit - count) ≡ limit = omega (arith, seen.size, seen.within) in
        ap (λ n. bytes ++ take n piece) room ∙ ap (λ l. bytes ++ l) (take_min (limit - count) piece) ∙ sym (take-append-add bytes piece (limit - count)) ∙ ap (λ n. take n (bytes ++ piece)) all

    pub front_size : length (bytes ++ take taken piece) ≡ count + taken
    front_size = omega (arith, length-append bytes (take taken piece), length-take taken piece, seen.size, most)

    pub front_within : count + taken ≤ limit
    front_within = omega (arith, most, seen.within)

    of_all : (step : Step) → FirstIs (bytes ++ take taken piece) step → FirstIs (bytes ++ piece) step
    of_all step h =
        of_front (struct_frames Spells ThenVarint) (RefusedStruct Spells Refuses) (outer_laws Spells reads ThenVarint Refuses R L) limit (bytes ++ piece) step (subst (λ l. FirstIs l step) front_is h)

    counted : (answer : Step) → FirstIs (bytes ++ piece) (behind (length bytes) answer) → (step : Step) → (answer ≡ step) ↔ FirstIs (bytes ++ piece) (behind (length bytes) step)
    counted answer h step = laws.counted limit bytes piece answer h step

    -- what an exact answer says of frames
    framed : (answer : Step) → FirstIs (bytes ++ piece) (behind (length bytes) answer) → (n : ℕ) → (answer ≡ steps.Unit n) ↔ BeginsFrame (struct_frames Spells ThenVarint) limit (length bytes + n) (bytes ++ piece)
    framed answer h n =
        let is = counted answer h (steps.Unit n) in
        let begins = laws.begins limit (length bytes + n) (bytes ++ piece) in
        (λ e. begins.0 (is.0 e), λ g. is.1 (begins.1 g))

  -- what is answered where the walk halts
  abbrev Told : Halted → Option Cause → Type 0
  Told halted cause = (all : List ℕ) → length all ≡ count + taken → count + taken ≤ limit → HaltsAs Spells reads outer_struct all halted → FirstIs all (step_of cause)

  module _ (halted : Halted) (new : Position) (resumed : (bytes : List ℕ) → PlaceOf Spells bytes old → Halting Spells reads (bytes ++ take taken piece) halted new) where
    halted_first : (cause : Option Cause) → Told halted cause → (bytes : List ℕ) → Seen Spells ThenVarint limit count refused old bytes → FirstIs (bytes ++ piece) (step_of cause)
    halted_first cause told bytes seen = of_all bytes seen (step_of cause) (told (bytes ++ take taken piece) (front_size bytes seen) (front_within bytes seen) (resumed bytes seen.place).0)

    pub refused_exactly : (cause : Cause) → Told halted (Some cause) → (bytes : List ℕ) → Seen Spells ThenVarint limit count refused old bytes → (step : Step)
        → (steps.Refused cause ≡ step) ↔ FirstIs (bytes ++ piece) (behind (length bytes) step)
    refused_exactly cause told bytes seen = counted bytes seen (steps.Refused cause) (halted_first (Some cause) told bytes seen)

    pub refused_framed : (cause : Cause) → Told halted (Some cause) → (bytes : List ℕ) → Seen Spells ThenVarint limit count refused old bytes → (n : ℕ)
        → (steps.Refused cause ≡ steps.Unit n) ↔ BeginsFrame (struct_frames Spells ThenVarint) limit (length bytes + n) (bytes ++ piece)
    refused_framed cause told bytes seen = framed bytes seen (steps.Refused cause) (halted_first (Some cause) told bytes seen)

    pub needs_exactly : Told halted None → (bytes : List ℕ) → Seen Spells ThenVarint limit count refused old bytes → (step : Step) → (steps.Need ≡ step) ↔ FirstIs (bytes ++ piece) (behind (length bytes) step)
    needs_exactly told bytes seen = counted bytes seen steps.Need (halted_first None told bytes seen)

    pub needs_framed : Told halted None → (bytes : List ℕ) → Seen Spells ThenVarint limit count refused old bytes → (n : ℕ)
        → (steps.Need ≡ steps.Unit n) ↔ BeginsFrame (struct_frames Spells ThenVarint) limit (length bytes + n) (bytes ++ piece)
    needs_framed told bytes seen = framed bytes seen steps.Need (halted_first None told bytes seen)

    pub needs_on : Told halted None → cause_of halted ≡ causes.Truncated → (bytes : List ℕ) → Seen Spells ThenVarint limit count refused old bytes
        → Seen Spells ThenVarint limit (count + taken) refused new (bytes ++ piece)
    needs_on told waits bytes seen =
        let needs : NeedsMore (struct_frames Spells ThenVarint) limit (bytes ++ piece) = halted_first None told bytes seen in
        let few : length (bytes ++ piece) < limit = laws.few limit (bytes ++ piece) needs in
        let all : length piece ≤ taken = omega (arith, few, length-append bytes piece, most, seen.size) in
        record {
          going = seen.going;
          size = omega (arith, length-append bytes piece, all, most, seen.size);
          within = front_within bytes seen;
          place = subst (λ l. PlaceOf Spells (bytes ++ l) new) (take_all taken piece all) ((resumed bytes seen.place).1 waits);
          waits = inr needs;
        }

  -- ---- the struct ends

  module _ (n : ℕ) (new : Position) (resumed : (bytes : List ℕ) → PlaceOf Spells bytes old → Joined Spells reads (bytes ++ take taken piece) (length (take taken piece)) (Ok n) new)
      (bytes : List ℕ) (seen : Seen Spells ThenVarint limit count refused old bytes) where
    ended : Joined Spells reads (bytes ++ take taken piece) (length (take taken piece)) (Ok n) new
    ended = resumed bytes seen.place

    abbrev total : ℕ
    total = length (bytes ++ take taken piece) - length ended.0

    total_is : total + length ended.0 ≡ length (bytes ++ take taken piece)
    total_is = omega (arith, onward Spells (outer_struct ∷ []) [] (bytes ++ take taken piece) ended.0 ended.1)

    total_first : FirstIs (bytes ++ piece) (steps.Unit total)
    total_first =
        of_all bytes seen (steps.Unit total)
        (passed_first Spells reads ThenVarint Refuses R L limit (bytes ++ take taken piece) (omega (arith, front_size bytes seen, front_within bytes seen)) total ended.0 total_is ended.1)

    ends_behind : (length bytes < total) × (total ≤ length bytes + length piece)
    ends_behind = laws.ends_behind limit total bytes piece seen.waits ((laws.begins limit total (bytes ++ piece)).0 total_first)

    same_end : total ≡ length bytes + n
    same_end = omega (arith, ends_behind.0, total_is, ended.2, length-append bytes (take taken piece))

    ends_first : FirstIs (bytes ++ piece) (steps.Unit (length bytes + n))
    ends_first = subst (λ k. FirstIs (bytes ++ piece) (steps.Unit k)) same_end total_first

    pub ends_exactly : (step : Step) → (steps.Unit n ≡ step) ↔ FirstIs (bytes ++ piece) (behind (length bytes) step)
    ends_exactly = counted bytes seen (steps.Unit n) ends_first

    pub ends_framed : (m : ℕ) → (steps.Unit n ≡ steps.Unit m) ↔ BeginsFrame (struct_frames Spells ThenVarint) limit (length bytes + m) (bytes ++ piece)
    ends_framed = framed bytes seen (steps.Unit n) ends_first

    pub ends_within : (1 ≤ n) × (n ≤ length piece)
    ends_within = (omega (arith, ends_behind.0, same_end), omega (arith, ends_behind.1, same_end))
