-- What a walk over a struct at the front of a stream comes to, as the first step.
use Rattle.std.proofs.Common.{◌≡◌, ◌≢◌, ◌+◌, ◌-◌, ◌≤◌, ◌<◌, ◌∷◌, inl, inr, ℕ, pos, List, [], length, ap, arith}
use Rattle.std.proofs.lemmas.List.{length-append}
use Rattle.span_io.specs.declared.cause.Cause.{Cause}
use Rattle.span_io.specs.declared.cause.Cause.TheVariants as causes
use Rattle.span_io.specs.declared.step.Step.{Step}
use Rattle.span_io.specs.declared.step.Step.TheVariants as steps
use Rattle.span_io.specs.Steps.{StepIs}
use Rattle.span_io.proofs.FramingLaws.{FramingLaws, item_first, refused_first, refused_step, needs_more, too_long_first}
use Rattle.thrift_core.specs.Parts.{Part, Spelling}
use Rattle.thrift_core.specs.Reading.{ReadingOf}
use Rattle.thrift_core.specs.Protocols.{ReadsExactly, PartLaws}
use Rattle.thrift_core.specs.Trees.{outer_levels}
use Rattle.thrift_core.specs.Walks.{Passes, outer_struct}
use Rattle.thrift_core.specs.Stops.{StopsFor, Lacks}
use Rattle.thrift_core.specs.Values.{struct_frames, RefusedStruct}
use Rattle.thrift_core.proofs.TextsFrom.{end_is, truncated_is, stop_is, stop_not_past, never_long, lacks_is, lacks_exactly, struct_laws}

module _ (Spells : Spelling) (reads : ReadingOf) (ThenVarint : Part → List ℕ → Type 0) (Refuses : Part → Cause → List ℕ → Type 0) (R : ReadsExactly Spells reads ThenVarint Refuses) (L : PartLaws Spells ThenVarint Refuses) where
  outer_laws : FramingLaws (struct_frames Spells ThenVarint) (RefusedStruct Spells Refuses)
  outer_laws = struct_laws Spells reads ThenVarint Refuses R L outer_levels (pos 0)

  abbrev FirstIs : ℕ → List ℕ → Step → Type 0
  FirstIs limit bytes step = StepIs (struct_frames Spells ThenVarint) (RefusedStruct Spells Refuses) limit bytes step

  -- ---- the first `limit` bytes

  module _ (limit : ℕ) (piece : List ℕ) (within : length piece ≤ limit) where
    pub passed_first : (n : ℕ) (rest : List ℕ) → n + length rest ≡ length piece → Passes Spells (outer_struct ∷ []) piece [] rest → FirstIs limit piece (steps.Unit n)
    passed_first n rest place h =
        let front = end_is Spells reads ThenVarint Refuses R L outer_struct piece rest h in
        item_first (struct_frames Spells ThenVarint) (RefusedStruct Spells Refuses) outer_laws limit n piece (record {
          text = front.0;
          rest = rest;
          whole = front.1;
          parts = front.2;
          size = omega (arith, place, ap length front.2, length-append front.0 rest);
          within = omega (arith, within, place);
        })

    pub lacks_beyond : (many : ℕ) → Lacks Spells outer_struct piece many → limit - length piece < many → FirstIs limit piece (steps.Refused causes.UnitTooLong)
    lacks_beyond many h beyond =
        too_long_first (struct_frames Spells ThenVarint) (RefusedStruct Spells Refuses) outer_laws limit piece (lacks_is Spells reads ThenVarint Refuses R L outer_struct piece many (inl tt) h) within
        (inr ((lacks_exactly Spells reads ThenVarint Refuses R L outer_struct piece many limit within h).1 (omega (arith, beyond, within))))

    pub lacks_within : (many : ℕ) → Lacks Spells outer_struct piece many → many ≤ limit - length piece → FirstIs limit piece steps.Need
    lacks_within many h few =
        needs_more (struct_frames Spells ThenVarint) (RefusedStruct Spells Refuses) outer_laws limit piece (lacks_is Spells reads ThenVarint Refuses R L outer_struct piece many (inl tt) h) (omega (arith, h.some, few, within))
        (λ past. (let beyond = (lacks_exactly Spells reads ThenVarint Refuses R L outer_struct piece many limit within h).0 past in omega (arith, beyond, few, within)))

    pub truncated_full : StopsFor Spells reads outer_struct piece causes.Truncated → length piece ≡ limit → FirstIs limit piece (steps.Refused causes.UnitTooLong)
    truncated_full h full =
        too_long_first (struct_frames Spells ThenVarint) (RefusedStruct Spells Refuses) outer_laws limit piece (truncated_is Spells reads ThenVarint Refuses R L outer_struct piece (inl tt) h) within (inl full)

    pub truncated_short : StopsFor Spells reads outer_struct piece causes.Truncated → length piece ≢ limit → FirstIs limit piece steps.Need
    truncated_short h part =
        needs_more (struct_frames Spells ThenVarint) (RefusedStruct Spells Refuses) outer_laws limit piece (truncated_is Spells reads ThenVarint Refuses R L outer_struct piece (inl tt) h) (omega (arith, within, part))
        (λ past. stop_not_past Spells reads ThenVarint Refuses R L outer_struct piece causes.Truncated limit within h past)

    pub refused_at : (cause : Cause) → cause ≢ causes.Truncated → StopsFor Spells reads outer_struct piece cause → FirstIs limit piece (steps.Refused cause)
    refused_at cause other h =
        refused_step (struct_frames Spells ThenVarint) (RefusedStruct Spells Refuses) outer_laws limit cause piece (never_long Spells reads ThenVarint Refuses R L outer_struct piece cause h)
        (refused_first (struct_frames Spells ThenVarint) (RefusedStruct Spells Refuses) outer_laws limit (RefusedStruct Spells Refuses cause) piece within (stop_is Spells reads ThenVarint Refuses R L outer_struct piece cause (inl tt) other h))
