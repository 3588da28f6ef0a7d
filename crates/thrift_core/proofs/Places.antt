-- Where a scan stands behind one piece more, and one step on.
use Rattle.std.proofs.Common.{◌≡◌, ◌≤◌, ◌<◌, ◌+◌, ◌-◌, ◌++◌, ◌∷◌, ℕ, suc, None, List, [], length, take, drop, Ok, Err, refl, ap, sym, ◌∙◌, subst, append_assoc, arith}
use Rattle.std.proofs.lemmas.List.{length-append, length-take, take-append-drop}
use Rattle.span_io.specs.declared.cause.Cause.TheVariants as causes
use Rattle.thrift_core.specs.declared.stack.Level.{Level}
use Rattle.thrift_core.specs.declared.stack.Level.TheVariants as levels
use Rattle.thrift_core.specs.declared.type_code.TypeCode.{TypeCode}
use Rattle.thrift_core.specs.Parts.{Part, WordOf, Spelling, Begins}
use Rattle.thrift_core.specs.Places.{open_level, levels_on, stack_of, StackLacks, Place, at_part}
use Rattle.thrift_core.specs.Protocols.{UnfinishedWithin, most_unfinished}
use Rattle.thrift_core.specs.Reading.{ReadingOf}
use Rattle.thrift_core.specs.Trees.{outer_levels}
use Rattle.thrift_core.specs.Walks.{Open, in_value, in_elements, in_pairs, in_bytes, a_part, some_bytes, made_of, first_of, Turn, Passes}
use Rattle.thrift_core.proofs.Determined.{passes_more, passes_on, one_turn}
use Rattle.thrift_core.proofs.Stacks.{entered}
use Rattle.thrift_core.proofs.WalkSteps.{part_read}

module _ (Spells : Spelling) where
  -- All of the piece belongs to the binary, which lacks more.
  pub binary_goes_on : (before : List Open) (whole piece : List ℕ) (many : ℕ) (after : List Open) → length piece < many → StackLacks Spells before whole many after
      → StackLacks Spells before (whole ++ piece) (many - length piece) after
  binary_goes_on before whole piece many after less h = record {
    held = h.held;
    rest = h.rest ++ piece;
    passes = passes_more Spells before whole (in_bytes h.held ∷ after) h.rest piece h.passes;
    missing = omega (arith, h.missing, length-append h.rest piece, less);
    some = omega (arith, less);
  }

  -- The binary ends in the piece.
  pub binary_ends : (before : List Open) (whole piece : List ℕ) (many : ℕ) (after : List Open) → many ≤ length piece → StackLacks Spells before whole many after
      → Passes Spells before (whole ++ piece) after (drop many piece)
  binary_ends before whole piece many after enough h =
      let taken : Turn Spells (some_bytes h.held) (h.rest ++ piece) [] (drop many piece) = (
        h.rest ++ take many piece,
        ap (λ l. h.rest ++ l) (sym (take-append-drop many piece)) ∙ sym (append_assoc h.rest (take many piece) (drop many piece)),
        omega (arith, length-append h.rest (take many piece), length-take many piece, h.missing, enough),
        refl,
      ) in
      passes_on Spells before (whole ++ piece) (in_bytes h.held ∷ after) (h.rest ++ piece) after (drop many piece)
      (passes_more Spells before whole (in_bytes h.held ∷ after) h.rest piece h.passes)
      (one_turn Spells (in_bytes h.held) after (h.rest ++ piece) [] (drop many piece) taken)

  -- A part that isn't whole yet is kept.
  pub part_kept : (reads : ReadingOf) → UnfinishedWithin most_unfinished reads → (start : Open) (whole : List ℕ) (top : Level) (below : List Level) (part : Part) (rest : List ℕ)
      → Passes Spells (start ∷ []) whole (stack_of top below) rest → reads part rest ≡ Err causes.Truncated → Place Spells start whole top below rest 0
  part_kept reads few start whole top below part rest h e = at_part refl h (few part rest e)

-- ---- one step

module _ (Spells : Spelling) (start : Open) (whole : List ℕ) where
  -- A part was read: what its word opens comes first.
  pub read_on : (reads : ReadingOf) → ((part : Part) (word : WordOf part) (bytes rest : List ℕ) → reads part bytes ≡ Ok (word, rest) → Begins Spells part word bytes rest)
      → (top : Open) (under : List Open) (between rest : List ℕ) (part : Part) (opens : WordOf part → List Open) (word : WordOf part) → first_of top ≡ a_part part opens
      → reads part between ≡ Ok (word, rest) → Passes Spells (start ∷ []) whole (top ∷ under) between → Passes Spells (start ∷ []) whole (opens word ++ under) rest
  read_on reads found top under between rest part opens word first e h =
      passes_on Spells (start ∷ []) whole (top ∷ under) between (opens word ++ under) rest h (part_read Spells reads found top under between rest part opens word first e)

  -- What is made of others is they.
  pub made_on : (top : Open) (under opened : List Open) (rest : List ℕ) → first_of top ≡ made_of opened → Passes Spells (start ∷ []) whole (top ∷ under) rest
      → Passes Spells (start ∷ []) whole (opened ++ under) rest
  made_on top under opened rest first h =
      passes_on Spells (start ∷ []) whole (top ∷ under) rest (opened ++ under) rest h
      (one_turn Spells top under rest opened rest (subst (λ f. Turn Spells f rest opened rest) (sym first) (refl, refl)))

  -- A container is entered behind what the outer one has still to come, and left again.
  pub enters : (left : ℕ) (top outer : Level) (below : List Level) (rest : List ℕ) → left ≡ outer_levels - (length below + 1)
      → Passes Spells (start ∷ []) whole (open_level left top ++ stack_of outer below) rest → Passes Spells (start ∷ []) whole (stack_of top (below ++ outer ∷ [])) rest
  enters left top outer below rest e h =
      subst (λ s. Passes Spells (start ∷ []) whole s rest) (ap (λ n. open_level n top ++ stack_of outer below) e ∙ sym (entered top outer below)) h

  pub leaves : (top outer : Level) (below : List Level) (rest : List ℕ) → Passes Spells (start ∷ []) whole (stack_of top (below ++ outer ∷ [])) rest
      → Passes Spells (start ∷ []) whole (open_level (outer_levels - (length below + 1)) top ++ stack_of outer below) rest
  leaves top outer below rest h = subst (λ s. Passes Spells (start ∷ []) whole s rest) (entered top outer below) h

  -- An element, or a pair, comes first.
  pub element_first : (kind : TypeCode) (many : ℕ) (below : List Level) (rest : List ℕ) → Passes Spells (start ∷ []) whole (stack_of (levels.Elements kind (suc many)) below) rest
      → Passes Spells (start ∷ []) whole (in_value (outer_levels - length below) kind None ∷ stack_of (levels.Elements kind many) below) rest
  element_first kind many below rest h =
      let left = outer_levels - length below in
      made_on (in_elements left kind (suc many)) (levels_on outer_levels below []) (in_value left kind None ∷ in_elements left kind many ∷ []) rest refl h

  pub pair_first : (key value : TypeCode) (many : ℕ) (below : List Level) (rest : List ℕ) → Passes Spells (start ∷ []) whole (stack_of (levels.Pairs key value (suc many)) below) rest
      → Passes Spells (start ∷ []) whole (in_value (outer_levels - length below) key None ∷ stack_of (levels.PairValue key value many) below) rest
  pair_first key value many below rest h =
      let left = outer_levels - length below in
      made_on (in_pairs left key value (suc many)) (levels_on outer_levels below []) (in_value left key None ∷ in_value left value None ∷ in_pairs left key value many ∷ []) rest refl h
