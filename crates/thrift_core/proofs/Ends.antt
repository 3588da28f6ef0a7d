-- Each walk ends: the text begins whole, or the walk halts, and it says where.
use Rattle.std.proofs.Common.{◌≡◌, ◌≤◌, ◌<◌, ◌+◌, ◌*◌, ◌-◌, ◌++◌, ◌∷◌, ◌⊎◌, inl, inr, ℕ, zero, suc, Bool, List, [], length, take, drop, Option, Result, Ok, Err, refl, ap, sym, subst, arith}
use Rattle.std.proofs.lemmas.Bool.Decides.{leb_tells}
use Rattle.std.proofs.lemmas.List.{length-append, length-take, take-append-drop}
use Rattle.span_io.proofs.Cuts.{some_length}
use Rattle.span_io.specs.declared.cause.Cause.{Cause}
use Rattle.span_io.specs.declared.cause.Cause.TheVariants as causes
use Rattle.thrift_core.specs.declared.type_code.TypeCode.{TypeCode}
use Rattle.thrift_core.specs.declared.type_code.TypeCode.TheVariants as kinds
use Rattle.thrift_core.specs.Parts.{Part, header, truth, byte, short, int, long, eight, size, list_head, map_head, WordOf, Spelling, Begins}
use Rattle.thrift_core.specs.Reading.{ReadingOf}
use Rattle.thrift_core.specs.Protocols.{ReadsExactly, PartLaws, HasBytes}
use Rattle.thrift_core.specs.Walks.{Open, in_struct, in_value, in_elements, in_pairs, in_bytes, First, a_part, some_bytes, made_of, no_level, first_of, Turn, Passes}
use Rattle.thrift_core.specs.Stops.{StopsBy, StopsFor, Lacks}
use Rattle.thrift_core.proofs.Determined.{no_turns, one_turn, passes_on}

-- ---- the next turn

data NextBy (Spells : Spelling) (reads : ReadingOf) (first : First) (text : List ℕ) : Type 0 where
  goes : (opened : List Open) (rest : List ℕ) → Turn Spells first text opened rest → NextBy Spells reads first text
  stops : (cause : Cause) → StopsBy reads first text cause → NextBy Spells reads first text
  lacks : (held many : ℕ) → first ≡ some_bytes held → held ≡ length text + many → 1 ≤ many → NextBy Spells reads first text

-- only a binary's bytes come first as bytes
bytes_open : (top : Open) (held : ℕ) → first_of top ≡ some_bytes held → top ≡ in_bytes held
bytes_open (in_struct left last) held e = cc
bytes_open (in_value left kinds.Truth h) held e = cc
bytes_open (in_value left kinds.I8 h) held e = cc
bytes_open (in_value left kinds.I16 h) held e = cc
bytes_open (in_value left kinds.I32 h) held e = cc
bytes_open (in_value left kinds.I64 h) held e = cc
bytes_open (in_value left kinds.Eight h) held e = cc
bytes_open (in_value left kinds.Binary h) held e = cc
bytes_open (in_value zero kinds.Struct h) held e = cc
bytes_open (in_value zero kinds.Map h) held e = cc
bytes_open (in_value zero kinds.Set h) held e = cc
bytes_open (in_value zero kinds.List h) held e = cc
bytes_open (in_value (suc left) kinds.Struct h) held e = cc
bytes_open (in_value (suc left) kinds.Map h) held e = cc
bytes_open (in_value (suc left) kinds.Set h) held e = cc
bytes_open (in_value (suc left) kinds.List h) held e = cc
bytes_open (in_elements left kind zero) held e = cc
bytes_open (in_elements left kind (suc many)) held e = cc
bytes_open (in_pairs left key value zero) held e = cc
bytes_open (in_pairs left key value (suc many)) held e = cc
bytes_open (in_bytes many) held e = cc

-- ---- a measure: bytes that are left, and then what is open

weight : Open → ℕ
weight (in_struct left last) = 1
weight (in_value left kind held) = 2
weight (in_elements left kind many) = 1 + 3 * many
weight (in_pairs left key value many) = 1 + 5 * many
weight (in_bytes many) = 1

unfoldable weights : List Open → ℕ
weights [] = 0
weights (top ∷ below) = weight top + weights below

weights_append : (a b : List Open) → weights (a ++ b) ≡ weights a + weights b
unfolding weights
weights_append [] b = omega arith
weights_append (top ∷ a) b = omega (arith, weights_append a b)

abbrev Fewer : Open → List ℕ → List Open → List ℕ → Type 0
Fewer top text opened rest = (length rest < length text) ⊎ ((length rest ≤ length text) × (weights opened < weight top))

module _ (Spells : Spelling) (ThenVarint : Part → List ℕ → Type 0) (Refuses : Part → Cause → List ℕ → Type 0) (L : PartLaws Spells ThenVarint Refuses) where
  part_fewer : (top : Open) (part : Part) → HasBytes part → (word : WordOf part) (text rest : List ℕ) (opened : List Open) → Begins Spells part word text rest → Fewer top text opened rest
  part_fewer top part some word text rest opened h = inl (omega (arith, ap length h.parts, length-append h.text rest, some_length h.text (L.some part word h.text some h.spelled)))

  truth_fewer : (top : Open) (held : Option Bool) (word : Bool) (text rest : List ℕ) → 1 ≤ weight top → Begins Spells (truth held) word text rest → Fewer top text [] rest
  unfolding weights
  truth_fewer top held word text rest some h = inr (omega (arith, ap length h.parts, length-append h.text rest), some)

  value_fewer : (left : ℕ) (kind : TypeCode) (held : Option Bool) (text : List ℕ) (opened : List Open) (rest : List ℕ) → Turn Spells (first_of (in_value left kind held)) text opened rest → Fewer (in_value left kind held) text opened rest
  unfolding weight weights
  value_fewer left kinds.Truth held text opened rest h = subst (λ s. Fewer (in_value left kinds.Truth held) text s rest) (sym h.2) (truth_fewer (in_value left kinds.Truth held) held h.0 text rest (omega arith) h.1)
  value_fewer left kinds.I8 held text opened rest h = part_fewer (in_value left kinds.I8 held) byte tt h.0 text rest opened h.1
  value_fewer left kinds.I16 held text opened rest h = part_fewer (in_value left kinds.I16 held) short tt h.0 text rest opened h.1
  value_fewer left kinds.I32 held text opened rest h = part_fewer (in_value left kinds.I32 held) int tt h.0 text rest opened h.1
  value_fewer left kinds.I64 held text opened rest h = part_fewer (in_value left kinds.I64 held) long tt h.0 text rest opened h.1
  value_fewer left kinds.Eight held text opened rest h = part_fewer (in_value left kinds.Eight held) eight tt h.0 text rest opened h.1
  value_fewer left kinds.Binary held text opened rest h = part_fewer (in_value left kinds.Binary held) size tt h.0 text rest opened h.1
  value_fewer (suc left) kinds.Struct held text opened rest h =
      inr (omega (arith, ap length h.1), subst (λ s. weights s < 2) (sym h.0) (omega arith))
  value_fewer (suc left) kinds.Map held text opened rest h = part_fewer (in_value (suc left) kinds.Map held) (map_head left) tt h.0 text rest opened h.1
  value_fewer (suc left) kinds.Set held text opened rest h = part_fewer (in_value (suc left) kinds.Set held) (list_head left) tt h.0 text rest opened h.1
  value_fewer (suc left) kinds.List held text opened rest h = part_fewer (in_value (suc left) kinds.List held) (list_head left) tt h.0 text rest opened h.1
  value_fewer zero kinds.Struct held text opened rest h = absurd h
  value_fewer zero kinds.Map held text opened rest h = absurd h
  value_fewer zero kinds.Set held text opened rest h = absurd h
  value_fewer zero kinds.List held text opened rest h = absurd h

  turn_fewer : (top : Open) (text : List ℕ) (opened : List Open) (rest : List ℕ) → Turn Spells (first_of top) text opened rest → Fewer top text opened rest
  unfolding weight weights
  turn_fewer (in_struct left last) text opened rest h = part_fewer (in_struct left last) (header left last) tt h.0 text rest opened h.1
  turn_fewer (in_value left kind held) text opened rest h = value_fewer left kind held text opened rest h
  turn_fewer (in_elements left kind zero) text opened rest h = inr (omega (arith, ap length h.1), subst (λ s. weights s < 1 + 3 * zero) (sym h.0) (omega arith))
  turn_fewer (in_elements left kind (suc many)) text opened rest h = inr (omega (arith, ap length h.1), subst (λ s. weights s < 1 + 3 * suc many) (sym h.0) (omega arith))
  turn_fewer (in_pairs left key value zero) text opened rest h = inr (omega (arith, ap length h.1), subst (λ s. weights s < 1 + 5 * zero) (sym h.0) (omega arith))
  turn_fewer (in_pairs left key value (suc many)) text opened rest h = inr (omega (arith, ap length h.1), subst (λ s. weights s < 1 + 5 * suc many) (sym h.0) (omega arith))
  turn_fewer (in_bytes many) text opened rest h = inr (omega (arith, ap length h.1, length-append h.0 rest), subst (λ s. weights s < 1) (sym h.3) (omega arith))

-- ---- where a walk comes to

-- where the walk over what is open comes to
pub data Comes (Spells : Spelling) (reads : ReadingOf) (stack : List Open) (text : List ℕ) : Type 0 where
  ends : (rest : List ℕ) → Passes Spells stack text [] rest → Comes Spells reads stack text
  stops_at : (top : Open) (below : List Open) (rest : List ℕ) (cause : Cause) → Passes Spells stack text (top ∷ below) rest → StopsBy reads (first_of top) rest cause → Comes Spells reads stack text
  lacks_at : (held many : ℕ) (below : List Open) (rest : List ℕ) → Passes Spells stack text (in_bytes held ∷ below) rest → held ≡ length rest + many → 1 ≤ many → Comes Spells reads stack text

comes_on : (Spells : Spelling) (reads : ReadingOf) (a b : List Open) (text rest : List ℕ) → Passes Spells a text b rest → Comes Spells reads b rest → Comes Spells reads a text
comes_on Spells reads a b text rest h (ends left w) = ends left (passes_on Spells a text b rest [] left h w)
comes_on Spells reads a b text rest h (stops_at top below left cause w s) = stops_at top below left cause (passes_on Spells a text b rest (top ∷ below) left h w) s
comes_on Spells reads a b text rest h (lacks_at held many below left w e some) = lacks_at held many below left (passes_on Spells a text b rest (in_bytes held ∷ below) left h w) e some

module _ (Spells : Spelling) (reads : ReadingOf) (ThenVarint : Part → List ℕ → Type 0) (Refuses : Part → Cause → List ℕ → Type 0) (R : ReadsExactly Spells reads ThenVarint Refuses) (L : PartLaws Spells ThenVarint Refuses) where
  next_part : (part : Part) (opens : WordOf part → List Open) (text : List ℕ) (r : Result (WordOf part × List ℕ) Cause) → reads part text ≡ r → NextBy Spells reads (a_part part opens) text
  next_part part opens text (Ok (word, rest)) e = goes (opens word) rest (word, R.found part word text rest e, refl)
  next_part part opens text (Err cause) e = stops cause e

  next : (first : First) (text : List ℕ) → NextBy Spells reads first text
  next (a_part part opens) text = next_part part opens text (reads part text) refl
  next (some_bytes held) text = elim (leb_tells held (length text)) as (λ x. NextBy Spells reads (some_bytes held) text) [
    | inl there ↦ goes [] (drop held text) (take held text, sym (take-append-drop held text), omega (arith, length-take held text, there.1), refl)
    | inr more ↦ lacks held (held - length text) refl (omega (arith, more.1)) (omega (arith, more.1))
  ]
  next (made_of opens) text = goes opens text (refl, refl)
  next no_level text = stops causes.TooDeep refl

  -- one turn, and then what is known of fewer bytes, or of as many and less that is open
  comes_by : (top : Open) (below : List Open) (text : List ℕ) → ((opened : List Open) (rest : List ℕ) → Fewer top text opened rest → Comes Spells reads (opened ++ below) rest) → NextBy Spells reads (first_of top) text → Comes Spells reads (top ∷ below) text
  comes_by top below text more (goes opened rest h) = comes_on Spells reads (top ∷ below) (opened ++ below) text rest (one_turn Spells top below text opened rest h) (more opened rest (turn_fewer Spells ThenVarint Refuses L top text opened rest h))
  comes_by top below text more (stops cause h) = stops_at top below text cause (no_turns Spells (top ∷ below) text) h
  comes_by top below text more (lacks held many first e some) =
      let is : top ≡ in_bytes held = bytes_open top held first in
      lacks_at held many below text (subst (λ t. Passes Spells (top ∷ below) text (t ∷ below) text) is (no_turns Spells (top ∷ below) text)) e some

  comes_with : (bytes : ℕ) → ((stack : List Open) (text : List ℕ) → length text < bytes → Comes Spells reads stack text) → (most : ℕ) (stack : List Open) (text : List ℕ) → length text ≤ bytes → weights stack ≤ most → Comes Spells reads stack text
  unfolding weights
  comes_with bytes before most [] text within light = ends text (no_turns Spells [] text)
  comes_with bytes before zero (top ∷ below) text within light = comes_by top below text
      (λ opened rest f. elim f [
        | inl less ↦ before (opened ++ below) rest (omega (arith, less, within))
        | inr w ↦ absurd (omega (arith, light, w.1))
      ])
      (next (first_of top) text)
  comes_with bytes before (suc most) (top ∷ below) text within light = comes_by top below text
      (λ opened rest f. elim f [
        | inl less ↦ before (opened ++ below) rest (omega (arith, less, within))
        | inr w ↦ comes_with bytes before most (opened ++ below) rest (omega (arith, w.0, within)) (omega (arith, light, w.1, weights_append opened below))
      ])
      (next (first_of top) text)

  comes_within : (bytes : ℕ) (stack : List Open) (text : List ℕ) → length text ≤ bytes → Comes Spells reads stack text
  comes_within zero stack text within = comes_with zero (λ s t less. absurd (omega (arith, less))) (weights stack) stack text within (omega arith)
  comes_within (suc bytes) stack text within = comes_with (suc bytes) (λ s t less. comes_within bytes s t (omega (arith, less))) (weights stack) stack text within (omega arith)

  -- each walk ends
  pub comes : (stack : List Open) (text : List ℕ) → Comes Spells reads stack text
  comes stack text = comes_within (length text) stack text (omega arith)

-- what a text from a start is: it begins whole, or the walk stops, or it lacks bytes
pub data Fate (Spells : Spelling) (reads : ReadingOf) (start : Open) (text : List ℕ) : Type 0 where
  begins_whole : (rest : List ℕ) → Passes Spells (start ∷ []) text [] rest → Fate Spells reads start text
  stops_for : (cause : Cause) → StopsFor Spells reads start text cause → Fate Spells reads start text
  lacks_some : (many : ℕ) → Lacks Spells start text many → Fate Spells reads start text

module _ (Spells : Spelling) (reads : ReadingOf) (ThenVarint : Part → List ℕ → Type 0) (Refuses : Part → Cause → List ℕ → Type 0) (R : ReadsExactly Spells reads ThenVarint Refuses) (L : PartLaws Spells ThenVarint Refuses) where
  pub fate : (start : Open) (text : List ℕ) → Fate Spells reads start text
  fate start text = of_comes (comes Spells reads ThenVarint Refuses R L (start ∷ []) text)
    where
      of_comes : Comes Spells reads (start ∷ []) text → Fate Spells reads start text
      of_comes (ends rest h) = begins_whole rest h
      of_comes (stops_at top below rest cause h s) = stops_for cause (record { top = top; below = below; rest = rest; passes = h; stops = s })
      of_comes (lacks_at held many below rest h e some) = lacks_some many (record { held = held; below = below; rest = rest; passes = h; missing = e; some = some })
