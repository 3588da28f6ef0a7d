-- The steps of passing over a value: what a walk comes to behind each, and what is answered where one halts.
use Rattle.std.proofs.Common.{◌≡◌, ◌≢◌, ◌+◌, ◌-◌, ◌≤◌, ◌<◌, ◌++◌, ◌∷◌, ℕ, ℤ, zero, suc, Bool, Option, Some, None, List, [], length, take, drop, Result, Ok, Err, refl, ap, sym, ◌∙◌, subst, arith}
use Rattle.std.proofs.lemmas.List.{length-append, length-take, take-append-drop}
use Rattle.std.specs.Result.{IsErrAnd}
use Rattle.std.proofs.lemmas.Result.{err_from_is_err_and}
use Rattle.span_io.proofs.Cuts.{some_length}
use Rattle.span_io.specs.Walks.{Walk}
use Rattle.span_io.specs.declared.cause.Cause.{Cause}
use Rattle.span_io.specs.declared.cause.Cause.TheVariants as causes
use Rattle.thrift_core.specs.declared.type_code.TypeCode.{TypeCode}
use Rattle.thrift_core.specs.declared.field.Field.{Field}
use Rattle.thrift_core.specs.declared.field.ListHead.{ListHead}
use Rattle.thrift_core.specs.declared.field.MapHead.{MapHead}
use Rattle.thrift_core.specs.declared.passing.Halted.{Halted}
use Rattle.thrift_core.specs.declared.passing.Halted.TheVariants as halts
use Rattle.thrift_core.specs.Parts.{Part, header, list_head, map_head, WordOf, Spelling, Begins}
use Rattle.thrift_core.specs.Reading.{ReadingOf, Stays}
use Rattle.thrift_core.specs.Walks.{Open, opened_by_header, opened_elements, opened_pairs, first_of_list, first_of_map, in_struct, in_value, in_elements, in_pairs, in_bytes, First, a_part, some_bytes, made_of, no_level, first_of, Turn, Turns, Passes}
use Rattle.thrift_core.specs.Stops.{StopsBy}
use Rattle.thrift_core.specs.private.Halting.{HaltsAs, Passed}
use Rattle.thrift_core.proofs.Determined.{no_turns, one_turn, passes_on, passes_above}

-- a cursor walked from what is open here to what is open there
pub record Within (Spells : Spelling) (start top : Open) (old new : Walk) : Type 0 where
  pub passes : Passes Spells (start ∷ []) old.rest (top ∷ []) new.rest
  pub stays : Stays old new

module _ (Spells : Spelling) where
  -- The bytes of a binary that are there were taken.
  pub bytes_passed : (start : Open) (whole between rest : List ℕ) (many : ℕ) → Passes Spells (start ∷ []) whole (in_bytes many ∷ []) between → (length between < many → ⊥)
      → rest ≡ drop many between → Passes Spells (start ∷ []) whole [] rest
  bytes_passed start whole between rest many h enough e =
      let taken : Turn Spells (some_bytes many) between [] rest = (
        take many between,
        sym (take-append-drop many between) ∙ ap (λ l. take many between ++ l) (sym e),
        omega (arith, length-take many between, enough),
        refl,
      ) in
      passes_on Spells (start ∷ []) whole (in_bytes many ∷ []) between [] rest h (one_turn Spells (in_bytes many) [] between [] rest taken)

  -- ---- elements and pairs, one by one

  pub element_opened : (start : Open) (left many i : ℕ) (kind : TypeCode) (whole between : List ℕ) → i < many → Passes Spells (start ∷ []) whole (in_elements left kind (many - i) ∷ []) between
      → Passes Spells (start ∷ []) whole (in_value left kind None ∷ in_elements left kind (many - (i + 1)) ∷ []) between
  element_opened start left many i kind whole between more h =
      let opened = in_value left kind None ∷ in_elements left kind (many - (i + 1)) ∷ [] in
      let e : many - i ≡ suc (many - (i + 1)) = omega (arith, more) in
      passes_on Spells (start ∷ []) whole (in_elements left kind (many - i) ∷ []) between opened between h
      (one_turn Spells (in_elements left kind (many - i)) [] between opened between (subst (λ n. Turn Spells (first_of (in_elements left kind n)) between opened between) (sym e) (refl, refl)))

  pub no_element_left : (start : Open) (left n : ℕ) (kind : TypeCode) (whole between : List ℕ) → n ≡ 0 → Passes Spells (start ∷ []) whole (in_elements left kind n ∷ []) between
      → Passes Spells (start ∷ []) whole [] between
  no_element_left start left n kind whole between e h =
      passes_on Spells (start ∷ []) whole (in_elements left kind n ∷ []) between [] between h
      (one_turn Spells (in_elements left kind n) [] between [] between (subst (λ n. Turn Spells (first_of (in_elements left kind n)) between [] between) (sym e) (refl, refl)))

  pub pair_opened : (start : Open) (left many i : ℕ) (key value : TypeCode) (whole between : List ℕ) → i < many → Passes Spells (start ∷ []) whole (in_pairs left key value (many - i) ∷ []) between
      → Passes Spells (start ∷ []) whole (in_value left key None ∷ in_value left value None ∷ in_pairs left key value (many - (i + 1)) ∷ []) between
  pair_opened start left many i key value whole between more h =
      let opened = in_value left key None ∷ in_value left value None ∷ in_pairs left key value (many - (i + 1)) ∷ [] in
      let e : many - i ≡ suc (many - (i + 1)) = omega (arith, more) in
      passes_on Spells (start ∷ []) whole (in_pairs left key value (many - i) ∷ []) between opened between h
      (one_turn Spells (in_pairs left key value (many - i)) [] between opened between (subst (λ n. Turn Spells (first_of (in_pairs left key value n)) between opened between) (sym e) (refl, refl)))

  pub no_pair_left : (start : Open) (left n : ℕ) (key value : TypeCode) (whole between : List ℕ) → n ≡ 0 → Passes Spells (start ∷ []) whole (in_pairs left key value n ∷ []) between
      → Passes Spells (start ∷ []) whole [] between
  no_pair_left start left n key value whole between e h =
      passes_on Spells (start ∷ []) whole (in_pairs left key value n ∷ []) between [] between h
      (one_turn Spells (in_pairs left key value n) [] between [] between (subst (λ n. Turn Spells (first_of (in_pairs left key value n)) between [] between) (sym e) (refl, refl)))

  -- ---- a walk goes onward

  turn_onward : (first : First) (whole rest : List ℕ) (opened : List Open) → Turn Spells first whole opened rest → length rest ≤ length whole
  turn_onward (a_part part opens) whole rest opened h = omega (arith, ap length h.1.parts, length-append h.1.text rest)
  turn_onward (some_bytes many) whole rest opened h = omega (arith, ap length h.1, length-append h.0 rest)
  turn_onward (made_of opens) whole rest opened h = omega (arith, ap length h.1)
  turn_onward no_level whole rest opened h = absurd h

  turns_onward : (n : ℕ) (a b : List Open) (x y : List ℕ) → Turns Spells n a x b y → length y ≤ length x
  unfolding Turns
  turns_onward zero a b x y h = omega (arith, ap length h.1)
  turns_onward (suc n) [] b x y h = absurd h
  turns_onward (suc n) (top ∷ below) b x y h = omega (arith, turn_onward (first_of top) x h.1 h.0 h.2, turns_onward n (h.0 ++ below) b h.1 y h.3)

  pub onward : (a b : List Open) (x y : List ℕ) → Passes Spells a x b y → length y ≤ length x
  onward a b x y h = turns_onward h.count a b x y h.turns

-- ---- what a value begins with

pub value_first : (left : ℕ) (kind other : TypeCode) (held : Option Bool) → kind ≡ other → first_of (in_value left kind held) ≡ first_of (in_value left other held)
value_first left kind other held e = ap (λ k. first_of (in_value left k held)) e

pub value_below : (left below : ℕ) (kind other : TypeCode) (held : Option Bool) → left ≡ below + 1 → kind ≡ other
    → first_of (in_value left kind held) ≡ first_of (in_value (suc below) other held)
value_below left below kind other held deeper e =
    let more : left ≡ suc below = omega (arith, deeper) in
    ap (λ n. first_of (in_value n kind held)) more ∙ value_first (suc below) kind other held e

pub value_without_level : (left : ℕ) (kind other : TypeCode) (held : Option Bool) → left ≡ 0 → kind ≡ other → first_of (in_value zero other held) ≡ no_level
    → first_of (in_value left kind held) ≡ no_level
value_without_level left kind other held none e first = ap (λ n. first_of (in_value n kind held)) none ∙ value_first zero kind other held e ∙ first

-- ---- what is answered

module _ (Spells : Spelling) (reads : ReadingOf) where
  halted_over : (start top : Open) (below : List Open) (whole between : List ℕ) (halted : Halted) → Passes Spells (start ∷ []) whole (top ∷ below) between
      → HaltsAs Spells reads top between halted → HaltsAs Spells reads start whole halted
  halted_over start top below whole between (halts.For cause) h g = record {
    top = g.top;
    below = g.below ++ below;
    rest = g.rest;
    passes = passes_on Spells (start ∷ []) whole (top ∷ below) between (g.top ∷ (g.below ++ below)) g.rest h (passes_above Spells (top ∷ []) between (g.top ∷ g.below) g.rest below g.passes);
    stops = g.stops;
  }
  halted_over start top below whole between (halts.Lacking many) h g = record {
    held = g.held;
    below = g.below ++ below;
    rest = g.rest;
    passes = passes_on Spells (start ∷ []) whole (top ∷ below) between (in_bytes g.held ∷ (g.below ++ below)) g.rest h (passes_above Spells (top ∷ []) between (in_bytes g.held ∷ g.below) g.rest below g.passes);
    missing = g.missing;
    some = g.some;
  }

  -- What comes last of it was passed over, or halted.
  pub passed_last : (start top : Open) (whole between rest : List ℕ) (result : Result Unit Halted) → Passes Spells (start ∷ []) whole (top ∷ []) between
      → Passed Spells reads top result between rest → Passed Spells reads start result whole rest
  passed_last start top whole between rest (Ok x) h g = passes_on Spells (start ∷ []) whole (top ∷ []) between [] rest h g
  passed_last start top whole between rest (Err halted) h g = halted_over start top [] whole between halted h g

  -- Something in it halted.
  pub halted_in : (start top : Open) (below : List Open) (whole between rest : List ℕ) (halted : Halted) (result : Result Unit Halted)
      → Passes Spells (start ∷ []) whole (top ∷ below) between → HaltsAs Spells reads top between halted → IsErrAnd result (λ e. e ≡ halted) → Passed Spells reads start result whole rest
  halted_in start top below whole between rest halted result h g is =
      let p = err_from_is_err_and result is in
      subst (λ r. Passed Spells reads start r whole rest) (sym (p.1 ∙ ap (λ e. Err e) p.2)) (halted_over start top below whole between halted h g)

  -- Something in it was passed over.
  pub passed_in : (start top : Open) (below : List Open) (whole between rest : List ℕ) → Passes Spells (start ∷ []) whole (top ∷ below) between
      → Passes Spells (top ∷ []) between [] rest → Passes Spells (start ∷ []) whole below rest
  passed_in start top below whole between rest h g = passes_on Spells (start ∷ []) whole (top ∷ below) between below rest h (passes_above Spells (top ∷ []) between [] rest below g)

  -- A part of it is refused.
  pub part_refused : (start top : Open) (below : List Open) (whole between rest : List ℕ) (part : Part) (opens : WordOf part → List Open) (cause : Cause) (result : Result Unit Halted)
      → Passes Spells (start ∷ []) whole (top ∷ below) between → first_of top ≡ a_part part opens → reads part between ≡ Err cause → IsErrAnd result (λ e. e ≡ halts.For cause)
      → Passed Spells reads start result whole rest
  part_refused start top below whole between rest part opens cause result h first e is =
      let halted : HaltsAs Spells reads start whole (halts.For cause) = record {
        top = top;
        below = below;
        rest = between;
        passes = h;
        stops = subst (λ f. StopsBy reads f between cause) (sym first) e;
      } in
      let p = err_from_is_err_and result is in
      subst (λ r. Passed Spells reads start r whole rest) (sym (p.1 ∙ ap (λ e. Err e) p.2)) halted

  -- A container has no level.
  pub level_refused : (start : Open) (whole rest : List ℕ) (cause : Cause) (result : Result Unit Halted) → first_of start ≡ no_level → cause ≡ causes.TooDeep → IsErrAnd result (λ e. e ≡ halts.For cause)
      → Passed Spells reads start result whole rest
  level_refused start whole rest cause result first deep is =
      let halted : HaltsAs Spells reads start whole (halts.For cause) = record {
        top = start;
        below = [];
        rest = whole;
        passes = no_turns Spells (start ∷ []) whole;
        stops = subst (λ f. StopsBy reads f whole cause) (sym first) deep;
      } in
      let p = err_from_is_err_and result is in
      subst (λ r. Passed Spells reads start r whole rest) (sym (p.1 ∙ ap (λ e. Err e) p.2)) halted

  -- It is one thing, which was passed over, or halted.
  pub made_of_one : (start top : Open) (whole rest : List ℕ) (result : Result Unit Halted) → first_of start ≡ made_of (top ∷ []) → Passed Spells reads top result whole rest
      → Passed Spells reads start result whole rest
  made_of_one start top whole rest result first h =
      passed_last start top whole whole rest result (one_turn Spells start [] whole (top ∷ []) whole (subst (λ f. Turn Spells f whole (top ∷ []) whole) (sym first) (refl, refl))) h

  -- A first part of it is refused.
  pub first_refused : (start : Open) (whole rest : List ℕ) (part : Part) (opens : WordOf part → List Open) (cause : Cause) (result : Result Unit Halted)
      → first_of start ≡ a_part part opens → reads part whole ≡ Err cause → IsErrAnd result (λ e. e ≡ halts.For cause) → Passed Spells reads start result whole rest
  first_refused start whole rest part opens cause result first e is = part_refused start start [] whole whole rest part opens cause result (no_turns Spells (start ∷ []) whole) first e is

  module _ (found : (part : Part) (word : WordOf part) (bytes rest : List ℕ) → reads part bytes ≡ Ok (word, rest) → Begins Spells part word bytes rest) where
    -- A part of it was read.
    pub part_read : (top : Open) (below : List Open) (whole rest : List ℕ) (part : Part) (opens : WordOf part → List Open) (word : WordOf part)
        → first_of top ≡ a_part part opens → reads part whole ≡ Ok (word, rest) → Passes Spells (top ∷ below) whole (opens word ++ below) rest
    part_read top below whole rest part opens word first e =
        one_turn Spells top below whole (opens word) rest (subst (λ f. Turn Spells f whole (opens word) rest) (sym first) (word, found part word whole rest e, refl))

    -- A part that has bytes shortens what is left.
    pub part_shortens : (part : Part) (word : WordOf part) (whole rest : List ℕ) → ((text : List ℕ) → Spells part word text → text ≢ []) → reads part whole ≡ Ok (word, rest) → length rest < length whole
    part_shortens part word whole rest some e =
        let h : Begins Spells part word whole rest = found part word whole rest e in
        omega (arith, ap length h.parts, length-append h.text rest, some_length h.text (some h.text h.spelled))

    -- ---- heads

    pub field_read : (start : Open) (left : ℕ) (last : ℤ) (f : Field) (o : Option Field) (whole between rest : List ℕ) → Passes Spells (start ∷ []) whole (in_struct left last ∷ []) between
        → reads (header left last) between ≡ Ok (o, rest) → o ≡ Some f → Passes Spells (start ∷ []) whole (in_value left f.kind f.held ∷ in_struct left f.id ∷ []) rest
    field_read start left last f o whole between rest h e is =
        passes_on Spells (start ∷ []) whole (in_struct left last ∷ []) between (in_value left f.kind f.held ∷ in_struct left f.id ∷ []) rest h
        (part_read (in_struct left last) [] between rest (header left last) (opened_by_header left) (Some f) refl (e ∙ ap (λ x. Ok (x, rest)) is))

    pub stop_read : (start : Open) (left : ℕ) (last : ℤ) (o : Option Field) (whole between rest : List ℕ) → Passes Spells (start ∷ []) whole (in_struct left last ∷ []) between
        → reads (header left last) between ≡ Ok (o, rest) → o ≡ None → Passes Spells (start ∷ []) whole [] rest
    stop_read start left last o whole between rest h e is =
        passes_on Spells (start ∷ []) whole (in_struct left last ∷ []) between [] rest h
        (part_read (in_struct left last) [] between rest (header left last) (opened_by_header left) None refl (e ∙ ap (λ x. Ok (x, rest)) is))

    pub list_read : (start : Open) (left : ℕ) (head : ListHead) (o : Option TypeCode) (whole rest : List ℕ) → first_of start ≡ first_of_list left
        → reads (list_head left) whole ≡ Ok (head, rest) → head.element ≡ o → Passes Spells (start ∷ []) whole (opened_elements left o head.size ++ []) rest
    list_read start left head o whole rest first e is =
        subst (λ k. Passes Spells (start ∷ []) whole (opened_elements left k head.size ++ []) rest) is
        (part_read start [] whole rest (list_head left) (λ head. opened_elements left head.element head.size) head first e)

    pub map_read : (start : Open) (left : ℕ) (head : MapHead) (opened : List Open) (whole rest : List ℕ) → first_of start ≡ first_of_map left
        → reads (map_head left) whole ≡ Ok (head, rest) → opened_pairs left head.key head.value head.size ≡ opened → Passes Spells (start ∷ []) whole (opened ++ []) rest
    map_read start left head opened whole rest first e is =
        subst (λ o. Passes Spells (start ∷ []) whole (o ++ []) rest) is
        (part_read start [] whole rest (map_head left) (λ head. opened_pairs left head.key head.value head.size) head first e)
