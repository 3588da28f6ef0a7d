-- What the steps of a walk that can be stopped come to.
use Rattle.std.proofs.Common.{◌≡◌, ◌+◌, ◌-◌, ◌*◌, ◌≤◌, ◌<◌, ◌++◌, ◌∷◌, ◌⊎◌, inl, inr, ℕ, ℤ, zero, suc, pos, Bool, true, false, Option, Some, None, List, [], length, take, drop, Result, Ok, Err, refl, ap, sym, ◌∙◌, subst, arith}
use Rattle.std.proofs.lemmas.List.{length-append, length-take, take-append-drop}
use Rattle.std.specs.Result.{IsErrAnd}
use Rattle.std.proofs.lemmas.Result.{err_from_is_err_and}
use Rattle.span_io.proofs.Cuts.{some_length}
use Rattle.span_io.specs.Walks.{Walk}
use Rattle.span_io.specs.declared.cause.Cause.{Cause}
use Rattle.thrift_core.specs.declared.field.Field.{Field}
use Rattle.thrift_core.specs.declared.passing.Halted.{Halted}
use Rattle.thrift_core.specs.declared.passing.Halted.TheVariants as halts
use Rattle.thrift_core.specs.declared.stack.Level.{Level}
use Rattle.thrift_core.specs.declared.stack.Level.TheVariants as levels
use Rattle.thrift_core.specs.declared.stack.Stack.{Stack}
use Rattle.thrift_core.specs.declared.stepping.Coming.TheVariants as comings
use Rattle.thrift_core.specs.declared.type_code.TypeCode.{TypeCode}
use Rattle.thrift_core.specs.declared.type_code.TypeCode.TheVariants as kinds
use Rattle.thrift_core.specs.Parts.{Part, header, truth, byte, short, int, long, eight, WordOf, Spelling, Begins}
use Rattle.thrift_core.specs.Places.{open_level, around, stack_of}
use Rattle.thrift_core.specs.Protocols.{ReadsExactly, PartLaws, HasBytes}
use Rattle.thrift_core.specs.Reading.{ReadingOf, Stays}
use Rattle.thrift_core.specs.private.StackWalks.{open_of, still_open, levels_in, list_first, map_first, IsLeaf, weight, ComesFirst, steps_left, IsNearer, ValueStepped, HaltsThere, Stepped, Walked}
use Rattle.thrift_core.specs.Stops.{StopsBy, StopsFor, Lacks}
use Rattle.thrift_core.specs.private.Halting.{HaltsAs}
use Rattle.thrift_core.specs.Trees.{outer_levels}
use Rattle.thrift_core.specs.Walks.{Open, in_struct, in_value, in_elements, in_pairs, in_bytes, a_part, some_bytes, made_of, nothing_more, opened_by_header, first_of, first_of_value, first_of_list, first_of_map, Turn, Turns, Passes}
use Rattle.thrift_core.proofs.Determined.{no_turns, one_turn, passes_on}
use Rattle.thrift_core.proofs.Halts.{stop_once, stop_or_lack, stop_not_whole, lack_not_whole}
use Rattle.thrift_core.proofs.Stacks.{entered}
use Rattle.thrift_core.proofs.WalkSteps.{part_read, onward, value_below}

pub weight_most : (level : Level) → weight level ≤ 2
weight_most (levels.Fields last) = omega arith
weight_most other = omega arith

-- a walk stands further on
pub record Onward (Spells : Spelling) (start : Stack) (begun : Walk) (now : Stack) (c : Walk) : Type 0 where
  pub passes : Passes Spells (open_of start) begun.rest (open_of now) c.rest
  pub stays : Stays begun c

-- ---- what comes first

pub elements_over : (level : Level) (kind : TypeCode) (many : ℕ) → level ≡ levels.Elements kind many → many ≡ 0 → ComesFirst level comings.End
elements_over level kind many e none =
    subst (λ l. ComesFirst l comings.End) (sym (e ∙ ap (λ n. levels.Elements kind n) none)) (refl, λ left. (in_elements left kind 0, refl, refl))

pub pairs_over : (level : Level) (key value : TypeCode) (many : ℕ) → level ≡ levels.Pairs key value many → many ≡ 0 → ComesFirst level comings.End
pairs_over level key value many e none =
    subst (λ l. ComesFirst l comings.End) (sym (e ∙ ap (λ n. levels.Pairs key value n) none)) (refl, λ left. (in_pairs left key value 0, refl, refl))

pub list_level : (left below : ℕ) → left ≡ below + 1 → list_first left ≡ first_of_list below
list_level left below e = (let more : left ≡ suc below = omega (arith, e) in ap (λ n. list_first n) more)

pub map_level : (left below : ℕ) → left ≡ below + 1 → map_first left ≡ first_of_map below
map_level left below e = (let more : left ≡ suc below = omega (arith, e) in ap (λ n. map_first n) more)

leaf_first : (kind : TypeCode) (held : Option Bool) → IsLeaf kind → (left : ℕ) → (part : Part) × (first_of (in_value left kind held) ≡ a_part part nothing_more)
leaf_first kinds.Truth held is left = (truth held, refl)
leaf_first kinds.I8 held is left = (byte, refl)
leaf_first kinds.I16 held is left = (short, refl)
leaf_first kinds.I32 held is left = (int, refl)
leaf_first kinds.I64 held is left = (long, refl)
leaf_first kinds.Eight held is left = (eight, refl)
leaf_first kinds.Binary held is left = absurd is
leaf_first kinds.Struct held is left = absurd is
leaf_first kinds.Map held is left = absurd is
leaf_first kinds.Set held is left = absurd is
leaf_first kinds.List held is left = absurd is

module _ (Spells : Spelling) where
  -- The bytes of a binary that are there were taken.
  pub bytes_taken : (before under : List Open) (whole between rest : List ℕ) (many : ℕ) → Passes Spells before whole (in_bytes many ∷ under) between → (length between < many → ⊥)
      → rest ≡ drop many between → Passes Spells before whole under rest
  bytes_taken before under whole between rest many h enough e =
      let taken : Turn Spells (some_bytes many) between [] rest = (
        take many between,
        sym (take-append-drop many between) ∙ ap (λ l. take many between ++ l) (sym e),
        omega (arith, length-take many between, enough),
        refl,
      ) in
      passes_on Spells before whole (in_bytes many ∷ under) between under rest h (one_turn Spells (in_bytes many) under between [] rest taken)

  -- A container was entered, behind which this is to come.
  pub entered_by : (before : List Open) (text rest : List ℕ) (left : ℕ) (inner behind : Level) (below : List Level) (new : Stack) → left ≡ outer_levels - (length below + 1)
      → new.top ≡ inner → new.below.items ≡ below ++ behind ∷ [] → Passes Spells before text (open_level left inner ++ stack_of behind below) rest → Passes Spells before text (open_of new) rest
  entered_by before text rest left inner behind below new el et eb h =
      subst (λ s. Passes Spells before text s rest)
      (ap (λ n. open_level n inner ++ stack_of behind below) el ∙ sym (entered inner behind below) ∙ ap (λ b. stack_of inner b) (sym eb) ∙ ap (λ t. stack_of t new.below.items) (sym et)) h

  pub struct_entered : (text : List ℕ) (left below : ℕ) (kind : TypeCode) (held : Option Bool) (behind : Level) (old new : Stack) → left ≡ levels_in old → left ≡ below + 1 → kind ≡ kinds.Struct
      → new.top ≡ levels.Fields (pos 0) → new.below.items ≡ old.below.items ++ behind ∷ []
      → Passes Spells (in_value (levels_in old) kind held ∷ stack_of behind old.below.items) text (open_of new) text
  struct_entered text left below kind held behind old new el more is et eb =
      let first : first_of (in_value (levels_in old) kind held) ≡ made_of (in_struct below (pos 0) ∷ []) = value_below (levels_in old) below kind kinds.Struct held (omega (arith, el, more)) is in
      entered_by (in_value (levels_in old) kind held ∷ stack_of behind old.below.items) text text below (levels.Fields (pos 0)) behind old.below.items new (omega (arith, el, more)) et eb
      (one_turn Spells (in_value (levels_in old) kind held) (stack_of behind old.below.items) text (in_struct below (pos 0) ∷ []) text
      (subst (λ f. Turn Spells f text (in_struct below (pos 0) ∷ []) text) (sym first) (refl, refl)))

  -- the levels below a container's
  pub level_under : (left below : ℕ) (old : Stack) → left + length old.below.items ≡ outer_levels → left ≡ below + 1 → below ≡ outer_levels - (length old.below.items + 1)
  level_under left below old e more = omega (arith, e, more)

  pub levels_are : (left below : ℕ) (old : Stack) → left + length old.below.items ≡ outer_levels → left ≡ below + 1 → levels_in old ≡ below + 1
  levels_are left below old e more = omega (arith, e, more)

  -- ---- what is made of others

  value_opened : (old : Stack) (text : List ℕ) (kind : TypeCode) (held : Option Bool) (behind : Level) → ComesFirst old.top (comings.Value kind held behind)
      → Passes Spells (open_of old) text (in_value (levels_in old) kind held ∷ stack_of behind old.below.items) text
  value_opened old text kind held behind h = elim (h.1 (levels_in old)) [
    | inl e ↦ subst (λ s. Passes Spells (open_of old) text s text) (ap (λ s. s ++ around old.below.items) e) (no_turns Spells (open_of old) text)
    | inr m ↦ subst (λ s. Passes Spells (s ++ around old.below.items) text (in_value (levels_in old) kind held ∷ stack_of behind old.below.items) text) (sym m.1)
        (one_turn Spells m.0 (around old.below.items) text (in_value (levels_in old) kind held ∷ open_level (levels_in old) behind) text
        (subst (λ f. Turn Spells f text (in_value (levels_in old) kind held ∷ open_level (levels_in old) behind) text) (sym m.2) (refl, refl)))
  ]

  pub end_opened : (old : Stack) (text : List ℕ) → ComesFirst old.top comings.End → Passes Spells (open_of old) text (around old.below.items) text
  end_opened old text h =
      let m = h.1 (levels_in old) in
      subst (λ s. Passes Spells (s ++ around old.below.items) text (around old.below.items) text) (sym m.1)
      (one_turn Spells m.0 (around old.below.items) text [] text (subst (λ f. Turn Spells f text [] text) (sym m.2) (refl, refl)))

  header_open : (old : Stack) (left : ℕ) (last : ℤ) → left ≡ levels_in old → old.top ≡ levels.Fields last → in_struct left last ∷ around old.below.items ≡ open_of old
  header_open old left last el et = ap (λ n. in_struct n last ∷ around old.below.items) el ∙ ap (λ t. stack_of t old.below.items) (sym et)

module _ (Spells : Spelling) (reads : ReadingOf) where
  -- ---- what is answered

  -- A part is refused, and the place stays.
  pub head_refused : (start : Open) (part : Part) (opens : WordOf part → List Open) (behind : Level) (old : Stack) (text rest : List ℕ) (cause : Cause) (result : Result Unit Halted)
      → first_of start ≡ a_part part opens → reads part text ≡ Err cause → rest ≡ text → IsErrAnd result (λ e. e ≡ halts.For cause)
      → ValueStepped Spells reads behind old text result old rest start
  head_refused start part opens behind old text rest cause result first e same is =
      let p = err_from_is_err_and result is in
      subst (λ r. ValueStepped Spells reads behind old text r old rest start) (sym (p.1 ∙ ap (λ e. Err e) p.2))
      (subst (λ f. StopsBy reads f text cause) (sym first) e, refl, same)

  pub header_refused : (old : Stack) (left : ℕ) (last : ℤ) (text rest : List ℕ) (cause : Cause) (result : Result Bool Halted) → left ≡ levels_in old → old.top ≡ levels.Fields last
      → reads (header left last) text ≡ Err cause → rest ≡ text → IsErrAnd result (λ e. e ≡ halts.For cause) → Stepped Spells reads old text result old rest
  header_refused old left last text rest cause result el et e same is =
      let p = err_from_is_err_and result is in
      let here : HaltsThere Spells reads (open_of old) text (halts.For cause) old text = (
        no_turns Spells (open_of old) text,
        record {
          top = in_struct left last;
          below = around old.below.items;
          passes = subst (λ s. Passes Spells (open_of old) text s text) (sym (header_open Spells old left last el et)) (no_turns Spells (open_of old) text);
          stops = e;
        },
      ) in
      subst (λ r. Stepped Spells reads old text r old rest) (sym (p.1 ∙ ap (λ e. Err e) p.2)) (subst (λ r. HaltsThere Spells reads (open_of old) text (halts.For cause) old r) (sym same) here)

  pub value_halted : (old new : Stack) (text rest : List ℕ) (kind : TypeCode) (held : Option Bool) (behind : Level) (halted : Halted) → ComesFirst old.top (comings.Value kind held behind)
      → ValueStepped Spells reads behind old text (Err halted) new rest (in_value (levels_in old) kind held) → HaltsThere Spells reads (open_of old) text halted new rest
  value_halted old new text rest kind held behind (halts.For cause) first h =
      let here : HaltsThere Spells reads (open_of old) text (halts.For cause) old text = (
        no_turns Spells (open_of old) text,
        record {
          top = in_value (levels_in old) kind held;
          below = stack_of behind old.below.items;
          passes = value_opened Spells old text kind held behind first;
          stops = h.0;
        },
      ) in
      subst (λ r. HaltsThere Spells reads (open_of old) text (halts.For cause) new r) (sym h.2) (subst (λ s. HaltsThere Spells reads (open_of old) text (halts.For cause) s text) (sym h.1) here)
  value_halted old new text rest kind held behind (halts.Lacking many) first h = record {
    held = h.held;
    rest = h.rest;
    passes = passes_on Spells (open_of old) text (in_value (levels_in old) kind held ∷ stack_of behind old.below.items) text (in_bytes h.held ∷ open_of new) h.rest
        (value_opened Spells old text kind held behind first) h.passes;
    missing = h.missing;
    some = h.some;
  }

  pub value_halted_as : (old new : Stack) (text rest : List ℕ) (kind : TypeCode) (held : Option Bool) (behind : Level) (halted : Halted) (result : Result Bool Halted)
      → ComesFirst old.top (comings.Value kind held behind) → ValueStepped Spells reads behind old text (Err halted) new rest (in_value (levels_in old) kind held)
      → IsErrAnd result (λ e. e ≡ halted) → Stepped Spells reads old text result new rest
  value_halted_as old new text rest kind held behind halted result first h is =
      let p = err_from_is_err_and result is in
      subst (λ r. Stepped Spells reads old text r new rest) (sym (p.1 ∙ ap (λ e. Err e) p.2)) (value_halted old new text rest kind held behind halted first h)

  pub value_passed : (old new : Stack) (text rest : List ℕ) (kind : TypeCode) (held : Option Bool) (behind : Level) → ComesFirst old.top (comings.Value kind held behind)
      → Passes Spells (in_value (levels_in old) kind held ∷ stack_of behind old.below.items) text (open_of new) rest → IsNearer old text new rest → Stepped Spells reads old text (Ok true) new rest
  value_passed old new text rest kind held behind first h nearer = (
    passes_on Spells (open_of old) text (in_value (levels_in old) kind held ∷ stack_of behind old.below.items) text (open_of new) rest (value_opened Spells old text kind held behind first) h,
    omega (arith, nearer, first.0),
  )

  -- The innermost container is over.
  pub left_level : (old new : Stack) (text rest : List ℕ) (on : Bool) → Passes Spells (open_of old) text (around old.below.items) rest → around old.below.items ≡ still_open on new
      → (on ≡ true → length new.below.items + 1 ≡ length old.below.items) → 4 * length rest + 2 ≤ 4 * length text + weight old.top → Stepped Spells reads old text (Ok on) new rest
  left_level old new text rest true h open_behind fewer less =
      (subst (λ s. Passes Spells (open_of old) text s rest) open_behind h, omega (arith, fewer refl, less, weight_most new.top))
  left_level old new text rest false h open_behind fewer less = subst (λ s. Passes Spells (open_of old) text s rest) open_behind h

  module _ (found : (part : Part) (word : WordOf part) (bytes rest : List ℕ) → reads part bytes ≡ Ok (word, rest) → Begins Spells part word bytes rest) where
    pub stop_passed : (old : Stack) (left : ℕ) (last : ℤ) (o : Option Field) (text rest : List ℕ) → left ≡ levels_in old → old.top ≡ levels.Fields last
        → reads (header left last) text ≡ Ok (o, rest) → o ≡ None → Passes Spells (open_of old) text (around old.below.items) rest
    stop_passed old left last o text rest el et e is =
        subst (λ s. Passes Spells s text (around old.below.items) rest) (header_open Spells old left last el et)
        (part_read Spells reads found (in_struct left last) (around old.below.items) text rest (header left last) (opened_by_header left) None refl (e ∙ ap (λ x. Ok (x, rest)) is))

    pub field_passed : (old new : Stack) (left : ℕ) (last : ℤ) (f : Field) (o : Option Field) (text rest : List ℕ) → left ≡ levels_in old → old.top ≡ levels.Fields last
        → reads (header left last) text ≡ Ok (o, rest) → o ≡ Some f → new.below.items ≡ old.below.items → new.top ≡ levels.Field f.id f.kind f.held
        → Passes Spells (open_of old) text (open_of new) rest
    field_passed old new left last f o text rest el et e is eb top_is =
        let p : Passes Spells (in_struct left last ∷ around old.below.items) text (in_value left f.kind f.held ∷ in_struct left f.id ∷ around old.below.items) rest =
        part_read Spells reads found (in_struct left last) (around old.below.items) text rest (header left last) (opened_by_header left) (Some f) refl (e ∙ ap (λ x. Ok (x, rest)) is) in
        let opened : in_value left f.kind f.held ∷ in_struct left f.id ∷ around old.below.items ≡ open_of new =
        ap (λ n. in_value n f.kind f.held ∷ in_struct n f.id ∷ around old.below.items) el ∙ ap (λ b. stack_of (levels.Field f.id f.kind f.held) b) (sym eb) ∙ ap (λ t. stack_of t new.below.items) (sym top_is) in
        subst (λ s. Passes Spells (open_of old) text s rest) opened (subst (λ s. Passes Spells s text (in_value left f.kind f.held ∷ in_struct left f.id ∷ around old.below.items) rest) (header_open Spells old left last el et) p)

  -- ---- all steps

  pub halts_on : (before : List Open) (text between rest : List ℕ) (old new : Stack) (halted : Halted) → Passes Spells before text (open_of old) between
      → HaltsThere Spells reads (open_of old) between halted new rest → HaltsThere Spells reads before text halted new rest
  halts_on before text between rest old new (halts.For cause) h g = (passes_on Spells before text (open_of old) between (open_of new) rest h g.0, g.1)
  halts_on before text between rest old new (halts.Lacking many) h g = record {
    held = g.held;
    rest = g.rest;
    passes = passes_on Spells before text (open_of old) between (in_bytes g.held ∷ open_of new) g.rest h g.passes;
    missing = g.missing;
    some = g.some;
  }

  pub walk_halted : (start old new : Stack) (text between rest : List ℕ) (halted : Halted) (result : Result Unit Halted) → Passes Spells (open_of start) text (open_of old) between
      → HaltsThere Spells reads (open_of old) between halted new rest → IsErrAnd result (λ e. e ≡ halted) → Walked Spells reads start text result new rest
  walk_halted start old new text between rest halted result h g is =
      let p = err_from_is_err_and result is in
      subst (λ r. Walked Spells reads start text r new rest) (sym (p.1 ∙ ap (λ e. Err e) p.2)) (halts_on (open_of start) text between rest old new halted h g)

  pub over : (old new : Stack) (text rest : List ℕ) (on : Bool) → on ≡ false → Stepped Spells reads old text (Ok on) new rest → Passes Spells (open_of old) text [] rest
  over old new text rest on e h = subst (λ b. Stepped Spells reads old text (Ok b) new rest) e h

  pub not_over : (old new : Stack) (text rest : List ℕ) (on : Bool) → on ≡ true → Stepped Spells reads old text (Ok on) new rest
      → Passes Spells (open_of old) text (open_of new) rest × (steps_left new rest < steps_left old text)
  not_over old new text rest on e h = subst (λ b. Stepped Spells reads old text (Ok b) new rest) e h

-- ---- values of one part

module _ (Spells : Spelling) (reads : ReadingOf) (ThenVarint : Part → List ℕ → Type 0) (Refuses : Part → Cause → List ℕ → Type 0) (R : ReadsExactly Spells reads ThenVarint Refuses) where
  part_stop : (start : Open) (part : Part) (text : List ℕ) (cause : Cause) → first_of start ≡ a_part part nothing_more → StopsFor Spells reads start text cause → reads part text ≡ Err cause
  part_stop start part text cause first h = by_reading (reads part text) refl
    where
      by_reading : (r : Result (WordOf part × List ℕ) Cause) → reads part text ≡ r → reads part text ≡ Err cause
      by_reading (Ok x) e = absurd (stop_not_whole Spells reads ThenVarint Refuses R start text cause x.1 h (part_read Spells reads R.found start [] text x.1 part nothing_more x.0 first e))
      by_reading (Err b) e =
          e ∙ ap (λ c. Err c) (stop_once Spells reads ThenVarint Refuses R start text b cause
          (record { top = start; below = []; rest = text; passes = no_turns Spells (start ∷ []) text; stops = subst (λ f. StopsBy reads f text b) (sym first) e }) h)

  part_lack : (start : Open) (part : Part) (text : List ℕ) (many : ℕ) → first_of start ≡ a_part part nothing_more → Lacks Spells start text many → ⊥
  part_lack start part text many first h = by_reading (reads part text) refl
    where
      by_reading : (r : Result (WordOf part × List ℕ) Cause) → reads part text ≡ r → ⊥
      by_reading (Ok x) e = lack_not_whole Spells reads ThenVarint Refuses R start text many x.1 h (part_read Spells reads R.found start [] text x.1 part nothing_more x.0 first e)
      by_reading (Err b) e =
          stop_or_lack Spells reads ThenVarint Refuses R start text b many
          (record { top = start; below = []; rest = text; passes = no_turns Spells (start ∷ []) text; stops = subst (λ f. StopsBy reads f text b) (sym first) e }) h

  pub leaf_halted : (left : ℕ) (kind : TypeCode) (held : Option Bool) (behind : Level) (old : Stack) (text : List ℕ) (halted : Halted) → IsLeaf kind
      → HaltsAs Spells reads (in_value left kind held) text halted → ValueStepped Spells reads behind old text (Err halted) old text (in_value left kind held)
  leaf_halted left kind held behind old text (halts.For cause) leaf h =
      let part = leaf_first kind held leaf left in
      (subst (λ f. StopsBy reads f text cause) (sym part.1) (part_stop (in_value left kind held) part.0 text cause part.1 h), refl, refl)
  leaf_halted left kind held behind old text (halts.Lacking many) leaf h =
      let part = leaf_first kind held leaf left in
      absurd (part_lack (in_value left kind held) part.0 text many part.1 h)

  module _ (L : PartLaws Spells ThenVarint Refuses) where
    begins_shortens : (part : Part) (word : WordOf part) (whole rest : List ℕ) → HasBytes part → Begins Spells part word whole rest → length rest < length whole
    begins_shortens part word whole rest has h = omega (arith, ap length h.parts, length-append h.text rest, some_length h.text (L.some part word h.text has h.spelled))

    leaf_turn_shortens : (kind : TypeCode) → IsLeaf kind → (left : ℕ) (whole rest : List ℕ) (opened : List Open) → Turn Spells (first_of_value left kind None) whole opened rest → length rest < length whole
    leaf_turn_shortens kinds.Truth is left whole rest opened h = begins_shortens (truth None) h.0 whole rest tt h.1
    leaf_turn_shortens kinds.I8 is left whole rest opened h = begins_shortens byte h.0 whole rest tt h.1
    leaf_turn_shortens kinds.I16 is left whole rest opened h = begins_shortens short h.0 whole rest tt h.1
    leaf_turn_shortens kinds.I32 is left whole rest opened h = begins_shortens int h.0 whole rest tt h.1
    leaf_turn_shortens kinds.I64 is left whole rest opened h = begins_shortens long h.0 whole rest tt h.1
    leaf_turn_shortens kinds.Eight is left whole rest opened h = begins_shortens eight h.0 whole rest tt h.1
    leaf_turn_shortens kinds.Binary is left whole rest opened h = absurd is
    leaf_turn_shortens kinds.Struct is left whole rest opened h = absurd is
    leaf_turn_shortens kinds.Map is left whole rest opened h = absurd is
    leaf_turn_shortens kinds.Set is left whole rest opened h = absurd is
    leaf_turn_shortens kinds.List is left whole rest opened h = absurd is

    leaf_shortens : (left : ℕ) (kind : TypeCode) → IsLeaf kind → (whole rest : List ℕ) (n : ℕ) → Turns Spells n (in_value left kind None ∷ []) whole [] rest → length rest < length whole
    unfolding Turns
    leaf_shortens left kind leaf whole rest zero h = (let e : in_value left kind None ∷ [] ≡ [] = h.0 in cc)
    leaf_shortens left kind leaf whole rest (suc n) h =
        omega (arith, leaf_turn_shortens kind leaf left whole h.1 h.0 h.2, onward Spells (h.0 ++ []) [] h.1 rest (record { count = n; turns = h.3 }))

    pub leaf_nearer : (left : ℕ) (kind : TypeCode) (held : Option Bool) (behind : Level) (whole rest : List ℕ) → IsLeaf kind → Passes Spells (in_value left kind held ∷ []) whole [] rest
        → (held ≡ None) ⊎ (weight behind ≡ 0) → 4 * length rest + weight behind < 4 * length whole + 2
    leaf_nearer left kind held behind whole rest leaf h (inl none) =
        let p : Passes Spells (in_value left kind None ∷ []) whole [] rest = subst (λ o. Passes Spells (in_value left kind o ∷ []) whole [] rest) none h in
        omega (arith, leaf_shortens left kind leaf whole rest p.count p.turns, weight_most behind)
    leaf_nearer left kind held behind whole rest leaf h (inr light) = omega (arith, light, onward Spells (in_value left kind held ∷ []) [] whole rest h)
