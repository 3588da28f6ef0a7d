-- Where a walk over a struct stands, the bytes can be completed to a struct.
use Rattle.std.proofs.Common.{◌≡◌, ◌++◌, ◌∷◌, ◌⊎◌, inl, inr, ℕ, zero, suc, ℤ, pos, Bool, List, [], Option, Some, None, refl, ap, sym, ◌∙◌, subst, arith}
use Rattle.std.proofs.lemmas.List.{append-nil}
use Rattle.span_io.specs.declared.cause.Cause.{Cause}
use Rattle.span_io.proofs.Cuts.{append_empty_right}
use Rattle.span_io.specs.Frames.{Framing, IsProperFront, IsOpen, BeginsWhole, IsRefusedAt, CanBeCompleted}
use Rattle.span_io.proofs.FramingLaws.{Place, is_open, is_begun, is_refused, open_front}
use Rattle.thrift_core.specs.declared.field.Field.{Field}
use Rattle.thrift_core.specs.Parts.{Part, Spelling}
use Rattle.thrift_core.specs.Reading.{ReadingOf}
use Rattle.thrift_core.specs.Protocols.{ReadsExactly, PartLaws, WritingOf, WritesShortest}
use Rattle.thrift_core.specs.Trees.{Fields, StructText, outer_levels}
use Rattle.thrift_core.specs.Walks.{Open, in_struct, in_value, first_of, opened_by_header, Turn, Turns, Passes, outer_struct}
use Rattle.thrift_core.specs.Values.{struct_frames, RefusedStruct}
use Rattle.thrift_core.specs.StatedLaws.{OneReading, PartsReadBack, OpenFronts}
use Rattle.thrift_core.proofs.Determined.{front_of, one_turn, one_word, one_end, passes_more, passes_on, ended_there}
use Rattle.thrift_core.proofs.Completed.{stack_filled, walk_suits}
use Rattle.thrift_core.proofs.Meanings.{whole_walk, fields_on}
use Rattle.thrift_core.proofs.OneReading.{one_value, one_fields}
use Rattle.thrift_core.proofs.TextsFrom as texts
use Rattle.thrift_core.proofs.TextsFrom.{no_header}

-- ---- below all that is open a struct is

-- the outermost of it is a struct
unfoldable EndsInStruct : List Open → Type 0
EndsInStruct [] = ⊥
EndsInStruct (top ∷ below) = ((left : ℕ) × (last : ℤ) × (top ≡ in_struct left last) × (below ≡ [])) ⊎ EndsInStruct below

ends_append : (a b : List Open) → EndsInStruct b → EndsInStruct (a ++ b)
unfolding EndsInStruct
ends_append [] b h = h
ends_append (top ∷ a) b h = inr (ends_append a b h)

module _ (Spells : Spelling) where
  struct_turn : (left : ℕ) (word : Option Field) (opened : List Open) → opened ≡ opened_by_header left word → (n : ℕ) (between : List ℕ) (after : List Open) (rest : List ℕ)
      → ((stack : List Open) → EndsInStruct stack → Turns Spells n stack between after rest → (after ≡ []) ⊎ EndsInStruct after) → Turns Spells n (opened ++ []) between after rest → (after ≡ []) ⊎ EndsInStruct after
  unfolding EndsInStruct
  struct_turn left None opened e n between after rest more h =
      let turns : Turns Spells n [] between after rest = subst (λ s. Turns Spells n (s ++ []) between after rest) e h in
      inl (sym (ended_there Spells between after rest (record { count = n; turns = turns })).0)
  struct_turn left (Some f) opened e n between after rest more h =
      let turns : Turns Spells n (in_value left f.kind f.held ∷ in_struct left f.id ∷ []) between after rest = subst (λ s. Turns Spells n (s ++ []) between after rest) e h in
      more (in_value left f.kind f.held ∷ in_struct left f.id ∷ []) (inr (inl (left, f.id, refl, refl))) turns

  -- a walk over a struct ends, or a struct is open below all
  still_struct : (n : ℕ) (stack : List Open) (whole : List ℕ) (after : List Open) (rest : List ℕ) → EndsInStruct stack → Turns Spells n stack whole after rest → (after ≡ []) ⊎ EndsInStruct after
  unfolding EndsInStruct Turns
  still_struct zero stack whole after rest struct h = inr (subst EndsInStruct h.0 struct)
  still_struct (suc n) [] whole after rest struct h = absurd h
  still_struct (suc n) (top ∷ below) whole after rest (inl e) h =
      let turn : Turn Spells (first_of (in_struct e.0 e.1)) whole h.0 h.1 = subst (λ t. Turn Spells (first_of t) whole h.0 h.1) e.2 h.2 in
      struct_turn e.0 turn.0 h.0 turn.2 n h.1 after rest (λ stack struct g. still_struct n stack h.1 after rest struct g) (subst (λ s. Turns Spells n (h.0 ++ s) h.1 after rest) e.3 h.3)
  still_struct (suc n) (top ∷ below) whole after rest (inr struct) h = still_struct n (h.0 ++ below) h.1 after rest (ends_append h.0 below struct) h.3

module _ (Spells : Spelling) (reads : ReadingOf) (ThenVarint : Part → List ℕ → Type 0) (Refuses : Part → Cause → List ℕ → Type 0) (R : ReadsExactly Spells reads ThenVarint Refuses) (L : PartLaws Spells ThenVarint Refuses) where
  -- a struct that is open needs bytes
  no_bytes : (n : ℕ) (stack : List Open) (rest : List ℕ) → EndsInStruct stack → Turns Spells n stack [] [] rest → ⊥
  unfolding EndsInStruct Turns
  no_bytes zero stack rest struct h = subst EndsInStruct h.0 struct
  no_bytes (suc n) [] rest struct h = absurd h
  no_bytes (suc n) (top ∷ below) rest (inl e) h =
      let turn : Turn Spells (first_of (in_struct e.0 e.1)) [] h.0 h.1 = subst (λ t. Turn Spells (first_of t) [] h.0 h.1) e.2 h.2 in
      no_header Spells reads ThenVarint Refuses R L e.0 e.1 turn.0 h.1 turn.1
  no_bytes (suc n) (top ∷ below) rest (inr struct) h =
      let one = one_turn Spells top below [] h.0 h.1 h.2 in
      let front = front_of Spells one.count (top ∷ below) [] (h.0 ++ below) h.1 one.turns in
      let none : h.1 ≡ [] = append_empty_right front.text h.1 (sym front.parts) in
      no_bytes n (h.0 ++ below) rest (ends_append h.0 below struct) (subst (λ l. Turns Spells n (h.0 ++ below) l [] rest) none h.3)

  abbrev F : Framing
  F = struct_frames Spells ThenVarint

  -- behind parts, in front of what is open
  between_proper : (text : List ℕ) (top : Open) (below : List Open) → Passes Spells (outer_struct ∷ []) text (top ∷ below) [] → IsProperFront F text
  unfolding EndsInStruct
  between_proper text top below h =
      let fill = stack_filled Spells ThenVarint Refuses L (top ∷ below) (walk_suits Spells ThenVarint Refuses L outer_struct text (top ∷ below) [] tt h) in
      let rest : Passes Spells (top ∷ below) fill.text [] [] = subst (λ l. Passes Spells (top ∷ below) l [] []) (append-nil fill.text) (fill.fills []) in
      let all : Passes Spells (outer_struct ∷ []) (text ++ fill.text) [] [] = passes_on Spells (outer_struct ∷ []) (text ++ fill.text) (top ∷ below) fill.text [] [] (passes_more Spells (outer_struct ∷ []) text (top ∷ below) [] fill.text h) rest in
      record {
        more = fill.text;
        are_bytes = fill.are_bytes;
        some = λ none. elim (still_struct Spells h.count (outer_struct ∷ []) text (top ∷ below) [] (inl (outer_levels, pos 0, refl, refl)) h.turns) [
          | inl e ↦ cc
          | inr struct ↦ (let empty : Passes Spells (top ∷ below) [] [] [] = subst (λ l. Passes Spells (top ∷ below) l [] []) none rest in no_bytes empty.count (top ∷ below) [] struct empty.turns)
        ];
        whole = (whole_walk Spells ThenVarint Refuses L outer_struct (text ++ fill.text)).1 all;
      }

  completed : (text : List ℕ) → IsOpen F text → CanBeCompleted F text
  completed text (inl p) = record { front = text; inside = []; parts = sym (append-nil text); unended = record { short = omega arith; go_on = tt }; proper = p }
  completed text (inr h) = record { front = h.front; inside = h.inside; parts = h.parts; unended = h.unended; proper = h.proper }

  abbrev Places : List ℕ → Type 0
  Places text = IsOpen F text ⊎ (BeginsWhole F text ⊎ ((cause : Cause) × IsRefusedAt F (RefusedStruct Spells Refuses cause) text))

  of_place : (text : List ℕ) → Place F (RefusedStruct Spells Refuses) text → Places text
  of_place text (is_open h) = inl h
  of_place text (is_begun h) = inr (inl h)
  of_place text (is_refused cause other h) = inr (inr (cause, h))

  pub open_fronts : OpenFronts Spells reads F (RefusedStruct Spells Refuses)
  open_fronts = record {
    between = λ text top below h. completed text (inl (between_proper text top below h));
    inside = λ text h. completed text (texts.truncated_is Spells reads ThenVarint Refuses R L outer_struct text (inl tt) h);
    lacking = λ text many h. completed text (texts.lacks_is Spells reads ThenVarint Refuses R L outer_struct text many (inl tt) h);
    completed = completed;
    all = λ text. of_place text (texts.place Spells reads ThenVarint Refuses R L outer_struct text (inl tt));
    fronts = open_front F (texts.fronts_open Spells reads ThenVarint Refuses R L outer_struct (inl tt));
  }

  -- ---- one reading

  one_struct : (a b : Fields) (left : ℕ) (text longer more : List ℕ) → StructText Spells left a text → StructText Spells left b longer → longer ≡ text ++ more → (more ≡ []) × (a ≡ b)
  one_struct a b left text longer more h g e =
      let walk : Passes Spells (in_struct left (pos 0) ∷ []) (text ++ more) [] more = passes_more Spells (in_struct left (pos 0) ∷ []) text [] [] more (fields_on Spells a left (pos 0) text [] [] h) in
      let other : Passes Spells (in_struct left (pos 0) ∷ []) (text ++ more) [] [] = subst (λ l. Passes Spells (in_struct left (pos 0) ∷ []) l [] []) e (fields_on Spells b left (pos 0) longer [] [] g) in
      let none : more ≡ [] = one_end Spells reads ThenVarint Refuses R (in_struct left (pos 0) ∷ []) (text ++ more) more [] walk other in
      let same : longer ≡ text = e ∙ ap (λ l. text ++ l) none ∙ append-nil text in
      (none, (one_fields Spells reads ThenVarint Refuses R a b left (pos 0) text [] [] h (subst (λ l. StructText Spells left b l) same g)).0)

  pub one_reading : OneReading Spells
  one_reading = record {
    one_word = λ part word other whole rest left h g. one_word Spells reads ThenVarint Refuses R part word other whole rest left h g;
    one_value = λ a b left held whole rest other e h g. one_value Spells reads ThenVarint Refuses R a b left held whole rest other e h g;
    one_fields = λ a b left last whole rest other h g. one_fields Spells reads ThenVarint Refuses R a b left last whole rest other h g;
    one_struct = one_struct;
  }

  -- ---- what is written

  pub reads_back : (keeps : Option Bool → Option Bool) (writes : WritingOf) → WritesShortest Spells keeps writes → PartsReadBack reads keeps writes
  reads_back keeps writes W = record {
    read_back = λ part word rest may. R.only part word (writes part word ++ rest) rest (record { text = writes part word; spelled = W.spelled part word may; parts = refl });
  }
