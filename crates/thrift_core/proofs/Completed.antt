-- What is open can be completed, where each value has a level.
use Rattle.std.proofs.Common.{◌≡◌, ◌≤◌, ◌<◌, ◌++◌, ◌∷◌, ◌⊎◌, inl, inr, ℕ, zero, suc, ℤ, pos, Bool, List, [], replicate, Option, Some, None, refl, ap, sym, ◌∙◌, subst, arith}
use Rattle.std.proofs.lemmas.List.{append_assoc, length-replicate}
use Rattle.std.proofs.lemmas.List.Elements.{All-nil, All-append, All-replicate}
use Rattle.span_io.specs.Frames.{AreBytes}
use Rattle.span_io.specs.declared.cause.Cause.{Cause}
use Rattle.thrift_core.specs.declared.field.ListHead.{ListHead}
use Rattle.thrift_core.specs.declared.field.MapHead.{MapHead}
use Rattle.thrift_core.specs.declared.type_code.TypeCode.{TypeCode}
use Rattle.thrift_core.specs.declared.type_code.TypeCode.TheVariants as kinds
use Rattle.thrift_core.specs.Parts.{Part, header, truth, byte, short, int, long, eight, size, list_head, map_head, WordOf, Spelling, HasLevel}
use Rattle.thrift_core.specs.Protocols.{SpelledInBytes, PartLaws}
use Rattle.thrift_core.specs.Walks.{Open, in_struct, in_value, in_elements, in_pairs, in_bytes, a_part, made_of, first_of, opened_by_header, opened_by_size, opened_elements, opened_pairs, nothing_more, Turn, Turns, Passes}
use Rattle.thrift_core.proofs.Determined.{no_turns, one_turn, passes_on}

-- each value of it has a level
abbrev pub Suits : Open → Type 0
Suits (in_struct left last) = Unit {0}
Suits (in_value left kind held) = HasLevel left kind
Suits (in_elements left kind many) = 1 ≤ many → HasLevel left kind
Suits (in_pairs left key value many) = 1 ≤ many → HasLevel left key × HasLevel left value
Suits (in_bytes many) = Unit {0}

unfoldable pub AllSuit : List Open → Type 0
AllSuit [] = Unit {0}
AllSuit (top ∷ below) = Suits top × AllSuit below

all_append : (a b : List Open) → AllSuit a → AllSuit b → AllSuit (a ++ b)
unfolding AllSuit
all_append [] b h g = g
all_append (top ∷ a) b h g = (h.0, all_append a b h.1 g)

-- ---- a text of it

-- a text of it in bytes, whatever is open below and follows
pub record Filled (Spells : Spelling) (top : Open) : Type 0 where
  pub text : List ℕ
  pub are_bytes : AreBytes text
  pub fills : (below : List Open) (rest : List ℕ) → Passes Spells (top ∷ below) (text ++ rest) below rest

pub record AllFilled (Spells : Spelling) (stack : List Open) : Type 0 where
  pub text : List ℕ
  pub are_bytes : AreBytes text
  pub fills : (rest : List ℕ) → Passes Spells stack (text ++ rest) [] rest

both_bytes : (a b : List ℕ) → AreBytes a → AreBytes b → AreBytes (a ++ b)
both_bytes a b h g = All-append (λ n. n < 256) a b h g

no_numbers : AreBytes []
no_numbers = All-nil (λ n. n < 256)

module _ (Spells : Spelling) where
  -- a word that opens nothing
  by_word : (top : Open) (part : Part) (opens : WordOf part → List Open) → first_of top ≡ a_part part opens → (word : WordOf part) → SpelledInBytes Spells part word → opens word ≡ [] → Filled Spells top
  by_word top part opens first word s nothing = record {
    text = s.text;
    are_bytes = s.are_bytes;
    fills = λ below rest. one_turn Spells top below (s.text ++ rest) [] rest
        (subst (λ f. Turn Spells f (s.text ++ rest) [] rest) (sym first) (word, record { text = s.text; spelled = s.spelled; parts = refl }, sym nothing));
  }

  -- a word that opens one thing that has a text
  word_and : (top : Open) (part : Part) (opens : WordOf part → List Open) → first_of top ≡ a_part part opens → (word : WordOf part) → SpelledInBytes Spells part word
      → (inner : Open) → opens word ≡ inner ∷ [] → Filled Spells inner → Filled Spells top
  word_and top part opens first word s inner one f = record {
    text = s.text ++ f.text;
    are_bytes = both_bytes s.text f.text s.are_bytes f.are_bytes;
    fills = λ below rest.
        let whole = s.text ++ (f.text ++ rest) in
        subst (λ l. Passes Spells (top ∷ below) l below rest) (sym (append_assoc s.text f.text rest)) (passes_on Spells (top ∷ below) whole (inner ∷ below) (f.text ++ rest) below rest
        (one_turn Spells top below whole (inner ∷ []) (f.text ++ rest)
        (subst (λ g. Turn Spells g whole (inner ∷ []) (f.text ++ rest)) (sym first) (word, record { text = s.text; spelled = s.spelled; parts = refl }, sym one)))
        (f.fills below rest));
  }

  made_of_nothing : (top : Open) → first_of top ≡ made_of [] → Filled Spells top
  made_of_nothing top first = record {
    text = [];
    are_bytes = no_numbers;
    fills = λ below rest. one_turn Spells top below rest [] rest (subst (λ f. Turn Spells f rest [] rest) (sym first) (refl, refl));
  }

  all_filled : (a : Open) (more : List Open) → Filled Spells a → AllFilled Spells more → AllFilled Spells (a ∷ more)
  all_filled a more f g = record {
    text = f.text ++ g.text;
    are_bytes = both_bytes f.text g.text f.are_bytes g.are_bytes;
    fills = λ rest. subst (λ l. Passes Spells (a ∷ more) l [] rest) (sym (append_assoc f.text g.text rest)) (passes_on Spells (a ∷ more) (f.text ++ (g.text ++ rest)) more (g.text ++ rest) [] rest (f.fills more (g.text ++ rest)) (g.fills rest));
  }

  bytes_filled : (many : ℕ) → Filled Spells (in_bytes many)
  bytes_filled many = record {
    text = replicate many 0;
    are_bytes = All-replicate (λ n. n < 256) many 0 (omega arith);
    fills = λ below rest. one_turn Spells (in_bytes many) below (replicate many 0 ++ rest) [] rest (replicate many 0, refl, length-replicate many 0, refl);
  }

  made_of_one : (top inner : Open) → first_of top ≡ made_of (inner ∷ []) → Filled Spells inner → Filled Spells top
  made_of_one top inner first f = record {
    text = f.text;
    are_bytes = f.are_bytes;
    fills = λ below rest. passes_on Spells (top ∷ below) (f.text ++ rest) (inner ∷ below) (f.text ++ rest) below rest
        (one_turn Spells top below (f.text ++ rest) (inner ∷ []) (f.text ++ rest) (subst (λ g. Turn Spells g (f.text ++ rest) (inner ∷ []) (f.text ++ rest)) (sym first) (refl, refl)))
        (f.fills below rest);
  }

  made_of_two : (top a b : Open) → first_of top ≡ made_of (a ∷ b ∷ []) → Filled Spells a → Filled Spells b → Filled Spells top
  made_of_two top a b first f g = record {
    text = f.text ++ g.text;
    are_bytes = both_bytes f.text g.text f.are_bytes g.are_bytes;
    fills = λ below rest. subst (λ l. Passes Spells (top ∷ below) l below rest) (sym (append_assoc f.text g.text rest)) (passes_on Spells (top ∷ below) (f.text ++ (g.text ++ rest)) (a ∷ b ∷ below) (f.text ++ (g.text ++ rest)) below rest
        (one_turn Spells top below (f.text ++ (g.text ++ rest)) (a ∷ b ∷ []) (f.text ++ (g.text ++ rest)) (subst (λ x. Turn Spells x (f.text ++ (g.text ++ rest)) (a ∷ b ∷ []) (f.text ++ (g.text ++ rest))) (sym first) (refl, refl)))
        (passes_on Spells (a ∷ b ∷ below) (f.text ++ (g.text ++ rest)) (b ∷ below) (g.text ++ rest) below rest (f.fills (b ∷ below) (g.text ++ rest)) (g.fills below rest)));
  }

  made_of_three : (top a b c : Open) → first_of top ≡ made_of (a ∷ b ∷ c ∷ []) → Filled Spells a → Filled Spells b → Filled Spells c → Filled Spells top
  made_of_three top a b c first f g h = record {
    text = f.text ++ (g.text ++ h.text);
    are_bytes = both_bytes f.text (g.text ++ h.text) f.are_bytes (both_bytes g.text h.text g.are_bytes h.are_bytes);
    fills = λ below rest.
        let whole : List ℕ = f.text ++ (g.text ++ (h.text ++ rest)) in
        let parts : (f.text ++ (g.text ++ h.text)) ++ rest ≡ whole = append_assoc f.text (g.text ++ h.text) rest ∙ ap (λ l. f.text ++ l) (append_assoc g.text h.text rest) in
        subst (λ l. Passes Spells (top ∷ below) l below rest) (sym parts) (passes_on Spells (top ∷ below) whole (a ∷ b ∷ c ∷ below) whole below rest
        (one_turn Spells top below whole (a ∷ b ∷ c ∷ []) whole (subst (λ x. Turn Spells x whole (a ∷ b ∷ c ∷ []) whole) (sym first) (refl, refl)))
        (passes_on Spells (a ∷ b ∷ c ∷ below) whole (b ∷ c ∷ below) (g.text ++ (h.text ++ rest)) below rest (f.fills (b ∷ c ∷ below) (g.text ++ (h.text ++ rest)))
        (passes_on Spells (b ∷ c ∷ below) (g.text ++ (h.text ++ rest)) (c ∷ below) (h.text ++ rest) below rest (g.fills (c ∷ below) (h.text ++ rest)) (h.fills below rest))));
  }

no_pairs_opened : (left : ℕ) (key value : Option TypeCode) → (opened_pairs left key value 0 ≡ []) ⊎ ((inner : Open) × (opened_pairs left key value 0 ≡ inner ∷ []) × (first_of inner ≡ made_of []))
no_pairs_opened left None value = inl refl
no_pairs_opened left (Some key) None = inl refl
no_pairs_opened left (Some key) (Some value) = inr (in_pairs left key value zero, refl, refl)

no_elements_opened : (left : ℕ) (kind : Option TypeCode) → (opened_elements left kind 0 ≡ []) ⊎ ((inner : Open) × (opened_elements left kind 0 ≡ inner ∷ []) × (first_of inner ≡ made_of []))
no_elements_opened left None = inl refl
no_elements_opened left (Some kind) = inr (in_elements left kind zero, refl, refl)

module _ (Spells : Spelling) (ThenVarint : Part → List ℕ → Type 0) (Refuses : Part → Cause → List ℕ → Type 0) (L : PartLaws Spells ThenVarint Refuses) where
  leaf_filled : (left : ℕ) (kind : TypeCode) (held : Option Bool) (part : Part) → first_of (in_value left kind held) ≡ a_part part nothing_more → Filled Spells (in_value left kind held)
  leaf_filled left kind held part first = let some = L.spellable part in by_word Spells (in_value left kind held) part nothing_more first some.0 some.1 refl

  map_filled : (left : ℕ) (held : Option Bool) → Filled Spells (in_value (suc left) kinds.Map held)
  map_filled left held =
      let empty = L.empty_map left in
      let opens : MapHead → List Open = λ head. opened_pairs left head.key head.value head.size in
      let none : opens empty.0 ≡ opened_pairs left empty.0.key empty.0.value 0 = ap (opened_pairs left empty.0.key empty.0.value) empty.2 in
      elim (no_pairs_opened left empty.0.key empty.0.value) as (λ x. Filled Spells (in_value (suc left) kinds.Map held)) [
        | inl e ↦ by_word Spells (in_value (suc left) kinds.Map held) (map_head left) opens refl empty.0 empty.1 (none ∙ e)
        | inr w ↦ word_and Spells (in_value (suc left) kinds.Map held) (map_head left) opens refl empty.0 empty.1 w.0 (none ∙ w.1) (made_of_nothing Spells w.0 w.2)
      ]

  list_filled : (top : Open) (left : ℕ) → first_of top ≡ a_part (list_head left) (λ head. opened_elements left head.element head.size) → Filled Spells top
  list_filled top left first =
      let empty = L.empty_list left in
      let opens : ListHead → List Open = λ head. opened_elements left head.element head.size in
      let none : opens empty.0 ≡ opened_elements left empty.0.element 0 = ap (opened_elements left empty.0.element) empty.2 in
      elim (no_elements_opened left empty.0.element) as (λ x. Filled Spells top) [
        | inl e ↦ by_word Spells top (list_head left) opens first empty.0 empty.1 (none ∙ e)
        | inr w ↦ word_and Spells top (list_head left) opens first empty.0 empty.1 w.0 (none ∙ w.1) (made_of_nothing Spells w.0 w.2)
      ]

  struct_filled : (left : ℕ) (last : ℤ) → Filled Spells (in_struct left last)
  struct_filled left last = by_word Spells (in_struct left last) (header left last) (opened_by_header left) refl None (L.stop left last) refl

  value_filled : (left : ℕ) (kind : TypeCode) (held : Option Bool) → HasLevel left kind → Filled Spells (in_value left kind held)
  value_filled left kinds.Truth held h = leaf_filled left kinds.Truth held (truth held) refl
  value_filled left kinds.I8 held h = leaf_filled left kinds.I8 held byte refl
  value_filled left kinds.I16 held h = leaf_filled left kinds.I16 held short refl
  value_filled left kinds.I32 held h = leaf_filled left kinds.I32 held int refl
  value_filled left kinds.I64 held h = leaf_filled left kinds.I64 held long refl
  value_filled left kinds.Eight held h = leaf_filled left kinds.Eight held eight refl
  value_filled left kinds.Binary held h = word_and Spells (in_value left kinds.Binary held) size opened_by_size refl 0 L.no_bytes (in_bytes 0) refl (bytes_filled Spells 0)
  value_filled (suc left) kinds.Struct held h = made_of_one Spells (in_value (suc left) kinds.Struct held) (in_struct left (pos 0)) refl (struct_filled left (pos 0))
  value_filled (suc left) kinds.Map held h = map_filled left held
  value_filled (suc left) kinds.Set held h = list_filled (in_value (suc left) kinds.Set held) left refl
  value_filled (suc left) kinds.List held h = list_filled (in_value (suc left) kinds.List held) left refl
  value_filled zero kinds.Struct held h = let none : 1 ≤ 0 = h tt in absurd (omega arith)
  value_filled zero kinds.Map held h = let none : 1 ≤ 0 = h tt in absurd (omega arith)
  value_filled zero kinds.Set held h = let none : 1 ≤ 0 = h tt in absurd (omega arith)
  value_filled zero kinds.List held h = let none : 1 ≤ 0 = h tt in absurd (omega arith)

  elements_filled : (left : ℕ) (kind : TypeCode) (many : ℕ) → Suits (in_elements left kind many) → Filled Spells (in_elements left kind many)
  elements_filled left kind zero h = made_of_nothing Spells (in_elements left kind zero) refl
  elements_filled left kind (suc many) h =
      let level : HasLevel left kind = h (omega arith) in
      made_of_two Spells (in_elements left kind (suc many)) (in_value left kind None) (in_elements left kind many) refl (value_filled left kind None level) (elements_filled left kind many (λ some. level))

  pairs_filled : (left : ℕ) (key value : TypeCode) (many : ℕ) → Suits (in_pairs left key value many) → Filled Spells (in_pairs left key value many)
  pairs_filled left key value zero h = made_of_nothing Spells (in_pairs left key value zero) refl
  pairs_filled left key value (suc many) h =
      let levels : HasLevel left key × HasLevel left value = h (omega arith) in
      made_of_three Spells (in_pairs left key value (suc many)) (in_value left key None) (in_value left value None) (in_pairs left key value many) refl
      (value_filled left key None levels.0) (value_filled left value None levels.1) (pairs_filled left key value many (λ some. levels))

  pub filled : (top : Open) → Suits top → Filled Spells top
  filled (in_struct left last) h = struct_filled left last
  filled (in_value left kind held) h = value_filled left kind held h
  filled (in_elements left kind many) h = elements_filled left kind many h
  filled (in_pairs left key value many) h = pairs_filled left key value many h
  filled (in_bytes many) h = bytes_filled Spells many

  -- all that is open can be completed
  pub stack_filled : (stack : List Open) → AllSuit stack → AllFilled Spells stack
  unfolding AllSuit
  stack_filled [] h = record { text = []; are_bytes = no_numbers; fills = λ rest. no_turns Spells [] rest }
  stack_filled (top ∷ below) h = all_filled Spells top below (filled top h.0) (stack_filled below h.1)

  -- ---- what words open has its levels

  elements_suit : (left : ℕ) (head : ListHead) (text : List ℕ) → Spells (list_head left) head text → (element : Option TypeCode) → head.element ≡ element → AllSuit (opened_elements left element head.size)
  unfolding AllSuit
  elements_suit left head text h None e = tt
  elements_suit left head text h (Some kind) e = (λ some. (let w = L.list_level left head text h some in let same : w.0 ≡ kind = cc in subst (HasLevel left) same w.2), tt)

  pairs_suit : (left : ℕ) (head : MapHead) (text : List ℕ) → Spells (map_head left) head text → (key value : Option TypeCode) → head.key ≡ key → head.value ≡ value → AllSuit (opened_pairs left key value head.size)
  unfolding AllSuit
  pairs_suit left head text h None value e f = tt
  pairs_suit left head text h (Some key) None e f = tt
  pairs_suit left head text h (Some key) (Some value) e f = (
    λ some. (
        let w = L.map_level left head text h some in
        let same : w.0 ≡ key = cc in
        let alike : w.1 ≡ value = cc in
        (subst (HasLevel left) same w.4, subst (HasLevel left) alike w.5)
        ),
    tt,
  )

  header_suits : (left : ℕ) (word : WordOf (header left (pos 0))) (last : ℤ) (text : List ℕ) → Spells (header left last) word text → AllSuit (opened_by_header left word)
  unfolding AllSuit
  header_suits left None last text h = tt
  header_suits left (Some f) last text h = (L.field_level left last f text h, (tt, tt))

  abbrev Opens : Open → List Open → Type 0
  Opens top opened = (whole rest : List ℕ) → Turn Spells (first_of top) whole opened rest → AllSuit opened

  value_opens : (left : ℕ) (kind : TypeCode) (held : Option Bool) (opened : List Open) → Opens (in_value left kind held) opened
  unfolding AllSuit
  value_opens left kinds.Truth held opened whole rest h = subst AllSuit (sym h.2) tt
  value_opens left kinds.I8 held opened whole rest h = subst AllSuit (sym h.2) tt
  value_opens left kinds.I16 held opened whole rest h = subst AllSuit (sym h.2) tt
  value_opens left kinds.I32 held opened whole rest h = subst AllSuit (sym h.2) tt
  value_opens left kinds.I64 held opened whole rest h = subst AllSuit (sym h.2) tt
  value_opens left kinds.Eight held opened whole rest h = subst AllSuit (sym h.2) tt
  value_opens left kinds.Binary held opened whole rest h = subst AllSuit (sym h.2) (tt, tt)
  value_opens (suc left) kinds.Struct held opened whole rest h = subst AllSuit (sym h.0) (tt, tt)
  value_opens (suc left) kinds.Map held opened whole rest h = subst AllSuit (sym h.2) (pairs_suit left h.0 h.1.text h.1.spelled h.0.key h.0.value refl refl)
  value_opens (suc left) kinds.Set held opened whole rest h = subst AllSuit (sym h.2) (elements_suit left h.0 h.1.text h.1.spelled h.0.element refl)
  value_opens (suc left) kinds.List held opened whole rest h = subst AllSuit (sym h.2) (elements_suit left h.0 h.1.text h.1.spelled h.0.element refl)
  value_opens zero kinds.Struct held opened whole rest h = absurd h
  value_opens zero kinds.Map held opened whole rest h = absurd h
  value_opens zero kinds.Set held opened whole rest h = absurd h
  value_opens zero kinds.List held opened whole rest h = absurd h

  turn_suits : (top : Open) (opened : List Open) → Suits top → Opens top opened
  unfolding AllSuit
  turn_suits (in_struct left last) opened suits whole rest h = subst AllSuit (sym h.2) (header_suits left h.0 last h.1.text h.1.spelled)
  turn_suits (in_value left kind held) opened suits whole rest h = value_opens left kind held opened whole rest h
  turn_suits (in_elements left kind zero) opened suits whole rest h = subst AllSuit (sym h.0) tt
  turn_suits (in_elements left kind (suc many)) opened suits whole rest h = (let level : HasLevel left kind = suits (omega arith) in subst AllSuit (sym h.0) (level, (λ some. level, tt)))
  turn_suits (in_pairs left key value zero) opened suits whole rest h = subst AllSuit (sym h.0) tt
  turn_suits (in_pairs left key value (suc many)) opened suits whole rest h =
      let levels : HasLevel left key × HasLevel left value = suits (omega arith) in
      subst AllSuit (sym h.0) (levels.0, (levels.1, (λ some. levels, tt)))
  turn_suits (in_bytes many) opened suits whole rest h = subst AllSuit (sym h.3) tt

  turns_suit : (n : ℕ) (before : List Open) (whole : List ℕ) (after : List Open) (rest : List ℕ) → Turns Spells n before whole after rest → AllSuit before → AllSuit after
  unfolding Turns AllSuit
  turns_suit zero before whole after rest h suits = subst AllSuit h.0 suits
  turns_suit (suc n) [] whole after rest h suits = absurd h
  turns_suit (suc n) (top ∷ below) whole after rest h suits = turns_suit n (h.0 ++ below) h.1 after rest h.3 (all_append h.0 below (turn_suits top h.0 suits.0 whole h.1 h.2) suits.1)

  -- a walk stands in front of what has its levels
  pub walk_suits : (start : Open) (whole : List ℕ) (after : List Open) (rest : List ℕ) → Suits start → Passes Spells (start ∷ []) whole after rest → AllSuit after
  unfolding AllSuit
  walk_suits start whole after rest suits h = turns_suit h.count (start ∷ []) whole after rest h.turns (suits, tt)
