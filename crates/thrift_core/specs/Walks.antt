-- A walk over a text, part by part: what is open behind the bytes that it has passed, the innermost first. From it follow where a
-- varint stands in a text, which lengths it holds, and what refuses it.
use Rattle.std.specs.Prelude.{◌≡◌, ◌<◌, ◌⊎◌, ℕ, zero, suc, ◌+◌, ℤ, pos, Bool, Option, Some, None, List, [], ◌∷◌, ◌++◌, length}
use Rattle.span_io.specs.declared.cause.Cause.{Cause}
use Rattle.span_io.specs.declared.cause.Cause.TheVariants as causes
use Rattle.span_io.specs.Frames.{Framing}
use Rattle.thrift_core.specs.declared.field.Field.{Field}
use Rattle.thrift_core.specs.declared.type_code.TypeCode.{TypeCode}
use Rattle.thrift_core.specs.declared.type_code.TypeCode.TheVariants as kinds
use Rattle.thrift_core.specs.Parts.{Part, header, truth, byte, short, int, long, eight, size, list_head, map_head, WordOf, Spelling, Begins, BeginsNone}
use Rattle.thrift_core.specs.Trees.{Tree, Fields, kind_of, ValueThen, FieldsThen, outer_levels}

-- what is still to come of something that a text has begun; the number before a type or an id is how many levels are left
pub data Open : Type 0 where
  -- fields behind one of this id, up to the stop byte, where so many levels are left
  in_struct : ℕ → ℤ → Open
  in_value : ℕ → TypeCode → Option Bool → Open
  -- so many elements
  in_elements : ℕ → TypeCode → ℕ → Open
  in_pairs : ℕ → TypeCode → TypeCode → ℕ → Open
  -- so many bytes of a binary
  in_bytes : ℕ → Open

-- what comes first of it
pub data First : Type 0 where
  -- a part, and what its word opens
  a_part : (part : Part) → (WordOf part → List Open) → First
  some_bytes : ℕ → First
  -- no bytes of its own: it is these
  made_of : List Open → First
  -- a container for which no level is left
  no_level : First

-- ---- what a word opens

-- behind this word nothing more of its value is to come
abbrev pub nothing_more : {A : Type 0} → A → List Open
nothing_more word = []

-- behind the head of a field its value is to come, and then the other fields; behind the stop byte nothing of the struct is
abbrev pub opened_by_header : ℕ → Option Field → List Open
opened_by_header left None = []
opened_by_header left (Some f) = in_value left f.kind f.held ∷ in_struct left f.id ∷ []

-- behind the size of a binary so many bytes are to come
abbrev pub opened_by_size : ℕ → List Open
opened_by_size many = in_bytes many ∷ []

-- an empty list may have no type of elements
abbrev pub opened_elements : ℕ → Option TypeCode → ℕ → List Open
opened_elements left None many = []
opened_elements left (Some kind) many = in_elements left kind many ∷ []

-- so many pairs of these types; an empty map may lack them
abbrev pub opened_pairs : ℕ → Option TypeCode → Option TypeCode → ℕ → List Open
opened_pairs left (Some key) (Some value) many = in_pairs left key value many ∷ []
opened_pairs left key value many = []

-- ---- what comes first

-- a binary begins with the number of its bytes
abbrev pub first_of_binary : First
first_of_binary = a_part size opened_by_size

-- a list or set in which so many levels are left begins with its head, and behind that its elements are to come
abbrev pub first_of_list : ℕ → First
first_of_list left = a_part (list_head left) (λ head. opened_elements left head.element head.size)

-- a map in which so many levels are left begins with its head, and behind that its pairs are to come
abbrev pub first_of_map : ℕ → First
first_of_map left = a_part (map_head left) (λ head. opened_pairs left head.key head.value head.size)

-- a value begins with a part of its type, or with the fields of a struct; a container takes one of the levels that are left,
-- and can't begin where none is
abbrev pub first_of_value : ℕ → TypeCode → Option Bool → First
first_of_value left kinds.Truth held = a_part (truth held) nothing_more
first_of_value left kinds.I8 held = a_part byte nothing_more
first_of_value left kinds.I16 held = a_part short nothing_more
first_of_value left kinds.I32 held = a_part int nothing_more
first_of_value left kinds.I64 held = a_part long nothing_more
first_of_value left kinds.Eight held = a_part eight nothing_more
first_of_value left kinds.Binary held = first_of_binary
first_of_value (suc left) kinds.Struct held = made_of (in_struct left (pos 0) ∷ [])
first_of_value (suc left) kinds.Map held = first_of_map left
first_of_value (suc left) kinds.Set held = first_of_list left
first_of_value (suc left) kinds.List held = first_of_list left
first_of_value zero container held = no_level

-- what comes first of what is open: of fields a head or the stop byte; elements and pairs are made of the values of the next one
-- and of the others, and are over where none is left
abbrev pub first_of : Open → First
first_of (in_struct left last) = a_part (header left last) (opened_by_header left)
first_of (in_value left kind held) = first_of_value left kind held
first_of (in_elements left kind zero) = made_of []
first_of (in_elements left kind (suc many)) = made_of (in_value left kind None ∷ in_elements left kind many ∷ [])
first_of (in_pairs left key value zero) = made_of []
first_of (in_pairs left key value (suc many)) =
    made_of (in_value left key None ∷ in_value left value None ∷ in_pairs left key value many ∷ [])
first_of (in_bytes many) = some_bytes many

-- ---- the walk

-- what comes first is passed; it leaves this open in its place, and these bytes
abbrev pub Turn : Spelling → First → List ℕ → List Open → List ℕ → Type 0
Turn Spells (a_part part opens) whole opened rest =
    (word : WordOf part) × Begins Spells part word whole rest × (opened ≡ opens word)
Turn Spells (some_bytes many) whole opened rest =
    (bytes : List ℕ) × (whole ≡ bytes ++ rest) × (length bytes ≡ many) × (opened ≡ [])
Turn Spells (made_of opens) whole opened rest = (opened ≡ opens) × (whole ≡ rest)
Turn Spells no_level whole opened rest = ⊥

-- so many turns
unfoldable pub Turns : Spelling → ℕ → List Open → List ℕ → List Open → List ℕ → Type 0
Turns Spells zero before whole after rest = (before ≡ after) × (whole ≡ rest)
Turns Spells (suc n) [] whole after rest = ⊥
Turns Spells (suc n) (top ∷ below) whole after rest =
    (opened : List Open) × (between : List ℕ) × Turn Spells (first_of top) whole opened between × Turns Spells n (opened ++ below) between after rest

-- some turns
pub record Passes (Spells : Spelling) (before : List Open) (whole : List ℕ) (after : List Open) (rest : List ℕ) : Type 0 where
  pub count : ℕ
  pub turns : Turns Spells count before whole after rest

-- ---- where a walk stands at the end of some bytes

-- in front of a part, or in it
pub record EndsInPart (Spells : Spelling) (start : Open) (Says : Part → List ℕ → Type 0) (text : List ℕ) : Type 0 where
  pub top : Open
  pub below : List Open
  pub rest : List ℕ
  pub passes : Passes Spells (start ∷ []) text (top ∷ below) rest
  pub part : Part
  pub opens : WordOf part → List Open
  pub is_first : first_of top ≡ a_part part opens
  pub says : Says part rest

-- in a binary that ends behind `limit` bytes of the text
pub record EndsPast (Spells : Spelling) (start : Open) (limit : ℕ) (text : List ℕ) : Type 0 where
  pub many : ℕ
  pub below : List Open
  pub rest : List ℕ
  pub passes : Passes Spells (start ∷ []) text (in_bytes many ∷ below) rest
  pub beyond : limit + length rest < length text + many

-- in front of a container for which no level is left
pub record EndsAtNoLevel (Spells : Spelling) (start : Open) (text : List ℕ) : Type 0 where
  pub top : Open
  pub below : List Open
  pub rest : List ℕ
  pub passes : Passes Spells (start ∷ []) text (top ∷ below) rest
  pub is_first : first_of top ≡ no_level

-- ---- wire formats

-- the whole text of what is open
abbrev pub WholeOf : Spelling → Open → List ℕ → Type 0
WholeOf Spells (in_struct left last) text = (fields : Fields) × FieldsThen Spells fields left last text []
WholeOf Spells (in_value left kind held) text = (tree : Tree) × (kind_of tree ≡ kind) × ValueThen Spells tree left held text []
WholeOf Spells other text = Passes Spells (other ∷ []) text [] []

-- The texts of what is open, as items of a wire format: whole ones, and what is known inside of one.
abbrev pub texts_from : Spelling → (Part → List ℕ → Type 0) → Open → Framing
texts_from Spells ThenVarint start = record {
  Whole = λ text. WholeOf Spells start text;
  ThenVarint = λ front. EndsInPart Spells start ThenVarint front;
  EndsPast = λ limit text. EndsPast Spells start limit text;
}

-- what refuses such a text, by the cause that this names: it ends in a part that no word of it begins, or at a container without a level
abbrev pub RefusedFrom : Spelling → (Part → Cause → List ℕ → Type 0) → Open → Cause → List ℕ → Type 0
RefusedFrom Spells Refuses start cause text =
    EndsInPart Spells start (λ part rest. BeginsNone Spells part rest × Refuses part cause rest) text ⊎ ((cause ≡ causes.TooDeep) × EndsAtNoLevel Spells start text)

-- what is open where a struct begins that no other container holds
abbrev pub outer_struct : Open
outer_struct = in_struct outer_levels (pos 0)
