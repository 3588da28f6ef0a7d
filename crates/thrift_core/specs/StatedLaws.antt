-- What is known of the texts of every protocol.
use Rattle.std.specs.Prelude.{◌≡◌, ◌⊎◌, ℕ, ℤ, pos, Bool, Option, List, [], ◌∷◌, ◌++◌, Ok}
use Rattle.span_io.specs.declared.cause.Cause.{Cause}
use Rattle.span_io.specs.declared.cause.Cause.TheVariants as causes
use Rattle.span_io.specs.Frames.{Framing, IsOpen, BeginsWhole, IsRefusedAt, CanBeCompleted}
use Rattle.thrift_core.specs.Parts.{Part, WordOf, Spelling, Begins}
use Rattle.thrift_core.specs.Reading.{ReadingOf}
use Rattle.thrift_core.specs.Protocols.{WritingOf, MayWrite}
use Rattle.thrift_core.specs.Trees.{Tree, Fields, kind_of, ValueThen, FieldsThen, StructText}
use Rattle.thrift_core.specs.Walks.{Open, Passes, outer_struct}
use Rattle.thrift_core.specs.Written.{Keeping, fields_written, MayWriteFields}
use Rattle.thrift_core.specs.Stops.{StopsFor, Lacks}

-- A part has one word, a value of some type one tree, and a struct one list of fields, whatever follows; and no struct's text is a
-- proper front of another's.
pub record OneReading (Spells : Spelling) : Type 0 where
  pub one_word : (part : Part) (word other : WordOf part) (whole rest left : List ℕ) → Begins Spells part word whole rest
      → Begins Spells part other whole left → (word ≡ other) × (rest ≡ left)
  pub one_value : (a b : Tree) (left : ℕ) (held : Option Bool) (whole rest other : List ℕ) → kind_of a ≡ kind_of b
      → ValueThen Spells a left held whole rest → ValueThen Spells b left held whole other → (a ≡ b) × (rest ≡ other)
  pub one_fields : (a b : Fields) (left : ℕ) (last : ℤ) (whole rest other : List ℕ) → FieldsThen Spells a left last whole rest
      → FieldsThen Spells b left last whole other → (a ≡ b) × (rest ≡ other)
  pub one_struct : (a b : Fields) (left : ℕ) (text longer more : List ℕ) → StructText Spells left a text
      → StructText Spells left b longer → longer ≡ text ++ more → (more ≡ []) × (a ≡ b)

-- What is written is read back, whatever follows.
pub record PartsReadBack (reads : ReadingOf) (keeps : Option Bool → Option Bool) (writes : WritingOf) : Type 0 where
  pub read_back : (part : Part) (word : WordOf part) (rest : List ℕ) → MayWrite keeps part word
      → reads part (writes part word ++ rest) ≡ Ok (word, rest)

-- Where a walk over a struct has neither ended nor refused the bytes, they can be completed to a struct, once a varint that isn't ended
-- is dropped at their end. The framing is that of structs, and EndsIn says what refuses them.
pub record OpenFronts (Spells : Spelling) (reads : ReadingOf) (F : Framing) (EndsIn : Cause → List ℕ → Type 0) : Type 0 where
  -- the walk stands behind all bytes, and something is open
  pub between : (text : List ℕ) (top : Open) (below : List Open) → Passes Spells (outer_struct ∷ []) text (top ∷ below) []
      → CanBeCompleted F text
  -- it stands in front of a part that isn't all there
  pub inside : (text : List ℕ) → StopsFor Spells reads outer_struct text causes.Truncated → CanBeCompleted F text
  -- it stands in a binary that isn't all there
  pub lacking : (text : List ℕ) (many : ℕ) → Lacks Spells outer_struct text many → CanBeCompleted F text
  pub completed : (text : List ℕ) → IsOpen F text → CanBeCompleted F text
  -- there is no other place
  pub all : (text : List ℕ) → IsOpen F text ⊎ (BeginsWhole F text ⊎ ((cause : Cause) × IsRefusedAt F (EndsIn cause) text))
  pub fronts : (front more : List ℕ) → IsOpen F (front ++ more) → IsOpen F front

-- What is written of the fields of a struct is their text, whatever follows.
pub record WrittenStructs (Spells : Spelling) (keeps : Keeping) (writes : WritingOf) : Type 0 where
  -- whatever follows
  pub fields : (fields : Fields) (left : ℕ) (last : ℤ) (rest : List ℕ) → MayWriteFields keeps fields left last
      → FieldsThen Spells fields left last (fields_written keeps writes fields left last ++ rest) rest
  pub struct_text : (fields : Fields) (left : ℕ) → MayWriteFields keeps fields left (pos 0)
      → StructText Spells left fields (fields_written keeps writes fields left (pos 0))
