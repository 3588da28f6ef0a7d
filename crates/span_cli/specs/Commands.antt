-- How a command is spelled in words.
use Rattle.std.specs.Prelude.{◌≡◌, ◌⊎◌, ℕ, List, [], ◌∷◌, Some, length, slice_get, codes, decimal}
use Rattle.span_io.specs.Forms.{form_word}
use Rattle.span_io.specs.declared.form.Form.{Form}
use Rattle.span_convert.specs.declared.written.Written.{Written}
use Rattle.span_notes.specs.Pairs.{CountStands, FormStands, PlaceStands}
pub use Rattle.span_notes.specs.Pairs.{texts}
use Rattle.span_cli.specs.GaugeLines.{IsGaugeCount}
use Rattle.span_cli.specs.Jobs.{Job, IfMakes, IfSpans, task_of}
use Rattle.span_cli.specs.declared.command.Command.{Command}
use Rattle.propagation.specs.HeaderForms.{header_form_word}
use Rattle.propagation.specs.declared.header_form.HeaderForm.{HeaderForm}
use Rattle.span_cli.specs.declared.command.Command.TheVariants.{Convert, Losses, Show, Check, Headers, Gauge, Serve}
use Rattle.span_cli.specs.declared.command.Long.{Long}
use Rattle.span_cli.specs.declared.command.Long.TheVariants as longs
use Rattle.span_cli.specs.declared.command.Side.{Side}
use Rattle.span_cli.specs.declared.command.Side.TheVariants.{From, To}

-- the options
abbrev pub side_word : Side → List ℕ
side_word From = codes "--from"
side_word To = codes "--to"

-- the modes with two options
abbrev pub long_word : Long → List ℕ
long_word longs.Convert = codes "convert"
long_word longs.Losses = codes "losses"

-- the option of `gauge`, before the number of spans
abbrev pub spans_word : List ℕ
spans_word = codes "--spans"

-- a mode with `--from F` and `--to F`, in either order
abbrev pub SpellsLong : Long → Form → Form → List (List ℕ) → Type 0
SpellsLong long from to words =
    (words ≡ long_word long ∷ side_word From ∷ form_word from ∷ side_word To ∷ form_word to ∷ [])
    ⊎ (words ≡ long_word long ∷ side_word To ∷ form_word to ∷ side_word From ∷ form_word from ∷ [])

-- `serve` with `--listen A`, `--to F` and `--count N`, in any order. The word A stands at the place `address`.
pub record SpellsServe (address : ℕ) (to : Form) (count : ℕ) (words : List (List ℕ)) : Type 0 where
  pub number : length words ≡ 7
  pub mode : slice_get words 0 ≡ Some (codes "serve")
  pub listen : PlaceStands words 1 (codes "--listen") address
  pub form : FormStands words 1 (codes "--to") to
  pub connections : CountStands words 1 (codes "--count") count

-- `convert` and `losses` with both; `show` and `check` with `--from F`; `headers` with `--to H`; `gauge` with `--spans N`; `serve`
-- with its three
abbrev pub Spells : Command → List (List ℕ) → Type 0
Spells (Convert from to) words = SpellsLong longs.Convert from to words
Spells (Losses from to) words = SpellsLong longs.Losses from to words
Spells (Show from) words = words ≡ codes "show" ∷ side_word From ∷ form_word from ∷ []
Spells (Check from) words = words ≡ codes "check" ∷ side_word From ∷ form_word from ∷ []
Spells (Headers form) words = words ≡ codes "headers" ∷ side_word To ∷ header_form_word form ∷ []
Spells (Gauge spans) words = (words ≡ codes "gauge" ∷ spans_word ∷ decimal spans ∷ []) × IsGaugeCount spans
Spells (Serve address to count) words = SpellsServe address to count words

-- ---- what the words ask for

-- the fact holds of the job of the command that the words spell, where it has one
abbrev pub OnJob : List (List ℕ) → (Job → Type 0) → Type 0
OnJob words P = (command : Command) → Spells command words → IfMakes (task_of command) P

-- the fact holds where the words spell another command than `serve`
abbrev pub UnlessServing : List (List ℕ) → Type 0 → Type 0
UnlessServing words P = OnJob words (λ job. P)

-- the same of the form that is read and of what is written, where spans are
abbrev pub OnSpans : List (List ℕ) → (Form → Written → Type 0) → Type 0
OnSpans words P = OnJob words (λ job. IfSpans job P)

-- the same of the forms between which the words of `convert` ask for a conversion
abbrev pub OnConversions : List (List ℕ) → (Form → Form → Type 0) → Type 0
OnConversions words P = (from to : Form) → Spells (Convert from to) words → P from to

-- the same of the forms between which the words of `losses` ask for a report
abbrev pub OnLosses : List (List ℕ) → (Form → Form → Type 0) → Type 0
OnLosses words P = (from to : Form) → Spells (Losses from to) words → P from to

-- the same of the form of headers that the words of `headers` spell
abbrev pub OnHeaders : List (List ℕ) → (HeaderForm → Type 0) → Type 0
OnHeaders words P = (form : HeaderForm) → Spells (Headers form) words → P form

-- the same of the number of spans that the words of `gauge` spell
abbrev pub OnGauge : List (List ℕ) → (ℕ → Type 0) → Type 0
OnGauge words P = (spans : ℕ) → Spells (Gauge spans) words → P spans

-- the fact holds of the word A, the form and the number of connections, where the words spell `serve`
abbrev pub OnServing : List (List ℕ) → (List ℕ → Form → ℕ → Type 0) → Type 0
OnServing words P = (address : ℕ) (to : Form) (count : ℕ) → Spells (Serve address to count) words
    → (word : List ℕ) → slice_get words address ≡ Some word → P word to count
