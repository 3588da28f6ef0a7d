-- The words of the agent: `--listen A`, `--to F` and `--count N`, each once, in any order.
use Rattle.std.specs.Prelude.{◌≡◌, ℕ, List, length, slice_get, Some, codes}
use Rattle.span_io.specs.declared.form.Form.{Form}
use Rattle.span_notes.specs.Pairs.{CountStands, FormStands, PlaceStands}
use Rattle.span_agent.specs.declared.options.Options.{Options}

-- The word A stands at the place `address`.
pub record SpellsOptions (options : Options) (words : List (List ℕ)) : Type 0 where
  pub number : length words ≡ 6
  pub listen : PlaceStands words 0 (codes "--listen") options.address
  pub form : FormStands words 0 (codes "--to") options.to
  pub datagrams : CountStands words 0 (codes "--count") options.count

-- the fact holds of the word A, the form and the number of datagrams, where the words are these
abbrev pub OnOptions : List (List ℕ) → (List ℕ → Form → ℕ → Type 0) → Type 0
OnOptions words P = (options : Options) → SpellsOptions options words
    → (word : List ℕ) → slice_get words options.address ≡ Some word → P word options.to options.count
