-- The words of the relay: `--listen A`, `--to F`, `--peer H` and `--count N`, each once, in any order.
use Rattle.std.specs.Prelude.{◌≡◌, ◌≢◌, ◌≤◌, ℕ, List, length, slice_get, Some, codes}
use Rattle.span_io.specs.declared.form.Form.{Form}
use Rattle.span_io.specs.declared.form.Form.TheVariants.{JaegerCompact}
use Rattle.span_notes.specs.Pairs.{CountStands, FormStands, HasOption, PlaceStands}
use Rattle.span_relay.specs.Peers.{IsPeerAddress}
use Rattle.span_relay.specs.declared.options.Options.{Options}

-- the word H: a peer's address
pub record IsPeerWord (word : List ℕ) : Type 0 where
  pub some : 1 ≤ length word
  pub most : length word ≤ 255
  pub is_address : IsPeerAddress word

-- What collectors take has no text in Jaeger's compact protocol, and there is a most of connections.
pub record CanRelay (to : Form) (count : ℕ) (peer : List ℕ) : Type 0 where
  pub taken : to ≢ JaegerCompact
  pub most : count ≤ 1000000
  pub is_peer : IsPeerWord peer

-- The word A stands at the place `address`, and H at the place `peer`.
pub record SpellsOptions (options : Options) (words : List (List ℕ)) : Type 0 where
  pub number : length words ≡ 8
  pub listen : PlaceStands words 0 (codes "--listen") options.address
  pub form : FormStands words 0 (codes "--to") options.to
  pub peer : (word : List ℕ) × HasOption words 0 (codes "--peer") options.peer word × CanRelay options.to options.count word
  pub connections : CountStands words 0 (codes "--count") options.count

-- the fact holds of the word A, the word H, the form and the number of connections, where the words are these
abbrev pub OnOptions : List (List ℕ) → (List ℕ → List ℕ → Form → ℕ → Type 0) → Type 0
OnOptions words P = (options : Options) → SpellsOptions options words
    → (address : List ℕ) → slice_get words options.address ≡ Some address
    → (peer : List ℕ) → slice_get words options.peer ≡ Some peer → P address peer options.to options.count
