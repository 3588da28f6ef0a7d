-- The words of the relay, read option by option.
use Rattle.std.proofs.Common.{◌≡◌, ◌↔◌, ℕ, ◌<◌, List, length, Option, Some, None, String, Global, refl, sym, subst, ◌∙◌}
use Rattle.std.specs.Prelude.{codes, slice_get}
use Rattle.span_io.specs.declared.form.Form.{Form}
use Rattle.span_notes.specs.Pairs.{CountStands, FormStands, PlaceStands, texts}
use Rattle.span_notes.proofs.WordLaws.{one_word, place_within}
use Rattle.span_relay.specs.Peers.{IsPeerAddress}
use Rattle.span_relay.specs.RelayWords.{CanRelay, SpellsOptions}
use Rattle.span_relay.specs.declared.options.Options.{Options}

-- the places of both addresses are of the words
pub address_within : (words : List (String Global)) (options : Options) → SpellsOptions options (texts words) → options.address < length words
address_within words options s = place_within words 0 (codes "--listen") options.address s.listen.0 s.listen.1

pub peer_within : (words : List (String Global)) (options : Options) → SpellsOptions options (texts words) → options.peer < length words
peer_within words options s = place_within words 0 (codes "--peer") options.peer s.peer.0 s.peer.1

-- the peer's word is an address
pub peer_address : (t : List (List ℕ)) (options : Options) (word : List ℕ) → SpellsOptions options t → slice_get t options.peer ≡ Some word → IsPeerAddress word
peer_address t options word s here =
    subst IsPeerAddress (one_word s.peer.0 word (sym s.peer.1.is_pair.is_word ∙ here)) s.peer.2.is_peer.is_address

-- where one of the options isn't read, none are spelled
pub none_spelled : (result : Option Options) (options : Options) (t : List (List ℕ)) → result ≡ None → (SpellsOptions options t → ⊥) → (result ≡ Some options) ↔ SpellsOptions options t
none_spelled result options t is none = (
  λ same. absurd (let h : ◌≡◌ {A = Option Options} None (Some options) = sym is ∙ same in cc),
  λ spelled. absurd (none spelled),
)

pub never_place : (place : ℕ) → ◌≡◌ {A = Option ℕ} None (Some place) → ⊥
never_place place e = cc

pub never_form : (form : Form) → ◌≡◌ {A = Option Form} None (Some form) → ⊥
never_form form e = cc

module _ (t : List (List ℕ)) (eight : length t ≡ 8) (address peer : ℕ) (to : Form) (count : ℕ) (word : List ℕ) (here : slice_get t peer ≡ Some word)
    (listen : (place : ℕ) → (◌≡◌ {A = Option ℕ} (Some address) (Some place)) ↔ PlaceStands t 0 (codes "--listen") place)
    (form : (other : Form) → (◌≡◌ {A = Option Form} (Some to) (Some other)) ↔ FormStands t 0 (codes "--to") other)
    (peers : (place : ℕ) → (◌≡◌ {A = Option ℕ} (Some peer) (Some place)) ↔ PlaceStands t 0 (codes "--peer") place)
    (counts : (other : ℕ) → (◌≡◌ {A = Option ℕ} (Some count) (Some other)) ↔ CountStands t 0 (codes "--count") other) where
  abbrev these : Options
  these = record { address = address; to = to; peer = peer; count = count }

  same_number : (a b : ℕ) → ◌≡◌ {A = Option ℕ} (Some a) (Some b) → a ≡ b
  same_number a b e = cc

  same_form : (a b : Form) → ◌≡◌ {A = Option Form} (Some a) (Some b) → a ≡ b
  same_form a b e = cc

  same_options : (other : Options) → ◌≡◌ {A = Option Options} (Some these) (Some other) → these ≡ other
  same_options other e = cc

  spells_these : CanRelay to count word → SpellsOptions these t
  spells_these can =
      let p = (peers peer).0 refl in
      record {
        number = eight;
        listen = (listen address).0 refl;
        form = (form to).0 refl;
        peer = (p.0, p.1, subst (CanRelay to count) (one_word word p.0 (sym here ∙ p.1.is_pair.is_word)) can);
        connections = (counts count).0 refl;
      }

  are_these : (options : Options) → SpellsOptions options t → these ≡ options
  are_these options s = λ i. record {
    address = same_number address options.address ((listen options.address).1 s.listen) i;
    to = same_form to options.to ((form options.to).1 s.form) i;
    peer = same_number peer options.peer ((peers options.peer).1 (s.peer.0, s.peer.1)) i;
    count = same_number count options.count ((counts options.count).1 s.connections) i;
  }

  -- what is spelled can be relayed
  pub can_relay : (options : Options) → SpellsOptions options t → CanRelay to count word
  can_relay options s =
      let mine : SpellsOptions these t = subst (λ (o : Options). SpellsOptions o t) (sym (are_these options s)) s in
      subst (CanRelay to count) (one_word mine.peer.0 word (sym mine.peer.1.is_pair.is_word ∙ here)) mine.peer.2

  -- all were read
  pub all_spelled : CanRelay to count word → (options : Options) → (◌≡◌ {A = Option Options} (Some these) (Some options)) ↔ SpellsOptions options t
  all_spelled can options = (
    λ same. subst (λ (o : Options). SpellsOptions o t) (same_options options same) (spells_these can),
    λ s. λ i. Some (are_these options s i),
  )
