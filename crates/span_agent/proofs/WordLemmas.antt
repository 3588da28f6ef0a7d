-- The words of the agent, read option by option.
use Rattle.std.proofs.Common.{◌≡◌, ◌↔◌, ℕ, ◌<◌, List, length, Option, Some, None, String, Global, refl, sym, subst, ◌∙◌}
use Rattle.span_io.specs.declared.form.Form.{Form}
use Rattle.span_notes.specs.Pairs.{CountStands, FormStands, PlaceStands, texts}
use Rattle.span_notes.proofs.WordLaws.{place_within}
use Rattle.std.specs.Prelude.{codes}
use Rattle.span_agent.specs.AgentWords.{SpellsOptions}
use Rattle.span_agent.specs.declared.options.Options.{Options}

-- the place of the address is one of the words
pub address_within : (words : List (String Global)) (options : Options) → SpellsOptions options (texts words) → options.address < length words
address_within words options s = place_within words 0 (codes "--listen") options.address s.listen.0 s.listen.1

-- where one of the options isn't read, none are spelled
pub none_spelled : (result : Option Options) (options : Options) (t : List (List ℕ)) → result ≡ None → (SpellsOptions options t → ⊥) → (result ≡ Some options) ↔ SpellsOptions options t
none_spelled result options t is none = (
  λ same. absurd (let h : ◌≡◌ {A = Option Options} None (Some options) = sym is ∙ same in cc),
  λ spelled. absurd (none spelled),
)

pub never_place : (place : ℕ) → ◌≡◌ {A = Option ℕ} None (Some place) → ⊥
never_place place e = cc

pub never_form : (form : Form) → ◌≡◌ {A = Option Form} None (Some form) → ⊥
never_form form e = cc

module _ (t : List (List ℕ)) (six : length t ≡ 6) (address : ℕ) (to : Form) (count : ℕ)
    (listen : (place : ℕ) → (◌≡◌ {A = Option ℕ} (Some address) (Some place)) ↔ PlaceStands t 0 (codes "--listen") place)
    (form : (other : Form) → (◌≡◌ {A = Option Form} (Some to) (Some other)) ↔ FormStands t 0 (codes "--to") other)
    (datagrams : (other : ℕ) → (◌≡◌ {A = Option ℕ} (Some count) (Some other)) ↔ CountStands t 0 (codes "--count") other) where
  abbrev these : Options
  these = record { address = address; to = to; count = count }

  spells_these : SpellsOptions these t
  spells_these = record { number = six; listen = (listen address).0 refl; form = (form to).0 refl; datagrams = (datagrams count).0 refl }

  same_number : (a b : ℕ) → ◌≡◌ {A = Option ℕ} (Some a) (Some b) → a ≡ b
  same_number a b e = cc

  same_form : (a b : Form) → ◌≡◌ {A = Option Form} (Some a) (Some b) → a ≡ b
  same_form a b e = cc

  same_options : (other : Options) → ◌≡◌ {A = Option Options} (Some these) (Some other) → these ≡ other
  same_options other e = cc

  -- all were read
  pub all_spelled : (options : Options) → (◌≡◌ {A = Option Options} (Some these) (Some options)) ↔ SpellsOptions options t
  all_spelled options = (
    λ same. subst (λ (o : Options). SpellsOptions o t) (same_options options same) spells_these,
    λ s. λ i. Some (record {
      address = same_number address options.address ((listen options.address).1 s.listen) i;
      to = same_form to options.to ((form options.to).1 s.form) i;
      count = same_number count options.count ((datagrams options.count).1 s.datagrams) i;
    }),
  )
