-- The words of `serve`, read option by option.
use Rattle.std.proofs.Common.{◌≡◌, ◌⊎◌, ◌↔◌, ℕ, ◌<◌, List, length, Option, Some, None, refl, sym, ap, subst, ◌∙◌, inl, inr, arith}
use Rattle.std.specs.Prelude.{codes, slice_get}
use Rattle.span_io.specs.declared.form.Form.{Form}
use Rattle.span_notes.specs.Pairs.{CountStands, FormStands, PlaceStands}
use Rattle.span_cli.specs.Commands.{SpellsServe, Spells}
use Rattle.span_cli.specs.declared.command.Command.{Command}
use Rattle.span_cli.specs.declared.command.Command.TheVariants.{Convert, Losses, Show, Check, Headers, Gauge, Serve}

-- ---- seven words

-- they spell no mode but `serve`
pub record IsServe (command : Command) (t : List (List ℕ)) : Type 0 where
  pub address : ℕ
  pub to : Form
  pub count : ℕ
  pub is : command ≡ Serve address to count
  pub spells : SpellsServe address to count t

other_number : (t words : List (List ℕ)) (n : ℕ) → length t ≡ 7 → t ≡ words → length words ≡ n → n < 7 → ⊥
other_number t words n seven e number few = let same : length t ≡ length words = ap length e in absurd (omega (arith, seven, same, number, few))

not_long : (t five other : List (List ℕ)) → length t ≡ 7 → length five ≡ 5 → length other ≡ 5 → (t ≡ five) ⊎ (t ≡ other) → ⊥
not_long t five other seven one two (inl h) = other_number t five 5 seven h one (omega arith)
not_long t five other seven one two (inr h) = other_number t other 5 seven h two (omega arith)

is_serve : (command : Command) (t : List (List ℕ)) → length t ≡ 7 → Spells command t → IsServe command t
is_serve (Serve address to count) t seven spelled = record { address = address; to = to; count = count; is = refl; spells = spelled }
is_serve (Convert from to) t seven spelled = absurd (not_long t _ _ seven refl refl spelled)
is_serve (Losses from to) t seven spelled = absurd (not_long t _ _ seven refl refl spelled)
is_serve (Show from) t seven spelled = absurd (other_number t _ 3 seven spelled refl (omega arith))
is_serve (Check from) t seven spelled = absurd (other_number t _ 3 seven spelled refl (omega arith))
is_serve (Headers form) t seven spelled = absurd (other_number t _ 3 seven spelled refl (omega arith))
is_serve (Gauge spans) t seven spelled = absurd (other_number t _ 3 seven spelled.0 refl (omega arith))

-- where the mode is another one, or one of the options isn't read, no command is spelled
module _ (t : List (List ℕ)) (seven : length t ≡ 7) (result : Option Command) (is : result ≡ None) (command : Command) where
  none_spelled : (Spells command t → ⊥) → (result ≡ Some command) ↔ Spells command t
  none_spelled none = (
    λ same. absurd (let h : ◌≡◌ {A = Option Command} None (Some command) = sym is ∙ same in cc),
    λ spelled. absurd (none spelled),
  )

  pub no_mode : (slice_get t 0 ≡ Some (codes "serve") → ⊥) → (result ≡ Some command) ↔ Spells command t
  no_mode none = none_spelled (λ spelled. none (is_serve command t seven spelled).spells.mode)

  pub no_place : ((place : ℕ) → (◌≡◌ {A = Option ℕ} None (Some place)) ↔ PlaceStands t 1 (codes "--listen") place) → (result ≡ Some command) ↔ Spells command t
  no_place listen = none_spelled (λ spelled. let s = is_serve command t seven spelled in never s.address ((listen s.address).1 s.spells.listen))
    where
      never : (place : ℕ) → ◌≡◌ {A = Option ℕ} None (Some place) → ⊥
      never place e = cc

  pub no_form : ((to : Form) → (◌≡◌ {A = Option Form} None (Some to)) ↔ FormStands t 1 (codes "--to") to) → (result ≡ Some command) ↔ Spells command t
  no_form form = none_spelled (λ spelled. let s = is_serve command t seven spelled in never s.to ((form s.to).1 s.spells.form))
    where
      never : (to : Form) → ◌≡◌ {A = Option Form} None (Some to) → ⊥
      never to e = cc

  pub no_count : ((count : ℕ) → (◌≡◌ {A = Option ℕ} None (Some count)) ↔ CountStands t 1 (codes "--count") count) → (result ≡ Some command) ↔ Spells command t
  no_count counts = none_spelled (λ spelled. let s = is_serve command t seven spelled in never s.count ((counts s.count).1 s.spells.connections))
    where
      never : (count : ℕ) → ◌≡◌ {A = Option ℕ} None (Some count) → ⊥
      never count e = cc

module _ (t : List (List ℕ)) (seven : length t ≡ 7) (mode : slice_get t 0 ≡ Some (codes "serve")) (address : ℕ) (to : Form) (count : ℕ)
    (listen : (place : ℕ) → (◌≡◌ {A = Option ℕ} (Some address) (Some place)) ↔ PlaceStands t 1 (codes "--listen") place)
    (form : (other : Form) → (◌≡◌ {A = Option Form} (Some to) (Some other)) ↔ FormStands t 1 (codes "--to") other)
    (counts : (other : ℕ) → (◌≡◌ {A = Option ℕ} (Some count) (Some other)) ↔ CountStands t 1 (codes "--count") other) where
  spells_it : SpellsServe address to count t
  spells_it = record { number = seven; mode = mode; listen = (listen address).0 refl; form = (form to).0 refl; connections = (counts count).0 refl }

  same_number : (a b : ℕ) → ◌≡◌ {A = Option ℕ} (Some a) (Some b) → a ≡ b
  same_number a b e = cc

  same_form : (a b : Form) → ◌≡◌ {A = Option Form} (Some a) (Some b) → a ≡ b
  same_form a b e = cc

  is_it : (command : Command) → Spells command t → Serve address to count ≡ command
  is_it command spelled =
      let s = is_serve command t seven spelled in
      let same_address = same_number address s.address ((listen s.address).1 s.spells.listen) in
      let same_to = same_form to s.to ((form s.to).1 s.spells.form) in
      let same_count = same_number count s.count ((counts s.count).1 s.spells.connections) in
      (λ i. Serve (same_address i) (same_to i) (same_count i)) ∙ sym s.is

  -- all were read
  pub serve_spelled : (command : Command) → (◌≡◌ {A = Option Command} (Some (Serve address to count)) (Some command)) ↔ Spells command t
  serve_spelled command = (
    λ same. subst (λ (c : Command). Spells c t) (serve_read command same) spells_it,
    λ spelled. ap (λ (c : Command). Some c) (is_it command spelled),
  )
    where
      serve_read : (other : Command) → ◌≡◌ {A = Option Command} (Some (Serve address to count)) (Some other) → Serve address to count ≡ other
      serve_read other e = cc
