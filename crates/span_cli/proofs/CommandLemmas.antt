-- A command is spelled by the mode, and its options in any order.
use Rattle.std.proofs.Common.{◌≡◌, ◌↔◌, Option, Some, ℕ, ◌<◌, ◌≤◌, List, [], ◌∷◌, length, get_or, inl, inr, sym, ap, ◌∙◌, arith}
use Rattle.std.specs.Prelude.{codes}
use Rattle.span_io.specs.Forms.{form_word}
use Rattle.span_io.specs.declared.form.Form.{Form}
use Rattle.span_cli.specs.declared.command.Command.{Command}
use Rattle.span_cli.specs.declared.command.Command.TheVariants.{Convert, Losses, Show, Check, Headers, Gauge, Serve}
use Rattle.span_cli.specs.declared.command.Long.{Long}
use Rattle.span_cli.specs.declared.command.Long.TheVariants as longs
use Rattle.span_cli.specs.declared.command.Short.{Short}
use Rattle.span_cli.specs.declared.command.Short.TheVariants as shorts
use Rattle.span_cli.specs.declared.command.Side.{Side}
use Rattle.span_cli.specs.declared.command.Side.TheVariants.{From, To}
use Rattle.span_cli.specs.Commands.{Spells, SpellsLong, SpellsServe, side_word, spans_word, long_word}
use Rattle.span_cli.specs.private.Words.{GoesBetween, ShowsForm, ChecksForm, WritesHeaders, WritesSizes, other_side, short_word, short_option}
use Rattle.span_cli.specs.Jobs.{IfMakes, task_of}
use Rattle.span_cli.specs.private.JobWords.{IsInRange}

-- the words that stand on the two sides
abbrev pub Between : Side → Command → Long → List ℕ → List ℕ → Type 0
Between From command long first second = GoesBetween command long first second
Between To command long first second = GoesBetween command long second first

-- the words of two equal lists of five
record Same (a b c d e a' b' c' d' e' : List ℕ) : Type 0 where
  first : a ≡ a'
  second : b ≡ b'
  third : c ≡ c'
  fourth : d ≡ d'
  fifth : e ≡ e'

same : (a b c d e a' b' c' d' e' : List ℕ) → a ∷ b ∷ c ∷ d ∷ e ∷ [] ≡ a' ∷ b' ∷ c' ∷ d' ∷ e' ∷ [] → Same a b c d e a' b' c' d' e'
same a b c d e a' b' c' d' e' h = record { first = cc; second = cc; third = cc; fourth = cc; fifth = cc }

listed : (a b c d e a' b' c' d' e' : List ℕ) → a ≡ a' → b ≡ b' → c ≡ c' → d ≡ d' → e ≡ e' → a ∷ b ∷ c ∷ d ∷ e ∷ [] ≡ a' ∷ b' ∷ c' ∷ d' ∷ e' ∷ []
listed a b c d e a' b' c' d' e' p q r s t = cc

other_word : side_word From ≡ side_word To → ⊥
other_word e = let lengths : ◌≡◌ {A = ℕ} 6 4 = ap length e in absurd (omega arith)

no_spans_word : (side : Side) → side_word side ≡ spans_word → ⊥
no_spans_word From e = let lengths : ◌≡◌ {A = ℕ} 6 7 = ap length e in absurd (omega arith)
no_spans_word To e = let lengths : ◌≡◌ {A = ℕ} 4 7 = ap length e in absurd (omega arith)

-- a command that is read
pub command_read : (command other : Command) → ◌≡◌ {A = Option Command} (Some command) (Some other) → command ≡ other
command_read command other e = cc

-- what is spelled is in its range
pub in_range : (command : Command) (words : List (List ℕ)) → Spells command words → IfMakes (task_of command) IsInRange
in_range (Convert from to) words spelled = tt
in_range (Losses from to) words spelled = tt
in_range (Show from) words spelled = tt
in_range (Check from) words spelled = tt
in_range (Headers form) words spelled = tt
in_range (Gauge spans) words spelled = spelled.1
in_range (Serve address to count) words spelled = tt

-- five words are no three
other_count : (a b c d e a' b' c' : List ℕ) → a ∷ b ∷ c ∷ d ∷ e ∷ [] ≡ a' ∷ b' ∷ c' ∷ [] → ⊥
other_count a b c d e a' b' c' h = let lengths : ◌≡◌ {A = ℕ} 5 3 = ap length h in absurd (omega arith)

-- ---- one option

-- the words of two equal lists of three
record SameThree (a b c a' b' c' : List ℕ) : Type 0 where
  first : a ≡ a'
  second : b ≡ b'
  third : c ≡ c'

same_three : (a b c a' b' c' : List ℕ) → a ∷ b ∷ c ∷ [] ≡ a' ∷ b' ∷ c' ∷ [] → SameThree a b c a' b' c'
same_three a b c a' b' c' h = record { first = cc; second = cc; third = cc }

listed_three : (a b c a' b' c' : List ℕ) → a ≡ a' → b ≡ b' → c ≡ c' → a ∷ b ∷ c ∷ [] ≡ a' ∷ b' ∷ c' ∷ []
listed_three a b c a' b' c' p q r = cc

show_or_check : codes "show" ≡ codes "check" → ⊥
show_or_check e = let lengths : ◌≡◌ {A = ℕ} 4 5 = ap length e in absurd (omega arith)

module _ (mode option word : List ℕ) where
  -- these have two options
  not_long : (long : Long) (from to : Form) → SpellsLong long from to (mode ∷ option ∷ word ∷ []) → ⊥
  not_long long from to (inl h) = other_count _ _ _ _ _ mode option word (sym h)
  not_long long from to (inr h) = other_count _ _ _ _ _ mode option word (sym h)

  -- this has three
  not_serve : (address : ℕ) (to : Form) (count : ℕ) → SpellsServe address to count (mode ∷ option ∷ word ∷ []) → ⊥
  not_serve address to count spelled = let lengths : ◌≡◌ {A = ℕ} 3 7 = spelled.number in absurd (omega arith)

  pub spells_show : (command : Command) → mode ≡ codes "show" → option ≡ side_word From → ShowsForm command word ↔ Spells command (mode ∷ option ∷ word ∷ [])
  spells_show (Serve address to count) is_mode is_option = (λ on. absurd on, λ spelled. absurd (not_serve address to count spelled))
  spells_show (Convert from to) is_mode is_option = (λ on. absurd on, λ spelled. absurd (not_long longs.Convert from to spelled))
  spells_show (Losses from to) is_mode is_option = (λ on. absurd on, λ spelled. absurd (not_long longs.Losses from to spelled))
  spells_show (Show from) is_mode is_option = (
    λ on. listed_three mode option word _ _ _ is_mode is_option on,
    λ spelled. (same_three mode option word _ _ _ spelled).third,
  )
  spells_show (Check from) is_mode is_option = (λ on. absurd on, λ spelled. absurd (show_or_check (sym is_mode ∙ (same_three mode option word _ _ _ spelled).first)))
  spells_show (Headers form) is_mode is_option = (λ on. absurd on, λ spelled. absurd (other_word (sym is_option ∙ (same_three mode option word _ _ _ spelled).second)))
  spells_show (Gauge spans) is_mode is_option = (λ on. absurd on, λ spelled. absurd (no_spans_word From (sym is_option ∙ (same_three mode option word _ _ _ spelled.0).second)))

  pub spells_check : (command : Command) → mode ≡ codes "check" → option ≡ side_word From → ChecksForm command word ↔ Spells command (mode ∷ option ∷ word ∷ [])
  spells_check (Serve address to count) is_mode is_option = (λ on. absurd on, λ spelled. absurd (not_serve address to count spelled))
  spells_check (Convert from to) is_mode is_option = (λ on. absurd on, λ spelled. absurd (not_long longs.Convert from to spelled))
  spells_check (Losses from to) is_mode is_option = (λ on. absurd on, λ spelled. absurd (not_long longs.Losses from to spelled))
  spells_check (Show from) is_mode is_option = (λ on. absurd on, λ spelled. absurd (show_or_check (sym (same_three mode option word _ _ _ spelled).first ∙ is_mode)))
  spells_check (Check from) is_mode is_option = (
    λ on. listed_three mode option word _ _ _ is_mode is_option on,
    λ spelled. (same_three mode option word _ _ _ spelled).third,
  )
  spells_check (Headers form) is_mode is_option = (λ on. absurd on, λ spelled. absurd (other_word (sym is_option ∙ (same_three mode option word _ _ _ spelled).second)))
  spells_check (Gauge spans) is_mode is_option = (λ on. absurd on, λ spelled. absurd (no_spans_word From (sym is_option ∙ (same_three mode option word _ _ _ spelled.0).second)))

  pub spells_headers : (command : Command) → mode ≡ codes "headers" → option ≡ side_word To → WritesHeaders command word ↔ Spells command (mode ∷ option ∷ word ∷ [])
  spells_headers (Serve address to count) is_mode is_option = (λ on. absurd on, λ spelled. absurd (not_serve address to count spelled))
  spells_headers (Convert from to) is_mode is_option = (λ on. absurd on, λ spelled. absurd (not_long longs.Convert from to spelled))
  spells_headers (Losses from to) is_mode is_option = (λ on. absurd on, λ spelled. absurd (not_long longs.Losses from to spelled))
  spells_headers (Show from) is_mode is_option = (λ on. absurd on, λ spelled. absurd (other_word (sym (same_three mode option word _ _ _ spelled).second ∙ is_option)))
  spells_headers (Check from) is_mode is_option = (λ on. absurd on, λ spelled. absurd (other_word (sym (same_three mode option word _ _ _ spelled).second ∙ is_option)))
  spells_headers (Headers form) is_mode is_option = (
    λ on. listed_three mode option word _ _ _ is_mode is_option on,
    λ spelled. (same_three mode option word _ _ _ spelled).third,
  )
  spells_headers (Gauge spans) is_mode is_option = (λ on. absurd on, λ spelled. absurd (no_spans_word To (sym is_option ∙ (same_three mode option word _ _ _ spelled.0).second)))

  pub spells_gauge : (command : Command) → mode ≡ codes "gauge" → option ≡ spans_word → WritesSizes command word ↔ Spells command (mode ∷ option ∷ word ∷ [])
  spells_gauge (Convert from to) is_mode is_option = (λ on. absurd on, λ spelled. absurd (not_long longs.Convert from to spelled))
  spells_gauge (Losses from to) is_mode is_option = (λ on. absurd on, λ spelled. absurd (not_long longs.Losses from to spelled))
  spells_gauge (Show from) is_mode is_option = (λ on. absurd on, λ spelled. absurd (no_spans_word From (sym (same_three mode option word _ _ _ spelled).second ∙ is_option)))
  spells_gauge (Check from) is_mode is_option = (λ on. absurd on, λ spelled. absurd (no_spans_word From (sym (same_three mode option word _ _ _ spelled).second ∙ is_option)))
  spells_gauge (Headers form) is_mode is_option = (λ on. absurd on, λ spelled. absurd (no_spans_word To (sym (same_three mode option word _ _ _ spelled).second ∙ is_option)))
  spells_gauge (Serve address to count) is_mode is_option = (λ on. absurd on, λ spelled. absurd (not_serve address to count spelled))
  spells_gauge (Gauge spans) is_mode is_option = (
    λ on. (listed_three mode option word _ _ _ is_mode is_option on.0, on.1),
    λ spelled. ((same_three mode option word _ _ _ spelled.0).third, spelled.1),
  )

  -- where the words are no mode with its option, no command is spelled
  pub spells_short : (command : Command) → ((short : Short) → mode ≡ short_word short → option ≡ short_option short → ⊥)
      → Spells command (mode ∷ option ∷ word ∷ []) → ⊥
  spells_short (Serve address to count) none spelled = not_serve address to count spelled
  spells_short (Convert from to) none spelled = not_long longs.Convert from to spelled
  spells_short (Losses from to) none spelled = not_long longs.Losses from to spelled
  spells_short (Show from) none spelled = let s = same_three mode option word _ _ _ spelled in none shorts.Show s.first s.second
  spells_short (Check from) none spelled = let s = same_three mode option word _ _ _ spelled in none shorts.Check s.first s.second
  spells_short (Headers form) none spelled = let s = same_three mode option word _ _ _ spelled in none shorts.Headers s.first s.second
  spells_short (Gauge spans) none spelled = let s = same_three mode option word _ _ _ spelled.0 in none shorts.Gauge s.first s.second

-- ---- two options

longs_differ : codes "convert" ≡ codes "losses" → ⊥
longs_differ e = let lengths : ◌≡◌ {A = ℕ} 7 6 = ap length e in absurd (omega arith)

-- the words of two options are those of the forms
abbrev SideWords : Side → List ℕ → List ℕ → Form → Form → Type 0
SideWords From first second source target = (first ≡ form_word source) × (second ≡ form_word target)
SideWords To first second source target = (second ≡ form_word source) × (first ≡ form_word target)

module _ (mode first first_word second second_word : List ℕ) where
  -- the words of both options spell the mode
  long_between : (side : Side) (long other : Long) (source target : Form) → mode ≡ long_word long → first ≡ side_word side → second ≡ side_word (other_side side)
      → SpellsLong other source target (mode ∷ first ∷ first_word ∷ second ∷ second_word ∷ []) → SideWords side first_word second_word source target × (long_word long ≡ long_word other)
  long_between From long other source target is_mode is_first is_second (inl h) =
      let s = same mode first first_word second second_word _ _ _ _ _ h in ((s.third, s.fifth), sym is_mode ∙ s.first)
  long_between From long other source target is_mode is_first is_second (inr h) =
      let s = same mode first first_word second second_word _ _ _ _ _ h in absurd (other_word (sym is_first ∙ s.second))
  long_between To long other source target is_mode is_first is_second (inl h) =
      let s = same mode first first_word second second_word _ _ _ _ _ h in absurd (other_word (sym s.second ∙ is_first))
  long_between To long other source target is_mode is_first is_second (inr h) =
      let s = same mode first first_word second second_word _ _ _ _ _ h in ((s.fifth, s.third), sym is_mode ∙ s.first)

  between_long : (side : Side) (long : Long) (source target : Form) → mode ≡ long_word long → first ≡ side_word side → second ≡ side_word (other_side side)
      → SideWords side first_word second_word source target → SpellsLong long source target (mode ∷ first ∷ first_word ∷ second ∷ second_word ∷ [])
  between_long From long source target is_mode is_first is_second words =
      inl (listed mode first first_word second second_word _ _ _ _ _ is_mode is_first words.0 is_second words.1)
  between_long To long source target is_mode is_first is_second words =
      inr (listed mode first first_word second second_word _ _ _ _ _ is_mode is_first words.1 is_second words.0)

  -- three words would be asked for
  short_count : (a b c : List ℕ) → mode ∷ first ∷ first_word ∷ second ∷ second_word ∷ [] ≡ a ∷ b ∷ c ∷ [] → ⊥
  short_count a b c h = other_count mode first first_word second second_word a b c h

  -- seven words would be asked for
  serve_count : (address : ℕ) (to : Form) (count : ℕ) → SpellsServe address to count (mode ∷ first ∷ first_word ∷ second ∷ second_word ∷ []) → ⊥
  serve_count address to count spelled = let lengths : ◌≡◌ {A = ℕ} 5 7 = spelled.number in absurd (omega arith)

  no_between : (side : Side) (command : Command) (long : Long) → ((source target : List ℕ) → GoesBetween command long source target → ⊥)
      → Between side command long first_word second_word → ⊥
  no_between From command long none between = none first_word second_word between
  no_between To command long none between = none second_word first_word between

  convert_between : (side : Side) (source target : Form) → Between side (Convert source target) longs.Convert first_word second_word
      ↔ SideWords side first_word second_word source target
  convert_between From source target = (λ b. b, λ b. b)
  convert_between To source target = (λ b. b, λ b. b)

  losses_between : (side : Side) (source target : Form) → Between side (Losses source target) longs.Losses first_word second_word
      ↔ SideWords side first_word second_word source target
  losses_between From source target = (λ b. b, λ b. b)
  losses_between To source target = (λ b. b, λ b. b)

  pub spells_between : (side : Side) (long : Long) (command : Command) → mode ≡ long_word long → first ≡ side_word side → second ≡ side_word (other_side side)
      → Between side command long first_word second_word ↔ Spells command (mode ∷ first ∷ first_word ∷ second ∷ second_word ∷ [])
  spells_between side long (Serve address to count) is_mode is_first is_second =
      (λ between. absurd (no_between side (Serve address to count) long (λ a b h. h) between), λ spelled. absurd (serve_count address to count spelled))
  spells_between side long (Headers form) is_mode is_first is_second =
      (λ between. absurd (no_between side (Headers form) long (λ a b h. h) between), λ spelled. absurd (short_count _ _ _ spelled))
  spells_between side long (Gauge spans) is_mode is_first is_second =
      (λ between. absurd (no_between side (Gauge spans) long (λ a b h. h) between), λ spelled. absurd (short_count _ _ _ spelled.0))
  spells_between side long (Show source) is_mode is_first is_second =
      (λ between. absurd (no_between side (Show source) long (λ a b h. h) between), λ spelled. absurd (short_count _ _ _ spelled))
  spells_between side long (Check source) is_mode is_first is_second =
      (λ between. absurd (no_between side (Check source) long (λ a b h. h) between), λ spelled. absurd (short_count _ _ _ spelled))
  spells_between side longs.Convert (Convert source target) is_mode is_first is_second = (
    λ between. between_long side longs.Convert source target is_mode is_first is_second ((convert_between side source target).0 between),
    λ spelled. (convert_between side source target).1 (long_between side longs.Convert longs.Convert source target is_mode is_first is_second spelled).0,
  )
  spells_between side longs.Losses (Losses source target) is_mode is_first is_second = (
    λ between. between_long side longs.Losses source target is_mode is_first is_second ((losses_between side source target).0 between),
    λ spelled. (losses_between side source target).1 (long_between side longs.Losses longs.Losses source target is_mode is_first is_second spelled).0,
  )
  spells_between side longs.Losses (Convert source target) is_mode is_first is_second = (
    λ between. absurd (no_between side (Convert source target) longs.Losses (λ a b h. h) between),
    λ spelled. absurd (longs_differ (sym (long_between side longs.Losses longs.Convert source target is_mode is_first is_second spelled).1)),
  )
  spells_between side longs.Convert (Losses source target) is_mode is_first is_second = (
    λ between. absurd (no_between side (Losses source target) longs.Convert (λ a b h. h) between),
    λ spelled. absurd (longs_differ (long_between side longs.Convert longs.Losses source target is_mode is_first is_second spelled).1),
  )

  -- where the options are not one of each side, no command is spelled
  no_sides : (long : Long) (source target : Form) → ((side : Side) → first ≡ side_word side → second ≡ side_word (other_side side) → ⊥)
      → SpellsLong long source target (mode ∷ first ∷ first_word ∷ second ∷ second_word ∷ []) → ⊥
  no_sides long source target none (inl h) = let s = same mode first first_word second second_word _ _ _ _ _ h in none From s.second s.fourth
  no_sides long source target none (inr h) = let s = same mode first first_word second second_word _ _ _ _ _ h in none To s.second s.fourth

  pub spells_sides : (command : Command) → ((side : Side) → first ≡ side_word side → second ≡ side_word (other_side side) → ⊥)
      → Spells command (mode ∷ first ∷ first_word ∷ second ∷ second_word ∷ []) → ⊥
  spells_sides (Serve address to count) none spelled = serve_count address to count spelled
  spells_sides (Show source) none spelled = short_count _ _ _ spelled
  spells_sides (Check source) none spelled = short_count _ _ _ spelled
  spells_sides (Headers form) none spelled = short_count _ _ _ spelled
  spells_sides (Gauge spans) none spelled = short_count _ _ _ spelled.0
  spells_sides (Convert source target) none spelled = no_sides longs.Convert source target none spelled
  spells_sides (Losses source target) none spelled = no_sides longs.Losses source target none spelled

  -- where the mode is none with two options, no command is spelled
  no_mode : (long : Long) (source target : Form) → ((other : Long) → mode ≡ long_word other → ⊥)
      → SpellsLong long source target (mode ∷ first ∷ first_word ∷ second ∷ second_word ∷ []) → ⊥
  no_mode long source target none (inl h) = none long (same mode first first_word second second_word _ _ _ _ _ h).first
  no_mode long source target none (inr h) = none long (same mode first first_word second second_word _ _ _ _ _ h).first

  pub spells_long : (command : Command) → ((long : Long) → mode ≡ long_word long → ⊥)
      → Spells command (mode ∷ first ∷ first_word ∷ second ∷ second_word ∷ []) → ⊥
  spells_long (Serve address to count) none spelled = serve_count address to count spelled
  spells_long (Show source) none spelled = short_count _ _ _ spelled
  spells_long (Check source) none spelled = short_count _ _ _ spelled
  spells_long (Headers form) none spelled = short_count _ _ _ spelled
  spells_long (Gauge spans) none spelled = short_count _ _ _ spelled.0
  spells_long (Convert source target) none spelled = no_mode longs.Convert source target none spelled
  spells_long (Losses source target) none spelled = no_mode longs.Losses source target none spelled

-- ---- five words

pub five : {A : Type 0} → (l : List A) (a b c d e : A) → 5 ≤ length l → length l < 6
    → a ≡ get_or l 0 a → b ≡ get_or l 1 b → c ≡ get_or l 2 c → d ≡ get_or l 3 d → e ≡ get_or l 4 e → l ≡ a ∷ b ∷ c ∷ d ∷ e ∷ []
five [] a b c d e some few p q r s t = absurd (omega arith)
five (v ∷ []) a b c d e some few p q r s t = absurd (omega arith)
five (v ∷ w ∷ []) a b c d e some few p q r s t = absurd (omega arith)
five (v ∷ w ∷ x ∷ []) a b c d e some few p q r s t = absurd (omega arith)
five (v ∷ w ∷ x ∷ y ∷ []) a b c d e some few p q r s t = absurd (omega arith)
five (v ∷ w ∷ x ∷ y ∷ z ∷ []) a b c d e some few p q r s t = λ i. sym p i ∷ sym q i ∷ sym r i ∷ sym s i ∷ sym t i ∷ []
five (v ∷ w ∷ x ∷ y ∷ z ∷ u ∷ more) a b c d e some few p q r s t = absurd (omega arith)
