use Rattle.std.proofs.Common.{◌≡◌, ◌↔◌, ◌∷◌, [], ℕ, List, None, Some, Option, ap, sym, subst, ◌∙◌}
use Rattle.span_cli.specs.Commands.{Spells}
use Rattle.span_cli.specs.declared.command.Command.{Command}
use Rattle.span_cli.specs.declared.command.Short.{Short}
use Rattle.span_cli.specs.declared.command.Short.TheVariants as shorts
use Rattle.span_cli.proofs.CommandLemmas.{spells_check, spells_gauge, spells_headers, spells_short, spells_show}
use Rattle.span_cli.proofs.command.one_option.Goals as goal

pub returns-in_err-short_mode : goal.returns-in_err-short_mode
returns-in_err-short_mode c = λ command. (
  λ same. absurd (let h : ◌≡◌ {A = Option Command} None (Some command) = sym c.from_residual.ensures ∙ same in cc),
  λ spelled. absurd (spells_short c.args.mode.now c.args.option.now c.args.word.now command
      (λ short p q. let h : ◌≡◌ {A = Option Short} None (Some short) = (c.in_err-short_mode.ensures short).1 (p, q) in cc) spelled),
)

pub returns-in-Show : goal.returns-in-Show
returns-in-Show c = λ command.
    let words = (c.in_ok-short_mode.ensures shorts.Show).0 (ap (λ (s : Short). Some s) c.in-Show.is) in
    let both = spells_show c.args.mode.now c.args.option.now c.as_bytes-bytes.result.now command words.0 words.1 in
    subst (λ (l : List ℕ). (c.show.result ≡ Some command) ↔ Spells command (c.args.mode.now ∷ c.args.option.now ∷ l ∷ [])) c.as_bytes-bytes.ensures.value
    (λ same. both.0 ((c.show.ensures command).0 same), λ spelled. (c.show.ensures command).1 (both.1 spelled))

pub returns-in-Check : goal.returns-in-Check
returns-in-Check c = λ command.
    let words = (c.in_ok-short_mode.ensures shorts.Check).0 (ap (λ (s : Short). Some s) c.in-Check.is) in
    let both = spells_check c.args.mode.now c.args.option.now c.as_bytes-bytes.result.now command words.0 words.1 in
    subst (λ (l : List ℕ). (c.check.result ≡ Some command) ↔ Spells command (c.args.mode.now ∷ c.args.option.now ∷ l ∷ [])) c.as_bytes-bytes.ensures.value
    (λ same. both.0 ((c.check.ensures command).0 same), λ spelled. (c.check.ensures command).1 (both.1 spelled))

pub returns-in-Headers : goal.returns-in-Headers
returns-in-Headers c = λ command.
    let words = (c.in_ok-short_mode.ensures shorts.Headers).0 (ap (λ (s : Short). Some s) c.in-Headers.is) in
    let both = spells_headers c.args.mode.now c.args.option.now c.as_bytes-bytes.result.now command words.0 words.1 in
    subst (λ (l : List ℕ). (c.headers.result ≡ Some command) ↔ Spells command (c.args.mode.now ∷ c.args.option.now ∷ l ∷ [])) c.as_bytes-bytes.ensures.value
    (λ same. both.0 ((c.headers.ensures command).0 same), λ spelled. (c.headers.ensures command).1 (both.1 spelled))

pub returns-in-Gauge : goal.returns-in-Gauge
returns-in-Gauge c = λ command.
    let words = (c.in_ok-short_mode.ensures shorts.Gauge).0 (ap (λ (s : Short). Some s) c.in-Gauge.is) in
    let both = spells_gauge c.args.mode.now c.args.option.now c.args.word.now command words.0 words.1 in
    (λ same. both.0 ((c.gauge.ensures command).0 same), λ spelled. (c.gauge.ensures command).1 (both.1 spelled))
