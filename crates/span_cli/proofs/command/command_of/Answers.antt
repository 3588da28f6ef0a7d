use Rattle.std.proofs.Common.{◌≡◌, Some, None, Option, refl, ap, sym, ◌∙◌}
use Rattle.span_cli.specs.declared.command.Command.{Command}
use Rattle.span_cli.specs.declared.command.Long.{Long}
use Rattle.span_cli.specs.declared.command.Side.{Side}
use Rattle.span_cli.specs.declared.command.Side.TheVariants.{From, To}
use Rattle.span_cli.proofs.CommandLemmas.{spells_between, spells_long, spells_sides}
use Rattle.span_cli.proofs.command.command_of.Goals as goal

pub returns-in_err-long : goal.returns-in_err-long
returns-in_err-long c = λ command. (
  λ same. absurd (let h : ◌≡◌ {A = Option Command} None (Some command) = sym c.from_residual.ensures ∙ same in cc),
  λ spelled. absurd (spells_long c.args.mode.now c.args.first.now c.args.first_word.now c.args.second.now c.args.second_word.now command
      (λ long p. let h : ◌≡◌ {A = Option Long} None (Some long) = (c.in_err-long.ensures long).1 p in cc) spelled),
)

pub returns-in_err-first_side : goal.returns-in_err-first_side
returns-in_err-first_side c = λ command. (
  λ same. absurd (let h : ◌≡◌ {A = Option Command} None (Some command) = sym c.from_residual-in_err-first_side.ensures ∙ same in cc),
  λ spelled. absurd (spells_sides c.args.mode.now c.args.first.now c.args.first_word.now c.args.second.now c.args.second_word.now command
      (λ side p q. let h : ◌≡◌ {A = Option Side} None (Some side) = (c.in_err-first_side.ensures side).1 (p, q) in cc) spelled),
)

pub returns-in-From : goal.returns-in-From
returns-in-From c = λ command.
    let long = c.in_ok-long.long in
    let is_mode = (c.in_ok-long.ensures long).0 refl in
    let sides = (c.in_ok-first_side.ensures From).0 (ap (λ (s : Side). Some s) c.in-From.is) in
    let both = spells_between c.args.mode.now c.args.first.now c.args.first_word.now c.args.second.now c.args.second_word.now From long command is_mode sides.0 sides.1 in
    (λ same. both.0 ((c.between.ensures command).0 same), λ spelled. (c.between.ensures command).1 (both.1 spelled))

pub returns-in-To : goal.returns-in-To
returns-in-To c = λ command.
    let long = c.in_ok-long.long in
    let is_mode = (c.in_ok-long.ensures long).0 refl in
    let sides = (c.in_ok-first_side.ensures To).0 (ap (λ (s : Side). Some s) c.in-To.is) in
    let both = spells_between c.args.mode.now c.args.first.now c.args.first_word.now c.args.second.now c.args.second_word.now To long command is_mode sides.0 sides.1 in
    (λ same. both.0 ((c.between-in-To.ensures command).0 same), λ spelled. (c.between-in-To.ensures command).1 (both.1 spelled))
