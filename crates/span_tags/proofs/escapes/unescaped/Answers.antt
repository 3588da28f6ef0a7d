use Rattle.std.proofs.Common.{sym, ◌∙◌}
use Rattle.span_tags.specs.Escapes.{is_escaped}
use Rattle.span_tags.proofs.EscapeLaws.{no_key, unescaped_same}
use Rattle.span_tags.proofs.escapes.unescaped.Goals as goal

pub returns-then-not-has_escaped-clause-value : goal.returns-then-not-has_escaped-clause-value
returns-then-not-has_escaped-clause-value g c =
    sym (unescaped_same g.R.Reserves.reserved c.args.tags c.requires.rising
    (no_key (is_escaped g.R.Reserves.reserved) c.args.tags (sym c.has_escaped.ensures ∙ c.if-not-has_escaped.true)))
