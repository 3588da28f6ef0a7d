use Rattle.std.proofs.Common.{sym, ◌∙◌}
use Rattle.span_tags.specs.Escapes.{is_touched}
use Rattle.span_tags.proofs.EscapeLaws.{no_key, escaped_same}
use Rattle.span_tags.proofs.escapes.escaped.Goals as goal

pub returns-then-not-has_touched-clause-value : goal.returns-then-not-has_touched-clause-value
returns-then-not-has_touched-clause-value g c =
    sym (escaped_same g.R.Reserves.reserved c.args.attributes c.requires.rising
    (no_key (is_touched g.R.Reserves.reserved) c.args.attributes (sym c.has_touched.ensures ∙ c.if-not-has_touched.true)))
