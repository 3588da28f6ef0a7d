use Rattle.std.proofs.Common.{◌∷◌, rules}
use Rattle.json.specs.Token.{begin_object}
use Rattle.json_members.specs.private.Pieces.{rows_tokens}
use Rattle.json_members.proofs.WritingLaws.{goes_on, stops, exits_written}
use Rattle.otlp_json.proofs.writing.elements.write_elements.Goals as goal

pub returns-in_err-write : goal.returns-in_err-write
returns-in_err-write g c =
    exits_written _ c.in_err-write.field-0.0 _ _ _ _ (search rules)
    (stops (λ x. begin_object ∷ rows_tokens (g.T.Element.rows x)) c.args.items.now c.items.item-index c.item-item.result c.items-test.true c.item-item.is _ _ _ _ c.items.invariant c.in_err-write.ensures)

pub items-preserved : goal.items-preserved
items-preserved g c =
    goes_on (λ x. begin_object ∷ rows_tokens (g.T.Element.rows x)) c.args.items.now c.items.item-index c.item-item.result c.items-test.true c.item-item.is _ _ _ c.items.invariant c.in_ok-write.ensures
