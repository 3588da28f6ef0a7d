use Rattle.std.proofs.Common.{◌∷◌, take, Ok}
use Rattle.json.specs.Token.{begin_object}
use Rattle.span_io.specs.declared.halt.OutOfMemory.{OutOfMemory}
use Rattle.json_members.specs.Writing.{Appends}
use Rattle.json_members.specs.private.Pieces.{rows_tokens, pieces}
use Rattle.otlp_json.proofs.writing.elements.write_elements.Given as goal

abbrev pub invariant-items : goal.invariant-items
invariant-items g l = Appends {E = OutOfMemory} (Ok tt) l.initial.out l.out (pieces (λ x. begin_object ∷ rows_tokens (g.T.Element.rows x)) (take l.item-index l.items))
