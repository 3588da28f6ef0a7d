use Rattle.jaeger_model.proofs.ListLemmas.{Listing}
use Rattle.jaeger_model.proofs.reading.lists.read_elements.Given as goal

abbrev pub invariant-elements : goal.invariant-elements
invariant-elements g l =
    Listing g.P.Parts.spells l.fn.left l.fn.size (g.E.Element.rules l.fn.left) g.E.Element.means l.elements l.fn.c.rest l.c.rest l.counter
