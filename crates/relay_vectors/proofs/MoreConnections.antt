-- One connection more.
use Rattle.std.proofs.Common.{List, [], ◌∷◌, ◌++◌, ◌≡◌, sym, subst}
use Rattle.span_io.specs.Connections.{DuplexState, HasNoFault, HaveNoFault}

added : (conns : List DuplexState) (more : DuplexState) → HaveNoFault conns → HasNoFault more
    → HaveNoFault (conns ++ more ∷ [])
added [] more have has = (has, tt)
added (conn ∷ conns) more have has = (have.0, added conns more have.1 has)

pub one_more : (conns : List DuplexState) (more : DuplexState) (all : List DuplexState) → all ≡ conns ++ more ∷ []
    → HaveNoFault conns → HasNoFault more → HaveNoFault all
one_more conns more all is have has = subst HaveNoFault (sym is) (added conns more have has)
