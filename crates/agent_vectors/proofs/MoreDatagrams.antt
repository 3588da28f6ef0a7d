-- One datagram more.
use Rattle.std.proofs.Common.{ℕ, ◌≤◌, List, [], ◌∷◌, ◌++◌, length, ◌≡◌, sym, subst}
use Rattle.span_agent.specs.Datagrams.{AreDatagrams}
use Rattle.span_agent.specs.Posts.{most_bytes}

added : (datagrams : List (List ℕ)) (more : List ℕ) → AreDatagrams datagrams → length more ≤ most_bytes → AreDatagrams (datagrams ++ more ∷ [])
added [] more are fits = (fits, tt)
added (datagram ∷ datagrams) more are fits = (are.0, added datagrams more are.1 fits)

pub one_more : (datagrams : List (List ℕ)) (more : List ℕ) (all : List (List ℕ)) → all ≡ datagrams ++ more ∷ [] → AreDatagrams datagrams
    → length more ≤ most_bytes → AreDatagrams all
one_more datagrams more all is are fits = subst AreDatagrams (sym is) (added datagrams more are fits)
