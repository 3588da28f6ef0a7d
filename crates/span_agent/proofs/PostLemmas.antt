-- Lists of datagrams.
use Rattle.std.proofs.Common.{ℕ, ◌≤◌, List, [], ◌∷◌, ◌++◌, length}
use Rattle.span_agent.specs.Datagrams.{AreDatagrams}
use Rattle.span_agent.specs.Posts.{most_bytes}

-- with one more
pub fits_more : (datagrams : List (List ℕ)) (datagram : List ℕ) → AreDatagrams datagrams → length datagram ≤ most_bytes → AreDatagrams (datagrams ++ datagram ∷ [])
fits_more [] datagram all fits = (fits, tt)
fits_more (first ∷ datagrams) datagram all fits = (all.0, fits_more datagrams datagram all.1 fits)
