-- The members that stand in a value, one behind the other.
use Rattle.std.proofs.Common.{◌≡◌, List, [], ◌∷◌, ◌++◌, Result, Ok, Err, OnErr, sym, ap, ◌∙◌}
use Rattle.otlp_json.specs.private.Found.{AreSeveral}
use Rattle.otlp_json.specs.Values.{JsonMember}

pub several_more : (xs ys : List JsonMember) → AreSeveral xs → AreSeveral (xs ++ ys)
several_more [] ys h = absurd h
several_more (m ∷ []) ys h = absurd h
several_more (m ∷ n ∷ ms) ys h = tt

-- one more that was looked at
pub looked_at : (seen more told_seen told_more told : List JsonMember) → told_seen ≡ seen → told_more ≡ more → told_seen ++ told_more ≡ told → told ≡ seen ++ more
looked_at seen more told_seen told_more told e f h = sym h ∙ ap (λ l. l ++ told_more) e ∙ ap (λ l. seen ++ l) f

pub on_any_err : {T E : Type 0} {P : Type 0} (r : Result T E) → P → OnErr r P
on_any_err (Ok x) p = tt
on_any_err (Err e) p = p

pub several_here : (seen more told_seen told_more : List JsonMember) → told_seen ≡ seen → told_more ≡ more → AreSeveral (told_seen ++ told_more) → AreSeveral (seen ++ more)
several_here seen more told_seen told_more e f h = rw (sym e, sym f) h
