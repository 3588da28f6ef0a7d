-- The values of the lines of a field, line by line.
use Rattle.std.proofs.Common.{◌≡◌, ℕ, Bool, true, false, cond, List, [], ◌∷◌, ◌++◌, sym, ap, subst, ◌∙◌}
use Rattle.std.specs.Prelude.{filter, map}
use Rattle.std.specs.Borrow.{Bor}
use Rattle.std.specs.Str.{str_eq_ignore_ascii_case}
use Rattle.std.proofs.lemmas.List.{append-nil, map-append}
use Rattle.std.proofs.lemmas.List.Elements.{filter-append}
use Rattle.http_conn.specs.Fields.{Line, is_named, values}
use Rattle.http_conn.specs.private.FoundFields.{HoldsOnce}
use Rattle.http_conn.specs.declared.fields.Once.{Once}
use Rattle.http_conn.specs.declared.fields.Once.TheVariants.{At, Twice}

-- ---- values

values_more : (name : List ℕ) (lines more : List Line) → values name (lines ++ more) ≡ values name lines ++ values name more
values_more name lines more =
    ap (map (λ line. line.1)) (filter-append (is_named name) lines more)
    ∙ map-append (λ line. line.1) (filter (is_named name) lines) (filter (is_named name) more)

value_if : (name : List ℕ) (line : Line) (named : Bool) → named ≡ is_named name line → values name (line ∷ []) ≡ cond named (line.1 ∷ []) []
value_if name line true e = ap (λ b. map (λ l. l.1) (cond b (line ∷ []) [])) (sym e)
value_if name line false e = ap (λ b. map (λ l. l.1) (cond b (line ∷ []) [])) (sym e)

pub named_more : (wanted name value : List ℕ) (lines : List Line) → true ≡ str_eq_ignore_ascii_case name wanted
    → values wanted (lines ++ (name, value) ∷ []) ≡ values wanted lines ++ value ∷ []
named_more wanted name value lines e =
    let line : Line = (name, value) in
    values_more wanted lines (line ∷ []) ∙ ap (λ s. values wanted lines ++ s) (value_if wanted line true e)

pub other_more : (wanted name value : List ℕ) (lines : List Line) → false ≡ str_eq_ignore_ascii_case name wanted
    → values wanted (lines ++ (name, value) ∷ []) ≡ values wanted lines
other_more wanted name value lines e =
    let line : Line = (name, value) in
    values_more wanted lines (line ∷ []) ∙ ap (λ s. values wanted lines ++ s) (value_if wanted line false e) ∙ append-nil (values wanted lines)

-- ---- one value more

pub one_more : (held : Once) (was : Bor (List ℕ)) (values : List (List ℕ)) (value : List ℕ) → held ≡ At was → HoldsOnce held values
    → HoldsOnce Twice (values ++ value ∷ [])
one_more held was values value is holds =
    let one : values ≡ was.now ∷ [] = subst (λ o. HoldsOnce o values) is holds in
    (was.now, value, [], ap (λ l. l ++ value ∷ []) one)

pub twice_more : (held : Once) (values : List (List ℕ)) (value : List ℕ) → held ≡ Twice → HoldsOnce held values → HoldsOnce Twice (values ++ value ∷ [])
twice_more held values value is holds =
    let two : HoldsOnce Twice values = subst (λ o. HoldsOnce o values) is holds in
    (two.0, two.1, two.2 ++ value ∷ [], ap (λ l. l ++ value ∷ []) two.3)
