-- A spool whose rows are told stays one by a row more and by the first row less.
use Rattle.std.proofs.Common.{◌≡◌, ◌≢◌, ℕ, ◌+◌, ◌-◌, ◌<◌, List, [], ◌∷◌, ◌++◌, length, drop, Some, refl, arith, ap, ◌∙◌, length-append, length-drop}
use Rattle.span_spool.proofs.RowLemmas.{numbered_drop, numbered_more}
use Rattle.span_spool.specs.Calls.{DropsRow, KeepsRow}
use Rattle.span_io.specs.declared.form.Form.{Form}
use Rattle.span_spool.specs.Spools.{IsSpool, Spool, last_number}
use Rattle.span_spool.specs.declared.kept.Kept.{Kept}

-- the spool of rows that are told
abbrev pub of_rows : List Kept → ℕ → ℕ → ℕ → Spool
of_rows rows room next faults = record { rows = Some rows; room = room; held = length rows; next = next; faults = faults }

pub grown_rows : (rows : List Kept) (row : Kept) (room next faults : ℕ) → IsSpool (of_rows rows room next faults) → length rows ≢ room → next ≢ last_number
    → row.number ≡ next → IsSpool (of_rows (rows ++ row ∷ []) room (next + 1) faults)
grown_rows rows row room next faults h some more number =
    let long : length (rows ++ row ∷ []) ≡ length rows + 1 = length-append rows (row ∷ []) in
    let first : next + 1 - length (rows ++ row ∷ []) ≡ next - length rows = omega (arith, h.below) in
    record {
      within = omega (arith, h.within);
      below = omega (arith, h.below);
      last = omega (arith, h.last);
      count = refl;
      numbered = rw first (numbered_more (next - length rows) rows row h.numbered (number ∙ omega (arith, h.below)));
    }

pub shrunk_rows : (rows : List Kept) (room next faults : ℕ) → IsSpool (of_rows rows room next faults) → 0 < length rows
    → IsSpool (of_rows (drop 1 rows) room next faults)
shrunk_rows rows room next faults h some =
    let long : length (drop 1 rows) ≡ length rows - 1 = length-drop 1 rows in
    let first : next - length (drop 1 rows) ≡ next - length rows + 1 = omega (arith, h.below) in
    record {
      within = omega (arith, h.within);
      below = omega (arith, h.below);
      last = h.last;
      count = refl;
      numbered = rw first (numbered_drop (next - length rows) 1 rows h.numbered);
    }

-- what a row more is to a spool of told rows
pub keeps_grown : (rows : List Kept) (room next faults : ℕ) (form : Form) (body : List ℕ) → length rows ≢ room → next ≢ last_number
    → KeepsRow form body (of_rows rows room next faults) (of_rows (rows ++ record { number = next; form = form; body = body } ∷ []) room (next + 1) faults) next
keeps_grown rows room next faults form body some more =
    let row : Kept = record { number = next; form = form; body = body } in
    record {
      room = some;
      numbers = more;
      number = refl;
      grows = ap (λ n. record { rows = Some (rows ++ row ∷ []); room = room; held = n; next = next + 1; faults = faults }) (length-append rows (row ∷ []));
    }

-- and the first row less
pub drops_shrunk : (rows : List Kept) (room next faults number : ℕ) → 0 < length rows → number ≡ next - length rows
    → DropsRow number (of_rows rows room next faults) (of_rows (drop 1 rows) room next faults)
drops_shrunk rows room next faults number some is_first = record {
  some = some;
  is_first = is_first;
  shrinks = ap (λ n. record { rows = Some (drop 1 rows); room = room; held = n; next = next; faults = faults }) (length-drop 1 rows);
}
