-- An address that a test told from a door's own.
use Rattle.std.proofs.Common.{◌≡◌, ◌≢◌, ℕ, List, false, sym, ◌∙◌}
use Rattle.std.specs.Cmp.Lexicographic.{other_text}
use Rattle.std.specs.Str.{bytes_eq}

pub elsewhere : (address own lent : List ℕ) → false ≡ bytes_eq address lent → lent ≡ own → address ≢ own
elsewhere address own lent other same at = other_text address lent other (at ∙ sym same)
