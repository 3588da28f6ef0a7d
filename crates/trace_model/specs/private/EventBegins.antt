-- How a text that is the members of a JSON object begins (RFC 8259, section 4).
use Rattle.std.specs.Prelude.{ℕ, ◌==◌, ◌||◌, Bool, false, List, [], ◌∷◌}
use Rattle.json.specs.Ascii.{quote}
use Rattle.json.specs.Word.{is_space}

-- a quotation mark stands first, or a blank
abbrev pub begins_as_member : List ℕ → Bool
begins_as_member [] = false
begins_as_member (byte ∷ rest) = (byte == quote) || is_space byte
