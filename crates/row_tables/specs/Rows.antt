-- What a table of rows says.
use Rattle.std.specs.Prelude.{◌≡◌, ℕ, MatchOption, Bool, true, false, Option, None, Some, List, [], ◌∷◌, ◌++◌, ◌==◌, if◌then◌else◌, length, map}
use Rattle.std.specs.List.{before_first, after_first, filter_map}
use Rattle.std.specs.Str.{bytes_eq}
use Rattle.std.specs.Str.Parse.{IsNumeral, digits_value, without_leading_plus}
use Rattle.std.specs.String.{string_bytes}
use Rattle.row_tables.specs.Parts.{is_newline, is_blank, parts_of}
use Rattle.row_tables.specs.declared.row.Field.{Field}
use Rattle.row_tables.specs.declared.row.Row.{Row}

-- a key and its text
abbrev pub Pair : Type 0
Pair = List ℕ × List ℕ

-- the pairs with more text behind the last
abbrev pub with_more : List Pair → List ℕ → List Pair
with_more [] more = []
with_more (p ∷ []) more = (p.0, p.1 ++ more) ∷ []
with_more (p ∷ q ∷ ps) more = p ∷ with_more (q ∷ ps) more

-- the pairs with what a line adds: a key and the text behind a blank, and more text where the key is empty
abbrev pub with_line : List Pair → List ℕ → List Pair
with_line pairs line = if length (before_first is_blank line) == 0 then with_more pairs (after_first is_blank line)
    else pairs ++ ((before_first is_blank line, after_first is_blank line) ∷ [])

-- the pairs with what the lines up to the first empty one add
abbrev pub with_lines : List Pair → List (List ℕ) → List Pair
with_lines pairs [] = pairs
with_lines pairs (line ∷ lines) = if length line == 0 then pairs else with_lines (with_line pairs line) lines

-- a name and the pairs behind it
abbrev pub Told : Type 0
Told = List ℕ × List Pair

-- the rows that lines tell, where the first line is inside of a row or isn't: an empty line ends a row, and the next one names one
abbrev pub rows_in : Bool → List (List ℕ) → List Told
rows_in inside [] = []
rows_in inside (line ∷ lines) = if length line == 0 then rows_in false lines
    else if inside then rows_in true lines
    else (line, with_lines [] lines) ∷ rows_in true lines

-- the rows of a whole table, by its lines: the first line of a row is its name, and the lines behind it tell its pairs
abbrev pub rows_of : List ℕ → List Told
rows_of table = rows_in false (parts_of is_newline table)

-- what a row in memory says
abbrev pub key_of : Field → List ℕ
key_of field = field.key.now

-- the text of a field, which stands behind its key
abbrev pub text_of : Field → List ℕ
text_of field = string_bytes field.text

-- the name of a row
abbrev pub name_of : Row → List ℕ
name_of row = row.name.now

-- the fields of a row, in their order
abbrev pub fields_of : Row → List Field
fields_of row = row.fields.items

-- the keys and texts of fields, in their order
abbrev pub pairs_of : List Field → List Pair
pairs_of fields = map (λ f. (key_of f, text_of f)) fields

-- a row in memory as a table tells it: its name, and its keys with their texts
abbrev pub told_of : Row → Told
told_of row = (name_of row, pairs_of (fields_of row))

-- the text of a field that has this key
abbrev pub text_under : List ℕ → Field → Option (List ℕ)
text_under key field = if bytes_eq (key_of field) key then Some (text_of field) else None

-- the texts of a key
abbrev pub texts_of : List ℕ → Row → List (List ℕ)
texts_of key row = filter_map (text_under key) (fields_of row)

-- the text, if one stands alone, is a number in decimal digits
abbrev pub TellsNumber : List (List ℕ) → Option ℕ → Type 0
TellsNumber texts number = MatchOption number (texts ≡ [])
    (λ n. (text : List ℕ) × (texts ≡ text ∷ []) × IsNumeral 10 (without_leading_plus text) × (n ≡ digits_value 10 (without_leading_plus text)))
