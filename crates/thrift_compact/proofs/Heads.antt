-- What the heads of fields, lists and maps give, by what their parts give.
use Rattle.std.proofs.Common.{◌≡◌, ◌≢◌, ◌≤◌, ◌<◌, ◌≤ℤ◌, ◌<ℤ◌, ◌+ℤ◌, ◌/◌, ◌%◌, ◌∷◌, ℕ, zero, suc, ℤ, pos, negsuc, true, false, List, [], length, Option, Some, None, Result, Ok, Err, refl, arith}
use Rattle.std.proofs.lemmas.Bool.{lt-ltb, le-ltb}
use Rattle.std.proofs.lemmas.Int.{ints}
use Rattle.span_io.specs.declared.cause.Cause.{Cause}
use Rattle.span_io.specs.declared.cause.Cause.TheVariants as causes
use Rattle.thrift_core.specs.declared.type_code.TypeCode.{TypeCode}
use Rattle.thrift_core.specs.Levels.{why_none, why_no_pair}
use Rattle.thrift_core.specs.Reading.{GivesWord, unless}
use Rattle.thrift_spellings.specs.CompactTypeCodes.{compact_kind_of_code, held_by_code}
use Rattle.thrift_spellings.specs.CompactReading.{signed_at, is_signed, why_size, compact_size_at, id_at, compact_header_at, list_size_at, compact_list_at, compact_map_at}

-- ---- ids

pub id_told : (last : ℤ) (difference : ℕ) (text : List ℕ) → difference ≡ 0 → id_at last difference text ≡ signed_at 15 causes.BadWire text
id_told last difference text e = rw e refl

pub id_near : (last : ℤ) (difference : ℕ) (text : List ℕ) → difference ≢ 0 → negsuc 32767 ≤ℤ last → (last +ℤ pos difference) ≤ℤ pos 32767
    → id_at last difference text ≡ Ok (last +ℤ pos difference, text)
id_near last zero text some low high = absurd (some refl)
id_near last (suc n) text some low high = (let inside : is_signed 15 (last +ℤ pos (suc n)) ≡ true = grind (arith, ints) in rw inside refl)

pub id_outside : (last : ℤ) (difference : ℕ) (text : List ℕ) → difference ≢ 0 → pos 32767 <ℤ (last +ℤ pos difference) → id_at last difference text ≡ Err causes.BadWire
id_outside last zero text some high = absurd (some refl)
id_outside last (suc n) text some high = (let out : is_signed 15 (last +ℤ pos (suc n)) ≡ false = grind (arith, ints) in rw out refl)

pub ruleset of_id = (id_told, id_near, id_outside)

-- ---- fields

pub header_empty : (left : ℕ) (last : ℤ) (text : List ℕ) → length text < 1 → compact_header_at left last text ≡ Err causes.Truncated
unfolding compact_header_at
header_empty left last [] less = refl
header_empty left last (b ∷ rest) less = absurd (omega (arith, less))

pub header_stop : (left : ℕ) (last : ℤ) (text rest : List ℕ) (b : ℕ) → text ≡ b ∷ rest → b ≡ 0 → compact_header_at left last text ≡ Ok (None, rest)
unfolding compact_header_at
header_stop left last text rest b e is_zero = rw (e, is_zero) refl

pub header_unknown : (left : ℕ) (last : ℤ) (text rest : List ℕ) (b : ℕ) → text ≡ b ∷ rest → b ≢ 0 → compact_kind_of_code (b % 16) ≡ None → compact_header_at left last text ≡ Err causes.BadWire
unfolding compact_header_at
header_unknown left last text rest zero e other none = absurd (other refl)
header_unknown left last text rest (suc n) e other none = rw (e, none) refl

pub header_refused : (left : ℕ) (last : ℤ) (text rest : List ℕ) (b : ℕ) (kind : TypeCode) (cause : Cause) → text ≡ b ∷ rest → b ≢ 0 → compact_kind_of_code (b % 16) ≡ Some kind
    → why_none left (Some kind) ≡ Some cause → compact_header_at left last text ≡ Err cause
unfolding compact_header_at
header_refused left last text rest zero kind cause e other some why = absurd (other refl)
header_refused left last text rest (suc n) kind cause e other some why = rw (e, some, why) refl

pub header_short : (left : ℕ) (last : ℤ) (text rest : List ℕ) (b : ℕ) (kind : TypeCode) (cause : Cause) → text ≡ b ∷ rest → b ≢ 0 → compact_kind_of_code (b % 16) ≡ Some kind
    → why_none left (Some kind) ≡ None → id_at last (b / 16) rest ≡ Err cause → compact_header_at left last text ≡ Err cause
unfolding compact_header_at
header_short left last text rest zero kind cause e other some why read = absurd (other refl)
header_short left last text rest (suc n) kind cause e other some why read = rw (e, some, why, read) refl

pub header_read : (left : ℕ) (last : ℤ) (text rest after : List ℕ) (b : ℕ) (kind : TypeCode) (id : ℤ) → text ≡ b ∷ rest → b ≢ 0 → compact_kind_of_code (b % 16) ≡ Some kind
    → why_none left (Some kind) ≡ None → id_at last (b / 16) rest ≡ Ok (id, after) → compact_header_at left last text ≡ Ok (Some (record { id = id; kind = kind; held = held_by_code (b % 16) }), after)
unfolding compact_header_at
header_read left last text rest after zero kind id e other some why read = absurd (other refl)
header_read left last text rest after (suc n) kind id e other some why read = rw (e, some, why, read) refl

pub ruleset of_header = (header_empty, header_stop, header_unknown, header_refused, header_short, header_read)

-- ---- lists and sets

pair_gives : (why : Option Cause) (n : ℕ) (text : List ℕ) (result : Result ℕ Cause) → result ≡ unless why n → GivesWord result text (unless why (n, text))
pair_gives None n text result e = rw e refl
pair_gives (Some cause) n text result e = rw e refl

pub beside_gives : (why : Option Cause) (beside : ℕ) (text : List ℕ) (result : Result ℕ Cause) → beside < 15 → result ≡ unless (why_size why beside) beside → GivesWord result text (list_size_at why beside text)
beside_gives why beside text result below e = rw (lt-ltb beside 15 below) (pair_gives (why_size why beside) beside text result e)

pub behind_read : (why : Option Cause) (beside : ℕ) (text : List ℕ) → 15 ≤ beside → list_size_at why beside text ≡ compact_size_at why text
behind_read why beside text most = rw (le-ltb beside 15 most) refl

pub ruleset of_list_size = (beside_gives, behind_read)

pub list_empty : (left : ℕ) (text : List ℕ) → length text < 1 → compact_list_at left text ≡ Err causes.Truncated
unfolding compact_list_at
list_empty left [] less = refl
list_empty left (b ∷ rest) less = absurd (omega (arith, less))

pub list_short : (left : ℕ) (text rest : List ℕ) (b : ℕ) (cause : Cause) → text ≡ b ∷ rest
    → list_size_at (why_none left (compact_kind_of_code (b % 16))) (b / 16) rest ≡ Err cause → compact_list_at left text ≡ Err cause
unfolding compact_list_at
list_short left text rest b cause e read = rw (e, read) refl

pub list_read : (left : ℕ) (text rest after : List ℕ) (b n : ℕ) → text ≡ b ∷ rest
    → list_size_at (why_none left (compact_kind_of_code (b % 16))) (b / 16) rest ≡ Ok (n, after) → compact_list_at left text ≡ Ok (record { element = compact_kind_of_code (b % 16); size = n }, after)
unfolding compact_list_at
list_read left text rest after b n e read = rw (e, read) refl

pub ruleset of_list = (list_empty, list_short, list_read)

-- ---- maps

pub map_short : (left : ℕ) (text : List ℕ) (cause : Cause) → compact_size_at None text ≡ Err cause → compact_map_at left text ≡ Err cause
unfolding compact_map_at
map_short left text cause read = rw read refl

pub map_empty : (left : ℕ) (text rest : List ℕ) (n : ℕ) → compact_size_at None text ≡ Ok (n, rest) → n ≡ 0 → compact_map_at left text ≡ Ok (record { key = None; value = None; size = 0 }, rest)
unfolding compact_map_at
map_empty left text rest n read none = rw (read, none) refl

pub map_cut : (left : ℕ) (text rest : List ℕ) (n : ℕ) → compact_size_at None text ≡ Ok (n, rest) → n ≢ 0 → length rest < 1 → compact_map_at left text ≡ Err causes.Truncated
unfolding compact_map_at
map_cut left text rest zero read some less = absurd (some refl)
map_cut left text [] (suc n) read some less = rw read refl
map_cut left text (b ∷ rest) (suc n) read some less = absurd (omega (arith, less))

pub map_refused : (left : ℕ) (text between rest : List ℕ) (n types : ℕ) (cause : Cause) → compact_size_at None text ≡ Ok (n, between) → n ≢ 0 → between ≡ types ∷ rest
    → why_no_pair left (compact_kind_of_code (types / 16)) (compact_kind_of_code (types % 16)) ≡ Some cause → compact_map_at left text ≡ Err cause
unfolding compact_map_at
map_refused left text between rest zero types cause read some e why = absurd (some refl)
map_refused left text between rest (suc n) types cause read some e why = rw (read, e, why) refl

pub map_read : (left : ℕ) (text between rest : List ℕ) (n types : ℕ) → compact_size_at None text ≡ Ok (n, between) → n ≢ 0 → between ≡ types ∷ rest
    → why_no_pair left (compact_kind_of_code (types / 16)) (compact_kind_of_code (types % 16)) ≡ None
    → compact_map_at left text ≡ Ok (record { key = compact_kind_of_code (types / 16); value = compact_kind_of_code (types % 16); size = n }, rest)
unfolding compact_map_at
map_read left text between rest zero types read some e why = absurd (some refl)
map_read left text between rest (suc n) types read some e why = rw (read, e, why) refl

pub ruleset of_map = (map_short, map_empty, map_cut, map_refused, map_read)
