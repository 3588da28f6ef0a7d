-- What values of tags say, and which tags say what a span has (OpenTelemetry exporter pages for Jaeger and for Zipkin). A key stands with its
-- value, or not at all where there is nothing to say.
use Rattle.std.specs.Prelude.{ℕ, ◌&&◌, nat_le, if◌then◌else◌, Bool, false, not, pos, List, [], ◌∷◌, filter, Option, Some, None, option_and_then, unwrap_or, is_some, is_none, decimal, codes}
use Rattle.std.specs.Option.{option_or}
use Rattle.std.specs.Str.{bytes_eq}
use Rattle.std.specs.Str.Parse.{digits_value}
use Rattle.trace_model.specs.ValueTexts.{value_text}
use Rattle.trace_model.specs.declared.span.Code.{Code}
use Rattle.trace_model.specs.declared.span.Code.TheVariants as statuses
use Rattle.trace_model.specs.declared.value.Value.{Value, Text, Number}

-- tags or attributes, each a key with its value
abbrev pub Pairs : Type 0
Pairs = List (List ℕ × Value)

-- the tag of a key, if there is a value
abbrev pub row : List ℕ → Option Value → Pairs
row key None = []
row key (Some value) = (key, value) ∷ []

-- those under other keys than this one
abbrev pub without : List ℕ → Pairs → Pairs
without key attributes = filter (λ attribute. not (bytes_eq key attribute.0)) attributes

-- ---- what a value says

-- the text that it is
abbrev pub text_in : Option Value → Option (List ℕ)
text_in (Some (Text text)) = Some text
text_in other = None

-- the number whose decimal, without leading zeros, the text is
abbrev pub decimal_in : List ℕ → Option ℕ
decimal_in text = if bytes_eq (decimal (digits_value 10 text)) text then Some (digits_value 10 text) else None

-- the number, if it isn't above the last
abbrev pub at_most : ℕ → ℕ → Option ℕ
at_most last n = if nat_le n last then Some n else None

-- a count of 32 bits: a number, or the text that is its decimal
abbrev pub count_in : Option Value → Option ℕ
count_in (Some (Number (pos n))) = at_most 4294967295 n
count_in (Some (Text text)) = option_and_then (at_most 4294967295) (decimal_in text)
count_in other = None

-- `otel.status_code`: one of two texts
abbrev pub code_named : List ℕ → Option Code
code_named text = if bytes_eq text (codes "OK") then Some statuses.Okay else (if bytes_eq text (codes "ERROR") then Some statuses.Fail else None)

-- the code that a value of `otel.status_code` says, if it is the text `OK` or `ERROR`
abbrev pub code_in : Option Value → Option Code
code_in value = option_and_then code_named (text_in value)

-- a name or version: the older key counts where the newer is absent
abbrev pub name_in : Option Value → Option Value → List ℕ
name_in newer older = unwrap_or (option_or (text_in newer) (text_in older)) []

-- ---- what is said, unless it is the default

-- a text as a value; an empty text is no value
abbrev pub text_given : List ℕ → Option Value
text_given [] = None
text_given (x ∷ more) = Some (Text (x ∷ more))

-- `otel.status_code`
abbrev pub code_given : Code → Option Value
code_given statuses.Unset = None
code_given statuses.Okay = Some (Text (codes "OK"))
code_given statuses.Fail = Some (Text (codes "ERROR"))

-- the text of a value, or no text where it is absent
abbrev pub text_or_none : Option Value → List ℕ
text_or_none None = []
text_or_none (Some value) = value_text value

-- ---- tags that are left out

-- there is a tag, and nothing that it says
abbrev pub is_idle : {A : Type 0} → Option Value → Option A → Bool
is_idle value said = is_some value && is_none said

-- an older key that isn't a text, or differs from the newer
abbrev pub is_idle_library : Option Value → Option (List ℕ) → Option (List ℕ) → Bool
is_idle_library value None newer = is_some value
is_idle_library value (Some text) None = false
is_idle_library value (Some text) (Some newer) = not (bytes_eq text newer)

-- the key of a tag that is left out, and no key of one that isn't
abbrev pub if_left : List ℕ → Bool → List (List ℕ)
if_left key left = if left then key ∷ [] else []
