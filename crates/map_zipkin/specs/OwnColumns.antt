-- The keys of Zipkin's own: what a span has there and a trace has no place for, as attributes of texts. A row for each has its key, what a span
-- tells there, and the form of its value. Writing looks each up in the attributes, and reading fills them from a span.
use Rattle.std.specs.Prelude.{ℕ, ◌&&◌, nat_le, Bool, true, false, List, [], ◌∷◌, ◌++◌, map, Option, Some, None, is_some, codes}
use Rattle.std.specs.Str.{bytes_eq}
use Rattle.span_tags.specs.Columns.{ColumnsOf, Row, is_key, looked_by, rows_by}
use Rattle.span_tags.specs.TagWords.{Pairs, row, decimal_in, text_given}
use Rattle.trace_model.specs.declared.value.Value.{Value, Text}
use Rattle.zipkin_json.specs.declared.span.Endpoint.{Endpoint}
use Rattle.zipkin_json.specs.declared.span.ZSpan.{ZSpan}
use Rattle.map_zipkin.specs.TagColumns.{count_text}
use Rattle.map_zipkin.specs.declared.own.Own.{Own}
use Rattle.map_zipkin.specs.declared.own.Own.TheVariants as owns
use Rattle.map_zipkin.specs.declared.reading.attributes.Ends.{Ends}

-- by rising keys
abbrev pub all_own : List Own
all_own =
    owns.Debug ∷ owns.LocalIpv4 ∷ owns.LocalIpv6 ∷ owns.LocalPort ∷ owns.RemoteIpv4 ∷ owns.RemoteIpv6 ∷ owns.RemotePort
    ∷ owns.Shared ∷ []

-- what stands under each of Zipkin's own keys, if anything does
abbrev pub OwnColumns : Type 0
OwnColumns = ColumnsOf Own

-- ---- forms

-- the text `true`
abbrev pub is_true_text : Value → Bool
is_true_text (Text text) = bytes_eq text (codes "true")
is_true_text other = false

-- a text that isn't empty
abbrev pub is_address : Value → Bool
is_address (Text []) = false
is_address (Text (x ∷ more)) = true
is_address other = false

-- a port: 1 to 65535, since the port 0 stands for an absent one
abbrev pub is_port_number : ℕ → Bool
is_port_number n = nat_le 1 n && nat_le n 65535

-- there is a number, and it is a port
abbrev pub has_port : Option ℕ → Bool
has_port None = false
has_port (Some n) = is_port_number n

-- the decimal of 1 to 65535, without leading zeros
abbrev pub is_port_text : Value → Bool
is_port_text (Text text) = has_port (decimal_in text)
is_port_text other = false

-- ---- rows

-- a truth value: `true`, or nothing
abbrev pub truth_given : Bool → Option Value
truth_given false = None
truth_given true = Some (Text (codes "true"))

-- a row: the key, what a span of Zipkin gives under it, and whether a value is of the form that can be written
pub record OwnRow : Type 0 where
  pub key : List ℕ
  pub given : Ends → Option Value
  pub form : Value → Bool

-- a row of a truth value: the text `true` where it is true, no attribute where it is false
abbrev pub truth_row : List ℕ → (Ends → Bool) → OwnRow
truth_row key truth = record { key = key; given = λ ends. truth_given (truth ends); form = is_true_text }

-- a row of an address: its text as it is, no attribute where it is empty
abbrev pub address_row : List ℕ → (Ends → List ℕ) → OwnRow
address_row key address = record { key = key; given = λ ends. text_given (address ends); form = is_address }

-- a row of a port: its decimal, no attribute where it is 0
abbrev pub port_row : List ℕ → (Ends → ℕ) → OwnRow
port_row key port = record { key = key; given = λ ends. count_text (port ends); form = is_port_text }

-- the table: `debug` and `shared` of a span, and `ipv4`, `ipv6` and `port` of its two endpoints (Zipkin v2)
abbrev pub own_table : Own → OwnRow
own_table owns.Debug = truth_row (codes "zipkin.debug") (λ ends. ends.debug)
own_table owns.LocalIpv4 = address_row (codes "zipkin.local.ipv4") (λ ends. ends.local.ipv4)
own_table owns.LocalIpv6 = address_row (codes "zipkin.local.ipv6") (λ ends. ends.local.ipv6)
own_table owns.LocalPort = port_row (codes "zipkin.local.port") (λ ends. ends.local.port)
own_table owns.RemoteIpv4 = address_row (codes "zipkin.remote.ipv4") (λ ends. ends.remote.ipv4)
own_table owns.RemoteIpv6 = address_row (codes "zipkin.remote.ipv6") (λ ends. ends.remote.ipv6)
own_table owns.RemotePort = port_row (codes "zipkin.remote.port") (λ ends. ends.remote.port)
own_table owns.Shared = truth_row (codes "zipkin.shared") (λ ends. ends.shared)

-- the form that an attribute under this key has to have, or it can't be written
abbrev pub own_form : Own → Value → Bool
own_form own = (own_table own).form

-- a tag of the key is never read
abbrev pub own_row : Own → Row Own Ends
own_row own = record { key = (own_table own).key; given = (own_table own).given; is_idle = λ value c. is_some value }

-- each of these keys with its form
abbrev pub forms_of : List Own → List (List ℕ × (Value → Bool))
forms_of keys = map (λ own. ((own_row own).key, own_form own)) keys

-- all of Zipkin's own keys in their order, each with its form
abbrev pub own_forms : List (List ℕ × (Value → Bool))
own_forms = forms_of all_own

-- ---- columns

-- a key is one of Zipkin's own
abbrev pub is_own : List ℕ → Bool
is_own key = is_key own_row all_own key

-- what attributes hold of them
abbrev pub own_in : Pairs → OwnColumns
own_in attributes = looked_by own_row attributes

-- what a span of Zipkin has of them
abbrev pub own_told : Ends → OwnColumns
own_told ends = λ own. (own_row own).given ends

-- what a span of Zipkin has under these keys, by its two marks and its two endpoints
abbrev pub own_of : ZSpan → OwnColumns
own_of span = own_told (record { debug = span.debug; shared = span.shared; local = span.local; remote = span.remote })

-- the attributes that hold them, in the order of their keys
abbrev pub own_rows : OwnColumns → Pairs
own_rows c = rows_by own_row all_own c

-- those of an endpoint, under these keys
abbrev pub end_rows : Own × Own × Own → Endpoint → Pairs
end_rows keys end = row (own_row keys.0).key (text_given end.ipv4)
    ++ (row (own_row keys.1).key (text_given end.ipv6) ++ row (own_row keys.2).key (count_text end.port))
