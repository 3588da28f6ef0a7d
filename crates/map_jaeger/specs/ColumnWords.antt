-- What the tags of a span under the keys of their own say, and what is told there of a span (OpenTelemetry exporter page for Jaeger).
use Rattle.std.specs.Prelude.{ℕ, ◌%◌, Bool, true, false, not, ◌&&◌, ◌==◌, nat_le, if◌then◌else◌, pos, List, [], Option, Some, None, option_and_then, unwrap_or, is_some, codes}
use Rattle.std.specs.Str.{bytes_eq}
use Rattle.trace_model.specs.declared.span.Code.{Code}
use Rattle.trace_model.specs.declared.span.Code.TheVariants as statuses
use Rattle.trace_model.specs.declared.span.Kind.{Kind}
use Rattle.trace_model.specs.declared.span.Kind.TheVariants as kinds
use Rattle.trace_model.specs.declared.value.Value.{Value, Text, Truth, Number}
use Rattle.span_tags.specs.TagWords.{decimal_in, text_in, text_given, is_idle}

-- ---- flags and counts

-- flags without their first bit: the number, if it is even, not zero, and of 32 bits
abbrev pub are_high_flags : ℕ → Option ℕ
are_high_flags n = if (n % 2 == 0) && (nat_le 2 n && nat_le n 4294967294) then Some n else None

-- flags but the first bit: the text that is the decimal of an even number of 32 bits, not zero
abbrev pub flags_in : Option Value → Option ℕ
flags_in value = option_and_then are_high_flags (option_and_then decimal_in (text_in value))

-- a count, unless it is 0
abbrev pub count_given : ℕ → Option Value
count_given n = if n == 0 then None else Some (Number (pos n))

-- ---- `span.kind`: one of five texts

-- the kind that a word of `span.kind` names, in small letters; another word names none
abbrev pub kind_named : List ℕ → Option Kind
kind_named text =
    if bytes_eq text (codes "client") then Some kinds.Client
    else (if bytes_eq text (codes "consumer") then Some kinds.Consumer
    else (if bytes_eq text (codes "internal") then Some kinds.Internal
    else (if bytes_eq text (codes "producer") then Some kinds.Producer
    else (if bytes_eq text (codes "server") then Some kinds.Server else None))))

-- the kind that a tag `span.kind` tells: none where it is absent, no text, or another word
abbrev pub kind_in : Option Value → Option Kind
kind_in value = option_and_then kind_named (text_in value)

-- what the tag `span.kind` is given of a kind: its word. INTERNAL has no tag, since a span without one is read as INTERNAL, and
-- neither has a kind that isn't given
abbrev pub kind_given : Kind → Option Value
kind_given kinds.Unspecified = None
kind_given kinds.Internal = None
kind_given kinds.Server = Some (Text (codes "server"))
kind_given kinds.Client = Some (Text (codes "client"))
kind_given kinds.Producer = Some (Text (codes "producer"))
kind_given kinds.Consumer = Some (Text (codes "consumer"))

-- ---- `error`: a truth value, or the text of one

-- the truth value that the text `true` or `false` names, in small letters; another text names none
abbrev pub truth_named : List ℕ → Option Bool
truth_named text = if bytes_eq text (codes "true") then Some true else (if bytes_eq text (codes "false") then Some false else None)

-- the truth value that a tag `error` tells, as it is or by its word; none where the tag is absent or anything else
abbrev pub error_in : Option Value → Option Bool
error_in (Some (Truth truth)) = Some truth
error_in (Some (Text text)) = truth_named text
error_in other = None

-- what the tag `error` is given of a status code: true with ERROR, and no tag with another
abbrev pub error_given : Code → Option Value
error_given statuses.Unset = None
error_given statuses.Okay = None
error_given statuses.Fail = Some (Truth true)

-- with a code, `error` is true with ERROR and false with OK
abbrev pub agrees : Option Code → Bool → Bool
agrees None truth = true
agrees (Some statuses.Unset) truth = false
agrees (Some statuses.Okay) truth = not truth
agrees (Some statuses.Fail) truth = truth

-- there is a tag `error` that says nothing: it tells no truth value, or one that differs from what the code of
-- `otel.status_code` says
abbrev pub is_idle_error : Option Value → Option Bool → Option Code → Bool
is_idle_error value None code = is_some value
is_idle_error value (Some truth) code = not (agrees code truth)

-- ---- `otel.status_description`: an unset status has none

-- a status's message, by its code and the tag `otel.status_description`: empty without a code, and where the tag isn't a text
abbrev pub message_by : Code → Option Value → List ℕ
message_by statuses.Unset description = []
message_by statuses.Okay description = unwrap_or (text_in description) []
message_by statuses.Fail description = unwrap_or (text_in description) []

-- what the tag `otel.status_description` is given: the message where there is a code, unless it is empty
abbrev pub description_given : Code → List ℕ → Option Value
description_given statuses.Unset message = None
description_given statuses.Okay message = text_given message
description_given statuses.Fail message = text_given message

-- there is a tag `otel.status_description` that says nothing: the status has no code, or the tag is no text
abbrev pub is_idle_description : Option Value → Code → Bool
is_idle_description value statuses.Unset = is_some value
is_idle_description value statuses.Okay = is_idle value (text_in value)
is_idle_description value statuses.Fail = is_idle value (text_in value)
