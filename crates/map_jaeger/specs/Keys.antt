-- The keys of attributes that the traces of Jaeger have of their own.
use Rattle.std.specs.Prelude.{ℕ, Bool, List, codes}
use Rattle.std.specs.Str.{bytes_eq}

-- of a span: its flags but their first bit
abbrev pub flags_key : List ℕ
flags_key = codes "jaeger.flags"

-- of a log, for its event's name
abbrev pub event_key : List ℕ
event_key = codes "event"

-- an event's attribute of this key is written under another: the key is reserved there
abbrev pub is_event_reserved : List ℕ → Bool
is_event_reserved key = bytes_eq event_key key

-- of a link, for the type of its reference
abbrev pub reference_key : List ℕ
reference_key = codes "opentracing.ref_type"

-- the text that `opentracing.ref_type` has where the reference is CHILD_OF (jaeger.thrift, `SpanRefType`)
abbrev pub child_of_word : List ℕ
child_of_word = codes "child_of"
