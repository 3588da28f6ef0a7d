-- The lines of reports. Each ends with a line feed. Keys and names are told as JSON strings (RFC 8259, section 7).
use Rattle.std.specs.Prelude.{ℕ, List, [], ◌∷◌, ◌++◌, Option, Some, None, codes, decimal}
use Rattle.json.specs.Print.{print}
use Rattle.json.specs.Token.{string}
use Rattle.json_members.specs.Canonical.{span_id_text, trace_id_text}
use Rattle.trace_model.specs.Losses.{row_name}
use Rattle.trace_model.specs.declared.loss.Loss.{Loss}
use Rattle.trace_model.specs.declared.loss.LossRow.{LossRow}
use Rattle.trace_model.specs.declared.loss.LossRow.TheVariants as rows
use Rattle.trace_model.specs.declared.place.Place.{Place}
use Rattle.trace_model.specs.declared.place.Place.TheVariants as places
use Rattle.trace_model.specs.declared.remark.Remark.{Remark}
use Rattle.trace_model.specs.declared.remark.RemarkKind.{RemarkKind}
use Rattle.trace_model.specs.declared.remark.RemarkKind.TheVariants as remarks
use Rattle.trace_model.specs.declared.span.Code.{Code}
use Rattle.trace_model.specs.declared.span.Code.TheVariants as statuses
use Rattle.trace_model.specs.declared.span.Kind.{Kind}
use Rattle.trace_model.specs.declared.span.Kind.TheVariants as kinds
use Rattle.trace_model.specs.declared.span.Span.{Span}

-- a text as a JSON string
abbrev pub quoted_text : List ℕ → List ℕ
quoted_text text = print (string text ∷ [])

-- ---- places

-- which part of a unit a place is
abbrev pub part_text : Place → List ℕ
part_text places.Whole = []
part_text places.Resource = codes " resource"
part_text (places.Scope scope) = codes " scope " ++ decimal scope
part_text (places.Span span) = codes " span " ++ decimal span
part_text (places.Event span event) = codes " span " ++ decimal span ++ codes " event " ++ decimal event
part_text (places.Link span link) = codes " span " ++ decimal span ++ codes " link " ++ decimal link

-- a place in the unit of this number
abbrev pub place_text : ℕ → Place → List ℕ
place_text unit place = codes "unit " ++ decimal unit ++ part_text place

-- ---- losses

-- what is lost of an attribute is told with its key
abbrev pub lost_text : LossRow → List ℕ → List ℕ
lost_text rows.Value key = row_name rows.Value ++ codes " " ++ quoted_text key
lost_text rows.Empty key = row_name rows.Empty ++ codes " " ++ quoted_text key
lost_text row key = row_name row

-- the line of a loss in the unit of this number
abbrev pub loss_text : ℕ → Loss → List ℕ
loss_text unit loss = place_text unit loss.place ++ codes ": " ++ lost_text loss.row loss.key ++ codes "\n"

-- the last line of losses: how many there are
abbrev pub loss_count_text : ℕ → List ℕ
loss_count_text losses = codes "losses " ++ decimal losses ++ codes "\n"

-- ---- remarks

-- what a remark says: which key stood more than once, that a link was left out, or the tag of which key was left out
abbrev pub remarked : RemarkKind → List ℕ → List ℕ
remarked remarks.EqualKey key = codes "equal key " ++ quoted_text key
remarked remarks.LinkDropped key = codes "link dropped"
remarked remarks.TagDropped key = codes "tag dropped " ++ quoted_text key

-- the line of a remark on the unit of this number
abbrev pub remark_text : ℕ → Remark → List ℕ
remark_text unit remark = place_text unit remark.place ++ codes ": " ++ remarked remark.kind remark.key ++ codes "\n"

-- the last line of a check: how many units, spans and remarks there are
abbrev pub counts_text : ℕ → ℕ → ℕ → List ℕ
counts_text units spans remarked =
    codes "units " ++ decimal units ++ codes ", spans " ++ decimal spans ++ codes ", remarks " ++ decimal remarked ++ codes "\n"

-- ---- spans

-- the names of kinds and codes in OTLP (trace.proto, `SpanKind` and `StatusCode`)
abbrev pub kind_word : Kind → List ℕ
kind_word kinds.Unspecified = codes "UNSPECIFIED"
kind_word kinds.Internal = codes "INTERNAL"
kind_word kinds.Server = codes "SERVER"
kind_word kinds.Client = codes "CLIENT"
kind_word kinds.Producer = codes "PRODUCER"
kind_word kinds.Consumer = codes "CONSUMER"

-- the names of status codes in OTLP (trace.proto, `Status.StatusCode`), without `STATUS_CODE_`
abbrev pub code_word : Code → List ℕ
code_word statuses.Unset = codes "UNSET"
code_word statuses.Okay = codes "OK"
code_word statuses.Fail = codes "ERROR"

-- the identifier of the parent in 16 hexadecimal digits, or a dash where there is no parent
abbrev pub parent_word : Option ℕ → List ℕ
parent_word None = codes "-"
parent_word (Some parent) = span_id_text parent

-- the identifiers of a span and of its parent
unfoldable pub ids_text : Span → List ℕ
ids_text span = trace_id_text span.trace ++ codes " " ++ span_id_text span.id ++ codes " " ++ parent_word span.parent

-- its kind, and its times in nanoseconds
unfoldable pub times_text : Span → List ℕ
times_text span = codes " " ++ kind_word span.kind ++ codes " " ++ decimal span.start ++ codes " " ++ decimal span.end

-- the code of its status, and its name
unfoldable pub named_text : Span → List ℕ
named_text span = codes " " ++ code_word span.status.code ++ codes " " ++ quoted_text span.name ++ codes "\n"

-- the line of a span
abbrev pub shown_text : Span → List ℕ
shown_text span = ids_text span ++ times_text span ++ named_text span
