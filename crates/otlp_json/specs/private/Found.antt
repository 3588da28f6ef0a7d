-- What the readers of values answer, as what it means.
use Rattle.std.specs.Prelude.{◌≡◌, ℕ, List, [], ◌∷◌, ◌++◌, Option, Some, None}
use Rattle.std.specs.List.{AllZip}
use Rattle.serde_json.specs.Data.{Data}
use Rattle.span_io.specs.Paths.{Given}
use Rattle.trace_model.specs.Remarks.{Keys}
use Rattle.trace_model.specs.declared.remark.Remark.{Remark}
use Rattle.trace_model.specs.declared.value.Value.{Value}
use Rattle.otlp_json.specs.Values.{JsonMember, string_member, bool_member, int_member, double_member, array_member, kvlist_member, bytes_member}
use Rattle.trace_model.specs.declared.span.Event.{Event}
use Rattle.trace_model.specs.declared.span.Link.{Link}
use Rattle.otlp_json.specs.declared.reading.links.LinkRemarks.{LinkRemarks}
use Rattle.otlp_json.specs.declared.reading.standing.Part.{Part}
use Rattle.otlp_json.specs.declared.reading.standing.Part.TheVariants as parts
use Rattle.trace_model.specs.GroupRemarks.{span_remarks, scope_remarks}
use Rattle.trace_model.specs.declared.noted.Noted.{Noted}
use Rattle.trace_model.specs.Notes.{SpanNotes, ScopeNotes}
use Rattle.trace_model.specs.declared.noted.KeyValue.{KeyValue}
use Rattle.trace_model.specs.OtlpParts.{NotedValue}
use Rattle.trace_model.specs.private.OtlpTold.{AreToldValues, AreToldPairs, AreToldEvents, AreToldLinks, AreToldSpans, AreToldScopes}
use Rattle.json_members.specs.Members.{AreHeld}
use Rattle.otlp_json.specs.Span.{IsJsonSpan}
use Rattle.otlp_json.specs.Group.{IsJsonScope}
use Rattle.otlp_json.specs.declared.reading.scopes.FoundScopes.{FoundScopes}
use Rattle.trace_model.specs.declared.span.Span.{Span}
use Rattle.trace_model.specs.declared.group.Scope.{Scope}

-- the member of this part
abbrev pub part_member : Part → Data → JsonMember
part_member parts.Text d = string_member d
part_member parts.Truth d = bool_member d
part_member parts.Number d = int_member d
part_member parts.Double d = double_member d
part_member parts.List d = array_member d
part_member parts.Map d = kvlist_member d
part_member parts.Bytes d = bytes_member d

-- there are two members or more
abbrev pub AreSeveral : List JsonMember → Type 0
AreSeveral [] = ⊥
AreSeveral (m ∷ []) = ⊥
AreSeveral (m ∷ n ∷ ms) = Unit {0}

-- the members that were told: one, or none
abbrev pub told_members : Option (Part × Data) → List JsonMember
told_members None = []
told_members (Some (part, d)) = part_member part d ∷ []

-- ---- lists

-- what was found of elements, and of an array that may be absent, and what the rows tell of it
pub record AreFound {X V : Type 0} (Is : X → Data → Type 0) (Told : List X → V → Type 0) (ds : List Data) (rows : V)
    : Type 0 where
  pub found : List X
  pub each : AllZip (λ d x. Is x d) ds found
  pub told : Told found rows

-- the same of an array that may be absent: where it is, no element is found
pub record AreGiven {X V : Type 0} (Is : X → Data → Type 0) (Told : List X → V → Type 0) (o : Option Data) (rows : V)
    : Type 0 where
  pub found : List X
  pub each : Given (AreHeld Is) (λ xs. xs ≡ []) found o
  pub told : Told found rows

-- what was found of elements is found of them with this one behind them
abbrev pub FindsMore : {X V : Type 0} → (X → Data → Type 0) → (List X → V → Type 0) → Data → V → V → Type 0
FindsMore Is Told d old new = (ds : List Data) → AreFound Is Told ds old → AreFound Is Told (ds ++ d ∷ []) new

-- values of a list, and pairs of a map or of attributes, and the keys that are noted inside them
abbrev pub ValuesTold : List NotedValue → Noted (List Value) Keys → Type 0
ValuesTold found rows = AreToldValues found rows.means rows.notes

-- pairs of a map or of attributes, and the keys that are noted inside their values
abbrev pub PairsTold : List KeyValue → Noted (List (List ℕ × Value)) Keys → Type 0
PairsTold found rows = AreToldPairs found rows.means rows.notes

-- events and links of the span of this number
abbrev pub EventsTold : ℕ → List (Noted Event Keys) → Noted (List Event) (List Remark) → Type 0
EventsTold span found rows = AreToldEvents span found rows.means rows.notes

-- links of the span of this number that aren't dropped, whether one was, and the remarks on them
abbrev pub LinksTold : ℕ → List (Option (Noted Link Keys)) → Noted (List Link) LinkRemarks → Type 0
LinksTold span found rows = AreToldLinks span found rows.means rows.notes.dropped rows.notes.remarks

-- ---- spans

-- the span of that number, and the remarks on it
pub record IsSpanFound (number : ℕ) (r : Noted Span (List Remark)) (d : Data) : Type 0 where
  pub notes : SpanNotes
  pub is_span : IsJsonSpan (record { means = r.means; notes = notes }) d
  pub remarks : r.notes ≡ span_remarks number notes

-- spans, of which the first has this number
abbrev pub SpansTold : ℕ → List (Noted Span SpanNotes) → Noted (List Span) (List Remark) → Type 0
SpansTold first found rows = AreToldSpans first found rows.means rows.notes

-- ---- scopes

-- the scope of that number, whose first span has the number `first`, and the remarks on it
pub record IsScopeFound (number first : ℕ) (r : Noted Scope (List Remark)) (d : Data) : Type 0 where
  pub notes : ScopeNotes
  pub is_scope : IsJsonScope (record { means = r.means; notes = notes }) d
  pub remarks : r.notes ≡ scope_remarks number first notes

-- the scopes of a group
abbrev pub ScopesTold : List (Noted Scope ScopeNotes) → FoundScopes → Type 0
ScopesTold found rows = AreToldScopes found rows.scopes rows.remarks rows.next_span
