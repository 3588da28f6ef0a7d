-- What OTLP's readers of protobuf and of JSON keep of the members of a list that they have found, one list of each kind: what the
-- members mean, with what is noted of them.
use Rattle.std.specs.Prelude.{◌≡◌, ℕ, ◌+◌, Bool, List, length, map, Option, is_none}
use Rattle.std.specs.List.{flat_map, list_any, sum_by}
use Rattle.trace_model.specs.GroupRemarks.{event_remarks, link_remarks, span_remarks, scopes_remarks}
use Rattle.trace_model.specs.declared.noted.Noted.{Noted}
use Rattle.trace_model.specs.Notes.{SpanNotes, ScopeNotes}
use Rattle.trace_model.specs.declared.noted.KeyValue.{KeyValue}
use Rattle.trace_model.specs.OtlpParts.{NotedValue, entry, keys_inside, kept_links}
use Rattle.trace_model.specs.Remarks.{Keys, numbered}
use Rattle.trace_model.specs.declared.remark.Remark.{Remark}
use Rattle.trace_model.specs.declared.span.Event.{Event}
use Rattle.trace_model.specs.declared.span.Link.{Link}
use Rattle.trace_model.specs.declared.span.Span.{Span}
use Rattle.trace_model.specs.declared.group.Scope.{Scope}
use Rattle.trace_model.specs.declared.value.Value.{Value}

-- values, and the keys that are noted inside them
pub record AreToldValues (found : List NotedValue) (list : List Value) (keys : Keys) : Type 0 where
  pub values : list ≡ map (λ m. m.means) found
  pub noted : keys ≡ flat_map (λ m. m.notes) found

-- pairs of a map or of attributes, and the keys that are noted inside their values
pub record AreToldPairs (found : List KeyValue) (list : List (List ℕ × Value)) (keys : Keys) : Type 0 where
  pub entries : list ≡ map entry found
  pub noted : keys ≡ keys_inside found

-- events of the span of this number, and the remarks on them
pub record AreToldEvents (span : ℕ) (found : List (Noted Event Keys)) (list : List Event) (remarks : List Remark) : Type 0 where
  pub events : list ≡ map (λ e. e.means) found
  pub remarked : remarks ≡ event_remarks span (map (λ e. e.notes) found)

-- links of it: those that are kept, whether one was dropped, and the remarks on those that are kept
pub record AreToldLinks (span : ℕ) (found : List (Option (Noted Link Keys))) (list : List Link) (dropped : Bool)
    (remarks : List Remark) : Type 0 where
  pub links : list ≡ map (λ l. l.means) (kept_links found)
  pub any_dropped : dropped ≡ list_any (λ l. is_none l) found
  pub remarked : remarks ≡ link_remarks span (map (λ l. l.notes) (kept_links found))

-- spans, of which the first has this number, and the remarks on them
pub record AreToldSpans (first : ℕ) (found : List (Noted Span SpanNotes)) (list : List Span) (remarks : List Remark)
    : Type 0 where
  pub spans : list ≡ map (λ s. s.means) found
  pub remarked : remarks ≡ numbered span_remarks first (map (λ s. s.notes) found)

-- the scopes of a group, the remarks on them, and the number of the span that comes next
pub record AreToldScopes (found : List (Noted Scope ScopeNotes)) (list : List Scope) (remarks : List Remark) (next : ℕ)
    : Type 0 where
  pub scopes : list ≡ map (λ s. s.means) found
  pub remarked : remarks ≡ scopes_remarks 1 1 (map (λ s. s.notes) found)
  pub next_span : next ≡ 1 + sum_by (λ n. length n.spans) (map (λ s. s.notes) found)
