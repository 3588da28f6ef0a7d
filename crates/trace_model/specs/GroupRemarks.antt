-- Remarks on what was read, by place: a resource before the scopes, a scope before its spans, and a span before its events and then
-- its links. At one place equal keys come first, in their order. Scopes and spans are counted through their group, from 1, events and
-- links in their span.
use Rattle.std.specs.Prelude.{ℕ, suc, ◌+◌, List, [], ◌∷◌, ◌++◌, length}
use Rattle.trace_model.specs.declared.place.Place.TheVariants as places
use Rattle.trace_model.specs.declared.remark.Remark.{Remark}
use Rattle.trace_model.specs.Remarks.{Keys, equal_keys, link_dropped, numbered}
use Rattle.trace_model.specs.Notes.{SpanNotes, ScopeNotes}

-- of the span of this number
abbrev pub event_remarks : ℕ → List Keys → List Remark
event_remarks span events = numbered (λ n keys. equal_keys (places.Event span n) keys) 1 events

-- the same of its links, without those that were dropped, which have no number
abbrev pub link_remarks : ℕ → List Keys → List Remark
link_remarks span links = numbered (λ n keys. equal_keys (places.Link span n) keys) 1 links

-- on the span of this number: its own keys that stand more than once, that a link of it was dropped, and what is noted of
-- its events and then of its links
abbrev pub span_remarks : ℕ → SpanNotes → List Remark
span_remarks span notes =
    equal_keys (places.Span span) notes.keys ++ (link_dropped (places.Span span) notes.dropped ++ (event_remarks span notes.events ++ link_remarks span notes.links))

-- of the scope of this number, whose first span has that number
abbrev pub scope_remarks : ℕ → ℕ → ScopeNotes → List Remark
scope_remarks scope span notes = equal_keys (places.Scope scope) notes.keys ++ numbered span_remarks span notes.spans

-- of scopes, of which the first has this number, and their first span that one
unfoldable pub scopes_remarks : ℕ → ℕ → List ScopeNotes → List Remark
scopes_remarks scope span [] = []
scopes_remarks scope span (notes ∷ more) =
    scope_remarks scope span notes ++ scopes_remarks (suc scope) (span + length notes.spans) more

-- on a whole group: the keys of its resource, then its scopes with their spans, both numbered from 1
abbrev pub group_remarks : Keys → List ScopeNotes → List Remark
group_remarks keys scopes = equal_keys places.Resource keys ++ scopes_remarks 1 1 scopes
