-- The run and the span that are read, of their parts.
use Rattle.std.proofs.Common.{◌≡◌, ℕ, List, [], ◌++◌, map, Option, ap, ◌∙◌, append_assoc}
use Rattle.trace_model.specs.Attributes.{attrs, at}
use Rattle.trace_model.specs.declared.span.Event.{Event}
use Rattle.trace_model.specs.declared.span.Kind.{Kind}
use Rattle.trace_model.specs.declared.span.Link.{Link}
use Rattle.trace_model.specs.declared.value.Value.{Value}
use Rattle.zipkin_json.specs.declared.span.ZSpan.{ZSpan}
use Rattle.span_tags.specs.TagWords.{Pairs, row}
use Rattle.map_zipkin.specs.Keys.{peer_key}
use Rattle.map_zipkin.specs.private.ReadColumns.{IsZipkinToldBy, ArePartedBy}
use Rattle.map_zipkin.specs.Reading.{pairs_of, zipkin_event_of, zipkin_kind_read, peer_of, free_pairs, resource_by, run_by, span_read_by, run_span_of}
use Rattle.map_zipkin.specs.Regrouped.{RunSpan}
use Rattle.map_zipkin.specs.OwnColumns.{own_rows, own_of}
use Rattle.map_zipkin.specs.TagColumns.{columns_in}
use Rattle.map_zipkin.specs.declared.reading.attributes.Parted.{Parted}
use Rattle.map_zipkin.specs.declared.reading.columns.Told.{Told}

module _ (span : ZSpan) (told : Told) (parted : Parted) (events : List Event) (links : List Link) (kind : Kind) where
  abbrev pub read : RunSpan
  read = (
    record { resource = parted.resource; name = told.name; version = told.version },
    record {
      trace = span.trace;
      id = span.id;
      state = told.state;
      parent = span.parent;
      name = span.name;
      kind = kind;
      start = span.start;
      end = span.end;
      attributes = parted.attributes;
      dropped_attributes = told.dropped_attributes;
      events = events;
      dropped_events = told.dropped_events;
      links = links;
      dropped_links = told.dropped_links;
      status = told.status;
      flags = 0;
    },
  )

  groups_joined : (tags pairs : Pairs) (service : List ℕ) → IsZipkinToldBy tags told → events ≡ map zipkin_event_of span.annotations → service ≡ span.local.service
      → pairs ≡ row peer_key (peer_of span.remote.service (at peer_key tags)) ++ own_rows (own_of span) → ArePartedBy service pairs tags parted
      → kind ≡ zipkin_kind_read span.kind → links ≡ [] → read ≡ (run_by span (columns_in tags) tags, span_read_by span (columns_in tags) tags)
  groups_joined tags pairs service tells events_are service_is pairs_are parts kind_is no_links =
      let free : Pairs = free_pairs tags in
      let peer : Pairs = row peer_key (peer_of span.remote.service (at peer_key tags)) in
      let attributes : parted.attributes ≡ attrs (peer ++ (own_rows (own_of span) ++ free)) =
      parts.attributes ∙ ap (λ l. attrs (l ++ free)) pairs_are ∙ ap attrs (append_assoc peer (own_rows (own_of span)) free) in
      let resource = parts.resource ∙ ap (λ s. resource_by s tags) service_is in
      λ i. (
        record { resource = resource i; name = tells.name i; version = tells.version i },
        record {
          trace = span.trace;
          id = span.id;
          state = tells.state i;
          parent = span.parent;
          name = span.name;
          kind = kind_is i;
          start = span.start;
          end = span.end;
          attributes = attributes i;
          dropped_attributes = tells.dropped_attributes i;
          events = events_are i;
          dropped_events = tells.dropped_events i;
          links = no_links i;
          dropped_links = tells.dropped_links i;
          status = record { code = tells.code i; message = tells.message i };
          flags = 0;
        },
      )

  pub span_joined : (tags pairs : Pairs) (service : List ℕ) (tag : Option Value) → tags ≡ pairs_of span → IsZipkinToldBy tags told
      → events ≡ map zipkin_event_of span.annotations → service ≡ span.local.service → tag ≡ at peer_key tags
      → pairs ≡ row peer_key (peer_of span.remote.service tag) ++ own_rows (own_of span) → ArePartedBy service pairs tags parted
      → kind ≡ zipkin_kind_read span.kind → links ≡ [] → read ≡ run_span_of span
  span_joined tags pairs service tag same tells events_are service_is tag_is pairs_are parts kind_is no_links =
      groups_joined tags pairs service tells events_are service_is
      (pairs_are ∙ ap (λ t. row peer_key (peer_of span.remote.service t) ++ own_rows (own_of span)) tag_is) parts kind_is no_links
      ∙ ap (λ t. (run_by span (columns_in t) t, span_read_by span (columns_in t) t)) same
