-- The events and links of a span, one more record each, and its end.
use Rattle.std.proofs.Common.{◌≡◌, ℕ, ◌+◌, List, [], ◌∷◌, ◌++◌, length, true, Some, None, ap, ◌∙◌}
use Rattle.trace_model.specs.declared.place.Place.TheVariants as places
use Rattle.trace_model.specs.declared.remark.Remark.{Remark}
use Rattle.trace_model.specs.declared.span.Event.{Event}
use Rattle.trace_model.specs.declared.span.Link.{Link}
use Rattle.otlp_proto.specs.declared.reading.span.events.EventList.{EventList}
use Rattle.otlp_proto.specs.declared.reading.span.links.LinkList.{LinkList}
use Rattle.otlp_proto.specs.Event.{IsEvent}
use Rattle.otlp_proto.specs.Link.{IsLink}
use Rattle.trace_model.specs.Remarks.{Keys, equal_keys, link_dropped}
use Rattle.trace_model.specs.GroupRemarks.{event_remarks, link_remarks, span_remarks}
use Rattle.trace_model.specs.declared.noted.Noted.{Noted}
use Rattle.trace_model.specs.Notes.{SpanNotes}
use Rattle.trace_model.proofs.ToldLaws.{event_added, link_left_out, link_added}
use Rattle.otlp_proto.specs.private.SpanSoFar.{GatheredEvents, GatheredLinks}
use Rattle.otlp_proto.specs.Rows.{MeansMessage}
use Rattle.span_io.proofs.RowLaws.{all_zip_push}

module _ (span : ℕ) where
  -- ---- events

  pub event_push : (earlier : List (List ℕ)) (held : List ℕ) (old new : EventList) (e : Noted Event Keys) (number : ℕ) → MeansMessage IsEvent held e → number ≡ 1 + length old.events → new.events ≡ old.events ++ e.means ∷ []
      → new.remarks ≡ old.remarks ++ equal_keys (places.Event span number) e.notes → GatheredEvents span earlier old → GatheredEvents span (earlier ++ held ∷ []) new
  event_push earlier held old new e number is next events remarks so_far = record {
    members = so_far.members ++ e ∷ [];
    each = all_zip_push (MeansMessage IsEvent) earlier so_far.members held e so_far.each is;
    told = event_added span so_far.members old.events new.events old.remarks new.remarks e number next events remarks so_far.told;
  }

  -- ---- links

  -- one more link is dropped
  pub link_drop : (earlier : List (List ℕ)) (held : List ℕ) (old new : LinkList) → MeansMessage IsLink held None → new.links ≡ old.links → new.dropped ≡ true → new.remarks ≡ old.remarks → GatheredLinks span earlier old
      → GatheredLinks span (earlier ++ held ∷ []) new
  link_drop earlier held old new is links dropped remarks so_far = record {
    members = so_far.members ++ None ∷ [];
    each = all_zip_push (MeansMessage IsLink) earlier so_far.members held None so_far.each is;
    told = link_left_out span so_far.members old.links new.links old.dropped new.dropped old.remarks new.remarks links dropped remarks so_far.told;
  }

  -- one more link is kept
  pub link_push : (earlier : List (List ℕ)) (held : List ℕ) (old new : LinkList) (link : Noted Link Keys) (number : ℕ) → MeansMessage IsLink held (Some link) → number ≡ 1 + length old.links → new.links ≡ old.links ++ link.means ∷ []
      → new.dropped ≡ old.dropped → new.remarks ≡ old.remarks ++ equal_keys (places.Link span number) link.notes → GatheredLinks span earlier old → GatheredLinks span (earlier ++ held ∷ []) new
  link_push earlier held old new link number is next links dropped remarks so_far = record {
    members = so_far.members ++ Some link ∷ [];
    each = all_zip_push (MeansMessage IsLink) earlier so_far.members held (Some link) so_far.each is;
    told = link_added span so_far.members old.links new.links old.dropped new.dropped old.remarks new.remarks link number next links dropped remarks so_far.told;
  }

  -- ---- the remarks on the span

  pub remarks_are : (number : ℕ) (notes : SpanNotes) (events links remarks : List Remark) → number ≡ span → events ≡ event_remarks span notes.events → links ≡ link_remarks span notes.links
      → remarks ≡ equal_keys (places.Span number) notes.keys ++ (link_dropped (places.Span number) notes.dropped ++ (events ++ links)) → remarks ≡ span_remarks span notes
  remarks_are number notes events links remarks same of_events of_links is =
      is ∙ ap (λ n. equal_keys (places.Span n) notes.keys ++ (link_dropped (places.Span n) notes.dropped ++ (events ++ links))) same
      ∙ ap (λ l. equal_keys (places.Span span) notes.keys ++ (link_dropped (places.Span span) notes.dropped ++ (l ++ links))) of_events
      ∙ ap (λ l. equal_keys (places.Span span) notes.keys ++ (link_dropped (places.Span span) notes.dropped ++ (event_remarks span notes.events ++ l))) of_links
