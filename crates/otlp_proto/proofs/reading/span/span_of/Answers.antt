use Rattle.std.proofs.Common.{◌≡◌, List, [], None, refl, map}
use Rattle.trace_model.specs.declared.span.Kind.TheVariants as kinds
use Rattle.trace_model.specs.declared.noted.Noted.{Noted}
use Rattle.trace_model.specs.declared.remark.Remark.{Remark}
use Rattle.trace_model.specs.declared.span.Span.{Span}
use Rattle.otlp_proto.specs.Identifiers.{MeansSpanId}
use Rattle.otlp_proto.specs.Rows.{bytes_of, varints_of, fixed64s_of, fixed32s_of, MeansNumber, MeansCount, MeansMessage}
use Rattle.span_io.specs.Tables.{MeansText}
use Rattle.otlp_proto.specs.Span.{MeansKind, span_ends}
use Rattle.otlp_proto.specs.Status.{IsStatus}
use Rattle.trace_model.specs.Notes.{SpanNotes}
use Rattle.trace_model.specs.OtlpParts.{kept_links, no_status}
use Rattle.span_io.proofs.RowLaws.{singular_or}
use Rattle.span_io.proofs.GatheringLaws.{refused_end}
use Rattle.otlp_proto.proofs.SpanLemmas.{remarks_are}
use Rattle.otlp_proto.proofs.reading.span.span_of.Goals as goal

pub returns-in_err-trace-clause-ended : goal.returns-in_err-trace-clause-ended
returns-in_err-trace-clause-ended c = λ span records gathered.
    refused_end (Noted Span (List Remark)) (λ n. span_ends records n) c.in_err-trace.field-0.0 (c.in_err-trace.ensures.judged span records gathered) c.from_residual.result c.from_residual.ensures.1

pub returns-clause-value : goal.returns-clause-value
returns-clause-value c = λ span records text wire gathered.
    let rows = c.args.rows in
    let notes : SpanNotes = record {
      keys = c.in_ok-attributes.keys;
      dropped = rows.links.dropped;
      events = map (λ e. e.notes) gathered.events.members;
      links = map (λ l. l.notes) (kept_links gathered.links.members);
    } in
    record {
      notes = notes;
      is_span = record {
        items = records;
        are = wire;
        is = record {
          trace = c.in_ok-trace.ensures.trace (bytes_of 1 records) gathered.trace;
          id = c.in_ok-trace.ensures.id (bytes_of 2 records) gathered.id;
          state = singular_or MeansText (λ text. text ≡ []) (bytes_of 3 records) rows.state c.new.result c.unwrap_or.result c.unwrap_or.ensures c.new.ensures gathered.state;
          parent = singular_or MeansSpanId (λ id. id ≡ None) (bytes_of 4 records) rows.parent None c.unwrap_or-2.result c.unwrap_or-2.ensures refl gathered.parent;
          name = singular_or MeansText (λ text. text ≡ []) (bytes_of 5 records) rows.name c.new-2.result c.unwrap_or-3.result c.unwrap_or-3.ensures c.new-2.ensures gathered.name;
          kind = singular_or MeansKind (λ kind. kind ≡ kinds.Unspecified) (varints_of 6 records) rows.kind kinds.Unspecified c.unwrap_or-4.result c.unwrap_or-4.ensures refl gathered.kind;
          start = singular_or MeansNumber (λ n. n ≡ 0) (fixed64s_of 7 records) rows.start 0 c.unwrap_or-5.result c.unwrap_or-5.ensures refl gathered.start;
          end = singular_or MeansNumber (λ n. n ≡ 0) (fixed64s_of 8 records) rows.end 0 c.unwrap_or-6.result c.unwrap_or-6.ensures refl gathered.end;
          attributes = c.in_ok-attributes.ensures.attributes (bytes_of 9 records) gathered.attributes;
          dropped_attributes = singular_or MeansCount (λ n. n ≡ 0) (varints_of 10 records) rows.dropped_attributes 0 c.unwrap_or-7.result c.unwrap_or-7.ensures refl gathered.dropped_attributes;
          events = gathered.events.members;
          each_event = gathered.events.each;
          its_events = record { kept = gathered.events.told.events; noted = refl };
          dropped_events = singular_or MeansCount (λ n. n ≡ 0) (varints_of 12 records) rows.dropped_events 0 c.unwrap_or-8.result c.unwrap_or-8.ensures refl gathered.dropped_events;
          links = gathered.links.members;
          each_link = gathered.links.each;
          its_links = record { kept = gathered.links.told.links; noted = refl; any_dropped = gathered.links.told.any_dropped };
          dropped_links = singular_or MeansCount (λ n. n ≡ 0) (varints_of 14 records) rows.dropped_links 0 c.unwrap_or-9.result c.unwrap_or-9.ensures refl gathered.dropped_links;
          status = singular_or (MeansMessage IsStatus) (λ status. status ≡ no_status) (bytes_of 15 records) rows.status c.status_unset.result c.unwrap_or-10.result c.unwrap_or-10.ensures c.status_unset.ensures gathered.status;
          flags = singular_or MeansNumber (λ n. n ≡ 0) (fixed32s_of 16 records) rows.flags 0 c.unwrap_or-11.result c.unwrap_or-11.ensures refl gathered.flags;
        };
      };
      remarks = remarks_are span rows.number notes rows.events.remarks rows.links.remarks c.in_ok-notes.notes gathered.number gathered.events.told.remarked gathered.links.told.remarked c.in_ok-notes.ensures;
    }
