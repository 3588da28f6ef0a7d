use Rattle.span_io.specs.Tables.{no_ends}
use Rattle.otlp_proto.specs.StatedLaws.{WireFacts}
use Rattle.otlp_proto.specs.Event.{IsEvent, event_table}
use Rattle.otlp_proto.specs.Group.{IsResource, resource_table, IsGroup, group_table}
use Rattle.otlp_proto.specs.Link.{IsLink, link_table}
use Rattle.otlp_proto.specs.Scope.{IsInstrumentationScope, instrumentation_scope_table, IsScope, scope_table}
use Rattle.otlp_proto.specs.Span.{IsSpan, span_table, span_ends}
use Rattle.otlp_proto.specs.Status.{IsStatus, status_table}
use Rattle.otlp_proto.proofs.Bridges.{without_free}
use Rattle.otlp_proto.proofs.FreeValues.{value_passes, list_passes, map_passes, key_value_passes}
use Rattle.otlp_proto.proofs.EventMessage.{event_bridge}
use Rattle.otlp_proto.proofs.GroupMessages.{resource_bridge, group_bridge}
use Rattle.otlp_proto.proofs.LinkMessage.{link_bridge}
use Rattle.otlp_proto.proofs.ScopeMessages.{instrumentation_scope_bridge, scope_bridge}
use Rattle.otlp_proto.proofs.SpanMessage.{span_bridge}
use Rattle.otlp_proto.proofs.StatusMessage.{status_bridge}
use Rattle.otlp_proto.proofs.laws.free_records.Goals as goal

pub returns : goal.returns
returns c =
    let facts : WireFacts = record { format = c.message_cuts.ensures.laws; one_reading = c.one_reading.ensures.message } in
    record {
      value = value_passes facts;
      list = list_passes facts;
      map = map_passes facts;
      key_value = key_value_passes facts;
      status = without_free status_table no_ends IsStatus status_bridge;
      event = without_free event_table no_ends IsEvent event_bridge;
      link = without_free link_table no_ends IsLink link_bridge;
      span = without_free span_table span_ends IsSpan (span_bridge c.identifiers_read_back.ensures);
      instrumentation_scope = without_free instrumentation_scope_table no_ends IsInstrumentationScope instrumentation_scope_bridge;
      scope = without_free scope_table no_ends IsScope scope_bridge;
      resource = without_free resource_table no_ends IsResource resource_bridge;
      group = without_free group_table no_ends IsGroup group_bridge;
    }
