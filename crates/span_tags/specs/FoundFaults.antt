-- What has to be known of a table of faults, so that the fault that is found by it is the one that counts.
use Rattle.std.specs.Prelude.{nat_lt, [], None}
use Rattle.trace_model.specs.declared.fault.Fault.{Fault}
use Rattle.trace_model.specs.declared.fault.Fault.TheVariants.{EndBeforeStart, OwnKey, EventText, ChildOfLink, DoubleInText}
use Rattle.trace_model.specs.declared.span.Span.{Span}
use Rattle.span_tags.specs.TagWords.{Pairs}
use Rattle.std.proofs.Common.{◌≡◌, false}
use Rattle.std.specs.Bool.{Decides}
use Rattle.trace_model.specs.LeastOf.{IsLeastOf}
use Rattle.trace_model.specs.Soundness.{IsSoundSpan}
use Rattle.trace_model.specs.declared.span.Code.TheVariants as statuses
use Rattle.trace_model.specs.declared.span.Kind.TheVariants as kinds
use Rattle.span_tags.specs.PlacedFaults.{KeyAtMost}
use Rattle.span_tags.specs.FaultTables.{FaultTable, doubles_in_resource, doubles_in_span}

-- ---- what has to be known of a table, so that what is found counts

-- these are the faults of a span, of those with keys the least
pub record FindsRows (table : FaultTable) (span : Span) (IsFault : Fault → Type 0) : Type 0 where
  pub end : Decides (nat_lt span.end span.start) (IsFault EndBeforeStart)
  pub own : IsLeastOf KeyAtMost (λ key. IsFault (OwnKey key)) (table.own_key span.attributes)
  pub event : Decides (table.has_event_fault span.events) (IsFault EventText)
  pub link : Decides (table.has_link_fault span) (IsFault ChildOfLink)
  pub double : Decides (doubles_in_span table span) (IsFault DoubleInText)

-- a span of which nothing is told
abbrev pub plain_span : Span
plain_span = record {
  trace = 0;
  id = 0;
  state = [];
  parent = None;
  name = [];
  kind = kinds.Internal;
  start = 0;
  end = 0;
  attributes = [];
  dropped_attributes = 0;
  events = [];
  dropped_events = 0;
  links = [];
  dropped_links = 0;
  status = record { code = statuses.Unset; message = [] };
  flags = 0;
}

-- a resource has no other fault than a double; in a plain span nothing is found
pub record FindsFaults (table : FaultTable) (IsResourceFault : Pairs → Fault → Type 0) (IsSpanFault : Span → Fault → Type 0)
    : Type 0 where
  pub resource : (resource : Pairs) → Decides (doubles_in_resource table resource) (IsResourceFault resource DoubleInText)
  pub only_doubles : (resource : Pairs) (fault : Fault) → IsResourceFault resource fault → fault ≡ DoubleInText
  pub span : (span : Span) → IsSoundSpan span → FindsRows table span (IsSpanFault span)
  pub no_own : table.own_key [] ≡ None
  pub no_event : table.has_event_fault [] ≡ false
  pub no_link : table.has_link_fault plain_span ≡ false
