-- Losses of groups, computed.
use Rattle.std.proofs.Common.{◌≡◌, ℕ, true, List, [], ◌∷◌, Some, None, refl}
use Rattle.std.specs.Fmt.{digits}
use Rattle.std.specs.Prelude.{codes, pos}
use Rattle.trace_model.specs.declared.loss.Loss.{Loss}
use Rattle.trace_model.specs.declared.loss.LossRow.{LossRow}
use Rattle.trace_model.specs.declared.loss.LossRow.TheVariants as rows
use Rattle.trace_model.specs.declared.place.Place.{Place}
use Rattle.trace_model.specs.declared.place.Place.TheVariants as places
use Rattle.trace_model.specs.declared.span.Code.TheVariants as statuses
use Rattle.trace_model.specs.declared.span.Kind.TheVariants as kinds
use Rattle.trace_model.specs.declared.span.Span.{Span}
use Rattle.trace_model.specs.declared.group.Group.{Group}
use Rattle.trace_model.specs.declared.group.Scope.{Scope}
use Rattle.trace_model.specs.declared.value.Value.{Text, Truth, Number, Bytes, Nothing}
use Rattle.span_tags.specs.TagKeys.{service_key}
use Rattle.span_tags.specs.TagWords.{Pairs}
use Rattle.map_zipkin.specs.Keys.{peer_key}
use Rattle.map_zipkin.specs.Losses.{groups_losses, last_run}
use Rattle.map_zipkin.specs.declared.run.Run.{Run}

-- a span of which nothing is lost
plain : Span
plain = record {
  trace = 7;
  id = 8;
  state = [];
  parent = None;
  name = codes "get";
  kind = kinds.Client;
  start = 1000;
  end = 2000;
  attributes = [];
  dropped_attributes = 1;
  events = [];
  dropped_events = 0;
  links = [];
  dropped_links = 0;
  status = record { code = statuses.Fail; message = codes "no" };
  flags = 0;
}

-- one of which each row of a span and its parts is
lossy : Span
lossy = record plain {
  kind = kinds.Unspecified;
  start = 1001;
  end = 2001;
  attributes = (codes "cached", Truth true) ∷ (peer_key, Nothing) ∷ [];
  events = record { time = 1500; name = codes "e"; attributes = (codes "held", Bytes (1 ∷ [])) ∷ (codes "n", Nothing) ∷ []; dropped = 2 } ∷ [];
  links = record { trace = 7; span = 9; state = []; attributes = []; dropped = 0; flags = 0 } ∷ [];
  status = record { code = statuses.Okay; message = codes "yes" };
  flags = 1;
}

scope_of : List Span → Scope
scope_of spans = record { name = codes "lib"; version = []; attributes = []; dropped = 0; schema_url = []; spans = spans }

group_of : Pairs → List Scope → Group
group_of resource scopes = record { resource = resource; dropped = 0; schema_url = []; scopes = scopes }

loss : Place → LossRow → Loss
loss place row = record { place = place; row = row; key = [] }

loss_of : Place → LossRow → List ℕ → Loss
loss_of place row key = record { place = place; row = row; key = key }

service : Pairs
service = (service_key, Text (codes "cart")) ∷ []

the_run : List ℕ → Run
the_run text = record { resource = (codes "a", Text text) ∷ []; name = codes "lib"; version = [] }

-- nothing
none : groups_losses None (group_of service (scope_of (plain ∷ plain ∷ []) ∷ []) ∷ group_of [] (scope_of (plain ∷ []) ∷ []) ∷ []) ≡ []
unfolding plain scope_of group_of service
none = refl

-- a span, its event and its link
span : groups_losses None (group_of service (scope_of (plain ∷ lossy ∷ []) ∷ []) ∷ [])
    ≡ loss_of (places.Span 2) rows.Value (codes "cached") ∷ loss_of (places.Span 2) rows.Empty peer_key
    ∷ loss (places.Span 2) rows.Start ∷ loss (places.Span 2) rows.End ∷ loss (places.Span 2) rows.Kind ∷ loss (places.Span 2) rows.Message
    ∷ loss (places.Span 2) rows.Flags ∷ loss_of (places.Event 2 1) rows.Value (codes "held") ∷ loss (places.Event 2 1) rows.DroppedCount
    ∷ loss (places.Event 2 1) rows.Time ∷ loss (places.Link 2 1) rows.Link ∷ []
unfolding plain lossy scope_of group_of service loss loss_of
span = refl

-- resources and scopes: a group without spans between two of equal resource, in normal form
joined : groups_losses None (
    group_of service (scope_of (plain ∷ []) ∷ []) ∷ record (group_of [] (scope_of [] ∷ [])) { dropped = 3; schema_url = codes "u" }
    ∷ group_of ((codes "a", Number (pos 5)) ∷ []) (scope_of (plain ∷ []) ∷ scope_of [] ∷ scope_of (plain ∷ []) ∷ [])
    ∷ group_of ((codes "a", Text (codes "5")) ∷ (service_key, Text []) ∷ []) (scope_of (plain ∷ []) ∷ []) ∷ [])
    ≡ loss places.Whole rows.UnitEmpty ∷ loss places.Resource rows.DroppedCount ∷ loss places.Resource rows.SchemaUrl ∷ loss (places.Scope 1) rows.ScopeEmpty
    ∷ loss_of places.Resource rows.Value (codes "a") ∷ loss (places.Scope 2) rows.ScopeEmpty ∷ loss (places.Scope 3) rows.ScopeJoined
    ∷ loss places.Whole rows.UnitJoined ∷ loss_of places.Resource rows.Empty service_key ∷ loss (places.Scope 1) rows.ScopeJoined ∷ []
unfolding plain scope_of group_of service loss loss_of digits
joined = refl

-- a group without spans between two of its resource: the later joins the span before it
behind_none : groups_losses None (
    group_of service (scope_of (plain ∷ []) ∷ []) ∷ group_of service [] ∷ group_of service (scope_of (plain ∷ []) ∷ []) ∷ [])
    ≡ loss places.Whole rows.UnitEmpty ∷ loss places.Whole rows.UnitJoined ∷ loss (places.Scope 1) rows.ScopeJoined ∷ []
unfolding plain scope_of group_of service loss
behind_none = refl

-- the service's name in another form than text, and a text that stays
service_number : groups_losses None (group_of ((codes "a", Text []) ∷ (service_key, Number (pos 5)) ∷ []) (scope_of (plain ∷ []) ∷ []) ∷ [])
    ≡ loss_of places.Resource rows.Value service_key ∷ []
unfolding plain scope_of group_of loss_of digits
service_number = refl

-- the run of the last span, in normal form
last : last_run (group_of ((codes "a", Number (pos 5)) ∷ (service_key, Text []) ∷ []) (scope_of (plain ∷ []) ∷ scope_of [] ∷ []))
    ≡ Some (the_run (codes "5"))
unfolding plain scope_of group_of the_run digits
last = refl

last_none : last_run (group_of service (scope_of [] ∷ [])) ≡ None
unfolding scope_of group_of service
last_none = refl
