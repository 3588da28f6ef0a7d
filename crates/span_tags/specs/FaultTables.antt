-- How a target finds the fault of a group that counts: place by place, and at a place row by row.
use Rattle.std.specs.Prelude.{ℕ, ◌≤◌, nat_lt, Bool, ◌||◌, cond, List, [], ◌∷◌, Option, Some, None, option_map}
use Rattle.std.specs.List.{list_any}
use Rattle.std.specs.Option.{option_or}
use Rattle.trace_model.specs.declared.fault.Fault.{Fault}
use Rattle.trace_model.specs.declared.fault.Fault.TheVariants.{EndBeforeStart, OwnKey, EventText, ChildOfLink, DoubleInText}
use Rattle.trace_model.specs.declared.span.Event.{Event}
use Rattle.trace_model.specs.declared.span.Span.{Span}
use Rattle.trace_model.specs.declared.group.Group.{Group}
use Rattle.trace_model.specs.declared.group.Scope.{Scope}
use Rattle.trace_model.specs.declared.value.Value.{Value}
use Rattle.span_tags.specs.TagWords.{Pairs}

-- how a target finds each kind of fault; an end before the start is found alike for every target, and has no field here
pub record FaultTable : Type 0 where
  -- the first key of the target's own under which an attribute isn't of its form
  pub own_key : Pairs → Option (List ℕ)
  pub has_event_fault : List Event → Bool
  pub has_link_fault : Span → Bool
  -- a double stands where a text is wanted: in the value of an attribute, and where else in a resource
  pub has_double : Value → Bool
  pub has_double_besides : Pairs → Bool

-- no end before the start
abbrev pub IsTimely : Span → Type 0
IsTimely span = span.start ≤ span.end

-- the first of a list, which has one
abbrev pub BeginsWith : {A : Type 0} → (A → Type 0) → List A → Type 0
BeginsWith P [] = ⊥
BeginsWith P (x ∷ more) = P x

-- a fault or a key, where a test says so
abbrev pub if_so : {A : Type 0} → Bool → A → Option A
if_so so found = cond so (Some found) None

module _ (table : FaultTable) where
  -- a double stands in one of these attributes where the target wants a text
  abbrev pub doubles_in : Pairs → Bool
  doubles_in attributes = list_any (λ pair. table.has_double pair.1) attributes

  -- the same of the attributes of a span and of its events
  abbrev pub doubles_in_span : Span → Bool
  doubles_in_span span = doubles_in span.attributes || list_any (λ event. doubles_in event.attributes) span.events

  -- the same of a resource, of which the target may ask more
  abbrev pub doubles_in_resource : Pairs → Bool
  doubles_in_resource resource = table.has_double_besides resource || doubles_in resource

  -- the rows by their numbers
  abbrev pub fault_of_span : Span → Option Fault
  fault_of_span span = option_or (if_so (nat_lt span.end span.start) EndBeforeStart)
      (option_or (option_map OwnKey (table.own_key span.attributes))
      (option_or (if_so (table.has_event_fault span.events) EventText)
      (option_or (if_so (table.has_link_fault span) ChildOfLink)
      (if_so (doubles_in_span span) DoubleInText))))

  -- the fault of the first of these spans that has one
  abbrev pub fault_of_spans : List Span → Option Fault
  fault_of_spans [] = None
  fault_of_spans (span ∷ spans) = option_or (fault_of_span span) (fault_of_spans spans)

  -- the fault of the first span that has one, from scope to scope
  abbrev pub fault_of_scopes : List Scope → Option Fault
  fault_of_scopes [] = None
  fault_of_scopes (scope ∷ scopes) = option_or (fault_of_spans scope.spans) (fault_of_scopes scopes)

  -- the resource stands before the spans
  abbrev pub found_fault : Group → Option Fault
  found_fault group = option_or (if_so (doubles_in_resource group.resource) DoubleInText) (fault_of_scopes group.scopes)
