-- What a loss means: the condition of its row, told of a part of a group and of the part of the normal form that stands in its
-- place. A row that isn't told of such a part has no loss there. Where the row is told of an attribute the loss has its key, else
-- it has none.
--     StaysOther, Goes key part normal     the attribute of the key stays with another value, or goes
--     OfResource, OfScope, OfSpan, OfEvent, OfLink      the rows of each part
--     numbered n xs             the member of this number, counted from 1
--     InPlace n parts normal    the part of this number and the part in its place are such
--     InSpan, InEvent, InLink   a span, an event and a link, by their numbers
--     Begins n scopes           a scope begins behind this many spans
use Rattle.std.specs.Prelude.{◌≡◌, ◌≢◌, ℕ, zero, suc, ◌+◌, List, [], ◌∷◌, ◌++◌, length, slice_get, Option, Some, None}
use Rattle.std.specs.List.{flat_map}
use Rattle.trace_model.specs.Attributes.{at}
use Rattle.trace_model.specs.declared.loss.LossRow.{LossRow}
use Rattle.trace_model.specs.declared.loss.LossRow.TheVariants as rows
use Rattle.trace_model.specs.declared.span.Event.{Event}
use Rattle.trace_model.specs.declared.span.Kind.TheVariants as kinds
use Rattle.trace_model.specs.declared.span.Link.{Link}
use Rattle.trace_model.specs.declared.span.Span.{Span}
use Rattle.trace_model.specs.declared.group.Group.{Group}
use Rattle.trace_model.specs.declared.group.Scope.{Scope}
use Rattle.trace_model.specs.declared.value.Value.{Value}
use Rattle.span_tags.specs.TagWords.{Pairs}

-- ---- attributes

-- the attribute of the key stands in the part and in its normal form, but with another value
pub record StaysOther (key : List ℕ) (part normal : Pairs) : Type 0 where
  pub value : Value
  pub other : Value
  pub stood : at key part ≡ Some value
  pub stands : at key normal ≡ Some other
  pub differ : value ≢ other

-- the attribute of the key stands in the part, and not in its normal form
pub record Goes (key : List ℕ) (part normal : Pairs) : Type 0 where
  pub value : Value
  pub stood : at key part ≡ Some value
  pub gone : at key normal ≡ None

-- ---- the rows

-- a loss of a group's resource, whose normal form has these attributes: a value, the count of dropped attributes, the schema URL
-- of the group, or an attribute that goes
abbrev pub OfResource : Group → Pairs → LossRow → List ℕ → Type 0
OfResource group normal rows.Value key = StaysOther key group.resource normal
OfResource group normal rows.DroppedCount key = (key ≡ []) × (group.dropped ≢ 0)
OfResource group normal rows.SchemaUrl key = (key ≡ []) × (group.schema_url ≢ [])
OfResource group normal rows.Empty key = Goes key group.resource normal
OfResource group normal other key = ⊥

-- a scope, which joins that of the span before where that is so
abbrev pub OfScope : Scope → Type 0 → LossRow → List ℕ → Type 0
OfScope scope Joins rows.DroppedCount key = (key ≡ []) × (scope.dropped ≢ 0)
OfScope scope Joins rows.SchemaUrl key = (key ≡ []) × (scope.schema_url ≢ [])
OfScope scope Joins rows.Attributes key = (key ≡ []) × (scope.attributes ≢ [])
OfScope scope Joins rows.ScopeEmpty key = (key ≡ []) × (scope.spans ≡ [])
OfScope scope Joins rows.ScopeJoined key = (key ≡ []) × Joins
OfScope scope Joins other key = ⊥

-- a loss of a span itself, against the span in its place: an attribute, a time, an unspecified kind, its message or its flags
abbrev pub OfSpan : LossRow → List ℕ → Span → Span → Type 0
OfSpan rows.Value key span normal = StaysOther key span.attributes normal.attributes
OfSpan rows.Empty key span normal = Goes key span.attributes normal.attributes
OfSpan rows.Start key span normal = (key ≡ []) × (span.start ≢ normal.start)
OfSpan rows.End key span normal = (key ≡ []) × (span.end ≢ normal.end)
OfSpan rows.Kind key span normal = (key ≡ []) × (span.kind ≡ kinds.Unspecified)
OfSpan rows.Message key span normal = (key ≡ []) × ((span.status.message ≢ []) × (normal.status.message ≡ []))
OfSpan rows.Flags key span normal = (key ≡ []) × (span.flags ≢ normal.flags)
OfSpan other key span normal = ⊥

-- a loss of an event, against the event in its place: a value of an attribute, the count of dropped attributes, or its time
abbrev pub OfEvent : LossRow → List ℕ → Event → Event → Type 0
OfEvent rows.Value key event normal = StaysOther key event.attributes normal.attributes
OfEvent rows.DroppedCount key event normal = (key ≡ []) × (event.dropped ≢ 0)
OfEvent rows.Time key event normal = (key ≡ []) × (event.time ≢ normal.time)
OfEvent other key event normal = ⊥

-- a link, where the normal form has it, and where it hasn't
abbrev pub OfLink : LossRow → List ℕ → Link → Option Link → Type 0
OfLink rows.DroppedCount key link (Some normal) = (key ≡ []) × (link.dropped ≢ 0)
OfLink rows.Attributes key link (Some normal) = (key ≡ []) × (link.attributes ≢ normal.attributes)
OfLink rows.Flags key link (Some normal) = (key ≡ []) × (link.flags ≢ 0)
OfLink rows.State key link (Some normal) = (key ≡ []) × (link.state ≢ [])
OfLink rows.Link key link None = key ≡ []
OfLink other key link normal = ⊥

-- ---- parts by their numbers

-- the member of this number, counted from 1, if there is one; none has the number 0
abbrev pub numbered : {A : Type 0} → ℕ → List A → Option A
numbered zero xs = None
numbered (suc n) xs = slice_get xs n

-- both lists have a part of this number, and the two of them are such
pub record InPlace {A : Type 0} (n : ℕ) (parts normal : List A) (Such : A → A → Type 0) : Type 0 where
  pub part : A
  pub in_place : A
  pub stood : numbered n parts ≡ Some part
  pub stands : numbered n normal ≡ Some in_place
  pub such : Such part in_place

-- the span of this number has a loss of this row and key, against the span of the same number in the normal form
abbrev pub InSpan : ℕ → List Span → List Span → LossRow → List ℕ → Type 0
InSpan n spans normal row key = InPlace n spans normal (OfSpan row key)

-- in the span of the first number, the event of the second has a loss of this row and key
abbrev pub InEvent : ℕ → ℕ → List Span → List Span → LossRow → List ℕ → Type 0
InEvent n e spans normal row key = InPlace n spans normal (λ span other. InPlace e span.events other.events (OfEvent row key))

-- links that the normal form has stand in it by the numbers that they have
pub record IsLinkLoss (l : ℕ) (row : LossRow) (key : List ℕ) (span normal : Span) : Type 0 where
  pub link : Link
  pub stood : numbered l span.links ≡ Some link
  pub such : OfLink row key link (numbered l normal.links)

-- in the span of the first number, the link of the second has a loss of this row and key
abbrev pub InLink : ℕ → ℕ → List Span → List Span → LossRow → List ℕ → Type 0
InLink n l spans normal row key = InPlace n spans normal (IsLinkLoss l row key)

-- ---- scopes

-- all spans of these scopes, in order
abbrev pub spans_in : List Scope → List Span
spans_in scopes = flat_map (λ scope. scope.spans) scopes

-- one of these scopes has n spans before it, in all the scopes before it together
pub record Begins (n : ℕ) (scopes : List Scope) : Type 0 where
  pub before : List Scope
  pub scope : Scope
  pub others : List Scope
  pub split : scopes ≡ before ++ scope ∷ others
  pub spans : length (spans_in before) ≡ n

-- The scope of this number. It joins that of the span before where it has a span and no scope of the normal form begins with its
-- first: so many spans as are given stand before the scopes.
pub record InScope (n spans : ℕ) (scopes normal : List Scope) (row : LossRow) (key : List ℕ) : Type 0 where
  pub before : List Scope
  pub scope : Scope
  pub others : List Scope
  pub split : scopes ≡ before ++ scope ∷ others
  pub number : n ≡ suc (length before)
  pub such : OfScope scope ((scope.spans ≢ []) × (Begins (spans + length (spans_in before)) normal → ⊥)) row key
