-- Parts of the span that a span of Zipkin means, as its reader comes by them.
use Rattle.std.specs.Prelude.{◌≡◌, ℕ, false, List, [], ◌++◌, All, unwrap_or}
use Rattle.span_tags.specs.TagWords.{Pairs, text_in, count_in, name_in}
use Rattle.trace_model.specs.Attributes.{attrs}
use Rattle.map_zipkin.specs.Reading.{status_code, message_of, free_pairs, resource_by}
use Rattle.map_zipkin.specs.TagColumns.{TagColumns, columns_in}
use Rattle.map_zipkin.specs.Writing.{is_told}
use Rattle.map_zipkin.specs.declared.columns.Column.TheVariants as columns
use Rattle.map_zipkin.specs.declared.reading.attributes.Parted.{Parted}
use Rattle.map_zipkin.specs.declared.reading.columns.Told.{Told}

-- ---- what the tags tell of a span and its scope, column by column

-- this is what the columns tell: the scope's name and version, the trace state, the dropped counts, and the status
pub record IsZipkinTold (c : TagColumns) (told : Told) : Type 0 where
  pub name : told.name ≡ name_in (c columns.ScopeName) (c columns.LibraryName)
  pub version : told.version ≡ name_in (c columns.ScopeVersion) (c columns.LibraryVersion)
  pub state : told.state ≡ unwrap_or (text_in (c columns.State)) []
  pub dropped_attributes : told.dropped_attributes ≡ unwrap_or (count_in (c columns.DroppedAttributes)) 0
  pub dropped_events : told.dropped_events ≡ unwrap_or (count_in (c columns.DroppedEvents)) 0
  pub dropped_links : told.dropped_links ≡ unwrap_or (count_in (c columns.DroppedLinks)) 0
  pub code : told.status.code ≡ status_code c
  pub message : told.status.message ≡ message_of (status_code c) (c columns.Error)

-- the same, of the columns that these tags hold
abbrev pub IsZipkinToldBy : Pairs → Told → Type 0
IsZipkinToldBy tags told = IsZipkinTold (columns_in tags) told

-- ---- the tags in two parts: those of the resource, and attributes

-- each has a place of its own
abbrev pub ArePlaced : Pairs → Type 0
ArePlaced pairs = All (λ pair. is_told pair.0 ≡ false) pairs

-- the two parts: the resource, with this service, and the attributes, which are these pairs and the free tags
pub record ArePartedBy (service : List ℕ) (pairs tags : Pairs) (parted : Parted) : Type 0 where
  pub resource : parted.resource ≡ resource_by service tags
  pub attributes : parted.attributes ≡ attrs (pairs ++ free_pairs tags)
