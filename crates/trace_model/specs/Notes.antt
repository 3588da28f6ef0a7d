-- What is noted of spans and of scopes: keys that stand more than once, and links that were dropped. The numbers of a remark's place are
-- found in the whole group (GroupRemarks.antt).
use Rattle.std.specs.Prelude.{Bool, List}
use Rattle.trace_model.specs.Remarks.{Keys}

-- of a span: its own keys, whether a link was dropped, and the keys of each event and of each link that was kept
pub record SpanNotes : Type 0 where
  pub keys : Keys
  pub dropped : Bool
  pub events : List Keys
  pub links : List Keys

-- of a scope: its own keys, and what is noted of each span
pub record ScopeNotes : Type 0 where
  pub keys : Keys
  pub spans : List SpanNotes
