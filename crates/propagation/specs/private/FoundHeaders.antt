-- What was found of the headers that tell a context.
use Rattle.std.specs.Prelude.{◌≡◌, ℕ, List, [], ◌∷◌}
use Rattle.propagation.specs.Blocks.{Header}
use Rattle.propagation.specs.Heads.{header_values, traceparent_name, tracestate_name, b3_name, uber_name, b3_trace_name, b3_span_name, b3_parent_name, b3_sampled_name, b3_flags_name}
use Rattle.propagation.specs.declared.found.Once.{Once}
use Rattle.propagation.specs.declared.found.Once.TheVariants.{Missing, At, Twice}
use Rattle.propagation.specs.declared.found.Multi.{Multi}
use Rattle.propagation.specs.declared.found.Found.{Found}

-- no value, one, or more
abbrev pub HoldsOnce : Once → List (List ℕ) → Type 0
HoldsOnce Missing values = values ≡ []
HoldsOnce (At value) values = values ≡ value.now ∷ []
HoldsOnce Twice values = (a b : List ℕ) × (more : List (List ℕ)) × (values ≡ a ∷ b ∷ more)

-- what was found of the five headers X-B3, name by name
pub record FoundMulti (found : Multi) (headers : List Header) : Type 0 where
  pub trace : HoldsOnce found.trace (header_values b3_trace_name headers)
  pub span : HoldsOnce found.span (header_values b3_span_name headers)
  pub parent : HoldsOnce found.parent (header_values b3_parent_name headers)
  pub sampled : HoldsOnce found.sampled (header_values b3_sampled_name headers)
  pub flags : HoldsOnce found.flags (header_values b3_flags_name headers)

-- what was found in these headers, name by name
pub record FoundIn (found : Found) (headers : List Header) : Type 0 where
  pub traceparent : HoldsOnce found.traceparent (header_values traceparent_name headers)
  pub state : HoldsOnce found.state (header_values tracestate_name headers)
  pub b3 : HoldsOnce found.b3 (header_values b3_name headers)
  pub multi : FoundMulti found.multi headers
  pub uber : HoldsOnce found.uber (header_values uber_name headers)
