-- What the parts of a head answer, form by form.
use Rattle.std.specs.Prelude.{◌≡◌, List, [], ◌∷◌, ℕ, false, Bool, Option, Some, None}
use Rattle.std.specs.Bool.{MatchBool}
use Rattle.std.specs.List.{flat_map}
use Rattle.propagation.specs.Blocks.{Header}
use Rattle.propagation.specs.Tracestate.{member_comma, ReadsTracestate}
use Rattle.propagation.specs.Heads.{TellsContext}
use Rattle.propagation.specs.declared.context.Context.{Context}
use Rattle.propagation.specs.declared.header_form.HeaderForm.{HeaderForm}
use Rattle.propagation.specs.declared.ids.Ids.{Ids}
use Rattle.propagation.specs.declared.sampling.Sampling.{Sampling}

-- a context of a form that has no state
abbrev pub stateless : Option Ids → Sampling → Context
stateless ids sampling = record { ids = ids; sampling = sampling; state = [] }

-- the values, each behind a comma
abbrev pub behind_commas : List (List ℕ) → List ℕ
behind_commas values = flat_map (λ value. member_comma ∷ value) values

-- the state that a value of `tracestate` tells, or nothing where it isn't of the form and is dropped
abbrev pub IsStateOf : List ℕ → List ℕ → Bool → Type 0
IsStateOf text state dropped =
    MatchBool dropped (((other : List ℕ) → ¬ (ReadsTracestate text other)) × (state ≡ [])) (ReadsTracestate text state)

-- the headers of the form tell no context
abbrev pub TellsNone : HeaderForm → List Header → Type 0
TellsNone form headers = (c : Context) (dropped : Bool) → ¬ (TellsContext form headers c dropped)

-- the context that the headers of the form tell, or none where they tell none
abbrev pub AnswersForm : HeaderForm → List Header → Option (Context × Bool) → Type 0
AnswersForm form headers None = TellsNone form headers
AnswersForm form headers (Some read) = TellsContext form headers read.0 read.1

-- the same of a form that has no state
abbrev pub AnswersStateless : HeaderForm → List Header → Option (Option Ids × Sampling) → Type 0
AnswersStateless form headers None = TellsNone form headers
AnswersStateless form headers (Some read) = TellsContext form headers (stateless read.0 read.1) false
