-- What the headers of one form tell, by the values of its headers.
use Rattle.std.proofs.Common.{◌≡◌, ℕ, List, [], ◌∷◌, sym, subst, ◌∙◌}
use Rattle.std.specs.Prelude.{Option, None}
use Rattle.propagation.specs.Blocks.{Header}
use Rattle.propagation.specs.Uber.{ReadsUber}
use Rattle.propagation.specs.Traceparent.{ReadsTraceparent}
use Rattle.propagation.specs.Heads.{StandsOnce, header_values, uber_name, traceparent_name}
use Rattle.propagation.specs.private.HeadSteps.{TellsNone, AnswersStateless}
use Rattle.propagation.specs.declared.header_form.HeaderForm.{HeaderForm}
use Rattle.propagation.specs.declared.header_form.HeaderForm.TheVariants as forms
use Rattle.propagation.specs.declared.ids.Ids.{Ids}
use Rattle.propagation.specs.declared.sampling.Sampling.{Sampling}

-- an answer that is none, where the form tells none
pub answers_none : (form : HeaderForm) (headers : List Header) (r : Option (Option Ids × Sampling)) → r ≡ None → TellsNone form headers → AnswersStateless form headers r
answers_none form headers r e none = subst (λ x. AnswersStateless form headers x) (sym e) none

one_value : (values : List (List ℕ)) (a b : List ℕ) → values ≡ a ∷ [] → values ≡ b ∷ [] → a ≡ b
one_value values a b e f = let k = sym e ∙ f in cc

module _ (headers : List Header) where
  pub traceparent_not_once : ((value : List ℕ) → StandsOnce traceparent_name headers value → ⊥) → TellsNone forms.W3c headers
  traceparent_not_once none c dropped h = none h.0 h.2

  -- ---- where its value isn't of the form

  pub uber_unread : (value : List ℕ) → StandsOnce uber_name headers value → ((ids : Ids) (sampling : Sampling) → ReadsUber value ids sampling → ⊥) → TellsNone forms.Uber headers
  uber_unread value once none c dropped h = none h.1 c.sampling (subst (λ v. ReadsUber v h.1 c.sampling) (one_value (header_values uber_name headers) h.0 value h.2 once) h.3)

  pub traceparent_unread : (value : List ℕ) → StandsOnce traceparent_name headers value → ((ids : Ids) (sampling : Sampling) → ReadsTraceparent value ids sampling → ⊥) → TellsNone forms.W3c headers
  traceparent_unread value once none c dropped h = none h.1 c.sampling (subst (λ v. ReadsTraceparent v h.1 c.sampling) (one_value (header_values traceparent_name headers) h.0 value h.2 once) h.3)
