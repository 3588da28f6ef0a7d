-- Headers whose names begin with `X-B3-`.
use Rattle.std.proofs.Common.{◌≡◌, ℕ, List, sym, subst}
use Rattle.std.specs.Prelude.{Option, None}
use Rattle.propagation.specs.Blocks.{Header}
use Rattle.propagation.specs.Heads.{TellsMulti, TellsMultiSampling}
use Rattle.propagation.specs.private.HeadSteps.{AnswersStateless}
use Rattle.propagation.specs.declared.header_form.HeaderForm.TheVariants as forms
use Rattle.propagation.specs.declared.ids.Ids.{Ids}
use Rattle.propagation.specs.declared.sampling.Sampling.{Sampling}

pub no_multi : (headers : List Header) (r : Option (Option Ids × Sampling)) → r ≡ None → ((ids : Option Ids) (sampling : Sampling) → TellsMulti headers ids sampling → ⊥) → AnswersStateless forms.B3Multi headers r
no_multi headers r e none = subst (λ x. AnswersStateless forms.B3Multi headers x) (sym e) (λ c dropped h. none c.ids c.sampling h.0)

pub same_multi_sampling : (sampled flags other more : Option (List ℕ)) (sampling : Sampling) → sampled ≡ other → flags ≡ more → TellsMultiSampling other more sampling → TellsMultiSampling sampled flags sampling
same_multi_sampling sampled flags other more sampling e f h = subst (λ x. TellsMultiSampling x flags sampling) (sym e) (subst (λ x. TellsMultiSampling other x sampling) (sym f) h)
