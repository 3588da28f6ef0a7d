use Rattle.std.proofs.Common.{ℕ, List, ap, subst}
use Rattle.trace_model.specs.declared.group.Group.{Group}
use Rattle.span_convert.specs.Canonical.{Reads}
use Rattle.span_convert.specs.Units.{normal_form, trace_text, canonical_text}
use Rattle.span_convert.proofs.TextLaws.{reads_plainly}
use Rattle.span_convert.proofs.laws.equal_texts.Goals as goal

pub returns : goal.returns
returns c = λ to a b held_a held_b. (
  λ same.
      let first : Reads to (canonical_text to a) (normal_form to a) = reads_plainly to (canonical_text to a) (normal_form to a) (c.text_read_back.ensures to a held_a) in
      let second : Reads to (canonical_text to b) (normal_form to b) = reads_plainly to (canonical_text to b) (normal_form to b) (c.text_read_back.ensures to b held_b) in
      c.normal_forms.ensures.once to (canonical_text to b) (normal_form to a) (normal_form to b) (subst (λ (l : List ℕ). Reads to l (normal_form to a)) same first) second,
  λ same. ap (λ (l : List Group). trace_text to l) same,
)
