use Rattle.std.proofs.Common.{ap, ◌∙◌}
use Rattle.hex.specs.Hex.{encode_lower}
use Rattle.span_ids.specs.declared.hex_text.IdRule.TheVariants as rules
use Rattle.span_ids.proofs.HexLemmas.{hex_is_utf8, trace_text, one_text}
use Rattle.span_ids.proofs.trace_id.TraceId.write_hex.Goals as goal

pub returns-clause-again : goal.returns-clause-again
returns-clause-again c =
    let text = rw c.unwrap.ensures at c.encode_to_slice.ensures.written in
    rw (text, c.to_bytes.ensures.written) (trace_text _ c.known.ensures.positive c.known.ensures.fits)

pub returns-clause-only : goal.returns-clause-only
returns-clause-only c = λ text spells. one_text 32 c.args.self.now text c.encode_to_slice.new.output spells (returns-clause-again c rules.ExactLower)

pub returns-clause-written : goal.returns-clause-written
returns-clause-written c =
    let text = rw c.unwrap.ensures at c.encode_to_slice.ensures.written in
    text ∙ ap encode_lower c.to_bytes.ensures.written

pub returns-clause-utf8 : goal.returns-clause-utf8
returns-clause-utf8 c = hex_is_utf8 _ (returns-clause-again c rules.Exact).0.0.1
