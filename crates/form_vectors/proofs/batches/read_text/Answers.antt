use Rattle.std.proofs.Common.{ℕ, List, [], take, sym, ap, subst, arith, ◌∙◌}
use Rattle.std.proofs.lemmas.List.{length-take, take_at}
use Rattle.thrift_core.specs.Values.{struct_frames}
use Rattle.thrift_spellings.specs.BinarySpelling.{binary_spells, binary_then_varint}
use Rattle.form_vectors.proofs.batches.read_text.Goals as goal

pub slice_bounds-read_batch-end : goal.slice_bounds-read_batch-end
slice_bounds-read_batch-end c =
    omega (arith, (c.in-Unit.ensures.within [] c.new-scanner.ensures.nothing).1, length-take c.in-Unit.size c.args.bytes.now)

pub read_batch-requires : goal.read_batch-requires
read_batch-requires c =
    let h = (c.push.ensures.frame [] c.new-scanner.ensures.nothing c.in-Unit.size).0 c.in-Unit.is in
    let front = ap (take c.in-Unit.size) h.parts ∙ take_at h.text h.rest c.in-Unit.size (omega (arith, h.size)) in
    record { stands = subst (λ (l : List ℕ). (struct_frames binary_spells binary_then_varint).Whole l) (sym front) h.whole }
