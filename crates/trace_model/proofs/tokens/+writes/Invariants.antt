use Rattle.std.proofs.Common.{◌∷◌, take}
use Rattle.std.specs.List.{flat_map}
use Rattle.json.specs.Token.{begin_array, begin_object}
use Rattle.trace_model.specs.private.WrittenTokens.{Wrote, tokens_of, pair_tokens}
use Rattle.trace_model.proofs.tokens.+writes.Given as goal

abbrev pub invariant-write_list-members : goal.invariant-write_list-members
invariant-write_list-members l = Wrote l.fn.out l.out (begin_array ∷ flat_map tokens_of (take l.member-index l.members))

abbrev pub invariant-write_map-pairs : goal.invariant-write_map-pairs
invariant-write_map-pairs l = Wrote l.fn.out l.out (begin_object ∷ flat_map pair_tokens (take l.pair-index l.pairs))
