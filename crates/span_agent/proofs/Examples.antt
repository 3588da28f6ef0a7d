-- The definitions on examples.
use Rattle.std.proofs.Common.{◌≡◌, ◌∷◌, ◌++◌, inr, pos, [], true, Ok, Err, refl, arith}
use Rattle.span_io.specs.declared.cause.Cause.TheVariants as reasons
use Rattle.span_io.specs.Varint.{SpellsVarint, SpellsWithin}
use Rattle.thrift_core.specs.declared.type_code.TypeCode.TheVariants as kinds
use Rattle.span_agent.specs.Arguments.{batches_of}
use Rattle.span_agent.specs.Headers.{HeaderThen, emit_batch}
use Rattle.span_agent.specs.Messages.{told_by}
use Rattle.span_agent.specs.declared.message.AgentCause.TheVariants as causes

-- ---- headers

-- 82 81 00 09, the name, and then the arguments
compact_oneway : HeaderThen true emit_batch (130 ∷ 129 ∷ 0 ∷ 9 ∷ (emit_batch ++ 28 ∷ [])) (28 ∷ [])
unfolding SpellsVarint SpellsWithin
compact_oneway = record {
  kind = 4;
  sequence = 0;
  numbered = 0 ∷ 9 ∷ (emit_batch ++ 28 ∷ []);
  sized = 9 ∷ (emit_batch ++ 28 ∷ []);
  calls = inr refl;
  begins = refl;
  sequence_then = record { text = 0 ∷ []; spelled = (omega arith, refl); parts = refl };
  name_then = record {
    size = 9;
    named = emit_batch ++ 28 ∷ [];
    size_then = record { text = 9 ∷ []; spelled = (omega arith, refl); parts = refl };
    name_then = (refl, refl);
  };
}

-- ---- what the arguments say

-- field 1 of type struct is a batch, and neither field 2 nor field 1 of another type
among : batches_of (record { id = pos 1; kind = kinds.Struct; text = 0 ∷ [] } ∷ record { id = pos 2; kind = kinds.Struct; text = 7 ∷ [] } ∷ record { id = pos 1; kind = kinds.I8; text = 9 ∷ [] } ∷ [])
    ≡ (0 ∷ []) ∷ []
among = refl

twice_before_tail : told_by ((0 ∷ []) ∷ (0 ∷ []) ∷ []) (5 ∷ []) ≡ Err (causes.Reading reasons.FieldTwice)
twice_before_tail = refl

tail_before_no_batch : told_by [] (5 ∷ []) ≡ Err causes.Tail
tail_before_no_batch = refl

no_batch : told_by [] [] ≡ Err causes.NoBatch
no_batch = refl

one_batch : told_by ((0 ∷ []) ∷ []) [] ≡ Ok (0 ∷ [])
one_batch = refl
