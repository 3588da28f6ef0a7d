use Rattle.std.proofs.Common.{sym, rules, arith}
use Rattle.std.proofs.lemmas.List.Sums.{position_or_len_is}
use Rattle.row_tables.specs.Words.{is_space}
use Rattle.row_tables.proofs.spelled.word_size.Goals as goal

pub returns-then-is_space-clause-value : goal.returns-then-is_space-clause-value
returns-then-is_space-clause-value c =
    sym (position_or_len_is is_space c.args.text.now c.bytes.size 0 (omega arith) c.bytes.invariant.none (λ _. search rules))

pub returns-clause-value : goal.returns-clause-value
returns-clause-value c =
    sym (position_or_len_is is_space c.args.text.now c.bytes.size 0 (omega arith) c.bytes.invariant.none (λ h. absurd (omega arith)))
