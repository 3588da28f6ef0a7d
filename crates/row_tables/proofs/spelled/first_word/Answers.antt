use Rattle.std.proofs.Common.{◌≡◌, ◌+◌, ◌-◌, [], length, take, drop, arith}
use Rattle.std.specs.List.{before_first, after_first}
use Rattle.std.proofs.lemmas.Grind.{common_steps}
use Rattle.row_tables.specs.Words.{is_space}
use Rattle.row_tables.proofs.PartLemmas.{takes_part}
use Rattle.row_tables.proofs.spelled.first_word.Goals as goal

pub returns-then-size-text : goal.returns-then-size-text
returns-then-size-text c =
    let front : c.args.text.now ≡ before_first is_space c.args.text.now = grind (arith, common_steps) in
    let behind : [] ≡ after_first is_space c.args.text.now = grind (arith, common_steps) in
    takes_part is_space c.args.text.now c.args.text.now [] front behind

pub returns : goal.returns
returns c =
    let size = c.word_size-size.result in
    let front : take size c.args.text.now ≡ before_first is_space c.args.text.now = grind (arith, common_steps) in
    let behind : take (length c.args.text.now - (size + 1)) (drop (size + 1) c.args.text.now) ≡ after_first is_space c.args.text.now = grind (arith, common_steps) in
    takes_part is_space c.args.text.now _ _ front behind
