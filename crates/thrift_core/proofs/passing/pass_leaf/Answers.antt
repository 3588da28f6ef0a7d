use Rattle.std.proofs.Common.{[]}
use Rattle.thrift_core.specs.Parts.{truth, byte, short, int, long, eight}
use Rattle.thrift_core.specs.Walks.{in_value, nothing_more}
use Rattle.thrift_core.specs.declared.type_code.TypeCode.TheVariants as kinds
use Rattle.thrift_core.proofs.WalkSteps.{first_refused, part_read, value_first}
use Rattle.thrift_core.proofs.passing.pass_leaf.Goals as goal

pub returns-in_err-truth-in-Truth-clause-passed : goal.returns-in_err-truth-in-Truth-clause-passed
returns-in_err-truth-in-Truth-clause-passed g c = λ left.
    first_refused g.P.Parts.spells g.P.Parts.reads (in_value left c.args.kind c.args.held) c.args.c.now.rest c.truth.new.c.rest (truth c.args.held) nothing_more c.in_err-truth-in-Truth.field-0.0 c.from_residual.result
    (value_first left c.args.kind kinds.Truth c.args.held c.in-Truth.is) c.in_err-truth-in-Truth.ensures.exact c.from_residual.ensures.1

pub returns-in_ok-truth-in-Truth-clause-passed : goal.returns-in_ok-truth-in-Truth-clause-passed
returns-in_ok-truth-in-Truth-clause-passed g c = λ left.
    part_read g.P.Parts.spells g.P.Parts.reads g.met.P.Parts.reads_exactly.found (in_value left c.args.kind c.args.held) [] c.args.c.now.rest c.truth.new.c.rest (truth c.args.held) nothing_more c.in_ok-truth-in-Truth.field-0
    (value_first left c.args.kind kinds.Truth c.args.held c.in-Truth.is) c.in_ok-truth-in-Truth.ensures.exact

pub returns-in_err-byte-in-I8-clause-passed : goal.returns-in_err-byte-in-I8-clause-passed
returns-in_err-byte-in-I8-clause-passed g c = λ left.
    first_refused g.P.Parts.spells g.P.Parts.reads (in_value left c.args.kind c.args.held) c.args.c.now.rest c.byte.new.c.rest byte nothing_more c.in_err-byte-in-I8.field-0.0 c.from_residual-in_err-byte-in-I8.result
    (value_first left c.args.kind kinds.I8 c.args.held c.in-I8.is) c.in_err-byte-in-I8.ensures.exact c.from_residual-in_err-byte-in-I8.ensures.1

pub returns-in_ok-byte-in-I8-clause-passed : goal.returns-in_ok-byte-in-I8-clause-passed
returns-in_ok-byte-in-I8-clause-passed g c = λ left.
    part_read g.P.Parts.spells g.P.Parts.reads g.met.P.Parts.reads_exactly.found (in_value left c.args.kind c.args.held) [] c.args.c.now.rest c.byte.new.c.rest byte nothing_more c.in_ok-byte-in-I8.field-0
    (value_first left c.args.kind kinds.I8 c.args.held c.in-I8.is) c.in_ok-byte-in-I8.ensures.exact

pub returns-in_err-short-in-I16-clause-passed : goal.returns-in_err-short-in-I16-clause-passed
returns-in_err-short-in-I16-clause-passed g c = λ left.
    first_refused g.P.Parts.spells g.P.Parts.reads (in_value left c.args.kind c.args.held) c.args.c.now.rest c.short.new.c.rest short nothing_more c.in_err-short-in-I16.field-0.0 c.from_residual-in_err-short-in-I16.result
    (value_first left c.args.kind kinds.I16 c.args.held c.in-I16.is) c.in_err-short-in-I16.ensures.exact c.from_residual-in_err-short-in-I16.ensures.1

pub returns-in_ok-short-in-I16-clause-passed : goal.returns-in_ok-short-in-I16-clause-passed
returns-in_ok-short-in-I16-clause-passed g c = λ left.
    part_read g.P.Parts.spells g.P.Parts.reads g.met.P.Parts.reads_exactly.found (in_value left c.args.kind c.args.held) [] c.args.c.now.rest c.short.new.c.rest short nothing_more c.in_ok-short-in-I16.field-0
    (value_first left c.args.kind kinds.I16 c.args.held c.in-I16.is) c.in_ok-short-in-I16.ensures.exact

pub returns-in_err-int-in-I32-clause-passed : goal.returns-in_err-int-in-I32-clause-passed
returns-in_err-int-in-I32-clause-passed g c = λ left.
    first_refused g.P.Parts.spells g.P.Parts.reads (in_value left c.args.kind c.args.held) c.args.c.now.rest c.int.new.c.rest int nothing_more c.in_err-int-in-I32.field-0.0 c.from_residual-in_err-int-in-I32.result
    (value_first left c.args.kind kinds.I32 c.args.held c.in-I32.is) c.in_err-int-in-I32.ensures.exact c.from_residual-in_err-int-in-I32.ensures.1

pub returns-in_ok-int-in-I32-clause-passed : goal.returns-in_ok-int-in-I32-clause-passed
returns-in_ok-int-in-I32-clause-passed g c = λ left.
    part_read g.P.Parts.spells g.P.Parts.reads g.met.P.Parts.reads_exactly.found (in_value left c.args.kind c.args.held) [] c.args.c.now.rest c.int.new.c.rest int nothing_more c.in_ok-int-in-I32.field-0
    (value_first left c.args.kind kinds.I32 c.args.held c.in-I32.is) c.in_ok-int-in-I32.ensures.exact

pub returns-in_err-long-in-I64-clause-passed : goal.returns-in_err-long-in-I64-clause-passed
returns-in_err-long-in-I64-clause-passed g c = λ left.
    first_refused g.P.Parts.spells g.P.Parts.reads (in_value left c.args.kind c.args.held) c.args.c.now.rest c.long.new.c.rest long nothing_more c.in_err-long-in-I64.field-0.0 c.from_residual-in_err-long-in-I64.result
    (value_first left c.args.kind kinds.I64 c.args.held c.in-I64.is) c.in_err-long-in-I64.ensures.exact c.from_residual-in_err-long-in-I64.ensures.1

pub returns-in_ok-long-in-I64-clause-passed : goal.returns-in_ok-long-in-I64-clause-passed
returns-in_ok-long-in-I64-clause-passed g c = λ left.
    part_read g.P.Parts.spells g.P.Parts.reads g.met.P.Parts.reads_exactly.found (in_value left c.args.kind c.args.held) [] c.args.c.now.rest c.long.new.c.rest long nothing_more c.in_ok-long-in-I64.field-0
    (value_first left c.args.kind kinds.I64 c.args.held c.in-I64.is) c.in_ok-long-in-I64.ensures.exact

pub returns-in_err-eight-in-Eight-clause-passed : goal.returns-in_err-eight-in-Eight-clause-passed
returns-in_err-eight-in-Eight-clause-passed g c = λ left.
    first_refused g.P.Parts.spells g.P.Parts.reads (in_value left c.args.kind c.args.held) c.args.c.now.rest c.eight.new.c.rest eight nothing_more c.in_err-eight-in-Eight.field-0.0 c.from_residual-in_err-eight-in-Eight.result
    (value_first left c.args.kind kinds.Eight c.args.held c.in-Eight.is) c.in_err-eight-in-Eight.ensures.exact c.from_residual-in_err-eight-in-Eight.ensures.1

pub returns-in_ok-eight-in-Eight-clause-passed : goal.returns-in_ok-eight-in-Eight-clause-passed
returns-in_ok-eight-in-Eight-clause-passed g c = λ left.
    part_read g.P.Parts.spells g.P.Parts.reads g.met.P.Parts.reads_exactly.found (in_value left c.args.kind c.args.held) [] c.args.c.now.rest c.eight.new.c.rest eight nothing_more c.in_ok-eight-in-Eight.field-0
    (value_first left c.args.kind kinds.Eight c.args.held c.in-Eight.is) c.in_ok-eight-in-Eight.ensures.exact
