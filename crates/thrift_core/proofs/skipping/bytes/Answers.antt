use Rattle.std.proofs.Common.{◌≡◌, ◌-◌, ◌<◌, None, [], ◌∷◌, length, Ok, Err, refl, ap, sym, ◌∙◌, subst, arith}
use Rattle.std.proofs.lemmas.List.{length-drop}
use Rattle.std.proofs.lemmas.Result.{err_from_is_err_and}
use Rattle.span_io.specs.declared.cause.Cause.TheVariants as causes
use Rattle.thrift_core.specs.declared.passing.Halted.TheVariants as halts
use Rattle.thrift_core.specs.declared.type_code.TypeCode.TheVariants as kinds
use Rattle.thrift_core.specs.Parts.{size}
use Rattle.thrift_core.specs.Walks.{in_value, opened_by_size, RefusedFrom}
use Rattle.thrift_core.specs.Values.{values, AnswersRefusals}
use Rattle.thrift_core.proofs.Determined.{no_turns}
use Rattle.thrift_core.proofs.Stopping.{value_sound}
use Rattle.thrift_core.proofs.WalkSteps.{part_read, part_shortens, bytes_passed}
use Rattle.thrift_core.proofs.Answering.{passed_answers, halted_answers, one_binary, enough_bytes, no_binary}
use Rattle.thrift_core.proofs.skipping.bytes.Goals as goal

pub returns-in_err-size-clause-only : goal.returns-in_err-size-clause-only
returns-in_err-size-clause-only g c = λ held rest begins.
    let read : g.P.Parts.reads size c.args.c.now.rest ≡ Err c.in_err-size.field-0.0 = subst (λ w. g.P.Parts.reads size w.rest ≡ Err c.in_err-size.field-0.0) c.again-at.ensures c.in_err-size.ensures.exact in
    absurd (no_binary g.P.Parts.spells g.P.Parts.reads g.P.Parts.then_varint g.P.Parts.refuses g.met.P.Parts.reads_exactly c.in_err-size.field-0.0 held c.args.c.now.rest rest read begins)

pub returns-in_err-size-clause-refused : goal.returns-in_err-size-clause-refused
returns-in_err-size-clause-refused g c =
    let read : g.P.Parts.reads size c.args.c.now.rest ≡ Err c.in_err-size.field-0.0 = subst (λ w. g.P.Parts.reads size w.rest ≡ Err c.in_err-size.field-0.0) c.again-at.ensures c.in_err-size.ensures.exact in
    let p = err_from_is_err_and c.from_residual.result c.from_residual.ensures.1 in
    let cause = c.in_err-size.field-0.0 in
    subst (λ r. AnswersRefusals (values g.P.Parts.spells g.P.Parts.then_varint 0 kinds.Binary None) (RefusedFrom g.P.Parts.spells g.P.Parts.refuses (in_value 0 kinds.Binary None)) r c.args.c.now.rest) (sym (p.1 ∙ ap (λ e. Err e) p.2))
    (halted_answers g.P.Parts.spells g.P.Parts.reads g.P.Parts.then_varint g.P.Parts.refuses g.met.P.Parts.reads_exactly g.met.P.Parts.part_laws (in_value 0 kinds.Binary None) (value_sound 0 kinds.Binary None) (halts.For cause) cause c.args.c.now.rest
    (record { top = in_value 0 kinds.Binary None; below = []; rest = c.args.c.now.rest; passes = no_turns g.P.Parts.spells (in_value 0 kinds.Binary None ∷ []) c.args.c.now.rest; stops = read }) refl)

pub returns-in-Ok-clause-only : goal.returns-in-Ok-clause-only
returns-in-Ok-clause-only g c = λ held rest begins.
    let read : g.P.Parts.reads size c.args.c.now.rest ≡ Ok (c.in_ok-size.size, c.length.new.c.rest) =
    subst (λ w. g.P.Parts.reads size w.rest ≡ Ok (c.in_ok-size.size, c.length.new.c.rest)) c.again-at.ensures c.in_ok-size.ensures.exact in
    let one = one_binary g.P.Parts.spells g.P.Parts.reads g.P.Parts.then_varint g.P.Parts.refuses g.met.P.Parts.reads_exactly c.in_ok-size.size held c.args.c.now.rest c.length.new.c.rest rest read begins in
    (c.in-Ok.ensures.value ∙ one.0, ap (λ w. w.rest) c.in-Ok.ensures.ok ∙ one.1)

pub returns-in-Ok-clause-refused : goal.returns-in-Ok-clause-refused
returns-in-Ok-clause-refused g c =
    let read : g.P.Parts.reads size c.args.c.now.rest ≡ Ok (c.in_ok-size.size, c.length.new.c.rest) =
    subst (λ w. g.P.Parts.reads size w.rest ≡ Ok (c.in_ok-size.size, c.length.new.c.rest)) c.again-at.ensures c.in_ok-size.ensures.exact in
    passed_answers g.P.Parts.spells g.P.Parts.reads g.P.Parts.then_varint g.P.Parts.refuses g.met.P.Parts.reads_exactly g.met.P.Parts.part_laws (in_value 0 kinds.Binary None) (value_sound 0 kinds.Binary None) c.in-Ok.held c.args.c.now.rest c.take.new.self.rest
    (bytes_passed g.P.Parts.spells (in_value 0 kinds.Binary None) c.args.c.now.rest c.length.new.c.rest c.take.new.self.rest c.in_ok-size.size
    (part_read g.P.Parts.spells g.P.Parts.reads g.met.P.Parts.reads_exactly.found (in_value 0 kinds.Binary None) [] c.args.c.now.rest c.length.new.c.rest size opened_by_size c.in_ok-size.size refl read)
    (λ few. (let e = c.in-Ok.ensures.short.1 few in cc)) (ap (λ w. w.rest) c.in-Ok.ensures.ok))

pub returns-in-Err-clause-only : goal.returns-in-Err-clause-only
returns-in-Err-clause-only g c = λ held rest begins.
    let read : g.P.Parts.reads size c.args.c.now.rest ≡ Ok (c.in_ok-size.size, c.length.new.c.rest) =
    subst (λ w. g.P.Parts.reads size w.rest ≡ Ok (c.in_ok-size.size, c.length.new.c.rest)) c.again-at.ensures c.in_ok-size.ensures.exact in
    absurd (enough_bytes g.P.Parts.spells g.P.Parts.reads g.P.Parts.then_varint g.P.Parts.refuses g.met.P.Parts.reads_exactly c.in_ok-size.size held c.args.c.now.rest c.length.new.c.rest rest read begins (c.in-Err.ensures.short.0 refl))

pub returns-in-Err-clause-refused : goal.returns-in-Err-clause-refused
returns-in-Err-clause-refused g c =
    let read : g.P.Parts.reads size c.args.c.now.rest ≡ Ok (c.in_ok-size.size, c.length.new.c.rest) =
    subst (λ w. g.P.Parts.reads size w.rest ≡ Ok (c.in_ok-size.size, c.length.new.c.rest)) c.again-at.ensures c.in_ok-size.ensures.exact in
    let few : length c.length.new.c.rest < c.in_ok-size.size = c.in-Err.ensures.short.0 refl in
    halted_answers g.P.Parts.spells g.P.Parts.reads g.P.Parts.then_varint g.P.Parts.refuses g.met.P.Parts.reads_exactly g.met.P.Parts.part_laws (in_value 0 kinds.Binary None) (value_sound 0 kinds.Binary None) (halts.Lacking (c.in_ok-size.size - length c.length.new.c.rest)) causes.Truncated c.args.c.now.rest
    (record {
      held = c.in_ok-size.size;
      below = [];
      rest = c.length.new.c.rest;
      passes = part_read g.P.Parts.spells g.P.Parts.reads g.met.P.Parts.reads_exactly.found (in_value 0 kinds.Binary None) [] c.args.c.now.rest c.length.new.c.rest size opened_by_size c.in_ok-size.size refl read;
      missing = omega (arith, few);
      some = omega (arith, few);
    })
    refl

pub returns-in-Ok-clause-nearer : goal.returns-in-Ok-clause-nearer
returns-in-Ok-clause-nearer g c =
    let read : length c.length.new.c.rest < length c.again-at.result.rest = part_shortens g.P.Parts.spells g.P.Parts.reads g.met.P.Parts.reads_exactly.found size c.in_ok-size.size c.again-at.result.rest c.length.new.c.rest
    (λ text h. g.met.P.Parts.part_laws.some size c.in_ok-size.size text tt h) c.in_ok-size.ensures.exact in
    omega (arith, read, ap (λ w. length w.rest) c.again-at.ensures, ap (λ w. length w.rest) c.in-Ok.ensures.ok, length-drop c.in_ok-size.size c.length.new.c.rest)
