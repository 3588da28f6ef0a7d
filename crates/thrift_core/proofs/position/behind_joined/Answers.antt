use Rattle.std.proofs.Common.{◌+◌, ◌-◌, ◌++◌, ◌∷◌, [], length, take, drop, Ok, Err, refl, subst, arith}
use Rattle.std.proofs.lemmas.List.{length-take, length-drop}
use Rattle.thrift_core.specs.declared.passing.Halted.TheVariants as halts
use Rattle.thrift_core.specs.declared.position.Position.{Position}
use Rattle.thrift_core.specs.private.Halting.{Resumed}
use Rattle.thrift_core.specs.private.StackWalks.{HaltsThere}
use Rattle.thrift_core.specs.Walks.{outer_struct}
use Rattle.thrift_core.proofs.Resuming.{rest_part, lacking_place, counted_on, of_cut, other_halts}
use Rattle.thrift_core.proofs.position.behind_joined.Goals as goal

pub returns-in-Ok : goal.returns-in-Ok
returns-in-Ok g c = λ bytes at enough h.
    let piece = c.args.piece.now in
    let taken = c.args.taken in
    let many = c.in-Lacking.many in
    let lacks : HaltsThere g.P.Parts.spells g.P.Parts.reads (outer_struct ∷ []) (bytes ++ take taken piece) (halts.Lacking many) c.args.at.now.stack c.args.rest.now =
    subst (λ x. HaltsThere g.P.Parts.spells g.P.Parts.reads (outer_struct ∷ []) (bytes ++ take taken piece) x c.args.at.now.stack c.args.rest.now) c.in-Lacking.is h in
    let now : Position = record { stack = c.args.at.now.stack; carry = c.args.at.now.carry; missing = many } in
    let ends : Resumed g.P.Parts.spells g.P.Parts.reads ((bytes ++ take taken piece) ++ take (length piece - taken) (drop taken piece)) (length (take (length piece - taken) (drop taken piece))) (Ok c.in-Ok.ends) c.skip.new.at =
    c.in-Ok.ensures.resumed (bytes ++ take taken piece) at.0 (lacking_place g.P.Parts.spells g.P.Parts.reads bytes piece taken many now at.0 refl lacks) in
    of_cut g.P.Parts.spells g.P.Parts.reads bytes piece taken (length piece) (Ok (taken + c.in-Ok.ends)) c.skip.new.at
    (subst (λ l. Resumed g.P.Parts.spells g.P.Parts.reads ((bytes ++ take taken piece) ++ l) (length piece) (Ok (taken + c.in-Ok.ends)) c.skip.new.at) (rest_part taken piece)
    (counted_on g.P.Parts.spells g.P.Parts.reads taken (length piece) ((bytes ++ take taken piece) ++ take (length piece - taken) (drop taken piece)) (take (length piece - taken) (drop taken piece)) c.in-Ok.ends c.skip.new.at
    (omega (arith, length-take (length piece - taken) (drop taken piece), length-drop taken piece, c.requires.taken)) ends))

pub returns-in-Err : goal.returns-in-Err
returns-in-Err g c = λ bytes at enough h.
    let piece = c.args.piece.now in
    let taken = c.args.taken in
    let many = c.in-Lacking.many in
    let lacks : HaltsThere g.P.Parts.spells g.P.Parts.reads (outer_struct ∷ []) (bytes ++ take taken piece) (halts.Lacking many) c.args.at.now.stack c.args.rest.now =
    subst (λ x. HaltsThere g.P.Parts.spells g.P.Parts.reads (outer_struct ∷ []) (bytes ++ take taken piece) x c.args.at.now.stack c.args.rest.now) c.in-Lacking.is h in
    let now : Position = record { stack = c.args.at.now.stack; carry = c.args.at.now.carry; missing = many } in
    of_cut g.P.Parts.spells g.P.Parts.reads bytes piece taken (length piece) (Err c.in-Err.halted) c.skip.new.at
    (subst (λ l. Resumed g.P.Parts.spells g.P.Parts.reads ((bytes ++ take taken piece) ++ l) (length piece) (Err c.in-Err.halted) c.skip.new.at) (rest_part taken piece)
    (c.in-Err.ensures.resumed (bytes ++ take taken piece) at.0 (lacking_place g.P.Parts.spells g.P.Parts.reads bytes piece taken many now at.0 refl lacks)))

pub returns-in-Truncated : goal.returns-in-Truncated
returns-in-Truncated g c = λ bytes at enough h.
    let part : HaltsThere g.P.Parts.spells g.P.Parts.reads (outer_struct ∷ []) (bytes ++ take c.args.taken c.args.piece.now) (halts.For c.in-For.cause) c.args.at.now.stack c.args.rest.now =
    subst (λ x. HaltsThere g.P.Parts.spells g.P.Parts.reads (outer_struct ∷ []) (bytes ++ take c.args.taken c.args.piece.now) x c.args.at.now.stack c.args.rest.now) c.in-For.is h in
    c.unfinished.ensures bytes at enough
    (subst (λ x. HaltsThere g.P.Parts.spells g.P.Parts.reads (outer_struct ∷ []) (bytes ++ take c.args.taken c.args.piece.now) (halts.For x) c.args.at.now.stack c.args.rest.now) c.in-Truncated.is part)

pub returns-in_default : goal.returns-in_default
returns-in_default g c = λ bytes at enough h.
    other_halts g.P.Parts.spells g.P.Parts.reads g.P.Parts.then_varint g.P.Parts.refuses g.met.P.Parts.reads_exactly bytes c.args.piece.now c.args.rest.now c.args.taken c.in-For.cause c.args.at.now c.in_default.not-Truncated
    (subst (λ x. HaltsThere g.P.Parts.spells g.P.Parts.reads (outer_struct ∷ []) (bytes ++ take c.args.taken c.args.piece.now) x c.args.at.now.stack c.args.rest.now) c.in-For.is h)
