use Rattle.std.proofs.Common.{◌≡◌, ◌+◌, ◌≤◌, ◌++◌, ◌∷◌, ◌∙◌, [], length, take, ap, sym, subst, arith}
use Rattle.std.proofs.lemmas.List.{length-append, length-take}
use Rattle.thrift_core.specs.private.StackWalks.{open_of, HaltsThere}
use Rattle.thrift_core.specs.Walks.{outer_struct, Passes}
use Rattle.thrift_core.proofs.Resuming.{joined_passes, joined_over, resumed_joined, enough_taken, on_ok}
use Rattle.thrift_core.proofs.StackSteps.{halts_on}
use Rattle.thrift_core.proofs.position.join.Goals as goal

pub returns-in-Ok : goal.returns-in-Ok
returns-in-Ok g c = λ bytes whole few h.
    let piece = c.args.piece.now in
    let taken = c.min-taken.result in
    let at = c.args.at.now in
    let all = c.try_extend_from_slice-joined.new.self.items in
    let carry : c.replace-joined.result.items ≡ at.carry.items = ap (λ v. v.items) c.replace-joined.ensures.value in
    let fits : length c.replace-joined.result.items + length (take taken piece) ≤ 20 = omega (arith, c.remaining_capacity.ensures, c.min-taken.ensures, length-take taken piece) in
    let joined : all ≡ at.carry.items ++ take taken piece =
    on_ok c.try_extend_from_slice-joined.result (c.try_extend_from_slice-joined.ensures.variant.1 fits) c.try_extend_from_slice-joined.ensures.ok ∙ ap (λ l. l ++ take taken piece) carry in
    let front : Passes g.P.Parts.spells (outer_struct ∷ []) (bytes ++ take taken piece) (open_of at.stack) all = joined_passes g.P.Parts.spells g.P.Parts.reads bytes piece at.carry.items all taken at.stack joined h in
    let rest_is : c.new-c.result.rest ≡ all = ap (λ w. w.rest) c.new-c.ensures ∙ c.as_slice.ensures.value in
    joined_over g.P.Parts.spells g.P.Parts.reads bytes piece all c.walk.new.c.rest taken c.len-carried.result c.place.result c.saturating_sub.result at at
    (omega (arith, c.min-taken.ensures))
    (omega (arith, c.len-carried.ensures.value, ap length carry, ap length joined, length-append at.carry.items (take taken piece), length-take taken piece, c.min-taken.ensures))
    (omega (arith, c.place.ensures, c.in-Ok.ensures.place, ap (λ w. w.place) c.new-c.ensures, ap length rest_is))
    c.saturating_sub.ensures front (subst (λ l. Passes g.P.Parts.spells (open_of at.stack) l [] c.walk.new.c.rest) rest_is c.in-Ok.ensures.walked)

pub returns-in-Err : goal.returns-in-Err
returns-in-Err g c = λ bytes whole few h.
    let piece = c.args.piece.now in
    let taken = c.min-taken.result in
    let at = c.args.at.now in
    let all = c.try_extend_from_slice-joined.new.self.items in
    let carry : c.replace-joined.result.items ≡ at.carry.items = ap (λ v. v.items) c.replace-joined.ensures.value in
    let fits : length c.replace-joined.result.items + length (take taken piece) ≤ 20 = omega (arith, c.remaining_capacity.ensures, c.min-taken.ensures, length-take taken piece) in
    let joined : all ≡ at.carry.items ++ take taken piece =
    on_ok c.try_extend_from_slice-joined.result (c.try_extend_from_slice-joined.ensures.variant.1 fits) c.try_extend_from_slice-joined.ensures.ok ∙ ap (λ l. l ++ take taken piece) carry in
    let front : Passes g.P.Parts.spells (outer_struct ∷ []) (bytes ++ take taken piece) (open_of at.stack) all = joined_passes g.P.Parts.spells g.P.Parts.reads bytes piece at.carry.items all taken at.stack joined h in
    let rest_is : c.new-c.result.rest ≡ all = ap (λ w. w.rest) c.new-c.ensures ∙ c.as_slice.ensures.value in
    resumed_joined g.P.Parts.spells g.P.Parts.reads (bytes ++ piece) (length piece) c.behind_joined.result c.behind_joined.new.at
    (c.behind_joined.ensures bytes (ap (λ v. v.items) c.replace-joined.ensures.after ∙ c.new.ensures, whole)
    (enough_taken c.remaining_capacity.result (length c.replace-joined.result.items) taken piece c.remaining_capacity.ensures (omega (arith, few, ap length carry)) c.min-taken.ensures)
    (subst (λ l. HaltsThere g.P.Parts.spells g.P.Parts.reads (outer_struct ∷ []) (bytes ++ take taken piece) c.in-Err.halted c.walk.new.stack l) (sym c.rest.ensures)
    (halts_on g.P.Parts.spells g.P.Parts.reads (outer_struct ∷ []) (bytes ++ take taken piece) all c.walk.new.c.rest at.stack c.walk.new.stack c.in-Err.halted front
    (subst (λ l. HaltsThere g.P.Parts.spells g.P.Parts.reads (open_of at.stack) l c.in-Err.halted c.walk.new.stack c.walk.new.c.rest) rest_is c.in-Err.ensures.walked))))
