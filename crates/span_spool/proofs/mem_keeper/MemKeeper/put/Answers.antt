use Rattle.std.proofs.Common.{◌≡◌, ◌≢◌, ◌++◌, ◌∷◌, [], length, refl, arith}
use Rattle.span_spool.proofs.SpoolLemmas.{grown_rows}
use Rattle.span_spool.specs.Spools.{last_number}
use Rattle.span_spool.specs.declared.kept.Kept.{Kept}
use Rattle.span_spool.proofs.mem_keeper.MemKeeper.put.Goals as goal

pub invariant_of-self : goal.invariant_of-self
invariant_of-self c =
    let rows = c.self.inside.rows in
    let row : Kept = record { number = c.self.inside.next; form = c.args.form; body = c.in-Ok.body } in
    let pushed : c.push.new.self ≡ rows ++ row ∷ [] = c.in-Ok-push.ensures.ok in
    let some : length rows ≢ c.self.inside.room = omega (arith, c.len.ensures, c.if-len-self.false) in
    let more : c.self.inside.next ≢ last_number = omega (arith, c.if-self-eq-LAST_NUMBER.false) in
    rw pushed (grown_rows rows row c.self.inside.room c.self.inside.next c.self.inside.faults c.self.invariant.0 some more refl, c.self.invariant.1)

pub returns-in-Ok-push-clause-sound : goal.returns-in-Ok-push-clause-sound
returns-in-Ok-push-clause-sound c =
    let rows = c.self.inside.rows in
    let row : Kept = record { number = c.self.inside.next; form = c.args.form; body = c.in-Ok.body } in
    let pushed : c.push.new.self ≡ rows ++ row ∷ [] = c.in-Ok-push.ensures.ok in
    let some : length rows ≢ c.self.inside.room = omega (arith, c.len.ensures, c.if-len-self.false) in
    let more : c.self.inside.next ≢ last_number = omega (arith, c.if-self-eq-LAST_NUMBER.false) in
    rw pushed (grown_rows rows row c.self.inside.room c.self.inside.next c.self.inside.faults c.self.invariant.0 some more refl)
