use Rattle.std.proofs.Common.{rules, ◌≡◌, ◌∙◌, Ok, Err, to_z, of_z}
use Rattle.std.specs.Int.{w64}
use Rattle.std.proofs.lemmas.Int.{to_z-of_z}
use Rattle.span_io.specs.Zigzag.{unzigzag}
use Rattle.span_io.proofs.ZigzagFacts.{ReadingZigzag, reading_zigzag, given_number, given_lack}
use Rattle.span_io.proofs.cursor.Cursor.zigzag.Goals as goal
use Rattle.span_io.proofs.cursor.Cursor.zigzag.Goals.{In-Err, After-unzigzag}

in_ok : (c : After-unzigzag) → ReadingZigzag (Ok (to_z w64 (of_z w64 c.unzigzag.result))) c.args.self.now.rest c.varint.new.self.rest
in_ok c =
    let same : to_z w64 (of_z w64 c.unzigzag.result) ≡ unzigzag c.in-Ok.number = to_z-of_z w64 c.unzigzag.result (record { sfits = search rules }) ∙ c.unzigzag.ensures in
    reading_zigzag _ _ _ (rw same (given_number c.in-Ok.number _ _ c.in-Ok.ensures.exact))

pub returns-in-Ok-clause-found : goal.returns-in-Ok-clause-found
returns-in-Ok-clause-found c = (in_ok c).found

pub returns-in-Ok-clause-only : goal.returns-in-Ok-clause-only
returns-in-Ok-clause-only c = (in_ok c).only

pub returns-in-Ok-clause-exact : goal.returns-in-Ok-clause-exact
returns-in-Ok-clause-exact c =
    let same : to_z w64 (of_z w64 c.unzigzag.result) ≡ unzigzag c.in-Ok.number = to_z-of_z w64 c.unzigzag.result (record { sfits = search rules }) ∙ c.unzigzag.ensures in
    rw same (given_number c.in-Ok.number _ _ c.in-Ok.ensures.exact)

pub returns-in-Err-clause-only : goal.returns-in-Err-clause-only
returns-in-Err-clause-only c = (reading_zigzag (Err c.in-Err.lack) c.args.self.now.rest c.varint.new.self.rest (given_lack _ _ c.in-Err.ensures.exact)).only

pub returns-in-Err-clause-exact : goal.returns-in-Err-clause-exact
returns-in-Err-clause-exact c = given_lack _ _ c.in-Err.ensures.exact
