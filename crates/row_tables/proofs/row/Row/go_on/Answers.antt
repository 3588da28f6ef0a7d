use Rattle.std.proofs.Common.{◌≡◌, ◌∷◌, [], ◌++◌, refl, rules}
use Rattle.row_tables.specs.declared.row.Field.{Field}
use Rattle.row_tables.proofs.RowLemmas.{goes_on}
use Rattle.row_tables.proofs.row.Row.go_on.Goals as goal

pub returns-clause-pairs : goal.returns-clause-pairs
returns-clause-pairs c =
    let grown : Field = record { key = c.in-Some.field.key; text = c.push_str.new.self } in
    let was : c.args.self.now.fields.items ≡ c.pop.new.self.items ++ (c.in-Some.field ∷ []) = search rules in
    let is : c.push.new.self.items ≡ c.pop.new.self.items ++ (grown ∷ []) = search rules in
    goes_on c.args.self.now.fields.items c.pop.new.self.items c.push.new.self.items c.in-Some.field grown c.args.more.now was is refl (search rules)
