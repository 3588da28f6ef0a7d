use Rattle.std.proofs.Common.{◌≡◌, ◌∷◌, [], ◌∙◌, ℕ, List, take, sym, ap, true, false, rules}
use Rattle.std.specs.List.{filter_map}
use Rattle.std.specs.Option.{option_copied, option_to_list}
use Rattle.std.specs.Str.{bytes_eq}
use Rattle.row_tables.specs.Rows.{key_of, text_under}
use Rattle.row_tables.proofs.RowLemmas.{passes, finds}
use Rattle.row_tables.proofs.row.Row.text_if_any.Goals as goal

pub loop-field-preserved-then-ne : goal.loop-field-preserved-then-ne
loop-field-preserved-then-ne c =
    let other : bytes_eq (key_of c.field-item.result) c.args.key.now ≡ false = search rules in
    passes c.args.key.now c.args.self.now.fields.items c.loop-field.field-index c.field-item.result _ (search rules) (search rules) other c.loop-field.invariant

pub loop-field-preserved : goal.loop-field-preserved
loop-field-preserved c =
    let same : bytes_eq (key_of c.field-item.result) c.args.key.now ≡ true = search rules in
    let nothing : option_to_list (option_copied c.loop-field.found) ≡ [] = search rules in
    let before : filter_map (text_under c.args.key.now) (take c.loop-field.field-index c.args.self.now.fields.items) ≡ [] = c.loop-field.invariant ∙ nothing in
    finds c.args.key.now c.args.self.now.fields.items c.loop-field.field-index c.field-item.result (search rules) (search rules) same before
    ∙ ap (λ (t : List ℕ). t ∷ []) (sym c.as_str.ensures.value)
