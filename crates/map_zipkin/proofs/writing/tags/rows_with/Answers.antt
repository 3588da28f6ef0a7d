use Rattle.std.proofs.Common.{◌≡◌, ◌++◌, ap, sym, ◌∙◌}
use Rattle.trace_model.specs.Attributes.{attrs}
use Rattle.span_tags.proofs.AttributeLaws.{attrs_itself}
use Rattle.map_zipkin.proofs.writing.tags.rows_with.Goals as goal

pub returns : goal.returns
returns c =
    let shared = c.args.shared.now in
    let copied : c.add_copies.new.pairs.items ≡ shared = c.in_ok-add_copies.ensures ∙ ap (λ l. l ++ shared) c.in_ok-rows.ensures.items in
    c.in_ok-put_rows.ensures shared (copied ∙ sym (attrs_itself shared c.requires)) ∙ ap (λ l. attrs (l ++ shared)) c.into_vec.ensures.items
