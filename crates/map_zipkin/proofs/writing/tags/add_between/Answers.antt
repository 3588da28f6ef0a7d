use Rattle.std.proofs.Common.{◌≡◌, ◌∷◌, ◌++◌, [], true, ap, map, sym, subst, ◌∙◌}
use Rattle.trace_model.specs.Attributes.{Rise, attrs, keys}
use Rattle.trace_model.specs.EventTexts.{holds_double}
use Rattle.map_zipkin.specs.Writing.{is_told, told_pairs, zipkin_tag_of}
use Rattle.map_zipkin.specs.private.WritingSoFar.{rows_above, rows_below}
use Rattle.map_zipkin.proofs.MergedRows.{added_between, rise_above}
use Rattle.map_zipkin.proofs.PlainTags.{plain_above, plain_below}
use Rattle.map_zipkin.proofs.writing.tags.add_between.Goals as goal

pub add_tags-requires : goal.add_tags-requires
add_tags-requires c =
    let below : c.around.result.0.now ≡ rows_below c.args.pair.0 c.args.rows.now = c.around.ensures.below ∙ ap (λ k. rows_below k c.args.rows.now) c.as_str-2.ensures.value in
    ap holds_double below ∙ plain_below c.args.pair.0 c.args.rows.now c.requires.rows

pub returns : goal.returns
returns c =
    let pair = c.args.pair in
    let rows = c.args.rows.now in
    let below : c.around.result.0.now ≡ rows_below pair.0 rows = c.around.ensures.below ∙ ap (λ k. rows_below k rows) c.as_str-2.ensures.value in
    let above : c.around.result.1.now ≡ rows_above pair.0 rows = c.around.ensures.above ∙ ap (λ k. rows_above k rows) c.as_str-2.ensures.value in
    let told : is_told pair.0 ≡ true = sym (ap is_told c.as_str.ensures.value) ∙ sym c.is_told.ensures ∙ c.if-not-is_told.false in
    let pushed : c.push-2.new.self ≡ c.add_tags.new.tags ++ zipkin_tag_of pair ∷ [] =
    c.in_ok-push.ensures.ok ∙ ap (λ t. c.add_tags.new.tags ++ (pair.0, t) ∷ []) c.in_ok-text_of.ensures in record {
      added = λ more up_rows up.
          ap (λ l. c.push-2.new.self ++ map zipkin_tag_of (attrs (l ++ told_pairs more))) above
          ∙ added_between c.args.tags.now c.add_tags.new.tags c.push-2.new.self rows more pair told
          (c.in_ok-add_tags.ensures ∙ ap (λ l. c.args.tags.now ++ map zipkin_tag_of l) below) pushed up_rows up;
      rising = λ up_rows. subst (λ l. Rise (keys l)) (sym above) (rise_above pair.0 rows up_rows);
      plain = ap holds_double above ∙ plain_above pair.0 rows c.requires.rows;
    }
