use Rattle.std.proofs.Common.{◌≡◌, ◌++◌, [], map, ap, sym, subst, ◌∙◌}
use Rattle.std.proofs.lemmas.Result.{IfOk-weaker}
use Rattle.trace_model.specs.Attributes.{Rise, attrs, keys}
use Rattle.span_tags.specs.Escapes.{escaped}
use Rattle.span_tags.proofs.AttributeLaws.{attrs_rise}
use Rattle.span_tags.proofs.EscapeLaws.{escaped_rise}
use Rattle.span_tags.proofs.Moved.{none_left}
use Rattle.map_zipkin.specs.Keys.{is_zipkin_reserved}
use Rattle.map_zipkin.specs.Writing.{told_pairs, escaped_pairs, zipkin_tag_of}
use Rattle.map_zipkin.specs.private.WritingSoFar.{tags_by}
use Rattle.map_zipkin.proofs.MergedRows.{told_in_order, joined_before}
use Rattle.map_zipkin.proofs.PlainTags.{escaped_plain, rows_plain}
use Rattle.map_zipkin.proofs.writing.tags.tags_of.Goals as goal

pub merged-requires-clause-in_order : goal.merged-requires-clause-in_order
merged-requires-clause-in_order c = subst (λ l. Rise (keys l)) (sym c.in_ok-written.ensures.value) (escaped_rise is_zipkin_reserved c.in_ok-attributes.attributes)

pub merged-requires-clause-plain : goal.merged-requires-clause-plain
merged-requires-clause-plain c = escaped_plain c.args.attributes c.in_ok-written.written c.requires.attributes
    (c.in_ok-written.ensures.value ∙ ap (escaped is_zipkin_reserved) c.in_ok-attributes.ensures.same)

pub returns-then-len-eq0 : goal.returns-then-len-eq0
returns-then-len-eq0 c =
    let none : c.args.own ≡ [] = none_left c.args.own (sym c.len.ensures.count ∙ c.if-len-eq0.true) in
    let shared = c.args.shared.now in
    let told : told_pairs c.in_ok-written.written ≡ escaped_pairs c.args.attributes =
    ap told_pairs (c.in_ok-written.ensures.value ∙ ap (escaped is_zipkin_reserved) c.in_ok-attributes.ensures.same) ∙ told_in_order c.args.attributes in
    IfOk-weaker c.merged.result _ _
    (λ tags is. is ∙ (ap (λ l. map zipkin_tag_of (attrs (shared ++ l))) told ∙ ap (λ l. tags_by l shared c.args.attributes) (sym none)))
    c.merged.ensures

pub merged-requires-2-clause-rising : goal.merged-requires-2-clause-rising
merged-requires-2-clause-rising c =
    subst (λ l. Rise (keys l)) (sym (c.as_slice.ensures.value ∙ c.in_ok-rows.ensures)) (attrs_rise (c.args.own ++ c.args.shared.now))

pub merged-requires-2-clause-rows : goal.merged-requires-2-clause-rows
merged-requires-2-clause-rows c =
    rows_plain c.args.own c.args.shared.now c.as_slice.result.now c.requires.own c.requires.shared (c.as_slice.ensures.value ∙ c.in_ok-rows.ensures)

pub merged-requires-2-clause-in_order : goal.merged-requires-2-clause-in_order
merged-requires-2-clause-in_order c = subst (λ l. Rise (keys l)) (sym c.in_ok-written.ensures.value) (escaped_rise is_zipkin_reserved c.in_ok-attributes.attributes)

pub merged-requires-2-clause-plain : goal.merged-requires-2-clause-plain
merged-requires-2-clause-plain c = escaped_plain c.args.attributes c.in_ok-written.written c.requires.attributes
    (c.in_ok-written.ensures.value ∙ ap (escaped is_zipkin_reserved) c.in_ok-attributes.ensures.same)

pub returns : goal.returns
returns c =
    let shared = c.args.shared.now in
    let told : told_pairs c.in_ok-written.written ≡ escaped_pairs c.args.attributes =
    ap told_pairs (c.in_ok-written.ensures.value ∙ ap (escaped is_zipkin_reserved) c.in_ok-attributes.ensures.same) ∙ told_in_order c.args.attributes in
    IfOk-weaker c.merged-2.result _ _
    (λ tags is. is ∙ (ap (λ l. map zipkin_tag_of (attrs (c.as_slice.result.now ++ l))) told
    ∙ ap (map zipkin_tag_of) (joined_before c.args.own shared (escaped_pairs c.args.attributes) c.as_slice.result.now (c.as_slice.ensures.value ∙ c.in_ok-rows.ensures))))
    c.merged-2.ensures
