use Rattle.std.proofs.Common.{◌≡◌, ◌++◌, [], ap, map, sym, subst, ◌∙◌}
use Rattle.std.proofs.lemmas.List.{append-nil}
use Rattle.trace_model.specs.Attributes.{Rise, attrs, keys}
use Rattle.trace_model.specs.EventTexts.{holds_double}
use Rattle.trace_model.specs.ValueTexts.{has_double}
use Rattle.span_tags.proofs.AttributeLaws.{attrs_itself}
use Rattle.span_tags.proofs.Moved.{none_left, still_none}
use Rattle.map_zipkin.specs.Writing.{told_pairs, zipkin_tag_of}
use Rattle.map_zipkin.proofs.MergedRows.{told_rise, rise_behind}
use Rattle.map_zipkin.proofs.writing.tags.merged.Goals as goal

pub attributes-init : goal.attributes-init
attributes-init c =
    let rows = c.args.rows.now in
    let whole : c.into_iter-pair-iterator.result.rest.items ≡ c.args.attributes = c.into_iter-pair-iterator.ensures.into_iter_gives.0 ∙ c.into_vec-pair-items.ensures.items in record {
      written = ap (λ l. l ++ map zipkin_tag_of (attrs (rows ++ told_pairs c.into_iter-pair-iterator.result.rest.items))) c.in_ok-tags.ensures
          ∙ ap (λ l. map zipkin_tag_of (attrs (rows ++ told_pairs l))) whole;
      rising = c.requires.rising;
      rows = c.requires.rows;
      in_order = subst (λ l. Rise (keys (told_pairs l))) (sym whole) (told_rise c.args.attributes c.requires.in_order);
      plain = ap holds_double whole ∙ c.requires.plain;
    }

pub attributes-preserved : goal.attributes-preserved
attributes-preserved c =
    let left = c.attributes.pair-iterator.rest.items in
    let rest = c.next.new.self.rest.items in
    let pair = c.in-Some.pair in
    let split = c.in-Some.ensures.steps.0 in
    let up = subst (λ l. Rise (keys (told_pairs l))) split c.attributes.invariant.in_order in record {
      written = c.in_ok-rows.ensures.added rest c.attributes.invariant.rising up
          ∙ (ap (λ l. c.attributes.tags ++ map zipkin_tag_of (attrs (c.attributes.rows.now ++ told_pairs l))) (sym split) ∙ c.attributes.invariant.written);
      rising = c.in_ok-rows.ensures.rising c.attributes.invariant.rising;
      rows = c.in_ok-rows.ensures.plain;
      in_order = rise_behind pair rest up;
      plain = still_none (λ pair. has_double pair.1) pair left rest split c.attributes.invariant.plain;
    }

pub returns : goal.returns
returns c =
    let left = c.attributes.pair-iterator.rest.items in
    let none : left ≡ [] = none_left left (sym c.attributes.pair-iterator.rest.ok.0 ∙ c.in-None.ensures.steps.0) in
    let rows = c.attributes.rows.now in
    let last : attrs (rows ++ told_pairs left) ≡ rows = ap (λ l. attrs (rows ++ told_pairs l)) none ∙ (ap attrs (append-nil rows) ∙ attrs_itself rows c.attributes.invariant.rising) in
    c.in_ok-add_tags.ensures ∙ (ap (λ l. c.attributes.tags ++ map zipkin_tag_of l) (sym last) ∙ c.attributes.invariant.written)
