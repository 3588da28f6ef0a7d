use Rattle.std.proofs.Common.{◌≡◌, ◌++◌, ap, map, is_some, ◌∙◌}
use Rattle.trace_model.specs.Attributes.{attrs}
use Rattle.trace_model.specs.EventTexts.{holds_double}
use Rattle.span_tags.specs.Runs.{under}
use Rattle.map_zipkin.specs.Writing.{local_endpoint, remote_endpoint, escaped_pairs, zipkin_tag_of, zipkin_tags_of}
use Rattle.map_zipkin.specs.declared.own.Own.TheVariants as owns
use Rattle.map_zipkin.specs.private.Unfit.{ports_unfit}
use Rattle.map_zipkin.proofs.OwnParts.{same_ports}
use Rattle.map_zipkin.proofs.PlainTags.{own_plain, second_of_three}
use Rattle.map_zipkin.proofs.RowsJoined.{rows_are_columns}
use Rattle.map_zipkin.proofs.writing.span_of.Goals as goal

pub tags_of-requires-clause-own : goal.tags_of-requires-clause-own
tags_of-requires-clause-own c = ap holds_double c.in_ok-own.ensures ∙ own_plain c.args.span

pub endpoints_of-requires-clause-ports : goal.endpoints_of-requires-clause-ports
endpoints_of-requires-clause-ports c = same_ports c.own_part-part.result.now c.args.span.attributes c.own_part-part.ensures
    ∙ second_of_three (holds_double c.args.span.attributes) (ports_unfit c.args.span.attributes) _ c.requires.span

pub returns : goal.returns
returns c = λ name version is.
    let one = under name version c.args.span in
    let told = escaped_pairs c.args.span.attributes in
    let held = c.own_part-part.ensures in
    let tags : c.in_ok-tags.tags ≡ zipkin_tags_of c.args.resource.now one =
    c.in_ok-tags.ensures
    ∙ ap (λ l. map zipkin_tag_of (attrs l)) (λ i. c.in_ok-own.ensures i ++ ((c.as_slice.ensures ∙ is) i ++ told))
    ∙ ap (map zipkin_tag_of) (rows_are_columns one c.args.resource.now told) in
    λ i. record {
      trace = c.args.span.trace;
      id = c.args.span.id;
      parent = c.args.span.parent;
      name = c.args.span.name;
      kind = c.zipkin_kind.ensures i;
      start = c.floor.ensures.value i;
      end = c.floor-2.ensures.value i;
      debug = (c.has_own-debug.ensures ∙ ap (λ own. is_some (own owns.Debug)) held) i;
      shared = (c.has_own-shared_with.ensures ∙ ap (λ own. is_some (own owns.Shared)) held) i;
      local = (c.in_ok-local.ensures.local ∙ ap (local_endpoint c.args.resource.now) held) i;
      remote = (c.in_ok-local.ensures.remote ∙ ap (remote_endpoint c.args.span.attributes) held) i;
      annotations = c.in_ok-annotations.ensures i;
      tags = tags i;
    }
