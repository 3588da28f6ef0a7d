use Rattle.std.proofs.Common.{◌<◌, ◌^◌, ◌++◌, ℕ, List, length, subst, arith}
use Rattle.std.proofs.lemmas.List.{length-append}
use Rattle.span_io.proofs.TableLaws.{flat_more}
use Rattle.span_io.specs.declared.form.Form.TheVariants as forms
use Rattle.map_zipkin.specs.NotedGroups.{noted_group}
use Rattle.otlp_proto.specs.Canonical.{group_record}
use Rattle.span_convert.proofs.FormTargets.{writes_unit}
use Rattle.span_convert.proofs.request.RequestUnitWriter.write.Goals as goal

-- what was added is no longer than all
behind_short : (before added : List ℕ) → length (before ++ added) < 2 ^ 63 → length added < 2 ^ 63
behind_short before added h = omega (arith, h, length-append before added)

pub returns-clause-ok : goal.returns-clause-ok
returns-clause-ok c =
    let short = subst (λ (l : List ℕ). length l < 2 ^ 63) c.in_ok-write_group.ensures.ok (subst (λ (l : List ℕ). length l < 2 ^ 63) c.as_slice.ensures c.bytes_known.ensures) in
    writes_unit forms.OtlpProto (noted_group c.args.unit) _ _ _ _ _ (group_record c.args.unit.0) c.requires.sound c.proper_group.ensures tt (behind_short _ _ short) c.in_ok-write_group.ensures.ok
    (λ groups so_far same. flat_more group_record groups c.args.unit.0)
