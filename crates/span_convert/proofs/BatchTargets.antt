-- Where the target is Jaeger: the text of a batch for each group.
use Rattle.std.proofs.Common.{◌≡◌, ◌++◌, ◌∷◌, ℕ, List, [], map, ap, ◌∙◌}
use Rattle.std.proofs.lemmas.Grind.{flat_map-append}
use Rattle.std.proofs.lemmas.List.{map-append}
use Rattle.span_io.proofs.TableLaws.{flat_more}
use Rattle.trace_model.specs.declared.group.Group.{Group}
use Rattle.map_jaeger.specs.Normal.{normal, normal_group}
use Rattle.span_convert.specs.BatchFiles.{ProtocolWords, group_batch, batches_text}

module _ (protocol : ProtocolWords) where
  abbrev text : List Group → List ℕ
  text = batches_text protocol

  pub batches_append : (a b : List Group) → text (normal (a ++ b)) ≡ text (normal a) ++ text (normal b)
  batches_append a b = ap (λ (l : List Group). text l) (map-append normal_group a b) ∙ flat_map-append (group_batch protocol) (map normal_group a) (map normal_group b)

  pub batches_more : (groups : List Group) (g : Group) → text (normal (groups ++ g ∷ [])) ≡ text (normal groups) ++ group_batch protocol (normal_group g)
  batches_more groups g = ap (λ (l : List Group). text l) (map-append normal_group groups (g ∷ [])) ∙ flat_more (group_batch protocol) (map normal_group groups) (normal_group g)
