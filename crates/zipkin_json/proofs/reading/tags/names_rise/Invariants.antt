use denote.Shadow.{shadow}
use denote.Text.{Utf8}
use Rattle.std.proofs.Common.{◌∷◌, length, map, nat_cmp}
use Rattle.std.specs.Cmp.Lexicographic.{slice_cmp}
use Rattle.std.specs.List.Sorted.{IsStrictlySortedBy}
use Rattle.json_nodes.specs.Lents.{members_left}
use Rattle.zipkin_json.specs.private.Tags.{NamesRise}
use Rattle.zipkin_json.proofs.reading.tags.names_rise.Given as goal

abbrev pub invariant-names : goal.invariant-names
invariant-names l = record {
  text : shadow (Utf8 l.last);
  -- if the others rise behind the last one seen, all do
  rise : IsStrictlySortedBy (slice_cmp nat_cmp) (l.last ∷ map (λ m. m.0) (members_left l.left)) → NamesRise (members_left l.fn.members);
}

abbrev pub decreases-names : goal.decreases-names
decreases-names l = length (members_left l.left)
