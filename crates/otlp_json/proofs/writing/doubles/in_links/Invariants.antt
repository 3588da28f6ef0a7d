use Rattle.std.proofs.Common.{◌≡◌, false, take}
use Rattle.std.specs.List.{list_any}
use Rattle.otlp_json.specs.Doubles.{double_in_link}
use Rattle.otlp_json.proofs.writing.doubles.in_links.Given as goal

abbrev pub invariant-links : goal.invariant-links
invariant-links l = list_any double_in_link (take l.link-index l.links) ≡ false
