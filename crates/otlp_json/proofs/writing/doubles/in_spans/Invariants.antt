use Rattle.std.proofs.Common.{◌≡◌, false, take}
use Rattle.std.specs.List.{list_any}
use Rattle.otlp_json.specs.Doubles.{double_in_span}
use Rattle.otlp_json.proofs.writing.doubles.in_spans.Given as goal

abbrev pub invariant-spans : goal.invariant-spans
invariant-spans l = list_any double_in_span (take l.span-index l.spans) ≡ false
