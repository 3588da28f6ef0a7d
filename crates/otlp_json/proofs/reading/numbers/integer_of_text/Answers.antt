use Rattle.std.proofs.Common.{◌≡◌, ◌≢◌, Some, ap, ◌∙◌, rules}
use Rattle.std.specs.Prelude.{slice_index}
use Rattle.otlp_json.specs.Numbers.{integer_in_text}
use Rattle.otlp_json.proofs.NumberLemmas.{parsed_some, parsed_none}
use Rattle.otlp_json.proofs.ShortNumbers.{short_parsed}
use Rattle.otlp_json.proofs.reading.numbers.integer_of_text.Goals as goal

pub returns-in-Ok-clause-some : goal.returns-in-Ok-clause-some
returns-in-Ok-clause-some c =
    let plus : slice_index c.args.text.now 0 ≢ 43 = λ e. c.if-bytes-eq43.false (ap (λ l. slice_index l 0) c.as_bytes-bytes.ensures.value ∙ e) in
    let read : integer_in_text c.args.text.now ≡ Some c.in-Ok.short = short_parsed c.args.text.now plus c.parse.result c.parse.ensures.value.0 c.in-Ok.short c.in-Ok.is in
    rw read (search rules)

pub returns-clause-some : goal.returns-clause-some
returns-clause-some c =
    let plus : slice_index c.args.text.now 0 ≢ 43 = λ e. c.if-bytes-eq43.false (ap (λ l. slice_index l 0) c.as_bytes-bytes.ensures.value ∙ e) in
    rw c.ok.ensures.value (parsed_some c.args.text.now c.parse-2.result c.parse-2.ensures.value.0 plus)

pub returns-clause-none : goal.returns-clause-none
returns-clause-none c =
    let plus : slice_index c.args.text.now 0 ≢ 43 = λ e. c.if-bytes-eq43.false (ap (λ l. slice_index l 0) c.as_bytes-bytes.ensures.value ∙ e) in
    rw c.ok.ensures.value (parsed_none c.args.text.now c.parse-2.result c.parse-2.ensures.value.0 plus)
