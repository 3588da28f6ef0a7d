-- The words by which a command line names the forms of headers.
use Rattle.std.specs.Prelude.{ℕ, List, codes}
use Rattle.propagation.specs.declared.header_form.HeaderForm.{HeaderForm}
use Rattle.propagation.specs.declared.header_form.HeaderForm.TheVariants.{W3c, B3, B3Multi, Uber}

-- `w3c` is `traceparent` with `tracestate`, `b3` the one header, `b3-multi` the headers X-B3, and `uber` is `uber-trace-id`
abbrev pub header_form_word : HeaderForm → List ℕ
header_form_word W3c = codes "w3c"
header_form_word B3 = codes "b3"
header_form_word B3Multi = codes "b3-multi"
header_form_word Uber = codes "uber"
