use Rattle.std.proofs.Common.{rules, ◌≡◌, [], ℕ, List, sym, ap, ◌∙◌}
use Rattle.std.proofs.lemmas.List.{append-nil}
use Rattle.otlp_proto.specs.Rows.{bytes_in}
use Rattle.proto_wire.specs.Records.{Record}
use Rattle.proto_wire.specs.Wire.{BeginsRecord, records}
use Rattle.span_convert.proofs.request.RequestUnitReader.unit_in.Goals as goal

-- a whole frame begins the bytes that are it
begins_so : (frame bytes : List ℕ) (whole : records.Whole frame) → bytes ≡ frame → BeginsRecord whole.0 bytes []
begins_so frame bytes whole is = record { text = frame; spelled = whole.1; parts = is ∙ sym (append-nil frame) }

pub unreachable-requires : goal.unreachable-requires
unreachable-requires c =
    let is : c.new-frame.result.rest ≡ c.args.frame.now = search rules in
    ((rw c.in-Ok-None.field-0-is at c.in-Ok-None.ensures).only c.requires.whole.0 [] (begins_so c.args.frame.now c.new-frame.result.rest c.requires.whole is)).0

pub unreachable-requires-in-Err : goal.unreachable-requires-in-Err
unreachable-requires-in-Err c =
    let is : c.new-frame.result.rest ≡ c.args.frame.now = search rules in
    (c.in-Err.ensures.only c.requires.whole.0 [] (begins_so c.args.frame.now c.new-frame.result.rest c.requires.whole is)).0

pub returns-clause-holds : goal.returns-clause-holds
returns-clause-holds c =
    let is : c.new-frame.result.rest ≡ c.args.frame.now = search rules in
    let same = ((rw c.in-Ok-Some.field-0-is at c.in-Ok-Some.ensures).only c.requires.whole.0 [] (begins_so c.args.frame.now c.new-frame.result.rest c.requires.whole is)).0 in
    record { this = c.requires.whole.0; spelled = c.requires.whole.1; holds = sym c.held_unit.ensures ∙ ap (λ (r : Record). bytes_in 1 r) same }
