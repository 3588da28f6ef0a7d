use Rattle.std.proofs.Common.{◌≡◌, ◌≤◌, ◌+◌, length, take, Result, Ok, Err, IsOk, OnOk, ◌∙◌, arith}
use Rattle.std.proofs.lemmas.List.{length-take}
use Rattle.proto_wire.specs.Scanners.{longest_head}
use Rattle.proto_wire.proofs.Heads.{kept_front}
use Rattle.proto_wire.proofs.scanner.keep.Goals as goal

on_ok : {A E P : Type 0} (r : Result A E) → IsOk r → OnOk r P → P
on_ok (Ok x) there h = h
on_ok (Err e) there h = cc

pub returns : goal.returns
returns c =
    let room : c.remaining_capacity.result + length c.args.head.now.items ≡ longest_head = c.remaining_capacity.ensures in
    let fits : length c.args.head.now.items + length (take c.min-kept.result c.args.piece.now) ≤ longest_head = omega (arith, room, c.min-kept.ensures, length-take c.min-kept.result c.args.piece.now) in
    on_ok c.try_extend_from_slice-kept.result (c.try_extend_from_slice-kept.ensures.variant.1 fits) c.try_extend_from_slice-kept.ensures.ok
    ∙ kept_front c.args.head.now.items c.args.piece.now c.remaining_capacity.result c.min-kept.result room c.min-kept.ensures
