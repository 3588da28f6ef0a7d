use Rattle.std.proofs.Common.{◌≡◌}
use Rattle.std.specs.Prelude.{Some, None}
use Rattle.propagation.proofs.WritingLemmas.{where_ok, without_parent, with_parent}
use Rattle.propagation.proofs.writing.append_multi_ids.Goals as goal

pub returns-in_default-parent-clause-ok : goal.returns-in_default-parent-clause-ok
returns-in_default-parent-clause-ok c =
    let none : c.in-Some.ids.parent ≡ None = cc in
    without_parent c.args.ids c.in-Some.ids c.args.out.now c.append_header.new.out c.append_header-2.new.out c.write_hex.new.out c.write_hex-2.new.out c.in-Some.is c.write_hex.ensures.written c.write_hex-2.ensures.written
    c.in_ok-append_header.ensures.ok c.in_ok-append_header-2.ensures.ok none

pub returns-clause-ok : goal.returns-clause-ok
returns-clause-ok c =
    let some : c.in-Some.ids.parent ≡ Some c.in-Some-parent.id = cc in
    where_ok c.append_header-3.result
    (with_parent c.args.ids c.in-Some.ids c.args.out.now c.append_header.new.out c.append_header-2.new.out c.write_hex.new.out c.write_hex-2.new.out c.in-Some.is c.write_hex.ensures.written c.write_hex-2.ensures.written
    c.in_ok-append_header.ensures.ok c.in_ok-append_header-2.ensures.ok c.in-Some-parent.id c.append_header-3.new.out c.write_hex-3.new.out some c.write_hex-3.ensures.written)
    c.append_header-3.ensures.ok
