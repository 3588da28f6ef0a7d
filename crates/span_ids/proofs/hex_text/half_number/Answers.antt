use Rattle.std.proofs.Common.{◌≤◌, length}
use Rattle.span_ids.proofs.HexLemmas.{text_ok, number_ok, number_is, some_there}
use Rattle.span_ids.proofs.hex_text.half_number.Goals as goal

pub unwrap-text-requires : goal.unwrap-text-requires
unwrap-text-requires c = text_ok _ _ c.args.text.now c.from_utf8.result c.requires.digits c.from_utf8.ensures.cases

pub unwrap-requires : goal.unwrap-requires
unwrap-requires c =
    let same = (rw c.unwrap-text.ensures at c.from_utf8.ensures.cases).0 in
    let some : 1 ≤ length c.args.text.now = some_there c.args.text.now c.is_empty.result c.is_empty.ensures c.if-is_empty.false in
    number_ok c.args.text.now c.from_str_radix.result c.requires.digits some c.requires.fits (rw same at c.from_str_radix.ensures.value)

pub returns : goal.returns
returns c =
    let same = (rw c.unwrap-text.ensures at c.from_utf8.ensures.cases).0 in
    let read = (rw (same, c.unwrap.ensures) at c.from_str_radix.ensures.value).1 in
    let some : 1 ≤ length c.args.text.now = some_there c.args.text.now c.is_empty.result c.is_empty.ensures c.if-is_empty.false in
    record { value = number_is c.args.text.now c.unwrap.result c.requires.digits some read }
