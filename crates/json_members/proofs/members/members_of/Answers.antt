use Rattle.std.proofs.Common.{◌<◌, ◌≤◌, length, add-one, arith}
use Rattle.json_nodes.specs.Lents.{lent_view as view}
use Rattle.json_members.proofs.PlaceLemmas.{up_to_more, all_up_to}
use Rattle.json_members.proofs.members.members_of.Goals as goal

pub places-init : goal.places-init
places-init c = c.get_each.ensures

pub places-preserved : goal.places-preserved
places-preserved c =
    let within : c.places.place-index < length c.places.found = omega arith in
    rw add-one (up_to_more (view c.args.v.now) c.places.place-index c.args.names.now c.places.found _ c.other_than_null.result within
    c.other_than_null.ensures c.places.invariant)

pub returns : goal.returns
returns c =
    let all : length c.places.found ≤ c.places.place-index = omega arith in
    all_up_to (view c.args.v.now) c.places.place-index c.args.names.now c.places.found all c.places.invariant
