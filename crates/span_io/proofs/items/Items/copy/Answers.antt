use Rattle.span_io.proofs.Copies.{same_copy}
use Rattle.span_io.proofs.items.Items.copy.Goals as goal

pub returns : goal.returns
returns g c = same_copy g.T.Clone.is_clone c.as_slice.result.now c.self.inside.items.items c.args.self.now c.in_ok-items.items.items c.as_slice.ensures.value
    c.self.view_is c.in_ok-items.ensures.items c.requires
