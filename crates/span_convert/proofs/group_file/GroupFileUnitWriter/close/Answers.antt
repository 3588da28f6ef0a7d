use Rattle.std.proofs.lemmas.Result.{on_ok_weaker}
use Rattle.span_convert.proofs.GroupFileWalks.{closes_file}
use Rattle.span_convert.proofs.group_file.GroupFileUnitWriter.close.Goals as goal

pub returns : goal.returns
returns c =
    on_ok_weaker c.append.result (λ adds. closes_file c.args.self.now c.args.all c.args.out.now c.append_if.new.out c.append.new.self c.in_ok-append_if.ensures adds) c.append.ensures.ok
