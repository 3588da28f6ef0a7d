use Rattle.std.proofs.lemmas.Result.{on_ok_weaker}
use Rattle.span_convert.proofs.SpanFileWalks.{closes_spans}
use Rattle.span_convert.proofs.span_file.SpanFile.close.Goals as goal

pub returns : goal.returns
returns c =
    on_ok_weaker c.append.result (λ adds. closes_spans c.args.self.now c.args.all c.args.out.now c.append_if.new.out c.append.new.self c.in_ok-append_if.ensures adds) c.append.ensures.ok
