use Rattle.std.proofs.Common.{None, refl}
use Rattle.thrift_core.proofs.StructPushes.{seen_nothing}
use Rattle.thrift_core.proofs.scanner.StructScannerScan.new.Goals as goal

pub returns : goal.returns
returns g c = record {
  most = refl;
  going = refl;
  nothing = seen_nothing g.P.Parts.spells g.P.Parts.then_varint c.args.limit 0 None c.new.result refl refl c.new.ensures;
}
