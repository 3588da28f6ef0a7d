use Rattle.std.proofs.Common.{◌≡◌, drop}
use Rattle.map_zipkin.specs.LeastZipkinFault.{out_of_form}
use Rattle.map_zipkin.specs.OwnColumns.{forms_of}
use Rattle.map_zipkin.proofs.faults.out_of_form.Given as goal

abbrev pub invariant-keys : goal.invariant-keys
invariant-keys l = out_of_form l.pairs (forms_of (drop l.own-index l.keys)) ≡ out_of_form l.pairs (forms_of l.keys)
