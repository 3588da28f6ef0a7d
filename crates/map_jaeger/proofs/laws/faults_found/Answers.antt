use Rattle.map_jaeger.proofs.FaultRows.{finds_faults}
use Rattle.map_jaeger.proofs.laws.faults_found.Goals as goal

pub faults_found-requires : goal.faults_found-requires
faults_found-requires c = record { lawful = finds_faults }
