use Rattle.map_zipkin.proofs.FaultRows.{finds_faults}
use Rattle.map_zipkin.proofs.laws.zipkin_faults_found.Goals as goal

pub faults_found-requires : goal.faults_found-requires
faults_found-requires c = record { lawful = finds_faults c.event_texts_exact.ensures }
