use Rattle.span_tags.specs.FaultTables.{found_fault}
use Rattle.span_tags.proofs.FirstFault.{found_counts}
use Rattle.span_tags.proofs.laws.faults_found.Goals as goal

pub returns : goal.returns
returns g c = λ group sound.
    (found_fault g.F.Faults.table group, found_counts g.F.Faults.table g.F.Faults.of_resource g.F.Faults.of_span c.requires.lawful group sound)
