use Rattle.map_jaeger.proofs.FaultRows.{finds_faults}
use Rattle.map_jaeger.proofs.faults.fault_of_group.Goals as goal

pub fault_in_group-requires : goal.fault_in_group-requires
fault_in_group-requires c = record { lawful = finds_faults; sound = c.requires.sound }
