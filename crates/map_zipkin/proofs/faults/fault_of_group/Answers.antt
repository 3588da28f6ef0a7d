use Rattle.map_zipkin.proofs.FaultRows.{finds_faults}
use Rattle.map_zipkin.proofs.faults.fault_of_group.Goals as goal

pub fault_in_group-requires : goal.fault_in_group-requires
fault_in_group-requires c = record { lawful = finds_faults c.event_texts_exact.ensures; sound = c.requires.sound }
