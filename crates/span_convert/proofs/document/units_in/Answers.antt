use Rattle.span_convert.proofs.DocumentWalks.{stays_unread, stops_unread}
use Rattle.span_convert.proofs.document.units_in.Goals as goal

pub returns-in-Err-Why-clause-stop : goal.returns-in-Err-Why-clause-stop
returns-in-Err-Why-clause-stop g c = λ what limits said progress now taken.
    stops_unread what limits _ said _ progress taken g.R.DocumentReader.form now c.in-Err-Why.refusal (rw c.in-Err-Why.field-0-is at c.in-Err-Why.ensures).why

pub returns-in-Err-OutOfMemory-clause-stop : goal.returns-in-Err-OutOfMemory-clause-stop
returns-in-Err-OutOfMemory-clause-stop g c = λ what limits said progress now taken. stays_unread what limits _ said _ progress taken g.R.DocumentReader.form now
