use Rattle.row_tables.specs.Parts.{is_newline}
use Rattle.row_tables.proofs.PartLemmas.{takes_part}
use Rattle.row_tables.proofs.row.first_line.Goals as goal

pub returns : goal.returns
returns c = takes_part is_newline c.args.text.now c.parted.result.0.now c.parted.result.1.now c.parted.ensures.front c.parted.ensures.behind
