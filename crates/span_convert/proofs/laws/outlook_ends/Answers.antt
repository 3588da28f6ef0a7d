use Rattle.span_convert.specs.Reports.{written_target}
use Rattle.span_convert.proofs.OutlookLaws.{outlook_ends}
use Rattle.span_convert.proofs.laws.outlook_ends.Goals as goal

pub returns : goal.returns
returns c = λ from what. outlook_ends from (written_target what)
