use Rattle.span_convert.specs.Reports.{written_target}
use Rattle.span_convert.proofs.DocumentTwins.{same_documents}
use Rattle.span_convert.proofs.laws.same_documents.Goals as goal

pub returns : goal.returns
returns c = λ from what. same_documents from (written_target what)
