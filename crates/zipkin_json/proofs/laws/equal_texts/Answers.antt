use Rattle.zipkin_json.proofs.TextLemmas as texts
use Rattle.zipkin_json.proofs.laws.equal_texts.Goals as goal

pub returns : goal.returns
returns c = texts.equal_texts c.one_list.ensures c.written_again.ensures
