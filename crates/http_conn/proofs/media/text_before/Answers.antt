use Rattle.http_conn.proofs.PlaceLemmas.{before_is}
use Rattle.http_conn.proofs.media.text_before.Goals as goal

pub returns : goal.returns
returns c = before_is c.args.mark c.args.text.now c.place_of.result c.place_of.ensures.within c.place_of.ensures.before c.place_of.ensures.found
