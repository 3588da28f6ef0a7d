use Rattle.std.proofs.Common.{None, rules}
use Rattle.otlp_proto.specs.Rows.{bytes_of}
use Rattle.otlp_proto.proofs.LinkLemmas.{link_is}
use Rattle.otlp_proto.proofs.reading.link.link_of.Goals as goal

pub returns-in_default : goal.returns-in_default
returns-in_default c = λ records gathered.
    link_is None c.args.rows records c.in_ok-attributes.attributes c.in_ok-attributes.notes (c.in_ok-attributes.ensures.attributes (bytes_of 4 records) gathered.attributes)
    (search rules) gathered

pub returns-in_default-unwrap_or : goal.returns-in_default-unwrap_or
returns-in_default-unwrap_or c = λ records gathered.
    link_is None c.args.rows records c.in_ok-attributes.attributes c.in_ok-attributes.notes (c.in_ok-attributes.ensures.attributes (bytes_of 4 records) gathered.attributes)
    (search rules) gathered

pub returns : goal.returns
returns c = λ records gathered.
    link_is _ c.args.rows records c.in_ok-attributes.attributes c.in_ok-attributes.notes (c.in_ok-attributes.ensures.attributes (bytes_of 4 records) gathered.attributes)
    (search rules) gathered
