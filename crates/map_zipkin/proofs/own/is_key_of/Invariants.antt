use Rattle.std.proofs.Common.{◌≡◌, drop}
use Rattle.span_tags.specs.Columns.{is_key}
use Rattle.map_zipkin.specs.OwnColumns.{own_row}
use Rattle.map_zipkin.proofs.own.is_key_of.Given as goal

abbrev pub invariant-keys : goal.invariant-keys
invariant-keys l = is_key own_row (drop l.own-index l.keys) l.key ≡ is_key own_row l.keys l.key
