use Rattle.proto_wire.proofs.NextClauses.{found, only, end, truncated, overlong, bad_key, causes_within, nearer, unread}
use Rattle.proto_wire.proofs.reading.next_record.Goals as goal

pub returns-clause-found : goal.returns-clause-found
returns-clause-found c = found c.varint_readings.ensures c.args.c.now.rest c.next.new.c.rest c.next.result c.next.ensures.exact

pub returns-clause-only : goal.returns-clause-only
returns-clause-only c = only c.varint_readings.ensures c.args.c.now.rest c.next.new.c.rest c.next.result c.next.ensures.exact

pub returns-clause-end : goal.returns-clause-end
returns-clause-end c = end c.varint_readings.ensures c.args.c.now.rest c.next.new.c.rest c.next.result c.next.ensures.exact

pub returns-clause-truncated : goal.returns-clause-truncated
returns-clause-truncated c = truncated c.varint_readings.ensures c.args.c.now.rest c.next.new.c.rest c.next.result c.next.ensures.exact

pub returns-clause-overlong : goal.returns-clause-overlong
returns-clause-overlong c = overlong c.varint_readings.ensures c.args.c.now.rest c.next.new.c.rest c.next.result c.next.ensures.exact

pub returns-clause-bad_key : goal.returns-clause-bad_key
returns-clause-bad_key c = bad_key c.varint_readings.ensures c.args.c.now.rest c.next.new.c.rest c.next.result c.next.ensures.exact

pub returns-clause-causes : goal.returns-clause-causes
returns-clause-causes c = causes_within c.varint_readings.ensures c.args.c.now.rest c.next.new.c.rest c.next.result c.next.ensures.exact

pub returns-clause-nearer : goal.returns-clause-nearer
returns-clause-nearer c = nearer c.varint_readings.ensures c.args.c.now.rest c.next.new.c.rest c.next.result c.next.ensures.exact

pub returns-clause-unread : goal.returns-clause-unread
returns-clause-unread c = unread c.varint_readings.ensures c.args.c.now.rest c.next.new.c.rest c.next.result c.next.ensures.exact
