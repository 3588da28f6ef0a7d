use Rattle.std.proofs.Common.{ap, sym, ◌∙◌, Ok, Err}
use Rattle.span_io.specs.Varint.{varint_at}
use Rattle.span_io.specs.Walks.{Walk}
use Rattle.span_io.proofs.VarintFacts.{Reading, reading, byte_read}
use Rattle.span_io.proofs.cursor.Cursor.varint.Goals as goal
use Rattle.span_io.proofs.cursor.Cursor.varint.Goals.{After-from, In-Ok, In-Err}

one_byte : (c : After-from) → Reading (Ok c.from.result) c.args.self.now.rest c.in-Some.rest.now
one_byte c =
    let same = sym (ap (λ (w : Walk). w.rest) c.self.view_is) in
    reading _ _ _ (rw c.from.ensures (byte_read _ _ _ (same ∙ c.in-Some.ensures.cases.0) c.if-byte-lt128.true))

in_ok : (c : In-Ok) → Reading (Ok c.in-Ok.number) c.args.self.now.rest c.in-Ok.rest.now
in_ok c =
    let same = sym (ap (λ (w : Walk). w.rest) c.self.view_is) in
    reading _ _ _ (ap varint_at same ∙ c.in-Ok.ensures.exact)

in_err : (c : In-Err) → Reading (Err c.in-Err.lack) c.args.self.now.rest c.args.self.now.rest
in_err c =
    let same = sym (ap (λ (w : Walk). w.rest) c.self.view_is) in
    reading _ _ _ (ap varint_at same ∙ c.in-Err.ensures.exact)

pub returns-then-byte-lt128-clause-found : goal.returns-then-byte-lt128-clause-found
returns-then-byte-lt128-clause-found c = (one_byte c).found

pub returns-then-byte-lt128-clause-only : goal.returns-then-byte-lt128-clause-only
returns-then-byte-lt128-clause-only c = (one_byte c).only

pub returns-then-byte-lt128-clause-exact : goal.returns-then-byte-lt128-clause-exact
returns-then-byte-lt128-clause-exact c =
    let same = sym (ap (λ (w : Walk). w.rest) c.self.view_is) in
    rw c.from.ensures (byte_read _ _ _ (same ∙ c.in-Some.ensures.cases.0) c.if-byte-lt128.true)

pub returns-then-byte-lt128-clause-bad : goal.returns-then-byte-lt128-clause-bad
returns-then-byte-lt128-clause-bad c = (one_byte c).bad

pub returns-in-Ok-clause-found : goal.returns-in-Ok-clause-found
returns-in-Ok-clause-found c = (in_ok (goal.at.returns-in-Ok-clause-found c).In-Ok).found

pub returns-in-Ok-clause-only : goal.returns-in-Ok-clause-only
returns-in-Ok-clause-only c = (in_ok (goal.at.returns-in-Ok-clause-only c).In-Ok).only

pub returns-in-Ok-clause-short : goal.returns-in-Ok-clause-short
returns-in-Ok-clause-short c = (in_ok (goal.at.returns-in-Ok-clause-short c).In-Ok).short

pub returns-in-Ok-clause-bad : goal.returns-in-Ok-clause-bad
returns-in-Ok-clause-bad c = (in_ok (goal.at.returns-in-Ok-clause-bad c).In-Ok).bad

pub returns-in-Err-clause-only : goal.returns-in-Err-clause-only
returns-in-Err-clause-only c = (in_err (goal.at.returns-in-Err-clause-only c).In-Err).only

pub returns-in-Err-clause-short : goal.returns-in-Err-clause-short
returns-in-Err-clause-short c = (in_err (goal.at.returns-in-Err-clause-short c).In-Err).short

pub returns-in-Err-clause-bad : goal.returns-in-Err-clause-bad
returns-in-Err-clause-bad c = (in_err (goal.at.returns-in-Err-clause-bad c).In-Err).bad
