use Rattle.std.proofs.Common.{ℕ, [], ◌∷◌, ap, length, ◌+◌, arith}
use Rattle.std.proofs.lemmas.List.{length-append}
use Rattle.json_nodes.specs.Lents.{lent_view as view}
use Rattle.trace_model.specs.declared.noted.Noted.{Noted}
use Rattle.trace_model.specs.Notes.{ScopeNotes}
use Rattle.trace_model.specs.declared.group.Scope.{Scope}
use Rattle.trace_model.proofs.ToldLaws.{spans_all_noted, scope_added}
use Rattle.otlp_json.specs.private.Found.{ScopesTold}
use Rattle.otlp_json.specs.Group.{IsJsonScope}
use Rattle.otlp_json.proofs.CountedLists.{fewer_read}
use Rattle.otlp_json.proofs.ListLemmas.{finds_more}
use Rattle.otlp_json.proofs.reading.scopes.FoundScopesRows.add.Goals as goal

pub returns-clause-ok : goal.returns-clause-ok
returns-clause-ok c =
    let is = c.in_ok-read.ensures.value in
    let scope = is.is_scope in
    let this : Noted Scope ScopeNotes = record { means = c.in_ok-read.read.means; notes = is.notes } in
    finds_more IsJsonScope ScopesTold (view c.args.v.now) c.args.self.now _ this scope
    (λ found h. scope_added found _ _ _ _ _ _ _ this (1 + c.len.result) (ap (λ (n : ℕ). 1 + n) c.len.ensures.count)
    c.in_ok-push.ensures.ok c.in_ok-remark_all.ensures is.remarks (ap (λ (n : ℕ). c.args.self.now.next_span + n) c.len-2.ensures.count)
    (spans_all_noted scope.instrumentation scope.spans scope.url this scope.scope) h)

pub returns-clause-grown : goal.returns-clause-grown
returns-clause-grown c =
    let fewer =
    fewer_read (1 + c.len.result) c.args.self.now.next_span c.in_ok-read.read
    (view c.args.v.now) c.in_ok-read.ensures.value in
    let more = ap length c.in_ok-push.ensures.ok in
    let one = length-append c.args.self.now.scopes (c.in_ok-read.read.means ∷ []) in
    omega (arith, fewer, more, one, c.len-2.ensures.count)

pub overflow_cast-self : goal.overflow_cast-self
overflow_cast-self c =
    let fewer =
    fewer_read (1 + c.len.result) c.args.self.now.next_span c.in_ok-read.read
    (view c.args.v.now) c.in_ok-read.ensures.value in
    record { fits = omega (arith, c.requires.counted, fewer, c.len-2.ensures.count) }

pub overflow_add-self : goal.overflow_add-self
overflow_add-self c =
    let fewer =
    fewer_read (1 + c.len.result) c.args.self.now.next_span c.in_ok-read.read
    (view c.args.v.now) c.in_ok-read.ensures.value in
    record { fits = omega (arith, c.requires.counted, fewer, c.len-2.ensures.count) }
