-- Scopes that were read, one after the other.
use Rattle.std.proofs.Common.{◌≡◌, ℕ, ◌+◌, List, [], ◌∷◌, ◌++◌, length}
use Rattle.trace_model.specs.declared.noted.Noted.{Noted}
use Rattle.trace_model.specs.declared.remark.Remark.{Remark}
use Rattle.trace_model.specs.declared.group.Scope.{Scope}
use Rattle.trace_model.specs.Notes.{ScopeNotes}
use Rattle.trace_model.proofs.ToldLaws.{spans_all_noted, scope_added}
use Rattle.otlp_proto.specs.declared.reading.group.ScopeList.{ScopeList}
use Rattle.otlp_proto.specs.private.GroupSoFar.{GatheredScopes}
use Rattle.otlp_proto.specs.private.ReadParts.{IsReadScope}
use Rattle.otlp_proto.specs.Rows.{MeansMessage}
use Rattle.otlp_proto.specs.Scope.{IsScope}
use Rattle.span_io.proofs.RowLaws.{all_zip_push}

pub scope_push : (earlier : List (List ℕ)) (held : List ℕ) (old new : ScopeList) (number : ℕ) (read : Noted Scope (List Remark)) → new.scopes ≡ old.scopes ++ read.means ∷ [] → new.remarks ≡ old.remarks ++ read.notes
    → new.next_span ≡ old.next_span + length read.means.spans → number ≡ 1 + length old.scopes → IsReadScope number old.next_span read held → GatheredScopes earlier old → GatheredScopes (earlier ++ held ∷ []) new
scope_push earlier held old new number read scopes remarks next its_number is so_far =
    let this : Noted Scope ScopeNotes = record { means = read.means; notes = is.notes } in
    let scope = is.is_scope.is in
    record {
      read = so_far.read ++ this ∷ [];
      each = all_zip_push (MeansMessage IsScope) earlier so_far.read held this so_far.each is.is_scope;
      told = scope_added so_far.read old.scopes new.scopes old.remarks new.remarks read.notes old.next_span new.next_span this number its_number scopes remarks is.remarks next
          (spans_all_noted scope.instrumentation scope.spans scope.url this scope.scope) so_far.told;
    }
