-- The messages of values, record by record.
use Rattle.std.proofs.Common.{◌≡◌, ℕ, zero, suc, List, [], ◌∷◌, ◌++◌, ◌⊎◌, inl, inr, Option, None, Result, Err, refl, sym, ap, subst, ◌∙◌, arith}
use Rattle.std.specs.Result.{IsErrAnd}
use Rattle.std.proofs.lemmas.Result.{err_from_is_err_and}
use Rattle.std.specs.Prelude.{IsNone}
use Rattle.std.specs.List.{AllZip}
use Rattle.span_io.specs.declared.cause.Cause.{Cause}
use Rattle.span_io.specs.declared.halt.Halt.{Halt}
use Rattle.span_io.specs.Offences.{Rules, Offence, HereOrInside, ItemOffends, Judges}
use Rattle.span_io.proofs.OffenceLaws.{judged_inside}
use Rattle.span_io.specs.Tables.{Row, Twice, table_here, table_inside}
use Rattle.proto_wire.specs.Messages.{messages}
use Rattle.proto_wire.specs.Records.{bytes, Record}
use Rattle.otlp_proto.specs.declared.reading.value_rows.ListRows.{ListRows}
use Rattle.otlp_proto.specs.declared.reading.value_rows.MapRows.{MapRows}
use Rattle.otlp_proto.specs.Rows.{bytes_in, bytes_of}
use Rattle.otlp_proto.specs.Values.{Member, MeansMember, value_in, key_value_in, value_at, key_value_at, value_offends, key_value_offends, value_rules, key_value_rules}
use Rattle.trace_model.specs.declared.noted.KeyValue.{KeyValue}
use Rattle.trace_model.specs.OtlpParts.{NotedValue, entry}
use Rattle.trace_model.proofs.ToldLaws.{value_added, pair_added}
use Rattle.otlp_proto.specs.private.ValuesSoFar.{GatheredMembers, GatheredField, GatheredList, GatheredMap}
use Rattle.span_io.proofs.RowLaws.{all_zip_push, first_item}
use Rattle.span_io.proofs.TableLaws.{flat_more}

-- nothing was given to a row that is not set
pub no_member : (left : ℕ) (earlier : List Member) (row : Option NotedValue) → row ≡ None → GatheredMembers left earlier row → (n : ℕ) → Twice earlier n ⊎ ⊥ → ⊥
no_member left earlier row unset gave n (inl twice) = first_item (λ member read. MeansMember (value_in left) (key_value_in left) member read) earlier row (subst IsNone (sym unset) refl) gave n twice
no_member left earlier row unset gave n (inr never) = never

pub no_field : (left : ℕ) (earlier : List (List ℕ)) (row : Option NotedValue) → row ≡ None → GatheredField left earlier row → (n : ℕ) → Twice earlier n → ⊥
no_field left earlier row unset gave = first_item (λ held read. value_at left held read) earlier row (subst IsNone (sym unset) refl) gave

-- what was answered of a record that is this one
pub judged_as : (K : Rules Record) (seen : List Record) (r s : Record) → r ≡ s → (answer : Result Unit (Halt Cause)) → Judges answer (ItemOffends Record K seen s) → Judges answer (ItemOffends Record K seen r)
judged_as K seen r s e answer h = subst (λ (x : Record). Judges answer (ItemOffends Record K seen x)) (sym e) h

-- what was answered of the message inside a record that doesn't offend by itself, passed on
pub halted_inside_at : (table : List (Row Record)) (seen : List Record) (r s : Record) → r ≡ s → ((m : ℕ) → table_here table seen s m → ⊥) → (S : Type 0) (halt : Halt Cause) → Judges {T = S} (Err halt) (λ p n. table_inside table s p n)
    → (answer : Result Unit (Halt Cause)) → IsErrAnd answer (λ h. h ≡ halt) → Judges answer (HereOrInside (table_here table seen r) (table_inside table r))
halted_inside_at table seen r s e fine S halt h answer is =
    let p = err_from_is_err_and answer is in
    subst (λ (a : Result Unit (Halt Cause)). Judges a (HereOrInside (table_here table seen r) (table_inside table r))) (sym (p.1 ∙ ap Err p.2))
    (subst (λ (x : Record). Judges {T = Unit} (Err halt) (HereOrInside (table_here table seen x) (table_inside table x))) (sym e)
    (judged_inside (λ n. table_here table seen s n) (λ p n. table_inside table s p n) S Unit halt fine h))

-- ---- one level below

value_below : (below left : ℕ) → left ≡ suc below → (v : NotedValue) (held : List ℕ) → value_at below held v → value_in left held v
unfolding value_in
value_below below zero deeper v held value = absurd (omega (arith, deeper))
value_below below (suc n) deeper v held value = let same : below ≡ n = omega (arith, deeper) in subst (λ (k : ℕ). value_at k held v) same value

key_value_below : (below left : ℕ) → left ≡ suc below → (p : KeyValue) (held : List ℕ) → key_value_at below held p → key_value_in left held p
unfolding key_value_in
key_value_below below zero deeper p held value = absurd (omega (arith, deeper))
key_value_below below (suc n) deeper p held value = let same : below ≡ n = omega (arith, deeper) in subst (λ (k : ℕ). key_value_at k held p) same value

pub value_judged : (below left : ℕ) → left ≡ suc below → (held : List ℕ) (T : Type 0) (answer : Result T (Halt Cause)) → Judges answer (Offence messages (value_rules below) held) → Judges answer (λ p n. value_offends left held p n)
unfolding value_offends
value_judged below zero deeper held T answer h = absurd (omega (arith, deeper))
value_judged below (suc n) deeper held T answer h =
    let same : below ≡ n = omega (arith, deeper) in subst (λ (k : ℕ). Judges answer (Offence messages (value_rules k) held)) same h

pub key_value_judged : (below left : ℕ) → left ≡ suc below → (held : List ℕ) (T : Type 0) (answer : Result T (Halt Cause)) → Judges answer (Offence messages (key_value_rules below) held) → Judges answer (λ p n. key_value_offends left held p n)
unfolding key_value_offends
key_value_judged below zero deeper held T answer h = absurd (omega (arith, deeper))
key_value_judged below (suc n) deeper held T answer h =
    let same : below ≡ n = omega (arith, deeper) in subst (λ (k : ℕ). Judges answer (Offence messages (key_value_rules k) held)) same h

-- ---- lists and maps

module _ (below left : ℕ) (deeper : left ≡ suc below) (seen : List Record) (r : Record) (held : List ℕ) (e : r ≡ record { number = 1; held = bytes held }) where
  one_more : bytes_of 1 (seen ++ r ∷ []) ≡ bytes_of 1 seen ++ held ∷ []
  one_more = flat_more (bytes_in 1) seen r ∙ ap (λ (x : Record). bytes_of 1 seen ++ bytes_in 1 x) e

  pub list_push : (old new : ListRows) (v : NotedValue) → value_at below held v → new.values ≡ old.values ++ v.means ∷ [] → new.noted ≡ old.noted ++ v.notes → GatheredList left seen old → GatheredList left (seen ++ r ∷ []) new
  list_push old new v value values noted so_far = record {
    members = so_far.members ++ v ∷ [];
    each = subst (λ (l : List (List ℕ)). AllZip (value_in left) l (so_far.members ++ v ∷ [])) (sym one_more)
        (all_zip_push (value_in left) (bytes_of 1 seen) so_far.members held v so_far.each (value_below below left deeper v held value));
    told = value_added so_far.members old.values new.values old.noted new.noted v values noted so_far.told;
  }

  pub map_push : (old new : MapRows) (q : KeyValue) → key_value_at below held q → new.pairs ≡ old.pairs ++ entry q ∷ [] → new.noted ≡ old.noted ++ q.value.notes → GatheredMap left seen old → GatheredMap left (seen ++ r ∷ []) new
  map_push old new q value pairs noted so_far = record {
    members = so_far.members ++ q ∷ [];
    each = subst (λ (l : List (List ℕ)). AllZip (key_value_in left) l (so_far.members ++ q ∷ [])) (sym one_more)
        (all_zip_push (key_value_in left) (bytes_of 1 seen) so_far.members held q so_far.each (key_value_below below left deeper q held value));
    told = pair_added so_far.members old.pairs new.pairs old.noted new.noted q pairs noted so_far.told;
  }
