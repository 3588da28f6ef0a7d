-- What a run of orders makes of a spool.
use Rattle.std.proofs.Common.{◌≡◌, ℕ, ◌+◌, ◌-◌, ◌≤◌, true, false, List, [], ◌∷◌, ◌++◌, length, take, drop, Option, Some, None, IfSome, option_map, option_to_list, refl, arith, sym, ap, ◌∙◌, subst, append_assoc, length-append}
use Rattle.std.proofs.lemmas.List.{append-nil, drop-append-le, drop-drop}
use Rattle.std.specs.List.{filter, range_with_len}
use Rattle.span_io.specs.Outside.{Rose}
use Rattle.span_io.specs.declared.form.Form.{Form}
use Rattle.span_spool.proofs.RowLemmas.{left_rows, numbered_more, range_more}
use Rattle.span_spool.specs.Calls.{DropsRow, Halts, KeepsRow, stays}
use Rattle.span_spool.specs.Driving.{Answers, Runs, Stops}
use Rattle.span_spool.specs.Orders.{accepted, acknowledged, body_of, is_not_among, left, number_of}
use Rattle.span_spool.specs.Spools.{AreNumbered, IsEmpty, Spool}
use Rattle.span_spool.specs.StatedLaws.{Leaves}
use Rattle.span_spool.specs.declared.keeper.KeepFault.{KeepFault}
use Rattle.span_spool.specs.declared.keeper.KeepFault.TheVariants as faults
use Rattle.span_spool.specs.declared.kept.Kept.{Kept}
use Rattle.span_spool.specs.declared.order.Halted.{Halted}
use Rattle.span_spool.specs.declared.order.Order.{Order}
use Rattle.span_spool.specs.declared.order.Order.TheVariants as orders
use Rattle.span_spool.specs.declared.order.Reply.{Reply}
use Rattle.span_spool.specs.declared.order.Reply.TheVariants as replies

-- one order more
pub runs_more : (orders : List Order) (replies : List Reply) (order : Order) (reply : Reply) (before now after : Spool)
    → Runs orders replies before now → Answers order reply now after → now.faults ≤ after.faults
    → Runs (orders ++ order ∷ []) (replies ++ reply ∷ []) before after
runs_more [] [] order reply before now after runs answers rises =
    (after, subst (λ (s : Spool). Answers order reply s after) runs answers, subst (λ (s : Spool). s.faults ≤ after.faults) runs rises, refl)
runs_more [] (other ∷ replies) order reply before now after runs answers rises = absurd runs
runs_more (one ∷ orders) [] order reply before now after runs answers rises = absurd runs
runs_more (one ∷ orders) (other ∷ replies) order reply before now after runs answers rises =
    (runs.0, runs.1, runs.2, runs_more orders replies order reply runs.0 now after runs.3 answers rises)

-- the count of faults never falls
pub runs_counted : (orders : List Order) (replies : List Reply) (before now : Spool) → Runs orders replies before now → before.faults ≤ now.faults
runs_counted [] [] before now runs = let e : now.faults ≡ before.faults = ap (λ (s : Spool). s.faults) runs in omega arith
runs_counted [] (other ∷ replies) before now runs = absurd runs
runs_counted (one ∷ orders) [] before now runs = absurd runs
runs_counted (one ∷ orders) (other ∷ replies) before now runs =
    let later = runs_counted orders replies runs.0 now runs.3 in omega (arith, runs.2)

-- What was accepted is numbered from 1, what was acknowledged are the first numbers, and the rows, where they are told, are what was
-- accepted without that.
pub record Ledger (told : Option (List Kept)) (bodies : List Kept) (numbers : List ℕ) (s : Spool) : Type 0 where
  pub numbered : AreNumbered 1 bodies
  pub count : s.next ≡ 1 + length bodies
  pub first_ones : numbers ≡ range_with_len 1 (length numbers)
  pub held : s.held + length numbers ≡ length bodies
  pub rows : s.rows ≡ option_map (λ _. drop (length numbers) bodies) told

-- what is told of a list stays told
mapped : (told : Option (List Kept)) (change : List Kept → List Kept) (old new : List Kept) → change old ≡ new
    → option_map change (option_map (λ _. old) told) ≡ option_map (λ _. new) told
mapped None change old new e = refl
mapped (Some rows) change old new e = ap Some e

ledger_grown : (told : Option (List Kept)) (bodies : List Kept) (numbers : List ℕ) (a b : Spool) (form : Form) (body : List ℕ) (n : ℕ)
    → KeepsRow form body a b n → Ledger told bodies numbers a
    → Ledger told (bodies ++ record { number = n; form = form; body = body } ∷ []) (numbers ++ []) b
ledger_grown told bodies numbers a b form body n keeps ledger =
    let row : Kept = record { number = n; form = form; body = body } in
    let same : numbers ++ [] ≡ numbers = append-nil numbers in
    let long : length (bodies ++ row ∷ []) ≡ length bodies + 1 = length-append bodies (row ∷ []) in
    let held : b.held ≡ a.held + 1 = ap (λ (s : Spool). s.held) keeps.grows in
    let next : b.next ≡ a.next + 1 = ap (λ (s : Spool). s.next) keeps.grows in
    let rows : b.rows ≡ option_map (λ rows. rows ++ row ∷ []) a.rows = ap (λ (s : Spool). s.rows) keeps.grows in
    let within : length numbers ≤ length bodies = omega (arith, ledger.held) in
    rw same (record {
      numbered = numbered_more 1 bodies row ledger.numbered (keeps.number ∙ ledger.count);
      count = omega (arith, ledger.count);
      first_ones = ledger.first_ones;
      held = omega (arith, ledger.held);
      rows = rows ∙ ap (option_map (λ rows. rows ++ row ∷ [])) ledger.rows
          ∙ mapped told (λ rows. rows ++ row ∷ []) (drop (length numbers) bodies) (drop (length numbers) (bodies ++ row ∷ []))
          (sym (drop-append-le (length numbers) bodies (row ∷ []) within));
    })

ledger_shrunk : (told : Option (List Kept)) (bodies : List Kept) (numbers : List ℕ) (a b : Spool) (n : ℕ)
    → DropsRow n a b → Ledger told bodies numbers a → Ledger told (bodies ++ []) (numbers ++ n ∷ []) b
ledger_shrunk told bodies numbers a b n drops ledger =
    let same : bodies ++ [] ≡ bodies = append-nil bodies in
    let long : length (numbers ++ n ∷ []) ≡ length numbers + 1 = length-append numbers (n ∷ []) in
    let held : b.held ≡ a.held - 1 = ap (λ (s : Spool). s.held) drops.shrinks in
    let next : b.next ≡ a.next = ap (λ (s : Spool). s.next) drops.shrinks in
    let rows : b.rows ≡ option_map (drop 1) a.rows = ap (λ (s : Spool). s.rows) drops.shrinks in
    let number : n ≡ 1 + length numbers = omega (arith, drops.is_first, drops.some, ledger.count, ledger.held) in
    rw same (record {
      numbered = ledger.numbered;
      count = omega (arith, ledger.count);
      first_ones = ap (λ l. l ++ n ∷ []) ledger.first_ones ∙ ap (λ m. range_with_len 1 (length numbers) ++ m ∷ []) number
          ∙ sym (range_more 1 (length numbers)) ∙ ap (range_with_len 1) (sym long);
      held = omega (arith, ledger.held, drops.some);
      rows = rows ∙ ap (option_map (drop 1)) ledger.rows
          ∙ mapped told (drop 1) (drop (length numbers) bodies) (drop (length (numbers ++ n ∷ [])) bodies)
          (drop-drop 1 (length numbers) bodies ∙ ap (λ k. drop k bodies) (sym long));
    })

ledger_stays : (told : Option (List Kept)) (bodies : List Kept) (numbers : List ℕ) (a b : Spool) (count : ℕ)
    → b ≡ stays a count → Ledger told bodies numbers a → Ledger told (bodies ++ []) (numbers ++ []) b
ledger_stays told bodies numbers a b count e ledger =
    let held : b.held ≡ a.held = ap (λ (s : Spool). s.held) e in
    let next : b.next ≡ a.next = ap (λ (s : Spool). s.next) e in
    let rows : b.rows ≡ a.rows = ap (λ (s : Spool). s.rows) e in
    rw (append-nil bodies) (rw (append-nil numbers) (record {
      numbered = ledger.numbered;
      count = next ∙ ledger.count;
      first_ones = ledger.first_ones;
      held = omega (arith, ledger.held);
      rows = rows ∙ ledger.rows;
    }))

ledger_more : (told : Option (List Kept)) (bodies : List Kept) (numbers : List ℕ) (order : Order) (reply : Reply) (a b : Spool)
    → Answers order reply a b → Ledger told bodies numbers a
    → Ledger told (bodies ++ option_to_list (body_of order reply)) (numbers ++ option_to_list (number_of order reply)) b
ledger_more told bodies numbers (orders.Keep form body) (replies.Kept n) a b h l = ledger_grown told bodies numbers a b form body n h l
ledger_more told bodies numbers (orders.Keep form body) replies.Full a b h l = ledger_stays told bodies numbers a b b.faults h.1 l
ledger_more told bodies numbers (orders.Keep form body) replies.Spent a b h l = ledger_stays told bodies numbers a b b.faults h.2 l
ledger_more told bodies numbers (orders.Keep form body) (replies.First row) a b h l = absurd h
ledger_more told bodies numbers (orders.Keep form body) (replies.Dropped gone) a b h l = absurd h
ledger_more told bodies numbers orders.First (replies.Kept n) a b h l = absurd h
ledger_more told bodies numbers orders.First replies.Full a b h l = absurd h
ledger_more told bodies numbers orders.First replies.Spent a b h l = absurd h
ledger_more told bodies numbers orders.First (replies.First None) a b h l = ledger_stays told bodies numbers a b b.faults h.1 l
ledger_more told bodies numbers orders.First (replies.First (Some row)) a b h l = ledger_stays told bodies numbers a b b.faults h.1 l
ledger_more told bodies numbers orders.First (replies.Dropped gone) a b h l = absurd h
ledger_more told bodies numbers (orders.Drop n) (replies.Kept m) a b h l = absurd h
ledger_more told bodies numbers (orders.Drop n) replies.Full a b h l = absurd h
ledger_more told bodies numbers (orders.Drop n) replies.Spent a b h l = absurd h
ledger_more told bodies numbers (orders.Drop n) (replies.First row) a b h l = absurd h
ledger_more told bodies numbers (orders.Drop n) (replies.Dropped true) a b h l = ledger_shrunk told bodies numbers a b n h l
ledger_more told bodies numbers (orders.Drop n) (replies.Dropped false) a b h l = ledger_stays told bodies numbers a b b.faults h.1 l

ledger_runs : (told : Option (List Kept)) (bodies : List Kept) (numbers : List ℕ) (orders : List Order) (replies : List Reply) (a b : Spool)
    → Runs orders replies a b → Ledger told bodies numbers a
    → Ledger told (bodies ++ accepted orders replies) (numbers ++ acknowledged orders replies) b
ledger_runs told bodies numbers [] [] a b runs ledger = ledger_stays told bodies numbers a b a.faults runs ledger
ledger_runs told bodies numbers [] (reply ∷ replies) a b runs ledger = absurd runs
ledger_runs told bodies numbers (order ∷ orders) [] a b runs ledger = absurd runs
ledger_runs told bodies numbers (order ∷ orders) (reply ∷ replies) a b runs ledger =
    let first = ledger_more told bodies numbers order reply a runs.0 runs.1 ledger in
    let later = ledger_runs told (bodies ++ option_to_list (body_of order reply)) (numbers ++ option_to_list (number_of order reply)) orders replies runs.0 b runs.3 first in
    subst (λ l. Ledger told l (numbers ++ acknowledged (order ∷ orders) (reply ∷ replies)) b) (append_assoc bodies (option_to_list (body_of order reply)) (accepted orders replies))
    (subst (λ l. Ledger told (bodies ++ option_to_list (body_of order reply) ++ accepted orders replies) l b) (append_assoc numbers (option_to_list (number_of order reply)) (acknowledged orders replies)) later)

-- no row is told, or none is there
none_told : (rows : Option (List Kept)) → IfSome rows (λ rows. rows ≡ []) → rows ≡ option_map (λ _. []) rows
none_told None h = refl
none_told (Some rows) h = ap Some h

pub left_over : (orders : List Order) (replies : List Reply) (before now : Spool) → IsEmpty before → Runs orders replies before now
    → Leaves orders replies before now
left_over orders replies before now empty runs =
    let first : Ledger before.rows [] [] before = record {
      numbered = tt;
      count = empty.next;
      first_ones = refl;
      held = omega (arith, empty.held);
      rows = none_told before.rows empty.rows;
    } in
    let last : Ledger before.rows (accepted orders replies) (acknowledged orders replies) now = ledger_runs before.rows [] [] orders replies before now runs first in
    let count : length (acknowledged orders replies) ≡ now.next - now.held - 1 = omega (arith, last.count, last.held) in
    let rest : left orders replies ≡ drop (length (acknowledged orders replies)) (accepted orders replies) =
    ap (λ numbers. filter (is_not_among numbers) (accepted orders replies)) last.first_ones
    ∙ left_rows (length (acknowledged orders replies)) (accepted orders replies) last.numbered in
    record {
      rows = last.rows ∙ ap (λ rows. option_map (λ _. rows) before.rows) (sym rest);
      acknowledged = last.first_ones ∙ ap (range_with_len 1) count;
    }

-- the same where the next call left it as it was
pub left_stays : (orders : List Order) (replies : List Reply) (before between now : Spool) (count : ℕ) → now ≡ stays between count
    → Leaves orders replies before between → Leaves orders replies before now
left_stays orders replies before between now count e leaves =
    let held : now.held ≡ between.held = ap (λ (s : Spool). s.held) e in
    let next : now.next ≡ between.next = ap (λ (s : Spool). s.next) e in
    let rows : now.rows ≡ between.rows = ap (λ (s : Spool). s.rows) e in
    record { rows = rows ∙ leaves.rows; acknowledged = rw held (rw next leaves.acknowledged) }

-- what a stop leaves
pub left_stopped : (orders : List Order) (before now : Spool) (halted : Halted) → IsEmpty before → Stops orders before now halted
    → Leaves (take halted.done orders) halted.replies before now
left_stopped orders before now halted empty stops =
    left_stays (take halted.done orders) halted.replies before stops.between now now.faults stops.stays
    (left_over (take halted.done orders) halted.replies before stops.between empty stops.runs)

-- before the first order
pub stopped_first : (orders : List Order) (s : Spool) (halted : Halted) → halted.done ≡ 0 → halted.replies ≡ [] → halted.failed ≡ false → Stops orders s s halted
stopped_first orders s halted done replies failed = record {
  within = rw done (omega arith);
  between = s;
  runs = rw done (rw replies refl);
  stays = refl;
  counted = omega arith;
  failed = rw failed (λ h. absurd (let e : false ≡ true = h in cc));
  quiet = λ _. refl;
}

-- Behind some orders memory was wanted, or the keeper failed.
pub stopped_at : (orders : List Order) (replies : List Reply) (i : ℕ) (a b c : Spool) (halted : Halted) → Runs (take i orders) replies a b → i ≤ length orders
    → c ≡ b → halted.done ≡ i → halted.replies ≡ replies → halted.failed ≡ false → Stops orders a c halted
stopped_at orders replies i a b c halted runs within same done given failed = record {
  within = rw done within;
  between = b;
  runs = rw done (rw given runs);
  stays = rw same refl;
  counted = rw same (omega arith);
  failed = rw failed (λ h. absurd (let e : false ≡ true = h in cc));
  quiet = λ _. ap (λ (s : Spool). s.faults) same;
}

pub failed_at : (orders : List Order) (replies : List Reply) (i : ℕ) (a b c : Spool) (halted : Halted) → Runs (take i orders) replies a b → i ≤ length orders
    → Halts b c faults.Failed → b.faults ≤ c.faults → halted.done ≡ i → halted.replies ≡ replies → halted.failed ≡ true → Stops orders a c halted
failed_at orders replies i a b c halted runs within halts counted done given failed = record {
  within = rw done within;
  between = b;
  runs = rw done (rw given runs);
  stays = halts.1;
  counted = counted;
  failed = λ _. halts.0;
  quiet = rw failed (λ h. absurd (let e : true ≡ false = h in cc));
}

-- the same of how a halt is told by its replies
pub halted_first : (orders : List Order) (s : Spool) (halted : Halted) (items : List Reply) → halted ≡ record { done = length items; replies = items; failed = false }
    → items ≡ [] → Stops orders s s halted
halted_first orders s halted items e none =
    stopped_first orders s halted (ap (λ (h : Halted). h.done) e ∙ ap length none) (ap (λ (h : Halted). h.replies) e ∙ none) (ap (λ (h : Halted). h.failed) e)

pub halted_at : (orders : List Order) (items : List Reply) (i : ℕ) (a b c : Spool) (fault : KeepFault) (halted : Halted)
    → halted ≡ record { done = length items; replies = items; failed = false } → length items ≡ i → i ≤ length orders
    → Runs (take i orders) items a b → fault ≡ faults.OutOfMemory → Halts b c fault → Stops orders a c halted
halted_at orders items i a b c fault halted e filled within runs is_memory halts =
    stopped_at orders items i a b c halted runs within (subst (λ (f : KeepFault). Halts b c f) is_memory halts)
    (ap (λ (h : Halted). h.done) e ∙ filled) (ap (λ (h : Halted). h.replies) e) (ap (λ (h : Halted). h.failed) e)

pub halted_failed : (orders : List Order) (items : List Reply) (i : ℕ) (a b c : Spool) (fault : KeepFault) (halted : Halted)
    → halted ≡ record { done = length items; replies = items; failed = true } → length items ≡ i → i ≤ length orders
    → Runs (take i orders) items a b → fault ≡ faults.Failed → Halts b c fault → b.faults ≤ c.faults → Stops orders a c halted
halted_failed orders items i a b c fault halted e filled within runs is_failed halts counted =
    failed_at orders items i a b c halted runs within (subst (λ (f : KeepFault). Halts b c f) is_failed halts) counted
    (ap (λ (h : Halted). h.done) e ∙ filled) (ap (λ (h : Halted). h.replies) e) (ap (λ (h : Halted). h.failed) e)
