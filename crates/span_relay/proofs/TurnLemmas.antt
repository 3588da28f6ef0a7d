-- What rounds make of a spool and of a wire, one after the other.
use Rattle.std.proofs.Common.{◌≡◌, ℕ, ◌+◌, ◌<◌, ◌≤◌, List, [], ◌∷◌, ◌++◌, drop, length, Option, Some, None, Result, Ok, Err, refl, sym, ap, subst, ◌∙◌, inr, arith, append_assoc, append-nil}
use Rattle.std.proofs.lemmas.List.{drop-drop, drop_at, length-map}
use Rattle.std.specs.Prelude.{option_map, option_to_list}
use Rattle.span_io.specs.Outside.{Rose}
use Rattle.span_io.specs.declared.form.Form.{Form}
use Rattle.span_spool.specs.Spools.{Spool}
use Rattle.span_spool.specs.declared.kept.Kept.{Kept}
use Rattle.span_relay.specs.Forwards.{CountsFlow, Delivery, LosesRows, SendsOn, rows_of, sent_to}
use Rattle.span_relay.specs.Peers.{SendsMore, Wire}
use Rattle.span_relay.specs.RelayConnections.{kept_rows, outcomes_in, refused_from}
use Rattle.span_relay.specs.RelayRuns.{AreTurns, IsTurn, LeavesFor, RoseBy, SendsAfter, Turn, TurnsMake, answered, gone_in, halted, keeper_causes, keeper_failed, keeper_failures, kept_in, many, most_sent, peer_causes, peer_failed, peer_failures, sent_in}
use Rattle.span_relay.specs.declared.connection.RelayFault.{RelayFault}
use Rattle.span_relay.specs.declared.connection.Served.{Served}
use Rattle.span_relay.specs.declared.forwarding.Flow.{Flow}
use Rattle.span_relay.specs.declared.forwarding.Flow.TheVariants as flows
use Rattle.span_relay.specs.declared.forwarding.FlowFault.{FlowFault}
use Rattle.span_relay.specs.declared.forwarding.FlowFault.TheVariants as faults
use Rattle.span_relay.proofs.ForwardLemmas.{loses_nothing, sends_more, sends_nothing}

-- ---- counts

pub rose_none : (a : ℕ) → RoseBy a a 0
rose_none a = omega arith

rose_kept : (a b : ℕ) → a ≤ b → RoseBy a b 0
rose_kept a b le = omega (arith, le)

rose_once : (a b : ℕ) → Rose a b → RoseBy a b 1
rose_once a b rose = rose

rose_both : (a b c n m : ℕ) → RoseBy a b n → RoseBy b c m → RoseBy a c (n + m)
rose_both a b c n m first second = omega (arith, first, second)

-- ---- one round

module _ (peer : List ℕ) (ended : Result Served RelayFault) (gone : List Delivery) (more : Option Delivery) (a b : Spool) (x y : Wire) where
  loses_after : (flow : Option (Result Flow FlowFault)) → SendsAfter peer ended flow gone more a b x y → LosesRows a.rows b.rows (rows_of gone)
  loses_after None sends =
      subst (λ (l : List Delivery). LosesRows a.rows b.rows (rows_of l)) (sym sends.none)
      (subst (λ (s : Spool). LosesRows a.rows s.rows []) (sym sends.spool) (loses_nothing a.rows))
  loses_after (Some answer) sends = sends.sends.leave.rows

  sent_after : (flow : Option (Result Flow FlowFault)) → SendsAfter peer ended flow gone more a b x y
      → SendsMore (sent_to peer (gone ++ option_to_list more)) x y
  sent_after None sends =
      subst (λ (l : List Delivery). SendsMore (sent_to peer (l ++ option_to_list more)) x y) (sym sends.none)
      (subst (λ (o : Option Delivery). SendsMore (sent_to peer ([] ++ option_to_list o)) x y) (sym sends.no_more)
      (subst (λ (w : Wire). SendsMore [] x w) (sym sends.wire) (sends_nothing x.sent)))
  sent_after (Some answer) sends = sends.sends.sent

  pub leaves_for : (answer : Result Flow FlowFault) → SendsOn peer most_sent answer gone more a b x y → 0 < b.held → LeavesFor (Some answer) gone more
  leaves_for (Ok flows.Empty) sends some = absurd (omega (arith, some, sends.ends.1))
  leaves_for (Ok (flows.Held status)) sends some =
      answered sends.ends.delivery sends.ends.is_last (ap (λ (n : ℕ). Some (Ok (flows.Held n))) (sym sends.ends.is_status))
  leaves_for (Ok flows.Spent) sends some = many (sends.spent refl)
  leaves_for (Err faults.Keeper) sends some = keeper_failed refl
  leaves_for (Err faults.Peer) sends some = peer_failed refl
  leaves_for (Err faults.OutOfMemory) sends some = halted (inr refl)

  pub keeper_rose : (answer : Result Flow FlowFault) → CountsFlow answer a b x y → a.faults ≤ b.faults → RoseBy a.faults b.faults (keeper_failures (Some answer))
  keeper_rose (Ok flow) counts le = rose_kept a.faults b.faults le
  keeper_rose (Err faults.Keeper) counts le = rose_once a.faults b.faults counts
  keeper_rose (Err faults.Peer) counts le = rose_kept a.faults b.faults le
  keeper_rose (Err faults.OutOfMemory) counts le = rose_kept a.faults b.faults le

  pub peer_rose : (answer : Result Flow FlowFault) → CountsFlow answer a b x y → x.faults ≤ y.faults → RoseBy x.faults y.faults (peer_failures (Some answer))
  peer_rose (Ok flow) counts le = rose_kept x.faults y.faults le
  peer_rose (Err faults.Keeper) counts le = rose_kept x.faults y.faults le
  peer_rose (Err faults.Peer) counts le = rose_once x.faults y.faults counts
  peer_rose (Err faults.OutOfMemory) counts le = rose_kept x.faults y.faults le

-- ---- one after the other

-- rows that some join and the first leave, and others then likewise
rows_step : (rows kept gone others more : List Kept) (n : ℕ) → rows ++ kept ≡ gone ++ others
    → drop (length gone + n) (rows ++ (kept ++ more)) ≡ drop n (others ++ more)
rows_step rows kept gone others more n parts =
    sym (drop-drop n (length gone) (rows ++ (kept ++ more)))
    ∙ ap (λ (l : List Kept). drop n (drop (length gone) l)) (sym (append_assoc rows kept more) ∙ ap (λ (l : List Kept). l ++ more) parts ∙ append_assoc gone others more)
    ∙ ap (drop n) (drop_at gone (others ++ more) (length gone) refl)

rows_both : (first between last now : Option (List Kept)) (kept gone more : List Kept) (n : ℕ) → between ≡ option_map (λ rows. rows ++ kept) first
    → LosesRows between last gone → now ≡ option_map (λ rows. drop n (rows ++ more)) last
    → now ≡ option_map (λ rows. drop (length gone + n) (rows ++ (kept ++ more))) first
rows_both None between last now kept gone more n joined loses then =
    then ∙ ap (option_map (λ rows. drop n (rows ++ more))) (subst (λ (o : Option (List Kept)). LosesRows o last gone) joined loses)
rows_both (Some rows) between last now kept gone more n joined loses then =
    let p : LosesRows (Some (rows ++ kept)) last gone = subst (λ (o : Option (List Kept)). LosesRows o last gone) joined loses in
    then ∙ ap (option_map (λ rows. drop n (rows ++ more))) p.2
    ∙ ap (λ (l : List Kept). Some l) (sym (rows_step rows kept gone p.0 more n p.1))

rows_none : (rows : Option (List Kept)) → rows ≡ option_map (λ rows. drop 0 (rows ++ [])) rows
rows_none None = refl
rows_none (Some rows) = ap (λ (l : List Kept). Some l) (sym (append-nil rows))

module _ (to : Form) (peer : List ℕ) where
  make_rows : (turns : List Turn) (a b : Spool) (x y : Wire) → AreTurns to peer turns a b x y
      → b.rows ≡ option_map (λ rows. drop (gone_in turns) (rows ++ kept_in turns)) a.rows
  make_rows [] a b x y are = ap (λ (s : Spool). s.rows) are.0 ∙ rows_none a.rows
  make_rows (t ∷ turns) a b x y are =
      let is = are.0 in
      let kept : t.between.rows ≡ option_map (λ rows. rows ++ t.kept) a.rows =
      subst (λ (k : List Kept). t.between.rows ≡ option_map (λ rows. rows ++ k) a.rows) (sym is.serves.is_kept)
      (is.serves.adds.rows ∙ ap (λ (s : Spool). option_map (λ rows. rows ++ kept_rows to t.first.next is.serves.adds.offers) s.rows) are.1) in
      subst (λ (n : ℕ). b.rows ≡ option_map (λ rows. drop (n + gone_in turns) (rows ++ (t.kept ++ kept_in turns))) a.rows) (length-map t.gone _)
      (rows_both a.rows t.between.rows t.last.rows b.rows t.kept (rows_of t.gone) (kept_in turns) (gone_in turns) kept
      (loses_after peer t.ended t.gone t.more t.between t.last t.wire_first t.wire_last t.flow is.sends) (make_rows turns t.last b t.wire_last y are.3))

  make_sent : (turns : List Turn) (a b : Spool) (x y : Wire) → AreTurns to peer turns a b x y → SendsMore (sent_in peer turns) x y
  make_sent [] a b x y are = subst (λ (w : Wire). SendsMore [] x w) (sym are.1) (sends_nothing x.sent)
  make_sent (t ∷ turns) a b x y are =
      sends_more x.sent t.wire_last.sent y.sent (sent_to peer (t.gone ++ option_to_list t.more)) (sent_in peer turns)
      (subst (λ (w : Wire). SendsMore (sent_to peer (t.gone ++ option_to_list t.more)) w t.wire_last) are.2
      (sent_after peer t.ended t.gone t.more t.between t.last t.wire_first t.wire_last t.flow are.0.sends))
      (make_sent turns t.last b t.wire_last y are.3)

  make_keeper : (turns : List Turn) (a b : Spool) (x y : Wire) → AreTurns to peer turns a b x y → RoseBy a.faults b.faults (keeper_causes turns)
  make_keeper [] a b x y are = subst (λ (s : Spool). RoseBy a.faults s.faults 0) (sym are.0) (rose_none a.faults)
  make_keeper (t ∷ turns) a b x y are =
      let here : RoseBy a.faults t.between.faults (refused_from t.first 0 (outcomes_in t.ended)) =
      subst (λ (s : Spool). RoseBy s.faults t.between.faults (refused_from t.first 0 (outcomes_in t.ended))) are.1 are.0.serves.refused in
      rose_both a.faults t.last.faults b.faults (refused_from t.first 0 (outcomes_in t.ended) + keeper_failures t.flow) (keeper_causes turns)
      (rose_both a.faults t.between.faults t.last.faults (refused_from t.first 0 (outcomes_in t.ended)) (keeper_failures t.flow) here are.0.keeper_counts)
      (make_keeper turns t.last b t.wire_last y are.3)

  make_peer : (turns : List Turn) (a b : Spool) (x y : Wire) → AreTurns to peer turns a b x y → RoseBy x.faults y.faults (peer_causes turns)
  make_peer [] a b x y are = subst (λ (w : Wire). RoseBy x.faults w.faults 0) (sym are.1) (rose_none x.faults)
  make_peer (t ∷ turns) a b x y are =
      rose_both x.faults t.wire_last.faults y.faults (peer_failures t.flow) (peer_causes turns)
      (subst (λ (w : Wire). RoseBy w.faults t.wire_last.faults (peer_failures t.flow)) are.2 are.0.peer_counts)
      (make_peer turns t.last b t.wire_last y are.3)

  pub turns_make : (turns : List Turn) (a b : Spool) (x y : Wire) → AreTurns to peer turns a b x y → TurnsMake peer turns a b x y
  turns_make turns a b x y are = record {
    rows = make_rows turns a b x y are;
    sent = make_sent turns a b x y are;
    keeper_counts = make_keeper turns a b x y are;
    peer_counts = make_peer turns a b x y are;
  }

  pub turns_more : (turns : List Turn) (a b : Spool) (x y : Wire) (turn : Turn) → AreTurns to peer turns a b x y → IsTurn to peer turn → turn.first ≡ b
      → turn.wire_first ≡ y → AreTurns to peer (turns ++ turn ∷ []) a turn.last x turn.wire_last
  turns_more [] a b x y turn are is first wire = (is, first ∙ are.0, wire ∙ are.1, (refl, refl))
  turns_more (t ∷ turns) a b x y turn are is first wire =
      (are.0, are.1, are.2, turns_more turns t.last b t.wire_last y turn are.3 is first wire)
