-- Bytes as a group: they are a text of one at most, with one list of remarks, and free records added anywhere change nothing.
use Rattle.std.proofs.Common.{◌≡◌, ℕ, ◌⊎◌, inl, inr, List, ap, subst}
use Rattle.std.specs.Prelude.{◌↔◌}
use Rattle.span_io.specs.Causes.{cause_number}
use Rattle.span_io.specs.declared.cause.Cause.{Cause}
use Rattle.span_io.proofs.FreeItemLaws.{SameOffence}
use Rattle.span_io.proofs.OffenceLaws.{one_cause}
use Rattle.span_io.specs.Offences.{Offence, Least}
use Rattle.proto_wire.specs.Messages.{messages}
use Rattle.trace_model.specs.declared.remark.Remark.{Remark}
use Rattle.trace_model.specs.declared.group.Group.{Group}
use Rattle.otlp_proto.specs.Group.{IsGroup, IsGroupText, group_rules, GroupPadded}
use Rattle.trace_model.specs.OtlpParts.{NotedGroup}
use Rattle.otlp_proto.specs.StatedLaws.{ReadingLaws, MessageRules, SomeGroup, FreeAnywhere}
use Rattle.otlp_proto.specs.Rows.{MeansMessage}
use Rattle.otlp_proto.proofs.EventMessage.{event_proof}
use Rattle.otlp_proto.proofs.GroupMessages.{resource_proof, group_proof}
use Rattle.otlp_proto.proofs.LinkMessage.{link_proof}
use Rattle.otlp_proto.proofs.RowDecisions.{Chosen}
use Rattle.otlp_proto.proofs.ScopeMessages.{instrumentation_scope_proof, scope_proof}
use Rattle.otlp_proto.proofs.SpanMessage.{span_proof}
use Rattle.otlp_proto.proofs.StatusMessage.{status_proof}

module _ (K : ReadingLaws) where
  pub message_rules : MessageRules
  message_rules = record {
    status = (status_proof K).rules;
    event = (event_proof K).rules;
    link = (link_proof K).rules;
    span = (span_proof K).rules;
    instrumentation_scope = (instrumentation_scope_proof K).rules;
    scope = (scope_proof K).rules;
    resource = (resource_proof K).rules;
    group = (group_proof K).rules;
  }

  pub group_once : (text : List ℕ) (g h : Group) (r s : List Remark) → IsGroupText g r text → IsGroupText h s text → (g ≡ h) × (r ≡ s)
  group_once text g h r s a b =
      let same = (group_proof K).reads.once text (record { means = g; notes = r }) (record { means = h; notes = s }) a b in
      (ap (λ (m : NotedGroup). m.means) same, ap (λ (m : NotedGroup). m.notes) same)

  pub group_fine : (text : List ℕ) (g : Group) (r : List Remark) → IsGroupText g r text → (place n : ℕ) → Offence messages group_rules text place n → ⊥
  group_fine text g r is = (group_proof K).reads.fine (record { means = g; notes = r }) text is

  pub some_group : SomeGroup
  some_group text = of ((group_proof K).chosen text)
    where
      of : Chosen (MeansMessage IsGroup) (λ held p n. Offence messages group_rules held p n) text
          → ((g : Group) × (r : List Remark) × IsGroupText g r text) ⊎ ((cause : Cause) × Least (Offence messages group_rules text) (cause_number cause))
      of (inl (g, means)) = inl (g.means, g.notes, means)
      of (inr least) = inr least

  -- ---- free records added anywhere

  abbrev SameGroup : List ℕ → List ℕ → Type 0
  SameGroup text other = SameOffence (λ p n. Offence messages group_rules text p n) (λ p n. Offence messages group_rules other p n)

  same_of : (text other : List ℕ) → GroupPadded text other → SameGroup text other
  same_of text other t = (group_proof K).keeps.same text other t

  group_moved : (text other : List ℕ) → GroupPadded text other → (g : Group) (r : List Remark) → IsGroupText g r text → IsGroupText g r other
  group_moved text other t g r is = (group_proof K).keeps.means text other t (record { means = g; notes = r }) is

  -- a group that the padded text means is what the text means
  group_back : (text other : List ℕ) → GroupPadded text other → (g : Group) (r : List Remark) → IsGroupText g r other → IsGroupText g r text
  group_back text other t g r is = of (some_group text)
    where
      never : (n : ℕ) → Least (Offence messages group_rules text) n → SameGroup text other → ⊥
      never n least (inl none) = none.0 least.place n least.offence
      never n least (inr (k, a, b)) = group_fine other g r is b.place k b.offence

      of : ((h : Group) × (s : List Remark) × IsGroupText h s text) ⊎ ((cause : Cause) × Least (Offence messages group_rules text) (cause_number cause)) → IsGroupText g r text
      of (inl (h, s, means)) =
          let one = group_once other h g s r (group_moved text other t h s means) is in
          subst (λ (k : Group). IsGroupText k r text) one.0 (subst (λ (k : List Remark). IsGroupText h k text) one.1 means)
      of (inr (cause, least)) = absurd (never (cause_number cause) least (same_of text other t))

  group_offends : (text other : List ℕ) → GroupPadded text other → (number : ℕ) → Least (Offence messages group_rules text) number ↔ Least (Offence messages group_rules other) number
  group_offends text other t number = of (same_of text other t)
    where
      of : SameGroup text other → Least (Offence messages group_rules text) number ↔ Least (Offence messages group_rules other) number
      of (inl none) = (λ least. absurd (none.0 least.place number least.offence), λ least. absurd (none.1 least.place number least.offence))
      of (inr (k, a, b)) = (
        λ least. subst (λ n. Least (Offence messages group_rules other) n) (one_cause (Offence messages group_rules text) k number a least) b,
        λ least. subst (λ n. Least (Offence messages group_rules text) n) (one_cause (Offence messages group_rules other) k number b least) a,
      )

  pub free_anywhere : FreeAnywhere
  free_anywhere = record { none = (group_proof K).keeps.none; means = λ text other t g r. (group_moved text other t g r, group_back text other t g r); offends = group_offends }
