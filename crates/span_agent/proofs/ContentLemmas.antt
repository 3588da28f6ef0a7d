-- The batch of a message has no cause but those of its content: it is a whole struct, and the limits have room for it.
use Rattle.std.proofs.Common.{◌≡◌, ◌≤◌, ◌⊎◌, ◌&&◌, ◌++◌, ◌∷◌, inl, inr, ℕ, ℤ, pos, Bool, true, false, Option, List, [], length, take, if◌then◌else◌, Result, Ok, Err, refl, ap, sym, ◌∙◌, subst, arith}
use Rattle.std.proofs.lemmas.List.{length-append, append-nil, take_all}
use Rattle.span_io.specs.Causes.{cause_number}
use Rattle.span_io.specs.declared.cause.Cause.{Cause}
use Rattle.span_io.specs.declared.limits.Limits.{Limits}
use Rattle.span_io.specs.declared.refusal.Refusal.{Refusal}
use Rattle.span_io.specs.Frames.{Framing, BeginsFrame, NeedsMore, ItemsThen}
use Rattle.span_io.specs.Framings.{OneFraming, OneStep}
use Rattle.span_io.specs.Offences.{Least}
use Rattle.span_io.specs.Steps.{NoFrame}
use Rattle.thrift_core.specs.declared.type_code.TypeCode.{TypeCode}
use Rattle.thrift_core.specs.declared.type_code.TypeCode.TheVariants as kinds
use Rattle.thrift_core.specs.FieldValues.{has_id}
use Rattle.thrift_core.proofs.OneReading.{of_kind}
use Rattle.thrift_core.specs.Parts.{Part, Spelling}
use Rattle.thrift_core.specs.Trees.{Tree, ValueThen, all_levels}
use Rattle.thrift_core.specs.Values.{BeginsValue}
use Rattle.thrift_core.specs.Walks.{outer_struct, WholeOf}
use Rattle.trace_model.specs.OtlpParts.{NotedGroup}
use Rattle.jaeger_model.specs.StatedLaws.{BatchOffends}
use Rattle.span_convert.specs.BatchFiles.{ProtocolWords, batches, RefusedBatch}
use Rattle.span_convert.specs.FramedForms.{UnitsRefused, UnitOffends, RestStops, RestCause}
use Rattle.span_convert.specs.OneBatches.{IsOneBatch}
use Rattle.span_convert.specs.Rests.{StopsRest}
use Rattle.span_convert.specs.Units.{batch_form}
use Rattle.span_agent.specs.Arguments.{Argument, ArgumentsThen, batches_of, is_struct}
use Rattle.span_agent.specs.Headers.{HeaderThen, CompactHeader, BinaryHeader}
use Rattle.span_agent.specs.Messages.{told_by, IsMessage, TellsBatch, TellsBatchIn}
use Rattle.span_agent.specs.Contents.{batch_words}
use Rattle.span_agent.specs.Pieces as pieces
use Rattle.span_agent.specs.declared.message.AgentCause.{AgentCause}
use Rattle.span_agent.specs.declared.message.AgentCause.TheVariants as causes

-- ---- an input that is one batch

last_is : (before : List (List ℕ)) (unit batch : List ℕ) → before ++ unit ∷ [] ≡ batch ∷ [] → unit ≡ batch
last_is [] unit batch e = cc
last_is (b ∷ []) unit batch e = cc
last_is (b ∷ c ∷ more) unit batch e = cc

never_none : (before : List (List ℕ)) (unit : List ℕ) → before ++ unit ∷ [] ≡ [] → ⊥
never_none [] unit e = cc
never_none (b ∷ more) unit e = cc

module _ (protocol : ProtocolWords) (one : OneStep (batches protocol) (RefusedBatch protocol)) (framing : OneFraming (batches protocol) (RefusedBatch protocol))
    (limits : Limits) (some : 1 ≤ limits.unit) (batch : List ℕ) (whole : (batches protocol).Whole batch) (small : length batch ≤ limits.unit) (fits : length batch ≤ limits.binary) where
  abbrev F : Framing
  F = batches protocol

  empty : NeedsMore F limits.unit []
  empty = one.empty limits.unit some

  begins : BeginsFrame F limits.unit (length batch) batch
  begins = record { text = batch; rest = []; whole = whole; parts = sym (append-nil batch); size = refl; within = small }

  -- no batch begins nothing
  none_begins : (item behind : List ℕ) → F.Whole item → length item ≤ limits.unit → [] ≡ item ++ behind → ⊥
  none_begins item behind is within e =
      one.open_frame limits.unit (length item) [] empty (record { text = item; rest = behind; whole = is; parts = e; size = refl; within = within })

  no_more : (items : List (List ℕ)) (rest : List ℕ) → ItemsThen F limits.unit items rest [] → (items ≡ []) × (rest ≡ [])
  unfolding ItemsThen
  no_more [] rest h = (refl, sym h)
  no_more (item ∷ items) rest h = absurd (none_begins item h.2 h.0 h.1 h.3)

  alone : ItemsThen F limits.unit (batch ∷ []) [] batch
  unfolding ItemsThen
  alone = (whole, small, [], sym (append-nil batch), refl)

  nothing_behind : (more others : List (List ℕ)) (item : List ℕ) → batch ∷ [] ≡ (item ∷ more) ++ others → (item ∷ more ≡ batch ∷ []) × (others ≡ [])
  nothing_behind [] [] item e = (sym e, refl)
  nothing_behind [] (o ∷ others) item e = cc
  nothing_behind (m ∷ more) others item e = cc

  -- of it nothing is read, or all
  of_walk : (items : List (List ℕ)) (rest : List ℕ) → ItemsThen F limits.unit items rest batch → ((items ≡ []) × (rest ≡ batch)) ⊎ ((items ≡ batch ∷ []) × (rest ≡ []))
  unfolding ItemsThen
  of_walk [] rest h = inl (refl, sym h)
  of_walk (item ∷ more) rest h = elim (framing.walks limits.unit batch [] rest (batch ∷ []) (item ∷ more) alone h) [
    | inl g ↦ (let none = no_more g.more rest g.items_then in inr (g.parts ∙ ap (λ (l : List (List ℕ)). batch ∷ l) none.0, none.1))
    | inr g ↦ (let is = nothing_behind more g.more item g.parts in inr (is.0, sym (nothing_then g.more rest is.1 g.items_then)))
  ]
    where
      nothing_then : (others : List (List ℕ)) (rest : List ℕ) → others ≡ [] → ItemsThen F limits.unit others [] rest → [] ≡ rest
      nothing_then [] rest e h = sym h
      nothing_then (o ∷ others) rest e h = cc

  all_taken : take limits.binary batch ≡ batch
  all_taken = take_all limits.binary batch fits

  stops_never : (rest : List ℕ) (cause : Cause) → (rest ≡ batch) ⊎ (rest ≡ []) → RestCause (batch_form protocol) limits (length batch) rest cause → ⊥
  stops_never rest cause (inl e) (inl h) =
      one.no_frame limits.unit (length batch) batch cause (subst (λ l. NoFrame F (RefusedBatch protocol) limits.unit l cause) e h) begins
  stops_never rest cause (inl e) (inr h) =
      one.open_frame limits.unit (length batch) batch (subst (λ l. NeedsMore F limits.unit l) e h.0) begins
  stops_never rest cause (inr e) (inl h) =
      one.open_refused limits.unit [] cause empty (subst (λ l. NoFrame F (RefusedBatch protocol) limits.unit l cause) e h)
  stops_never rest cause (inr e) (inr (needs, inl long)) = absurd (omega (arith, long.1, fits))
  stops_never rest cause (inr e) (inr (needs, inr short)) = short.2 e

  -- so what refuses it is what counts in it
  pub content : (noted : List NotedGroup) (refusal : Refusal) → UnitsRefused (batch_form protocol) limits batch noted refusal
      → Least (BatchOffends protocol.spells batch) (cause_number refusal.cause)
  content noted refusal h = by h.why
    where
      offends : UnitOffends (batch_form protocol) limits batch noted refusal.cause → Least (BatchOffends protocol.spells batch) (cause_number refusal.cause)
      offends o = elim (of_walk (o.before ++ o.unit ∷ []) o.rest (subst (λ l. ItemsThen F limits.unit (o.before ++ o.unit ∷ []) o.rest l) all_taken o.held)) [
        | inl w ↦ absurd (never_none o.before o.unit w.0)
        | inr w ↦ subst (λ l. Least (BatchOffends protocol.spells l) (cause_number refusal.cause)) (last_is o.before o.unit batch w.0) o.least
      ]

      stops : RestStops (batch_form protocol) limits batch noted refusal.cause → ⊥
      stops r = elim (of_walk r.units_then.units r.rest (subst (λ l. ItemsThen F limits.unit r.units_then.units r.rest l) all_taken r.units_then.held)) [
        | inl w ↦ stops_never r.rest refusal.cause (inl w.1) r.why
        | inr w ↦ stops_never r.rest refusal.cause (inr w.1) r.why
      ]

      by : UnitOffends (batch_form protocol) limits batch noted refusal.cause ⊎ RestStops (batch_form protocol) limits batch noted refusal.cause
          → Least (BatchOffends protocol.spells batch) (cause_number refusal.cause)
      by (inl o) = offends o
      by (inr r) = absurd (stops r)

-- ---- the batch of a message is one

told_one : (batches : List (List ℕ)) (behind batch : List ℕ) → ◌≡◌ {A = Result (List ℕ) AgentCause} (Ok batch) (told_by batches behind) → batches ≡ batch ∷ []
told_one [] [] batch e = cc
told_one [] (byte ∷ behind) batch e = cc
told_one (one ∷ []) [] batch e = (let same : batch ≡ one = cc in ap (λ (l : List ℕ). l ∷ []) (sym same))
told_one (one ∷ []) (byte ∷ behind) batch e = cc
told_one (one ∷ other ∷ more) behind batch e = cc

struct_is : (kind : TypeCode) → is_struct kind ≡ true → kind ≡ kinds.Struct
struct_is kinds.Struct e = refl
struct_is other e = cc

both_true : (a b : Bool) → (a && b) ≡ true → a ≡ true
both_true true b e = refl
both_true false b e = e

module _ (Spells : Spelling) where
  -- a value that is the text of a struct
  pub record StandsAs (batch : List ℕ) (whole : List ℕ) : Type 0 where
    pub held : Option Bool
    pub value : BeginsValue Spells all_levels kinds.Struct held batch []
    pub within : length batch ≤ length whole

  pub batch_stands : (arguments : List Argument) (last : ℤ) (whole rest batch : List ℕ) → ArgumentsThen Spells last arguments whole rest
      → batches_of arguments ≡ batch ∷ [] → StandsAs batch whole
  unfolding ArgumentsThen
  batch_stands [] last whole rest batch h e = cc
  batch_stands (this ∷ more) last whole rest batch h e = by (λ others. batch_stands more this.id h.1 rest batch h.4 others) (is_struct this.kind && has_id 1 this.id) refl
    where
      shorter : length this.text ≤ length whole
      shorter = omega (arith, ap length h.2.parts, length-append h.2.text (this.text ++ h.1), length-append this.text h.1)

      further : length h.1 ≤ length whole
      further = omega (arith, ap length h.2.parts, length-append h.2.text (this.text ++ h.1), length-append this.text h.1)

      by : (batches_of more ≡ batch ∷ [] → StandsAs batch h.1) → (b : Bool) → (is_struct this.kind && has_id 1 this.id) ≡ b → StandsAs batch whole
      by later true is =
          let first : this.text ∷ batches_of more ≡ batch ∷ [] = ap (λ (b : Bool). (if b then this.text ∷ [] else []) ++ batches_of more) (sym is) ∙ e in
          let text : this.text ≡ batch = cc in
          let kind : this.kind ≡ kinds.Struct = struct_is this.kind (both_true (is_struct this.kind) (has_id 1 this.id) is) in
          record {
            held = h.0;
            value = subst (λ k. BeginsValue Spells all_levels k h.0 batch []) kind (subst (λ l. BeginsValue Spells all_levels this.kind h.0 l []) text h.3);
            within = subst (λ l. length l ≤ length whole) text shorter;
          }
      by later false is =
          let others : batches_of more ≡ batch ∷ [] = ap (λ (b : Bool). (if b then this.text ∷ [] else []) ++ batches_of more) (sym is) ∙ e in
          let there = later others in
          record { held = there.held; value = there.value; within = omega (arith, there.within, further) }

  -- it is a struct that no other holds
  pub whole_batch : (held : Option Bool) (batch : List ℕ) → BeginsValue Spells all_levels kinds.Struct held batch [] → WholeOf Spells outer_struct batch
  unfolding ValueThen
  whole_batch held batch h =
      let inner = of_kind h.0 kinds.Struct h.1 in
      (inner.0, subst (λ (t : Tree). ValueThen Spells t all_levels held batch []) inner.1 h.2)

-- ---- in a datagram

compact_shorter : (name datagram bytes : List ℕ) → CompactHeader name datagram bytes → length bytes ≤ length datagram
compact_shorter name datagram bytes h = omega (
  arith,
  ap length h.begins,
  ap length h.sequence_then.parts,
  ap length h.name_then.size_then.parts,
  ap length h.name_then.name_then.1,
  length-append h.sequence_then.text h.sized,
  length-append h.name_then.size_then.text h.name_then.named,
  length-append name bytes,
)

binary_shorter : (name datagram bytes : List ℕ) → BinaryHeader name datagram bytes → length bytes ≤ length datagram
binary_shorter name datagram bytes h = omega (
  arith,
  ap length h.begins,
  ap length h.name_then.1.parts,
  ap length h.name_then.2,
  ap length h.sequence_then.2,
  length-append h.name_then.1.text h.name_then.0,
  length-append name h.numbered,
  length-append h.sequence_then.0 bytes,
)

header_shorter : (compact : Bool) (name datagram bytes : List ℕ) → HeaderThen compact name datagram bytes → length bytes ≤ length datagram
header_shorter true name datagram bytes h = compact_shorter name datagram bytes h
header_shorter false name datagram bytes h = binary_shorter name datagram bytes h

told_stands : (Spells : Spelling) (ThenVarint : Part → List ℕ → Type 0) (Refuses : Part → Cause → List ℕ → Type 0) (bytes batch : List ℕ)
    → TellsBatch Spells ThenVarint Refuses bytes (Ok batch) → StandsAs Spells batch bytes
told_stands Spells ThenVarint Refuses bytes batch (inl h) =
    batch_stands Spells h.arguments (pos 0) bytes h.behind batch h.stand (told_one (batches_of h.arguments) h.behind batch h.told_is)
told_stands Spells ThenVarint Refuses bytes batch (inr h) =
    (let never : ◌≡◌ {A = Result (List ℕ) AgentCause} (Ok batch) (Err (causes.Reading h.cause)) = h.told_is in absurd (cc))

told_in : (compact : Bool) (bytes batch : List ℕ) → TellsBatchIn compact bytes (Ok batch) → StandsAs (batch_words compact).spells batch bytes
told_in true bytes batch h = told_stands _ _ _ bytes batch h
told_in false bytes batch h = told_stands _ _ _ bytes batch h

pub message_stands : (datagram : List ℕ) (compact : Bool) (batch : List ℕ) → IsMessage datagram compact batch → StandsAs (batch_words compact).spells batch datagram
message_stands datagram compact batch h = elim h.tells [
  | inl t ↦ (let there = told_in compact h.bytes batch t.1 in
      record { held = there.held; value = there.value; within = omega (arith, there.within, header_shorter compact h.name datagram h.bytes h.header) })
  | inr t ↦ (let never : ◌≡◌ {A = Result (List ℕ) AgentCause} (Ok batch) (Err causes.BadName) = t.1 in absurd (cc))
]

-- what a protocol keeps
pub record KeepsFrames (protocol : ProtocolWords) : Type 0 where
  pub one : OneStep (batches protocol) (RefusedBatch protocol)
  pub framing : OneFraming (batches protocol) (RefusedBatch protocol)

pub content_of : (protocol : ProtocolWords) → KeepsFrames protocol → (limits : Limits) (datagram batch : List ℕ) (noted : List NotedGroup) (refusal : Refusal)
    → length datagram ≤ 65535 → 65535 ≤ limits.unit → 65535 ≤ limits.binary → StandsAs protocol.spells batch datagram
    → UnitsRefused (batch_form protocol) limits batch noted refusal → Least (BatchOffends protocol.spells batch) (cause_number refusal.cause)
content_of protocol keeps limits datagram batch noted refusal short unit binary stands h =
    content protocol keeps.one keeps.framing limits (omega (arith, unit)) batch (whole_batch protocol.spells stands.held batch stands.value)
    (omega (arith, stands.within, short, unit)) (omega (arith, stands.within, short, binary)) noted refusal h

-- it is an input of its form that is one batch
pub one_batch : (datagram : List ℕ) (compact : Bool) (batch : List ℕ) → IsMessage datagram compact batch → IsOneBatch (pieces.batch_form compact) batch
one_batch datagram true batch h = (let there = message_stands datagram true batch h in whole_batch (batch_words true).spells there.held batch there.value)
one_batch datagram false batch h = (let there = message_stands datagram false batch h in whole_batch (batch_words false).spells there.held batch there.value)

pub batch_within : (datagram : List ℕ) (compact : Bool) (batch : List ℕ) → IsMessage datagram compact batch → length batch ≤ length datagram
batch_within datagram compact batch h = (message_stands datagram compact batch h).within
