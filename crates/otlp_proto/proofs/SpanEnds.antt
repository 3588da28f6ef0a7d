-- The end of a span, which has both identifiers.
use Rattle.std.specs.Prelude.{◌↔◌, Any}
use Rattle.std.proofs.Common.{◌≡◌, ◌≢◌, ℕ, ◌⊎◌, inl, inr, List, [], ◌∷◌, length, Option, Some, None, All, refl, sym, subst, ⊎_elim, arith}
use Rattle.std.proofs.lemmas.Bool.{cases_eq}
use Rattle.span_io.specs.declared.cause.Cause.TheVariants as causes
use Rattle.span_io.specs.FreeItems.{GivenPadded}
use Rattle.span_io.proofs.RowLaws.{all_zip_equal, one_number}
use Rattle.span_io.proofs.TableDecisions.{DecidedHere}
use Rattle.span_io.specs.Tables.{Singular}
use Rattle.span_ids.specs.StatedLaws.{IdentifiersReadBack}
use Rattle.proto_wire.specs.Records.{Record}
use Rattle.trace_model.specs.OtlpParts.{IsNoIdentifier}
use Rattle.otlp_proto.specs.Identifiers.{MeansTraceId, MeansSpanId}
use Rattle.otlp_proto.specs.Rows.{bytes_of}
use Rattle.otlp_proto.specs.Span.{span_table, span_padded, span_ends}
use Rattle.otlp_proto.proofs.MessageProofs.{EndProof}
use Rattle.otlp_proto.proofs.RowDecisions.{empty_or}
use Rattle.otlp_proto.proofs.RowMeanings.{trace_id_once, span_id_once, zeros_or, zeros_only}

-- ---- whether an identifier is missing is decided

no_id_or : (size : ℕ) (held : List ℕ) → IsNoIdentifier 0 size held ⊎ (IsNoIdentifier 0 size held → ⊥)
no_id_or size held = of (empty_or held) (cases_eq (length held) size) (zeros_or held)
  where
    never : (held ≡ [] → ⊥) → ((length held ≡ size → ⊥) ⊎ Any (λ b. b ≢ 0) held) → IsNoIdentifier 0 size held → ⊥
    never some other (inl none) = some none
    never some (inl other) (inr zeros) = other zeros.0
    never some (inr any) (inr zeros) = zeros_only held zeros.1 any

    of : (held ≡ []) ⊎ (held ≡ [] → ⊥) → (length held ≡ size) ⊎ (length held ≡ size → ⊥) → All (λ b. b ≡ 0) held ⊎ Any (λ b. b ≢ 0) held → IsNoIdentifier 0 size held ⊎ (IsNoIdentifier 0 size held → ⊥)
    of (inl none) same any = inl (inl none)
    of (inr some) (inl same) (inl zeros) = inl (inr (same, zeros))
    of (inr some) (inl same) (inr any) = inr (never some (inr any))
    of (inr some) (inr other) any = inr (never some (inl other))

no_trace_or : (xs : List (List ℕ)) → Singular MeansTraceId (λ id. id ≡ None) xs None ⊎ (Singular MeansTraceId (λ id. id ≡ None) xs None → ⊥)
no_trace_or [] = inl refl
no_trace_or (x ∷ []) = no_id_or 16 x
no_trace_or (x ∷ y ∷ more) = inr (λ h. h)

no_span_or : (xs : List (List ℕ)) → Singular MeansSpanId (λ id. id ≡ None) xs None ⊎ (Singular MeansSpanId (λ id. id ≡ None) xs None → ⊥)
no_span_or [] = inl refl
no_span_or (x ∷ []) = no_id_or 8 x
no_span_or (x ∷ y ∷ more) = inr (λ h. h)

either : {P Q : Type 0} → P ⊎ (P → ⊥) → Q ⊎ (Q → ⊥) → (P ⊎ Q) ⊎ (P ⊎ Q → ⊥)
either (inl p) q = inl (inl p)
either (inr a) (inl q) = inl (inr q)
either (inr a) (inr b) = inr (λ h. ⊎_elim a b h)

span_end_decided : (seen : List Record) → DecidedHere (λ n. span_ends seen n)
span_end_decided seen =
    one_number causes.BadId (Singular MeansTraceId (λ id. id ≡ None) (bytes_of 1 seen) None ⊎ Singular MeansSpanId (λ id. id ≡ None) (bytes_of 2 seen) None) (either (no_trace_or (bytes_of 1 seen)) (no_span_or (bytes_of 2 seen)))

-- ---- it goes by the rows of the identifiers

-- an identifier is missing where the same records stand
pub ends_moved : (records others : List Record) → bytes_of 1 records ≡ bytes_of 1 others → bytes_of 2 records ≡ bytes_of 2 others
    → Singular MeansTraceId (λ id. id ≡ None) (bytes_of 1 records) None ⊎ Singular MeansSpanId (λ id. id ≡ None) (bytes_of 2 records) None
    → Singular MeansTraceId (λ id. id ≡ None) (bytes_of 1 others) None ⊎ Singular MeansSpanId (λ id. id ≡ None) (bytes_of 2 others) None
ends_moved records others first second (inl none) = inl (subst (λ (l : List (List ℕ)). Singular MeansTraceId (λ id. id ≡ None) l None) first none)
ends_moved records others first second (inr none) = inr (subst (λ (l : List (List ℕ)). Singular MeansSpanId (λ id. id ≡ None) l None) second none)

span_ends_padded : (items others : List Record) → GivenPadded span_table span_padded items others → (n : ℕ) → span_ends items n ↔ span_ends others n
span_ends_padded items others given n =
    let first : bytes_of 1 items ≡ bytes_of 1 others = all_zip_equal (bytes_of 1 items) (bytes_of 1 others) given.0 in
    let second : bytes_of 2 items ≡ bytes_of 2 others = all_zip_equal (bytes_of 2 items) (bytes_of 2 others) given.1.0 in
    (λ bad. (bad.0, ends_moved items others first second bad.1), λ bad. (bad.0, ends_moved others items (sym first) (sym second) bad.1))

pub span_end : EndProof span_table span_padded span_ends 3 12
span_end = record { decided = span_end_decided; moves = span_ends_padded; above = λ seen n e. omega (arith, e.0); below = λ seen n e. omega (arith, e.0) }

-- ---- what the identifiers are

abbrev pub known : Option ℕ → ℕ
known None = 0
known (Some id) = id

pub known_trace : (records : List Record) (id : Option ℕ) → Singular MeansTraceId (λ x. x ≡ None) (bytes_of 1 records) id → ((n : ℕ) → span_ends records n → ⊥) → id ≡ Some (known id)
known_trace records None means clean = absurd (clean 12 (refl, inl means))
known_trace records (Some id) means clean = refl

pub known_span : (records : List Record) (id : Option ℕ) → Singular MeansSpanId (λ x. x ≡ None) (bytes_of 2 records) id → ((n : ℕ) → span_ends records n → ⊥) → id ≡ Some (known id)
known_span records None means clean = absurd (clean 12 (refl, inr means))
known_span records (Some id) means clean = refl

module _ (ids : IdentifiersReadBack) where
  -- where both identifiers are there, the end doesn't offend
  pub span_ends_well : (records : List Record) (trace id : ℕ) → Singular MeansTraceId (λ x. x ≡ None) (bytes_of 1 records) (Some trace) → Singular MeansSpanId (λ x. x ≡ None) (bytes_of 2 records) (Some id)
      → (n : ℕ) → span_ends records n → ⊥
  span_ends_well records trace id has_trace has_id n offends = of offends.1
    where
      of : Singular MeansTraceId (λ id. id ≡ None) (bytes_of 1 records) None ⊎ Singular MeansSpanId (λ id. id ≡ None) (bytes_of 2 records) None → ⊥
      of (inl none) = let e : None ≡ Some trace = trace_id_once ids.trace_once (bytes_of 1 records) None (Some trace) none has_trace in cc
      of (inr none) = let e : None ≡ Some id = span_id_once ids.span_once (bytes_of 2 records) None (Some id) none has_id in cc
