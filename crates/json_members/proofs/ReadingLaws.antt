-- What is answered of a value, of its bytes.
use Rattle.std.proofs.Common.{◌≡◌, ◌≤◌, ◌⊎◌, inl, inr, ℕ, List, [], None, Result, Ok, Err, refl, sym, subst, arith, IsUtf8}
use Rattle.json_nodes.specs.declared.unread.Unread.{Unread}
use Rattle.json_nodes.specs.declared.unread.Unread.TheVariants as whys
use Rattle.serde_json.specs.Data.{Data}
use Rattle.serde_json.specs.Read.{read}
use Rattle.span_io.specs.declared.cause.Cause.TheVariants as causes
use Rattle.span_io.specs.declared.halt.Halt.{Halt}
use Rattle.span_io.specs.declared.halt.Halt.TheVariants as halts
use Rattle.span_io.specs.declared.refusal.Refusal.{Refusal}
use Rattle.span_io.specs.Paths.{Offences, RefusesInput, ComesBefore, JudgesInput, HaltsInput}
use Rattle.json_members.specs.Texts.{IsJsonText, document_offends, IsUnread}

-- ---- bytes that are a text of a value

pub same_value : (bytes : List ℕ) (d : Data) → IsJsonText d bytes → (other : Data) → IsJsonText other bytes → other ≡ d
same_value bytes d is other h = let a = h.reading in let b = is.reading in cc

module _ (Offends : Data → Offences) (bytes : List ℕ) (d : Data) (is : IsJsonText d bytes) where
  pub in_value : (path : List ℕ) (n : ℕ) → document_offends Offends bytes path n → Offends d path n
  in_value path n (inl h) = absurd (h.none d is)
  in_value path n (inr h) = subst (λ (v : Data). Offends v path n) (same_value bytes d is h.value h.is_text) h.offends

  pub of_value : (path : List ℕ) (n : ℕ) → Offends d path n → document_offends Offends bytes path n
  of_value path n h = inr (record { value = d; is_text = is; offends = h })

  pub judged_text : {T : Type 0} (answer : Result T (Halt Refusal)) → JudgesInput answer (Offends d) → JudgesInput answer (document_offends Offends bytes)
  judged_text (Ok read) h = record { none = λ path n o. h.none path n (in_value path n o) }
  judged_text (Err (halts.Why refusal)) h = record {
    path = h.path;
    is_least = record { offence = of_value _ _ h.is_least.offence; least = λ p n o. h.is_least.least p n (in_value p n o) };
    unit = h.unit;
  }
  judged_text (Err halts.OutOfMemory) h = tt

-- ---- bytes that are none

pub bad_json : (Offends : Data → Offences) (bytes : List ℕ) → ((d : Data) → ¬ IsJsonText d bytes) → RefusesInput (document_offends Offends bytes) (record { unit = 0; cause = causes.BadJson })
bad_json Offends bytes never = record {
  path = [];
  is_least = record { offence = inl (record { whole = refl; bad = refl; none = never }); least = least };
  unit = refl;
}
  where
    least : (p : List ℕ) (n : ℕ) → document_offends Offends bytes p n → ComesBefore [] p ⊎ (([] ≡ p) × (10 ≤ n))
    least p n (inl h) = let e = h.bad in inr (sym h.whole, omega arith)
    least p n (inr h) = absurd (never h.value h.is_text)

pub no_value : (bytes : List ℕ) → (IsUtf8 bytes → read bytes ≡ None) → (d : Data) → ¬ IsJsonText d bytes
no_value bytes none d h = let a = none h.utf8 in let b = h.reading in cc

-- where they gave no nodes
pub unread_halts : (Offends : Data → Offences) (bytes : List ℕ) (why : Unread) → (why ≡ whys.BadJson → IsUtf8 bytes → read bytes ≡ None) → (halt : Halt Refusal) → IsUnread why halt
    → HaltsInput halt (document_offends Offends bytes)
unread_halts Offends bytes why none (halts.Why refusal) h =
    subst (λ (r : Refusal). RefusesInput (document_offends Offends bytes) r) (sym h.1) (bad_json Offends bytes (no_value bytes (none h.0)))
unread_halts Offends bytes why none halts.OutOfMemory h = tt
