-- Members of an object as they are written: what stands in a row is found under its name, and where nothing is written each row
-- holds its default.
use Rattle.std.proofs.Common.{◌≡◌, ℕ, zero, suc, ◌<◌, ◌^◌, List, [], ◌∷◌, false, Option, Some, None, option_map, refl, sym, subst}
use Rattle.serde_json.specs.Data.{Data, string, object, Members, no_members, member as has}
use Rattle.span_ids.specs.StatedLaws.{IdentifiersReadBack}
use Rattle.span_ids.specs.Proper.{IsProperTraceId, IsProperSpanId, IsProperParent}
use Rattle.span_ids.specs.declared.hex_text.IdRule.TheVariants.{Exact}
use Rattle.span_io.specs.Paths.{Given}
use Rattle.std.specs.List.{AllByRecursion}
use Rattle.trace_model.specs.EventTexts.{holds_double}
use Rattle.trace_model.specs.Proper.{AreProper}
use Rattle.trace_model.specs.Values.{AreSound}
use Rattle.trace_model.specs.declared.value.Value.{Value}
use Rattle.json_members.specs.Canonical.{MemberRow, members_given, unless_empty, text_data, count_data, trace_id_text, span_id_text}
use Rattle.json_members.specs.Members.{unless_null, member, IsText, Spelled}
use Rattle.json_members.proofs.MeaningLaws.{in_rows, either_one, found, given_row, text_again}
use Rattle.otlp_json.specs.Attributes.{AreJsonAttributes}
use Rattle.otlp_json.specs.Canonical.{attributes_data, decimal_data, list_data}
use Rattle.otlp_json.specs.Identifiers.{SpellsJsonTrace, SpellsJsonSpan, SpellsSpanOrNone}
use Rattle.otlp_json.specs.Numbers.{IsJsonCount, IsJsonTime}
use Rattle.otlp_json.proofs.NumbersAgain.{count_again, time_again}
use Rattle.otlp_json.proofs.WrittenLaws.{Laws}
use Rattle.otlp_json.proofs.WrittenValues.{attributes_again}

module _ (rows : List MemberRow) (name : List ℕ) where
  pub text_row : (text : List ℕ) → in_rows name rows ≡ either_one (text_data text) None → Given IsText (λ t. t ≡ []) text (member name (object (members_given rows)))
  text_row text is = given_row IsText (λ t. t ≡ []) text name rows (text_data text) is (text_again text)

  pub count_row : (count : ℕ) → count < 2 ^ 32 → in_rows name rows ≡ either_one (count_data count) None → Given IsJsonCount (λ n. n ≡ 0) count (member name (object (members_given rows)))
  count_row count low is = given_row IsJsonCount (λ n. n ≡ 0) count name rows (count_data count) is (count_again count low)

  pub time_row : (time : ℕ) → time < 2 ^ 64 → in_rows name rows ≡ either_one (decimal_data time) None → Given IsJsonTime (λ n. n ≡ 0) time (member name (object (members_given rows)))
  time_row time low is = given_row IsJsonTime (λ n. n ≡ 0) time name rows (decimal_data time) is (time_again time low)

  pub attributes_row : Laws → (attributes : List (List ℕ × Value)) → AreSound attributes → AreProper attributes → holds_double attributes ≡ false
      → in_rows name rows ≡ either_one (attributes_data attributes) None → AreJsonAttributes attributes [] (member name (object (members_given rows)))
  attributes_row L attributes sound proper none is =
      subst (AreJsonAttributes attributes []) (sym (found name rows (attributes_data attributes) is)) (attributes_again L attributes sound proper none)

module _ (ids : IdentifiersReadBack) where
  pub trace_again : (id : ℕ) → IsProperTraceId id → Spelled SpellsJsonTrace id (string (trace_id_text id))
  trace_again id h = record { held = trace_id_text id; shape = refl; means = ids.trace_in_hex Exact id h.0 h.1 }

  pub span_id_again : (id : ℕ) → IsProperSpanId id → Spelled SpellsJsonSpan id (string (span_id_text id))
  span_id_again id h = record { held = span_id_text id; shape = refl; means = ids.span_in_hex Exact id h.0 h.1 }

  pub parent_again : (parent : Option ℕ) → IsProperParent parent → Given (Spelled SpellsSpanOrNone) (λ id. id ≡ None) parent (unless_null (option_map (λ id. string (span_id_text id)) parent))
  parent_again None h = refl
  parent_again (Some id) h = record { held = span_id_text id; shape = refl; means = ids.span_in_hex Exact id h.0 h.1 }

-- ---- an object that is left out where all of it is default

pub or_absent : {A : Type 0} (Means : A → Data → Type 0) (IsDefault : A → Type 0) (x : A) (ms : Members) → Means x (object ms) → (ms ≡ no_members → IsDefault x)
    → Given Means IsDefault x (unless_null (unless_empty ms))
or_absent Means IsDefault x no_members means default = default refl
or_absent Means IsDefault x (has name d ms) means default = means

pub rows_none : (rows : List MemberRow) → members_given rows ≡ no_members → AllByRecursion (λ row. row.1 ≡ None) rows
rows_none [] e = tt
rows_none ((name, None) ∷ rows) e = (refl, rows_none rows e)
rows_none ((name, Some d) ∷ rows) e = absurd cc

pub no_text : (text : List ℕ) → text_data text ≡ None → text ≡ []
no_text [] e = refl
no_text (x ∷ text) e = absurd cc

pub no_count : (n : ℕ) → count_data n ≡ None → n ≡ 0
no_count zero e = refl
no_count (suc n) e = absurd cc

pub no_list : {A : Type 0} (data_of : A → Data) (xs : List A) → list_data data_of xs ≡ None → xs ≡ []
no_list data_of [] e = refl
no_list data_of (x ∷ xs) e = absurd cc
