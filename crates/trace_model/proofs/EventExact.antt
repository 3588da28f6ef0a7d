-- Reading event text as a computation finds the event that it is, and event text is UTF-8.
use Rattle.std.proofs.Common.{◌≡◌, ◌≢◌, ℕ, ◌≤◌, List, [], ◌∷◌, All, Option, Some, None, option_and_then, refl, sym, ap, ◌∙◌, subst}
use Rattle.std.proofs.lemmas.Str.{IsUtf8-append}
use Rattle.json.specs.Print.{quoted}
use Rattle.json.proofs.Printed.Utf8.{IsUtf8-are_ascii, IsUtf8-quoted}
use Rattle.serde_json.specs.Data.{Data, null, boolean, number, string, array, object, no_members, member}
use Rattle.serde_json.specs.Read.{read}
use Rattle.trace_model.specs.Attributes.{Rise}
use Rattle.trace_model.specs.EventExact.{EventTextsExact, EventTextsAreUtf8}
use Rattle.trace_model.specs.EventReading.{pairs_within, some_pairs, event_in, event_text_read}
use Rattle.trace_model.specs.EventTexts.{IsEventJson, IsEventText, in_braces}
use Rattle.trace_model.specs.ValueTexts.{json_text}
use Rattle.trace_model.specs.Values.{depth, most_levels}
use Rattle.trace_model.specs.declared.value.Value.{Value, Map as Named}
use Rattle.trace_model.proofs.EventDepths.{pairs_sound, pairs_complete}
use Rattle.trace_model.proofs.EventOptions.{then_some}
use Rattle.trace_model.proofs.EventSome.{KeysRise, text_rises, names_stay, pairs_rise}
use Rattle.trace_model.proofs.ProperRows.{map_proper}
use Rattle.trace_model.proofs.TextLaws.{text_utf8}

abbrev Pairs : Type 0
Pairs = List (List ℕ × Value)

-- ---- what the computation finds

record IsTaken (found : List ℕ) (o : Option Pairs) (name : List ℕ) (attributes : Pairs) : Type 0 where
  pairs : o ≡ Some attributes
  same : found ≡ name
  some : attributes ≢ []

not_empty : (pair : List ℕ × Value) (more : Pairs) → pair ∷ more ≢ []
not_empty pair more e = cc

taken : (found : List ℕ) (o : Option Pairs) (name : List ℕ) (attributes : Pairs) → some_pairs found o ≡ Some (name, attributes) → IsTaken found o name attributes
taken found None name attributes e = absurd (cc)
taken found (Some []) name attributes e = absurd (cc)
taken found (Some (pair ∷ more)) name attributes e =
    let both : (found, pair ∷ more) ≡ (name, attributes) = cc in
    let held : pair ∷ more ≡ attributes = ap (λ (p : List ℕ × Pairs). p.1) both in
    record {
      pairs = ap Some held;
      same = ap (λ (p : List ℕ × Pairs). p.0) both;
      some = λ none. not_empty pair more (held ∙ none);
    }

module _ (name : List ℕ) (attributes : Pairs) where
  event_found : (json : Data) → KeysRise json → event_in json ≡ Some (name, attributes) → IsEventJson json name attributes
  event_found null o e = absurd (cc)
  event_found (boolean b) o e = absurd (cc)
  event_found (number n) o e = absurd (cc)
  event_found (string t) o e = absurd (cc)
  event_found (array ds) o e = absurd (cc)
  event_found (object no_members) o e = absurd (cc)
  event_found (object (member k null ms)) o e = absurd (cc)
  event_found (object (member k (boolean b) ms)) o e = absurd (cc)
  event_found (object (member k (number n) ms)) o e = absurd (cc)
  event_found (object (member k (string t) ms)) o e = absurd (cc)
  event_found (object (member k (array ds) ms)) o e = absurd (cc)
  event_found (object (member k (object inner) (member l d ms))) o e = absurd (cc)
  event_found (object (member k (object inner) no_members)) o e =
      let is = taken k (pairs_within most_levels inner) name attributes e in
      let low = pairs_sound most_levels inner attributes is.pairs in
      let up = pairs_rise inner attributes low.0 o.1.0.1 in
      record {
        members = inner;
        one = ap (λ key. object (member key (object inner) no_members)) is.same;
        values = low.0;
        some = is.some;
        sound = record {
          rising = subst Rise (sym (names_stay inner attributes low.0)) o.1.0.0;
          values = λ i d lt. record { shallow = low.1 i d lt; rising = up i d lt };
        };
      }

  text_found : (text : List ℕ) → event_text_read text ≡ Some (name, attributes) → IsEventText text name attributes
  unfolding event_text_read
  text_found text e =
      let i = then_some event_in (read (in_braces text)) (name, attributes) e in
      record { json = i.0; reading = i.1; event = event_found i.0 (text_rises (in_braces text) i.0 i.1) i.2 }

  -- ---- and what it finds it as

  given : (found : Pairs) → found ≢ [] → some_pairs name (Some found) ≡ Some (name, found)
  given [] some = absurd (some refl)
  given (pair ∷ more) some = refl

  text_read : (text : List ℕ) → IsEventText text name attributes → event_text_read text ≡ Some (name, attributes)
  unfolding event_text_read
  text_read text is =
      let low : All (λ p. depth p.1 ≤ most_levels) attributes = λ i d lt. (is.event.sound.values i d lt).shallow in
      ap (option_and_then event_in) is.reading
      ∙ ap event_in is.event.one
      ∙ ap (some_pairs name) (pairs_complete most_levels is.event.members attributes is.event.values low)
      ∙ given attributes is.event.some

pub texts_exact : EventTextsExact
texts_exact text name attributes = (λ e. text_found name attributes text e, λ is. text_read name attributes text is)

-- ---- UTF-8

pub texts_utf8 : EventTextsAreUtf8
texts_utf8 name [] utf8 proper = utf8
texts_utf8 name (pair ∷ pairs) utf8 proper =
    IsUtf8-append (quoted name) (58 ∷ json_text (Named (pair ∷ pairs))) (IsUtf8-quoted name utf8)
    (IsUtf8-append (58 ∷ []) (json_text (Named (pair ∷ pairs))) (IsUtf8-are_ascii (58 ∷ []) refl)
    (text_utf8 (Named (pair ∷ pairs)) ((map_proper (pair ∷ pairs)).1 proper)))
