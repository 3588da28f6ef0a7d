-- JSON values of lists and maps, as loops over their members come to them.
use Rattle.std.proofs.Common.{◌≡◌, ℕ, ℤ, ◌+◌, ◌<◌, ◌≤◌, List, [], ◌∷◌, ◌++◌, length, take, get_or, Some, option_map, refl, sym, ap, ◌∙◌, Vec, BTreeMap, String, Global}
use Rattle.std.specs.Prelude.{FitsSigned}
use Rattle.std.specs.Int.{w64}
use Rattle.std.specs.Fmt.{signed_decimal}
use Rattle.std.proofs.lemmas.List.{take_more, take_all}
use Rattle.json.specs.Json as json
use Rattle.serde_json.specs.Data.{Data, number, array, object, no_items, item, Members, no_members, put}
use Rattle.serde_json.specs.Find.{of_integer}
use Rattle.serde_json.specs.Read.{of_json, of_items, of_members}
use Rattle.serde_json.specs.View.{view, items_view, members_view}
use Rattle.serde_json.specs.declared.value.Value.{Value as Json, Array, Object}
use Rattle.serde_json.proofs.Views.{view-Array, view-Object}
use Rattle.trace_model.specs.declared.value.Value.{Value, List as Several, Map as Named}
use Rattle.trace_model.specs.ValueTexts.{json_of}
use Rattle.trace_model.proofs.EventBack.{number_back}
use Rattle.trace_model.proofs.EventBytes.{items_json, members_json, list_json, map_json}
use Rattle.trace_model.proofs.EventOptions.{map_some, then_some}

pub number_json : (n : ℤ) (made : Data) → FitsSigned w64 n → made ≡ number (of_integer n) → of_json (json.number (signed_decimal n)) ≡ Some made
number_json n made fits is = ap (option_map number) (number_back n fits) ∙ ap Some (sym is)

-- ---- elements

items_pushed : (vs : List Value) (v : Value) (ds : List Json) (j : Json) → of_items (items_json vs) ≡ Some (items_view ds) → of_json (json_of v) ≡ Some (view j)
    → of_items (items_json (vs ++ v ∷ [])) ≡ Some (items_view (ds ++ j ∷ []))
items_pushed [] v [] j r h = rw h refl
items_pushed [] v (e ∷ es) j r h = absurd (cc)
items_pushed (w ∷ ws) v [] j r h =
    let i = then_some (λ d. option_map (item d) (of_items (items_json ws))) (of_json (json_of w)) no_items r in
    let k = map_some (item i.0) (of_items (items_json ws)) no_items i.2 in
    let e : item i.0 k.0 ≡ no_items = k.2 in
    absurd (cc)
items_pushed (w ∷ ws) v (e ∷ es) j r h =
    let i = then_some (λ d. option_map (item d) (of_items (items_json ws))) (of_json (json_of w)) (items_view (e ∷ es)) r in
    let k = map_some (item i.0) (of_items (items_json ws)) (items_view (e ∷ es)) i.2 in
    let both : item i.0 k.0 ≡ item (view e) (items_view es) = k.2 in
    let a : i.0 ≡ view e = cc in
    let b : k.0 ≡ items_view es = cc in
    rw (i.1 ∙ ap Some a, items_pushed ws v es j (k.1 ∙ ap Some b) h) refl

pub more_items : (vs : List Value) (i : ℕ) (v : Value) → i < length vs → v ≡ get_or vs i v → (ds : List Json) (j : Json)
    → of_items (items_json (take i vs)) ≡ Some (items_view ds) → of_json (json_of v) ≡ Some (view j) → of_items (items_json (take (i + 1) vs)) ≡ Some (items_view (ds ++ j ∷ []))
more_items vs i v lt is ds j r h =
    ap (λ l. of_items (items_json l)) (take_more vs i v lt ∙ ap (λ w. take i vs ++ w ∷ []) (sym is)) ∙ items_pushed (take i vs) v ds j r h

pub array_json : (vs : List Value) (i : ℕ) → length vs ≤ i → (elements : Vec Json Global) → of_items (items_json (take i vs)) ≡ Some (items_view elements.items)
    → of_json (json_of (Several vs)) ≡ Some (view (Array elements))
array_json vs i over elements r =
    ap of_json (list_json vs) ∙ ap (λ l. option_map array (of_items (items_json l))) (sym (take_all i vs over)) ∙ ap (option_map array) r ∙ ap Some (sym (view-Array elements))

-- ---- members

members_pushed : (ps : List (List ℕ × Value)) (p : List ℕ × Value) (found fs : Members) (d : Data) → of_members (members_json ps) found ≡ Some fs
    → of_json (json_of p.1) ≡ Some d → of_members (members_json (ps ++ p ∷ [])) found ≡ Some (put p.0 d fs)
members_pushed [] p found fs d r h = let same : found ≡ fs = cc in rw h (ap (λ m. Some (put p.0 d m)) same)
members_pushed (q ∷ qs) p found fs d r h =
    let i = then_some (λ e. of_members (members_json qs) (put q.0 e found)) (of_json (json_of q.1)) fs r in
    rw i.1 (members_pushed qs p (put q.0 i.0 found) fs d i.2 h)

pub more_members : (ps : List (List ℕ × Value)) (i : ℕ) (p : List ℕ × Value) → i < length ps → p ≡ get_or ps i p → (old new : Members) (d : Data)
    → of_members (members_json (take i ps)) no_members ≡ Some old → of_json (json_of p.1) ≡ Some d → new ≡ put p.0 d old
    → of_members (members_json (take (i + 1) ps)) no_members ≡ Some new
more_members ps i p lt is old new d r h made =
    ap (λ l. of_members (members_json l) no_members) (take_more ps i p lt ∙ ap (λ q. take i ps ++ q ∷ []) (sym is))
    ∙ members_pushed (take i ps) p no_members old d r h ∙ ap Some (sym made)

pub object_json : (ps : List (List ℕ × Value)) (i : ℕ) → length ps ≤ i → (members : BTreeMap (String Global) Json) → of_members (members_json (take i ps)) no_members ≡ Some (members_view members.entries)
    → of_json (json_of (Named ps)) ≡ Some (view (Object members))
object_json ps i over members r =
    ap of_json (map_json ps) ∙ ap (λ l. option_map object (of_members (members_json l) no_members)) (sym (take_all i ps over)) ∙ ap (option_map object) r
    ∙ ap Some (sym (view-Object members))
