-- Nothing in a span that was read is a fault, nor in its resource.
use Rattle.std.proofs.Common.{◌≡◌, ℕ, zero, suc, ◌<◌, ◌≤◌, ◌^◌, ◌==◌, Bool, true, false, cond, nat_le, ◌&&◌, List, [], ◌∷◌, map, get_or, All, Contains, Option, Some, None, decimal, refl, sym, ap, ◌∙◌, subst, true≢false, le-leb, ⊎_elim, is_some, arith}
use Rattle.std.specs.Prelude.{Any, ◌||◌, codes, not}
use Rattle.std.specs.List.{list_any, list_all}
use Rattle.std.specs.Str.{bytes_eq}
use Rattle.std.specs.Str.Parse.{digits_value}
use Rattle.std.proofs.lemmas.Fmt.{decimal_is_IsNumeral_wide}
use Rattle.std.proofs.lemmas.List.Elements.{All-nil, All-cons, All-head, All-tail, All-map, All-contains}
use Rattle.span_tags.proofs.AttributeLaws.{key_itself, same_key}
use Rattle.span_tags.specs.TagWords.{Pairs, decimal_in, text_given}
use Rattle.trace_model.specs.Attributes.{at}
use Rattle.trace_model.specs.EventReading.{event_text_read}
use Rattle.trace_model.specs.EventTexts.{holds_double}
use Rattle.trace_model.specs.ValueTexts.{has_double}
use Rattle.trace_model.specs.declared.fault.Fault.{Fault}
use Rattle.trace_model.specs.declared.fault.Fault.TheVariants.{EndBeforeStart, OwnKey, EventText, ChildOfLink, DoubleInText}
use Rattle.trace_model.specs.declared.value.Value.{Value, Text}
use Rattle.zipkin_json.specs.Proper.{IsProperZSpan, IsTimelyZSpan}
use Rattle.zipkin_json.specs.declared.span.ZSpan.{ZSpan}
use Rattle.map_zipkin.specs.Faults.{IsOutOfForm, IsToldWrong, HasDoubleIn, IsZipkinSpanFault, IsZipkinResourceFault}
use Rattle.map_zipkin.specs.OwnColumns.{own_row, own_form, own_forms, own_of, truth_given, is_true_text, is_address, has_port, is_port_text}
use Rattle.map_zipkin.specs.Reading.{pairs_of, attributes_by, event_by, zipkin_event_of, run_span_of}
use Rattle.map_zipkin.specs.TagColumns.{count_text}
use Rattle.map_zipkin.specs.declared.own.Own.{Own}
use Rattle.map_zipkin.specs.declared.own.Own.TheVariants as owns
use Rattle.map_zipkin.proofs.EscapedKeys.{attribute_key, free_own}
use Rattle.map_zipkin.proofs.EventFacts.{EventsRead}
use Rattle.map_zipkin.proofs.ReadTexts.{free_all, IsTextPair, attributes_all, attributes_texts}

-- ---- lists

any_not : {A : Type 0} → (P : A → Type 0) (l : List A) → All (λ x. P x → ⊥) l → Any P l → ⊥
any_not P l all (k, x, lt, there, here) = All-contains (λ y. P y → ⊥) l x all (k, lt, there) here

all_true : {A : Type 0} → (p : A → Bool) (l : List A) → list_all p l ≡ true → All (λ x. p x ≡ true) l
all_true p [] e = All-nil (λ x. p x ≡ true)
all_true p (x ∷ l) e = by (all_true p l) (p x) refl e
  where
    by : (list_all p l ≡ true → All (λ x. p x ≡ true) l) → (b : Bool) → p x ≡ b → (b && list_all p l) ≡ true → All (λ x. p x ≡ true) (x ∷ l)
    by rest true here e = All-cons (λ x. p x ≡ true) x l here (rest e)
    by rest false here e = absurd (true≢false (sym e))

any_false : {A : Type 0} → (p : A → Bool) (l : List A) → list_any p l ≡ false → All (λ x. p x ≡ false) l
any_false p [] e = All-nil (λ x. p x ≡ false)
any_false p (x ∷ l) e = by (any_false p l) (p x) refl e
  where
    by : (list_any p l ≡ false → All (λ x. p x ≡ false) l) → (b : Bool) → p x ≡ b → (b || list_any p l) ≡ false → All (λ x. p x ≡ false) (x ∷ l)
    by rest true here e = absurd (true≢false e)
    by rest false here e = All-cons (λ x. p x ≡ false) x l here (rest e)

-- what holds of all pairs holds of the one at a key
pub found_has : (P : List ℕ × Value → Type 0) (k : List ℕ) (l : Pairs) (v : Value) → All P l → at k l ≡ Some v → P (k, v)
found_has P k [] v all e = absurd (true≢false (sym (ap is_some e)))
found_has P k (q ∷ qs) v all e = by (found_has P k qs v (All-tail P q qs all)) (bytes_eq k q.0) refl e
  where
    by : (at k qs ≡ Some v → P (k, v)) → (b : Bool) → bytes_eq k q.0 ≡ b → cond b (Some q.1) (at k qs) ≡ Some v → P (k, v)
    by rest true same e =
        let key : q.0 ≡ k = sym (same_key k q.0 same) in
        let value : q.1 ≡ v = cc in
        let both : q ≡ (k, v) = λ i. (key i, value i) in
        subst P both (All-head P q qs all)
    by rest false apart e = rest e

-- ---- forms of own keys

anything : (l : Pairs) → All (λ pair. Unit {0}) l
anything l k d lt = tt

abbrev is_fine : List ℕ × Value → List ℕ × (Value → Bool) → Bool
is_fine pair own = not (bytes_eq pair.0 own.0) || own.1 pair.1

abbrev IsFormed : List ℕ × Value → Type 0
IsFormed pair = list_all (is_fine pair) own_forms ≡ true

other_formed : (pair : List ℕ × Value) (owns : List (List ℕ × (Value → Bool))) → list_any (bytes_eq pair.0) (map (λ own. own.0) owns) ≡ false
    → list_all (is_fine pair) owns ≡ true
other_formed pair [] e = refl
other_formed pair (own ∷ owns) e = by (other_formed pair owns) (bytes_eq pair.0 own.0) e
  where
    by : (list_any (bytes_eq pair.0) (map (λ own. own.0) owns) ≡ false → list_all (is_fine pair) owns ≡ true) → (b : Bool)
        → (b || list_any (bytes_eq pair.0) (map (λ own. own.0) owns)) ≡ false → ((not b || own.1 pair.1) && list_all (is_fine pair) owns) ≡ true
    by rest true e = absurd (true≢false e)
    by rest false e = rest e

decimal_read : (n : ℕ) → n < 10 ^ 64 → decimal_in (decimal n) ≡ Some n
decimal_read n lt =
    let e : digits_value 10 (decimal n) ≡ n = (decimal_is_IsNumeral_wide n lt).1 in
    (λ i. cond (bytes_eq (decimal (e i)) (decimal n)) (Some (e i)) None) ∙ ap (λ b. cond b (Some n) None) (key_itself (decimal n))

not_zero : (n : ℕ) → (n == 0) ≡ false → 1 ≤ n
not_zero zero e = absurd (true≢false e)
not_zero (suc n) e = omega arith

port_formed : (n : ℕ) → n < 65536 → (n == 0) ≡ false → is_port_text (Text (decimal n)) ≡ true
port_formed n lt e =
    let low = not_zero n e in
    ap has_port (decimal_read n (omega (arith, lt)))
    ∙ ap (λ b. b && nat_le n 65535) (le-leb 1 n low)
    ∙ le-leb n 65535 (omega (arith, lt))

truth_formed : (truth : Bool) (value : Value) → truth_given truth ≡ Some value → is_true_text value ≡ true
truth_formed false value e = absurd (cc)
truth_formed true value e = let is : value ≡ Text (codes "true") = cc in ap is_true_text is

address_formed : (text : List ℕ) (value : Value) → text_given text ≡ Some value → is_address value ≡ true
address_formed [] value e = absurd (cc)
address_formed (x ∷ more) value e = let is : value ≡ Text (x ∷ more) = cc in ap is_address is

count_formed : (n : ℕ) → n < 65536 → (value : Value) → count_text n ≡ Some value → is_port_text value ≡ true
count_formed n lt value e = by (n == 0) refl e
  where
    by : (b : Bool) → (n == 0) ≡ b → cond b None (Some (Text (decimal n))) ≡ Some value → is_port_text value ≡ true
    by true none e = absurd (cc)
    by false some e = let is : value ≡ Text (decimal n) = cc in ap is_port_text is ∙ port_formed n lt some

own_formed : (span : ZSpan) → IsProperZSpan span → (own : Own) (value : Value) → own_of span own ≡ Some value → own_form own value ≡ true
own_formed span proper owns.Debug value e = truth_formed span.debug value e
own_formed span proper owns.LocalIpv4 value e = address_formed span.local.ipv4 value e
own_formed span proper owns.LocalIpv6 value e = address_formed span.local.ipv6 value e
own_formed span proper owns.LocalPort value e = count_formed span.local.port proper.local.port value e
own_formed span proper owns.RemoteIpv4 value e = address_formed span.remote.ipv4 value e
own_formed span proper owns.RemoteIpv6 value e = address_formed span.remote.ipv6 value e
own_formed span proper owns.RemotePort value e = count_formed span.remote.port proper.remote.port value e
own_formed span proper owns.Shared value e = truth_formed span.shared value e

fine_own : (own : Own) (value : Value) → own_form own value ≡ true → IsFormed ((own_row own).key, value)
fine_own owns.Debug value e = ap (λ b. b && true) e
fine_own other value e = ap (λ b. b && true) e

formed : (span : ZSpan) → IsProperZSpan span → (tags : Pairs) → All IsFormed (attributes_by span tags)
formed span proper tags = attributes_all IsFormed span tags (record {
  service = λ x more e. refl;
  tag = λ x more e. refl;
  own = λ own value e. fine_own own value (own_formed span proper own value e);
  others = free_all (λ pair. Unit {0}) IsFormed (λ pair held e. other_formed (attribute_key pair.0, pair.1) own_forms (free_own pair.0 e)) tags (anything tags);
})

fine_by : (key : List ℕ) (form : Value → Bool) (value : Value) → is_fine (key, value) (key, form) ≡ true → form value ≡ false → ⊥
fine_by key form value fine out =
    true≢false (sym fine ∙ ap (λ b. not b || form value) (key_itself key) ∙ out)

out_by : (attributes : Pairs) → All IsFormed attributes → (own : List ℕ × (Value → Bool)) → Contains own_forms own → (o : Option Value) → at own.0 attributes ≡ o
    → IsOutOfForm own.1 o → ⊥
out_by attributes all own there None e out = out
out_by attributes all own there (Some value) e out =
    let its : IsFormed (own.0, value) = found_has IsFormed own.0 attributes value all e in
    let fine : is_fine (own.0, value) own ≡ true =
    All-contains (λ one. is_fine (own.0, value) one ≡ true) own_forms own (all_true (is_fine (own.0, value)) own_forms its) there in
    fine_by own.0 own.1 value fine out

no_own : (attributes : Pairs) (key : List ℕ) → All IsFormed attributes → Any (λ own. (key ≡ own.0) × IsOutOfForm own.1 (at own.0 attributes)) own_forms → ⊥
no_own attributes key all (k, own, lt, there, here) = out_by attributes all own (k, lt, there) (at own.0 attributes) refl here.1

-- ---- doubles

text_plain : (pair : List ℕ × Value) → IsTextPair pair → has_double pair.1 ≡ true → ⊥
text_plain pair is double = true≢false (sym double ∙ ap has_double is.is)

pub texts_plain : (pairs : Pairs) → All IsTextPair pairs → HasDoubleIn pairs → ⊥
texts_plain pairs all double = any_not (λ pair. has_double pair.1 ≡ true) pairs (λ k d lt. text_plain (get_or pairs k d) (all k d lt)) double

-- ---- events

module _ (facts : EventsRead) where
  event_right : (time : ℕ) (text : List ℕ) (read : Option (List ℕ × Pairs)) → event_text_read text ≡ read → IsToldWrong (event_by time text read) → ⊥
  event_right time text None e wrong =
      true≢false (sym (ap is_some (sym e ∙ (facts.reads text wrong.name wrong.attributes).1 wrong.reads)))
  event_right time text (Some found) e wrong = ((facts.reads text found.0 found.1).0 e).event.some wrong.bare

  event_plain : (time : ℕ) (text : List ℕ) (read : Option (List ℕ × Pairs)) → event_text_read text ≡ read → HasDoubleIn (event_by time text read).attributes → ⊥
  event_plain time text None e double = any_not (λ pair. has_double pair.1 ≡ true) [] (All-nil (λ pair. has_double pair.1 ≡ true → ⊥)) double
  event_plain time text (Some found) e double =
      let none : holds_double found.1 ≡ false = facts.no_double text found.0 found.1 ((facts.reads text found.0 found.1).0 e) in
      let each = any_false (λ pair. has_double pair.1) found.1 none in
      any_not (λ pair. has_double pair.1 ≡ true) found.1 (λ k d lt is. true≢false (sym is ∙ each k d lt)) double

  events_right : (annotations : List (ℕ × List ℕ)) → Any IsToldWrong (map zipkin_event_of annotations) → ⊥
  events_right annotations = any_not IsToldWrong (map zipkin_event_of annotations) (All-map (λ event. IsToldWrong event → ⊥) zipkin_event_of annotations
      (λ k d lt. let one = get_or annotations k d in event_right one.0 one.1 (event_text_read one.1) refl))

  events_plain : (annotations : List (ℕ × List ℕ)) → Any (λ event. HasDoubleIn event.attributes) (map zipkin_event_of annotations) → ⊥
  events_plain annotations = any_not (λ event. HasDoubleIn event.attributes) (map zipkin_event_of annotations)
      (All-map (λ event. HasDoubleIn event.attributes → ⊥) zipkin_event_of annotations
      (λ k d lt. let one = get_or annotations k d in event_plain one.0 one.1 (event_text_read one.1) refl))

  -- ---- the span and its resource

  pub read_no_fault : (span : ZSpan) → IsTimelyZSpan span → IsProperZSpan span → (fault : Fault) → IsZipkinSpanFault (run_span_of span).1 fault → ⊥
  read_no_fault span timely proper EndBeforeStart is = let order = timely.order in omega (arith, is, order)
  read_no_fault span timely proper (OwnKey key) is = no_own (attributes_by span (pairs_of span)) key (formed span proper (pairs_of span)) is
  read_no_fault span timely proper EventText is = events_right span.annotations is
  read_no_fault span timely proper ChildOfLink is = is
  read_no_fault span timely proper DoubleInText is = ⊎_elim
      (λ (inside : HasDoubleIn (attributes_by span (pairs_of span))). texts_plain (attributes_by span (pairs_of span)) (attributes_texts span) inside)
      (λ (within : Any (λ event. HasDoubleIn event.attributes) (map zipkin_event_of span.annotations)). events_plain span.annotations within)
      is

pub resource_no_fault : (resource : Pairs) → All IsTextPair resource → (fault : Fault) → IsZipkinResourceFault resource fault → ⊥
resource_no_fault resource texts DoubleInText is = texts_plain resource texts is
resource_no_fault resource texts other is = is
