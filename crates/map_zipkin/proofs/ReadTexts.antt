-- What is read of a span of Zipkin has texts alone as attributes of the resource and of the span.
use Rattle.std.proofs.Common.{◌≡◌, ℕ, ◌==◌, Bool, true, false, cond, List, [], ◌∷◌, ◌++◌, map, All, Option, Some, None, option_and_then, decimal, refl}
use Rattle.std.specs.Prelude.{not, codes, filter}
use Rattle.std.specs.Str.{bytes_eq}
use Rattle.std.proofs.lemmas.List.Elements.{All-nil, All-cons, All-head, All-tail, All-append, All-filter}
use Rattle.span_tags.proofs.AttributeLaws.{all_attrs, attrs_rise}
use Rattle.span_tags.proofs.ColumnLaws.{all_rows}
use Rattle.span_tags.proofs.EscapeLaws.{unescaped_all}
use Rattle.span_tags.specs.TagKeys.{service_key}
use Rattle.span_tags.specs.TagWords.{Pairs, row, without, text_in, text_given}
use Rattle.trace_model.specs.Attributes.{Rise, keys, at}
use Rattle.trace_model.specs.declared.value.Value.{Value, Text}
use Rattle.zipkin_json.specs.declared.span.ZSpan.{ZSpan}
use Rattle.map_zipkin.specs.Keys.{resource_key, is_zipkin_reserved, peer_key}
use Rattle.map_zipkin.specs.OwnColumns.{all_own, own_row, own_rows, own_of, truth_given}
use Rattle.map_zipkin.specs.Reading.{pair_of, pairs_of, resource_row, resource_tags, resource_by, peer_of, is_free_tag, free_pairs, attributes_by}
use Rattle.map_zipkin.specs.TagColumns.{count_text}
use Rattle.map_zipkin.specs.declared.own.Own.{Own}
use Rattle.map_zipkin.specs.declared.own.Own.TheVariants as owns
use Rattle.map_zipkin.proofs.EscapedKeys.{attribute_key}

-- ---- lists

-- what all of a part have, that keeps what passes the test alone
pub kept : {A : Type 0} → (P Q : A → Type 0) (test : A → Bool) → ((a : A) → P a → test a ≡ true → Q a) → (l : List A) → All P l → All Q (filter test l)
kept P Q test each [] all = All-nil Q
kept P Q test each (x ∷ l) all = by (kept P Q test each l (All-tail P x l all)) (test x) refl
  where
    by : All Q (filter test l) → (b : Bool) → test x ≡ b → All Q (cond b (x ∷ filter test l) (filter test l))
    by rest true e = All-cons Q x (filter test l) (each x (All-head P x l all) e) rest
    by rest false e = rest

-- what holds of each tag that is an attribute, under the key that it has as such
pub free_all : (P Q : List ℕ × Value → Type 0) → ((pair : List ℕ × Value) → P pair → is_free_tag pair.0 ≡ true → Q (attribute_key pair.0, pair.1))
    → (tags : Pairs) → All P tags → All Q (free_pairs tags)
free_all P Q each tags all = unescaped_all is_zipkin_reserved Q (filter (λ tag. is_free_tag tag.0) tags)
    (kept P (λ pair. Q (attribute_key pair.0, pair.1)) (λ tag. is_free_tag tag.0) each tags all)

-- ---- rows of texts

module _ (P : List ℕ × Value → Type 0) (key : List ℕ) where
  some_all : (text : List ℕ) → ((x : ℕ) (more : List ℕ) → text ≡ x ∷ more → P (key, Text (x ∷ more))) → All P (row key (text_given text))
  some_all [] here = All-nil P
  some_all (x ∷ more) here = All-cons P (key, Text (x ∷ more)) [] (here x more refl) (All-nil P)

  value_all : (value : Option Value) → ((v : Value) → value ≡ Some v → P (key, v)) → All P (row key value)
  value_all None here = All-nil P
  value_all (Some v) here = All-cons P (key, v) [] (here v refl) (All-nil P)

  other_all : (tag : Option Value) → ((x : ℕ) (more : List ℕ) → tag ≡ Some (Text (x ∷ more)) → P (key, Text (x ∷ more))) → All P (row key (option_and_then text_given (text_in tag)))
  other_all None here = All-nil P
  other_all (Some (Text [])) here = All-nil P
  other_all (Some (Text (x ∷ more))) here = All-cons P (key, Text (x ∷ more)) [] (here x more refl) (All-nil P)
  other_all (Some other) here = All-nil P

  peer_all : (service : List ℕ) (tag : Option Value) → ((x : ℕ) (more : List ℕ) → service ≡ x ∷ more → P (key, Text (x ∷ more)))
      → ((x : ℕ) (more : List ℕ) → tag ≡ Some (Text (x ∷ more)) → P (key, Text (x ∷ more))) → All P (row key (peer_of service tag))
  peer_all [] tag its theirs = other_all tag theirs
  peer_all (x ∷ more) tag its theirs = All-cons P (key, Text (x ∷ more)) [] (its x more refl) (All-nil P)

-- ---- what holds of all attributes of a span

pub record HoldOf (P : List ℕ × Value → Type 0) (span : ZSpan) (tags : Pairs) : Type 0 where
  pub service : (x : ℕ) (more : List ℕ) → span.remote.service ≡ x ∷ more → P (peer_key, Text (x ∷ more))
  pub tag : (x : ℕ) (more : List ℕ) → at peer_key tags ≡ Some (Text (x ∷ more)) → P (peer_key, Text (x ∷ more))
  pub own : (own : Own) (value : Value) → own_of span own ≡ Some value → P ((own_row own).key, value)
  pub others : All P (free_pairs tags)

pub attributes_all : (P : List ℕ × Value → Type 0) (span : ZSpan) (tags : Pairs) → HoldOf P span tags → All P (attributes_by span tags)
attributes_all P span tags h =
    all_attrs P (row peer_key (peer_of span.remote.service (at peer_key tags)) ++ (own_rows (own_of span) ++ free_pairs tags))
    (All-append P (row peer_key (peer_of span.remote.service (at peer_key tags))) _ (peer_all P peer_key span.remote.service (at peer_key tags) h.service h.tag)
    (All-append P (own_rows (own_of span)) _ (all_rows own_row P all_own (own_of span) (λ own. value_all P (own_row own).key (own_of span own) (h.own own))) h.others))

-- and of a resource
pub resource_all : (P : List ℕ × Value → Type 0) (service : List ℕ) (tags : Pairs) → ((x : ℕ) (more : List ℕ) → service ≡ x ∷ more → P (service_key, Text (x ∷ more)))
    → All P (without service_key (resource_tags tags)) → All P (resource_by service tags)
resource_all P service tags here all =
    all_attrs P (row service_key (text_given service) ++ without service_key (resource_tags tags))
    (All-append P (row service_key (text_given service)) (without service_key (resource_tags tags)) (some_all P service_key service here) all)

-- ---- texts

pub record IsTextPair (pair : List ℕ × Value) : Type 0 where
  pub text : List ℕ
  pub is : pair.1 ≡ Text text

text_pair : (key text : List ℕ) → IsTextPair (key, Text text)
text_pair key text = record { text = text; is = refl }

-- what a span tells under an own key is a text
text_of : (text : List ℕ) (value : Value) → text_given text ≡ Some value → (told : List ℕ) × (value ≡ Text told)
text_of [] value e = absurd (cc)
text_of (x ∷ more) value e = (x ∷ more, cc)

truth_of : (truth : Bool) (value : Value) → truth_given truth ≡ Some value → (told : List ℕ) × (value ≡ Text told)
truth_of false value e = absurd (cc)
truth_of true value e = (codes "true", cc)

count_of : (n : ℕ) (value : Value) → count_text n ≡ Some value → (told : List ℕ) × (value ≡ Text told)
count_of n value e = by (n == 0) e
  where
    by : (b : Bool) → cond b None (Some (Text (decimal n))) ≡ Some value → (told : List ℕ) × (value ≡ Text told)
    by true e = absurd (cc)
    by false e = (decimal n, cc)

pub own_text : (span : ZSpan) (own : Own) (value : Value) → own_of span own ≡ Some value → (told : List ℕ) × (value ≡ Text told)
own_text span owns.Debug value e = truth_of span.debug value e
own_text span owns.LocalIpv4 value e = text_of span.local.ipv4 value e
own_text span owns.LocalIpv6 value e = text_of span.local.ipv6 value e
own_text span owns.LocalPort value e = count_of span.local.port value e
own_text span owns.RemoteIpv4 value e = text_of span.remote.ipv4 value e
own_text span owns.RemoteIpv6 value e = text_of span.remote.ipv6 value e
own_text span owns.RemotePort value e = count_of span.remote.port value e
own_text span owns.Shared value e = truth_of span.shared value e

tags_texts : (tags : List (List ℕ × List ℕ)) → All IsTextPair (map pair_of tags)
tags_texts [] = All-nil IsTextPair
tags_texts (tag ∷ tags) = All-cons IsTextPair (pair_of tag) (map pair_of tags) (text_pair tag.0 tag.1) (tags_texts tags)

pub attributes_texts : (span : ZSpan) → All IsTextPair (attributes_by span (pairs_of span))
attributes_texts span = attributes_all IsTextPair span (pairs_of span) (record {
  service = λ x more e. text_pair peer_key (x ∷ more);
  tag = λ x more e. text_pair peer_key (x ∷ more);
  own = λ own value e. let is = own_text span own value e in record { text = is.0; is = is.1 };
  others = free_all IsTextPair IsTextPair (λ pair is e. record { text = is.text; is = is.is }) (pairs_of span) (tags_texts span.tags);
})

under_all : (P : List ℕ × Value → Type 0) (key : Option (List ℕ)) (value : Value) → ((k : List ℕ) → key ≡ Some k → P (k, value)) → All P (resource_row key value)
under_all P None value here = All-nil P
under_all P (Some k) value here = All-cons P (k, value) [] (here k refl) (All-nil P)

-- what holds of each tag under the key behind the prefix
pub resource_tags_all : (P Q : List ℕ × Value → Type 0) → ((pair : List ℕ × Value) (k : List ℕ) → P pair → resource_key pair.0 ≡ Some k → Q (k, pair.1))
    → (tags : Pairs) → All P tags → All Q (resource_tags tags)
resource_tags_all P Q each [] all = All-nil Q
resource_tags_all P Q each (pair ∷ pairs) all =
    All-append Q (resource_row (resource_key pair.0) pair.1) (resource_tags pairs)
    (under_all Q (resource_key pair.0) pair.1 (λ k e. each pair k (All-head P pair pairs all) e))
    (resource_tags_all P Q each pairs (All-tail P pair pairs all))

pub resource_texts : (service : List ℕ) (span : ZSpan) → All IsTextPair (resource_by service (pairs_of span))
resource_texts service span = resource_all IsTextPair service (pairs_of span) (λ x more e. text_pair service_key (x ∷ more))
    (All-filter (λ attribute. not (bytes_eq service_key attribute.0)) IsTextPair (resource_tags (pairs_of span))
    (resource_tags_all IsTextPair IsTextPair (λ pair k is e. record { text = is.text; is = is.is }) (pairs_of span) (tags_texts span.tags)))

-- ---- their keys rise

pub attributes_rise : (span : ZSpan) (tags : Pairs) → Rise (keys (attributes_by span tags))
attributes_rise span tags = attrs_rise (row peer_key (peer_of span.remote.service (at peer_key tags)) ++ (own_rows (own_of span) ++ free_pairs tags))

pub resource_rise : (service : List ℕ) (tags : Pairs) → Rise (keys (resource_by service tags))
resource_rise service tags = attrs_rise (row service_key (text_given service) ++ without service_key (resource_tags tags))
