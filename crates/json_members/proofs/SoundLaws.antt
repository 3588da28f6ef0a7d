-- A JSON value that is read of UTF-8 has UTF-8 texts, and the keys of its objects rise.
use Rattle.std.proofs.Common.{◌≡◌, ℕ, List, [], ◌∷◌, ◌++◌, Option, Some, None, option_map, option_and_then, IsUtf8, refl, sym, ap, subst, ◌∙◌, append_assoc, Ordering, Less, Equal, Greater}
use Rattle.std.proofs.lemmas.Cmp.{nat_list_cmp_total}
use Rattle.std.proofs.lemmas.Str.{IsUtf8-nil}
use Rattle.std.specs.Cmp.Lexicographic.{slice_cmp}
use Rattle.std.specs.List.{AllByRecursion}
use Rattle.std.specs.Ordering.{nat_cmp, match_ordering, ordering_reverse}
use Rattle.json.specs.Json as json
use Rattle.json.specs.Lex.{tokens}
use Rattle.json.specs.Token.{Token}
use Rattle.json.specs.Tree.{json_tokens, items_tokens, members_tokens}
use Rattle.json.proofs.Unique.Spelling.{value-json_tokens_back}
use Rattle.serde_json.specs.Data.{Num, Data, null, boolean, number, string, array, object, Items, no_items, item, Members, no_members, member as has, put}
use Rattle.serde_json.specs.Find.{get_member, as_str, as_array, as_object}
use Rattle.serde_json.specs.Read.{read, number_of, of_json, of_items, of_members, max_depth}
use Rattle.span_io.specs.Paths.{Given, Never}
use Rattle.json_members.specs.Members.{unless_null, member, IsText}
use Rattle.json_members.proofs.ReadBackLaws.{Follow, behind_before}
use Rattle.json_members.proofs.Utf8Laws.{HoldsOf, HasUtf8, tokens_utf8}

-- ---- trees of tokens

abbrev mutual
  JsonHasUtf8 : json.Json → Type 0
  JsonHasUtf8 json.null = Unit {0}
  JsonHasUtf8 (json.boolean b) = Unit {0}
  JsonHasUtf8 (json.number s) = Unit {0}
  JsonHasUtf8 (json.string s) = IsUtf8 s
  JsonHasUtf8 (json.array js) = ItemsHaveUtf8 js
  JsonHasUtf8 (json.object ms) = MembersHaveUtf8 ms

  ItemsHaveUtf8 : json.Items → Type 0
  ItemsHaveUtf8 json.no_items = Unit {0}
  ItemsHaveUtf8 (json.item j js) = JsonHasUtf8 j × ItemsHaveUtf8 js

  MembersHaveUtf8 : json.Members → Type 0
  MembersHaveUtf8 json.no_members = Unit {0}
  MembersHaveUtf8 (json.member k j ms) = IsUtf8 k × (JsonHasUtf8 j × MembersHaveUtf8 ms)

mutual
  json_utf8 : (j : json.Json) (rest : List Token) → AllByRecursion HasUtf8 (json_tokens j ++ rest) → JsonHasUtf8 j × AllByRecursion HasUtf8 rest
  json_utf8 json.null rest h = (tt, h.1)
  json_utf8 (json.boolean b) rest h = (tt, h.1)
  json_utf8 (json.number s) rest h = (tt, h.1)
  json_utf8 (json.string s) rest h = (h.0, h.1)
  json_utf8 (json.array js) rest h = items_utf8 js rest h.1
  json_utf8 (json.object ms) rest h = members_utf8 ms rest h.1

  items_utf8 : (js : json.Items) (rest : List Token) → AllByRecursion HasUtf8 (items_tokens js ++ rest) → ItemsHaveUtf8 js × AllByRecursion HasUtf8 rest
  items_utf8 json.no_items rest h = (tt, h.1)
  items_utf8 (json.item j js) rest h =
      let first = json_utf8 j (items_tokens js ++ rest) (subst (AllByRecursion HasUtf8) (append_assoc (json_tokens j) (items_tokens js) rest) h) in
      let more = items_utf8 js rest first.1 in
      ((first.0, more.0), more.1)

  members_utf8 : (ms : json.Members) (rest : List Token) → AllByRecursion HasUtf8 (members_tokens ms ++ rest) → MembersHaveUtf8 ms × AllByRecursion HasUtf8 rest
  members_utf8 json.no_members rest h = (tt, h.1)
  members_utf8 (json.member k j ms) rest h =
      let first = json_utf8 j (members_tokens ms ++ rest) (subst (AllByRecursion HasUtf8) (append_assoc (json_tokens j) (members_tokens ms) rest) h.1) in
      let more = members_utf8 ms rest first.1 in
      ((h.0, (first.0, more.0)), more.1)

-- ---- values

abbrev mutual
  pub Sound : Data → Type 0
  Sound null = Unit {0}
  Sound (boolean b) = Unit {0}
  Sound (number n) = Unit {0}
  Sound (string s) = IsUtf8 s
  Sound (array ds) = ItemsSound ds
  Sound (object ms) = MembersSound ms

  pub ItemsSound : Items → Type 0
  ItemsSound no_items = Unit {0}
  ItemsSound (item d ds) = Sound d × ItemsSound ds

  pub MembersSound : Members → Type 0
  MembersSound no_members = Unit {0}
  MembersSound (has k d ms) = IsUtf8 k × (Sound d × (Follow k ms × MembersSound ms))

pub before_behind : (a b : List ℕ) → slice_cmp nat_cmp a b ≡ Greater → slice_cmp nat_cmp b a ≡ Less
before_behind a b h = nat_list_cmp_total.antisymm b a ∙ ap ordering_reverse h

follow_on : (key k : List ℕ) (ms : Members) → slice_cmp nat_cmp key k ≡ Less → Follow k ms → Follow key ms
follow_on key k no_members less h = tt
follow_on key k (has l d ms) less h =
    (behind_before key l (nat_list_cmp_total.trans key k l less (before_behind l k h.0)), follow_on key k ms less h.1)

follow_put : (k key : List ℕ) (d : Data) (ms : Members) → slice_cmp nat_cmp key k ≡ Greater → Follow k ms → Follow k (put key d ms)
follow_put k key d no_members greater h = (greater, tt)
follow_put k key d (has l e ms) greater h = on (slice_cmp nat_cmp key l) (follow_put k key d ms greater h.1)
  where
    on : (o : Ordering) → Follow k (put key d ms) → Follow k (match_ordering o (has key d (has l e ms)) (has l d ms) (has l e (put key d ms)))
    on Less later = (greater, h)
    on Equal later = h
    on Greater later = (h.0, later)

put_sound : (key : List ℕ) (d : Data) (ms : Members) → IsUtf8 key → Sound d → MembersSound ms → MembersSound (put key d ms)
put_sound key d no_members text value h = (text, (value, (tt, tt)))
put_sound key d (has k e ms) text value h = on (slice_cmp nat_cmp key k) refl (put_sound key d ms text value h.1.1.1)
  where
    on : (o : Ordering) → slice_cmp nat_cmp key k ≡ o → MembersSound (put key d ms) → MembersSound (match_ordering o (has key d (has k e ms)) (has k d ms) (has k e (put key d ms)))
    on Less less later = (text, (value, ((behind_before key k less, follow_on key k ms less h.1.1.0), h)))
    on Equal same later = (h.0, (value, h.1.1))
    on Greater greater later = (h.0, (h.1.0, (follow_put k key d ms greater h.1.1.0, later)))

pub holds_map : {A B : Type 0} (P : A → Type 0) (Q : B → Type 0) (f : A → B) → ((a : A) → P a → Q (f a)) → (o : Option A) → HoldsOf P o → HoldsOf Q (option_map f o)
holds_map P Q f on None h = tt
holds_map P Q f on (Some a) h = on a h

pub holds_then : {A B : Type 0} (P : A → Type 0) (Q : B → Type 0) (f : A → Option B) → ((a : A) → P a → HoldsOf Q (f a)) → (o : Option A) → HoldsOf P o → HoldsOf Q (option_and_then f o)
holds_then P Q f on None h = tt
holds_then P Q f on (Some a) h = on a h

any_number : (o : Option Num) → HoldsOf (λ n. Unit {0}) o
any_number None = tt
any_number (Some n) = tt

mutual
  json_sound : (j : json.Json) → JsonHasUtf8 j → HoldsOf Sound (of_json j)
  json_sound json.null h = tt
  json_sound (json.boolean b) h = tt
  json_sound (json.number s) h = holds_map (λ n. Unit {0}) Sound number (λ n k. tt) (number_of s) (any_number (number_of s))
  json_sound (json.string s) h = h
  json_sound (json.array js) h = holds_map ItemsSound Sound array (λ ds k. k) (of_items js) (items_sound js h)
  json_sound (json.object ms) h = holds_map MembersSound Sound object (λ found k. k) (of_members ms no_members) (members_sound ms no_members h tt)

  items_sound : (js : json.Items) → ItemsHaveUtf8 js → HoldsOf ItemsSound (of_items js)
  items_sound json.no_items h = tt
  items_sound (json.item j js) h =
      holds_then Sound ItemsSound (λ d. option_map (item d) (of_items js)) (λ d k. holds_map ItemsSound ItemsSound (item d) (λ ds l. (k, l)) (of_items js) (items_sound js h.1)) (of_json j) (json_sound j h.0)

  members_sound : (ms : json.Members) (before : Members) → MembersHaveUtf8 ms → MembersSound before → HoldsOf MembersSound (of_members ms before)
  members_sound json.no_members before h k = k
  members_sound (json.member key j ms) before h k =
      holds_then Sound MembersSound (λ d. of_members ms (put key d before)) (λ d l. members_sound ms (put key d before) h.1.1 (put_sound key d before h.0 l k)) (of_json j) (json_sound j h.1.0)

last_utf8 : (o : Option (json.Json × List Token)) → ((j : json.Json) (rest : List Token) → o ≡ Some (j, rest) → JsonHasUtf8 j) → HoldsOf JsonHasUtf8 (option_and_then (λ p. json.if_last p.0 p.1) o)
last_utf8 None h = tt
last_utf8 (Some (j, [])) h = h j [] refl
last_utf8 (Some (j, t ∷ rest)) h = tt

pub read_sound : (text : List ℕ) (d : Data) → IsUtf8 text → read text ≡ Some d → Sound d
read_sound text d utf8 is =
    let spelled = λ (j : json.Json) (rest : List Token) (e : json.value max_depth (tokens text) ≡ Some (j, rest)).
    (json_utf8 j rest (subst (AllByRecursion HasUtf8) (value-json_tokens_back max_depth (tokens text) rest j e) (tokens_utf8 text utf8))).0 in
    subst (HoldsOf Sound) is
    (holds_then JsonHasUtf8 Sound of_json json_sound (option_and_then (λ p. json.if_last p.0 p.1) (json.value max_depth (tokens text))) (last_utf8 (json.value max_depth (tokens text)) spelled))

-- ---- the members of a sound value are sound

pub found_sound : (name : List ℕ) (ms : Members) → MembersSound ms → HoldsOf Sound (get_member name ms)
found_sound name no_members h = tt
found_sound name (has k d ms) h = on (slice_cmp nat_cmp name k) (get_member name ms) (found_sound name ms h.1.1.1)
  where
    on : (o : Ordering) (later : Option Data) → HoldsOf Sound later → HoldsOf Sound (match_ordering o later (Some d) later)
    on Less later l = l
    on Equal later l = h.1.0
    on Greater later l = l

pub there_sound : (o : Option Data) → HoldsOf Sound o → HoldsOf Sound (unless_null o)
there_sound None h = tt
there_sound (Some null) h = tt
there_sound (Some (boolean b)) h = tt
there_sound (Some (number n)) h = tt
there_sound (Some (string s)) h = h
there_sound (Some (array ds)) h = h
there_sound (Some (object ms)) h = h

pub member_sound : (name : List ℕ) (d : Data) → Sound d → HoldsOf Sound (member name d)
unfolding member
member_sound name null h = tt
member_sound name (boolean b) h = tt
member_sound name (number n) h = tt
member_sound name (string s) h = tt
member_sound name (array ds) h = tt
member_sound name (object ms) h = there_sound (get_member name ms) (found_sound name ms h)

-- ---- what stands in a sound value

pub text_sound : (d : Data) (text : List ℕ) → Sound d → as_str d ≡ Some text → IsUtf8 text
text_sound null text h is = cc
text_sound (boolean b) text h is = cc
text_sound (number n) text h is = cc
text_sound (string s) text h is = let e : s ≡ text = cc in subst IsUtf8 e h
text_sound (array ds) text h is = cc
text_sound (object ms) text h is = cc

pub given_text : (text : List ℕ) (o : Option Data) → HoldsOf Sound o → Given IsText (λ t. t ≡ []) text o → IsUtf8 text
given_text text None h is = subst IsUtf8 (sym is) IsUtf8-nil
given_text text (Some d) h is = text_sound d text h is

pub needed_text : (text : List ℕ) (o : Option Data) → HoldsOf Sound o → Given IsText Never text o → IsUtf8 text
needed_text text None h is = absurd is
needed_text text (Some d) h is = text_sound d text h is

pub array_sound : (d : Data) (ds : Items) → Sound d → as_array d ≡ Some ds → ItemsSound ds
array_sound null ds h is = cc
array_sound (boolean b) ds h is = cc
array_sound (number n) ds h is = cc
array_sound (string s) ds h is = cc
array_sound (array held) ds h is = let e : held ≡ ds = cc in subst ItemsSound e h
array_sound (object ms) ds h is = cc

pub object_sound : (d : Data) (ms : Members) → Sound d → as_object d ≡ Some ms → MembersSound ms
object_sound null ms h is = cc
object_sound (boolean b) ms h is = cc
object_sound (number n) ms h is = cc
object_sound (string s) ms h is = cc
object_sound (array ds) ms h is = cc
object_sound (object held) ms h is = let e : held ≡ ms = cc in subst MembersSound e h
