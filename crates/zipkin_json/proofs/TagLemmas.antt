-- Tags, as a loop goes through the members of their object.
use Rattle.std.proofs.Common.{◌≡◌, ℕ, List, [], ◌∷◌, ◌++◌, Option, Some, None, option_map, true, false, is_some, refl, sym, ap, subst, ◌∙◌, map, nat_cmp, Bor, Ordering, Less, Equal, Greater, append_assoc, is_ge}
use Rattle.std.proofs.lemmas.Cmp.{nat_list_cmp_total}
use Rattle.std.proofs.lemmas.List.{append-nil}
use Rattle.std.specs.Cmp.Lexicographic.{slice_cmp}
use Rattle.std.specs.List.{AllByRecursion}
use Rattle.std.specs.List.Sorted.{IsStrictlySortedBy}
use Rattle.std.specs.Map.{keys_of}
use Rattle.std.specs.Ordering.{match_ordering, ordering_reverse}
use Rattle.serde_json.specs.Data.{Data, null, boolean, number, string, array, object, Members, no_members, member as has, put}
use Rattle.serde_json.specs.Find.{as_null, as_str}
use Rattle.json_nodes.specs.Lents.{lent_view, named_members}
use Rattle.json_nodes.specs.Nodes.{put_all}
use Rattle.json_nodes.specs.declared.lent.Lent.{Lent}
use Rattle.span_io.specs.declared.cause.Cause.{Cause}
use Rattle.span_io.specs.declared.halt.Halt.{Halt}
use Rattle.span_io.specs.Paths.{each, valued, NothingOffends, Halts, OfKind}
use Rattle.span_io.proofs.PathLaws.{clean_nothing, clean_one_more, halts_at}
use Rattle.json_members.specs.Members.{member_values, text_offends}
use Rattle.zipkin_json.specs.Span.{texts_in, tag_offends, TagsRise}
use Rattle.zipkin_json.specs.private.Tags.{listed, pairs_in, NamesRise, AddsTag}

abbrev Pair : Type 0
Pair = List ℕ × Data

abbrev Tags : Type 0
Tags = List (List ℕ × List ℕ)

-- ---- one tag

pub clean_null : (d : Data) → is_some (as_null d) ≡ true → NothingOffends (tag_offends d)
clean_null null h = clean_nothing
clean_null (boolean b) h = cc
clean_null (number n) h = cc
clean_null (string s) h = cc
clean_null (array ds) h = cc
clean_null (object ms) h = cc

pub clean_text : (d : Data) (text : List ℕ) → as_str d ≡ Some text → NothingOffends (tag_offends d)
clean_text null text h = cc
clean_text (boolean b) text h = cc
clean_text (number n) text h = cc
clean_text (string s) text h = clean_nothing
clean_text (array ds) text h = cc
clean_text (object ms) text h = cc

pub halts_text : (halt : Halt Cause) (d : Data) → is_some (as_null d) ≡ false → Halts halt (text_offends d) → Halts halt (tag_offends d)
halts_text halt null h judged = cc
halts_text halt (boolean b) h judged = judged
halts_text halt (number n) h judged = judged
halts_text halt (string s) h judged = judged
halts_text halt (array ds) h judged = judged
halts_text halt (object ms) h judged = judged

null_read : (key : List ℕ) (d : Data) → is_some (as_null d) ≡ true → texts_in (has key d no_members) ≡ Some []
null_read key null h = refl
null_read key (boolean b) h = cc
null_read key (number n) h = cc
null_read key (string s) h = cc
null_read key (array ds) h = cc
null_read key (object os) h = cc

text_read : (key : List ℕ) (d : Data) (text : List ℕ) → as_str d ≡ Some text → texts_in (has key d no_members) ≡ Some ((key, text) ∷ [])
text_read key null text h = cc
text_read key (boolean b) text h = cc
text_read key (number n) text h = cc
text_read key (string s) text h = let e : s ≡ text = cc in rw e refl
text_read key (array ds) text h = cc
text_read key (object os) text h = cc

pub adds_nothing : (old : Tags) (key : List ℕ) (d : Data) → is_some (as_null d) ≡ true → AddsTag old key d old
adds_nothing old key d h = record { added = []; texts = null_read key d h; grown = sym (append-nil old) }

pub adds_text : (old : Tags) (key : List ℕ) (d : Data) (text : List ℕ) (new : Tags) → as_str d ≡ Some text → new ≡ old ++ (key, text) ∷ [] → AddsTag old key d new
adds_text old key d text new h grown = record { added = (key, text) ∷ []; texts = text_read key d text h; grown = grown }

-- ---- the members

values_all : (es : List Pair) (e : Pair) (more : List Pair) → member_values (listed (es ++ e ∷ more)) ≡ member_values (listed es) ++ e.1 ∷ member_values (listed more)
values_all [] e more = refl
values_all (x ∷ es) e more = ap (λ ds. x.1 ∷ ds) (values_all es e more)

-- what a member behind others adds to what they gave
module _ (last : Tags) where
  then : Option Tags → Option Tags
  then None = None
  then (Some texts) = Some (texts ++ last)

  then_text : (key text : List ℕ) (o p : Option Tags) → o ≡ then p → option_map (λ texts. (key, text) ∷ texts) o ≡ then (option_map (λ texts. (key, text) ∷ texts) p)
  unfolding then
  then_text key text o None h = rw h refl
  then_text key text o (Some texts) h = rw h refl

  then_more : (key : List ℕ) (d : Data) (ms all : Members) → texts_in all ≡ then (texts_in ms) → texts_in (has key d all) ≡ then (texts_in (has key d ms))
  unfolding then
  then_more key null ms all h = h
  then_more key (boolean b) ms all h = refl
  then_more key (number n) ms all h = refl
  then_more key (string s) ms all h = then_text key s (texts_in all) (texts_in ms) h
  then_more key (array ds) ms all h = refl
  then_more key (object os) ms all h = refl

  -- the last member gives these texts
  then_last : (es : List Pair) (e : Pair) → texts_in (listed (e ∷ [])) ≡ Some last → texts_in (listed (es ++ e ∷ [])) ≡ then (texts_in (listed es))
  unfolding then
  then_last [] e h = h
  then_last (x ∷ es) e h = then_more x.0 x.1 (listed es) (listed (es ++ e ∷ [])) (then_last es e h)

  texts_more : (es : List Pair) (e : Pair) (texts : Tags) → texts_in (listed es) ≡ Some texts → texts_in (listed (e ∷ [])) ≡ Some last → texts_in (listed (es ++ e ∷ [])) ≡ Some (texts ++ last)
  unfolding then
  texts_more es e texts before h = then_last es e h ∙ ap then before

-- so many members were read, and these are left
pub record TagsSoFar (all left : List Pair) (tags : Tags) : Type 0 where
  pub seen : List Pair
  pub split : all ≡ seen ++ left
  pub read : texts_in (listed seen) ≡ Some tags
  pub clean : NothingOffends (each tag_offends (member_values (listed seen)))

pub tags_begin : (all : List Pair) (tags : Tags) → tags ≡ [] → TagsSoFar all all tags
tags_begin all tags none = record { seen = []; split = refl; read = ap Some (sym none); clean = clean_nothing }

module _ (all left rest : List Pair) (key : List ℕ) (d : Data) (tags : Tags) (split : left ≡ (key, d) ∷ rest) (before : TagsSoFar all left tags) where
  whole : all ≡ before.seen ++ (key, d) ∷ rest
  whole = before.split ∙ ap (λ l. before.seen ++ l) split

  pub tags_more : (new : Tags) → AddsTag tags key d new → NothingOffends (tag_offends d) → TagsSoFar all rest new
  tags_more new adds clean = record {
    seen = before.seen ++ (key, d) ∷ [];
    split = whole ∙ sym (append_assoc before.seen ((key, d) ∷ []) rest);
    read = texts_more adds.added before.seen (key, d) tags before.read adds.texts ∙ ap Some (sym adds.grown);
    clean = rw (values_all before.seen (key, d) []) (clean_one_more tag_offends (member_values (listed before.seen)) d before.clean clean);
  }

  pub tags_halt : (halt : Halt Cause) → Halts halt (tag_offends d) → Halts halt (each tag_offends (member_values (listed all)))
  tags_halt halt h =
      rw whole (rw (values_all before.seen (key, d) rest) (halts_at tag_offends halt (member_values (listed before.seen)) d (member_values (listed rest)) before.clean h))

module _ (all left : List Pair) (tags : Tags) (none : left ≡ []) (before : TagsSoFar all left tags) where
  same : all ≡ before.seen
  same = before.split ∙ (ap (λ l. before.seen ++ l) none ∙ append-nil before.seen)

  pub tags_read : texts_in (listed all) ≡ Some tags
  tags_read = rw same before.read

  pub tags_clean : NothingOffends (each tag_offends (member_values (listed all)))
  tags_clean = rw same before.clean

-- ---- the keys of tags rise as those of the members do

below : (k : List ℕ) (es : List Pair) (tags : Tags) → AllByRecursion (λ y. slice_cmp nat_cmp k y ≡ Less) (map (λ e. e.0) es)
    → texts_in (listed es) ≡ Some tags → AllByRecursion (λ y. slice_cmp nat_cmp k y ≡ Less) (map (λ tag. tag.0) tags)
below k [] [] h is = tt
below k [] (t ∷ tags) h is = cc
below k (e ∷ es) tags h is = on e.1 is (λ more rest. below k es more h.1 rest)
  where
    first : (text : List ℕ) (o : Option Tags) → texts_in (listed es) ≡ o → option_map (λ texts. (e.0, text) ∷ texts) o ≡ Some tags
        → ((more : Tags) → texts_in (listed es) ≡ Some more → AllByRecursion (λ y. slice_cmp nat_cmp k y ≡ Less) (map (λ tag. tag.0) more))
        → AllByRecursion (λ y. slice_cmp nat_cmp k y ≡ Less) (map (λ tag. tag.0) tags)
    first text None rest made later = cc
    first text (Some more) rest made later =
        let all : (e.0, text) ∷ more ≡ tags = cc in
        subst (λ (l : Tags). AllByRecursion (λ y. slice_cmp nat_cmp k y ≡ Less) (map (λ tag. tag.0) l)) all (h.0, later more rest)

    on : (d : Data) → texts_in (has e.0 d (listed es)) ≡ Some tags
        → ((more : Tags) → texts_in (listed es) ≡ Some more → AllByRecursion (λ y. slice_cmp nat_cmp k y ≡ Less) (map (λ tag. tag.0) more))
        → AllByRecursion (λ y. slice_cmp nat_cmp k y ≡ Less) (map (λ tag. tag.0) tags)
    on null made later = later tags made
    on (string text) made later = first text (texts_in (listed es)) refl made later
    on (boolean b) made later = cc
    on (number n) made later = cc
    on (array ds) made later = cc
    on (object ms) made later = cc

pub tags_rise : (es : List Pair) (tags : Tags) → NamesRise es → texts_in (listed es) ≡ Some tags → TagsRise tags
unfolding IsStrictlySortedBy
tags_rise [] [] h is = tt
tags_rise [] (t ∷ tags) h is = cc
tags_rise (e ∷ es) tags h is = on e.1 is (λ more rest. tags_rise es more h.1 rest)
  where
    first : (text : List ℕ) (o : Option Tags) → texts_in (listed es) ≡ o → option_map (λ texts. (e.0, text) ∷ texts) o ≡ Some tags
        → ((more : Tags) → texts_in (listed es) ≡ Some more → TagsRise more) → TagsRise tags
    first text None rest made later = cc
    first text (Some more) rest made later =
        let all : (e.0, text) ∷ more ≡ tags = cc in
        subst TagsRise all (below e.0 es more h.0 rest, later more rest)

    on : (d : Data) → texts_in (has e.0 d (listed es)) ≡ Some tags → ((more : Tags) → texts_in (listed es) ≡ Some more → TagsRise more) → TagsRise tags
    on null made later = later tags made
    on (string text) made later = first text (texts_in (listed es)) refl made later
    on (boolean b) made later = cc
    on (number n) made later = cc
    on (array ds) made later = cc
    on (object ms) made later = cc

pub none_rise : TagsRise []
unfolding IsStrictlySortedBy
none_rise = tt

-- ---- names that rise in the text

abbrev names : List Pair → List (List ℕ)
names ms = map (λ m. m.0) ms

abbrev Rises : List (List ℕ) → Type 0
Rises ks = IsStrictlySortedBy (slice_cmp nat_cmp) ks

pub no_names : (ms : List Pair) → ms ≡ [] → NamesRise ms
unfolding IsStrictlySortedBy
no_names ms h = rw h tt

pub one_name : (k : List ℕ) → Rises (k ∷ [])
unfolding IsStrictlySortedBy
one_name k = (tt, tt)

pub name_before : (k l : List ℕ) (ks : List (List ℕ)) → slice_cmp nat_cmp k l ≡ Less → Rises (l ∷ ks) → Rises (k ∷ l ∷ ks)
unfolding IsStrictlySortedBy
name_before k l ks less h = ((less, all ks h.0), h)
  where
    all : (qs : List (List ℕ)) → AllByRecursion (λ y. slice_cmp nat_cmp l y ≡ Less) qs → AllByRecursion (λ y. slice_cmp nat_cmp k y ≡ Less) qs
    all [] h = tt
    all (q ∷ qs) h = (nat_list_cmp_total.trans k l q less h.0, all qs h.1)

pub not_above : (o : Ordering) → is_ge o ≡ false → o ≡ Less
not_above Less h = refl
not_above Equal h = cc
not_above Greater h = cc

-- one of a name below the others stays in front
put_above : (k l : List ℕ) (d e : Data) (ms : Members) → slice_cmp nat_cmp k l ≡ Less → put l e (has k d ms) ≡ has k d (put l e ms)
put_above k l d e ms less =
    ap (λ o. match_ordering o (has l e (has k d ms)) (has k e ms) (has k d (put l e ms))) (nat_list_cmp_total.antisymm l k ∙ ap ordering_reverse less)

put_behind : (k : List ℕ) (d : Data) (ms : List Pair) (found : Members) → AllByRecursion (λ y. slice_cmp nat_cmp k y ≡ Less) (names ms)
    → put_all ms (has k d found) ≡ has k d (put_all ms found)
put_behind k d [] found h = refl
put_behind k d (m ∷ ms) found h = ap (put_all ms) (put_above k m.0 d m.1 found h.0) ∙ put_behind k d ms (put m.0 m.1 found) h.1

pub put_rising : (ms : List Pair) → NamesRise ms → listed ms ≡ put_all ms no_members
unfolding IsStrictlySortedBy
put_rising [] h = refl
put_rising (m ∷ ms) h = ap (has m.0 m.1) (put_rising ms h.1) ∙ sym (put_behind m.0 m.1 ms no_members h.0)

-- ---- members by their names

abbrev Named : Type 0
Named = Bor (List ℕ) × Lent

pub named_listed : (es : List Named) → listed (pairs_in es) ≡ named_members es
named_listed [] = refl
named_listed (e ∷ es) = ap (has e.0.now (lent_view e.1)) (named_listed es)

pub named_rise : (es : List Named) → IsStrictlySortedBy (λ x y. slice_cmp nat_cmp x.now y.now) (keys_of es) → NamesRise (pairs_in es)
unfolding IsStrictlySortedBy
named_rise [] h = tt
named_rise (e ∷ es) h = (all es h.0, named_rise es h.1)
  where
    all : (fs : List Named) → AllByRecursion (λ y. slice_cmp nat_cmp e.0.now y.now ≡ Less) (keys_of fs) → AllByRecursion (λ y. slice_cmp nat_cmp e.0.now y ≡ Less) (names (pairs_in fs))
    all [] h = tt
    all (f ∷ fs) h = (h.0, all fs h.1)

-- ---- what was answered of the members, of the value that has them

module _ (read ms : Members) (held : Option Members) (same : read ≡ ms) (is : Some ms ≡ held) where
  pub tags_held : (tags : Tags) → texts_in read ≡ Some tags → OfKind (λ texts members. texts_in members ≡ Some texts) tags held
  tags_held tags h = record { held = ms; shape = sym is; means = sym (ap texts_in same) ∙ h }

  pub clean_held : NothingOffends (each tag_offends (member_values read)) → NothingOffends (valued (λ members. each tag_offends (member_values members)) held)
  clean_held h =
      subst (λ o. NothingOffends (valued (λ members. each tag_offends (member_values members)) o)) is (subst (λ m. NothingOffends (each tag_offends (member_values m))) same h)

  pub halts_held : (halt : Halt Cause) → Halts halt (each tag_offends (member_values read)) → Halts halt (valued (λ members. each tag_offends (member_values members)) held)
  halts_held halt h =
      subst (λ o. Halts halt (valued (λ members. each tag_offends (member_values members)) o)) is (subst (λ m. Halts halt (each tag_offends (member_values m))) same h)
