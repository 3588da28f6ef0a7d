-- Members by their names: of equal ones the last counts.
use Rattle.std.proofs.Common.{◌≡◌, ℕ, List, [], ◌∷◌, Option, Some, None, cond, Bool, true, false, true≢false, Bor, Ordering, Less, Equal, Greater, nat_cmp, refl, sym, ap, ◌∙◌, subst}
use Rattle.std.proofs.lemmas.Slice.Eq.{bytes_eq-Decides}
use Rattle.std.specs.Str.{bytes_eq}
use Rattle.serde_json.proofs.Views.{get_member-put, get_member-put_other}
use Rattle.serde_json.specs.Data.{Data, null, boolean, number, string, array, object, Members, no_members, put}
use Rattle.serde_json.specs.Find.{get, get_member, as_object}
use Rattle.std.specs.BTreeMap.{insert_entry}
use Rattle.std.specs.Cmp.Lexicographic.{slice_cmp}
use Rattle.std.specs.Ordering.{match_ordering}
use Rattle.json_nodes.specs.Lents.{lent_view, named_members}
use Rattle.json_nodes.specs.declared.lent.Lent.{Lent}
use Rattle.json_nodes.specs.private.Parts.{later_or, last_value}
use Rattle.json_nodes.specs.Nodes.{put_all}

put_at : (same : Bool) (name k : List ℕ) (d : Data) (found : Members) → bytes_eq k name ≡ same → get_member name (put k d found) ≡ later_or (cond same (Some d) None) (get_member name found)
put_at true name k d found e = let is : k ≡ name = (bytes_eq-Decides k name).0 e in subst (λ (n : List ℕ). get_member n (put k d found) ≡ Some d) is (get_member-put k d found)
put_at false name k d found e = get_member-put_other name k d found (λ is. true≢false (sym ((bytes_eq-Decides k name).1 (sym is)) ∙ e))

then_or : (a b c : Option Data) → later_or a (later_or b c) ≡ later_or (later_or a b) c
then_or None b c = refl
then_or (Some d) b c = refl

pub by_name : (name : List ℕ) (ms : List (List ℕ × Data)) (found : Members) → get_member name (put_all ms found) ≡ later_or (last_value name ms) (get_member name found)
by_name name [] found = refl
by_name name (m ∷ ms) found =
    by_name name ms (put m.0 m.1 found) ∙ ap (later_or (last_value name ms)) (put_at (bytes_eq m.0 name) name m.0 m.1 found refl)
    ∙ then_or (last_value name ms) (cond (bytes_eq m.0 name) (Some m.1) None) (get_member name found)

nothing_before : (o : Option Data) → later_or o None ≡ o
nothing_before None = refl
nothing_before (Some d) = refl

pub last_counts : (name : List ℕ) (ms : List (List ℕ × Data)) → get_member name (put_all ms no_members) ≡ last_value name ms
last_counts name ms = by_name name ms no_members ∙ nothing_before (last_value name ms)

-- ---- as a loop goes through them

pub seen_more : (k name : List ℕ) (d : Data) (ms : List (List ℕ × Data)) (earlier : Option Data) → later_or (last_value name ((k, d) ∷ ms)) earlier ≡ later_or (last_value name ms) (later_or (cond (bytes_eq k name) (Some d) None) earlier)
seen_more k name d ms earlier = sym (then_or (last_value name ms) (cond (bytes_eq k name) (Some d) None) earlier)

-- ---- members put into a map

abbrev Named : Type 0
Named = Bor (List ℕ) × Lent

abbrev key_cmp : Bor (List ℕ) → Bor (List ℕ) → Ordering
key_cmp x y = slice_cmp nat_cmp x.now y.now

named_match : (o : Ordering) (a b c : List Named) → named_members (match_ordering o a b c) ≡ match_ordering o (named_members a) (named_members b) (named_members c)
named_match Less a b c = refl
named_match Equal a b c = refl
named_match Greater a b c = refl

pub named_insert : (ms : List Named) (k : Bor (List ℕ)) (v : Lent) → named_members (insert_entry key_cmp ms k v) ≡ put k.now (lent_view v) (named_members ms)
named_insert [] k v = refl
named_insert (m ∷ ms) k v = named_match (key_cmp k m.0) _ _ _ ∙ rw (named_insert ms k v) refl

-- ---- members of the value that has them

pub get_of : (name : List ℕ) (d : Data) (ms : Members) → Some ms ≡ as_object d → get_member name ms ≡ get name d
get_of name null ms h = cc
get_of name (boolean b) ms h = cc
get_of name (number n) ms h = cc
get_of name (string s) ms h = cc
get_of name (array ds) ms h = cc
get_of name (object os) ms h = let same : ms ≡ os = cc in ap (get_member name) same
