-- Values put at the places whose names they have.
use Rattle.std.proofs.Common.{◌≡◌, ℕ, zero, suc, ◌<◌, List, [], ◌∷◌, length, get_or, map, take, set, Bool, true, false, cond, Option, Some, None, option_map, Bor, refl, sym, ap, ◌∙◌, arith}
use Rattle.std.specs.List.{AllZip}
use Rattle.std.specs.Str.{bytes_eq}
use Rattle.serde_json.specs.Data.{Data, null, boolean, number, string, array, object, no_members}
use Rattle.serde_json.specs.Find.{get, as_object}
use Rattle.json_nodes.specs.Lents.{lent_view}
use Rattle.json_nodes.specs.private.Parts.{later_or, last_value}
use Rattle.json_nodes.specs.Nodes.{put_all}
use Rattle.json_nodes.specs.declared.lent.Lent.{Lent}
use Rattle.json_nodes.specs.private.Asked.{put_where}
use Rattle.json_nodes.proofs.MemberLemmas.{seen_more, last_counts, get_of}

abbrev Names : Type 0
Names = List (Bor (List ℕ))

pub put_here : (k : List ℕ) (v : Lent) (names : Names) (i : ℕ) (d : Bor (List ℕ)) (os : List (Option Lent)) → i < length names → bytes_eq k (get_or names i d).now ≡ true → put_where k v (take (suc i) names) os ≡ set (put_where k v (take i names) os) i (Some v)
put_here k v [] i d os h same = absurd (omega arith)
put_here k v (n ∷ ns) zero d [] h same = refl
put_here k v (n ∷ ns) zero d (o ∷ os) h same = ap (λ b. cond b (Some v) o ∷ os) same
put_here k v (n ∷ ns) (suc i) d [] h same = refl
put_here k v (n ∷ ns) (suc i) d (o ∷ os) h same = ap (λ l. cond (bytes_eq k n.now) (Some v) o ∷ l) (put_here k v ns i d os (omega arith) same)

pub not_here : (k : List ℕ) (v : Lent) (names : Names) (i : ℕ) (d : Bor (List ℕ)) (os : List (Option Lent)) → i < length names → bytes_eq k (get_or names i d).now ≡ false → put_where k v (take (suc i) names) os ≡ put_where k v (take i names) os
not_here k v [] i d os h other = absurd (omega arith)
not_here k v (n ∷ ns) zero d [] h other = refl
not_here k v (n ∷ ns) zero d (o ∷ os) h other = ap (λ b. cond b (Some v) o ∷ os) other
not_here k v (n ∷ ns) (suc i) d [] h other = refl
not_here k v (n ∷ ns) (suc i) d (o ∷ os) h other = ap (λ l. cond (bytes_eq k n.now) (Some v) o ∷ l) (not_here k v ns i d os (omega arith) other)

-- ---- what is so far found of each

-- the last value of this name is behind, or else the one that was found
abbrev pub Finds : (all left : List (List ℕ × Data)) → Bor (List ℕ) → Option Lent → Type 0
Finds all left name o = last_value name.now all ≡ later_or (last_value name.now left) (option_map lent_view o)

here_or_before : (b : Bool) (v : Lent) (o : Option Lent) → later_or (cond b (Some (lent_view v)) None) (option_map lent_view o) ≡ option_map lent_view (cond b (Some v) o)
here_or_before true v o = refl
here_or_before false v o = refl

finds_more : (all left : List (List ℕ × Data)) (k : List ℕ) (v : Lent) (name : Bor (List ℕ)) (o : Option Lent) → Finds all ((k, lent_view v) ∷ left) name o → Finds all left name (cond (bytes_eq k name.now) (Some v) o)
finds_more all left k v name o h =
    h ∙ seen_more k name.now (lent_view v) left (option_map lent_view o)
    ∙ ap (later_or (last_value name.now left)) (here_or_before (bytes_eq k name.now) v o)

pub all_find_more : (all left : List (List ℕ × Data)) (k : List ℕ) (v : Lent) (names : Names) (os : List (Option Lent)) → AllZip (Finds all ((k, lent_view v) ∷ left)) names os → AllZip (Finds all left) names (put_where k v names os)
all_find_more all left k v [] [] h = tt
all_find_more all left k v [] (o ∷ os) h = elim h [ ]
all_find_more all left k v (n ∷ ns) [] h = elim h [ ]
all_find_more all left k v (n ∷ ns) (o ∷ os) h = (finds_more all left k v n o h.0, all_find_more all left k v ns os h.1)

pub all_none : (P : Bor (List ℕ) → Option Lent → Type 0) (names : Names) → ((name : Bor (List ℕ)) → P name None) → AllZip P names (map (λ name. None) names)
all_none P [] h = tt
all_none P (n ∷ ns) h = (h n, all_none P ns h)

pub all_weaker : (P Q : Bor (List ℕ) → Option Lent → Type 0) (names : Names) (os : List (Option Lent)) → ((name : Bor (List ℕ)) (o : Option Lent) → P name o → Q name o) → AllZip P names os → AllZip Q names os
all_weaker P Q [] [] f h = tt
all_weaker P Q [] (o ∷ os) f h = elim h [ ]
all_weaker P Q (n ∷ ns) [] f h = elim h [ ]
all_weaker P Q (n ∷ ns) (o ∷ os) f h = (f n o h.0, all_weaker P Q ns os f h.1)

-- nothing is found yet
none_before : (o : Option Data) → o ≡ later_or o None
none_before None = refl
none_before (Some d) = refl

pub all_find : (all : List (List ℕ × Data)) (names : Names) → AllZip (Finds all all) names (map (λ name. None) names)
all_find all names = all_none (Finds all all) names (λ name. none_before (last_value name.now all))

pub all_found : (all : List (List ℕ × Data)) (names : Names) (os : List (Option Lent)) → AllZip (Finds all []) names os → AllZip (λ name o. option_map lent_view o ≡ last_value name.now all) names os
all_found all names os h = all_weaker (Finds all []) _ names os (λ name o found. sym found) h

-- ---- in the value that has them

pub none_get : (name : List ℕ) (d : Data) → None ≡ as_object d → None ≡ get name d
none_get name null h = refl
none_get name (boolean b) h = refl
none_get name (number n) h = refl
none_get name (string s) h = refl
none_get name (array ds) h = refl
none_get name (object ms) h = cc

pub each_none : (d : Data) (names : Names) → None ≡ as_object d → AllZip (λ name o. option_map lent_view o ≡ get name.now d) names (map (λ name. None) names)
each_none d names h = all_none _ names (λ name. none_get name.now d h)

pub each_get : (d : Data) (ms : List (List ℕ × Data)) (names : Names) (os : List (Option Lent)) → Some (put_all ms no_members) ≡ as_object d → AllZip (λ name o. option_map lent_view o ≡ last_value name.now ms) names os → AllZip (λ name o. option_map lent_view o ≡ get name.now d) names os
each_get d ms names os h found =
    all_weaker _ _ names os
    (λ name o last. last ∙ sym (last_counts name.now ms) ∙ get_of name.now d (put_all ms no_members) h) found
