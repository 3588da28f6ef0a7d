-- What is appended of groups.
use Rattle.std.proofs.Common.{◌≡◌, ℕ, zero, suc, ◌==◌, List, [], ◌∷◌, ◌++◌, length, take, drop, map, Bool, false, codes, Some, Result, Ok, Err, OnOk, OnErr, refl, sym, ap, ap₂, subst, ◌∙◌, append_assoc}
use Rattle.std.specs.Fmt.{decimal}
use Rattle.json.specs.Token.{Token, begin_object, end_object, begin_array, end_array, key}
use Rattle.json.specs.Print.{print, print_from, separator, token_text, ends}
use Rattle.json.specs.Tree.{items_tokens}
use Rattle.json.specs.Written.{Written}
use Rattle.serde_json.specs.Data.{Data, string, object, Members, no_members, member}
use Rattle.serde_json.specs.View.{items_of}
use Rattle.serde_json.specs.Written.{items_outline}
use Rattle.serde_json.proofs.Texts.{print-outline}
use Rattle.trace_model.specs.declared.value.Value.{Value}
use Rattle.trace_model.specs.declared.span.Span.{Span}
use Rattle.trace_model.specs.declared.group.Group.{Group}
use Rattle.json_members.specs.Canonical.{MemberRow, members_given, unless_empty, text_data, count_data}
use Rattle.json_members.specs.Writing.{Appends, GrewFront, data_tokens, given_tokens}
use Rattle.json_members.specs.private.Pieces.{rows_tokens, pieces}
use Rattle.json_members.proofs.WritingLaws.{nothing_written, seq, member_rows_written}
use Rattle.otlp_json.specs.Canonical.{decimal_data, list_data, attributes_data, otlp_span_rows, group_rows, group_data, json_group_text}
use Rattle.otlp_json.specs.private.Writing.{part_tokens}

-- ---- what isn't left out

module _ {E : Type 0} (r : Result (Unit {0}) E) (a b : Written) (name : List ℕ) where
  pub decimal_written : (count : ℕ) → (count ≡ 0 → ⊥) → Appends r a b (given_tokens name (Some (string (decimal count)))) → Appends r a b (given_tokens name (decimal_data count))
  decimal_written zero some h = absurd (some refl)
  decimal_written (suc n) some h = h

  filled : (ms : Members) → (ms ≡ no_members → ⊥) → unless_empty ms ≡ Some (object ms)
  filled no_members some = absurd (some refl)
  filled (member k d ms) some = refl

  -- an object of which something is given
  pub object_written : (rows : List MemberRow) → (members_given rows ≡ no_members → ⊥) → Appends r a b (key name ∷ begin_object ∷ rows_tokens rows)
      → Appends r a b (given_tokens name (unless_empty (members_given rows)))
  object_written rows some h =
      subst (λ o. Appends r a b (given_tokens name o)) (sym (filled (members_given rows) some)) (subst (λ l. Appends r a b (key name ∷ begin_object ∷ l)) (sym (member_rows_written rows)) h)

  each_written : {A : Type 0} (data_of : A → Data) (list : List A) → items_tokens (items_outline (items_of (map data_of list))) ≡ pieces (λ x. data_tokens (data_of x)) list ++ end_array ∷ []
  each_written data_of [] = refl
  each_written data_of (x ∷ more) =
      ap (λ l. data_tokens (data_of x) ++ l) (each_written data_of more) ∙ sym (append_assoc (data_tokens (data_of x)) (pieces (λ x. data_tokens (data_of x)) more) (end_array ∷ []))

  -- a list in which something is
  pub list_written : {A : Type 0} (data_of : A → Data) (list : List A) → (length list == 0) ≡ false
      → Appends r a b (key name ∷ begin_array ∷ (pieces (λ x. data_tokens (data_of x)) list ++ end_array ∷ [])) → Appends r a b (given_tokens name (list_data data_of list))
  list_written data_of [] some h = cc
  list_written data_of (x ∷ more) some h = subst (λ l. Appends r a b (key name ∷ begin_array ∷ l)) (sym (each_written data_of (x ∷ more))) h

  each_object : {A : Type 0} (rows_of : A → List MemberRow) (list : List A)
      → pieces (λ x. data_tokens (object (members_given (rows_of x)))) list ≡ pieces (λ x. begin_object ∷ rows_tokens (rows_of x)) list
  each_object rows_of [] = refl
  each_object rows_of (x ∷ more) = ap₂ (λ first rest. begin_object ∷ (first ++ rest)) (member_rows_written (rows_of x)) (each_object rows_of more)

  -- a list of objects in which something is
  pub objects_written : {A : Type 0} (rows_of : A → List MemberRow) (list : List A) → (length list == 0) ≡ false
      → Appends r a b (key name ∷ begin_array ∷ (pieces (λ x. begin_object ∷ rows_tokens (rows_of x)) list ++ end_array ∷ []))
      → Appends r a b (given_tokens name (list_data (λ x. object (members_given (rows_of x))) list))
  objects_written rows_of list some h =
      list_written (λ x. object (members_given (rows_of x))) list some (subst (λ l. Appends r a b (key name ∷ begin_array ∷ (l ++ end_array ∷ []))) (sym (each_object rows_of list)) h)

pub ruleset written = (decimal_written, nothing_written)

-- ---- rows, some at a time

more_rows : (first rows : List MemberRow) → rows_tokens (first ++ rows) ≡ part_tokens first ++ rows_tokens rows
more_rows [] rows = refl
more_rows (row ∷ first) rows = ap (λ l. given_tokens row.0 row.1 ++ l) (more_rows first rows) ∙ sym (append_assoc (given_tokens row.0 row.1) (part_tokens first) (rows_tokens rows))

last_rows : (rows : List MemberRow) → rows_tokens rows ≡ part_tokens rows ++ end_object ∷ []
last_rows [] = refl
last_rows (row ∷ rows) = ap (λ l. given_tokens row.0 row.1 ++ l) (last_rows rows) ∙ sym (append_assoc (given_tokens row.0 row.1) (part_tokens rows) (end_object ∷ []))

in_four : (a b c d : List MemberRow) → rows_tokens (a ++ (b ++ (c ++ d))) ≡ part_tokens a ++ (part_tokens b ++ (part_tokens c ++ (part_tokens d ++ end_object ∷ [])))
in_four a b c d =
    more_rows a (b ++ (c ++ d)) ∙ ap (λ l. part_tokens a ++ l) (more_rows b (c ++ d) ∙ ap (λ l. part_tokens b ++ l) (more_rows c d ∙ ap (λ l. part_tokens c ++ l) (last_rows d)))

pub span_written : {E : Type 0} (r : Result (Unit {0}) E) (a b : Written) (span : Span)
    → (let rows = otlp_span_rows span in Appends r a b (begin_object ∷ (part_tokens (take 4 rows) ++ (part_tokens (take 4 (drop 4 rows)) ++ (part_tokens (take 4 (drop 8 rows)) ++ (part_tokens (drop 12 rows) ++ end_object ∷ []))))))
    → Appends r a b (begin_object ∷ rows_tokens (otlp_span_rows span))
span_written r a b span h =
    let rows = otlp_span_rows span in subst (λ l. Appends r a b (begin_object ∷ l)) (sym (in_four (take 4 rows) (take 4 (drop 4 rows)) (take 4 (drop 8 rows)) (drop 12 rows))) h

-- ---- the bytes that the tokens print

group_tokens : (g : Group) → print (begin_object ∷ rows_tokens (group_rows g)) ≡ json_group_text g
unfolding json_group_text
group_tokens g = ap (λ l. print (begin_object ∷ l)) (sym (member_rows_written (group_rows g))) ∙ print-outline (group_data g)

printed_on : (later : Bool) (front rest : List Token) → (more : List ℕ) × (print_from later (front ++ rest) ≡ print_from later front ++ more)
unfolding print_from
printed_on later [] rest = (print_from later rest, refl)
printed_on later (t ∷ front) rest =
    let on = printed_on (ends t) front rest in (
      on.0,
      ap (λ l. separator later t ++ (token_text t ++ l)) on.1 ∙ sym (append_assoc (separator later t) (token_text t ++ print_from (ends t) front) on.0
          ∙ ap (λ l. separator later t ++ l) (append_assoc (token_text t) (print_from (ends t) front) on.0)),
    )

module _ {E : Type 0} (g : Group) (old new : List ℕ) (a b : Written) (before : a.before ≡ old) (none : a.tokens ≡ []) (items : new ≡ b.before ++ print b.tokens) where
  pub group_ok : (r : Result (Unit {0}) E) → Appends r a b (begin_object ∷ rows_tokens (group_rows g)) → OnOk r (new ≡ old ++ json_group_text g)
  group_ok (Ok u) h =
      let tokens : b.tokens ≡ begin_object ∷ rows_tokens (group_rows g) = h.ok ∙ ap (λ l. l ++ (begin_object ∷ rows_tokens (group_rows g))) none in
      items ∙ ap (λ l. l ++ print b.tokens) (h.before ∙ before) ∙ ap (λ l. old ++ print l) tokens ∙ ap (λ l. old ++ l) (group_tokens g)
  group_ok (Err e) h = tt

  pub group_front : (r : Result (Unit {0}) E) → Appends r a b (begin_object ∷ rows_tokens (group_rows g)) → OnErr r (GrewFront old new (json_group_text g))
  group_front (Ok u) h = tt
  group_front (Err e) h =
      let f = h.err in
      let tokens : b.tokens ≡ f.0 = f.3 ∙ ap (λ l. l ++ f.0) none in
      let on = printed_on false f.0 f.1 in
      record {
        front = print f.0;
        rest = on.0;
        whole = sym (group_tokens g) ∙ ap print f.2 ∙ on.1;
        grew = items ∙ ap (λ l. l ++ print b.tokens) (h.before ∙ before) ∙ ap (λ l. old ++ print l) tokens;
      }

-- ---- objects of which nothing is given

module _ {E : Type 0} (a : Written) (name : List ℕ) where
  pub status_absent : (code : ℕ) (message : List ℕ) → (code ≡ 0) × (message ≡ [])
      → Appends {E = E} (Ok tt) a a (given_tokens name (unless_empty (members_given ((codes "code", count_data code) ∷ (codes "message", text_data message) ∷ []))))
  status_absent code message h = let i = h.0 in let j = h.1 in rw (i, j) (nothing_written a)

  pub scope_absent : (attributes : List (List ℕ × Value)) (dropped : ℕ) (its_name version : List ℕ) → (attributes ≡ []) × (dropped ≡ 0) × (its_name ≡ []) × (version ≡ [])
      → Appends {E = E} (Ok tt) a a (given_tokens name (unless_empty (members_given ((codes "attributes", attributes_data attributes) ∷ (codes "droppedAttributesCount", count_data dropped)
      ∷ (codes "name", text_data its_name) ∷ (codes "version", text_data version) ∷ []))))
  scope_absent attributes dropped its_name version h = let i = h.0 in let j = h.1 in let k = h.2 in let l = h.3 in rw (i, j, k, l) (nothing_written a)

  pub resource_absent : (attributes : List (List ℕ × Value)) (dropped : ℕ) → (attributes ≡ []) × (dropped ≡ 0)
      → Appends {E = E} (Ok tt) a a (given_tokens name (unless_empty (members_given ((codes "attributes", attributes_data attributes) ∷ (codes "droppedAttributesCount", count_data dropped) ∷ []))))
  resource_absent attributes dropped h = let i = h.0 in let j = h.1 in rw (i, j) (nothing_written a)

pub status_there : (code : ℕ) (message : List ℕ) → ((code ≡ 0) × (message ≡ []) → ⊥) → members_given ((codes "code", count_data code) ∷ (codes "message", text_data message) ∷ []) ≡ no_members → ⊥
status_there zero [] some e = some (refl, refl)
status_there zero (x ∷ message) some e = cc
status_there (suc n) message some e = cc

pub resource_there : (attributes : List (List ℕ × Value)) (dropped : ℕ) → ((attributes ≡ []) × (dropped ≡ 0) → ⊥)
    → members_given ((codes "attributes", attributes_data attributes) ∷ (codes "droppedAttributesCount", count_data dropped) ∷ []) ≡ no_members → ⊥
resource_there [] zero some e = some (refl, refl)
resource_there [] (suc n) some e = cc
resource_there (x ∷ more) dropped some e = cc

pub scope_there : (attributes : List (List ℕ × Value)) (dropped : ℕ) (its_name version : List ℕ) → ((attributes ≡ []) × (dropped ≡ 0) × (its_name ≡ []) × (version ≡ []) → ⊥)
    → members_given ((codes "attributes", attributes_data attributes) ∷ (codes "droppedAttributesCount", count_data dropped) ∷ (codes "name", text_data its_name) ∷ (codes "version", text_data version) ∷ []) ≡ no_members → ⊥
scope_there [] zero [] [] some e = some (refl, refl, refl, refl)
scope_there [] zero [] (x ∷ version) some e = cc
scope_there [] zero (x ∷ its_name) version some e = cc
scope_there [] (suc n) its_name version some e = cc
scope_there (x ∷ more) dropped its_name version some e = cc
