-- What is appended of lists, of endpoints and of a span.
use Rattle.std.proofs.Common.{◌≡◌, ℕ, zero, suc, ◌==◌, List, [], ◌∷◌, ◌++◌, length, map, false, Some, Result, Ok, OnOk, OnErr, refl, sym, ap, subst, ◌∙◌, append_assoc}
use Rattle.json.specs.Token.{begin_object, end_object, begin_array, end_array, key}
use Rattle.json.specs.Print.{print}
use Rattle.json.specs.Tree.{members_tokens, items_tokens}
use Rattle.json.specs.Written.{Written}
use Rattle.serde_json.specs.Data.{object}
use Rattle.serde_json.specs.View.{items_of}
use Rattle.serde_json.specs.Written.{members_outline, items_outline}
use Rattle.json_members.specs.Canonical.{members_given}
use Rattle.json_members.proofs.WritingLaws.{nothing_written, member_rows_written, object_tokens, text_ok, text_front}
use Rattle.zipkin_json.specs.Canonical.{endpoint_rows, endpoint_data, annotation_json, tag_members, annotations_data, tags_data, zspan_rows, zspan_text}
use Rattle.json_members.specs.Writing.{Appends, GrewFront, given_tokens}
use Rattle.json_members.specs.private.Pieces.{rows_tokens, pieces}
use Rattle.zipkin_json.specs.private.Writing.{tag_piece, annotation_piece}
use Rattle.zipkin_json.specs.declared.span.Endpoint.{Endpoint}
use Rattle.zipkin_json.specs.declared.span.ZSpan.{ZSpan}

pub tags_written : (tags : List (List ℕ × List ℕ)) → members_tokens (members_outline (tag_members tags)) ≡ pieces tag_piece tags ++ end_object ∷ []
tags_written [] = refl
tags_written (tag ∷ tags) = ap (λ l. tag_piece tag ++ l) (tags_written tags)

pub annotations_written : (list : List (ℕ × List ℕ)) → items_tokens (items_outline (items_of (map annotation_json list))) ≡ pieces annotation_piece list ++ end_array ∷ []
annotations_written [] = refl
annotations_written (a ∷ more) = ap (λ l. annotation_piece a ++ l) (annotations_written more) ∙ sym (append_assoc (annotation_piece a) (pieces annotation_piece more) (end_array ∷ []))

-- an endpoint of which something is given
pub endpoint_there : (ipv4 ipv6 : List ℕ) (port : ℕ) (service : List ℕ) → ((ipv4 ≡ []) × (ipv6 ≡ []) × (port ≡ 0) × (service ≡ []) → ⊥)
    → (let e : Endpoint = record { service = service; ipv4 = ipv4; ipv6 = ipv6; port = port } in endpoint_data e ≡ Some (object (members_given (endpoint_rows e))))
endpoint_there (x ∷ ipv4) ipv6 port service some = refl
endpoint_there [] (x ∷ ipv6) port service some = refl
endpoint_there [] [] (suc port) service some = refl
endpoint_there [] [] zero (x ∷ service) some = refl
endpoint_there [] [] zero [] some = absurd (some (refl, refl, refl, refl))

-- ---- members that are lists or endpoints

module _ {E : Type 0} (r : Result (Unit {0}) E) (a b : Written) (name : List ℕ) where
  pub annotations_there : (list : List (ℕ × List ℕ)) → (length list == 0) ≡ false → Appends r a b (key name ∷ begin_array ∷ (pieces annotation_piece list ++ end_array ∷ []))
      → Appends r a b (given_tokens name (annotations_data list))
  annotations_there [] some h = cc
  annotations_there (x ∷ more) some h = subst (λ l. Appends r a b (key name ∷ begin_array ∷ l)) (sym (annotations_written (x ∷ more))) h

  pub tags_there : (tags : List (List ℕ × List ℕ)) → (length tags == 0) ≡ false → Appends r a b (key name ∷ begin_object ∷ (pieces tag_piece tags ++ end_object ∷ []))
      → Appends r a b (given_tokens name (tags_data tags))
  tags_there [] some h = cc
  tags_there (x ∷ more) some h = subst (λ l. Appends r a b (key name ∷ begin_object ∷ l)) (sym (tags_written (x ∷ more))) h

  pub endpoint_written : (e : Endpoint) → ((e.ipv4 ≡ []) × (e.ipv6 ≡ []) × (e.port ≡ 0) × (e.service ≡ []) → ⊥) → Appends r a b (key name ∷ begin_object ∷ rows_tokens (endpoint_rows e))
      → Appends r a b (given_tokens name (endpoint_data e))
  endpoint_written e some h =
      subst (λ o. Appends r a b (given_tokens name o)) (sym (endpoint_there e.ipv4 e.ipv6 e.port e.service some))
      (subst (λ l. Appends r a b (key name ∷ begin_object ∷ l)) (sym (member_rows_written (endpoint_rows e))) h)

pub endpoint_absent : {E : Type 0} (a : Written) (name : List ℕ) (e : Endpoint) → (e.ipv4 ≡ []) × (e.ipv6 ≡ []) × (e.port ≡ 0) × (e.service ≡ []) → Appends {E = E} (Ok tt) a a (given_tokens name (endpoint_data e))
endpoint_absent {E} a name e h = let i = h.0 in let j = h.1 in let p = h.2 in let s = h.3 in rw (i, j, p, s) (nothing_written a)

pub ruleset lists = (annotations_there, tags_there, nothing_written)

pub ruleset endpoints = (endpoint_written, endpoint_absent)

-- ---- the bytes that the tokens print

span_tokens : (s : ZSpan) → print (begin_object ∷ rows_tokens (zspan_rows s)) ≡ zspan_text s
unfolding zspan_text
span_tokens s = object_tokens (zspan_rows s)

module _ {E : Type 0} (s : ZSpan) (old new : List ℕ) (a b : Written) (before : a.before ≡ old) (none : a.tokens ≡ []) (items : new ≡ b.before ++ print b.tokens) where
  pub span_ok : (r : Result (Unit {0}) E) → Appends r a b (begin_object ∷ rows_tokens (zspan_rows s)) → OnOk r (new ≡ old ++ zspan_text s)
  span_ok r h = text_ok (begin_object ∷ rows_tokens (zspan_rows s)) (zspan_text s) (span_tokens s) old new a b before none items r h

  pub span_front : (r : Result (Unit {0}) E) → Appends r a b (begin_object ∷ rows_tokens (zspan_rows s)) → OnErr r (GrewFront old new (zspan_text s))
  span_front r h = text_front (begin_object ∷ rows_tokens (zspan_rows s)) (zspan_text s) (span_tokens s) old new a b before none items r h
