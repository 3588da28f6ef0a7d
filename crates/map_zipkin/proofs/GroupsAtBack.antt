-- One more span behind the last group.
use Rattle.std.proofs.Common.{◌≡◌, ℕ, suc, ◌+◌, ◌<◌, ◌≤◌, Bool, true, false, ◌&&◌, List, [], ◌∷◌, ◌++◌, length, map, All, take, drop, refl, sym, ap, ◌∙◌, append_assoc, true≢false, drop-cons, nat_le, arith}
use Rattle.std.proofs.Math.ListN.{drop_of_length-le}
use Rattle.std.proofs.lemmas.Bool.{le-leb, leb-true, leb-false}
use Rattle.std.proofs.lemmas.List.{append-nil}
use Rattle.std.proofs.lemmas.List.Elements.{All-nil, All-cons, All-head, All-tail}
use Rattle.std.specs.Str.{bytes_eq}
use Rattle.span_tags.proofs.AttributeLaws.{same_key}
use Rattle.span_tags.proofs.RunLaws.{in_front_spans}
use Rattle.span_tags.specs.Runs.{Scoped, scoped, in_front}
use Rattle.span_tags.specs.TagWords.{Pairs}
use Rattle.trace_model.specs.OtlpParts.{NotedGroup}
use Rattle.trace_model.specs.Remarks.{Keys, numbered}
use Rattle.trace_model.specs.declared.place.Place.TheVariants as places
use Rattle.trace_model.specs.declared.remark.Remark.{Remark}
use Rattle.trace_model.specs.declared.remark.RemarkKind.TheVariants as kinds
use Rattle.trace_model.specs.declared.span.Span.{Span}
use Rattle.trace_model.specs.declared.group.Group.{Group}
use Rattle.trace_model.specs.declared.group.Scope.{Scope}
use Rattle.trace_model.specs.declared.value.Value.{Value, Text, Truth, Number, Eight, Bytes, List', Map', Nothing}
use Rattle.map_zipkin.specs.NotedGroups.{noted_group, left_out_remarks, spans_in, with_left_out}
use Rattle.map_zipkin.specs.private.ReadGroups.{groups_joined, last_alone, moved_to, IsAdded, IsAlone}
use Rattle.map_zipkin.specs.declared.groups.Last.{Last}
use Rattle.map_zipkin.proofs.ReadNormal.{map_append}
use Rattle.map_zipkin.specs.Regrouped.{RunSpan, in_scope, same_text, same_resource, plain_group, before}

-- ---- equal resources

both : (a b : Bool) → a && b ≡ true → (a ≡ true) × (b ≡ true)
both true true e = (refl, refl)
both true false e = absurd (true≢false (sym e))
both false b e = absurd (true≢false (sym e))

text_same : (a b : Value) → same_text a b ≡ true → a ≡ b
text_same (Text a) (Text b) e = ap Text (same_key a b e)
text_same (Text a) (Truth b) e = absurd (true≢false (sym e))
text_same (Text a) (Number b) e = absurd (true≢false (sym e))
text_same (Text a) (Eight b) e = absurd (true≢false (sym e))
text_same (Text a) (Bytes b) e = absurd (true≢false (sym e))
text_same (Text a) (List' shape b) e = absurd (true≢false (sym e))
text_same (Text a) (Map' shape b) e = absurd (true≢false (sym e))
text_same (Text a) Nothing e = absurd (true≢false (sym e))
text_same (Truth a) b e = absurd (true≢false (sym e))
text_same (Number a) b e = absurd (true≢false (sym e))
text_same (Eight a) b e = absurd (true≢false (sym e))
text_same (Bytes a) b e = absurd (true≢false (sym e))
text_same (List' shape a) b e = absurd (true≢false (sym e))
text_same (Map' shape a) b e = absurd (true≢false (sym e))
text_same Nothing b e = absurd (true≢false (sym e))

pub resource_same : (a b : Pairs) → same_resource a b ≡ true → a ≡ b
resource_same [] [] e = refl
resource_same [] (q ∷ b) e = absurd (true≢false (sym e))
resource_same (p ∷ a) [] e = absurd (true≢false (sym e))
resource_same (p ∷ a) (q ∷ b) e =
    let parts = both (bytes_eq p.0 q.0 && same_text p.1 q.1) (same_resource a b) e in
    let one = both (bytes_eq p.0 q.0) (same_text p.1 q.1) parts.0 in
    let rest : a ≡ b = resource_same a b parts.1 in
    λ i. (same_key p.0 q.0 one.0 i, text_same p.1 q.1 one.1 i) ∷ rest i

-- ---- remarks on one more span

-- a group that has one more span in front has its keys in front
taken_one : (one : Scoped Span) (scopes : List Scope) (keys : Keys) (left_out : List Keys)
    → take (length (scoped (in_front one scopes))) (keys ∷ left_out) ≡ keys ∷ take (length (scoped scopes)) left_out
taken_one one scopes keys left_out = ap (λ (l : List (Scoped Span)). take (length l) (keys ∷ left_out)) (in_front_spans one scopes)

dropped_one : (one : Scoped Span) (scopes : List Scope) (keys : Keys) (left_out : List Keys)
    → drop (length (scoped (in_front one scopes))) (keys ∷ left_out) ≡ drop (length (scoped scopes)) left_out
dropped_one one scopes keys left_out = ap (λ (l : List (Scoped Span)). drop (length l) (keys ∷ left_out)) (in_front_spans one scopes)

-- the remarks of a group behind that of its first span
first_then : (keys : Keys) (left_out : List Keys) (remarks : List Remark) → remarks ≡ left_out_remarks 1 keys
    → remarks ++ numbered left_out_remarks 2 left_out ≡ numbered left_out_remarks 1 (keys ∷ left_out)
unfolding numbered
first_then keys left_out remarks e = ap (λ l. l ++ numbered left_out_remarks 2 left_out) e

first_alone : (keys : Keys) (remarks : List Remark) → remarks ≡ left_out_remarks 1 keys → remarks ≡ numbered left_out_remarks 1 (keys ∷ [])
unfolding numbered
first_alone keys remarks e = e ∙ sym (append-nil (left_out_remarks 1 keys))

-- and behind that of one more span
more_then : (keys : Keys) (left_out : List Keys) (old new : List Remark) (n : ℕ) → new ≡ old ++ left_out_remarks n keys
    → new ++ numbered left_out_remarks (suc n) left_out ≡ old ++ numbered left_out_remarks n (keys ∷ left_out)
unfolding numbered
more_then keys left_out old new n e =
    ap (λ l. l ++ numbered left_out_remarks (suc n) left_out) e ∙ append_assoc old (left_out_remarks n keys) (numbered left_out_remarks (suc n) left_out)

more_alone : (keys : Keys) (old new : List Remark) (n : ℕ) → new ≡ old ++ left_out_remarks n keys → new ≡ old ++ numbered left_out_remarks n (keys ∷ [])
unfolding numbered
more_alone keys old new n e = e ∙ ap (λ l. old ++ l) (sym (append-nil (left_out_remarks n keys)))

-- ---- one more span

-- a group of this resource, these scopes and remarks
abbrev noted_plain : Pairs → List Scope → List Remark → NotedGroup
noted_plain resource scopes remarks = record { means = plain_group resource scopes; notes = remarks }

-- a span in front is a group in front
pub front_joins : (one : RunSpan) (keys : Keys) (last : Last) (groups : List Group) (left_out : List Keys) → IsAlone one keys last
    → groups_joined last groups left_out ≡ with_left_out (before one groups) (keys ∷ left_out)
front_joins one keys last [] left_out alone = λ i. noted_plain (alone.resource i) (alone.scopes [] i) (first_alone keys last.remarks alone.remarks i) ∷ []
front_joins one keys last (group ∷ groups) left_out alone = by (same_resource one.0.resource group.resource) refl
  where
    by : (b : Bool) → same_resource one.0.resource group.resource ≡ b
        → groups_joined last (group ∷ groups) left_out ≡ with_left_out (before one (group ∷ groups)) (keys ∷ left_out)
    by true is =
        let its : one.0.resource ≡ group.resource = resource_same one.0.resource group.resource is in
        let here : same_resource last.resource group.resource ≡ true = ap (λ r. same_resource r group.resource) alone.resource ∙ is in
        let number : last.spans + 1 ≡ 2 = ap (λ n. n + 1) alone.spans in
        let taken = sym (taken_one (in_scope one) group.scopes keys left_out) in
        let notes = ap (λ n. last.remarks ++ numbered left_out_remarks n (take (spans_in group) left_out)) number
        ∙ first_then keys (take (spans_in group) left_out) last.remarks alone.remarks
        ∙ ap (numbered left_out_remarks 1) taken in
        rw (here, is) (λ i. noted_plain ((alone.resource ∙ its) i) (alone.scopes group.scopes i) (notes i)
        ∷ with_left_out groups (sym (dropped_one (in_scope one) group.scopes keys left_out) i))
    by false is =
        let here : same_resource last.resource group.resource ≡ false = ap (λ r. same_resource r group.resource) alone.resource ∙ is in
        rw (here, is) (λ i. noted_plain (alone.resource i) (alone.scopes [] i) (first_alone keys last.remarks alone.remarks i) ∷ with_left_out (group ∷ groups) left_out)

-- the span is of the last group
pub joins_more : (one : RunSpan) (keys : Keys) (last more : Last) (groups : List Group) (left_out : List Keys)
    → same_resource last.resource one.0.resource ≡ true → IsAdded one keys last more
    → groups_joined more groups left_out ≡ groups_joined last (before one groups) (keys ∷ left_out)
joins_more one keys last more [] left_out is added =
    rw is (λ i. noted_plain (added.resource i) (added.scopes [] i) (more_alone keys last.remarks more.remarks (last.spans + 1) added.remarks i) ∷ [])
joins_more one keys last more (group ∷ groups) left_out is added = by (same_resource one.0.resource group.resource) refl
  where
    its : last.resource ≡ one.0.resource
    its = resource_same last.resource one.0.resource is

    by : (b : Bool) → same_resource one.0.resource group.resource ≡ b
        → groups_joined more (group ∷ groups) left_out ≡ groups_joined last (before one (group ∷ groups)) (keys ∷ left_out)
    by true with_first =
        let old : same_resource last.resource group.resource ≡ true = ap (λ r. same_resource r group.resource) its ∙ with_first in
        let new : same_resource more.resource group.resource ≡ true = ap (λ r. same_resource r group.resource) added.resource ∙ old in
        let number : more.spans + 1 ≡ suc (last.spans + 1) = omega (arith, added.spans) in
        let taken = sym (taken_one (in_scope one) group.scopes keys left_out) in
        let notes = ap (λ n. more.remarks ++ numbered left_out_remarks n (take (spans_in group) left_out)) number
        ∙ more_then keys (take (spans_in group) left_out) last.remarks more.remarks (last.spans + 1) added.remarks
        ∙ ap (λ l. last.remarks ++ numbered left_out_remarks (last.spans + 1) l) taken in
        rw (with_first, new) (rw old (λ i. noted_plain (added.resource i) (added.scopes group.scopes i) (notes i)
        ∷ with_left_out groups (sym (dropped_one (in_scope one) group.scopes keys left_out) i)))
    by false apart =
        let old : same_resource last.resource group.resource ≡ false = ap (λ r. same_resource r group.resource) its ∙ apart in
        let new : same_resource more.resource group.resource ≡ false = ap (λ r. same_resource r group.resource) added.resource ∙ old in
        let notes = more_alone keys last.remarks more.remarks (last.spans + 1) added.remarks in
        rw (apart, new) (rw is (λ i. noted_plain (added.resource i) (added.scopes [] i) (notes i) ∷ with_left_out (group ∷ groups) left_out))

-- the span is of another
apart_more : (one : RunSpan) (last : Last) (groups : List Group) (left_out : List Keys) → same_resource last.resource one.0.resource ≡ false
    → groups_joined last (before one groups) left_out ≡ last_alone last ∷ with_left_out (before one groups) left_out
apart_more one last [] left_out apart = rw apart refl
apart_more one last (group ∷ groups) left_out apart = by (same_resource one.0.resource group.resource) refl
  where
    by : (b : Bool) → same_resource one.0.resource group.resource ≡ b
        → groups_joined last (before one (group ∷ groups)) left_out ≡ last_alone last ∷ with_left_out (before one (group ∷ groups)) left_out
    by true with_first =
        let its : same_resource last.resource group.resource ≡ false =
        ap (same_resource last.resource) (sym (resource_same one.0.resource group.resource with_first)) ∙ apart in
        rw with_first (rw its refl)
    by false other = rw other (rw apart refl)

-- one more behind what is done
pub pushed : (done new_done : List (Group × List Remark)) (group : Group × List Remark) (noted : NotedGroup)
    → new_done ≡ done ++ group ∷ [] → noted_group group ≡ noted → map noted_group new_done ≡ map noted_group done ++ noted ∷ []
pushed done new_done group noted e is = ap (map noted_group) e ∙ map_append noted_group done (group ∷ []) ∙ ap (λ x. map noted_group done ++ x ∷ []) is

pub added_behind : (one : RunSpan) (keys : Keys) (last next : Last) (done new_done : List NotedGroup) (groups : List Group) (left_out : List Keys)
    → same_resource last.resource one.0.resource ≡ false → IsAlone one keys next → new_done ≡ done ++ last_alone last ∷ []
    → new_done ++ groups_joined next groups left_out ≡ done ++ groups_joined last (before one groups) (keys ∷ left_out)
added_behind one keys last next done new_done groups left_out apart alone more =
    ap (λ d. d ++ groups_joined next groups left_out) more
    ∙ append_assoc done (last_alone last ∷ []) (groups_joined next groups left_out)
    ∙ ap (λ l. done ++ l) (ap (λ l. last_alone last ∷ l) (front_joins one keys next groups left_out alone)
    ∙ sym (apart_more one last groups (keys ∷ left_out) apart))

-- ---- the groups of what is answered, and remarks at another place

pub noted_back : (groups : List (Group × List Remark)) → map (λ (g : NotedGroup). g.means) (map noted_group groups) ≡ map (λ (g : Group × List Remark). g.0) groups
noted_back [] = refl
noted_back (group ∷ groups) = ap (λ (l : List Group). group.0 ∷ l) (noted_back groups)

pub all_first : (P : Group → Type 0) (groups : List (Group × List Remark)) → All P (map (λ (g : Group × List Remark). g.0) groups) → All (λ (g : Group × List Remark). P g.0) groups
all_first P [] all = All-nil (λ (g : Group × List Remark). P g.0)
all_first P (group ∷ groups) all =
    let more = map (λ (g : Group × List Remark). g.0) groups in
    All-cons (λ (g : Group × List Remark). P g.0) group groups (All-head P group.0 more all) (all_first P groups (All-tail P group.0 more all))

pub groups_left : (groups : List Group) (left_out : List Keys) → map (λ (g : NotedGroup). g.means) (with_left_out groups left_out) ≡ groups
groups_left [] left_out = refl
groups_left (group ∷ groups) left_out = ap (λ (l : List Group). group ∷ l) (groups_left groups (drop (spans_in group) left_out))

pub moved_tags : (n m : ℕ) (keys : Keys) → map (moved_to (places.Span n)) (left_out_remarks m keys) ≡ left_out_remarks n keys
moved_tags n m [] = refl
moved_tags n m (key ∷ keys) = ap (λ (l : List Remark). record { place = places.Span n; kind = kinds.TagDropped; key = key } ∷ l) (moved_tags n m keys)

-- ---- equal resources, pair after pair

none_left : (l : Pairs) (i : ℕ) (b : Bool) → nat_le (length l) i ≡ b → b ≡ same_resource [] (drop i l)
none_left l i true ended = ap (same_resource []) (sym (drop_of_length-le l (leb-true (length l) i ended)))
none_left [] i false more = absurd (true≢false (sym (le-leb 0 i (omega arith)) ∙ more))
none_left (p ∷ l) i false more =
    let within : i < length (p ∷ l) = leb-false (length (p ∷ l)) i more in
    ap (same_resource []) (sym (drop-cons (p ∷ l) i p within))

pub resource_end : (a b : Pairs) (i : ℕ) → length a ≤ i → i ≤ length a → same_resource (drop i a) (drop i b) ≡ same_resource a b
    → nat_le (length b) (length a) ≡ same_resource a b
resource_end a b i ended within so_far =
    let all : length a ≡ i = omega (arith, ended, within) in
    let none : drop i a ≡ [] = drop_of_length-le a ended in
    ap (nat_le (length b)) all ∙ none_left b i (nat_le (length b) i) refl ∙ ap (λ l. same_resource l (drop i b)) (sym none) ∙ so_far
