-- The remarks on groups: there are none exactly where no tag of a span is left out.
use Rattle.std.proofs.Common.{◌≡◌, ℕ, suc, ◌+◌, ◌≤◌, List, [], ◌∷◌, ◌++◌, length, map, take, drop, All, refl, sym, ap, ◌∙◌, subst, arith}
use Rattle.std.proofs.lemmas.List.{length-append, length-drop, length-map, take-append-drop}
use Rattle.std.proofs.lemmas.List.Elements.{All-nil, All-cons, All-head, All-tail, All-append, All-map, All-take, All-drop}
use Rattle.std.specs.List.{flat_map}
use Rattle.span_tags.specs.Runs.{scoped}
use Rattle.trace_model.specs.OtlpParts.{NotedGroup}
use Rattle.trace_model.specs.Remarks.{Keys, numbered}
use Rattle.trace_model.specs.declared.group.Group.{Group}
use Rattle.zipkin_json.specs.declared.span.ZSpan.{ZSpan}
use Rattle.map_zipkin.specs.StatedLaws.{GroupsNoted}
use Rattle.map_zipkin.specs.NotedGroups.{plain_noted, left_out_remarks, spans_in, with_left_out}
use Rattle.map_zipkin.specs.Reading.{run_span_of, groups_of}
use Rattle.map_zipkin.specs.Regrouped.{RunSpan, run_of, runs_of}
use Rattle.map_zipkin.specs.Remarks.{zipkin_left_out}
use Rattle.map_zipkin.proofs.GroupsAtBack.{groups_left}
use Rattle.map_zipkin.proofs.Regrouping.{regrouped_spans}

abbrev IsEmpty : Keys → Type 0
IsEmpty keys = keys ≡ []

-- ---- where nothing is left out

none_numbered : (n : ℕ) (left_out : List Keys) → All IsEmpty left_out → numbered left_out_remarks n left_out ≡ []
unfolding numbered
none_numbered n [] all = refl
none_numbered n (keys ∷ left_out) all =
    ap (λ (k : Keys). left_out_remarks n k ++ numbered left_out_remarks (suc n) left_out) (All-head IsEmpty keys left_out all)
    ∙ none_numbered (suc n) left_out (All-tail IsEmpty keys left_out all)

plain_left : (groups : List Group) (left_out : List Keys) → All IsEmpty left_out → with_left_out groups left_out ≡ map plain_noted groups
plain_left [] left_out all = refl
plain_left (group ∷ groups) left_out all =
    let notes = none_numbered 1 (take (spans_in group) left_out) (All-take IsEmpty (spans_in group) left_out all) in
    let more = plain_left groups (drop (spans_in group) left_out) (All-drop IsEmpty (spans_in group) left_out all) in
    λ i. record { means = group; notes = notes i } ∷ more i

-- ---- where there is no remark

both_none : {A : Type 0} (a b : List A) → a ++ b ≡ [] → (a ≡ []) × (b ≡ [])
both_none [] b e = (refl, e)
both_none (x ∷ a) b e = absurd (cc)

none_left : (n : ℕ) (keys : Keys) → left_out_remarks n keys ≡ [] → keys ≡ []
none_left n [] e = refl
none_left n (key ∷ keys) e = absurd (cc)

all_empty : (n : ℕ) (left_out : List Keys) → numbered left_out_remarks n left_out ≡ [] → All IsEmpty left_out
unfolding numbered
all_empty n [] e = All-nil IsEmpty
all_empty n (keys ∷ left_out) e =
    let parts = both_none (left_out_remarks n keys) (numbered left_out_remarks (suc n) left_out) e in
    All-cons IsEmpty keys left_out (none_left n keys parts.0) (all_empty (suc n) left_out parts.1)

first_is : (a b : NotedGroup) (l m : List NotedGroup) → a ∷ l ≡ b ∷ m → a ≡ b
first_is a b l m e = cc

rest_is : (a b : NotedGroup) (l m : List NotedGroup) → a ∷ l ≡ b ∷ m → l ≡ m
rest_is a b l m e = cc

first_count : (group : Group) (groups : List Group) → length (flat_map runs_of (group ∷ groups)) ≡ spans_in group + length (flat_map runs_of groups)
first_count group groups =
    length-append (runs_of group) (flat_map runs_of groups)
    ∙ ap (λ n. n + length (flat_map runs_of groups)) (length-map (scoped group.scopes) (run_of group.resource))

-- no span has keys that stand in no group's remarks
left_plain : (groups : List Group) (left_out : List Keys) → length left_out ≤ length (flat_map runs_of groups) → with_left_out groups left_out ≡ map plain_noted groups
    → All IsEmpty left_out
left_plain [] [] fits e = All-nil IsEmpty
left_plain [] (keys ∷ left_out) fits e = absurd (omega (arith, fits))
left_plain (group ∷ groups) left_out fits e =
    let n = spans_in group in
    let noted : NotedGroup = record { means = group; notes = numbered left_out_remarks 1 (take n left_out) } in
    let more = with_left_out groups (drop n left_out) in
    let none = ap (λ (g : NotedGroup). g.notes) (first_is noted (plain_noted group) more (map plain_noted groups) e) in
    let rest = rest_is noted (plain_noted group) more (map plain_noted groups) e in
    let within : length (drop n left_out) ≤ length (flat_map runs_of groups) = omega (arith, fits, first_count group groups, length-drop n left_out) in
    subst (All IsEmpty) (take-append-drop n left_out)
    (All-append IsEmpty (take n left_out) (drop n left_out) (all_empty 1 (take n left_out) none) (left_plain groups (drop n left_out) within rest))

-- ---- the law

each_empty : (spans : List ZSpan) → All IsEmpty (map zipkin_left_out spans) → All (λ span. zipkin_left_out span ≡ []) spans
each_empty [] all = All-nil (λ span. zipkin_left_out span ≡ [])
each_empty (span ∷ spans) all = All-cons (λ span. zipkin_left_out span ≡ []) span spans
    (All-head IsEmpty (zipkin_left_out span) (map zipkin_left_out spans) all) (each_empty spans (All-tail IsEmpty (zipkin_left_out span) (map zipkin_left_out spans) all))

as_many : (spans : List ZSpan) → length (map zipkin_left_out spans) ≡ length (flat_map runs_of (groups_of spans))
as_many spans =
    length-map spans zipkin_left_out ∙ sym (length-map spans run_span_of) ∙ sym (ap (λ (l : List RunSpan). length l) (regrouped_spans (map run_span_of spans)))

pub groups_noted : GroupsNoted
groups_noted = record {
  groups = λ spans. groups_left (groups_of spans) (map zipkin_left_out spans);
  plainly = λ spans. (
    λ e. each_empty spans (left_plain (groups_of spans) (map zipkin_left_out spans) (omega (arith, as_many spans)) e),
    λ all. plain_left (groups_of spans) (map zipkin_left_out spans) (All-map IsEmpty zipkin_left_out spans all),
  );
}
