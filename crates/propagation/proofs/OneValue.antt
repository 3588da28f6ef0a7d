-- What a value of a header tells is one thing.
use Rattle.std.proofs.Common.{◌≡◌, ℕ, List, [], ◌∷◌, ◌++◌, refl, sym, ap, subst, ◌∙◌, arith}
use Rattle.std.specs.Prelude.{All, Option, Some, None}
use Rattle.std.specs.Char.{IsAsciiHexdigit}
use Rattle.std.specs.Str.Parse.{digits_value}
use Rattle.std.proofs.lemmas.List.{append-nil}
use Rattle.span_ids.specs.HexTexts.{SpellsInHex}
use Rattle.span_ids.specs.declared.hex_text.IdRule.{IdRule}
use Rattle.span_ids.specs.declared.hex_text.IdRule.TheVariants as rules
use Rattle.propagation.specs.Traceparent.{ReadsTraceparent, flagged_sampling}
use Rattle.propagation.specs.B3.{IsB3State, IsB3End, ReadsB3}
use Rattle.propagation.specs.Uber.{IsColon, IsUberParent, ReadsUber, uber_sampling}
use Rattle.propagation.specs.declared.ids.Ids.{Ids}
use Rattle.propagation.specs.declared.sampling.Sampling.{Sampling}
use Rattle.propagation.specs.declared.sampling.Sampling.TheVariants.{Absent, No, Yes, Debug}
use Rattle.propagation.proofs.FrontLemmas.{lead_once, first_once}
use Rattle.propagation.proofs.ReadLemmas.{dash_ends, colon_ends, colon_once, spelled_digits, ids_are}
use Rattle.propagation.proofs.TraceparentLemmas.{CutsOnly, after_version, after_trace, version_digits, trace_part_digits, span_part_digits, flag_digits, version_cut, more_ends, trace_cut, span_cut, same_traceparent_parts}
use Rattle.propagation.proofs.UberLemmas.{ColonCutsOnly, parent_digits, parent_once, after_first, after_second, uber_first_cut, uber_second_cut, uber_third_cut, same_uber_parts}
use Rattle.propagation.proofs.B3Lemmas.{IsParentBehind, state_digits, state_then, behind_ends, end_ends}

-- ---- identifiers

pub spelled_once : (rule other : IdRule) (full : ℕ) (text same : List ℕ) (a b : ℕ) → text ≡ same → SpellsInHex rule full text a → SpellsInHex other full same b → a ≡ b
spelled_once rule other full text same a b e h k = h.1 ∙ ap (λ s. digits_value 16 s) e ∙ sym k.1

pub ids_equal : (a b : Ids) → a.trace ≡ b.trace → a.span ≡ b.span → a.parent ≡ b.parent → a ≡ b
ids_equal a b e f g = ids_are b a.trace a.span a.parent e f g

-- ---- traceparent

dash_cuts : (text front rest : List ℕ) → All IsAsciiHexdigit front → text ≡ front ++ 45 ∷ rest → CutsOnly text front rest
dash_cuts text front rest kind whole f r h e =
    let same = lead_once IsAsciiHexdigit front (45 ∷ rest) f (45 ∷ r) (sym whole ∙ e) kind h dash_ends dash_ends in
    let behind : rest ≡ r = cc in
    (same.0, behind)

pub one_traceparent : (value : List ℕ) (i j : Ids) (s t : Sampling) → ReadsTraceparent value i s → ReadsTraceparent value j t → (i ≡ j) × (s ≡ t)
one_traceparent value i j s t (p, h, e) (q, k, f) =
    let same = same_traceparent_parts value p.version (after_version p) p.trace (after_trace p) p.span (p.flags ++ p.more) p.flags p.more
    (dash_cuts value p.version (after_version p) (version_digits value p i s h e) (version_cut value p i s h e))
    (dash_cuts (after_version p) p.trace (after_trace p) (trace_part_digits value p i s h e) (trace_cut p))
    (dash_cuts (after_trace p) p.span (p.flags ++ p.more) (span_part_digits value p i s h e) (span_cut p))
    (record { whole = refl; kind = flag_digits value p i s h e; ended = more_ends p.version p.more h.more })
    q j t k f in (
      ids_equal i j (spelled_once rules.ExactLower rules.ExactLower 32 p.trace q.trace i.trace j.trace same.trace_is h.trace k.trace)
          (spelled_once rules.ExactLower rules.ExactLower 16 p.span q.span i.span j.span same.span_is h.span k.span)
          (h.parent ∙ sym k.parent),
      h.sampled ∙ ap (λ x. flagged_sampling (digits_value 16 x)) same.flags_is ∙ sym k.sampled,
    )

-- ---- b3

pub state_once : (text : List ℕ) (s t : Sampling) → IsB3State text s → IsB3State text t → s ≡ t
state_once text Absent t h k = absurd h
state_once text No Absent h k = absurd k
state_once text No No h k = refl
state_once text No Yes h k = absurd (let same = first_once text 48 49 [] [] h k in omega arith)
state_once text No Debug h k = absurd (let same = first_once text 48 100 [] [] h k in omega arith)
state_once text Yes Absent h k = absurd k
state_once text Yes No h k = absurd (let same = first_once text 49 48 [] [] h k in omega arith)
state_once text Yes Yes h k = refl
state_once text Yes Debug h k = absurd (let same = first_once text 49 100 [] [] h k in omega arith)
state_once text Debug Absent h k = absurd k
state_once text Debug No h k = absurd (let same = first_once text 100 48 [] [] h k in omega arith)
state_once text Debug Yes h k = absurd (let same = first_once text 100 49 [] [] h k in omega arith)
state_once text Debug Debug h k = refl

nothing_behind : (s : Sampling) (p : Option ℕ) → IsB3End [] s p → (s ≡ Absent) × (p ≡ None)
nothing_behind Absent None h = (refl, refl)
nothing_behind Absent (Some id) (state, parent, told, spelled, e) = absurd told
nothing_behind No None (state, told, e) = cc
nothing_behind No (Some id) (state, parent, told, spelled, e) = cc
nothing_behind Yes None (state, told, e) = cc
nothing_behind Yes (Some id) (state, parent, told, spelled, e) = cc
nothing_behind Debug None (state, told, e) = cc
nothing_behind Debug (Some id) (state, parent, told, spelled, e) = cc

parent_behind_once : (r o : List ℕ) (p q : Option ℕ) → r ≡ o → IsParentBehind r p → IsParentBehind o q → p ≡ q
parent_behind_once r o None None e h k = refl
parent_behind_once r o None (Some b) e h (text, spelled, is) = cc
parent_behind_once r o (Some a) None e (text, spelled, is) k = cc
parent_behind_once r o (Some a) (Some b) e (text, spelled, is) (other, told, at) =
    let same : text ≡ other = cc in
    ap Some (spelled_once rules.Exact rules.Exact 16 text other a b same spelled told)

pub one_end : (end : List ℕ) (s t : Sampling) (p q : Option ℕ) → IsB3End end s p → IsB3End end t q → (s ≡ t) × (p ≡ q)
one_end [] s t p q h k =
    let a = nothing_behind s p h in
    let b = nothing_behind t q k in
    (a.0 ∙ sym b.0, a.1 ∙ sym b.1)
one_end (c ∷ end) s t p q h k =
    let a = state_then (c ∷ end) s p h (λ e. cc) in
    let b = state_then (c ∷ end) t q k (λ e. cc) in
    let whole : a.state ++ a.rest ≡ b.state ++ b.rest = cc (a.whole, b.whole) in
    let same = lead_once IsAsciiHexdigit a.state a.rest b.state b.rest whole (state_digits a.state s a.told) (state_digits b.state t b.told) (behind_ends a.rest p a.behind) (behind_ends b.rest q b.behind) in (
      state_once b.state s t (subst (λ x. IsB3State x s) same.0 a.told) b.told,
      parent_behind_once a.rest b.rest p q same.1 a.behind b.behind,
    )

-- digits alone have no dash behind them
all_digits : (value front rest : List ℕ) → All IsAsciiHexdigit value → All IsAsciiHexdigit front → value ≡ front ++ 45 ∷ rest → ⊥
all_digits value front rest h k e =
    let same = lead_once IsAsciiHexdigit value [] front (45 ∷ rest) (append-nil value ∙ e) h k tt dash_ends in
    let bad = same.1 in
    cc

pub one_b3 : (value : List ℕ) (i j : Option Ids) (s t : Sampling) → ReadsB3 value i s → ReadsB3 value j t → (i ≡ j) × (s ≡ t)
one_b3 value None None s t h k = (refl, state_once value s t h k)
one_b3 value None (Some j) s t h (trace, span, end, in_trace, in_span, in_end, e) =
    absurd (all_digits value trace (span ++ end) (state_digits value s h) (spelled_digits rules.Half 32 trace j.trace in_trace) e)
one_b3 value (Some i) None s t (trace, span, end, in_trace, in_span, in_end, e) k =
    absurd (all_digits value trace (span ++ end) (state_digits value t k) (spelled_digits rules.Half 32 trace i.trace in_trace) e)
one_b3 value (Some i) (Some j) s t (trace, span, end, in_trace, in_span, in_end, e) (trace2, span2, end2, in_trace2, in_span2, in_end2, f) =
    let first = lead_once IsAsciiHexdigit trace (45 ∷ (span ++ end)) trace2 (45 ∷ (span2 ++ end2)) (sym e ∙ f)
    (spelled_digits rules.Half 32 trace i.trace in_trace) (spelled_digits rules.Half 32 trace2 j.trace in_trace2) dash_ends dash_ends in
    let behind : span ++ end ≡ span2 ++ end2 = cc (first.1) in
    let second = lead_once IsAsciiHexdigit span end span2 end2 behind
    (spelled_digits rules.Exact 16 span i.span in_span) (spelled_digits rules.Exact 16 span2 j.span in_span2) (end_ends end s i.parent in_end) (end_ends end2 t j.parent in_end2) in
    let third = one_end end2 s t i.parent j.parent (subst (λ x. IsB3End x s i.parent) second.1 in_end) in_end2 in (
      ap Some (ids_equal i j (spelled_once rules.Half rules.Half 32 trace trace2 i.trace j.trace first.0 in_trace in_trace2)
          (spelled_once rules.Exact rules.Exact 16 span span2 i.span j.span second.0 in_span in_span2) third.1),
      third.0,
    )

-- ---- uber-trace-id

colon_cuts : (text front colon rest : List ℕ) → All IsAsciiHexdigit front → IsColon colon → text ≡ front ++ (colon ++ rest) → ColonCutsOnly text front rest
colon_cuts text front colon rest kind is whole f other r h so e =
    let same = lead_once IsAsciiHexdigit front (colon ++ rest) f (other ++ r) (sym whole ∙ e) kind h (colon_ends colon rest is) (colon_ends other r so) in
    (same.0, colon_once colon other rest r is so same.1)

uber_parent_once : (text same : List ℕ) (p q : Option ℕ) → text ≡ same → IsUberParent text p → IsUberParent same q → p ≡ q
uber_parent_once text same None q e h k = parent_once text q h (subst (λ x. IsUberParent x q) (sym e) k)
uber_parent_once text same (Some a) None e h k = sym (parent_once same (Some a) k (subst (λ x. IsUberParent x (Some a)) e h))
uber_parent_once text same (Some a) (Some b) e h k = ap Some (spelled_once rules.Padded rules.Padded 16 text same a b e h k)

pub one_uber : (value : List ℕ) (i j : Ids) (s t : Sampling) → ReadsUber value i s → ReadsUber value j t → (i ≡ j) × (s ≡ t)
one_uber value i j s t (p, h, e) (q, k, f) =
    let same = same_uber_parts value p.trace (after_first p) p.span (after_second p) p.parent p.flags
    (colon_cuts value p.trace p.first (after_first p) (spelled_digits rules.Padded 32 p.trace i.trace h.trace) h.first (uber_first_cut value p e))
    (colon_cuts (after_first p) p.span p.second (after_second p) (spelled_digits rules.Padded 16 p.span i.span h.span) h.second (uber_second_cut p))
    (colon_cuts (after_second p) p.parent p.third p.flags (parent_digits p.parent i.parent h.parent) h.third (uber_third_cut p))
    q j t k f in (
      ids_equal i j (spelled_once rules.Padded rules.Padded 32 p.trace q.trace i.trace j.trace same.trace_is h.trace k.trace)
          (spelled_once rules.Padded rules.Padded 16 p.span q.span i.span j.span same.span_is h.span k.span)
          (uber_parent_once p.parent q.parent i.parent j.parent same.parent_is h.parent k.parent),
      h.sampled ∙ ap (λ x. uber_sampling (digits_value 16 x)) same.flags_is ∙ sym k.sampled,
    )
