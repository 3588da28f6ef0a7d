use Rattle.std.proofs.Common.{◌≡◌, ℕ, List, rules, sym, subst, ◌∙◌}
use Rattle.std.specs.Prelude.{Contains}
use Rattle.std.specs.Ordering.{nat_cmp, is_lt}
use Rattle.std.specs.Cmp.Lexicographic.{slice_cmp}
use Rattle.std.specs.List.{dedup}
use Rattle.std.specs.Str.{bytes_eq}
use Rattle.std.proofs.lemmas.Cmp.{nat_list_cmp_total}
use Rattle.std.proofs.lemmas.Fn.{dedup_same}
use Rattle.std.proofs.lemmas.List.Kept.{IsStrictlySortedBy-dedup, Contains-dedup, Contains-from_dedup}
use Rattle.std.proofs.lemmas.List.Sorted.{answers_always, ranks_by, Contains-permutation, IsPermutation-sym}
use Rattle.std.proofs.lemmas.Map.Text.{is_eq-slice_cmp}
use Rattle.std.proofs.lemmas.Slice.Eq.{bytes_eq-Decides}
use Rattle.trace_model.specs.Attributes.{Rise}
use Rattle.trace_model.proofs.PartLaws.{bytes_eq_equiv}
use Rattle.trace_model.proofs.attributes.keys_in_order.Goals as goal

once : (c : goal.After-from_vec) → c.dedup_by.new.self.items ≡ dedup bytes_eq c.sort_by.new.self.items
once c = dedup_same _ bytes_eq _ (λ x y b f' x' y' k. search rules) _ _ c.dedup_by.ensures.filtered

pub returns : goal.returns
returns c =
    let all : c.from_vec.result ≡ dedup bytes_eq c.sort_by.new.self.items = c.from_vec.ensures ∙ once c in
    let moved = c.in_ok-sort_by.ensures.permutation in
    let came : c.into_vec-sorted.result.items ≡ c.args.keys = c.into_vec-sorted.ensures.items in record {
      rising = subst Rise (sym all) (IsStrictlySortedBy-dedup nat_list_cmp_total (λ x y. sym (is_eq-slice_cmp x y)) c.sort_by.new.self.items
          (c.in_ok-sort_by.ensures.sorted (λ x y. is_lt (slice_cmp nat_cmp x y)) (ranks_by nat_list_cmp_total (λ (x : List ℕ). x)) (answers_always _ _ _ (λ f a r g called. search rules))));
      same = λ key. (
        λ there. subst (λ l. Contains l key) came (Contains-permutation c.sort_by.new.self.items c.into_vec-sorted.result.items key (IsPermutation-sym c.into_vec-sorted.result.items c.sort_by.new.self.items moved)
            (Contains-from_dedup bytes_eq c.sort_by.new.self.items key (subst (λ l. Contains l key) all there))),
        λ there. subst (λ l. Contains l key) (sym all) (Contains-dedup bytes_eq_equiv (λ x y e. (bytes_eq-Decides x y).0 e) c.sort_by.new.self.items key
            (Contains-permutation c.into_vec-sorted.result.items c.sort_by.new.self.items key moved (subst (λ l. Contains l key) (sym came) there))),
      );
    }
