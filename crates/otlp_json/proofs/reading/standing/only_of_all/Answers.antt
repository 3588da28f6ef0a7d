use Rattle.std.proofs.Common.{sym}
use Rattle.otlp_json.specs.Values.{standing_members}
use Rattle.otlp_json.proofs.StandingLemmas.{several_more, several_here, looked_at, on_any_err}
use Rattle.otlp_json.proofs.reading.standing.only_of_all.Goals as goal

pub returns-in_err-only-clause-several : goal.returns-in_err-only-clause-several
unfolding standing_members
returns-in_err-only-clause-several c =
    on_any_err _ (several_more _ _ (several_more _ _ (several_more _ _ (several_more _ _ (several_more _ _
    (several_here _ _ _ _ c.part_of-text.ensures c.part_of-truth.ensures c.in_err-only.ensures.several))))))

pub returns-in_err-only-2-clause-several : goal.returns-in_err-only-2-clause-several
unfolding standing_members
returns-in_err-only-2-clause-several c =
    let e1 = looked_at _ _ _ _ _ c.part_of-text.ensures c.part_of-truth.ensures c.in_ok-only.ensures.only in
    on_any_err _ (several_more _ _ (several_more _ _ (several_more _ _ (several_more _ _
    (several_here _ _ _ _ e1 c.part_of-number.ensures c.in_err-only-2.ensures.several)))))

pub returns-in_err-only-3-clause-several : goal.returns-in_err-only-3-clause-several
unfolding standing_members
returns-in_err-only-3-clause-several c =
    let e1 = looked_at _ _ _ _ _ c.part_of-text.ensures c.part_of-truth.ensures c.in_ok-only.ensures.only in
    let e2 = looked_at _ _ _ _ _ e1 c.part_of-number.ensures c.in_ok-only-2.ensures.only in
    on_any_err _ (several_more _ _ (several_more _ _ (several_more _ _
    (several_here _ _ _ _ e2 c.part_of-double.ensures c.in_err-only-3.ensures.several))))

pub returns-in_err-only-4-clause-several : goal.returns-in_err-only-4-clause-several
unfolding standing_members
returns-in_err-only-4-clause-several c =
    let e1 = looked_at _ _ _ _ _ c.part_of-text.ensures c.part_of-truth.ensures c.in_ok-only.ensures.only in
    let e2 = looked_at _ _ _ _ _ e1 c.part_of-number.ensures c.in_ok-only-2.ensures.only in
    let e3 = looked_at _ _ _ _ _ e2 c.part_of-double.ensures c.in_ok-only-3.ensures.only in
    on_any_err _ (several_more _ _ (several_more _ _
    (several_here _ _ _ _ e3 c.part_of-list.ensures c.in_err-only-4.ensures.several)))

pub returns-in_err-only-5-clause-several : goal.returns-in_err-only-5-clause-several
unfolding standing_members
returns-in_err-only-5-clause-several c =
    let e1 = looked_at _ _ _ _ _ c.part_of-text.ensures c.part_of-truth.ensures c.in_ok-only.ensures.only in
    let e2 = looked_at _ _ _ _ _ e1 c.part_of-number.ensures c.in_ok-only-2.ensures.only in
    let e3 = looked_at _ _ _ _ _ e2 c.part_of-double.ensures c.in_ok-only-3.ensures.only in
    let e4 = looked_at _ _ _ _ _ e3 c.part_of-list.ensures c.in_ok-only-4.ensures.only in
    on_any_err _ (several_more _ _ (several_here _ _ _ _ e4 c.part_of-map.ensures c.in_err-only-5.ensures.several))

pub returns-clause-only : goal.returns-clause-only
unfolding standing_members
returns-clause-only c =
    let e1 = looked_at _ _ _ _ _ c.part_of-text.ensures c.part_of-truth.ensures c.in_ok-only.ensures.only in
    let e2 = looked_at _ _ _ _ _ e1 c.part_of-number.ensures c.in_ok-only-2.ensures.only in
    let e3 = looked_at _ _ _ _ _ e2 c.part_of-double.ensures c.in_ok-only-3.ensures.only in
    let e4 = looked_at _ _ _ _ _ e3 c.part_of-list.ensures c.in_ok-only-4.ensures.only in
    let e5 = looked_at _ _ _ _ _ e4 c.part_of-map.ensures c.in_ok-only-5.ensures.only in
    rw (sym e5, sym c.part_of-bytes.ensures) c.either-6.ensures.only

pub returns-clause-several : goal.returns-clause-several
unfolding standing_members
returns-clause-several c =
    let e1 = looked_at _ _ _ _ _ c.part_of-text.ensures c.part_of-truth.ensures c.in_ok-only.ensures.only in
    let e2 = looked_at _ _ _ _ _ e1 c.part_of-number.ensures c.in_ok-only-2.ensures.only in
    let e3 = looked_at _ _ _ _ _ e2 c.part_of-double.ensures c.in_ok-only-3.ensures.only in
    let e4 = looked_at _ _ _ _ _ e3 c.part_of-list.ensures c.in_ok-only-4.ensures.only in
    let e5 = looked_at _ _ _ _ _ e4 c.part_of-map.ensures c.in_ok-only-5.ensures.only in
    rw (sym e5, sym c.part_of-bytes.ensures) c.either-6.ensures.several
