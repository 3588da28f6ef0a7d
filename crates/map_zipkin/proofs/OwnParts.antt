-- Pairs in front of the first key that may be one of Zipkin's own hold nothing under those.
use Rattle.std.proofs.Common.{◌≡◌, ℕ, Bool, true, false, cond, ◌||◌, List, [], ◌∷◌, Some, find, option_map, refl, sym, ap, ◌∙◌, true≢false}
use Rattle.std.specs.Str.{bytes_eq}
use Rattle.trace_model.specs.Attributes.{at}
use Rattle.trace_model.specs.declared.value.Value.{Value}
use Rattle.span_tags.proofs.AttributeLaws.{same_key}
use Rattle.span_tags.specs.TagWords.{Pairs}
use Rattle.map_zipkin.specs.LeastZipkinFault.{is_out_of_form, out_of_form}
use Rattle.map_zipkin.specs.OwnColumns.{OwnColumns, own_row, own_form, forms_of, is_own, own_in}
use Rattle.map_zipkin.specs.declared.own.Own.{Own}
use Rattle.map_zipkin.specs.declared.own.Own.TheVariants as owns
use Rattle.map_zipkin.specs.private.Unfit.{port_unfit, ports_unfit}

its_own : (own : Own) → is_own (own_row own).key ≡ true
its_own owns.Debug = refl
its_own other = refl

-- one pair less
none_passed : (pair : List ℕ × Value) (pairs : Pairs) → is_own pair.0 ≡ false → own_in (pair ∷ pairs) ≡ own_in pairs
none_passed pair pairs none = λ i own. by own (bytes_eq (own_row own).key pair.0) refl i
  where
    by : (own : Own) (b : Bool) → bytes_eq (own_row own).key pair.0 ≡ b
        → cond b (Some pair.1) (at (own_row own).key pairs) ≡ at (own_row own).key pairs
    by own true same = absurd (true≢false (sym (its_own own) ∙ ap is_own (same_key (own_row own).key pair.0 same) ∙ none))
    by own false apart = refl

pub part_step : (pair : List ℕ × Value) (behind part all : Pairs) → part ≡ pair ∷ behind → is_own pair.0 ≡ false → own_in part ≡ own_in all → own_in behind ≡ own_in all
part_step pair behind part all split none same = sym (none_passed pair behind none) ∙ (ap own_in (sym split) ∙ same)

-- pairs that hold the same there have the same fault there
pub same_fault : (a b : Pairs) → own_in a ≡ own_in b → (keys : List Own) → out_of_form a (forms_of keys) ≡ out_of_form b (forms_of keys)
same_fault a b e [] = refl
same_fault a b e (own ∷ keys) =
    ap (λ o. option_map (λ own. own.0) (cond (is_out_of_form (own_form own) o) (Some ((own_row own).key, own_form own))
    (find (λ own. is_out_of_form own.1 (at own.0 a)) (forms_of keys)))) (λ i. e i own)
    ∙ by (is_out_of_form (own_form own) (own_in b own)) (same_fault a b e keys)
  where
    by : (wrong : Bool) → out_of_form a (forms_of keys) ≡ out_of_form b (forms_of keys)
        → option_map (λ own. own.0) (cond wrong (Some ((own_row own).key, own_form own)) (find (λ own. is_out_of_form own.1 (at own.0 a)) (forms_of keys)))
        ≡ option_map (λ own. own.0) (cond wrong (Some ((own_row own).key, own_form own)) (find (λ own. is_out_of_form own.1 (at own.0 b)) (forms_of keys)))
    by true more = refl
    by false more = more

-- and the same ports
pub same_ports : (a b : Pairs) → own_in a ≡ own_in b → ports_unfit a ≡ ports_unfit b
same_ports a b e = ap (λ (own : OwnColumns). port_unfit (own owns.LocalPort) || port_unfit (own owns.RemotePort)) e
