-- The report of losses is the one line of none exactly where the target's normal form of the groups is those groups.
use Rattle.std.proofs.Common.{◌≡◌, ◌⊎◌, inl, inr, ℕ, suc, min, List, [], ◌∷◌, ◌++◌, length, All, Option, None, refl, sym, ap, ◌∙◌, arith}
use Rattle.std.specs.Prelude.{◌↔◌, codes}
use Rattle.std.proofs.lemmas.Fmt.{decimal_digit}
use Rattle.std.proofs.lemmas.List.Elements.{All-head, All-tail}
use Rattle.span_io.specs.Outside.{last_count}
use Rattle.span_io.specs.declared.form.Form.{Form}
use Rattle.span_io.specs.declared.form.Form.TheVariants as forms
use Rattle.trace_model.specs.OtlpParts.{NotedGroup}
use Rattle.trace_model.specs.Soundness.{IsSoundGroup}
use Rattle.trace_model.specs.declared.loss.Loss.{Loss}
use Rattle.trace_model.specs.declared.place.Place.{Place}
use Rattle.trace_model.specs.declared.place.Place.TheVariants as places
use Rattle.trace_model.specs.declared.group.Group.{Group}
use Rattle.loss_report.specs.Lines.{loss_count_text, loss_text, lost_text, place_text}
use Rattle.span_tags.proofs.QuietLaws.{Quiet, both, quiet_as, same_parts}
use Rattle.map_jaeger.specs.StatedLaws.{NoneLost}
use Rattle.map_jaeger.specs.Losses as jaeger
use Rattle.map_jaeger.specs.Normal.{normal, normal_group}
use Rattle.map_zipkin.specs.StatedLaws.{NothingLost}
use Rattle.map_zipkin.specs.Losses as zipkin
use Rattle.map_zipkin.specs.declared.run.Run.{Run}
use Rattle.span_convert.specs.Reports.{all_losses, losses_end, form_losses, unit_lost, units_lost}
use Rattle.span_convert.specs.Units.{groups_in, normal_form}

-- ---- the line of a loss isn't that of none

-- a text begins with "u", which "losses" doesn't
abbrev Begins : List ℕ → Type 0
Begins text = (rest : List ℕ) × (text ≡ 117 ∷ rest)

begins_more : (text more : List ℕ) → Begins text → Begins (text ++ more)
begins_more text more begins = (begins.0 ++ more, ap (λ (l : List ℕ). l ++ more) begins.1)

abbrev first_of : List ℕ → ℕ
first_of [] = 0
first_of (b ∷ bytes) = b

not_none : (text : List ℕ) → Begins text → text ≡ loss_count_text 0 → ⊥
not_none text begins is = let e : 117 ≡ 108 = ap first_of (sym begins.1 ∙ is) in omega (arith, e)

at_place : (number : ℕ) (place : Place) → Begins (place_text number place)
at_place number places.Whole = (_, refl)
at_place number places.Resource = (_, refl)
at_place number (places.Scope scope) = (_, refl)
at_place number (places.Span span) = (_, refl)
at_place number (places.Event span event) = (_, refl)
at_place number (places.Link span link) = (_, refl)

line_begins : (number : ℕ) (loss : Loss) → Begins (loss_text number loss)
line_begins number loss = (_, ap (λ (l : List ℕ). l ++ codes ": " ++ lost_text loss.row loss.key ++ codes "\n") (at_place number loss.place).1)

-- there is no loss and no line, or there are both
abbrev AreTold : List Loss → List ℕ → Type 0
AreTold losses lines = ((losses ≡ []) × (lines ≡ [])) ⊎ ((losses ≡ [] → ⊥) × Begins lines)

unit_told : (number : ℕ) (losses : List Loss) → AreTold losses (unit_lost number losses)
unit_told number [] = inl (refl, refl)
unit_told number (loss ∷ losses) = inr (λ none. absurd (cc), begins_more (loss_text number loss) (unit_lost number losses) (line_begins number loss))

told_both : (a b : List Loss) (lines more : List ℕ) → AreTold a lines → AreTold b more → AreTold (a ++ b) (lines ++ more)
told_both a b lines more (inl none) (inl other) = inl (ap (λ (l : List Loss). l ++ b) none.0 ∙ other.0, ap (λ (l : List ℕ). l ++ more) none.1 ∙ other.1)
told_both a b lines more (inl none) (inr some) = inr (
  λ e. some.0 (ap (λ (l : List Loss). l ++ b) (sym none.0) ∙ e),
  (some.1.0, ap (λ (l : List ℕ). l ++ more) none.1 ∙ some.1.1),
)
told_both [] b lines more (inr some) other = absurd (some.0 refl)
told_both (loss ∷ a) b lines more (inr some) other = inr (λ e. absurd (cc), begins_more lines more some.1)

all_told : (to : Form) (number : ℕ) (before : Option Run) (units : List NotedGroup) → AreTold (all_losses to before (groups_in units)) (units_lost to number before units)
all_told to number before [] = inl (refl, refl)
all_told to number before (unit ∷ units) =
    told_both (form_losses to before unit.means) _ (unit_lost number (form_losses to before unit.means)) _ (unit_told number (form_losses to before unit.means))
    (all_told to (suc number) (zipkin.run_behind before unit.means) units)

-- ---- nothing is lost exactly where the groups are in normal form

otlp_quiet : (to : Form) → ((before : Option Run) (group : Group) → form_losses to before group ≡ []) → (before : Option Run) (groups : List Group) → all_losses to before groups ≡ []
otlp_quiet to none before [] = refl
otlp_quiet to none before (group ∷ groups) =
    ap (λ (l : List Loss). l ++ all_losses to (zipkin.run_behind before group) groups) (none before group) ∙ otlp_quiet to none (zipkin.run_behind before group) groups

jaeger_quiet : NoneLost → (to : Form) → ((before : Option Run) (group : Group) → form_losses to before group ≡ jaeger.group_losses group) → (before : Option Run) (groups : List Group)
    → All IsSoundGroup groups → Quiet (all_losses to before groups) (normal groups ≡ groups)
jaeger_quiet law to is before [] sound = (λ e. refl, λ same. refl)
jaeger_quiet law to is before (group ∷ groups) sound =
    let next = zipkin.run_behind before group in
    let one = law group (All-head IsSoundGroup group groups sound) in
    quiet_as (all_losses to before (group ∷ groups))
    (both (form_losses to before group) (all_losses to next groups) (λ e. one.0 (sym (is before group) ∙ e), λ same. is before group ∙ one.1 same)
    (jaeger_quiet law to is next groups (All-tail IsSoundGroup group groups sound)))
    (λ holds. λ i. holds.0 i ∷ holds.1 i)
    (λ same. same_parts (normal_group group) group (normal groups) groups same)

zipkin_all : (before : Option Run) (groups : List Group) → all_losses forms.ZipkinJson before groups ≡ zipkin.groups_losses before groups
zipkin_all before [] = refl
zipkin_all before (group ∷ groups) = ap (λ (l : List Loss). zipkin.group_losses before group ++ l) (zipkin_all (zipkin.run_behind before group) groups)

quiet : NoneLost → NothingLost → (to : Form) (groups : List Group) → All IsSoundGroup groups → Quiet (all_losses to None groups) (normal_form to groups ≡ groups)
quiet j z forms.OtlpProto groups sound = (λ e. refl, λ same. otlp_quiet forms.OtlpProto (λ before group. refl) None groups)
quiet j z forms.OtlpJson groups sound = (λ e. refl, λ same. otlp_quiet forms.OtlpJson (λ before group. refl) None groups)
quiet j z forms.JaegerBinary groups sound = jaeger_quiet j forms.JaegerBinary (λ before group. refl) None groups sound
quiet j z forms.JaegerCompact groups sound = jaeger_quiet j forms.JaegerCompact (λ before group. refl) None groups sound
quiet j z forms.ZipkinJson groups sound = let all = zipkin_all None groups in let law = z groups sound in (λ e. law.0 (sym all ∙ e), λ same. all ∙ law.1 same)

-- ---- the report

one_line : (to : Form) (units : List NotedGroup) (text : List ℕ) → text ≡ units_lost to 1 None units ++ losses_end to units → AreTold (all_losses to None (groups_in units)) (units_lost to 1 None units)
    → (text ≡ loss_count_text 0) ↔ (all_losses to None (groups_in units) ≡ [])
one_line to units text is (inl none) = (
  λ e. none.0,
  λ e. is ∙ ap (λ (l : List ℕ). l ++ losses_end to units) none.1 ∙ ap (λ (l : List Loss). loss_count_text (min (length l) last_count)) none.0,
)
one_line to units text is (inr some) = (
  λ e. absurd (not_none _ (begins_more (units_lost to 1 None units) (losses_end to units) some.1) (sym is ∙ e)),
  λ e. absurd (some.0 e),
)

none_line : loss_count_text 0 ≡ codes "losses 0\n"
none_line = ap (λ (l : List ℕ). codes "losses " ++ l ++ codes "\n") (decimal_digit 0 (omega arith))

pub no_losses : NoneLost → NothingLost → (to : Form) (units : List NotedGroup) (text : List ℕ) → All IsSoundGroup (groups_in units)
    → text ≡ units_lost to 1 None units ++ losses_end to units → (text ≡ codes "losses 0\n") ↔ (normal_form to (groups_in units) ≡ groups_in units)
no_losses jaeger_law zipkin_law to units text sound is =
    let line = one_line to units text is (all_told to 1 None units) in
    let law = quiet jaeger_law zipkin_law to (groups_in units) sound in (λ e. law.0 (line.0 (e ∙ sym none_line)), λ same. line.1 (law.1 same) ∙ none_line)
