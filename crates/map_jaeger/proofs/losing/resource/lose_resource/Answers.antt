use Rattle.std.proofs.Common.{◌≡◌, Bool, true, false, Option, Some, None, refl, ap, ◌∙◌, inl}
use Rattle.trace_model.specs.Attributes.{at}
use Rattle.trace_model.specs.ValueTexts.{has_double}
use Rattle.trace_model.specs.declared.fault.Fault.TheVariants.{DoubleInText}
use Rattle.trace_model.specs.declared.group.Group.{Group}
use Rattle.trace_model.specs.declared.value.Value.{Value}
use Rattle.span_tags.specs.Doubles.{double_at}
use Rattle.span_tags.specs.PlacedFaults.{in_resource}
use Rattle.span_tags.specs.TagKeys.{service_key}
use Rattle.map_jaeger.specs.Faults.{HasNoFault, HasDoubleAt}
use Rattle.map_jaeger.proofs.losing.resource.lose_resource.Goals as goal

no_double : (value : Option Value) → (HasDoubleAt value → ⊥) → double_at value ≡ false
no_double None none = refl
no_double (Some value) none = by (has_double value) none
  where
    by : (b : Bool) → (b ≡ true → ⊥) → b ≡ false
    by true none = absurd (none refl)
    by false none = refl

service_plain : (group : Group) → HasNoFault group → double_at (at service_key group.resource) ≡ false
service_plain group none = no_double (at service_key group.resource)
    (λ double. none (record { place = 0; fault = DoubleInText }) (in_resource refl (inl double)))

pub service_goes-requires : goal.service_goes-requires
service_goes-requires c = ap double_at c.find.ensures ∙ service_plain c.args.group.now c.requires.no_fault
