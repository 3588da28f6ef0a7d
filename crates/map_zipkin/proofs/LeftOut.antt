-- Remarks on tags that were left out, one part behind the other.
use Rattle.std.proofs.Common.{◌≡◌, List, ◌++◌, sym, ap, ◌∙◌, append_assoc}
use Rattle.std.proofs.lemmas.List.{map-append}
use Rattle.trace_model.specs.Remarks.{Keys, tags_dropped}
use Rattle.trace_model.specs.declared.place.Place.{Place}
use Rattle.trace_model.specs.declared.remark.Remark.{Remark}
use Rattle.trace_model.specs.declared.remark.RemarkKind.TheVariants as kinds

pub joined : (place : Place) (first rest : Keys) (old between new : List Remark) → between ≡ old ++ tags_dropped place first
    → new ≡ between ++ tags_dropped place rest → new ≡ old ++ tags_dropped place (first ++ rest)
joined place first rest old between new e more =
    more
    ∙ (ap (λ l. l ++ tags_dropped place rest) e
    ∙ (append_assoc old (tags_dropped place first) (tags_dropped place rest)
    ∙ ap (λ l. old ++ l) (sym (map-append (λ key. record { place = place; kind = kinds.TagDropped; key = key }) first rest))))
