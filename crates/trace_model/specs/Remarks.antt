-- Remarks on what was read: keys that stand more than once, links and tags that were left out. At one place they come by this kind,
-- and those of a kind by their keys.
--     Keys                   keys that stand more than once
--     numbered remarks n xs  the remarks on the members of a list, of which the first has the number n
use Rattle.std.specs.Prelude.{ℕ, suc, Bool, if◌then◌else◌, List, [], ◌∷◌, ◌++◌, map}
use Rattle.trace_model.specs.declared.place.Place.{Place}
use Rattle.trace_model.specs.declared.remark.Remark.{Remark}
use Rattle.trace_model.specs.declared.remark.RemarkKind.TheVariants as kinds

-- keys that stand more than once where each key should stand once; each key by its bytes
abbrev pub Keys : Type 0
Keys = List (List ℕ)

-- a key stood more than once at this place, for each of these keys
abbrev pub equal_keys : Place → Keys → List Remark
equal_keys place keys = map (λ key. record { place = place; kind = kinds.EqualKey; key = key }) keys

-- a link was dropped at this place, if one was
abbrev pub link_dropped : Place → Bool → List Remark
link_dropped place dropped = if dropped then record { place = place; kind = kinds.LinkDropped; key = [] } ∷ [] else []

-- tags of these keys were left out at this place
abbrev pub tags_dropped : Place → Keys → List Remark
tags_dropped place keys = map (λ key. record { place = place; kind = kinds.TagDropped; key = key }) keys

-- those of the members of a list, of which each has the next number
unfoldable pub numbered : {A : Type 0} → (ℕ → A → List Remark) → ℕ → List A → List Remark
numbered remarks n [] = []
numbered remarks n (x ∷ xs) = remarks n x ++ numbered remarks (suc n) xs
