-- What is open at a place, from one place to the next: a container is entered behind what its outer one has still to come, and left.
use Rattle.std.proofs.Common.{◌≡◌, ◌<◌, ◌+◌, ◌-◌, ◌++◌, ◌∷◌, ℕ, suc, pos, List, [], length, refl, ap, sym, ◌∙◌, arith}
use Rattle.std.proofs.lemmas.List.{length-append}
use Rattle.thrift_core.specs.declared.stack.Level.{Level}
use Rattle.thrift_core.specs.declared.stack.Level.TheVariants as levels
use Rattle.thrift_core.specs.Parts.{Spelling}
use Rattle.thrift_core.specs.Places.{open_level, levels_on, around, stack_of, Place, at_part}
use Rattle.thrift_core.specs.Trees.{outer_levels}
use Rattle.thrift_core.specs.Walks.{Open, outer_struct, Turns}

-- ---- before the first byte

pub opens_struct : (below : List Level) → below ≡ [] → stack_of (levels.Fields (pos 0)) below ≡ outer_struct ∷ []
unfolding levels_on
opens_struct below e = rw e refl

pub at_start : (Spells : Spelling) (top : Level) (below : List Level) (carry : List ℕ) (missing : ℕ) → stack_of top below ≡ outer_struct ∷ [] → carry ≡ [] → missing ≡ 0
    → Place Spells outer_struct [] top below carry missing
unfolding Turns
at_start Spells top below carry missing e none whole =
    at_part whole (record { count = 0; turns = (sym e, sym none) }) (omega (arith, ap length none))

-- ---- a container more, and one less

level_less : (left n : ℕ) → left - 1 - n ≡ left - suc n
level_less left n = omega arith

none_less : (left : ℕ) → left ≡ left - 0
none_less left = omega arith

levels_more : (left : ℕ) (below : List Level) (level : Level) (under : List Open)
    → levels_on left (below ++ level ∷ []) under ≡ open_level (left - length below) level ++ levels_on left below under
unfolding levels_on
levels_more left [] level under = ap (λ n. open_level n level ++ under) (none_less left)
levels_more left (outer ∷ below) level under =
    levels_more (left - 1) below level (open_level left outer ++ under)
    ∙ ap (λ n. open_level n level ++ levels_on (left - 1) below (open_level left outer ++ under)) (level_less left (length below))

-- What is open once another container is entered: what is to come of it, and then what was open behind it.
pub entered : (top level : Level) (below : List Level)
    → stack_of top (below ++ level ∷ []) ≡ open_level (outer_levels - (length below + 1)) top ++ stack_of level below
entered top level below =
    let deeper : outer_levels - length (below ++ level ∷ []) ≡ outer_levels - (length below + 1) = omega (arith, length-append below (level ∷ [])) in
    ap (λ n. open_level n top ++ levels_on outer_levels (below ++ level ∷ []) []) deeper
    ∙ ap (λ l. open_level (outer_levels - (length below + 1)) top ++ l) (levels_more outer_levels below level [])

-- ---- the innermost is left

pub none_around : (below : List Level) → (0 < length below → ⊥) → around below ≡ []
unfolding levels_on
none_around [] none = refl
none_around (level ∷ below) none = absurd (none (omega arith))

pub outer_on : (outer : Level) (below longer : List Level) → longer ≡ below ++ outer ∷ [] → around longer ≡ stack_of outer below
outer_on outer below longer e = ap (λ l. around l) e ∙ levels_more outer_levels below outer []
