-- A value means one thing and nothing in it offends, or it means nothing and one offence in it counts. It is decided member by member.
use Rattle.std.proofs.Common.{◌≡◌, List, [], ◌∷◌, Option, Some, None, refl, sym, ap, subst, ◌∙◌}
use Rattle.span_io.specs.Causes.{cause_number}
use Rattle.span_io.specs.declared.cause.Cause.{Cause}
use Rattle.span_io.specs.declared.cause.Cause.TheVariants as causes
use Rattle.span_io.specs.Paths.{Offences, nothing, ◌▹◌, required, optional, each, valued, Given, Never, OfKind, NothingOffends, Quiet, Counts}
use Rattle.span_io.proofs.PathLaws.{clean_nothing, clean_parts, counts_only, first_of_parts, later_of_parts, one_on, quiet_each}
use Rattle.std.specs.List.{AllZip}

pub data IsSettled {A : Type 0} (Means : A → Type 0) (Offends : Offences) : Type 0 where
  one : (x : A) → Means x → ((y : A) → Means y → x ≡ y) → NothingOffends Offends → IsSettled Means Offends
  none : (cause : Cause) → Counts Offends (cause_number cause) → ((y : A) → ¬ Means y) → IsSettled Means Offends

module _ {A B : Type 0} {M : A → Type 0} {Offends : Offences} where
  -- the same of what is made of it
  pub decided_as : (N : B → Type 0) (f : A → B) → ((x : A) → M x → N (f x)) → ((z : B) → N z → (x : A) × M x × (f x ≡ z)) → IsSettled M Offends → IsSettled N Offends
  decided_as N f there back (one x means only clean) =
      one (f x) (there x means) (λ z h. let made = back z h in ap f (only made.0 made.1) ∙ made.2) clean
  decided_as N f there back (none cause counts never) = none cause counts (λ z h. let made = back z h in never made.0 made.1)

-- ---- two parts, of which the second may rest on what is known of the first

pub pair : {A B : Type 0} (x a : A) (y b : B) → x ≡ a → y ≡ b → ◌≡◌ {A = A × B} (x, y) (a, b)
pair {A} {B} x a y b e k = cc

module _ {A B : Type 0} {M : A → Type 0} {N : B → Type 0} {First Others : Offences} where
  pub also : Quiet Others → IsSettled M First → ((x : A) → M x → IsSettled N Others) → IsSettled (λ (p : A × B). M p.0 × N p.1) (First ▹ Others)
  also quiet (none cause counts never) rest =
      none cause (record { path = _; is_least = first_of_parts First Others quiet counts.path (cause_number cause) counts.is_least }) (λ p h. never p.0 h.0)
  also quiet (one x means only clean) rest = behind (rest x means)
    where
      behind : IsSettled N Others → IsSettled (λ (p : A × B). M p.0 × N p.1) (First ▹ Others)
      behind (one y also_means only_also clean_also) =
          one (x, y) (means, also_means) (λ p h. pair x p.0 y p.1 (only p.0 h.0) (only_also p.1 h.1)) (clean_parts First Others clean clean_also)
      behind (none cause counts never) =
          none cause (record { path = one_on First Others counts.path; is_least = later_of_parts First Others clean counts.path (cause_number cause) counts.is_least }) (λ p h. never p.1 h.1)

-- no more members
pub no_more : IsSettled (λ (u : Unit {0}). Unit {0}) nothing
no_more = one tt tt (λ y h. refl) clean_nothing

-- ---- members and elements

module _ {A D : Type 0} (M : A → D → Type 0) (Offends : D → Offences) (decide : (d : D) → IsSettled (λ x. M x d) (Offends d)) where
  pub decided_required : (o : Option D) → IsSettled (λ x. Given M Never x o) (required Offends o)
  decided_required None = none causes.Missing (counts_only 8) (λ y h. h)
  decided_required (Some d) = decide d

  pub decided_optional : (default : A) (o : Option D) → IsSettled (λ x. Given M (λ y. y ≡ default) x o) (optional Offends o)
  decided_optional default None = one default refl (λ y h. sym h) clean_nothing
  decided_optional default (Some d) = decide d

  pub decided_each : (ds : List D) → IsSettled (λ xs. AllZip (λ d x. M x d) ds xs) (each Offends ds)
  decided_each [] = one [] tt only clean_nothing
    where
      only : (ys : List A) → AllZip (λ d x. M x d) [] ys → [] ≡ ys
      only [] h = refl
      only (y ∷ ys) h = absurd h
  decided_each (d ∷ ds) =
      decided_as (λ xs. AllZip (λ d x. M x d) (d ∷ ds) xs) made (λ p h. h) back (also (quiet_each Offends ds) (decide d) (λ x means. decided_each ds))
    where
      made : A × List A → List A
      made p = p.0 ∷ p.1

      back : (zs : List A) → AllZip (λ d x. M x d) (d ∷ ds) zs → (p : A × List A) × (M p.0 d × AllZip (λ d x. M x d) ds p.1) × (made p ≡ zs)
      back [] h = absurd h
      back (z ∷ zs) h = ((z, zs), (h.0, h.1), refl)

module _ {A K : Type 0} (M : A → K → Type 0) (Offends : K → Offences) (decide : (k : K) → IsSettled (λ x. M x k) (Offends k)) where
  pub decided_valued : (o : Option K) → IsSettled (λ x. OfKind M x o) (valued Offends o)
  decided_valued None = none causes.BadShape (counts_only 11) never
    where
      never : (y : A) → ¬ OfKind M y None
      never y h = let e = h.shape in cc
  decided_valued (Some k) = decided_as (λ x. OfKind M x (Some k)) (λ x. x) (λ x means. record { held = k; shape = refl; means = means }) back (decide k)
    where
      back : (z : A) → OfKind M z (Some k) → (x : A) × M x k × (x ≡ z)
      back z h = (z, (let e : k ≡ h.held = let s = h.shape in cc in subst (λ (y : K). M z y) (sym e) h.means), refl)

pub decided_plain : {K : Type 0} (o : Option K) → IsSettled (λ (x : K). o ≡ Some x) (valued (λ x. nothing) o)
decided_plain {K} None = none causes.BadShape (counts_only 11) never
  where
    never : (y : K) → ¬ (None ≡ Some y)
    never y h = cc
decided_plain {K} (Some x) = one x refl only clean_nothing
  where
    only : (y : K) → Some x ≡ Some y → x ≡ y
    only y h = cc
