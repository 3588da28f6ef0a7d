-- A JSON value means one thing and nothing in it offends, or it means nothing and one offence counts: texts, truth values, what a text
-- spells, and objects.
use Rattle.std.proofs.Common.{◌≡◌, ℕ, inl, inr, List, [], ◌∷◌, true, Option, Some, None, is_some, refl, arith}
use Rattle.serde_json.specs.Data.{Data, Members}
use Rattle.serde_json.specs.Find.{as_array, as_str, as_bool, as_object}
use Rattle.span_io.specs.declared.cause.Cause.{Cause}
use Rattle.span_io.specs.Causes.{cause_number}
use Rattle.span_io.specs.declared.cause.Cause.TheVariants as causes
use Rattle.span_io.specs.Paths.{Offences, here, optional, each, valued, Given}
use Rattle.span_io.proofs.PathLaws.{clean_here, counts_here, counts_only}
use Rattle.span_io.proofs.PathDecisions.{IsSettled, one, none, decided_as, also, no_more, decided_optional, decided_each, decided_valued, decided_plain}
use Rattle.std.specs.List.{AllZip}
use Rattle.json_members.specs.Members.{member, elements, AreHeld, elements_offend, IsText, text_offends, IsTruth, truth_offends, Spelled, unspelled}
use Rattle.json_members.proofs.ChoiceLaws.{SpellsOne}
use Rattle.json_members.proofs.PartLaws.{quiet_joined}
use Rattle.json_members.specs.Parts.{joined}

-- ---- texts and truth values

pub text_decided : (d : Data) → IsSettled (λ text. IsText text d) (text_offends d)
text_decided d = decided_plain (as_str d)

pub truth_decided : (d : Data) → IsSettled (λ truth. IsTruth truth d) (truth_offends d)
truth_decided d = decided_plain (as_bool d)

-- ---- what a text spells

pub text_chosen : {A : Type 0} (Spells : List ℕ → A → Type 0) (cause : Cause) (text : List ℕ) → SpellsOne Spells text
    → IsSettled (λ x. Spells text x) (here (λ n. (n ≡ cause_number cause) × ((x : A) → ¬ Spells text x)))
text_chosen Spells cause text (inl h) = one h.0 h.1 h.2 (clean_here _ (λ n k. k.1 h.0 h.1))
text_chosen Spells cause text (inr never) = none cause (counts_here _ (cause_number cause) (refl, never) (λ n k. let e = k.0 in omega arith)) never

pub spelled_decided : {A : Type 0} (Spells : List ℕ → A → Type 0) (cause : Cause) → ((text : List ℕ) → SpellsOne Spells text) → (d : Data)
    → IsSettled (λ x. Spelled Spells x d) (unspelled Spells (cause_number cause) d)
spelled_decided {A} Spells cause choose d =
    decided_valued (λ x text. Spells text x) (λ text. here (λ n. (n ≡ cause_number cause) × ((x : A) → ¬ Spells text x))) (λ text. text_chosen Spells cause text (choose text)) (as_str d)

-- ---- objects, by their members

-- of one member, and of those behind it
infixr 4 ◌&◌
abbrev pub ◌&◌ : {A B : Type 0} → A → B → A × B
◌&◌ x y = (x, y)

-- these parts mean one thing, or one offence in them counts
pub record AreSettled {A : Type 0} (Means : A → Type 0) (parts : List Offences) : Type 0 where
  pub settled : IsSettled Means (joined parts)

pub last : AreSettled (λ (u : Unit {0}). Unit {0}) []
last = record { settled = no_more }

module _ {A B : Type 0} {M : A → Type 0} {N : B → Type 0} {First : Offences} {more : List Offences} where
  pub next : IsSettled M First → AreSettled N more → AreSettled (λ (p : A × B). M p.0 × N p.1) (First ∷ more)
  next first others = record { settled = also (quiet_joined more) first (λ x means. others.settled) }

  -- where those behind rest on what the first means
  pub next_by : IsSettled M First → ((x : A) → M x → AreSettled N more) → AreSettled (λ (p : A × B). M p.0 × N p.1) (First ∷ more)
  next_by first others = record { settled = also (quiet_joined more) first (λ x means. (others x means).settled) }

-- made of what its members mean
module _ {A B : Type 0} {M : A → Type 0} {Offends : Offences} where
  pub object_settled : (d : Data) → IsSettled M Offends → (N : B → Type 0) (f : A → B)
      → ((x : A) → is_some (as_object d) ≡ true → M x → N (f x))
      → ((z : B) → N z → (is_some (as_object d) ≡ true) × ((x : A) × M x × (f x ≡ z)))
      → IsSettled N (valued (λ members. Offends) (as_object d))
  object_settled d settled N f there back = on (as_object d) there back
    where
      on : (o : Option Members) → ((x : A) → is_some o ≡ true → M x → N (f x))
          → ((z : B) → N z → (is_some o ≡ true) × ((x : A) × M x × (f x ≡ z)))
          → IsSettled N (valued (λ members. Offends) o)
      on None there back = none causes.BadShape (counts_only 11) (λ z h. let shape = (back z h).0 in cc)
      on (Some held) there back = decided_as N f (λ x h. there x refl h) (λ z h. (back z h).1) settled

-- elements of an array, and a member that is one
pub elements_settled : {A : Type 0} (Means : A → Data → Type 0) (Offends : Data → Offences)
    → ((d : Data) → IsSettled (λ x. Means x d) (Offends d)) → (d : Data)
    → IsSettled (λ xs. AreHeld Means xs d) (elements_offend Offends d)
elements_settled Means Offends settled d =
    decided_valued (λ xs ds. AllZip (λ inner x. Means x inner) (elements ds) xs) (λ ds. each Offends (elements ds))
    (λ ds. decided_each Means Offends settled (elements ds)) (as_array d)

pub array_settled : {A : Type 0} (Means : A → Data → Type 0) (Offends : Data → Offences)
    → ((d : Data) → IsSettled (λ x. Means x d) (Offends d)) → (o : Option Data)
    → IsSettled (λ xs. Given (AreHeld Means) (λ ys. ys ≡ []) xs o) (optional (elements_offend Offends) o)
array_settled Means Offends settled o =
    decided_optional (AreHeld Means) (elements_offend Offends) (elements_settled Means Offends settled) [] o

pub text_settled : (d : Data) (name : List ℕ)
    → IsSettled (λ text. Given IsText (λ t. t ≡ []) text (member name d)) (optional text_offends (member name d))
text_settled d name = decided_optional IsText text_offends text_decided [] (member name d)
