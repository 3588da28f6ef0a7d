-- What is written of a member is found there, and means what was written.
use Rattle.std.proofs.Common.{◌≡◌, ℕ, zero, suc, List, [], ◌∷◌, Bool, true, false, Option, Some, None, refl, sym, ap, subst, ◌∙◌, Ordering, Less, Equal, Greater}
use Rattle.std.specs.Cmp.Lexicographic.{slice_cmp}
use Rattle.std.specs.Ordering.{nat_cmp, match_ordering}
use Rattle.serde_json.specs.Data.{Data, object}
use Rattle.serde_json.specs.Find.{get_member}
use Rattle.span_io.specs.Paths.{Given}
use Rattle.json_members.specs.Canonical.{MemberRow, text_data, count_data, truth_data, members_given}
use Rattle.json_members.specs.Members.{unless_null, member, IsText, IsTruth, IsCount}

-- ---- a member among those that are written

abbrev pub either_one : Option Data → Option Data → Option Data
either_one None rest = rest
either_one (Some d) rest = Some d

-- the member of this name in the rows
abbrev pub in_rows : List ℕ → List MemberRow → Option Data
in_rows name [] = None
in_rows name (row ∷ rows) = match_ordering (slice_cmp nat_cmp name row.0) (in_rows name rows) (either_one row.1 (in_rows name rows)) (in_rows name rows)

all_same : (o : Ordering) (d : Option Data) → match_ordering o d d d ≡ d
all_same Less d = refl
all_same Equal d = refl
all_same Greater d = refl

pub row_found : (name : List ℕ) (rows : List MemberRow) → get_member name (members_given rows) ≡ in_rows name rows
row_found name [] = refl
row_found name ((key, None) ∷ rows) = row_found name rows ∙ sym (all_same (slice_cmp nat_cmp name key) (in_rows name rows))
row_found name ((key, Some d) ∷ rows) = ap (λ o. match_ordering (slice_cmp nat_cmp name key) o (Some d) o) (row_found name rows)

pub alone_chosen : (o : Option Data) → either_one o None ≡ o
alone_chosen None = refl
alone_chosen (Some d) = refl

-- what stands in the one row of this name
pub found : (name : List ℕ) (rows : List MemberRow) (o : Option Data) → in_rows name rows ≡ either_one o None → member name (object (members_given rows)) ≡ unless_null o
unfolding member
found name rows o is = ap unless_null (row_found name rows ∙ is ∙ alone_chosen o)

module _ {A : Type 0} (Means : A → Data → Type 0) (IsDefault : A → Type 0) (x : A) where
  pub given_row : (name : List ℕ) (rows : List MemberRow) (o : Option Data) → in_rows name rows ≡ either_one o None → Given Means IsDefault x (unless_null o)
      → Given Means IsDefault x (member name (object (members_given rows)))
  given_row name rows o is h = subst (λ p. Given Means IsDefault x p) (sym (found name rows o is)) h

-- ---- values of one member

pub text_again : (text : List ℕ) → Given IsText (λ t. t ≡ []) text (unless_null (text_data text))
text_again [] = refl
text_again (x ∷ text) = refl

pub count_again : (count : ℕ) → Given IsCount (λ c. c ≡ 0) count (unless_null (count_data count))
count_again zero = refl
count_again (suc n) = refl

pub truth_again : (truth : Bool) → Given IsTruth (λ t. t ≡ false) truth (unless_null (truth_data truth))
truth_again false = refl
truth_again true = refl
