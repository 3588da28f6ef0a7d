-- The status that the first head of some bytes tells, in the bytes and in more of them.
use Rattle.std.proofs.Common.{◌≡◌, ℕ, ◌+◌, ◌≤◌, List, ◌++◌, length, take, refl, sym, subst}
use Rattle.std.proofs.lemmas.List.{take-append-le, take_all}
use Rattle.http_conn.specs.AnswerHeads.{IsAnswerHead, TellsNoStatus, TellsStatus}
use Rattle.http_conn.specs.Heads.{EndsFirstAt, EndsNowhere}
use Rattle.http_conn.proofs.EndLemmas.{first_in_window, first_once, window_fits}

-- the head that ends first has that status
pub same_head : (most : ℕ) (bytes window : List ℕ) (place status : ℕ) → window ≡ take most bytes → EndsFirstAt window place → TellsStatus most bytes status
    → IsAnswerHead (take (place + 4) bytes) status
same_head most bytes window place status w ends t =
    let first : EndsFirstAt (take most bytes) place = subst (λ l. EndsFirstAt l place) w ends in
    let same : t.place ≡ place = first_once (take most bytes) t.place place t.ends first in
    subst (λ p. IsAnswerHead (take (p + 4) bytes) status) same t.is_head

-- nothing is told where no head ended
pub none_ended : (most : ℕ) (bytes given : List ℕ) → take most bytes ≡ given → EndsNowhere given → TellsNoStatus most bytes
none_ended most bytes given e nowhere = λ status t. nowhere t.place (subst (λ l. EndsFirstAt l t.place) e t.ends).ends

module _ (most : ℕ) (given : List ℕ) (place : ℕ) (short : length given ≤ most) (ends : EndsFirstAt given place) where
  in_window : EndsFirstAt (take most given) place
  in_window = subst (λ l. EndsFirstAt l place) (sym (take_all most given short)) ends

  head_more : (more : List ℕ) → take (place + 4) (given ++ more) ≡ take (place + 4) given
  head_more more = take-append-le (place + 4) given more (window_fits most given place in_window.ends)

  pub told : (status : ℕ) → IsAnswerHead (take (place + 4) given) status → TellsStatus most given status
  told status is = record { place = place; ends = in_window; is_head = is }

  -- whatever comes behind
  pub told_more : (status : ℕ) (more : List ℕ) → IsAnswerHead (take (place + 4) given) status → TellsStatus most (given ++ more) status
  told_more status more is = record {
    place = place;
    ends = first_in_window most given more place in_window;
    is_head = subst (λ l. IsAnswerHead l status) (sym (head_more more)) is;
  }

  pub not_told : ((status : ℕ) → ¬ (IsAnswerHead (take (place + 4) given) status)) → TellsNoStatus most given
  not_told none = λ status t. none status (same_head most given (take most given) place status refl in_window t)

  pub not_told_more : (more : List ℕ) → ((status : ℕ) → ¬ (IsAnswerHead (take (place + 4) given) status)) → TellsNoStatus most (given ++ more)
  not_told_more more none = λ status t.
      none status (subst (λ l. IsAnswerHead l status) (head_more more)
      (same_head most (given ++ more) (take most (given ++ more)) place status refl (first_in_window most given more place in_window) t))
