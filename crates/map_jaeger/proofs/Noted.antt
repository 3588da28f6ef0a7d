-- Remarks on the members of a list, one member after the other.
use Rattle.std.proofs.Common.{◌≡◌, ℕ, suc, List, [], ◌∷◌, ◌++◌, refl, sym, ap, subst, ◌∙◌, append_assoc}
use Rattle.std.proofs.lemmas.List.{append-nil}
use Rattle.trace_model.specs.Remarks.{numbered}
use Rattle.trace_model.specs.declared.remark.Remark.{Remark}
use Rattle.map_jaeger.specs.private.Noted.{AreNumbered, AddsNoted, IsNumberedBy}

module _ {A K : Type 0} where
  -- one more in front
  in_front : (Noted : A → K → Type 0) (remarks : ℕ → A × K → List Remark) (n : ℕ) (x : A) (note : K) (rest : List A) (more : List Remark)
      → Noted x note → AreNumbered Noted remarks (suc n) rest more → AreNumbered Noted remarks n (x ∷ rest) (remarks n (x, note) ++ more)
  unfolding numbered
  in_front Noted remarks n x note rest more its theirs =
      record { notes = note ∷ theirs.notes; theirs = (its, theirs.theirs); all = ap (λ m. remarks n (x, note) ++ m) theirs.all }

  pub numbered_more : (Noted : A → K → Type 0) (remarks : ℕ → A × K → List Remark) (n : ℕ) (x : A) (rest xs : List A) (old new : List Remark)
      → AddsNoted Noted remarks (suc n) x old new → IsNumberedBy Noted remarks n (x ∷ rest) xs old → IsNumberedBy Noted remarks (suc n) rest xs new
  numbered_more Noted remarks n x rest xs old new added so_far more theirs =
      let whole : old ++ (remarks (suc n) (x, added.note) ++ more) ≡ new ++ more =
      sym (append_assoc old (remarks (suc n) (x, added.note)) more) ∙ ap (λ l. l ++ more) (sym added.all) in
      subst (λ l. AreNumbered Noted remarks 1 xs l) whole
      (so_far (remarks (suc n) (x, added.note) ++ more) (in_front Noted remarks (suc n) x added.note rest more added.its theirs))

  pub numbered_end : (Noted : A → K → Type 0) (remarks : ℕ → A × K → List Remark) (n : ℕ) (xs : List A) (found : List Remark)
      → IsNumberedBy Noted remarks n [] xs found → AreNumbered Noted remarks 1 xs found
  unfolding numbered
  numbered_end Noted remarks n xs found so_far =
      subst (λ l. AreNumbered Noted remarks 1 xs l) (append-nil found) (so_far [] (record { notes = []; theirs = tt; all = refl }))
