use Rattle.std.proofs.Common.{◌≡◌, ℕ, None, Some, Option, List, sym, ◌∙◌, arith}
use Rattle.span_notes.specs.Pairs.{IsDecimal}
use Rattle.span_cli.specs.private.Words.{TellsSpans}
use Rattle.span_cli.proofs.command.spans_told.Goals as goal
use Rattle.span_cli.proofs.command.spans_told.Goals.{then-spans-eq0-via-then-spans-eq0, then-spans-eq0-via-else-spans-eq0+then-spans-gt-MOST_SPANS}

-- a number of spans is one of 32 bits
is_decimal : (word : List ℕ) (n : ℕ) → TellsSpans word n → IsDecimal word n
is_decimal word n told = record { is = told.0; most = omega (arith, told.1.most) }

one_number : (m n : ℕ) → ◌≡◌ {A = Option ℕ} (Some m) (Some n) → m ≡ n
one_number m n e = cc

pub returns-in_err-spans : goal.returns-in_err-spans
returns-in_err-spans c = λ n. (
  λ same. absurd (let h : ◌≡◌ {A = Option ℕ} None (Some n) = sym c.from_residual.ensures ∙ same in cc),
  λ told. absurd (let h : ◌≡◌ {A = Option ℕ} None (Some n) = (c.in_err-spans.ensures n).1 (is_decimal c.args.word.now n told) in cc),
)

pub returns-then-spans-eq0 : goal.returns-then-spans-eq0
returns-then-spans-eq0 c = λ n. (
  λ same. absurd (cc),
  λ told.
      let e = one_number c.in_ok-spans.spans n ((c.in_ok-spans.ensures n).1 (is_decimal c.args.word.now n told)) in
      let some = told.1.some in
      let most = told.1.most in
      absurd (elim c.then-spans-eq0.branch [
        | then-spans-eq0-via-then-spans-eq0 w ↦ omega (arith, e, some, w.if-spans-eq0.true)
        | then-spans-eq0-via-else-spans-eq0+then-spans-gt-MOST_SPANS w ↦ omega (arith, e, most, w.if-spans-gt-MOST_SPANS.true)
      ]),
)

pub returns : goal.returns
returns c = λ n. (
  λ same.
      let e : c.in_ok-spans.spans ≡ n = cc in
      (((c.in_ok-spans.ensures n).0 same).is, record { some = omega (arith, e, c.if-spans-eq0.false); most = omega (arith, e, c.if-spans-gt-MOST_SPANS.false) }),
  λ told. (c.in_ok-spans.ensures n).1 (is_decimal c.args.word.now n told),
)
