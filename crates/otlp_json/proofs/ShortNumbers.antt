-- A text that is read as a number of 64 bits.
use Rattle.std.proofs.Common.{◌≡◌, ◌≢◌, ℕ, ◌==◌, ◌⊎◌, inl, inr, ℤ, pos, neg_ℤ, List, drop, true, false, Some, option_map, Result, Ok, Err, ap, sym, ◌∙◌}
use Rattle.std.specs.Prelude.{slice_index}
use Rattle.std.specs.Int.{w64}
use Rattle.std.specs.Str.Parse.{ParsesSigned}
use Rattle.std.proofs.lemmas.Bool.Decides.{eqb_tells}
use Rattle.std.proofs.lemmas.Str.Parse.{parse_signed_minus, parse_signed_plain}
use Rattle.otlp_json.specs.Numbers.{integer_in_text}
use Rattle.otlp_json.proofs.NumberLemmas.{own, numeral_some, minus_is, plain_is}

module _ {E : Type 0} (text : List ℕ) (plus : slice_index text 0 ≢ 43) where
  pub short_parsed : (r : Result ℤ E) → ParsesSigned w64 10 text r → (z : ℤ) → r ≡ Ok z → integer_in_text text ≡ Some z
  short_parsed (Err e) parses z is = cc
  short_parsed (Ok x) parses z is = on (eqb_tells (slice_index text 0) 45) ∙ cc
    where
      on : (((slice_index text 0 == 45) ≡ true) × (slice_index text 0 ≡ 45)) ⊎ (((slice_index text 0 == 45) ≡ false) × (slice_index text 0 ≢ 45)) → integer_in_text text ≡ Some x
      on (inl e) =
          let h = parse_signed_minus own {E = E} w64 text (Ok x) parses e.1 in
          minus_is text e.1 ∙ ap (option_map (λ n. neg_ℤ (pos n))) (numeral_some (drop 1 text) h.0.0 h.0.1) ∙ ap Some (sym h.1)
      on (inr e) =
          let h = parse_signed_plain own {E = E} w64 text (Ok x) parses plus e.1 in
          plain_is text e.0 ∙ ap (option_map pos) (numeral_some text h.0.0 h.0.1) ∙ ap Some (sym h.1)
