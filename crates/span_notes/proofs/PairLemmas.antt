-- Options among words in pairs.
use Rattle.std.proofs.Common.{◌≡◌, ◌⊎◌, ◌↔◌, ℕ, zero, suc, ◌+◌, ◌<◌, ◌≤◌, List, length, Option, Some, None, is_some, true, false, refl, sym, ap, subst, ◌∙◌, inl, inr, arith}
use Rattle.std.specs.Prelude.{decimal, slice_get}
use Rattle.std.proofs.lemmas.Fmt.{decimal_injective}
use Rattle.span_io.specs.Forms.{form_word}
use Rattle.span_io.specs.declared.form.Form.{Form}
use Rattle.span_notes.specs.Pairs.{CountStands, FormStands, HasOption, IsDecimal, IsPair, PlaceStands}
use Rattle.span_notes.proofs.WordLaws.{one_word, there_within}

-- of two numbers below another one
before_or_at : (b k : ℕ) → b ≤ k → (b < k) ⊎ (b ≡ k)
before_or_at zero zero l = inr refl
before_or_at zero (suc k) l = inl (omega arith)
before_or_at (suc b) zero l = absurd (omega (arith, l))
before_or_at (suc b) (suc k) l = elim (before_or_at b k (omega (arith, l))) as (λ w. (suc b < suc k) ⊎ (suc b ≡ suc k)) [
  | inl h ↦ inl (omega (arith, h))
  | inr e ↦ inr (ap suc e)
]

-- ---- the place of an option

module _ (words : List (List ℕ)) (first : ℕ) (option : List ℕ) where
  -- it stands in a pair before this place, and in no other before it
  pub record FoundAt (at place : ℕ) : Type 0 where
    pub word : List ℕ
    pub is_pair : IsPair words first option place word
    pub within : place < at
    pub once : (other : ℕ) (its : List ℕ) → IsPair words first option other its → other < at → other ≡ place

  -- what was found before this place
  abbrev pub FoundSo : ℕ → Option ℕ → Type 0
  FoundSo at None = (other : ℕ) (its : List ℕ) → IsPair words first option other its → other < at → ⊥
  FoundSo at (Some place) = FoundAt at place

  pub found_none : FoundSo first None
  found_none = λ other its pair less. absurd (omega (arith, pair.is_place, less))

  module _ (at k : ℕ) (is_at : at ≡ first + k + k) where
    -- a pair before the next place stands before this one, or here
    before_next : (other : ℕ) (its : List ℕ) → IsPair words first option other its → other < at + 2
        → (other < at) ⊎ ((other ≡ at + 1) × (slice_get words at ≡ Some option))
    before_next other its pair less =
        elim (before_or_at pair.before k (omega (arith, pair.is_place, is_at, less))) as (λ w. (other < at) ⊎ ((other ≡ at + 1) × (slice_get words at ≡ Some option))) [
          | inl h ↦ inl (omega (arith, h, pair.is_place, is_at))
          | inr e ↦ inr (
            omega (arith, e, pair.is_place, is_at),
            ap (λ (i : ℕ). slice_get words i) (omega (arith, e, is_at)) ∙ pair.is_option,
          )
        ]

    -- another option stands here
    pub passed : (found : Option ℕ) → (slice_get words at ≡ Some option → ⊥) → FoundSo at found → FoundSo (at + 2) found
    passed None other_option so = λ other its pair less. elim (before_next other its pair less) as (λ w. ⊥) [
      | inl h ↦ so other its pair h
      | inr e ↦ other_option e.1
    ]
    passed (Some place) other_option so = record {
      word = so.word;
      is_pair = so.is_pair;
      within = omega (arith, so.within);
      once = λ other its pair less. elim (before_next other its pair less) as (λ w. other ≡ place) [
        | inl h ↦ so.once other its pair h
        | inr e ↦ absurd (other_option e.1)
      ];
    }

    here : (word : List ℕ) → slice_get words at ≡ Some option → slice_get words (at + 1) ≡ Some word → IsPair words first option (at + 1) word
    here word is_option is_word = record {
      before = k;
      is_place = omega (arith, is_at);
      is_option = ap (λ (i : ℕ). slice_get words i) (sym is_at) ∙ is_option;
      is_word = is_word;
    }

    -- it stands here first
    found_here : (word : List ℕ) → slice_get words at ≡ Some option → slice_get words (at + 1) ≡ Some word → FoundSo at None → FoundSo (at + 2) (Some (at + 1))
    found_here word is_option is_word so = record {
      word = word;
      is_pair = here word is_option is_word;
      within = omega arith;
      once = λ other its pair less. elim (before_next other its pair less) as (λ w. other ≡ at + 1) [
        | inl h ↦ absurd (so other its pair h)
        | inr e ↦ e.0
      ];
    }

    pub found_first : (found : Option ℕ) → is_some found ≡ false → (word : List ℕ) → slice_get words at ≡ Some option → slice_get words (at + 1) ≡ Some word
        → FoundSo at found → FoundSo (at + 2) (Some (at + 1))
    found_first None none word is_option is_word so = found_here word is_option is_word so
    found_first (Some found) none word is_option is_word so = absurd (cc)

    -- it stands here again
    pub found_twice : (found : Option ℕ) → is_some found ≡ true → (word : List ℕ) → FoundSo at found → slice_get words at ≡ Some option
        → slice_get words (at + 1) ≡ Some word → (place : ℕ) → (◌≡◌ {A = Option ℕ} None (Some place)) ↔ PlaceStands words first option place
    found_twice None some word so is_option is_word place = absurd (cc)
    found_twice (Some found) some word so is_option is_word place = (
      λ some. absurd (cc),
      λ stands.
          let one = stands.1.once (at + 1) word (here word is_option is_word) in
          let two = stands.1.once found so.word so.is_pair in
          absurd (omega (arith, one, two, so.within)),
    )

    -- all pairs were passed
    before_end : length words ≤ at + 1 → (other : ℕ) (its : List ℕ) → IsPair words first option other its → other < at
    before_end all other its pair =
        let inside = there_within words other its pair.is_word in omega (arith, all, inside, pair.is_place, is_at)

    pub found_all : length words ≤ at + 1 → (found : Option ℕ) → FoundSo at found → (place : ℕ) → (found ≡ Some place) ↔ PlaceStands words first option place
    found_all all None so place = (
      λ some. absurd (cc),
      λ stands. absurd (so place stands.0 stands.1.is_pair (before_end all place stands.0 stands.1.is_pair)),
    )
    found_all all (Some found) so place = (
      λ some. let same : found ≡ place = cc in subst (λ (p : ℕ). PlaceStands words first option p) same (
        so.word,
        record { is_pair = so.is_pair; once = λ other its pair. so.once other its pair (before_end all other its pair) },
      ),
      λ stands. ap (λ (p : ℕ). Some p) (sym (so.once place stands.0 stands.1.is_pair (before_end all place stands.0 stands.1.is_pair))),
    )

  -- ---- its word

  module _ (found : Option ℕ) (is : (place : ℕ) → (found ≡ Some place) ↔ PlaceStands words first option place) where
    none_stands : found ≡ None → (place : ℕ) (word : List ℕ) → HasOption words first option place word → ⊥
    none_stands none place word has =
        let e : ◌≡◌ {A = Option ℕ} None (Some place) = sym none ∙ (is place).1 (word, has) in absurd (cc)

    pub no_form : (form : Form) (result : Option Form) → found ≡ None → result ≡ None → (result ≡ Some form) ↔ FormStands words first option form
    no_form form result none no_result = (
      λ some. absurd (let e : ◌≡◌ {A = Option Form} None (Some form) = sym no_result ∙ some in cc),
      λ stands. absurd (none_stands none stands.0 (form_word form) stands.1),
    )

    pub no_count : (count : ℕ) (result : Option ℕ) → found ≡ None → result ≡ None → (result ≡ Some count) ↔ CountStands words first option count
    no_count count result none no_result = (
      λ some. absurd (let e : ◌≡◌ {A = Option ℕ} None (Some count) = sym no_result ∙ some in cc),
      λ stands. absurd (none_stands none stands.place (decimal count) stands.has),
    )

    module _ (at : ℕ) (word : List ℕ) (is_found : found ≡ Some at) (here : slice_get words at ≡ Some word) where
      has_word : HasOption words first option at word
      has_word =
          let stands = (is at).0 is_found in
          subst (λ (w : List ℕ). HasOption words first option at w) (one_word stands.0 word (sym stands.1.is_pair.is_word ∙ here)) stands.1

      its_word : (place : ℕ) (its : List ℕ) → HasOption words first option place its → word ≡ its
      its_word place its has =
          let some : ◌≡◌ {A = Option ℕ} (Some at) (Some place) = sym is_found ∙ (is place).1 (its, has) in
          let same : at ≡ place = cc in
          one_word word its (sym here ∙ ap (λ (i : ℕ). slice_get words i) same ∙ has.is_pair.is_word)

      pub form_stands : (form : Form) (result : Option Form) → (result ≡ Some form) ↔ (word ≡ form_word form) → (result ≡ Some form) ↔ FormStands words first option form
      form_stands form result of = (
        λ some. (at, subst (λ (w : List ℕ). HasOption words first option at w) (of.0 some) has_word),
        λ stands. of.1 (its_word stands.0 (form_word form) stands.1),
      )

      -- it tells no number
      pub tells_none : (count : ℕ) (result : Option ℕ) → result ≡ None → (IsDecimal word count → 1 ≤ count → ⊥) → (result ≡ Some count) ↔ CountStands words first option count
      tells_none count result no_result none = (
        λ some. absurd (let e : ◌≡◌ {A = Option ℕ} None (Some count) = sym no_result ∙ some in cc),
        λ stands. absurd (none (record { is = its_word stands.place (decimal count) stands.has; most = stands.most }) stands.some),
      )

      pub tells_count : (told count : ℕ) → IsDecimal word told → 1 ≤ told → (◌≡◌ {A = Option ℕ} (Some told) (Some count)) ↔ CountStands words first option count
      tells_count told count is_told some = (
        λ same. let e : told ≡ count = cc in subst (λ (n : ℕ). CountStands words first option n) e (record {
          place = at;
          has = subst (λ (w : List ℕ). HasOption words first option at w) is_told.is has_word;
          some = some;
          most = is_told.most;
        }),
        λ stands. ap (λ (n : ℕ). Some n) (decimal_injective told count (omega (arith, is_told.most)) (omega (arith, stands.most))
            (sym is_told.is ∙ its_word stands.place (decimal count) stands.has)),
      )
