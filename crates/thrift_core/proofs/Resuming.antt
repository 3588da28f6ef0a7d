-- What going on with the next piece comes to.
use Rattle.std.proofs.Common.{◌≡◌, ◌≢◌, ◌+◌, ◌-◌, ◌≤◌, ◌<◌, ◌==◌, ◌++◌, ◌∷◌, inl, inr, ℕ, List, [], length, min, take, drop, Bool, true, false, Result, Ok, Err, IsOk, OnOk, refl, ap, sym, ◌∙◌, subst, arith}
use Rattle.std.proofs.lemmas.List.{length-append, length-take, length-drop, take-append-drop, take_all, append_assoc}
use Rattle.std.proofs.lemmas.Bool.Decides.{leb_tells, eqb_tells}
use Rattle.std.proofs.Math.Seq.{drop-append_seam, drop-append-add}
use Rattle.span_io.specs.declared.cause.Cause.{Cause}
use Rattle.span_io.specs.declared.cause.Cause.TheVariants as causes
use Rattle.thrift_core.specs.declared.passing.Halted.{Halted}
use Rattle.thrift_core.specs.declared.passing.Halted.TheVariants as halts
use Rattle.thrift_core.specs.declared.position.Position.{Position}
use Rattle.thrift_core.specs.declared.stack.Stack.{Stack}
use Rattle.thrift_core.specs.Parts.{Part, Spelling}
use Rattle.thrift_core.specs.Places.{StackLacks, at_part, in_binary}
use Rattle.thrift_core.specs.private.Halting.{unfinished_part, IsAtPart, IsEnough, KeepsOf, Halting, Resumed, Joined}
use Rattle.thrift_core.specs.Positions.{PlaceOf}
use Rattle.thrift_core.specs.Protocols.{ReadsExactly, UnfinishedWithin, most_unfinished}
use Rattle.thrift_core.specs.Reading.{ReadingOf}
use Rattle.thrift_core.specs.private.StackWalks.{open_of, HaltsThere}
use Rattle.thrift_core.specs.Stops.{StopsBy, StopsFor}
use Rattle.thrift_core.specs.Walks.{First, a_part, some_bytes, made_of, no_level, first_of, outer_struct, Passes}
use Rattle.thrift_core.proofs.Determined.{front_of, passes_more, passes_on}
use Rattle.thrift_core.proofs.Halts.{stop_stays}
use Rattle.thrift_core.proofs.Places.{binary_goes_on, binary_ends}

-- ---- parts of a piece

pub whole_take : (n : ℕ) (l : List ℕ) → length l ≤ n → take n l ≡ l
whole_take n l e = take_all n l e

pub rest_part : (n : ℕ) (piece : List ℕ) → take (length piece - n) (drop n piece) ≡ drop n piece
rest_part n piece = take_all (length piece - n) (drop n piece) (omega (arith, length-drop n piece))

cut_whole : (n : ℕ) (bytes piece : List ℕ) → (bytes ++ take n piece) ++ drop n piece ≡ bytes ++ piece
cut_whole n bytes piece = append_assoc bytes (take n piece) (drop n piece) ∙ ap (λ l. bytes ++ l) (take-append-drop n piece)

-- bytes at the end of some, and what follows, are the end of all
end_part : (taken begun : ℕ) (bytes piece text rest : List ℕ) → bytes ++ take taken piece ≡ text ++ rest → taken ≤ length piece → begun + length rest ≡ taken
    → rest ++ drop taken piece ≡ drop begun piece
end_part taken begun bytes piece text rest e within sum =
    let all : text ++ (rest ++ drop taken piece) ≡ bytes ++ piece = sym (append_assoc text rest (drop taken piece)) ∙ ap (λ l. l ++ drop taken piece) (sym e) ∙ cut_whole taken bytes piece in
    let size : length text ≡ length bytes + begun = omega (arith, ap length e, length-append bytes (take taken piece), length-append text rest, length-take taken piece, within, sum) in
    sym (drop-append_seam text (rest ++ drop taken piece)) ∙ ap (λ l. drop (length text) l) all ∙ ap (λ n. drop n (bytes ++ piece)) size ∙ drop-append-add bytes piece begun

module _ (Spells : Spelling) (reads : ReadingOf) where
  -- ---- where a walk halts

  few_rest : UnfinishedWithin most_unfinished reads → (first : First) (rest : List ℕ) → StopsBy reads first rest causes.Truncated → length rest ≤ most_unfinished
  few_rest few (a_part part opens) rest e = few part rest e
  few_rest few (some_bytes many) rest e = absurd e
  few_rest few (made_of opens) rest e = absurd e
  few_rest few no_level rest e = cc

  kept_part : UnfinishedWithin most_unfinished reads → (whole rest : List ℕ) (cause : Cause) (old new : Position) → IsAtPart old → KeepsOf (halts.For cause) rest old new
      → HaltsThere Spells reads (outer_struct ∷ []) whole (halts.For cause) new.stack rest → cause ≡ causes.Truncated → PlaceOf Spells whole new
  kept_part few whole rest cause old new at kept h e =
      let k : KeepsOf unfinished_part rest old new = subst (λ c. KeepsOf (halts.For c) rest old new) e kept in
      let short : length rest ≤ most_unfinished = few_rest few (first_of h.1.top) rest (subst (λ c. StopsBy reads (first_of h.1.top) rest c) e h.1.stops) in
      let same = k at.0 short in
      at_part (same.1 ∙ at.1) (subst (λ l. Passes Spells (outer_struct ∷ []) whole (open_of new.stack) l) (sym same.0) h.0) (omega (arith, short, ap length same.0))

  pub halting : UnfinishedWithin most_unfinished reads → (whole rest : List ℕ) (halted : Halted) (old new : Position) → IsAtPart old → KeepsOf halted rest old new
      → HaltsThere Spells reads (outer_struct ∷ []) whole halted new.stack rest → Halting Spells reads whole halted new
  halting few whole rest (halts.For cause) old new at kept h = (
    record {
      top = h.1.top;
      below = h.1.below;
      rest = rest;
      passes = passes_on Spells (outer_struct ∷ []) whole (open_of new.stack) rest (h.1.top ∷ h.1.below) rest h.0 h.1.passes;
      stops = h.1.stops;
    },
    λ e. kept_part few whole rest cause old new at kept h e,
  )
  halting few whole rest (halts.Lacking many) old new at kept h = (
    record { held = h.held; below = open_of new.stack; rest = h.rest; passes = h.passes; missing = h.missing; some = h.some },
    λ e. in_binary (ap (λ v. v.items) kept.1 ∙ at.0) (subst (λ n. StackLacks Spells (outer_struct ∷ []) whole n (open_of new.stack)) (sym kept.0) h),
  )

  -- ---- a binary goes on

  pub binary_short : (bytes piece : List ℕ) (at : Position) → at.carry.items ≡ [] → length piece < at.missing → PlaceOf Spells bytes at
      → Halting Spells reads (bytes ++ piece) (halts.Lacking (at.missing - length piece)) (record { stack = at.stack; carry = at.carry; missing = at.missing - length piece })
  binary_short bytes piece at none less (at_part zero h few) = absurd (omega (arith, zero, less))
  binary_short bytes piece at none less (in_binary e h) =
      let goes : StackLacks Spells (outer_struct ∷ []) (bytes ++ piece) (at.missing - length piece) (open_of at.stack) = binary_goes_on Spells (outer_struct ∷ []) bytes piece at.missing (open_of at.stack) less h in (
        record { held = goes.held; below = open_of at.stack; rest = goes.rest; passes = goes.passes; missing = goes.missing; some = goes.some },
        λ f. in_binary none goes,
      )

  pub behind_binary : (bytes piece : List ℕ) (at : Position) → at.carry.items ≡ [] → at.missing ≤ length piece → PlaceOf Spells bytes at
      → Passes Spells (outer_struct ∷ []) (bytes ++ piece) (open_of at.stack) (drop at.missing piece)
  behind_binary bytes piece at none enough (at_part zero h few) =
      subst (λ l. Passes Spells (outer_struct ∷ []) (bytes ++ piece) (open_of at.stack) l) (ap (λ l. l ++ piece) none ∙ ap (λ n. drop n piece) (sym zero))
      (passes_more Spells (outer_struct ∷ []) bytes (open_of at.stack) at.carry.items piece h)
  behind_binary bytes piece at none enough (in_binary e h) = binary_ends Spells (outer_struct ∷ []) bytes piece at.missing (open_of at.stack) enough h

  -- ---- a part goes on

  pub all_taken : (bytes piece rest : List ℕ) (taken : ℕ) (stack : Stack) → UnfinishedWithin most_unfinished reads → taken ≤ length piece → IsEnough taken piece → taken < length rest
      → HaltsThere Spells reads (outer_struct ∷ []) (bytes ++ take taken piece) unfinished_part stack rest → HaltsThere Spells reads (outer_struct ∷ []) (bytes ++ piece) unfinished_part stack rest
  all_taken bytes piece rest taken stack few within enough less h =
      let short : length rest ≤ most_unfinished = few_rest few (first_of h.1.top) rest h.1.stops in
      let all : length piece ≤ taken = elim enough as (λ x. length piece ≤ taken) [
        | inl e ↦ omega (arith, e)
        | inr most ↦ absurd (omega (arith, most, short, less))
      ] in
      subst (λ l. HaltsThere Spells reads (outer_struct ∷ []) (bytes ++ l) unfinished_part stack rest) (take_all taken piece all) h

  pub begun_again : (bytes piece rest : List ℕ) (taken begun : ℕ) (stack : Stack) → taken ≤ length piece → begun + length rest ≡ taken
      → Passes Spells (outer_struct ∷ []) (bytes ++ take taken piece) (open_of stack) rest → Passes Spells (outer_struct ∷ []) (bytes ++ piece) (open_of stack) (drop begun piece)
  begun_again bytes piece rest taken begun stack within sum h =
      let front = front_of Spells h.count (outer_struct ∷ []) (bytes ++ take taken piece) (open_of stack) rest h.turns in
      subst (λ l. Passes Spells (outer_struct ∷ []) (bytes ++ piece) (open_of stack) l) (end_part taken begun bytes piece front.text rest front.parts within sum)
      (subst (λ l. Passes Spells (outer_struct ∷ []) l (open_of stack) (rest ++ drop taken piece)) (cut_whole taken bytes piece)
      (passes_more Spells (outer_struct ∷ []) (bytes ++ take taken piece) (open_of stack) rest (drop taken piece) h))

  -- behind the bytes that were read with the carry, in a binary
  pub lacking_place : (bytes piece : List ℕ) (taken many : ℕ) (at : Position) → at.carry.items ≡ [] → at.missing ≡ many
      → StackLacks Spells (outer_struct ∷ []) (bytes ++ take taken piece) many (open_of at.stack) → PlaceOf Spells (bytes ++ take taken piece) at
  lacking_place bytes piece taken many at none e h = in_binary none (subst (λ n. StackLacks Spells (outer_struct ∷ []) (bytes ++ take taken piece) n (open_of at.stack)) (sym e) h)

  -- ---- what is answered counts from the piece

  pub counted_on : (begun size : ℕ) (whole part : List ℕ) (n : ℕ) (new : Position) → begun + length part ≡ size → Resumed Spells reads whole (length part) (Ok n) new → Resumed Spells reads whole size (Ok (begun + n)) new
  counted_on begun size whole part n new sum h = (h.0, h.1, omega (arith, sum, h.2))

  pub of_cut : (bytes piece : List ℕ) (taken size : ℕ) (result : Result ℕ Halted) (new : Position) → Resumed Spells reads ((bytes ++ take taken piece) ++ drop taken piece) size result new
      → Resumed Spells reads (bytes ++ piece) size result new
  of_cut bytes piece taken size result new h = subst (λ l. Resumed Spells reads l size result new) (cut_whole taken bytes piece) h

  pub resumed_joined : (whole : List ℕ) (size : ℕ) (result : Result ℕ Halted) (new : Position) → Resumed Spells reads whole size result new → Joined Spells reads whole size result new
  resumed_joined whole size (Ok n) new h = (h.0, h.1, omega (arith, h.2))
  resumed_joined whole size (Err halted) new h = h

  -- ---- the carry and the first bytes of the piece

  pub joined_passes : (bytes piece carry joined : List ℕ) (taken : ℕ) (stack : Stack) → joined ≡ carry ++ take taken piece → Passes Spells (outer_struct ∷ []) bytes (open_of stack) carry
      → Passes Spells (outer_struct ∷ []) (bytes ++ take taken piece) (open_of stack) joined
  joined_passes bytes piece carry joined taken stack e h =
      subst (λ l. Passes Spells (outer_struct ∷ []) (bytes ++ take taken piece) (open_of stack) l) (sym e) (passes_more Spells (outer_struct ∷ []) bytes (open_of stack) carry (take taken piece) h)

  pub joined_over : (bytes piece joined rest : List ℕ) (taken carried place n : ℕ) (old new : Position) → taken ≤ length piece → length joined ≡ carried + taken → place + length rest ≡ length joined → n ≡ place - carried
      → Passes Spells (outer_struct ∷ []) (bytes ++ take taken piece) (open_of old.stack) joined → Passes Spells (open_of old.stack) joined [] rest
      → Joined Spells reads (bytes ++ piece) (length piece) (Ok n) new
  joined_over bytes piece joined rest taken carried place n old new within size at e h g = (
    rest ++ drop taken piece,
    subst (λ l. Passes Spells (outer_struct ∷ []) l [] (rest ++ drop taken piece)) (cut_whole taken bytes piece)
        (passes_more Spells (outer_struct ∷ []) (bytes ++ take taken piece) [] rest (drop taken piece) (passes_on Spells (outer_struct ∷ []) (bytes ++ take taken piece) (open_of old.stack) joined [] rest h g)),
    omega (arith, within, size, at, e, length-append rest (drop taken piece), length-drop taken piece),
  )

-- another cause than Truncated stays, whatever follows
pub other_halts : (Spells : Spelling) (reads : ReadingOf) (ThenVarint : Part → List ℕ → Type 0) (Refuses : Part → Cause → List ℕ → Type 0) → ReadsExactly Spells reads ThenVarint Refuses
    → (bytes piece rest : List ℕ) (taken : ℕ) (cause : Cause) (at : Position) → cause ≢ causes.Truncated
    → HaltsThere Spells reads (outer_struct ∷ []) (bytes ++ take taken piece) (halts.For cause) at.stack rest → Halting Spells reads (bytes ++ piece) (halts.For cause) at
other_halts Spells reads ThenVarint Refuses R bytes piece rest taken cause at other h =
    let stop : StopsFor Spells reads outer_struct (bytes ++ take taken piece) cause = record {
      top = h.1.top;
      below = h.1.below;
      rest = rest;
      passes = passes_on Spells (outer_struct ∷ []) (bytes ++ take taken piece) (open_of at.stack) rest (h.1.top ∷ h.1.below) rest h.0 h.1.passes;
      stops = h.1.stops;
    } in (
      subst (λ l. StopsFor Spells reads outer_struct l cause) (cut_whole taken bytes piece) (stop_stays Spells reads ThenVarint Refuses R outer_struct (bytes ++ take taken piece) (drop taken piece) cause other stop),
      λ e. absurd (other e),
    )

pub enough_taken : (room carried taken : ℕ) (piece : List ℕ) → room + carried ≡ 20 → carried ≤ most_unfinished → taken ≡ min room (length piece) → IsEnough taken piece
enough_taken room carried taken piece e few is = elim (leb_tells room (length piece)) as (λ x. IsEnough taken piece) [
  | inl full ↦ inr (omega (arith, e, few, is, full.1))
  | inr all ↦ inl (omega (arith, is, all.1))
]

-- ---- an empty carry

no_bytes : (l : List ℕ) → length l ≡ 0 → l ≡ []
no_bytes [] e = refl
no_bytes (b ∷ l) e = absurd (omega (arith, e))

pub empty_true : (l : List ℕ) (b : Bool) → b ≡ (length l == 0) → b ≡ true → l ≡ []
empty_true l b is so =
    let k = sym is ∙ so in
    elim (eqb_tells (length l) 0) [ inl h ↦ no_bytes l h.1 | inr h ↦ (let other = h.0 in cc) ]

pub empty_false : (l : List ℕ) (b : Bool) → b ≡ (length l == 0) → b ≡ false → l ≡ [] → ⊥
empty_false l b is so e =
    let k = sym is ∙ so in
    elim (eqb_tells (length l) 0) [ inl h ↦ (let other = h.0 in cc) | inr h ↦ h.1 (ap length e) ]

-- the carry has bytes in a part alone
pub in_part : (Spells : Spelling) (reads : ReadingOf) (bytes whole : List ℕ) (size : ℕ) (result : Result ℕ Halted) (at new : Position) → (at.carry.items ≡ [] → ⊥) → PlaceOf Spells bytes at
    → (at.missing ≡ 0 → length at.carry.items ≤ most_unfinished → Passes Spells (outer_struct ∷ []) bytes (open_of at.stack) at.carry.items → Joined Spells reads whole size result new)
    → Joined Spells reads whole size result new
in_part Spells reads bytes whole size result at new some (at_part zero h few) joined = joined zero few h
in_part Spells reads bytes whole size result at new some (in_binary none h) joined = absurd (some none)

pub on_ok : {A E P : Type 0} (r : Result A E) → IsOk r → OnOk r P → P
on_ok (Ok x) there h = h
on_ok (Err e) there h = cc
