-- A walk has one way: of two walks over one text one goes on behind the other.
use Rattle.std.proofs.Common.{◌≡◌, ◌++◌, ◌∷◌, ◌⊎◌, inl, inr, ℕ, zero, suc, List, [], length, drop, Result, Ok, refl, ap, sym, ◌∙◌, subst}
use Rattle.std.proofs.lemmas.List.{append_assoc}
use Rattle.std.proofs.Math.Seq.{drop-append_seam}
use Rattle.span_io.specs.declared.cause.Cause.{Cause}
use Rattle.thrift_core.specs.Parts.{Part, WordOf, Spelling, Begins}
use Rattle.thrift_core.specs.Reading.{ReadingOf}
use Rattle.thrift_core.specs.Protocols.{ReadsExactly}
use Rattle.thrift_core.specs.Walks.{Open, First, a_part, some_bytes, made_of, no_level, first_of, Turn, Turns, Passes}

-- ---- walks over some text, and over the same with more behind it

-- what a walk passes of a text, and that it passes the same before anything
pub record Front (Spells : Spelling) (count : ℕ) (before : List Open) (whole : List ℕ) (after : List Open) (rest : List ℕ) : Type 0 where
  pub text : List ℕ
  pub parts : whole ≡ text ++ rest
  pub again : (other : List ℕ) → Turns Spells count before (text ++ other) after other

record TurnFront (Spells : Spelling) (first : First) (whole : List ℕ) (opened : List Open) (rest : List ℕ) : Type 0 where
  text : List ℕ
  parts : whole ≡ text ++ rest
  again : (other : List ℕ) → Turn Spells first (text ++ other) opened other

turn_front : (Spells : Spelling) (first : First) (whole : List ℕ) (opened : List Open) (rest : List ℕ) → Turn Spells first whole opened rest → TurnFront Spells first whole opened rest
turn_front Spells (a_part part opens) whole opened rest h = record {
  text = h.1.text;
  parts = h.1.parts;
  again = λ other. (h.0, record { text = h.1.text; spelled = h.1.spelled; parts = refl }, h.2);
}
turn_front Spells (some_bytes many) whole opened rest h = record { text = h.0; parts = h.1; again = λ other. (h.0, refl, h.2, h.3) }
turn_front Spells (made_of opens) whole opened rest h = record { text = []; parts = h.1; again = λ other. (h.0, refl) }
turn_front Spells no_level whole opened rest h = absurd h

pub front_of : (Spells : Spelling) (count : ℕ) (before : List Open) (whole : List ℕ) (after : List Open) (rest : List ℕ) → Turns Spells count before whole after rest → Front Spells count before whole after rest
unfolding Turns
front_of Spells zero before whole after rest h = record { text = []; parts = h.1; again = λ other. (h.0, refl) }
front_of Spells (suc n) [] whole after rest h = absurd h
front_of Spells (suc n) (top ∷ below) whole after rest h =
    let one = turn_front Spells (first_of top) whole h.0 h.1 h.2 in
    let more = front_of Spells n (h.0 ++ below) h.1 after rest h.3 in
    record {
      text = one.text ++ more.text;
      parts = one.parts ∙ ap (λ l. one.text ++ l) more.parts ∙ sym (append_assoc one.text more.text rest);
      again = λ other. (
        h.0,
        more.text ++ other,
        subst (λ l. Turn Spells (first_of top) l h.0 (more.text ++ other)) (sym (append_assoc one.text more.text other)) (one.again (more.text ++ other)),
        more.again other,
      );
    }

-- with more behind the text the walk leaves more
pub turns_more : (Spells : Spelling) (count : ℕ) (before : List Open) (whole : List ℕ) (after : List Open) (rest more : List ℕ) → Turns Spells count before whole after rest → Turns Spells count before (whole ++ more) after (rest ++ more)
turns_more Spells count before whole after rest more h =
    let front = front_of Spells count before whole after rest h in
    subst (λ l. Turns Spells count before l after (rest ++ more)) (sym (ap (λ l. l ++ more) front.parts ∙ append_assoc front.text rest more)) (front.again (rest ++ more))

pub passes_more : (Spells : Spelling) (before : List Open) (whole : List ℕ) (after : List Open) (rest more : List ℕ) → Passes Spells before whole after rest → Passes Spells before (whole ++ more) after (rest ++ more)
passes_more Spells before whole after rest more h = record { count = h.count; turns = turns_more Spells h.count before whole after rest more h.turns }

-- ---- walks behind walks, and above what stays open

pub no_turns : (Spells : Spelling) (stack : List Open) (text : List ℕ) → Passes Spells stack text stack text
unfolding Turns
no_turns Spells stack text = record { count = zero; turns = (refl, refl) }

pub one_turn : (Spells : Spelling) (top : Open) (below : List Open) (whole : List ℕ) (opened : List Open) (rest : List ℕ) → Turn Spells (first_of top) whole opened rest → Passes Spells (top ∷ below) whole (opened ++ below) rest
unfolding Turns
one_turn Spells top below whole opened rest h = record { count = suc zero; turns = (opened, rest, h, (refl, refl)) }

turns_on : (Spells : Spelling) (n : ℕ) (a : List Open) (whole : List ℕ) (b : List Open) (between : List ℕ) (c : List Open) (rest : List ℕ) → Turns Spells n a whole b between → Passes Spells b between c rest → Passes Spells a whole c rest
unfolding Turns
turns_on Spells zero a whole b between c rest h g = subst (λ l. Passes Spells a l c rest) (sym h.1) (subst (λ s. Passes Spells s between c rest) (sym h.0) g)
turns_on Spells (suc n) [] whole b between c rest h g = absurd h
turns_on Spells (suc n) (top ∷ below) whole b between c rest h g =
    let more : Passes Spells (h.0 ++ below) h.1 c rest = turns_on Spells n (h.0 ++ below) h.1 b between c rest h.3 g in
    record { count = suc more.count; turns = (h.0, h.1, h.2, more.turns) }

pub passes_on : (Spells : Spelling) (a : List Open) (whole : List ℕ) (b : List Open) (between : List ℕ) (c : List Open) (rest : List ℕ) → Passes Spells a whole b between → Passes Spells b between c rest → Passes Spells a whole c rest
passes_on Spells a whole b between c rest h g = turns_on Spells h.count a whole b between c rest h.turns g

turns_above : (Spells : Spelling) (n : ℕ) (a : List Open) (whole : List ℕ) (b : List Open) (rest : List ℕ) (below : List Open) → Turns Spells n a whole b rest → Turns Spells n (a ++ below) whole (b ++ below) rest
unfolding Turns
turns_above Spells zero a whole b rest below h = (ap (λ l. l ++ below) h.0, h.1)
turns_above Spells (suc n) [] whole b rest below h = absurd h
turns_above Spells (suc n) (top ∷ more) whole b rest below h = (
  h.0,
  h.1,
  h.2,
  subst (λ l. Turns Spells n l h.1 (b ++ below) rest) (append_assoc h.0 more below) (turns_above Spells n (h.0 ++ more) h.1 b rest below h.3),
)

pub passes_above : (Spells : Spelling) (a : List Open) (whole : List ℕ) (b : List Open) (rest : List ℕ) (below : List Open) → Passes Spells a whole b rest → Passes Spells (a ++ below) whole (b ++ below) rest
passes_above Spells a whole b rest below h = record { count = h.count; turns = turns_above Spells h.count a whole b rest below h.turns }

-- a walk that ends stands nowhere else
pub ended_there : (Spells : Spelling) (text : List ℕ) (after : List Open) (rest : List ℕ) → Passes Spells [] text after rest → ([] ≡ after) × (text ≡ rest)
unfolding Turns
ended_there Spells text after rest h = by_count h.count h.turns
  where
    by_count : (count : ℕ) → Turns Spells count [] text after rest → ([] ≡ after) × (text ≡ rest)
    by_count zero h = h
    by_count (suc n) h = absurd h

-- ---- one way

-- no turn is made there
abbrev pub Stuck : Spelling → Open → List ℕ → Type 0
Stuck Spells top text = (opened : List Open) (rest : List ℕ) → Turn Spells (first_of top) text opened rest → ⊥

same_ok : {A : Type 0} (a b : A) (r : Result A Cause) → r ≡ Ok a → r ≡ Ok b → a ≡ b
same_ok a b r e f = cc

one_answer : (part : Part) (word other : WordOf part) (rest left : List ℕ) (r : Result (WordOf part × List ℕ) Cause) → r ≡ Ok (word, rest) → r ≡ Ok (other, left) → (word ≡ other) × (rest ≡ left)
one_answer part word other rest left r e f =
    let pairs = same_ok (word, rest) (other, left) r e f in
    (ap (λ p. p.0) pairs, ap (λ p. p.1) pairs)

module _ (Spells : Spelling) (reads : ReadingOf) (ThenVarint : Part → List ℕ → Type 0) (Refuses : Part → Cause → List ℕ → Type 0) (R : ReadsExactly Spells reads ThenVarint Refuses) where
  pub one_word : (part : Part) (word other : WordOf part) (whole rest left : List ℕ) → Begins Spells part word whole rest → Begins Spells part other whole left → (word ≡ other) × (rest ≡ left)
  one_word part word other whole rest left h g =
      one_answer part word other rest left (reads part whole) (R.only part word whole rest h) (R.only part other whole left g)

  pub one_outcome : (first : First) (whole : List ℕ) (a b : List Open) (rest left : List ℕ) → Turn Spells first whole a rest → Turn Spells first whole b left → (a ≡ b) × (rest ≡ left)
  one_outcome (a_part part opens) whole a b rest left h g =
      let same : (h.0 ≡ g.0) × (rest ≡ left) = one_word part h.0 g.0 whole rest left h.1 g.1 in
      (h.2 ∙ ap opens same.0 ∙ sym g.2, same.1)
  one_outcome (some_bytes many) whole a b rest left h g =
      (h.3 ∙ sym g.3, sym (drop-append_seam h.0 rest) ∙ ap (λ n. drop n (h.0 ++ rest)) (h.2 ∙ sym g.2) ∙ ap (drop (length g.0)) (sym h.1 ∙ g.1) ∙ drop-append_seam g.0 left)
  one_outcome (made_of opens) whole a b rest left h g = (h.0 ∙ sym g.0, sym h.1 ∙ g.1)
  one_outcome no_level whole a b rest left h g = absurd h

  turns_meet : (n m : ℕ) (before : List Open) (whole : List ℕ) (a b : List Open) (rest left : List ℕ) → Turns Spells n before whole a rest → Turns Spells m before whole b left
      → Passes Spells a rest b left ⊎ Passes Spells b left a rest
  unfolding Turns
  turns_meet zero m before whole a b rest left h g = inl (record { count = m; turns = subst (λ s. Turns Spells m s rest b left) h.0 (subst (λ l. Turns Spells m before l b left) h.1 g) })
  turns_meet (suc n) zero before whole a b rest left h g = inr (record { count = suc n; turns = subst (λ s. Turns Spells (suc n) s left a rest) g.0 (subst (λ l. Turns Spells (suc n) before l a rest) g.1 h) })
  turns_meet (suc n) (suc m) [] whole a b rest left h g = absurd h
  turns_meet (suc n) (suc m) (top ∷ below) whole a b rest left h g =
      let same : (h.0 ≡ g.0) × (h.1 ≡ g.1) = one_outcome (first_of top) whole h.0 g.0 h.1 g.1 h.2 g.2 in
      turns_meet n m (g.0 ++ below) g.1 a b rest left (subst (λ l. Turns Spells n (g.0 ++ below) l a rest) same.1 (subst (λ s. Turns Spells n (s ++ below) h.1 a rest) same.0 h.3)) g.3

  -- of two walks over one text one goes on behind the other
  pub walks_meet : (before : List Open) (whole : List ℕ) (a b : List Open) (rest left : List ℕ) → Passes Spells before whole a rest → Passes Spells before whole b left
      → Passes Spells a rest b left ⊎ Passes Spells b left a rest
  walks_meet before whole a b rest left h g = turns_meet h.count g.count before whole a b rest left h.turns g.turns

  stuck_there : (top : Open) (below : List Open) (text : List ℕ) (after : List Open) (rest : List ℕ) → Stuck Spells top text → Passes Spells (top ∷ below) text after rest → (top ∷ below ≡ after) × (text ≡ rest)
  unfolding Turns
  stuck_there top below text after rest stuck h = by_count h.count h.turns
    where
      by_count : (count : ℕ) → Turns Spells count (top ∷ below) text after rest → (top ∷ below ≡ after) × (text ≡ rest)
      by_count zero h = h
      by_count (suc n) h = absurd (stuck h.0 h.1 h.2)

  -- each walk goes on to where no turn is made
  pub goes_on : (before : List Open) (whole : List ℕ) (top : Open) (below : List Open) (rest : List ℕ) (b : List Open) (left : List ℕ) → Stuck Spells top rest → Passes Spells before whole (top ∷ below) rest → Passes Spells before whole b left
      → Passes Spells b left (top ∷ below) rest
  goes_on before whole top below rest b left stuck h g = elim (walks_meet before whole (top ∷ below) b rest left h g) as (λ x. Passes Spells b left (top ∷ below) rest) [
    | inl w ↦ (let same : (top ∷ below ≡ b) × (rest ≡ left) = stuck_there top below rest b left stuck w in
        subst (λ s. Passes Spells s left (top ∷ below) rest) same.0 (subst (λ l. Passes Spells (top ∷ below) l (top ∷ below) rest) same.1 (no_turns Spells (top ∷ below) rest)))
    | inr w ↦ w
  ]

  -- there is one such place, and the walk that stands there doesn't end
  pub one_place : (before : List Open) (whole : List ℕ) (top : Open) (below : List Open) (rest : List ℕ) (other : Open) (others : List Open) (left : List ℕ) → Stuck Spells top rest → Stuck Spells other left
      → Passes Spells before whole (top ∷ below) rest → Passes Spells before whole (other ∷ others) left → (top ≡ other) × (rest ≡ left)
  one_place before whole top below rest other others left stuck halts h g =
      let same : (other ∷ others ≡ top ∷ below) × (left ≡ rest) = stuck_there other others left (top ∷ below) rest halts (goes_on before whole top below rest (other ∷ others) left stuck h g) in
      (let e : other ∷ others ≡ top ∷ below = same.0 in cc, sym same.1)

  pub not_ended : (before : List Open) (whole : List ℕ) (top : Open) (below : List Open) (rest left : List ℕ) → Stuck Spells top rest → Passes Spells before whole (top ∷ below) rest → Passes Spells before whole [] left → ⊥
  not_ended before whole top below rest left stuck h g =
      let e : [] ≡ top ∷ below = (ended_there Spells left (top ∷ below) rest (goes_on before whole top below rest [] left stuck h g)).0 in cc

  -- a walk has one end
  pub one_end : (before : List Open) (whole rest left : List ℕ) → Passes Spells before whole [] rest → Passes Spells before whole [] left → rest ≡ left
  one_end before whole rest left h g = elim (walks_meet before whole [] [] rest left h g) as (λ x. rest ≡ left) [
    | inl w ↦ (ended_there Spells rest [] left w).1
    | inr w ↦ sym (ended_there Spells left [] rest w).1
  ]
