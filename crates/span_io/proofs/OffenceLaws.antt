-- How the offence that counts is found item by item. A reader keeps a `Walked` in its loop, and each way to leave the loop has a
-- lemma. Readers of every wire format cite these.
use Rattle.std.proofs.Common.{◌≡◌, ℕ, zero, suc, ◌+◌, ◌-◌, ◌<◌, ◌≤◌, ◌⊎◌, inl, inr, List, [], ◌∷◌, ◌++◌, Result, Ok, Err, refl, sym, ap, subst, ◌∙◌, arith}
use Rattle.std.proofs.lemmas.Bool.{cases_lt}
use Rattle.span_io.specs.Causes.{cause_number}
use Rattle.span_io.specs.declared.cause.Cause.{Cause}
use Rattle.span_io.specs.declared.halt.Halt.{Halt}
use Rattle.span_io.specs.declared.halt.Halt.TheVariants as halts
use Rattle.span_io.specs.Offences.{Format, Rules, Cut, Unread, Here, Inside, AtEnd, Offence, unread, here, inside, at_end, Least, HereOrInside, ItemOffends, Judges, JudgesHere, FormatLaws, RulesLaws}

-- of two cuts of one text: they are the same, or an item begins at the one, and the other is behind it
pub data TwoCuts (F : Format) (seen : List F.Item) (rest : F.Rest) (other : List F.Item) (there : F.Rest) : Type 0 where
  same : seen ≡ other → rest ≡ there → TwoCuts F seen rest other there
  behind : (r : F.Item) (after : F.Rest) (more : List F.Item) → F.Begins r rest after → Cut F after more there → TwoCuts F seen rest other there
  ahead : (r : F.Item) (after : F.Rest) (more : List F.Item) → F.Begins r there after → Cut F after more rest → TwoCuts F seen rest other there

-- a walk came to this cut, and no item before it offends
pub record Walked (F : Format) (K : Rules F.Item) (text : F.Rest) (seen : List F.Item) (rest : F.Rest) : Type 0 where
  pub cut : Cut F text seen rest
  pub fine : (other : List F.Item) (there after : F.Rest) (r : F.Item) → Cut F text other there → F.Begins r there after → F.size rest < F.size there
      → (p n : ℕ) → ItemOffends F.Item K other r p n → ⊥

-- the place in the message of what offends in an item that stands here
abbrev pub AtItem : (F : Format) → F.Rest → F.Rest → F.Rest → F.Item → ℕ → ℕ → Type 0
AtItem F text rest after r zero place = place + F.size rest ≡ F.size text + 1
AtItem F text rest after r (suc inner) place = place + F.held r + F.size after ≡ F.size text + inner

-- where an offence stands, seen from a cut that a walk came to: here, in the item that begins here, behind it, or at the end
pub data Stands (F : Format) (K : Rules F.Item) (text : F.Rest) (seen : List F.Item) (rest : F.Rest) (place n : ℕ) : Type 0 where
  not_read : F.Unread rest n → place + F.size rest ≡ F.size text + 1 → Stands F K text seen rest place n
  in_next : (r : F.Item) (after : F.Rest) → F.Begins r rest after → (p : ℕ) → ItemOffends F.Item K seen r p n → AtItem F text rest after r p place → Stands F K text seen rest place n
  ends_here : F.IsEnd rest → K.ends seen n → place ≡ F.size text → Stands F K text seen rest place n
  behind_next : (r : F.Item) (after : F.Rest) → F.Begins r rest after → F.size text < place + F.size after → Stands F K text seen rest place n
  ends_behind : (r : F.Item) (after : F.Rest) → F.Begins r rest after → (more : List F.Item) (end : F.Rest) → Cut F after more end → F.IsEnd end → (all : List F.Item) → K.ends all n → place ≡ F.size text
      → Stands F K text seen rest place n

-- one number counts
pub one_cause : (Offends : ℕ → ℕ → Type 0) (n m : ℕ) → Least Offends n → Least Offends m → n ≡ m
one_cause Offends n m h k = both (h.least k.place m k.offence) (k.least h.place n h.offence)
  where
    both : (h.place < k.place) ⊎ ((h.place ≡ k.place) × (n ≤ m)) → (k.place < h.place) ⊎ ((k.place ≡ h.place) × (m ≤ n)) → n ≡ m
    both (inl a) (inl b) = absurd (omega arith)
    both (inl a) (inr b) = absurd (omega arith)
    both (inr a) (inl b) = absurd (omega arith)
    both (inr a) (inr b) = omega arith

-- ---- what counts in one item

module _ (OffendsHere : ℕ → Type 0) (OffendsInside : ℕ → ℕ → Type 0) where
  pub least_here : (n : ℕ) → OffendsHere n → ((m : ℕ) → OffendsHere m → n ≤ m) → Least (HereOrInside OffendsHere OffendsInside) n
  least_here n offends first = record { place = zero; offence = offends; least = first_of_item }
    where
      first_of_item : (p m : ℕ) → HereOrInside OffendsHere OffendsInside p m → (zero < p) ⊎ ((zero ≡ p) × (n ≤ m))
      first_of_item zero m o = inr (refl, first m o)
      first_of_item (suc p) m o = inl (omega arith)

  pub least_inside : (n : ℕ) → ((m : ℕ) → OffendsHere m → ⊥) → Least OffendsInside n → Least (HereOrInside OffendsHere OffendsInside) n
  least_inside n fine_here inner = record { place = suc inner.place; offence = inner.offence; least = first_of_item }
    where
      later : (p m : ℕ) → (inner.place < p) ⊎ ((inner.place ≡ p) × (n ≤ m)) → (suc inner.place < suc p) ⊎ ((suc inner.place ≡ suc p) × (n ≤ m))
      later p m (inl h) = inl (omega arith)
      later p m (inr h) = inr (ap suc h.0, h.1)

      first_of_item : (p m : ℕ) → HereOrInside OffendsHere OffendsInside p m → (suc inner.place < p) ⊎ ((suc inner.place ≡ p) × (n ≤ m))
      first_of_item zero m o = absurd (fine_here m o)
      first_of_item (suc p) m o = later p m (inner.least p m o)

  pub none_in_item : ((m : ℕ) → OffendsHere m → ⊥) → ((p m : ℕ) → OffendsInside p m → ⊥) → (p m : ℕ) → HereOrInside OffendsHere OffendsInside p m → ⊥
  none_in_item fine_here fine_inside zero m o = fine_here m o
  none_in_item fine_here fine_inside (suc p) m o = fine_inside p m o

  -- what was answered of the item itself, where nothing inside it offends, and of what is inside, where nothing else does
  pub judged_here : (T : Type 0) → ((p m : ℕ) → OffendsInside p m → ⊥) → (answer : Result T (Halt Cause)) → JudgesHere answer OffendsHere → Judges answer (HereOrInside OffendsHere OffendsInside)
  judged_here T fine (Ok x) none = none_in_item none fine
  judged_here T fine (Err (halts.Why cause)) h = least_here (cause_number cause) h.0 h.1
  judged_here T fine (Err halts.OutOfMemory) h = tt

  pub judged_inside : (S T : Type 0) (halt : Halt Cause) → ((m : ℕ) → OffendsHere m → ⊥) → Judges {T = S} (Err halt) OffendsInside → Judges {T = T} (Err halt) (HereOrInside OffendsHere OffendsInside)
  judged_inside S T (halts.Why cause) fine h = least_inside (cause_number cause) fine h
  judged_inside S T halts.OutOfMemory fine h = tt

-- ---- what counts in a message

module _ (F : Format) (L : FormatLaws F) where
  cut_step : (text rest after : F.Rest) (seen : List F.Item) (r : F.Item) → Cut F text seen rest → F.Begins r rest after → Cut F text (seen ++ r ∷ []) after
  unfolding Cut
  cut_step text rest after [] r cut begins = (after, subst (λ (x : F.Rest). F.Begins r x after) (sym cut) begins, refl)
  cut_step text rest after (s ∷ seen) r cut begins = (cut.0, cut.1, cut_step cut.0 rest after seen r cut.2 begins)

  cut_size : (text rest : F.Rest) (seen : List F.Item) → Cut F text seen rest → F.size rest ≤ F.size text
  unfolding Cut
  cut_size text rest [] cut = omega (arith, ap F.size cut)
  cut_size text rest (r ∷ seen) cut = omega (arith, cut_size cut.0 rest seen cut.2, L.room r text cut.0 cut.1)

  -- what is behind an item, before an end
  pub last_part : (after end : F.Rest) (more : List F.Item) → Cut F after more end → F.size after ≡ 0 → after ≡ end
  unfolding Cut
  last_part after end [] cut none = cut
  last_part after end (r ∷ more) cut none = absurd (omega (arith, L.room r after cut.0 cut.1, L.some_beside))

  longer : (rest there : F.Rest) (seen other : List F.Item) (r s : F.Item) → r ≡ s → TwoCuts F seen rest other there → TwoCuts F (r ∷ seen) rest (s ∷ other) there
  longer rest there seen other r s e (same lists rests) = same (cc) rests
  longer rest there seen other r s e (behind q after more begins cut) = behind q after more begins cut
  longer rest there seen other r s e (ahead q after more begins cut) = ahead q after more begins cut

  pub two_cuts : (text rest there : F.Rest) (seen other : List F.Item) → Cut F text seen rest → Cut F text other there → TwoCuts F seen rest other there
  unfolding Cut
  two_cuts text rest there [] [] a b = same refl (sym a ∙ b)
  two_cuts text rest there [] (s ∷ other) a b = behind s b.0 other (subst (λ (x : F.Rest). F.Begins s x b.0) a b.1) b.2
  two_cuts text rest there (r ∷ seen) [] a b = ahead r a.0 seen (subst (λ (x : F.Rest). F.Begins r x a.0) b a.1) a.2
  two_cuts text rest there (r ∷ seen) (s ∷ other) a b =
      let one = L.only r s text a.0 b.0 a.1 b.1 in
      longer rest there seen other r s one.0 (two_cuts a.0 rest there seen other a.2 (subst (λ (x : F.Rest). Cut F x other there) (sym one.1) b.2))

  module _ (K : Rules F.Item) where
    pub walked_start : (text : F.Rest) → Walked F K text [] text
    unfolding Cut
    walked_start text = record { cut = refl; fine = λ other there after r cut begins less p n offends. absurd (omega (arith, cut_size text there other cut)) }

    step_fine : (text rest after : F.Rest) (seen : List F.Item) (r : F.Item) → Walked F K text seen rest → F.Begins r rest after → ((p n : ℕ) → ItemOffends F.Item K seen r p n → ⊥)
        → (other : List F.Item) (there then : F.Rest) (s : F.Item) → F.Begins s there then → F.size after < F.size there → Cut F text other there
        → TwoCuts F seen rest other there → (p n : ℕ) → ItemOffends F.Item K other s p n → ⊥
    step_fine text rest after seen r walked begins clean other there then s begun less cut (same lists rests) p n offends =
        let one = L.only r s rest after then begins (subst (λ (x : F.Rest). F.Begins s x then) (sym rests) begun) in
        clean p n (subst (λ (x : F.Item). ItemOffends F.Item K seen x p n) (sym one.0) (subst (λ (l : List F.Item). ItemOffends F.Item K l s p n) (sym lists) offends))
    step_fine text rest after seen r walked begins clean other there then s begun less cut (behind q past more b c) p n offends =
        let one = L.only r q rest after past begins b in
        absurd (omega (arith, ap F.size one.1, cut_size past there more c))
    step_fine text rest after seen r walked begins clean other there then s begun less cut (ahead q past more b c) p n offends =
        walked.fine other there then s cut begun (omega (arith, L.room q there past b, L.some_beside, cut_size past rest more c)) p n offends

    -- one item further
    pub walked_step : (text rest after : F.Rest) (seen : List F.Item) (r : F.Item) → Walked F K text seen rest → F.Begins r rest after → ((p n : ℕ) → ItemOffends F.Item K seen r p n → ⊥)
        → Walked F K text (seen ++ r ∷ []) after
    walked_step text rest after seen r walked begins clean = record {
      cut = cut_step text rest after seen r walked.cut begins;
      fine = λ other there then s cut begun less p n offends.
          step_fine text rest after seen r walked begins clean other there then s begun less cut (two_cuts text rest there seen other walked.cut cut) p n offends;
    }

    stands_unread : (text : F.Rest) (seen : List F.Item) (rest : F.Rest) (place n : ℕ) → (o : Unread F text place n) → TwoCuts F seen rest o.seen o.rest → Stands F K text seen rest place n
    stands_unread text seen rest place n o (same lists rests) = not_read (subst (λ (x : F.Rest). F.Unread x n) (sym rests) o.offends) (omega (arith, ap F.size rests, o.placed))
    stands_unread text seen rest place n o (behind r after more b c) = behind_next r after b (omega (arith, o.placed, cut_size after o.rest more c))
    stands_unread text seen rest place n o (ahead r after more b c) = absurd (L.stuck r o.rest after n o.offends b)

    stands_here : (text : F.Rest) (seen : List F.Item) (rest : F.Rest) (place n : ℕ) → Walked F K text seen rest → (o : Here F K text place n) → TwoCuts F seen rest o.seen o.rest → Stands F K text seen rest place n
    stands_here text seen rest place n walked o (same lists rests) =
        in_next o.this o.after (subst (λ (x : F.Rest). F.Begins o.this x o.after) (sym rests) o.begins) zero (subst (λ (l : List F.Item). K.here l o.this n) (sym lists) o.offends)
        (omega (arith, ap F.size rests, o.placed))
    stands_here text seen rest place n walked o (behind r after more b c) = behind_next r after b (omega (arith, o.placed, cut_size after o.rest more c))
    stands_here text seen rest place n walked o (ahead r after more b c) =
        absurd (walked.fine o.seen o.rest o.after o.this o.cut o.begins (omega (arith, L.room r o.rest after b, L.some_beside, cut_size after rest more c)) zero n o.offends)

    stands_inside : (text : F.Rest) (seen : List F.Item) (rest : F.Rest) (place n : ℕ) → Walked F K text seen rest → (o : Inside F K text place n) → TwoCuts F seen rest o.seen o.rest → Stands F K text seen rest place n
    stands_inside text seen rest place n walked o (same lists rests) =
        in_next o.this o.after (subst (λ (x : F.Rest). F.Begins o.this x o.after) (sym rests) o.begins) (suc o.inner) o.offends o.placed
    stands_inside text seen rest place n walked o (behind r after more b c) =
        behind_next r after b (omega (arith, o.placed, cut_size after o.rest more c, L.room o.this o.rest o.after o.begins, L.some_beside))
    stands_inside text seen rest place n walked o (ahead r after more b c) =
        absurd (walked.fine o.seen o.rest o.after o.this o.cut o.begins (omega (arith, L.room r o.rest after b, L.some_beside, cut_size after rest more c)) (suc o.inner) n o.offends)

    stands_end : (text : F.Rest) (seen : List F.Item) (rest : F.Rest) (place n : ℕ) → (o : AtEnd F K text place n) → TwoCuts F seen rest o.seen o.rest → Stands F K text seen rest place n
    stands_end text seen rest place n o (same lists rests) =
        ends_here (subst (λ (x : F.Rest). F.IsEnd x) (sym rests) o.is_end) (subst (λ (l : List F.Item). K.ends l n) (sym lists) o.offends) o.placed
    stands_end text seen rest place n o (behind r after more b c) = ends_behind r after b more o.rest c o.is_end o.seen o.offends o.placed
    stands_end text seen rest place n o (ahead r after more b c) = absurd (L.ended r o.rest after o.is_end b)

    pub stands : (text : F.Rest) (seen : List F.Item) (rest : F.Rest) (place n : ℕ) → Walked F K text seen rest → Offence F K text place n → Stands F K text seen rest place n
    stands text seen rest place n walked (unread o) = stands_unread text seen rest place n o (two_cuts text rest o.rest seen o.seen walked.cut o.cut)
    stands text seen rest place n walked (here o) = stands_here text seen rest place n walked o (two_cuts text rest o.rest seen o.seen walked.cut o.cut)
    stands text seen rest place n walked (inside o) = stands_inside text seen rest place n walked o (two_cuts text rest o.rest seen o.seen walked.cut o.cut)
    stands text seen rest place n walked (at_end o) = stands_end text seen rest place n o (two_cuts text rest o.rest seen o.seen walked.cut o.cut)

    -- ---- what counts in the message, at each way to leave the loop

    -- no item begins here
    pub least_unread : (text : F.Rest) (seen : List F.Item) (rest : F.Rest) (n : ℕ) → Walked F K text seen rest → F.Unread rest n → Least (Offence F K text) n
    least_unread text seen rest n walked offends = record {
      place = F.size text + 1 - F.size rest;
      offence = unread (record { seen = seen; rest = rest; cut = walked.cut; offends = offends; placed = omega (arith, cut_size text rest seen walked.cut) });
      least = λ p m o. first p m (stands text seen rest p m walked o);
    }
      where
        first : (p m : ℕ) → Stands F K text seen rest p m → (F.size text + 1 - F.size rest < p) ⊎ ((F.size text + 1 - F.size rest ≡ p) × (n ≤ m))
        first p m (not_read o placed) = inr (omega arith, omega (arith, L.one_number rest n m offends o))
        first p m (in_next r after begins q o placed) = absurd (L.stuck r rest after n offends begins)
        first p m (ends_here e o placed) = absurd (L.unended rest n e offends)
        first p m (behind_next r after begins less) = absurd (L.stuck r rest after n offends begins)
        first p m (ends_behind r after begins more end cut e all o placed) = absurd (L.stuck r rest after n offends begins)

    -- the end
    pub least_end : (text : F.Rest) (seen : List F.Item) (rest : F.Rest) (n : ℕ) → Walked F K text seen rest → F.IsEnd rest → K.ends seen n → ((m : ℕ) → K.ends seen m → n ≤ m)
        → Least (Offence F K text) n
    least_end text seen rest n walked is_end offends least = record {
      place = F.size text;
      offence = at_end (record { seen = seen; rest = rest; cut = walked.cut; is_end = is_end; offends = offends; placed = refl });
      least = λ p m o. first p m (stands text seen rest p m walked o);
    }
      where
        first : (p m : ℕ) → Stands F K text seen rest p m → (F.size text < p) ⊎ ((F.size text ≡ p) × (n ≤ m))
        first p m (not_read o placed) = absurd (L.unended rest m is_end o)
        first p m (in_next r after begins q o placed) = absurd (L.ended r rest after is_end begins)
        first p m (ends_here e o placed) = inr (sym placed, least m o)
        first p m (behind_next r after begins less) = absurd (L.ended r rest after is_end begins)
        first p m (ends_behind r after begins more end cut e all o placed) = absurd (L.ended r rest after is_end begins)

    pub none_at_end : (text : F.Rest) (seen : List F.Item) (rest : F.Rest) → Walked F K text seen rest → F.IsEnd rest → ((m : ℕ) → K.ends seen m → ⊥) → (p m : ℕ) → Offence F K text p m → ⊥
    none_at_end text seen rest walked is_end none p m o = first p m (stands text seen rest p m walked o)
      where
        first : (p m : ℕ) → Stands F K text seen rest p m → ⊥
        first p m (not_read o placed) = L.unended rest m is_end o
        first p m (in_next r after begins q o placed) = L.ended r rest after is_end begins
        first p m (ends_here e o placed) = none m o
        first p m (behind_next r after begins less) = L.ended r rest after is_end begins
        first p m (ends_behind r after begins more end cut e all o placed) = L.ended r rest after is_end begins

    -- the item that begins here
    module _ (O : RulesLaws F K) (text : F.Rest) (seen : List F.Item) (rest after : F.Rest) (r : F.Item) (walked : Walked F K text seen rest) (begins : F.Begins r rest after) where
      fits : F.size after + F.held r + F.beside ≤ F.size rest
      fits = L.room r rest after begins

      shorter : F.size rest ≤ F.size text
      shorter = cut_size text rest seen walked.cut

      place_of : (p : ℕ) → (place : ℕ) × AtItem F text rest after r p place
      place_of zero = let h = shorter in (F.size text + 1 - F.size rest, omega arith)
      place_of (suc inner) = let h = shorter in let k = fits in (F.size text + inner - F.held r - F.size after, omega arith)

      offence_of : (p place n : ℕ) → AtItem F text rest after r p place → ItemOffends F.Item K seen r p n → Offence F K text place n
      offence_of zero place n placed o = here (record { seen = seen; rest = rest; cut = walked.cut; this = r; after = after; begins = begins; offends = o; placed = placed })
      offence_of (suc inner) place n placed o =
          inside (record { seen = seen; rest = rest; cut = walked.cut; this = r; after = after; begins = begins; inner = inner; offends = o; placed = placed })

      in_order : (p q place other n m : ℕ) → AtItem F text rest after r p place → AtItem F text rest after r q other → ItemOffends F.Item K seen r q m → (p < q) ⊎ ((p ≡ q) × (n ≤ m))
          → (place < other) ⊎ ((place ≡ other) × (n ≤ m))
      in_order zero zero place other n m a b o (inl h) = absurd (omega arith)
      in_order zero zero place other n m a b o (inr h) = inr (omega arith, h.1)
      in_order zero (suc q) place other n m a b o h = inl (omega (arith, fits, (O.within r q m o).0))
      in_order (suc p) zero place other n m a b o (inl h) = absurd (omega arith)
      in_order (suc p) zero place other n m a b o (inr h) = absurd (omega arith)
      in_order (suc p) (suc q) place other n m a b o (inl h) = inl (omega arith)
      in_order (suc p) (suc q) place other n m a b o (inr h) = inr (omega arith, h.1)

      before_end : (p place n : ℕ) → AtItem F text rest after r p place → ItemOffends F.Item K seen r p n → place + F.size after ≤ F.size text
      before_end zero place n placed o = omega (arith, fits, L.some_beside)
      before_end (suc inner) place n placed o = omega (arith, (O.within r inner n o).1)

      to_end : (more : List F.Item) (end : F.Rest) → Cut F after more end → F.IsEnd end → (p place n : ℕ) (all : List F.Item) (m : ℕ) → AtItem F text rest after r p place → ItemOffends F.Item K seen r p n
          → K.ends all m → (place < F.size text) ⊎ ((place ≡ F.size text) × (n ≤ m))
      to_end more end cut is_end zero place n all m placed o e = inl (omega (arith, fits, cut_size after end more cut, L.end_room end is_end))
      to_end more end cut is_end (suc inner) place n all m placed o e = late (cases_lt place (F.size text))
        where
          late : (place < F.size text) ⊎ (F.size text ≤ place) → (place < F.size text) ⊎ ((place ≡ F.size text) × (n ≤ m))
          late (inl k) = inl k
          late (inr k) =
              let inside = (O.within r inner n o).1 in
              let none : F.size after ≡ 0 = omega arith in
              let same = last_part after end more cut none in
              inr (omega arith, O.last r end is_end (omega (arith, ap F.size same)) inner n o (omega arith) all m e)

      pub least_item : (n : ℕ) → Least (ItemOffends F.Item K seen r) n → Least (Offence F K text) n
      least_item n inner = record {
        place = (place_of inner.place).0;
        offence = offence_of inner.place (place_of inner.place).0 n (place_of inner.place).1 inner.offence;
        least = λ p m o. first p m (stands text seen rest p m walked o);
      }
        where
          first : (p m : ℕ) → Stands F K text seen rest p m → ((place_of inner.place).0 < p) ⊎ (((place_of inner.place).0 ≡ p) × (n ≤ m))
          first p m (not_read o placed) = absurd (L.stuck r rest after m o begins)
          first p m (in_next s next begun q o placed) =
              let one = L.only r s rest after next begins begun in
              let same_item = subst (λ (x : F.Item). ItemOffends F.Item K seen x q m) (sym one.0) o in
              let at_item = subst (λ (x : F.Rest). AtItem F text rest x r q p) (sym one.1) (subst (λ (x : F.Item). AtItem F text rest next x q p) (sym one.0) placed) in
              in_order inner.place q (place_of inner.place).0 p n m (place_of inner.place).1 at_item same_item (inner.least q m same_item)
          first p m (ends_here e o placed) = absurd (L.ended r rest after e begins)
          first p m (behind_next s next begun less) =
              let one = L.only r s rest after next begins begun in
              inl (omega (arith, ap F.size one.1, before_end inner.place (place_of inner.place).0 n (place_of inner.place).1 inner.offence))
          first p m (ends_behind s next begun more end cut e all o placed) =
              let one = L.only r s rest after next begins begun in
              by_end (to_end more end (subst (λ (x : F.Rest). Cut F x more end) (sym one.1) cut) e inner.place (place_of inner.place).0 n all m (place_of inner.place).1 inner.offence o)
            where
              by_end : ((place_of inner.place).0 < F.size text) ⊎ (((place_of inner.place).0 ≡ F.size text) × (n ≤ m)) → ((place_of inner.place).0 < p) ⊎ (((place_of inner.place).0 ≡ p) × (n ≤ m))
              by_end (inl h) = inl (omega arith)
              by_end (inr h) = inr (h.0 ∙ sym placed, h.1)

      -- what was answered of the item, where it isn't that nothing offends
      pub judged_item : (S T : Type 0) (halt : Halt Cause) → Judges {T = S} (Err halt) (ItemOffends F.Item K seen r) → Judges {T = T} (Err halt) (Offence F K text)
      judged_item S T (halts.Why cause) h = least_item (cause_number cause) h
      judged_item S T halts.OutOfMemory h = tt

    -- ---- the rules of a message inside another keep what those of the outer one must keep

    pub offence_within : RulesLaws F K → (text : F.Rest) (place n : ℕ) → Offence F K text place n → place ≤ F.size text
    offence_within O text place n (unread o) = omega (arith, o.placed, L.some_left o.rest n o.offends)
    offence_within O text place n (here o) = omega (arith, o.placed, L.room o.this o.rest o.after o.begins, L.some_beside)
    offence_within O text place n (inside o) =
        omega (arith, o.placed, (O.within o.this o.inner n o.offends).1, cut_size text o.rest o.seen o.cut, L.room o.this o.rest o.after o.begins)
    offence_within O text place n (at_end o) = omega (arith, o.placed)

    -- the largest number that may stand at a message's end, where no item can begin there
    pub late_number : (top : ℕ) → 2 ≤ F.beside → ((rest : F.Rest) (n : ℕ) → F.Unread rest n → n ≤ top) → ((r : F.Item) (p n : ℕ) → K.inside r p n → F.held r ≤ p → n ≤ top)
        → ((seen : List F.Item) (n : ℕ) → K.ends seen n → n ≤ top) → (text : F.Rest) (place n : ℕ) → Offence F K text place n → F.size text ≤ place → n ≤ top
    late_number top wide unreads insides ends text place n (unread o) late = unreads o.rest n o.offends
    late_number top wide unreads insides ends text place n (here o) late = absurd (omega (arith, o.placed, L.room o.this o.rest o.after o.begins))
    late_number top wide unreads insides ends text place n (inside o) late = insides o.this o.inner n o.offends (omega (arith, o.placed))
    late_number top wide unreads insides ends text place n (at_end o) late = ends o.seen n o.offends
