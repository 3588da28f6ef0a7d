-- What stands at the front of some bytes that are read as one part, in a spelling in which bytes are judged one after the other: a
-- word is found, it may yet come, or the last byte of a front is refused. All that a reader promises follows.
use Rattle.std.proofs.Common.{◌≡◌, ◌≢◌, ◌++◌, ◌∷◌, ◌↔◌, ◌⊎◌, inl, inr, ℕ, List, [], Result, Ok, Err, ap, sym, ◌∙◌, subst, arith}
use Rattle.std.proofs.lemmas.List.{append_assoc, append-nil}
use Rattle.span_io.specs.declared.cause.Cause.{Cause}
use Rattle.span_io.specs.declared.cause.Cause.TheVariants as causes
use Rattle.span_io.specs.Varint.{IsInsideVarint}
use Rattle.span_io.specs.Frames.{Framing, AreBytes, IsOpen, IsRefused, ShortestRefused, IsRefusedAt}
use Rattle.span_io.proofs.FramingLaws.{FrontsAreOpen, open_front}
use Rattle.span_io.proofs.Cuts.{two_cuts, append_empty_right}
use Rattle.thrift_core.specs.Levels.{RefusesPart}

-- the texts of words as items, and behind which first bytes of one a varint stands
abbrev pub judged_texts : (W : Type 0) → (W → List ℕ → Type 0) → (List ℕ → Type 0) → Framing
judged_texts W S V = record { Whole = λ text. (word : W) × S word text; ThenVarint = V; EndsPast = λ limit text. ⊥ }

-- more bytes make a word of them, or they end inside a varint of one
abbrev pub Opens : (W : Type 0) → (W → List ℕ → Type 0) → (List ℕ → Type 0) → List ℕ → Type 0
Opens W S V bytes = IsOpen (judged_texts W S V) bytes

-- more bytes make a word of them
pub record MayCome (W : Type 0) (S : W → List ℕ → Type 0) (bytes : List ℕ) : Type 0 where
  pub word : W
  pub more : List ℕ
  pub are_bytes : AreBytes more
  pub some : more ≢ []
  pub spelled : S word (bytes ++ more)

pub opens : (W : Type 0) (S : W → List ℕ → Type 0) (V : List ℕ → Type 0) (bytes : List ℕ) → MayCome W S bytes → Opens W S V bytes
opens W S V bytes m = inl (record { more = m.more; are_bytes = m.are_bytes; some = m.some; whole = (m.word, m.spelled) })

-- no spelling of a word agrees with these bytes and what follows them
abbrev pub Clashes : (W : Type 0) → (W → List ℕ → Type 0) → List ℕ → Type 0
Clashes W S front = (word : W) (text tail more : List ℕ) → S word text → text ++ tail ≡ front ++ more → ⊥

-- nothing that begins with these bytes ends inside a varint
abbrev pub HasEnded : (List ℕ → Type 0) → List ℕ → Type 0
HasEnded V text = (rest front inside : List ℕ) → V front → IsInsideVarint inside → text ++ rest ≡ front ++ inside → ⊥

pub record Refusal (W : Type 0) (S : W → List ℕ → Type 0) (V : List ℕ → Type 0) (R : Cause → List ℕ → Type 0) (bytes : List ℕ) (cause : Cause) : Type 0 where
  pub front : List ℕ
  pub rest : List ℕ
  pub parts : bytes ≡ front ++ rest
  pub because : R cause front
  pub clashes : Clashes W S front
  pub ended : HasEnded V front
  pub before : (shorter more : List ℕ) → front ≡ shorter ++ more → more ≢ [] → Opens W S V shorter
  pub of_part : RefusesPart cause

pub data Judged (W : Type 0) (S : W → List ℕ → Type 0) (V : List ℕ → Type 0) (R : Cause → List ℕ → Type 0) (bytes : List ℕ) (read : Result (W × List ℕ) Cause) : Type 0 where
  found : (word : W) (text rest : List ℕ) → S word text → bytes ≡ text ++ rest → read ≡ Ok (word, rest) → Judged W S V R bytes read
  may_come : Opens W S V bytes → read ≡ Err causes.Truncated → Judged W S V R bytes read
  refused : (cause : Cause) → Refusal W S V R bytes cause → read ≡ Err cause → Judged W S V R bytes read

pub record JudgesReading (W : Type 0) (S : W → List ℕ → Type 0) (V : List ℕ → Type 0) (R : Cause → List ℕ → Type 0) (reads : List ℕ → Result (W × List ℕ) Cause) : Type 0 where
  pub judged : (bytes : List ℕ) → Judged W S V R bytes (reads bytes)
  -- two spellings of which one may go on are one
  pub one : (w v : W) (text other tail more : List ℕ) → S w text → S v other → text ++ tail ≡ other ++ more → (w ≡ v) × (tail ≡ more)
  pub ended : (word : W) (text : List ℕ) → S word text → HasEnded V text
  pub one_cause : (front : List ℕ) (a b : Cause) → R a front → R b front → a ≡ b

-- ---- what follows

not_cut : RefusesPart causes.Truncated → ⊥
not_cut refuses = absurd (omega (arith, refuses))

module _ (W : Type 0) (S : W → List ℕ → Type 0) (V : List ℕ → Type 0) (R : Cause → List ℕ → Type 0) (reads : List ℕ → Result (W × List ℕ) Cause) (laws : JudgesReading W S V R reads) where
  abbrev F : Framing
  F = judged_texts W S V

  abbrev Begun : W → List ℕ → List ℕ → Type 0
  Begun word bytes rest = (text : List ℕ) × S word text × (bytes ≡ text ++ rest)

  abbrev Read : Type 0
  Read = Result (W × List ℕ) Cause

  ok_same : (a b : W) (c d : List ℕ) (read : Read) → read ≡ Ok (a, c) → read ≡ Ok (b, d) → (a ≡ b) × (c ≡ d)
  ok_same a b c d read e f = (let x : Read = Ok (a, c) in let y : Read = Ok (b, d) in let same : x ≡ y = sym e ∙ f in let p : W × List ℕ = (a, c) in let q : W × List ℕ = (b, d) in let pairs : p ≡ q = cc in (ap (λ p. p.0) pairs, ap (λ p. p.1) pairs))

  ok_err : (a : W) (c : List ℕ) (cause : Cause) (read : Read) → read ≡ Ok (a, c) → read ≡ Err cause → ⊥
  ok_err a c cause read e f = (let x : Read = Ok (a, c) in let y : Read = Err cause in let same : x ≡ y = sym e ∙ f in cc)

  err_same : (a b : Cause) (read : Read) → read ≡ Err a → read ≡ Err b → a ≡ b
  err_same a b read e f = (let x : Read = Err a in let y : Read = Err b in let same : x ≡ y = sym e ∙ f in cc)

  found_in : (word : W) (bytes rest : List ℕ) → Judged W S V R bytes (reads bytes) → reads bytes ≡ Ok (word, rest) → Begun word bytes rest
  found_in word bytes rest (found w text r s p e) h =
      let same : (w ≡ word) × (r ≡ rest) = ok_same w word r rest (reads bytes) e h in
      (text, subst (λ x. S x text) same.0 s, p ∙ ap (λ l. text ++ l) same.1)
  found_in word bytes rest (may_come m e) h = absurd (ok_err word rest causes.Truncated (reads bytes) h e)
  found_in word bytes rest (refused cause r e) h = absurd (ok_err word rest cause (reads bytes) h e)

  pub reads_found : (word : W) (bytes rest : List ℕ) → reads bytes ≡ Ok (word, rest) → Begun word bytes rest
  reads_found word bytes rest h = found_in word bytes rest (laws.judged bytes) h

  -- what is found or refused can't go on
  ends : (word other : W) (text rest bytes more : List ℕ) → S word text → bytes ≡ text ++ rest → more ≢ [] → S other (bytes ++ more) → ⊥
  ends word other text rest bytes more s e some t =
      let whole : text ++ (rest ++ more) ≡ (bytes ++ more) ++ [] = sym (append_assoc text rest more) ∙ ap (λ l. l ++ more) (sym e) ∙ sym (append-nil (bytes ++ more)) in
      some (append_empty_right rest more (laws.one word other text (bytes ++ more) (rest ++ more) [] s t whole).1)

  -- a proper front of a word's text is open
  fronts_open : FrontsAreOpen F
  fronts_open front more whole some = by_place (reads front) (laws.judged front)
    where
      by_place : (read : Read) → Judged W S V R front read → IsOpen F front
      by_place read (found word text rest s e f) = absurd (ends word whole.0 text rest front more s e some whole.1)
      by_place read (may_come m e) = m
      by_place read (refused cause r e) =
          absurd (r.clashes whole.0 (front ++ more) [] (r.rest ++ more) whole.1 (append-nil (front ++ more) ∙ ap (λ l. l ++ more) r.parts ∙ append_assoc r.front r.rest more))

  open_ends : (word : W) (text rest bytes : List ℕ) → S word text → bytes ≡ text ++ rest → IsOpen F bytes → ⊥
  open_ends word text rest bytes s e (inl h) = ends word h.whole.0 text rest bytes h.more s e h.some h.whole.1
  open_ends word text rest bytes s e (inr h) = laws.ended word text s rest h.front h.inside h.then_varint h.unended (sym e ∙ h.parts)

  open_clashes : (front rest bytes : List ℕ) → Clashes W S front → HasEnded V front → bytes ≡ front ++ rest → IsOpen F bytes → ⊥
  open_clashes front rest bytes clash ended e (inl h) = clash h.whole.0 (bytes ++ h.more) [] (rest ++ h.more) h.whole.1 (append-nil (bytes ++ h.more) ∙ ap (λ l. l ++ h.more) e ∙ append_assoc front rest h.more)
  open_clashes front rest bytes clash ended e (inr h) = ended rest h.front h.inside h.then_varint h.unended (sym e ∙ h.parts)

  only_in : (word : W) (text bytes rest : List ℕ) → Judged W S V R bytes (reads bytes) → S word text → bytes ≡ text ++ rest → reads bytes ≡ Ok (word, rest)
  only_in word text bytes rest (found w t r s p e) h q =
      let same : (w ≡ word) × (r ≡ rest) = laws.one w word t text r rest s h (sym p ∙ q) in
      e ∙ ap (λ x. Ok (x, r)) same.0 ∙ ap (λ x. Ok (word, x)) same.1
  only_in word text bytes rest (may_come m e) h q = absurd (open_ends word text rest bytes h q m)
  only_in word text bytes rest (refused cause r e) h q = absurd (r.clashes word text rest r.rest h (sym q ∙ r.parts))

  pub reads_only : (word : W) (text bytes rest : List ℕ) → S word text → bytes ≡ text ++ rest → reads bytes ≡ Ok (word, rest)
  reads_only word text bytes rest h q = only_in word text bytes rest (laws.judged bytes) h q

  short_in : (bytes : List ℕ) → Judged W S V R bytes (reads bytes) → reads bytes ≡ Err causes.Truncated → IsOpen F bytes
  short_in bytes (found w t r s p e) h = absurd (ok_err w r causes.Truncated (reads bytes) e h)
  short_in bytes (may_come m e) h = m
  short_in bytes (refused cause r e) h = absurd (not_cut (subst RefusesPart (err_same cause causes.Truncated (reads bytes) e h) r.of_part))

  open_in : (bytes : List ℕ) → Judged W S V R bytes (reads bytes) → IsOpen F bytes → reads bytes ≡ Err causes.Truncated
  open_in bytes (found w t r s p e) h = absurd (open_ends w t r bytes s p h)
  open_in bytes (may_come m e) h = e
  open_in bytes (refused cause r e) h = absurd (open_clashes r.front r.rest bytes r.clashes r.ended r.parts h)

  pub reads_short : (bytes : List ℕ) → (reads bytes ≡ Err causes.Truncated) ↔ IsOpen F bytes
  reads_short bytes = (λ e. short_in bytes (laws.judged bytes) e, λ h. open_in bytes (laws.judged bytes) h)

  -- ---- refusals

  is_refused : (front : List ℕ) → Clashes W S front → HasEnded V front → IsRefused F front
  is_refused front clash ended = record {
    closed = λ h. open_clashes front [] front clash ended (sym (append-nil front)) h;
    none = λ h. clash h.whole.0 h.text h.rest [] h.whole.1 (sym h.parts ∙ sym (append-nil front));
  }

  shortest : (bytes : List ℕ) (cause : Cause) (r : Refusal W S V R bytes cause) → ShortestRefused F r.front bytes
  shortest bytes cause r = record {
    refused = is_refused r.front r.clashes r.ended;
    rest = r.rest;
    parts = r.parts;
    least = λ shorter more e some h. h.closed (r.before shorter more e some);
  }

  bad_in : (bytes : List ℕ) (cause : Cause) → Judged W S V R bytes (reads bytes) → cause ≢ causes.Truncated → reads bytes ≡ Err cause → IsRefusedAt F (R cause) bytes
  bad_in bytes cause (found w t r s p e) other h = absurd (ok_err w r cause (reads bytes) e h)
  bad_in bytes cause (may_come m e) other h = absurd (other (err_same cause causes.Truncated (reads bytes) h e))
  bad_in bytes cause (refused c r e) other h = record {
    front = r.front;
    shortest = shortest bytes c r;
    ends_in = subst (λ x. R x r.front) (err_same c cause (reads bytes) e h) r.because;
  }

  -- a front of a whole text is whole or open
  front_of_whole : (word : W) (text front between : List ℕ) → S word text → text ≡ front ++ between → IsRefused F front → ⊥
  front_of_whole word text front [] s e h = h.none (record { text = text; rest = []; whole = (word, s); parts = sym (append-nil front) ∙ sym e ∙ sym (append-nil text) })
  front_of_whole word text front (b ∷ between) s e h = h.closed (fronts_open front (b ∷ between) (word, subst (λ l. S word l) e s) (λ f. cc))

  no_word : (word : W) (text rest bytes front after : List ℕ) → S word text → bytes ≡ text ++ rest → bytes ≡ front ++ after → IsRefused F front → ⊥
  no_word word text rest bytes front after s e f h = elim (two_cuts text rest front after (sym e ∙ f)) [
    | inl w ↦ h.none (record { text = text; rest = w.between; whole = (word, s); parts = w.front })
    | inr w ↦ front_of_whole word text front w.between s w.front h
  ]

  same_refused : (bytes front other between : List ℕ) → other ≡ front ++ between → IsRefused F front → ((shorter more : List ℕ) → other ≡ shorter ++ more → more ≢ [] → IsRefused F shorter → ⊥) → other ≡ front
  same_refused bytes front other [] e h least = e ∙ append-nil front
  same_refused bytes front other (b ∷ between) e h least = absurd (least front (b ∷ between) e (λ f. cc) h)

  one_refused : (bytes front other : List ℕ) → ShortestRefused F front bytes → ShortestRefused F other bytes → front ≡ other
  one_refused bytes front other a b = elim (two_cuts front a.rest other b.rest (sym a.parts ∙ b.parts)) [
    | inl w ↦ sym (same_refused bytes front other w.between w.front a.refused b.least)
    | inr w ↦ same_refused bytes other front w.between w.front b.refused a.least
  ]

  refused_in : (bytes : List ℕ) (cause : Cause) → Judged W S V R bytes (reads bytes) → IsRefusedAt F (R cause) bytes → reads bytes ≡ Err cause
  refused_in bytes cause (found w t r s p e) h = absurd (no_word w t r bytes h.front h.shortest.rest s p h.shortest.parts h.shortest.refused)
  refused_in bytes cause (may_come m e) h = absurd (h.shortest.refused.closed (open_front F fronts_open h.front h.shortest.rest (subst (λ l. IsOpen F l) h.shortest.parts m)))
  refused_in bytes cause (refused c r e) h =
      let same : h.front ≡ r.front = one_refused bytes h.front r.front h.shortest (shortest bytes c r) in
      e ∙ ap (λ x. Err x) (laws.one_cause r.front c cause r.because (subst (λ l. R cause l) same h.ends_in))

  pub reads_bad : (bytes : List ℕ) (cause : Cause) → cause ≢ causes.Truncated → (reads bytes ≡ Err cause) ↔ IsRefusedAt F (R cause) bytes
  reads_bad bytes cause other = (λ e. bad_in bytes cause (laws.judged bytes) other e, λ h. refused_in bytes cause (laws.judged bytes) h)

  cause_in : (bytes : List ℕ) (cause : Cause) → Judged W S V R bytes (reads bytes) → reads bytes ≡ Err cause → (cause ≡ causes.Truncated) ⊎ RefusesPart cause
  cause_in bytes cause (found w t r s p e) h = absurd (ok_err w r cause (reads bytes) e h)
  cause_in bytes cause (may_come m e) h = inl (err_same cause causes.Truncated (reads bytes) h e)
  cause_in bytes cause (refused c r e) h = inr (subst RefusesPart (err_same c cause (reads bytes) e h) r.of_part)

  pub reads_cause : (bytes : List ℕ) (cause : Cause) → reads bytes ≡ Err cause → (cause ≡ causes.Truncated) ⊎ RefusesPart cause
  reads_cause bytes cause h = cause_in bytes cause (laws.judged bytes) h
