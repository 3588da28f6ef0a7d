-- How parts are judged, step by step: words of so many bytes, what stands behind a byte, and words that stand for others.
use Rattle.std.proofs.Common.{◌≡◌, ◌≢◌, ◌<◌, ◌-◌, ◌++◌, ◌∷◌, inl, inr, ℕ, List, [], length, take, drop, replicate, Bool, true, false, ltb, Result, Ok, Err, nat_lt, if◌then◌else◌, refl, ap, sym, ◌∙◌, subst, arith}
use Rattle.std.proofs.lemmas.Bool.{ltb-true, ltb-false}
use Rattle.std.proofs.lemmas.List.Elements.{All-replicate}
use Rattle.std.proofs.lemmas.List.{length-append, length-take, length-replicate, take-append-drop, take_at, drop_at}
use Rattle.span_io.specs.declared.cause.Cause.{Cause}
use Rattle.span_io.specs.declared.cause.Cause.TheVariants as causes
use Rattle.span_io.proofs.Cuts.{append_empty_right}
use Rattle.span_io.specs.Frames.{AreBytes}
use Rattle.thrift_core.specs.Reading.{◌>>=◌}
use Rattle.thrift_core.specs.Levels.{RefusesPart}
use Rattle.thrift_core.proofs.Judged.{Opens, opens, MayCome, Clashes, HasEnded, Judged, found, may_come, refused, JudgesReading}

-- ---- a word of so many bytes

abbrev pub zeros : ℕ → List ℕ
zeros many = replicate many 0

pub length-zeros : (many : ℕ) → length (zeros many) ≡ many
length-zeros many = length-replicate {A = ℕ} many 0

pub zeros_are_bytes : (many : ℕ) → AreBytes (zeros many)
zeros_are_bytes many = All-replicate (λ b. b < 256) many 0 (omega arith)

module _ (A : Type 0) (many : ℕ) (value : List ℕ → A) (V : List ℕ → Type 0) (no_varint : (front : List ℕ) → V front → ⊥) where
  abbrev Fixed : A → List ℕ → Type 0
  Fixed word text = (length text ≡ many) × (word ≡ value text)

  abbrev Never : Cause → List ℕ → Type 0
  Never cause front = ⊥

  abbrev fixed : List ℕ → Result (A × List ℕ) Cause
  fixed bytes = if nat_lt (length bytes) many then Err causes.Truncated else Ok (value (take many bytes), drop many bytes)

  open_fixed : (bytes : List ℕ) → length bytes < many → Opens A Fixed V bytes
  open_fixed bytes less = opens A Fixed V bytes (record {
    word = value (bytes ++ zeros (many - length bytes));
    more = zeros (many - length bytes);
    are_bytes = zeros_are_bytes (many - length bytes);
    some = λ e. omega (arith, ap length e, length-zeros (many - length bytes));
    spelled = (omega (arith, length-append bytes (zeros (many - length bytes)), length-zeros (many - length bytes)), refl);
  })

  fixed_by : (bytes : List ℕ) (b : Bool) → ltb (length bytes) many ≡ b → Judged A Fixed V Never bytes (if b then Err causes.Truncated else Ok (value (take many bytes), drop many bytes))
  fixed_by bytes true e = may_come (open_fixed bytes (ltb-true (length bytes) many e)) refl
  fixed_by bytes false e = found (value (take many bytes)) (take many bytes) (drop many bytes) (omega (arith, length-take many bytes, ltb-false (length bytes) many e), refl) (sym (take-append-drop many bytes)) refl

  pub one_fixed : (w v : A) (text other tail more : List ℕ) → Fixed w text → Fixed v other → text ++ tail ≡ other ++ more → (w ≡ v) × (tail ≡ more)
  one_fixed w v text other tail more h g e =
      let same : text ≡ other = sym (take_at text tail many h.0) ∙ ap (λ l. take many l) e ∙ take_at other more many g.0 in
      (h.1 ∙ ap value same ∙ sym g.1, sym (drop_at text tail many h.0) ∙ ap (λ l. drop many l) e ∙ drop_at other more many g.0)

  pub fixed_judges : JudgesReading A Fixed V Never fixed
  fixed_judges = record {
    judged = λ bytes. fixed_by bytes (ltb (length bytes) many) refl;
    one = λ w v text other tail more h g e. one_fixed w v text other tail more h g e;
    ended = λ word text h rest front inside v i e. no_varint front v;
    one_cause = λ front a b h g. absurd h;
  }

-- ---- behind a byte

module _ (W : Type 0) (S : W → List ℕ → Type 0) (V : List ℕ → Type 0) (R : Cause → List ℕ → Type 0) (k : ℕ) (open_here : MayCome W S []) (none_here : (word : W) → S word [] → ⊥) (no_varint : V [] → ⊥) where
  abbrev Then : W → List ℕ → Type 0
  Then word text = S word (k ∷ text)

  abbrev ThenVarint : List ℕ → Type 0
  ThenVarint front = V (k ∷ front)

  abbrev ThenRefused : Cause → List ℕ → Type 0
  ThenRefused cause text = R cause (k ∷ text)

  clashes_behind : (front : List ℕ) → Clashes W Then front → Clashes W S (k ∷ front)
  clashes_behind front clash word [] tail more s e = none_here word s
  clashes_behind front clash word (b ∷ text) tail more s e =
      let heads : b ≡ k = cc in
      let tails : text ++ tail ≡ front ++ more = cc in
      clash word text tail more (subst (λ x. S word (x ∷ text)) heads s) tails

  pub ended_behind : (text : List ℕ) → HasEnded ThenVarint text → HasEnded V (k ∷ text)
  ended_behind text ended rest [] inside v i e = no_varint v
  ended_behind text ended rest (x ∷ front) inside v i e =
      let heads : x ≡ k = cc in
      let tails : text ++ rest ≡ front ++ inside = cc in
      ended rest front inside (subst (λ y. V (y ∷ front)) heads v) i tails

  pub open_behind : (bytes : List ℕ) → Opens W Then ThenVarint bytes → Opens W S V (k ∷ bytes)
  open_behind bytes (inl m) = opens W S V (k ∷ bytes) (record { word = m.whole.0; more = m.more; are_bytes = m.are_bytes; some = m.some; spelled = m.whole.1 })
  open_behind bytes (inr m) = inr (record {
    front = k ∷ m.front;
    inside = m.inside;
    then_varint = m.then_varint;
    proper = record { more = m.proper.more; are_bytes = m.proper.are_bytes; some = m.proper.some; whole = m.proper.whole };
    some = m.some;
    unended = m.unended;
    parts = ap (λ l. k ∷ l) m.parts;
  })

  before_behind : (front : List ℕ) → ((shorter more : List ℕ) → front ≡ shorter ++ more → more ≢ [] → Opens W Then ThenVarint shorter) → (shorter more : List ℕ) → k ∷ front ≡ shorter ++ more → more ≢ [] → Opens W S V shorter
  before_behind front before [] more e some = opens W S V [] open_here
  before_behind front before (x ∷ shorter) more e some =
      let heads : k ≡ x = cc in
      let tails : front ≡ shorter ++ more = cc in
      subst (λ y. Opens W S V (y ∷ shorter)) heads (open_behind shorter (before shorter more tails some))

  pub judged_behind : (bytes : List ℕ) (read : Result (W × List ℕ) Cause) → Judged W Then ThenVarint ThenRefused bytes read → Judged W S V R (k ∷ bytes) read
  judged_behind bytes read (found word text rest s p e) = found word (k ∷ text) rest s (ap (λ l. k ∷ l) p) e
  judged_behind bytes read (may_come m e) = may_come (open_behind bytes m) e
  judged_behind bytes read (refused cause r e) = refused cause (record {
    front = k ∷ r.front;
    rest = r.rest;
    parts = ap (λ l. k ∷ l) r.parts;
    because = r.because;
    clashes = clashes_behind r.front r.clashes;
    ended = ended_behind r.front r.ended;
    before = λ shorter more e some. before_behind r.front r.before shorter more e some;
    of_part = r.of_part;
  }) e

  clashes_here : ((word : W) (text : List ℕ) → S word (k ∷ text) → ⊥) → Clashes W S (k ∷ [])
  clashes_here none word [] tail more s e = none_here word s
  clashes_here none word (b ∷ text) tail more s e = none word text (let heads : b ≡ k = cc in subst (λ x. S word (x ∷ text)) heads s)

  before_here : (shorter more : List ℕ) → k ∷ [] ≡ shorter ++ more → more ≢ [] → Opens W S V shorter
  before_here [] more e some = opens W S V [] open_here
  before_here (x ∷ shorter) more e some = (let tails : [] ≡ shorter ++ more = cc in absurd (some (append_empty_right shorter more (sym tails))))

  -- this byte is refused
  pub refused_here : (bytes : List ℕ) (cause : Cause) → R cause (k ∷ []) → ((word : W) (text : List ℕ) → S word (k ∷ text) → ⊥) → ((front : List ℕ) → V (k ∷ front) → ⊥)
      → RefusesPart cause → Judged W S V R (k ∷ bytes) (Err cause)
  refused_here bytes cause because none no_more of_part = refused cause (record {
    front = k ∷ [];
    rest = bytes;
    parts = refl;
    because = because;
    clashes = clashes_here none;
    ended = ended_behind [] (λ rest front inside v i e. no_more front v);
    before = λ shorter more e some. before_here shorter more e some;
    of_part = of_part;
  }) refl

-- ---- words that stand for others

module _ (W X : Type 0) (S : W → List ℕ → Type 0) (T : X → List ℕ → Type 0) (V U : List ℕ → Type 0) (R Q : Cause → List ℕ → Type 0) (f : W → X)
    (there : (word : W) (text : List ℕ) → S word text → T (f word) text) (back : (word : X) (text : List ℕ) → T word text → (w : W) × S w text)
    (onward : (front : List ℕ) → V front → U front) (backward : (front : List ℕ) → U front → V front)
    (because : (cause : Cause) (front : List ℕ) → R cause front → Q cause front) where
  open_as : (bytes : List ℕ) → Opens W S V bytes → Opens X T U bytes
  open_as bytes (inl m) = opens X T U bytes (record { word = f m.whole.0; more = m.more; are_bytes = m.are_bytes; some = m.some; spelled = there m.whole.0 (bytes ++ m.more) m.whole.1 })
  open_as bytes (inr m) = inr (record {
    front = m.front;
    inside = m.inside;
    then_varint = onward m.front m.then_varint;
    proper = record { more = m.proper.more; are_bytes = m.proper.are_bytes; some = m.proper.some; whole = (f m.proper.whole.0, there m.proper.whole.0 (m.front ++ m.proper.more) m.proper.whole.1) };
    some = m.some;
    unended = m.unended;
    parts = m.parts;
  })

  clashes_as : (front : List ℕ) → Clashes W S front → Clashes X T front
  clashes_as front clash word text tail more t e = (let s = back word text t in clash s.0 text tail more s.1 e)

  pub ended_as : (text : List ℕ) → HasEnded V text → HasEnded U text
  ended_as text ended rest front inside v i e = ended rest front inside (backward front v) i e

  abbrev as_other : Result (W × List ℕ) Cause → Result (X × List ℕ) Cause
  as_other read = read >>= λ x. Ok (f x.0, x.1)

  pub judged_as : (bytes : List ℕ) (read : Result (W × List ℕ) Cause) → Judged W S V R bytes read → Judged X T U Q bytes (as_other read)
  judged_as bytes read (found word text rest s p e) = found (f word) text rest (there word text s) p (ap as_other e)
  judged_as bytes read (may_come m e) = may_come (open_as bytes m) (ap as_other e)
  judged_as bytes read (refused cause r e) = refused cause (record {
    front = r.front;
    rest = r.rest;
    parts = r.parts;
    because = because cause r.front r.because;
    clashes = clashes_as r.front r.clashes;
    ended = ended_as r.front r.ended;
    before = λ shorter more e some. open_as shorter (r.before shorter more e some);
    of_part = r.of_part;
  }) (ap as_other e)
