-- How parts that are one varint are judged: a number that suits the part is found, and one that doesn't is refused at its last byte, as
-- ten bytes are that are no varint.
use Rattle.std.proofs.Common.{◌≡◌, ◌≢◌, ◌≤◌, ◌<◌, ◌++◌, ◌∷◌, ◌⊎◌, inl, inr, ℕ, List, [], length, Result, Ok, Err, refl, ap, sym, ◌∙◌, subst, arith}
use Rattle.std.proofs.lemmas.List.{length-append}
use Rattle.std.specs.List.{AllByRecursion}
use Rattle.span_io.specs.declared.cause.Cause.{Cause}
use Rattle.span_io.specs.declared.cause.Cause.TheVariants as causes
use Rattle.span_io.specs.declared.cursor.Lack.{Lack}
use Rattle.span_io.specs.declared.cursor.Lack.TheVariants as lacks
use Rattle.span_io.specs.Varint.{SpellsWithin, SpellsVarint, BeginsVarint, IsInsideVarint, IsOverlong, varint_at}
use Rattle.span_io.proofs.VarintFacts.{varint_laws}
use Rattle.span_io.proofs.Cuts.{snoc_front, all_front}
use Rattle.thrift_core.specs.Levels.{RefusesPart}
use Rattle.thrift_core.specs.Reading.{◌>>=◌}
use Rattle.thrift_core.proofs.Judged.{Opens, opens, MayCome, Clashes, HasEnded, Judged, found, may_come, refused, JudgesReading}
use Rattle.thrift_core.proofs.JudgedSteps.{zeros, zeros_are_bytes}
use Rattle.thrift_spellings.specs.CompactReading.{told}

-- ---- what is known of varints

pub no_bytes : (n : ℕ) → SpellsVarint [] n → ⊥
unfolding SpellsVarint SpellsWithin
no_bytes n h = h

pub byte_spells : (n : ℕ) → n < 128 → SpellsVarint (n ∷ []) n
unfolding SpellsVarint SpellsWithin
byte_spells n small = (small, refl)

pub spelled_at : (n : ℕ) (text rest : List ℕ) → SpellsVarint text n → varint_at (text ++ rest) ≡ Ok (n, rest)
spelled_at n text rest h = varint_laws.read n (text ++ rest) rest (record { text = text; spelled = h; parts = refl })

pub one_varint : (n m : ℕ) (text other tail more : List ℕ) → SpellsVarint text n → SpellsVarint other m → text ++ tail ≡ other ++ more → (n ≡ m) × (tail ≡ more)
one_varint n m text other tail more h g e =
    let x : Result (ℕ × List ℕ) Lack = Ok (n, tail) in
    let y : Result (ℕ × List ℕ) Lack = Ok (m, more) in
    let same : x ≡ y = sym (spelled_at n text tail h) ∙ ap varint_at e ∙ spelled_at m other more g in
    let p : ℕ × List ℕ = (n, tail) in
    let q : ℕ × List ℕ = (m, more) in
    let pairs : p ≡ q = cc in
    (ap (λ p. p.0) pairs, ap (λ p. p.1) pairs)

pub overlong_at : (text rest : List ℕ) → IsOverlong text → varint_at (text ++ rest) ≡ Err lacks.BadVarint
overlong_at text rest h = (varint_laws.bad (text ++ rest)).1 (record { text = text; others = rest; overlong = h; parts = refl })

read_not : (n : ℕ) (rest : List ℕ) (lack : Lack) (read : Result (ℕ × List ℕ) Lack) → read ≡ Ok (n, rest) → read ≡ Err lack → ⊥
read_not n rest lack read e f = (let x : Result (ℕ × List ℕ) Lack = Ok (n, rest) in let y : Result (ℕ × List ℕ) Lack = Err lack in let same : x ≡ y = sym e ∙ f in cc)

-- a number isn't the inside of a varint, nor are ten bytes that are none
pub number_not_inside : (n : ℕ) (text rest inside : List ℕ) → SpellsVarint text n → IsInsideVarint inside → text ++ rest ≡ inside → ⊥
number_not_inside n text rest inside h i e = read_not n rest lacks.Short (varint_at inside) (ap varint_at (sym e) ∙ spelled_at n text rest h) ((varint_laws.short inside).1 i)

pub overlong_not_inside : (text rest inside : List ℕ) → IsOverlong text → IsInsideVarint inside → text ++ rest ≡ inside → ⊥
overlong_not_inside text rest inside h i e =
    let x : Result (ℕ × List ℕ) Lack = Err lacks.BadVarint in
    let y : Result (ℕ × List ℕ) Lack = Err lacks.Short in
    let same : x ≡ y = sym (overlong_at text rest h) ∙ ap varint_at e ∙ (varint_laws.short inside).1 i in
    cc

pub overlong_not_number : (n : ℕ) (text other rest more : List ℕ) → IsOverlong text → SpellsVarint other n → other ++ more ≡ text ++ rest → ⊥
overlong_not_number n text other rest more h s e = read_not n more lacks.BadVarint (varint_at (other ++ more)) (spelled_at n other more s) (ap varint_at e ∙ overlong_at text rest h)

pub before_tenth : (text shorter more : List ℕ) → IsOverlong text → text ≡ shorter ++ more → more ≢ [] → IsInsideVarint shorter
before_tenth text shorter more h e some =
    let cut = snoc_front h.front h.tenth shorter more (sym h.parts ∙ e) some in
    record {
      short = omega (arith, h.nine, ap length cut.1, length-append shorter cut.0);
      go_on = all_front (λ b. 128 ≤ b) shorter cut.0 (subst (λ l. AllByRecursion (λ b. 128 ≤ b) l) cut.1 h.go_on);
    }

-- ---- a part that is a varint

-- behind no bytes a varint stands
abbrev pub AtOnce : List ℕ → Type 0
AtOnce [] = Unit {0}
AtOnce (b ∷ bytes) = ⊥

-- each word is spelled by a varint of a number that means it, and the part is refused for numbers that mean none, and for ten bytes
-- that are no varint
pub record IsNumber (W : Type 0) (S : W → List ℕ → Type 0) (R : Cause → List ℕ → Type 0) (meant : ℕ → Result W Cause) : Type 0 where
  pub spelled : (word : W) (text : List ℕ) (n : ℕ) → SpellsVarint text n → meant n ≡ Ok word → S word text
  pub spelling : (word : W) (text : List ℕ) → S word text → (n : ℕ) × SpellsVarint text n × (meant n ≡ Ok word)
  pub overlong : (text : List ℕ) → IsOverlong text → R causes.BadVarint text
  pub unsuited : (text : List ℕ) (n : ℕ) (cause : Cause) → SpellsVarint text n → meant n ≡ Err cause → R cause text
  pub refusing : (text : List ℕ) (cause : Cause) → R cause text → ((cause ≡ causes.BadVarint) × IsOverlong text) ⊎ ((n : ℕ) × SpellsVarint text n × (meant n ≡ Err cause))
  pub proper : (n : ℕ) (cause : Cause) → meant n ≡ Err cause → RefusesPart cause
  pub none : W
  pub of_zero : meant 0 ≡ Ok none

abbrev pub varint_or_cause : (W : Type 0) → (ℕ → Result W Cause) → List ℕ → Result (W × List ℕ) Cause
varint_or_cause W meant bytes = told (varint_at bytes) >>= λ x. meant x.0 >>= λ word. Ok (word, x.1)

module _ (W : Type 0) (S : W → List ℕ → Type 0) (V : List ℕ → Type 0) (R : Cause → List ℕ → Type 0) (meant : ℕ → Result W Cause) (is : IsNumber W S R meant)
    (here : V []) (at_once : (front : List ℕ) → V front → front ≡ []) where
  open_here : MayCome W S []
  open_here = record { word = is.none; more = zeros 1; are_bytes = zeros_are_bytes 1; some = λ e. cc; spelled = is.spelled is.none (0 ∷ []) 0 (byte_spells 0 (omega arith)) is.of_zero }

  pub inside_opens : (bytes : List ℕ) → IsInsideVarint bytes → Opens W S V bytes
  inside_opens [] i = opens W S V [] open_here
  inside_opens (b ∷ bytes) i = inr (record {
    front = [];
    inside = b ∷ bytes;
    then_varint = here;
    proper = record { more = open_here.more; are_bytes = open_here.are_bytes; some = open_here.some; whole = (open_here.word, open_here.spelled) };
    some = omega arith;
    unended = i;
    parts = refl;
  })

  ended_at_once : (text : List ℕ) → ((rest inside : List ℕ) → IsInsideVarint inside → text ++ rest ≡ inside → ⊥) → HasEnded V text
  ended_at_once text not rest front inside v i e = not rest inside i (e ∙ ap (λ l. l ++ inside) (at_once front v))

  ended_number : (word : W) (text : List ℕ) → S word text → HasEnded V text
  ended_number word text s = (let h = is.spelling word text s in ended_at_once text (λ rest inside i e. number_not_inside h.0 text rest inside h.1 i e))

  clash_overlong : (text : List ℕ) → IsOverlong text → Clashes W S text
  clash_overlong text h word other tail more s e = (let g = is.spelling word other s in overlong_not_number g.0 text other more tail h g.1 e)

  meant_other : (word : W) (cause : Cause) (n m : ℕ) → n ≡ m → meant n ≡ Ok word → meant m ≡ Err cause → ⊥
  meant_other word cause n m e f g = (let x : Result W Cause = Ok word in let y : Result W Cause = Err cause in let same : x ≡ y = sym f ∙ ap meant e ∙ g in cc)

  clash_unsuited : (text : List ℕ) (n : ℕ) (cause : Cause) → SpellsVarint text n → meant n ≡ Err cause → Clashes W S text
  clash_unsuited text n cause h f word other tail more s e =
      let g = is.spelling word other s in
      meant_other word cause g.0 n (one_varint g.0 n other text tail more g.1 h e).0 g.2 f

  number_by : (bytes : List ℕ) (n : ℕ) (rest : List ℕ) → BeginsVarint n bytes rest → (r : Result W Cause) → meant n ≡ r → Judged W S V R bytes (r >>= λ word. Ok (word, rest))
  number_by bytes n rest b (Ok word) e = found word b.text rest (is.spelled word b.text n b.spelled e) b.parts refl
  number_by bytes n rest b (Err cause) e = (let known = is.proper n cause e in refused cause (record {
    front = b.text;
    rest = rest;
    parts = b.parts;
    because = is.unsuited b.text n cause b.spelled e;
    clashes = clash_unsuited b.text n cause b.spelled e;
    ended = ended_at_once b.text (λ rest inside i e. number_not_inside n b.text rest inside b.spelled i e);
    before = λ shorter more e some. inside_opens shorter (varint_laws.fronts n shorter more (subst (λ l. SpellsVarint l n) e b.spelled) some);
    of_part = known;
  }) refl)

  varint_by : (bytes : List ℕ) (read : Result (ℕ × List ℕ) Lack) → varint_at bytes ≡ read → Judged W S V R bytes (told read >>= λ x. meant x.0 >>= λ word. Ok (word, x.1))
  varint_by bytes (Ok read) e = number_by bytes read.0 read.1 (varint_laws.found read.0 bytes read.1 e) (meant read.0) refl
  varint_by bytes (Err lacks.Short) e = may_come (inside_opens bytes ((varint_laws.short bytes).0 e)) refl
  varint_by bytes (Err lacks.BadVarint) e = (let o = (varint_laws.bad bytes).0 e in refused causes.BadVarint (record {
    front = o.text;
    rest = o.others;
    parts = o.parts;
    because = is.overlong o.text o.overlong;
    clashes = clash_overlong o.text o.overlong;
    ended = ended_at_once o.text (λ rest inside i e. overlong_not_inside o.text rest inside o.overlong i e);
    before = λ shorter more e some. inside_opens shorter (before_tenth o.text shorter more o.overlong e some);
    of_part = omega arith;
  }) refl)

  one_word : (w v : W) (text other tail more : List ℕ) → S w text → S v other → text ++ tail ≡ other ++ more → (w ≡ v) × (tail ≡ more)
  one_word w v text other tail more s t e =
      let h = is.spelling w text s in
      let g = is.spelling v other t in
      let same = one_varint h.0 g.0 text other tail more h.1 g.1 e in
      let x : Result W Cause = Ok w in
      let y : Result W Cause = Ok v in
      let words : x ≡ y = sym h.2 ∙ ap meant same.0 ∙ g.2 in
      (cc, same.1)

  whole_not : (text : List ℕ) (n : ℕ) → IsOverlong text → SpellsVarint text n → ⊥
  whole_not text n h s = overlong_not_number n text text [] [] h s refl

  abbrev Refusing : List ℕ → Cause → Type 0
  Refusing text cause = ((cause ≡ causes.BadVarint) × IsOverlong text) ⊎ ((n : ℕ) × SpellsVarint text n × (meant n ≡ Err cause))

  causes_by : (text : List ℕ) (a b : Cause) → Refusing text a → Refusing text b → a ≡ b
  causes_by text a b (inl x) (inl y) = x.0 ∙ sym y.0
  causes_by text a b (inl x) (inr y) = absurd (whole_not text y.0 x.1 y.1)
  causes_by text a b (inr x) (inl y) = absurd (whole_not text x.0 y.1 x.1)
  causes_by text a b (inr x) (inr y) =
      let same = one_varint x.0 y.0 text text [] [] x.1 y.1 refl in
      let p : Result W Cause = Err a in
      let q : Result W Cause = Err b in
      let both : p ≡ q = sym x.2 ∙ ap meant same.0 ∙ y.2 in
      cc

  one_cause : (text : List ℕ) (a b : Cause) → R a text → R b text → a ≡ b
  one_cause text a b h g = causes_by text a b (is.refusing text a h) (is.refusing text b g)

  pub number_judges : JudgesReading W S V R (varint_or_cause W meant)
  number_judges = record {
    judged = λ bytes. varint_by bytes (varint_at bytes) refl;
    one = one_word;
    ended = ended_number;
    one_cause = one_cause;
  }
