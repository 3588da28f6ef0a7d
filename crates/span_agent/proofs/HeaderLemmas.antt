-- Searches in a header, one behind the other.
use Rattle.std.proofs.Common.{◌≡◌, ◌<◌, ◌+◌, ◌*◌, ◌++◌, ◌∷◌, inl, inr, ℕ, Bool, true, false, List, length, take, drop, get_or, Option, Some, None, refl, ap, sym, ◌∙◌, subst, arith}
use Rattle.std.proofs.lemmas.List.{length-append, length-take, take-append-drop}
use Rattle.std.proofs.Math.Seq.{take-append_seam, drop-append_seam}
use Rattle.std.specs.Borrow.{Bor}
use Rattle.span_io.specs.Varint.{BeginsVarint}
use Rattle.thrift_core.specs.Trees.{BinaryThen}
use Rattle.thrift_spellings.specs.BinarySpelling.{binary_spells}
use Rattle.span_agent.specs.Headers.{HeaderThen, CompactHeader, BinaryHeader, NameThen, FourThen, IsCall}
use Rattle.span_agent.specs.private.Finding.{Either, FindsName, NameThenNumber, NumberedName}

pub none_found : (Is : List ℕ → List ℕ → List ℕ → Type 0) (old new : List ℕ) → ((name rest : List ℕ) → Is name old rest → ⊥) → FindsName Is None old new
none_found Is old new none = record { found = tt; only = λ name rest h. absurd (none name rest h) }

-- what is found further on says what is found here
pub carried : (A B : List ℕ → List ℕ → List ℕ → Type 0) (result : Option (Bor (List ℕ))) (mid old new : List ℕ)
    → ((name rest : List ℕ) → A name mid rest → B name old rest) → ((name rest : List ℕ) → B name old rest → A name mid rest)
    → FindsName A result mid new → FindsName B result old new
carried A B None mid old new there back f = record { found = tt; only = λ name rest h. f.only name rest (back name rest h) }
carried A B (Some lent) mid old new there back f =
    record { found = there lent.now new f.found; only = λ name rest h. f.only name rest (back name rest h) }

-- ---- the compact protocol

pub compact_begins : (name whole rest : List ℕ) → CompactHeader name whole rest → (behind : List ℕ) × (whole ≡ 130 ∷ behind)
compact_begins name whole rest h = ((h.kind * 32 + 1) ∷ h.numbered, h.begins)

call_byte : (kind : ℕ) (rest : List ℕ) → IsCall kind → Either 33 129 ((kind * 32 + 1) ∷ rest) rest
call_byte kind rest (inl e) = inl (ap (λ k. (k * 32 + 1) ∷ rest) e)
call_byte kind rest (inr e) = inr (ap (λ k. (k * 32 + 1) ∷ rest) e)

-- behind the first byte the second one calls
pub compact_calls : (name old mid rest : List ℕ) → old ≡ 130 ∷ mid → CompactHeader name old rest → (behind : List ℕ) × Either 33 129 mid behind
compact_calls name old mid rest e h =
    let whole : 130 ∷ mid ≡ 130 ∷ (h.kind * 32 + 1) ∷ h.numbered = sym e ∙ h.begins in
    let is : mid ≡ (h.kind * 32 + 1) ∷ h.numbered = cc in
    (h.numbered, subst (λ l. Either 33 129 l h.numbered) (sym is) (call_byte h.kind h.numbered h.calls))

pub compact_there : (old mid behind : List ℕ) → old ≡ 130 ∷ mid → Either 33 129 mid behind → (name rest : List ℕ) → NumberedName name behind rest
    → CompactHeader name old rest
compact_there old mid behind e (inl f) name rest n = record {
  kind = 1;
  sequence = n.sequence;
  numbered = behind;
  sized = n.sized;
  calls = inl refl;
  begins = e ∙ ap (λ l. 130 ∷ l) f;
  sequence_then = n.sequence_then;
  name_then = n.name_then;
}
compact_there old mid behind e (inr f) name rest n = record {
  kind = 4;
  sequence = n.sequence;
  numbered = behind;
  sized = n.sized;
  calls = inr refl;
  begins = e ∙ ap (λ l. 130 ∷ l) f;
  sequence_then = n.sequence_then;
  name_then = n.name_then;
}

behind_either : (one other first : ℕ) (mid behind tail : List ℕ) → Either one other mid behind → mid ≡ first ∷ tail → behind ≡ tail
behind_either one other first mid behind tail (inl f) e = (let same : one ∷ behind ≡ first ∷ tail = sym f ∙ e in cc)
behind_either one other first mid behind tail (inr f) e = (let same : other ∷ behind ≡ first ∷ tail = sym f ∙ e in cc)

pub compact_back : (old mid behind : List ℕ) → old ≡ 130 ∷ mid → Either 33 129 mid behind → (name rest : List ℕ) → CompactHeader name old rest
    → NumberedName name behind rest
compact_back old mid behind e f name rest h =
    let whole : 130 ∷ mid ≡ 130 ∷ (h.kind * 32 + 1) ∷ h.numbered = sym e ∙ h.begins in
    let is : mid ≡ (h.kind * 32 + 1) ∷ h.numbered = cc in
    let same : behind ≡ h.numbered = behind_either 33 129 (h.kind * 32 + 1) mid behind h.numbered f is in
    record {
      sequence = h.sequence;
      sized = h.sized;
      sequence_then = subst (λ l. BeginsVarint h.sequence l h.sized) (sym same) h.sequence_then;
      name_then = h.name_then;
    }

-- ---- the binary protocol

pub binary_begins : (name old rest : List ℕ) → BinaryHeader name old rest → (behind : List ℕ) × (old ≡ 128 ∷ 1 ∷ 0 ∷ behind)
binary_begins name old rest h = (h.kind ∷ h.named, h.begins)

binary_first : (old mid tail : List ℕ) (first : ℕ) → old ≡ first ∷ mid → old ≡ first ∷ tail → mid ≡ tail
binary_first old mid tail first e f = (let same : first ∷ mid ≡ first ∷ tail = sym e ∙ f in cc)

pub binary_one : (name old a rest : List ℕ) → old ≡ 128 ∷ a → BinaryHeader name old rest → (behind : List ℕ) × (a ≡ 1 ∷ behind)
binary_one name old a rest e h = (0 ∷ h.kind ∷ h.named, binary_first old a (1 ∷ 0 ∷ h.kind ∷ h.named) 128 e h.begins)

pub binary_two : (name old a b rest : List ℕ) → old ≡ 128 ∷ a → a ≡ 1 ∷ b → BinaryHeader name old rest → (behind : List ℕ) × (b ≡ 0 ∷ behind)
binary_two name old a b rest e f h =
    (h.kind ∷ h.named, binary_first a b (0 ∷ h.kind ∷ h.named) 1 f (binary_first old a (1 ∷ 0 ∷ h.kind ∷ h.named) 128 e h.begins))

kind_there : (name old a b d rest : List ℕ) → old ≡ 128 ∷ a → a ≡ 1 ∷ b → b ≡ 0 ∷ d → (h : BinaryHeader name old rest) → d ≡ h.kind ∷ h.named
kind_there name old a b d rest e f g h =
    binary_first b d (h.kind ∷ h.named) 0 g (binary_first a b (0 ∷ h.kind ∷ h.named) 1 f (binary_first old a (1 ∷ 0 ∷ h.kind ∷ h.named) 128 e h.begins))

kind_byte : (kind : ℕ) (rest : List ℕ) → IsCall kind → Either 1 4 (kind ∷ rest) rest
kind_byte kind rest (inl e) = inl (ap (λ k. k ∷ rest) e)
kind_byte kind rest (inr e) = inr (ap (λ k. k ∷ rest) e)

pub binary_calls : (name old a b d rest : List ℕ) → old ≡ 128 ∷ a → a ≡ 1 ∷ b → b ≡ 0 ∷ d → BinaryHeader name old rest
    → (behind : List ℕ) × Either 1 4 d behind
binary_calls name old a b d rest e f g h =
    (h.named, subst (λ l. Either 1 4 l h.named) (sym (kind_there name old a b d rest e f g h)) (kind_byte h.kind h.named h.calls))

fronts : (old a b d tail : List ℕ) (kind : ℕ) → old ≡ 128 ∷ a → a ≡ 1 ∷ b → b ≡ 0 ∷ d → d ≡ kind ∷ tail → old ≡ 128 ∷ 1 ∷ 0 ∷ kind ∷ tail
fronts old a b d tail kind e f g h = e ∙ ap (λ l. 128 ∷ l) (f ∙ ap (λ l. 1 ∷ l) (g ∙ ap (λ l. 0 ∷ l) h))

pub binary_there : (old a b d behind : List ℕ) → old ≡ 128 ∷ a → a ≡ 1 ∷ b → b ≡ 0 ∷ d → Either 1 4 d behind → (name rest : List ℕ)
    → NameThenNumber name behind rest → BinaryHeader name old rest
binary_there old a b d behind e f g (inl h) name rest n = record {
  kind = 1;
  named = behind;
  numbered = n.numbered;
  calls = inl refl;
  begins = fronts old a b d behind 1 e f g h;
  name_then = n.name_then;
  sequence_then = n.sequence_then;
}
binary_there old a b d behind e f g (inr h) name rest n = record {
  kind = 4;
  named = behind;
  numbered = n.numbered;
  calls = inr refl;
  begins = fronts old a b d behind 4 e f g h;
  name_then = n.name_then;
  sequence_then = n.sequence_then;
}

pub binary_back : (old a b d behind : List ℕ) → old ≡ 128 ∷ a → a ≡ 1 ∷ b → b ≡ 0 ∷ d → Either 1 4 d behind → (name rest : List ℕ)
    → BinaryHeader name old rest → NameThenNumber name behind rest
binary_back old a b d behind e f g either name rest h =
    let same : behind ≡ h.named = behind_either 1 4 h.kind d behind h.named either (kind_there name old a b d rest e f g h) in
    record {
      numbered = h.numbered;
      name_then = subst (λ l. BinaryThen binary_spells name l h.numbered) (sym same) h.name_then;
      sequence_then = h.sequence_then;
    }

-- ---- one protocol alone begins a datagram

pub one_protocol : (name other datagram rest behind : List ℕ) → CompactHeader name datagram rest → BinaryHeader other datagram behind → ⊥
one_protocol name other datagram rest behind c b =
    let both : 130 ∷ (c.kind * 32 + 1) ∷ c.numbered ≡ 128 ∷ 1 ∷ 0 ∷ b.kind ∷ b.named = sym c.begins ∙ b.begins in
    let first : ◌≡◌ {A = ℕ} 130 128 = ap (λ (l : List ℕ). get_or l 0 0) both in
    absurd (omega (arith, first))

-- the header that was found in the compact protocol is every one
pub compact_only : (whole datagram behind lent : List ℕ) → whole ≡ datagram → CompactHeader lent whole behind
    → ((name rest : List ℕ) → CompactHeader name whole rest → (lent ≡ name) × (behind ≡ rest))
    → (compact : Bool) (name rest : List ℕ) → HeaderThen compact name datagram rest → (true ≡ compact) × (lent ≡ name) × (behind ≡ rest)
compact_only whole datagram behind lent e found only true name rest h =
    let one = only name rest (subst (λ l. CompactHeader name l rest) (sym e) h) in (refl, one.0, one.1)
compact_only whole datagram behind lent e found only false name rest h =
    absurd (one_protocol lent name datagram behind rest (subst (λ l. CompactHeader lent l behind) e found) h)

-- so it is in the binary one, where none was found in the other
pub binary_only : (whole other datagram behind lent : List ℕ) → whole ≡ datagram → other ≡ datagram
    → ((name rest : List ℕ) → CompactHeader name whole rest → ⊥)
    → ((name rest : List ℕ) → BinaryHeader name other rest → (lent ≡ name) × (behind ≡ rest))
    → (compact : Bool) (name rest : List ℕ) → HeaderThen compact name datagram rest → (false ≡ compact) × (lent ≡ name) × (behind ≡ rest)
binary_only whole other datagram behind lent e f none only true name rest h = absurd (none name rest (subst (λ l. CompactHeader name l rest) (sym e) h))
binary_only whole other datagram behind lent e f none only false name rest h =
    let one = only name rest (subst (λ l. BinaryHeader name l rest) (sym f) h) in (refl, one.0, one.1)

-- none was found in either
pub no_header : (whole other datagram : List ℕ) → whole ≡ datagram → other ≡ datagram → ((name rest : List ℕ) → CompactHeader name whole rest → ⊥)
    → ((name rest : List ℕ) → BinaryHeader name other rest → ⊥) → (compact : Bool) (name rest : List ℕ) → HeaderThen compact name datagram rest → ⊥
no_header whole other datagram e f none neither true name rest h = none name rest (subst (λ l. CompactHeader name l rest) (sym e) h)
no_header whole other datagram e f none neither false name rest h = neither name rest (subst (λ l. BinaryHeader name l rest) (sym f) h)

-- ---- parts

-- so many bytes at the front
pub taken_name : (size : ℕ) (old lent behind : List ℕ) → (length old < size → ⊥) → lent ≡ take size old → behind ≡ drop size old → NameThen size lent old behind
taken_name size old lent behind enough e f = (
  omega (arith, enough, length-take size old, ap length e),
  sym (take-append-drop size old) ∙ (λ i. sym e i ++ sym f i),
)

pub one_name : (size : ℕ) (old lent behind name rest : List ℕ) → lent ≡ take size old → behind ≡ drop size old → NameThen size name old rest
    → (lent ≡ name) × (behind ≡ rest)
one_name size old lent behind name rest e f h = (
  e ∙ ap (λ n. take n old) h.0 ∙ ap (λ l. take (length name) l) h.1 ∙ take-append_seam name rest,
  f ∙ ap (λ n. drop n old) h.0 ∙ ap (λ l. drop (length name) l) h.1 ∙ drop-append_seam name rest,
)

pub no_name : (size : ℕ) (old name rest : List ℕ) → length old < size → NameThen size name old rest → ⊥
no_name size old name rest few h = omega (arith, few, h.0, ap length h.1, length-append name rest)

pub taken_four : (old behind : List ℕ) → (length old < 4 → ⊥) → behind ≡ drop 4 old → FourThen old behind
taken_four old behind enough f = (
  take 4 old,
  omega (arith, enough, length-take 4 old),
  sym (take-append-drop 4 old) ∙ ap (λ l. take 4 old ++ l) (sym f),
)

pub one_four : (old behind rest : List ℕ) → behind ≡ drop 4 old → FourThen old rest → behind ≡ rest
one_four old behind rest f h = f ∙ ap (λ n. drop n old) (sym h.1) ∙ ap (λ l. drop (length h.0) l) h.2 ∙ drop-append_seam h.0 rest

pub no_four : (old rest : List ℕ) → length old < 4 → FourThen old rest → ⊥
no_four old rest few h = omega (arith, few, h.1, ap length h.2, length-append h.0 rest)

-- ---- tests

pub true_and_false : (b : Bool) → b ≡ true → b ≡ false → ⊥
true_and_false b h g = (let both : true ≡ false = sym h ∙ g in cc)

-- the same name
pub lent_then : (lent name whole rest : List ℕ) → lent ≡ name → BinaryThen binary_spells lent whole rest → BinaryThen binary_spells name whole rest
lent_then lent name whole rest e h = subst (λ l. BinaryThen binary_spells l whole rest) e h
