-- What a record holds, read behind its key.
use Rattle.std.proofs.Common.{◌≡◌, ◌≢◌, ◌≤◌, ◌<◌, ◌-◌, ◌++◌, ◌∷◌, ◌⊎◌, inl, inr, ℕ, zero, suc, List, [], length, take, drop, replicate, Result, Ok, Err, refl, ap, sym, ◌∙◌, subst, cond, Bool, true, false, ltb, arith}
use Rattle.std.proofs.lemmas.Bool.{le-ltb, ne_eqb, ltb-true, ltb-false}
use Rattle.std.proofs.lemmas.List.{length-append, length-take, length-replicate, take-append-drop, take_at, drop_at, append_assoc}
use Rattle.std.proofs.lemmas.List.Elements.{All-replicate}
use Rattle.std.specs.Int.{w32, w64, from_le_bytes}
use Rattle.span_io.specs.declared.cause.Cause.{Cause}
use Rattle.span_io.specs.declared.cause.Cause.TheVariants as causes
use Rattle.span_io.specs.Frames.{AreBytes}
use Rattle.span_io.specs.Varint.{SpellsVarint, SpellsWithin, BeginsVarint, IsInsideVarint, BeginsOverlong}
use Rattle.proto_wire.specs.Records.{Held, varint, fixed64, bytes, fixed32, wire_type}
use Rattle.proto_wire.specs.Wire.{SpellsHeld}
use Rattle.proto_wire.specs.Reading.{number_at, held_bytes_at, held_at, ◌>>=◌}
use Rattle.span_io.specs.VarintLaws.{VarintLaws}
use Rattle.proto_wire.proofs.Varints.{NumberIs, number_is, number_read}

-- ---- the next bytes

pub bytes_read : (size : ℕ) (text rest : List ℕ) → length text ≡ size → held_bytes_at size (text ++ rest) ≡ Ok (text, rest)
bytes_read size text rest e =
    let fits : size ≤ length (text ++ rest) = omega (arith, length-append text rest) in
    rw (le-ltb (length (text ++ rest)) size fits, take_at text rest size e, drop_at text rest size e) refl

abbrev pub BytesAre : ℕ → List ℕ → Result (List ℕ × List ℕ) Cause → Type 0
BytesAre size text (Ok x) = (length x.0 ≡ size) × (text ≡ x.0 ++ x.1)
BytesAre size text (Err causes.Truncated) = length text < size
BytesAre size text (Err other) = ⊥

bytes_cases : (size : ℕ) (text : List ℕ) (b : Bool) → ltb (length text) size ≡ b → BytesAre size text (cond b (Err causes.Truncated) (Ok (take size text, drop size text)))
bytes_cases size text true e = ltb-true (length text) size e
bytes_cases size text false e = (omega (arith, length-take size text, ltb-false (length text) size e), sym (take-append-drop size text))

pub bytes_are : (size : ℕ) (text : List ℕ) → BytesAre size text (held_bytes_at size text)
bytes_are size text = bytes_cases size text (ltb (length text) size) refl

-- ---- by wire type

pub held_0 : (text : List ℕ) → held_at 0 text ≡ (number_at text >>= λ n. Ok (varint n.0, n.1))
unfolding held_at
held_0 text = refl

held_1 : (text : List ℕ) → held_at 1 text ≡ (held_bytes_at 8 text >>= λ b. Ok (fixed64 (from_le_bytes w64 b.0), b.1))
unfolding held_at
held_1 text = refl

pub held_2 : (text : List ℕ) → held_at 2 text ≡ (number_at text >>= λ n. held_bytes_at n.0 n.1 >>= λ b. Ok (bytes b.0, b.1))
unfolding held_at
held_2 text = refl

held_5 : (text : List ℕ) → held_at 5 text ≡ (held_bytes_at 4 text >>= λ b. Ok (fixed32 (from_le_bytes w32 b.0), b.1))
unfolding held_at
held_5 text = refl

-- the wire type is one of the four
pub data WireIs : ℕ → Type 0 where
  is_0 : WireIs 0
  is_1 : WireIs 1
  is_2 : WireIs 2
  is_5 : WireIs 5

-- it is none of them
pub record IsNoWire (wire : ℕ) : Type 0 where
  pub not_0 : wire ≢ 0
  pub not_1 : wire ≢ 1
  pub not_2 : wire ≢ 2
  pub not_5 : wire ≢ 5

pub wire_cases : (wire : ℕ) → WireIs wire ⊎ IsNoWire wire
wire_cases zero = inl is_0
wire_cases (suc zero) = inl is_1
wire_cases (suc (suc zero)) = inl is_2
wire_cases (suc (suc (suc zero))) = inr (record { not_0 = omega arith; not_1 = omega arith; not_2 = omega arith; not_5 = omega arith })
wire_cases (suc (suc (suc (suc zero)))) = inr (record { not_0 = omega arith; not_1 = omega arith; not_2 = omega arith; not_5 = omega arith })
wire_cases (suc (suc (suc (suc (suc zero))))) = inl is_5
wire_cases (suc (suc (suc (suc (suc (suc wire)))))) = inr (record { not_0 = omega arith; not_1 = omega arith; not_2 = omega arith; not_5 = omega arith })

pub wire_type_is : (held : Held) → WireIs (wire_type held)
wire_type_is (varint n) = is_0
wire_type_is (fixed64 n) = is_1
wire_type_is (bytes b) = is_2
wire_type_is (fixed32 n) = is_5

pub held_none : (wire : ℕ) (text : List ℕ) → IsNoWire wire → held_at wire text ≡ Err causes.BadWire
unfolding held_at
held_none wire text h = rw (ne_eqb wire 0 h.not_0, ne_eqb wire 1 h.not_1, ne_eqb wire 2 h.not_2, ne_eqb wire 5 h.not_5) refl

-- ---- what is spelled is read

module _ (L : VarintLaws) where
  pub held_read : (held : Held) (text rest : List ℕ) → SpellsHeld text held → held_at (wire_type held) (text ++ rest) ≡ Ok (held, rest)
  held_read (varint n) text rest h = rw (held_0 (text ++ rest), number_read L n text rest h) refl
  held_read (fixed64 n) text rest h = rw (held_1 (text ++ rest), bytes_read 8 text rest h.0) (ap (λ m. Ok (fixed64 m, rest)) (sym h.1))
  held_read (bytes b) text rest h = rw (h.2, held_2 ((h.0 ++ b) ++ rest), append_assoc h.0 b rest, number_read L (length b) h.0 (b ++ rest) h.1, bytes_read (length b) b rest refl) refl
  held_read (fixed32 n) text rest h = rw (held_5 (text ++ rest), bytes_read 4 text rest h.0) (ap (λ m. Ok (fixed32 m, rest)) (sym h.1))

-- ---- what stands where a payload was looked for

pub record HeldFound (wire : ℕ) (text : List ℕ) (held : Held) (rest : List ℕ) : Type 0 where
  pub payload : List ℕ
  pub wire_is : wire_type held ≡ wire
  pub spelled : SpellsHeld payload held
  pub parts : text ≡ payload ++ rest

-- more bytes can follow that make a payload of the text
pub record HeldFront (wire : ℕ) (text : List ℕ) : Type 0 where
  pub more : List ℕ
  pub are_bytes : AreBytes more
  pub held : Held
  pub some : more ≢ []
  pub wire_is : wire_type held ≡ wire
  pub spelled : SpellsHeld (text ++ more) held

-- a varint belongs here
abbrev pub WithVarint : ℕ → Type 0
WithVarint wire = (wire ≡ 0) ⊎ (wire ≡ 2)

-- a varint belongs here, and the text ends inside it
pub record HeldInside (wire : ℕ) (text : List ℕ) : Type 0 where
  pub with_varint : WithVarint wire
  pub inside : IsInsideVarint text
  pub some : 0 < length text

abbrev pub HeldIs : ℕ → List ℕ → Result (Held × List ℕ) Cause → Type 0
HeldIs wire text (Ok x) = HeldFound wire text x.0 x.1
HeldIs wire text (Err causes.Truncated) = HeldFront wire text ⊎ HeldInside wire text
HeldIs wire text (Err causes.BadVarint) = WithVarint wire × BeginsOverlong text
HeldIs wire text (Err causes.BadWire) = IsNoWire wire
HeldIs wire text (Err other) = ⊥

pub zero_spelled : SpellsVarint (0 ∷ []) 0
unfolding SpellsVarint SpellsWithin
zero_spelled = (omega arith, refl)

abbrev pub zeros : ℕ → List ℕ
zeros n = replicate n 0

pub length-zeros : (n : ℕ) → length (zeros n) ≡ n
length-zeros n = length-replicate {A = ℕ} n 0

pub zeros_are_bytes : (n : ℕ) → AreBytes (zeros n)
zeros_are_bytes n = All-replicate (λ b. b < 256) n 0 (omega arith)

pub some_zeros : (n : ℕ) → 0 < n → zeros n ≢ []
some_zeros n positive e = absurd (omega (arith, ap length e, length-zeros n))

filled : (size : ℕ) (text : List ℕ) → length text < size → length (text ++ zeros (size - length text)) ≡ size
filled size text less = omega (arith, length-append text (zeros (size - length text)), length-zeros (size - length text))

varint_unended : (text : List ℕ) → IsInsideVarint text → HeldFront 0 text ⊎ HeldInside 0 text
varint_unended [] h = inl (record { more = 0 ∷ []; are_bytes = zeros_are_bytes 1; held = varint 0; some = λ e. cc; wire_is = refl; spelled = zero_spelled })
varint_unended (b ∷ text) h = inr (record { with_varint = inl refl; inside = h; some = omega arith })

varint_is : (text : List ℕ) (r : Result (ℕ × List ℕ) Cause) → NumberIs text r → HeldIs 0 text (r >>= λ n. Ok (varint n.0, n.1))
varint_is text (Ok x) h = record { payload = h.text; wire_is = refl; spelled = h.spelled; parts = h.parts }
varint_is text (Err causes.Truncated) h = varint_unended text h
varint_is text (Err causes.BadVarint) h = (inl refl, h)
varint_is text (Err other) h = absurd h

fixed64_is : (text : List ℕ) (r : Result (List ℕ × List ℕ) Cause) → BytesAre 8 text r → HeldIs 1 text (r >>= λ b. Ok (fixed64 (from_le_bytes w64 b.0), b.1))
fixed64_is text (Ok x) h = record { payload = x.0; wire_is = refl; spelled = (h.0, refl); parts = h.1 }
fixed64_is text (Err causes.Truncated) h =
    let more : List ℕ = zeros (8 - length text) in
    inl (record { more = more; are_bytes = zeros_are_bytes (8 - length text); held = fixed64 (from_le_bytes w64 (text ++ more)); some = some_zeros (8 - length text) (omega arith); wire_is = refl; spelled = (filled 8 text h, refl) })
fixed64_is text (Err other) h = absurd h

fixed32_is : (text : List ℕ) (r : Result (List ℕ × List ℕ) Cause) → BytesAre 4 text r → HeldIs 5 text (r >>= λ b. Ok (fixed32 (from_le_bytes w32 b.0), b.1))
fixed32_is text (Ok x) h = record { payload = x.0; wire_is = refl; spelled = (h.0, refl); parts = h.1 }
fixed32_is text (Err causes.Truncated) h =
    let more : List ℕ = zeros (4 - length text) in
    inl (record { more = more; are_bytes = zeros_are_bytes (4 - length text); held = fixed32 (from_le_bytes w32 (text ++ more)); some = some_zeros (4 - length text) (omega arith); wire_is = refl; spelled = (filled 4 text h, refl) })
fixed32_is text (Err other) h = absurd h

sized_is : (text rest : List ℕ) (size : ℕ) (h : BeginsVarint size text rest) (r : Result (List ℕ × List ℕ) Cause) → BytesAre size rest r → HeldIs 2 text (r >>= λ b. Ok (bytes b.0, b.1))
sized_is text rest size h (Ok x) b = record {
  payload = h.text ++ x.0;
  wire_is = refl;
  spelled = (h.text, subst (λ n. SpellsVarint h.text n) (sym b.0) h.spelled, refl);
  parts = h.parts ∙ ap (λ l. h.text ++ l) b.1 ∙ sym (append_assoc h.text x.0 x.1);
}
sized_is text rest size h (Err causes.Truncated) b =
    let more : List ℕ = zeros (size - length rest) in
    inl (record {
      more = more;
      are_bytes = zeros_are_bytes (size - length rest);
      held = bytes (rest ++ more);
      some = some_zeros (size - length rest) (omega arith);
      wire_is = refl;
      spelled = (h.text, subst (λ n. SpellsVarint h.text n) (sym (filled size rest b)) h.spelled, ap (λ l. l ++ more) h.parts ∙ append_assoc h.text rest more);
    })
sized_is text rest size h (Err other) b = absurd b

size_unended : (text : List ℕ) → IsInsideVarint text → HeldFront 2 text ⊎ HeldInside 2 text
size_unended [] h = inl (record { more = 0 ∷ []; are_bytes = zeros_are_bytes 1; held = bytes []; some = λ e. cc; wire_is = refl; spelled = (0 ∷ [], zero_spelled, refl) })
size_unended (b ∷ text) h = inr (record { with_varint = inr refl; inside = h; some = omega arith })

bytes_held : (text : List ℕ) (r : Result (ℕ × List ℕ) Cause) → NumberIs text r → HeldIs 2 text (r >>= λ n. held_bytes_at n.0 n.1 >>= λ b. Ok (bytes b.0, b.1))
bytes_held text (Ok x) h = sized_is text x.1 x.0 h (held_bytes_at x.0 x.1) (bytes_are x.0 x.1)
bytes_held text (Err causes.Truncated) h = size_unended text h
bytes_held text (Err causes.BadVarint) h = (inr refl, h)
bytes_held text (Err other) h = absurd h

module _ (L : VarintLaws) where
  held_wire : (wire : ℕ) (text : List ℕ) → WireIs wire → HeldIs wire text (held_at wire text)
  held_wire wire text is_0 = rw (held_0 text) (varint_is text (number_at text) (number_is L text))
  held_wire wire text is_1 = rw (held_1 text) (fixed64_is text (held_bytes_at 8 text) (bytes_are 8 text))
  held_wire wire text is_2 = rw (held_2 text) (bytes_held text (number_at text) (number_is L text))
  held_wire wire text is_5 = rw (held_5 text) (fixed32_is text (held_bytes_at 4 text) (bytes_are 4 text))

  pub held_is : (wire : ℕ) (text : List ℕ) → HeldIs wire text (held_at wire text)
  held_is wire text = elim (wire_cases wire) [
    | inl known ↦ held_wire wire text known
    | inr none ↦ subst (λ r. HeldIs wire text r) (sym (held_none wire text none)) none
  ]
