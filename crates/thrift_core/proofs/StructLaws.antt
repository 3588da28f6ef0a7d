-- Structs keep what the laws of offences ask of a wire format.
use Rattle.std.proofs.Common.{◌≡◌, ◌≤◌, ◌+◌, ◌++◌, ℕ, Bool, Some, None, Option, List, [], length, sym, ap, subst, ◌∙◌, arith}
use Rattle.std.proofs.lemmas.List.{length-append, append_cancel_right}
use Rattle.span_io.specs.declared.cause.Cause.{Cause}
use Rattle.span_io.proofs.Cuts.{some_length}
use Rattle.span_io.specs.Offences.{FormatLaws}
use Rattle.thrift_core.specs.declared.field.Field.{Field}
use Rattle.thrift_core.specs.Messages.{FieldItem, StructRest, BeginsField, structs}
use Rattle.thrift_core.proofs.OneReading.{own_text, one_part, one_value}
use Rattle.thrift_core.specs.Parts.{Part, header, Spelling, Begins}
use Rattle.thrift_core.specs.Protocols.{ReadsExactly, PartLaws}
use Rattle.thrift_core.specs.Reading.{ReadingOf}
use Rattle.thrift_core.specs.Trees.{kind_of, ValueThen}

module _ (Spells : Spelling) (reads : ReadingOf) (ThenVarint : Part → List ℕ → Type 0) (Refuses : Part → Cause → List ℕ → Type 0) (R : ReadsExactly Spells reads ThenVarint Refuses) (P : PartLaws Spells ThenVarint Refuses) (left : ℕ) where
  one_field : (r s : FieldItem) (rest after other : StructRest) → BeginsField Spells left r rest after → BeginsField Spells left s rest other → (r ≡ s) × (after ≡ other)
  one_field r s rest after other h k =
      let head : Field = record { id = r.id; kind = kind_of r.tree; held = h.held } in
      let there : Field = record { id = s.id; kind = kind_of s.tree; held = k.held } in
      let one = one_part Spells reads ThenVarint Refuses R (header left rest.last) (Some head) (Some there) rest.bytes (r.text ++ after.bytes) (s.text ++ other.bytes) h.head k.head in
      let heads : Some head ≡ Some there = one.0 in
      let same : head ≡ there = cc in
      let one_text = subst (λ l. ValueThen Spells r.tree left h.held l after.bytes) one.1 (own_text Spells r.tree left h.held r.text after.bytes h.value) in
      let other_text = subst (λ (x : Option Bool). ValueThen Spells s.tree left x (s.text ++ other.bytes) other.bytes) (sym (ap (λ (f : Field). f.held) same)) (own_text Spells s.tree left k.held s.text other.bytes k.value) in
      let value = one_value Spells reads ThenVarint Refuses R r.tree s.tree left h.held (s.text ++ other.bytes) after.bytes other.bytes (ap (λ (f : Field). f.kind) same) one_text other_text in
      let ids : r.id ≡ s.id = ap (λ (f : Field). f.id) same in
      let texts = append_cancel_right r.text s.text other.bytes (ap (λ l. r.text ++ l) (sym value.1) ∙ one.1) in
      let lasts : after.last ≡ other.last = h.last ∙ (ids ∙ sym k.last) in
      (λ i. record { id = ids i; tree = value.0 i; text = texts i }, λ i. record { last = lasts i; bytes = value.1 i })

  field_room : (r : FieldItem) (rest after : StructRest) → BeginsField Spells left r rest after → length after.bytes + length r.text + 1 ≤ length rest.bytes
  field_room r rest after h =
      omega (
        arith,
        some_length h.head.text (P.some (header left rest.last) (Some (record { id = r.id; kind = kind_of r.tree; held = h.held })) h.head.text tt h.head.spelled),
        ap length h.head.parts,
        length-append h.head.text (r.text ++ after.bytes),
        length-append r.text after.bytes,
      )

  end_some : (rest : StructRest) → Begins Spells (header left rest.last) None rest.bytes [] → 1 ≤ length rest.bytes
  end_some rest h = omega (arith, some_length h.text (P.some (header left rest.last) None h.text tt h.spelled), ap length h.parts, length-append h.text [])

  never_both : (r : FieldItem) (rest after : StructRest) → Begins Spells (header left rest.last) None rest.bytes [] → BeginsField Spells left r rest after → ⊥
  never_both r rest after e h =
      let head : Field = record { id = r.id; kind = kind_of r.tree; held = h.held } in
      let one = one_part Spells reads ThenVarint Refuses R (header left rest.last) None (Some head) rest.bytes [] (r.text ++ after.bytes) e h.head in
      let never : None ≡ Some head = one.0 in absurd (cc)

  pub struct_laws : FormatLaws (structs Spells left)
  struct_laws = record {
    only = one_field;
    room = field_room;
    some_beside = omega arith;
    end_room = λ rest e. omega (arith, end_some rest e);
    stuck = λ r rest after n h b. absurd h;
    ended = λ r rest after e b. never_both r rest after e b;
    unended = λ rest n e h. absurd h;
    one_number = λ rest n m h k. absurd h;
    some_left = λ rest n h. absurd h;
  }
