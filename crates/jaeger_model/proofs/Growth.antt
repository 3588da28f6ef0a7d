-- Pieces that are written in a row, and a front of them where memory is wanted.
use Rattle.std.proofs.Common.{◌≡◌, ℕ, ℤ, SFits, w16, to_z, of_z, List, [], ◌++◌, None, Result, Ok, Err, OnOk, OnErr, refl, sym, ap, subst, ◌∙◌, append_assoc}
use Rattle.std.proofs.lemmas.Int.{to_z-of_z}
use Rattle.std.proofs.lemmas.List.{append-nil}
use Rattle.span_io.specs.Outside.{GrowsFront}
use Rattle.thrift_core.specs.Parts.{header}
use Rattle.thrift_core.specs.Protocols.{WritingOf, field_head}
use Rattle.thrift_core.specs.Trees.{Tree, kind_of}
use Rattle.thrift_core.specs.Written.{Keeping, given, value_written, fields_written, FieldRow, fields_of_rows, last_id}
use Rattle.thrift_core.specs.private.WrittenParts.{field_written, rows_written}
use Rattle.thrift_core.proofs.WrittenLaws.{struct_written}
use Rattle.jaeger_model.specs.private.Growing.{GrowsBy}

-- one piece, and then a front of the rest
pub front_behind : (old middle new piece rest : List ℕ) → middle ≡ old ++ piece → GrowsFront middle new rest → GrowsFront old new (piece ++ rest)
front_behind old middle new piece rest e h = record {
  front = piece ++ h.front;
  is_front = (h.is_front.0, ap (λ l. piece ++ l) h.is_front.1 ∙ sym (append_assoc piece h.front h.is_front.0));
  grows = h.grows ∙ ap (λ l. l ++ h.front) e ∙ append_assoc old piece h.front;
}

-- one piece, and then the rest
pub seq : {T E : Type 0} (r : Result T E) (old middle new piece rest : List ℕ) → middle ≡ old ++ piece → GrowsBy r middle new rest → GrowsBy r old new (piece ++ rest)
seq (Ok u) old middle new piece rest e h = h ∙ ap (λ l. l ++ rest) e ∙ append_assoc old piece rest
seq (Err u) old middle new piece rest e h = front_behind old middle new piece rest e h

-- a piece that was cut short
pub stop : (old new piece rest : List ℕ) → GrowsFront old new piece → GrowsFront old new (piece ++ rest)
stop old new piece rest h = record {
  front = h.front;
  is_front = (h.is_front.0 ++ rest, ap (λ l. l ++ rest) h.is_front.1 ∙ append_assoc h.front h.is_front.0 rest);
  grows = h.grows;
}

-- nothing of a piece was written
pub none : (old new piece : List ℕ) → new ≡ old → GrowsFront old new piece
none old new piece e = record { front = []; is_front = (piece, refl); grows = e ∙ sym (append-nil old) }

-- the last piece
pub ended : {T E : Type 0} (r : Result T E) (old new piece : List ℕ) → GrowsBy r old new piece → GrowsBy r old new (piece ++ [])
ended r old new piece h = subst (λ l. GrowsBy r old new l) (sym (append-nil piece)) h

-- what a call answers that hands want of memory on
pub exits : {T E : Type 0} (answer : Result T E) (e : E) (old new piece : List ℕ) → answer ≡ Err e → GrowsFront old new piece → GrowsBy answer old new piece
exits {T} {E} answer e old new piece is h = subst (λ (r : Result T E). GrowsBy r old new piece) (sym is) h

-- by the two clauses of a writer
pub clauses : {T E : Type 0} (r : Result T E) (old new piece : List ℕ) → OnOk r (new ≡ old ++ piece) → OnErr r (new ≡ old) → GrowsBy r old new piece
clauses (Ok u) old new piece ok err = ok
clauses (Err e) old new piece ok err = none old new piece err

-- ---- a field, whose head is written first; its numbers come back from their bits

module _ (keeps : Keeping) (writes : WritingOf) (tree : Tree) (left : ℕ) where
  field_middle : (last id : ℤ) → SFits w16 last → SFits w16 id → (old middle : List ℕ)
      → middle ≡ old ++ writes (header left (to_z w16 (of_z w16 last))) (field_head keeps (to_z w16 (of_z w16 id)) (kind_of tree) (given tree))
      → middle ≡ old ++ writes (header left last) (field_head keeps id (kind_of tree) (given tree))
  field_middle last id l i old middle head =
      let at_last = subst (λ z. middle ≡ old ++ writes (header left z) (field_head keeps (to_z w16 (of_z w16 id)) (kind_of tree) (given tree))) (to_z-of_z w16 last l) head in
      subst (λ z. middle ≡ old ++ writes (header left last) (field_head keeps z (kind_of tree) (given tree))) (to_z-of_z w16 id i) at_last

  pub field_seq : {T E : Type 0} (r : Result T E) (last id : ℤ) → SFits w16 last → SFits w16 id → (old middle new : List ℕ)
      → middle ≡ old ++ writes (header left (to_z w16 (of_z w16 last))) (field_head keeps (to_z w16 (of_z w16 id)) (kind_of tree) (given tree))
      → GrowsBy r middle new (value_written keeps writes tree left (keeps (given tree))) → GrowsBy r old new (field_written keeps writes id tree left last)
  field_seq r last id l i old middle new head value =
      seq r old middle new (writes (header left last) (field_head keeps id (kind_of tree) (given tree))) (value_written keeps writes tree left (keeps (given tree)))
      (field_middle last id l i old middle head) value

  pub field_front : (last id : ℤ) → SFits w16 last → SFits w16 id → (old middle new : List ℕ)
      → middle ≡ old ++ writes (header left (to_z w16 (of_z w16 last))) (field_head keeps (to_z w16 (of_z w16 id)) (kind_of tree) (given tree))
      → GrowsFront middle new (value_written keeps writes tree left (keeps (given tree))) → GrowsFront old new (field_written keeps writes id tree left last)
  field_front last id l i old middle new head value =
      front_behind old middle new (writes (header left last) (field_head keeps id (kind_of tree) (given tree))) (value_written keeps writes tree left (keeps (given tree)))
      (field_middle last id l i old middle head) value

-- a field of another tree's numbers, which are its own
pub field_again : (keeps : Keeping) (writes : WritingOf) (tree other : Tree) (left : ℕ) {T E : Type 0} (r : Result T E) (last id : ℤ) → SFits w16 last → SFits w16 id → (old new : List ℕ)
    → other ≡ tree → GrowsBy r old new (field_written keeps writes (to_z w16 (of_z w16 id)) other left (to_z w16 (of_z w16 last))) → GrowsBy r old new (field_written keeps writes id tree left last)
field_again keeps writes tree other left r last id l i old new same h =
    let at_last = subst (λ z. GrowsBy r old new (field_written keeps writes (to_z w16 (of_z w16 id)) other left z)) (to_z-of_z w16 last l) h in
    let at_id = subst (λ z. GrowsBy r old new (field_written keeps writes z other left last)) (to_z-of_z w16 id i) at_last in
    subst (λ t. GrowsBy r old new (field_written keeps writes id t left last)) same at_id

-- ---- a struct: its fields, and the stop byte

module _ (keeps : Keeping) (writes : WritingOf) (rows : List FieldRow) (left : ℕ) (last : ℤ) where
  pub struct_front : (old new : List ℕ) → GrowsFront old new (rows_written keeps writes rows left last) → GrowsFront old new (fields_written keeps writes (fields_of_rows rows) left last)
  struct_front old new h =
      subst (λ l. GrowsFront old new l) (sym (struct_written keeps writes rows left last))
      (stop old new (rows_written keeps writes rows left last) (writes (header left (last_id rows last)) None) h)

  pub struct_seq : {T E : Type 0} (r : Result T E) (old middle new : List ℕ) → middle ≡ old ++ rows_written keeps writes rows left last → GrowsBy r middle new (writes (header left (last_id rows last)) None)
      → GrowsBy r old new (fields_written keeps writes (fields_of_rows rows) left last)
  struct_seq r old middle new e h =
      subst (λ l. GrowsBy r old new l) (sym (struct_written keeps writes rows left last))
      (seq r old middle new (rows_written keeps writes rows left last) (writes (header left (last_id rows last)) None) e h)

-- the two clauses of a writer
pub on_ok : {T E : Type 0} (r : Result T E) (old new piece : List ℕ) → GrowsBy r old new piece → OnOk r (new ≡ old ++ piece)
on_ok (Ok u) old new piece h = h
on_ok (Err e) old new piece h = tt

pub on_err : {T E : Type 0} (r : Result T E) (old new piece : List ℕ) → GrowsBy r old new piece → OnErr r (GrowsFront old new piece)
on_err (Ok u) old new piece h = tt
on_err (Err e) old new piece h = h
