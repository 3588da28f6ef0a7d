-- A walk over the fields of a struct that is known to stand at the cursor.
use Rattle.std.proofs.Common.{◌≡◌, ◌≤◌, ◌<◌, ◌++◌, ◌∷◌, ℕ, ℤ, pos, Bool, List, [], length, Result, Ok, Err, Option, Some, None, refl, sym, ap, subst, ◌∙◌, arith}
use Rattle.std.proofs.lemmas.List.{append_assoc, append-nil, length-append}
use Rattle.span_io.proofs.Cuts.{some_length}
use Rattle.span_io.specs.declared.cause.Cause.{Cause}
use Rattle.span_io.specs.declared.halt.Halt.{Halt}
use Rattle.span_io.specs.private.Gathering.{GatheredAll}
use Rattle.span_io.proofs.GatheringLaws.{Seen, seen_halt}
use Rattle.span_io.specs.Offences.{FormatLaws, RulesLaws}
use Rattle.span_io.proofs.OffenceLaws.{walked_start, walked_step, none_at_end, least_end}
use Rattle.span_io.specs.Offences.{Rules, Offence, ItemOffends, Judges, OnHalt}
use Rattle.span_io.proofs.TableLaws.{cut_whole}
use Rattle.thrift_core.specs.declared.field.Field.{Field}
use Rattle.thrift_core.specs.Messages.{FieldItem, StructRest, BeginsField, structs, whole_struct, fields_of}
use Rattle.thrift_core.specs.private.StandingFields.{FieldStands, AreFields}
use Rattle.thrift_core.proofs.OneReading.{Front, value_front}
use Rattle.thrift_core.specs.Parts.{Part, WordOf, header, Spelling, Begins}
use Rattle.thrift_core.specs.Protocols.{ReadsExactly, PartLaws}
use Rattle.thrift_core.specs.Reading.{ReadingOf}
use Rattle.thrift_core.proofs.StructLaws.{struct_laws}
use Rattle.thrift_core.specs.Trees.{Tree, Fields, no_fields, field_then, kind_of, ValueThen, FieldsThen, StructText}

-- these fields, and then others
unfoldable pub fields_then : List FieldItem → Fields → Fields
fields_then [] more = more
fields_then (item ∷ items) more = field_then item.id item.tree (fields_then items more)

then_none : (items : List FieldItem) → fields_then items no_fields ≡ fields_of items
unfolding fields_then fields_of
then_none [] = refl
then_none (item ∷ items) = ap (λ (more : Fields). field_then item.id item.tree more) (then_none items)

then_one : (items : List FieldItem) (this : FieldItem) (more : Fields) → fields_then (items ++ this ∷ []) more ≡ fields_then items (field_then this.id this.tree more)
unfolding fields_then
then_one [] this more = refl
then_one (item ∷ items) this more = ap (λ (fields : Fields). field_then item.id item.tree fields) (then_one items this more)

-- what a reader answered and left is what reading gives
abbrev pub Answers : Result (Option Field) Cause → List ℕ → Result (Option Field × List ℕ) Cause → Type 0
Answers (Ok word) new read = read ≡ Ok (word, new)
Answers (Err cause) new read = read ≡ Err cause

module _ (Spells : Spelling) (left : ℕ) (K : Rules FieldItem) where
  -- where the walk is: these bytes are left, behind the field of this id
  pub record Standing (Gathered : List FieldItem → Type 0) (text tail : List ℕ) (fields : Fields) (bytes : List ℕ) (last : ℤ) : Type 0 where
    pub rest : StructRest
    pub more : Fields
    pub so_far : Seen (structs Spells left) K Gathered (whole_struct text) rest
    pub parts : bytes ≡ rest.bytes ++ tail
    pub is_last : rest.last ≡ last
    pub stands : FieldsThen Spells more left rest.last rest.bytes []
    pub are : fields_then so_far.seen more ≡ fields

  -- the struct ends here
  pub record Ended (Gathered : List FieldItem → Type 0) (text tail : List ℕ) (fields : Fields) (new : List ℕ) : Type 0 where
    pub rest : StructRest
    pub so_far : Seen (structs Spells left) K Gathered (whole_struct text) rest
    pub ends : Begins Spells (header left rest.last) None rest.bytes []
    pub are : fields_of so_far.seen ≡ fields
    pub after : new ≡ tail

  -- a field stands here, and then others
  pub record Next (Gathered : List FieldItem → Type 0) (text tail : List ℕ) (fields : Fields) (found : Field) (new : List ℕ) : Type 0 where
    pub rest : StructRest
    pub so_far : Seen (structs Spells left) K Gathered (whole_struct text) rest
    pub item : FieldItem
    pub after : StructRest
    pub begins : BeginsField Spells left item rest after
    pub stands : FieldStands Spells left found item new (after.bytes ++ tail)
    pub more : Fields
    pub others : FieldsThen Spells more left after.last after.bytes []
    pub are : fields_then (so_far.seen ++ item ∷ []) more ≡ fields

  -- the reader's answer
  abbrev pub HeadIs : (Gathered : List FieldItem → Type 0) (text tail : List ℕ) (fields : Fields) → Result (Option Field) Cause → List ℕ → Type 0
  HeadIs Gathered text tail fields (Ok None) new = Ended Gathered text tail fields new
  HeadIs Gathered text tail fields (Ok (Some found)) new = Next Gathered text tail fields found new
  HeadIs Gathered text tail fields (Err cause) new = ⊥

-- what the loop keeps
pub record Walking (Spells : Spelling) (left : ℕ) (K : Rules FieldItem) (Gathered : List FieldItem → Type 0) (start bytes : List ℕ) (last : ℤ) : Type 0 where
  pub shorter : length bytes ≤ length start
  pub standing : (text tail : List ℕ) (fields : Fields) → start ≡ text ++ tail → StructText Spells left fields text → Standing Spells left K Gathered text tail fields bytes last

module _ (Spells : Spelling) (reads : ReadingOf) (ThenVarint : Part → List ℕ → Type 0) (Refuses : Part → Cause → List ℕ → Type 0) (R : ReadsExactly Spells reads ThenVarint Refuses) (P : PartLaws Spells ThenVarint Refuses)
    (left : ℕ) (K : Rules FieldItem) where
  L : FormatLaws (structs Spells left)
  L = struct_laws Spells reads ThenVarint Refuses R P left

  pub standing_start : (Gathered : List FieldItem → Type 0) (text tail : List ℕ) (fields : Fields) (bytes : List ℕ) → Gathered [] → bytes ≡ text ++ tail → StructText Spells left fields text → Standing Spells left K Gathered text tail fields bytes (pos 0)
  unfolding fields_then
  standing_start Gathered text tail fields bytes none e h = record {
    rest = whole_struct text;
    more = fields;
    so_far = record { seen = []; walked = walked_start (structs Spells left) L K (whole_struct text); gathered = none };
    parts = e;
    is_last = refl;
    stands = h;
    are = refl;
  }

  -- ---- what the head of the next field is

  -- an answer, where this stands
  same_head : (word found : Option Field) (new rest : List ℕ) (read : Result (Option Field × List ℕ) Cause) → read ≡ Ok (found, new) → read ≡ Ok (word, rest) → (word ≡ found) × (rest ≡ new)
  same_head word found new rest read e f =
      let both : ◌≡◌ {A = Result (Option Field × List ℕ) Cause} (Ok (word, rest)) (Ok (found, new)) = sym f ∙ e in
      let pair : ◌≡◌ {A = Option Field × List ℕ} (word, rest) (found, new) = cc in
      (λ i. (pair i).0, λ i. (pair i).1)

  -- a part, where more follows
  with_tail : (part : Part) (word : WordOf part) (front rest tail bytes : List ℕ) → bytes ≡ front ++ tail → Begins Spells part word front rest → Begins Spells part word bytes (rest ++ tail)
  with_tail part word front rest tail bytes e h = record { text = h.text; spelled = h.spelled; parts = e ∙ (ap (λ l. l ++ tail) h.parts ∙ append_assoc h.text rest tail) }

  module _ (Gathered : List FieldItem → Type 0) (text tail : List ℕ) (fields : Fields) (bytes new : List ℕ) (rest : StructRest) (so_far : Seen (structs Spells left) K Gathered (whole_struct text) rest) (parts : bytes ≡ rest.bytes ++ tail) where
    head_at_end : Begins Spells (header left rest.last) None rest.bytes [] → fields_then so_far.seen no_fields ≡ fields → (read : Result (Option Field) Cause) → Answers read new (reads (header left rest.last) bytes)
        → HeadIs Spells left K Gathered text tail fields read new
    head_at_end h are read answers = of read answers
      where
        stands : reads (header left rest.last) bytes ≡ Ok (None, tail)
        stands = R.only (header left rest.last) None bytes tail (with_tail (header left rest.last) None rest.bytes [] tail bytes parts h)

        of : (read : Result (Option Field) Cause) → Answers read new (reads (header left rest.last) bytes) → HeadIs Spells left K Gathered text tail fields read new
        of (Ok None) answers = record { rest = rest; so_far = so_far; ends = h; are = sym (then_none so_far.seen) ∙ are; after = sym (same_head None None new tail _ answers stands).1 }
        of (Ok (Some found)) answers = let never : None ≡ Some found = (same_head None (Some found) new tail _ answers stands).0 in absurd (cc)
        of (Err cause) answers = let both : ◌≡◌ {A = Result (Option Field × List ℕ) Cause} (Err cause) (Ok (None, tail)) = sym answers ∙ stands in absurd (cc)

    head_of_field : (id : ℤ) (tree : Tree) (more : Fields) → FieldsThen Spells (field_then id tree more) left rest.last rest.bytes [] → fields_then so_far.seen (field_then id tree more) ≡ fields
        → (read : Result (Option Field) Cause) → Answers read new (reads (header left rest.last) bytes) → HeadIs Spells left K Gathered text tail fields read new
    unfolding FieldsThen
    head_of_field id tree more h are read answers = of read answers
      where
        head : Field
        head = record { id = id; kind = kind_of tree; held = h.0 }

        own : Front (λ a b. ValueThen Spells tree left h.0 a b) h.1 h.2
        own = value_front Spells tree left h.0 h.1 h.2 h.4

        item : FieldItem
        item = record { id = id; tree = tree; text = own.text }

        after : StructRest
        after = record { last = id; bytes = h.2 }

        value : ValueThen Spells tree left h.0 own.text []
        value = subst (λ l. ValueThen Spells tree left h.0 l []) (append-nil own.text) (own.again [])

        begins : BeginsField Spells left item rest after
        begins = record { held = h.0; head = subst (λ l. Begins Spells (header left rest.last) (Some head) rest.bytes l) own.parts h.3; value = value; last = refl }

        stands : reads (header left rest.last) bytes ≡ Ok (Some head, h.1 ++ tail)
        stands = R.only (header left rest.last) (Some head) bytes (h.1 ++ tail) (with_tail (header left rest.last) (Some head) rest.bytes h.1 tail bytes parts h.3)

        stands_as : (found : Field) → head ≡ found → h.1 ++ tail ≡ new → FieldStands Spells left found item new (h.2 ++ tail)
        stands_as found same e = record {
          id = ap (λ (f : Field). f.id) same;
          kind = ap (λ (f : Field). f.kind) same;
          value = subst (λ (x : Option Bool). ValueThen Spells tree left x own.text []) (ap (λ (f : Field). f.held) same) value;
          parts = sym e ∙ (ap (λ l. l ++ tail) own.parts ∙ append_assoc own.text h.2 tail);
        }

        of : (read : Result (Option Field) Cause) → Answers read new (reads (header left rest.last) bytes) → HeadIs Spells left K Gathered text tail fields read new
        of (Ok None) answers = let never : Some head ≡ None = (same_head (Some head) None new (h.1 ++ tail) _ answers stands).0 in absurd (cc)
        of (Ok (Some found)) answers =
            let both = same_head (Some head) (Some found) new (h.1 ++ tail) _ answers stands in
            let some : Some head ≡ Some found = both.0 in
            record {
              rest = rest;
              so_far = so_far;
              item = item;
              after = after;
              begins = begins;
              stands = stands_as found (cc) both.1;
              more = more;
              others = h.5;
              are = then_one so_far.seen item more ∙ are;
            }
        of (Err cause) answers = let both : ◌≡◌ {A = Result (Option Field × List ℕ) Cause} (Err cause) (Ok (Some head, h.1 ++ tail)) = sym answers ∙ stands in absurd (cc)

    head_by : (more : Fields) → FieldsThen Spells more left rest.last rest.bytes [] → fields_then so_far.seen more ≡ fields → (read : Result (Option Field) Cause) → Answers read new (reads (header left rest.last) bytes)
        → HeadIs Spells left K Gathered text tail fields read new
    unfolding FieldsThen
    head_by no_fields h are read answers = head_at_end h are read answers
    head_by (field_then id tree more) h are read answers = head_of_field id tree more h are read answers

  pub head_is : (Gathered : List FieldItem → Type 0) (text tail : List ℕ) (fields : Fields) (bytes new : List ℕ) (last : ℤ) → Standing Spells left K Gathered text tail fields bytes last
      → (read : Result (Option Field) Cause) → Answers read new (reads (header left last) bytes) → HeadIs Spells left K Gathered text tail fields read new
  head_is Gathered text tail fields bytes new last s read answers =
      head_by Gathered text tail fields bytes new s.rest s.so_far s.parts s.more s.stands s.are read (subst (λ (l : ℤ). Answers read new (reads (header left l) bytes)) (sym s.is_last) answers)

  -- ---- the ways on

  pub standing_next : (Old New : List FieldItem → Type 0) (text tail : List ℕ) (fields : Fields) (found : Field) (here bytes : List ℕ) (last : ℤ) → (n : Next Spells left K Old text tail fields found here) → last ≡ found.id
      → bytes ≡ n.after.bytes ++ tail → ((seen : List FieldItem) → Old seen → (p m : ℕ) → ItemOffends FieldItem K seen n.item p m → ⊥) → ((seen : List FieldItem) → Old seen → New (seen ++ n.item ∷ []))
      → Standing Spells left K New text tail fields bytes last
  standing_next Old New text tail fields found here bytes last n is e fine adds = record {
    rest = n.after;
    more = n.more;
    so_far = record {
      seen = n.so_far.seen ++ n.item ∷ [];
      walked = walked_step (structs Spells left) L K (whole_struct text) n.rest n.after n.so_far.seen n.item n.so_far.walked n.begins (fine n.so_far.seen n.so_far.gathered);
      gathered = adds n.so_far.seen n.so_far.gathered;
    };
    parts = e;
    is_last = n.begins.last ∙ (n.stands.id ∙ sym is);
    stands = n.others;
    are = n.are;
  }

  pub field_halts : RulesLaws (structs Spells left) K → (Old : List FieldItem → Type 0) (text tail : List ℕ) (fields : Fields) (found : Field) (here : List ℕ) → (n : Next Spells left K Old text tail fields found here)
      → (S T : Type 0) (halt : Halt Cause) → ((seen : List FieldItem) → Old seen → Judges {T = S} (Err halt) (ItemOffends FieldItem K seen n.item)) → OnHalt {T = T} (Err halt) (Offence (structs Spells left) K (whole_struct text))
  field_halts O Old text tail fields found here n S T halt judged = seen_halt (structs Spells left) L K O Old (whole_struct text) n.rest n.after n.item n.so_far n.begins S T halt judged

  pub all_gathered : (Gathered : List FieldItem → Type 0) (text tail : List ℕ) (fields : Fields) (new : List ℕ) → Ended Spells left K Gathered text tail fields new
      → (new ≡ tail) × GatheredAll (structs Spells left) K (AreFields Spells left fields) Gathered (whole_struct text)
  all_gathered Gathered text tail fields new e = (
    e.after,
    record {
      items = e.so_far.seen;
      are = record { same = e.are; whole = cut_whole (structs Spells left) (whole_struct text) e.rest e.so_far.seen e.so_far.walked.cut e.ends };
      gathered = e.so_far.gathered;
      fine = λ none. none_at_end (structs Spells left) L K (whole_struct text) e.so_far.seen e.rest e.so_far.walked e.ends none;
      ended = λ n offends first. least_end (structs Spells left) L K (whole_struct text) e.so_far.seen e.rest n e.so_far.walked e.ends offends first;
    },
  )

  -- the same from what the loop keeps
  pub walking_head : (Gathered : List FieldItem → Type 0) (start bytes new : List ℕ) (last its : ℤ) → Walking Spells left K Gathered start bytes last → its ≡ last → (text tail : List ℕ) (fields : Fields) → start ≡ text ++ tail
      → StructText Spells left fields text → (read : Result (Option Field) Cause) → Answers read new (reads (header left its) bytes) → HeadIs Spells left K Gathered text tail fields read new
  walking_head Gathered start bytes new last its w same text tail fields e h read answers =
      head_is Gathered text tail fields bytes new last (w.standing text tail fields e h) read (subst (λ (l : ℤ). Answers read new (reads (header left l) bytes)) same answers)

  -- a field takes a byte
  pub head_smaller : (last : ℤ) (found : Field) (bytes new : List ℕ) → reads (header left last) bytes ≡ Ok (Some found, new) → length new < length bytes
  head_smaller last found bytes new e =
      let h = R.found (header left last) (Some found) bytes new e in
      omega (arith, some_length h.text (P.some (header left last) (Some found) h.text tt h.spelled), ap length h.parts, length-append h.text new)
