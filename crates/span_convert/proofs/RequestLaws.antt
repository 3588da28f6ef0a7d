-- Two walks over one request, and the units that are in it.
use Rattle.std.proofs.Common.{◌≡◌, ◌≤◌, ◌-◌, ◌++◌, ◌∷◌, ◌⊎◌, inl, inr, ℕ, List, [], length, take, Bool, true, false, refl, ap, sym, ◌∙◌, subst}
use Rattle.std.specs.Prelude.{◌==◌, if◌then◌else◌}
use Rattle.std.proofs.lemmas.List.{append_assoc, append-nil}
use Rattle.span_io.specs.Frames.{ItemsThen, GoesOn}
use Rattle.span_io.specs.Pieces.{PieceLaws}
use Rattle.span_io.specs.declared.limits.Limits.{Limits}
use Rattle.proto_wire.specs.Records.{Held, varint, fixed64, bytes, fixed32, Record}
use Rattle.proto_wire.specs.Wire.{SpellsRecord, records, RefusedBy}
use Rattle.trace_model.specs.OtlpParts.{NotedGroup}
use Rattle.otlp_proto.specs.Rows.{bytes_in}
use Rattle.span_convert.specs.private.InputLaws.{RequestLaws}
use Rattle.span_convert.specs.Requests.{AreRequestUnits, HoldsRequestUnits, IsRequestUnit}
use Rattle.span_convert.specs.Units.{request_form}
use Rattle.span_convert.proofs.FrameLemmas.{none_framed, no_items, framed_longer}
use Rattle.span_convert.proofs.SourceLaws.{SourceLaws, HeldBy, GoOn}

-- ---- lists

some_last : {A : Type 0} (l : List A) (x : A) → l ++ x ∷ [] ≡ [] → ⊥
some_last [] x e = cc
some_last (y ∷ l) x e = cc

pub tail_is : {A : Type 0} (x y : A) (l m : List A) → x ∷ l ≡ y ∷ m → l ≡ m
tail_is x y l m e = cc

pub head_is : {A : Type 0} (x y : A) (l m : List A) → x ∷ l ≡ y ∷ m → x ≡ y
head_is x y l m e = cc

-- ---- what a record of number 1 holds

pub one_or_none : (number : ℕ) (held : Held) → (bytes_in 1 (record { number = number; held = held }) ≡ []) ⊎ ((inner : List ℕ) × (bytes_in 1 (record { number = number; held = held }) ≡ inner ∷ []))
one_or_none number (bytes inner) = of (number == 1)
  where
    of : (b : Bool) → ((if b then inner ∷ [] else []) ≡ []) ⊎ ((x : List ℕ) × ((if b then inner ∷ [] else []) ≡ x ∷ []))
    of true = inr (inner, refl)
    of false = inl refl
one_or_none number (varint n) = inl refl
one_or_none number (fixed64 n) = inl refl
one_or_none number (fixed32 n) = inl refl

-- ---- no bytes, and more bytes

pub no_requests : (limits : Limits) → HoldsRequestUnits limits [] [] []
unfolding AreRequestUnits
no_requests limits = record { frames = []; framed = none_framed records limits.unit limits.binary; are_units = refl }

pub requests_longer : PieceLaws records RefusedBy → (limits : Limits) (text more : List ℕ) (units : List (List ℕ)) (rest : List ℕ) → HoldsRequestUnits limits text units rest
    → HoldsRequestUnits limits (text ++ more) units (rest ++ take (limits.binary - length text) more)
requests_longer P limits text more units rest h =
    record { frames = h.frames; framed = framed_longer records RefusedBy P limits.unit limits.binary h.frames rest text more h.framed; are_units = h.are_units }

module _ (L : RequestLaws) where
  -- ---- units of frames

  pub units_once : (frames a b : List (List ℕ)) → AreRequestUnits frames a → AreRequestUnits frames b → a ≡ b
  unfolding AreRequestUnits
  units_once [] a b h g = h ∙ sym g
  units_once (f ∷ frames) a b h g =
      let same : h.0 ≡ g.0 = (L.reading.one_record f f [] h.0 g.0 h.1 g.1 (sym (append-nil f))).1 in
      let more : h.2 ≡ g.2 = units_once frames h.2 g.2 h.4 g.4 in
      h.3 ∙ ap (λ (r : Record). bytes_in 1 r ++ h.2) same ∙ ap (λ l. bytes_in 1 g.0 ++ l) more ∙ sym g.3

  -- the units of two lists of frames
  record Divided (frames more units : List (List ℕ)) : Type 0 where
    first : List (List ℕ)
    behind : List (List ℕ)
    of_first : AreRequestUnits frames first
    of_behind : AreRequestUnits more behind
    parts : units ≡ first ++ behind

  divided : (frames more units : List (List ℕ)) → AreRequestUnits (frames ++ more) units → Divided frames more units
  unfolding AreRequestUnits
  divided [] more units h = record { first = []; behind = units; of_first = refl; of_behind = h; parts = refl }
  divided (f ∷ frames) more units h =
      let w : Divided frames more h.2 = divided frames more h.2 h.4 in
      record {
        first = bytes_in 1 h.0 ++ w.first;
        behind = w.behind;
        of_first = (h.0, h.1, w.first, refl, w.of_first);
        of_behind = w.of_behind;
        parts = h.3 ∙ ap (λ l. bytes_in 1 h.0 ++ l) w.parts ∙ sym (append_assoc (bytes_in 1 h.0) w.first w.behind);
      }

  -- the frames before those that hold the last unit
  record Before (limit : ℕ) (frames before : List (List ℕ)) (text : List ℕ) : Type 0 where
    earlier : List (List ℕ)
    rest : List ℕ
    items_then : ItemsThen records limit earlier rest text
    units_of : AreRequestUnits earlier before

  longer_before : (limit : ℕ) (f : List ℕ) (r : Record) (frames before all : List (List ℕ)) (behind text : List ℕ) → SpellsRecord f r → length f ≤ limit → text ≡ f ++ behind → all ≡ bytes_in 1 r ++ before → Before limit frames before behind → Before limit (f ∷ frames) all text
  unfolding AreRequestUnits ItemsThen
  longer_before limit f r frames before all behind text spelled within e parts w = record {
    earlier = f ∷ w.earlier;
    rest = w.rest;
    items_then = ((r, spelled), within, behind, e, w.items_then);
    units_of = (r, spelled, before, parts, w.units_of);
  }

  one_unit : (limit : ℕ) (f : List ℕ) (r : Record) (frames : List (List ℕ)) (unit behind text : List ℕ) (next : List (List ℕ)) (x : List ℕ) → SpellsRecord f r → length f ≤ limit → text ≡ f ++ behind → bytes_in 1 r ≡ x ∷ []
      → ((b : List (List ℕ)) → b ++ unit ∷ [] ≡ next → Before limit frames b behind) → (before : List (List ℕ)) → before ++ unit ∷ [] ≡ x ∷ next → Before limit (f ∷ frames) before text
  unfolding AreRequestUnits ItemsThen
  one_unit limit f r frames unit behind text next x spelled within parts o earlier [] e = record { earlier = []; rest = text; items_then = refl; units_of = refl }
  one_unit limit f r frames unit behind text next x spelled within parts o earlier (y ∷ b) e =
      longer_before limit f r frames b (y ∷ b) behind text spelled within parts (ap (λ z. z ∷ b) (head_is y x (b ++ unit ∷ []) next e) ∙ sym (ap (λ (l : List (List ℕ)). l ++ b) o)) (earlier b (tail_is y x (b ++ unit ∷ []) next e))

  before_last : (limit : ℕ) (frames before : List (List ℕ)) (unit rest text : List ℕ) → ItemsThen records limit frames rest text → AreRequestUnits frames (before ++ unit ∷ []) → Before limit frames before text
  unfolding AreRequestUnits ItemsThen
  before_last limit [] before unit rest text h g = absurd (some_last before unit g)
  before_last limit (f ∷ frames) before unit rest text h g = elim (one_or_none g.0.number g.0.held) as (λ w. Before limit (f ∷ frames) before text) [
    | inl none ↦ longer_before limit f g.0 frames before before h.2 text g.1 h.1 h.3 (sym (ap (λ (l : List (List ℕ)). l ++ before) none)) (before_last limit frames before unit rest h.2 h.4 (subst (λ (l : List (List ℕ)). AreRequestUnits frames l) (sym (g.3 ∙ ap (λ (l : List (List ℕ)). l ++ g.2) none)) g.4))
    | inr one ↦ one_unit limit f g.0 frames unit h.2 text g.2 one.0 g.1 h.1 h.3 one.1 (λ b e. before_last limit frames b unit rest h.2 h.4 (subst (λ (l : List (List ℕ)). AreRequestUnits frames l) (sym e) g.4)) before (g.3 ∙ ap (λ (l : List (List ℕ)). l ++ g.2) one.1)
  ]

  -- ---- two walks over one input

  no_units : (frames behind : List (List ℕ)) → frames ≡ [] → AreRequestUnits frames behind → behind ≡ []
  unfolding AreRequestUnits
  no_units [] behind e h = h
  no_units (f ∷ frames) behind e h = cc

  go_on : (limits : Limits) (text : List ℕ) (units others : List (List ℕ)) (rest other : List ℕ) (h : HoldsRequestUnits limits text units rest) (g : HoldsRequestUnits limits text others other) → GoesOn records limits.unit h.frames g.frames rest other
      → GoOn request_form limits units others rest other
  go_on limits text units others rest other h g w =
      let d : Divided h.frames w.more others = divided h.frames w.more others (subst (λ (l : List (List ℕ)). AreRequestUnits l others) w.parts g.are_units) in
      let parts : others ≡ units ++ d.behind = d.parts ∙ ap (λ (l : List (List ℕ)). l ++ d.behind) (units_once h.frames d.first units d.of_first h.are_units) in
      record {
        behind = d.behind;
        parts = parts;
        ended = λ none.
            let e : (w.more ≡ []) × (rest ≡ other) = no_items records limits.unit w.more other rest none w.items_then in
            (parts ∙ ap (λ l. units ++ l) (no_units w.more d.behind e.0 d.of_behind) ∙ append-nil units, e.1);
      }

  units_walk : (limits : Limits) (text : List ℕ) (units others : List (List ℕ)) (rest other : List ℕ) → HoldsRequestUnits limits text units rest → HoldsRequestUnits limits text others other
      → GoOn request_form limits units others rest other ⊎ GoOn request_form limits others units other rest
  units_walk limits text units others rest other h g = elim (L.framing.walks limits.unit (take limits.binary text) rest other h.frames g.frames h.framed g.framed) [
    | inl w ↦ inl (go_on limits text units others rest other h g w)
    | inr w ↦ inr (go_on limits text others units other rest g h w)
  ]

  before_unit : (limits : Limits) (text : List ℕ) (before : List (List ℕ)) (unit rest : List ℕ) → HoldsRequestUnits limits text (before ++ unit ∷ []) rest → HeldBy request_form limits text before
  before_unit limits text before unit rest h =
      let w : Before limits.unit h.frames before (take limits.binary text) = before_last limits.unit h.frames before unit rest (take limits.binary text) h.framed h.are_units in
      record { rest = w.rest; held = record { frames = w.earlier; framed = w.items_then; are_units = w.units_of } }

  -- ---- units

  pub one_group : (unit : List ℕ) (g h : NotedGroup) → IsRequestUnit unit g → IsRequestUnit unit h → g ≡ h
  one_group unit g h a b =
      let both = L.group.once unit g.means h.means g.notes h.notes a b in
      λ i. record { means = both.0 i; notes = both.1 i }

  pub request_laws : SourceLaws request_form
  request_laws = record {
    one_group = one_group;
    fine = λ unit g is. L.group.fine unit g.means g.notes is;
    walks = units_walk;
    before = before_unit;
    nothing = no_requests;
    longer = requests_longer L.pieces;
    step = L.step;
    pieces = L.pieces;
  }
