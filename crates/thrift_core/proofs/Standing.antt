-- Which values may stand where so many levels are left, for the proofs of the protocols; and when two heads are one.
use Rattle.std.proofs.Common.{◌≡◌, ◌≤◌, ◌⊎◌, inl, inr, ℕ, zero, suc, ℤ, Bool, true, false, cond, leb, Option, Some, None, refl, ap, sym, ◌∙◌, subst, arith}
use Rattle.span_io.specs.declared.cause.Cause.{Cause}
use Rattle.span_io.specs.declared.cause.Cause.TheVariants as causes
use Rattle.thrift_core.specs.declared.field.Field.{Field}
use Rattle.thrift_core.specs.declared.field.ListHead.{ListHead}
use Rattle.thrift_core.specs.declared.field.MapHead.{MapHead}
use Rattle.thrift_core.specs.declared.type_code.TypeCode.{TypeCode}
use Rattle.thrift_core.specs.declared.type_code.TypeCode.TheVariants as kinds
use Rattle.thrift_core.specs.Parts.{HasLevel}
use Rattle.thrift_core.specs.Levels.{turn_of, RefusesPart, CountsFirst, counting, MayStand, why_none, why_no_pair}

-- ---- why no value may stand

-- it is one for which a part may be refused
abbrev pub IsProperWhy : Option Cause → Type 0
IsProperWhy why = (cause : Cause) → why ≡ Some cause → RefusesPart cause

pub may_stand : (left : ℕ) (element : Option TypeCode) → why_none left element ≡ None → MayStand left element
may_stand left None e = (let same : Some causes.BadWire ≡ None = e in absurd (let f : Some causes.BadWire ≡ None = same in cc))
may_stand (suc left) (Some kind) e = (kind, refl, λ c. omega arith)
may_stand zero (Some kinds.Struct) e = absurd cc
may_stand zero (Some kinds.Map) e = absurd cc
may_stand zero (Some kinds.Set) e = absurd cc
may_stand zero (Some kinds.List) e = absurd cc
may_stand zero (Some other) e = (other, refl, λ c. absurd c)

pub level_stands : (left : ℕ) (kind : TypeCode) → HasLevel left kind → why_none left (Some kind) ≡ None
level_stands (suc left) kind h = refl
level_stands zero kinds.Struct h = absurd (omega (arith, h tt))
level_stands zero kinds.Map h = absurd (omega (arith, h tt))
level_stands zero kinds.Set h = absurd (omega (arith, h tt))
level_stands zero kinds.List h = absurd (omega (arith, h tt))
level_stands zero other h = refl

pub stands_none : (left : ℕ) (element : Option TypeCode) → MayStand left element → why_none left element ≡ None
stands_none left element h = rw h.1 (level_stands left h.0 h.2)

pub some_is : (a b : Cause) → Some a ≡ Some b → b ≡ a
some_is a b e = cc

abbrev no_cause : Option Cause
no_cause = None

pub none_is : (b : Cause) → no_cause ≡ Some b → ⊥
none_is b e = cc

abbrev IsWhy : Cause → Type 0
IsWhy cause = (cause ≡ causes.BadWire) ⊎ (cause ≡ causes.TooDeep)

pub why_is : (left : ℕ) (element : Option TypeCode) (cause : Cause) → why_none left element ≡ Some cause → IsWhy cause
why_is left None cause e = inl (some_is causes.BadWire cause e)
why_is (suc left) (Some kind) cause e = absurd (none_is cause e)
why_is zero (Some kinds.Struct) cause e = inr (some_is causes.TooDeep cause e)
why_is zero (Some kinds.Map) cause e = inr (some_is causes.TooDeep cause e)
why_is zero (Some kinds.Set) cause e = inr (some_is causes.TooDeep cause e)
why_is zero (Some kinds.List) cause e = inr (some_is causes.TooDeep cause e)
why_is zero (Some other) cause e = absurd (none_is cause e)

refusing : (cause : Cause) → IsWhy cause → RefusesPart cause
refusing cause (inl e) = subst RefusesPart (sym e) (omega arith)
refusing cause (inr e) = subst RefusesPart (sym e) (omega arith)

pub proper_none : (left : ℕ) (element : Option TypeCode) → IsProperWhy (why_none left element)
proper_none left element cause e = refusing cause (why_is left element cause e)

-- one of them is the cause
pub either_why : (a b : Option Cause) (cause : Cause) → counting a b ≡ Some cause → (a ≡ Some cause) ⊎ (b ≡ Some cause)
either_why None b cause e = inr e
either_why (Some a) None cause e = inl e
either_why (Some a) (Some b) cause e = by_turn (leb (turn_of a) (turn_of b)) e
  where
    by_turn : (first : Bool) → cond first (Some a) (Some b) ≡ Some cause → (Some a ≡ Some cause) ⊎ (Some b ≡ Some cause)
    by_turn true e = inl e
    by_turn false e = inr e

pub either_none : (a b : Option Cause) → counting a b ≡ None → (a ≡ None) × (b ≡ None)
either_none None b e = (refl, e)
either_none (Some a) None e = absurd cc
either_none (Some a) (Some b) e = by_turn (leb (turn_of a) (turn_of b)) e
  where
    by_turn : (first : Bool) → cond first (Some a) (Some b) ≡ None → (Some a ≡ None) × (Some b ≡ None)
    by_turn true e = absurd cc
    by_turn false e = absurd cc

pub proper_pair : (left : ℕ) (key value : Option TypeCode) → IsProperWhy (why_no_pair left key value)
proper_pair left key value cause e = elim (either_why (why_none left key) (why_none left value) cause e) [
  | inl f ↦ proper_none left key cause f
  | inr f ↦ proper_none left value cause f
]

pub pair_stands : (left : ℕ) (key value : Option TypeCode) → why_no_pair left key value ≡ None → MayStand left key × MayStand left value
pair_stands left key value e = (let both = either_none (why_none left key) (why_none left value) e in (may_stand left key both.0, may_stand left value both.1))

pub no_why : (left : ℕ) (key value : Option TypeCode) → MayStand left key × MayStand left value → why_no_pair left key value ≡ None
no_why left key value h = rw (stands_none left key h.0, stands_none left value h.1) refl

-- a type that may stand has its level
pub level_of : (left : ℕ) (kind : TypeCode) → why_none left (Some kind) ≡ None → HasLevel left kind
level_of left kind f = (let s = may_stand left (Some kind) f in let same : kind ≡ s.0 = cc in subst (λ k. HasLevel left k) (sym same) s.2)

-- ---- one cause counts

one_turn : (a b : Cause) → RefusesPart a → turn_of a ≡ turn_of b → a ≡ b
one_turn causes.TooDeep causes.TooDeep known e = refl
one_turn causes.BadVarint causes.BadVarint known e = refl
one_turn causes.BadWire causes.BadWire known e = refl
one_turn causes.BadSize causes.BadSize known e = refl
one_turn causes.TooDeep other known e = absurd (omega (arith, e))
one_turn causes.BadVarint other known e = absurd (omega (arith, e))
one_turn causes.BadWire other known e = absurd (omega (arith, e))
one_turn causes.BadSize other known e = absurd (omega (arith, e))
one_turn other b known e = absurd (omega (arith, known))

pub one_counts : (Holds : Cause → Type 0) → ((cause : Cause) → Holds cause → RefusesPart cause) → (a b : Cause) → CountsFirst Holds a → CountsFirst Holds b → a ≡ b
one_counts Holds known a b h g = one_turn a b (known a h.0) (omega (arith, h.1 b g.0, g.1 a h.0))

-- the last in its turn
pub last_turn : (cause : Cause) → RefusesPart cause → turn_of causes.BadSize ≤ turn_of cause → causes.BadSize ≡ cause
last_turn cause known late = one_turn causes.BadSize cause (omega arith) (omega (arith, known, late))

-- a cause has its own turn
pub own_turn : (a b : Cause) → a ≡ b → turn_of a ≤ turn_of b
own_turn a b e = omega (arith, ap turn_of e)

pub before_wire : (left : ℕ) (element : Option TypeCode) (cause other : Cause) → why_none left element ≡ Some cause → other ≡ causes.BadWire → turn_of cause ≤ turn_of other
before_wire left element cause other e f = elim (why_is left element cause e) [
  | inl g ↦ omega (arith, ap turn_of g, ap turn_of f)
  | inr g ↦ omega (arith, ap turn_of g, ap turn_of f)
]

pub before_last : (cause other : Cause) → RefusesPart cause → other ≡ causes.BadSize → turn_of cause ≤ turn_of other
before_last cause other known e = omega (arith, known, ap turn_of e)

-- what is refused isn't free
pub none_some : (why : Option Cause) (cause : Cause) → why ≡ Some cause → why ≡ None → ⊥
none_some why cause e f = (let same : Some cause ≡ None = sym e ∙ f in cc)

-- ---- heads that are one

abbrev pub list_with : Option TypeCode → ℕ → ListHead
list_with element size = record { element = element; size = size }

pub same_list : (a b : ListHead) → a.element ≡ b.element → a.size ≡ b.size → a ≡ b
same_list a b e f = ap (λ x. list_with x a.size) e ∙ ap (λ n. list_with b.element n) f

abbrev pub map_with : Option TypeCode → Option TypeCode → ℕ → MapHead
map_with key value size = record { key = key; value = value; size = size }

pub same_map : (a b : MapHead) → a.key ≡ b.key → a.value ≡ b.value → a.size ≡ b.size → a ≡ b
same_map a b e f g = ap (λ x. map_with x a.value a.size) e ∙ ap (λ x. map_with b.key x a.size) f ∙ ap (λ n. map_with b.key b.value n) g

abbrev pub field_with : ℤ → TypeCode → Option Bool → Field
field_with id kind held = record { id = id; kind = kind; held = held }

pub same_field : (a b : Field) → a.id ≡ b.id → Some a.kind ≡ Some b.kind → a.held ≡ b.held → Some a ≡ Some b
same_field a b e f g =
    let kinds : a.kind ≡ b.kind = cc in
    ap (λ x. Some (field_with x a.kind a.held)) e ∙ ap (λ x. Some (field_with b.id x a.held)) kinds ∙ ap (λ x. Some (field_with b.id b.kind x)) g
