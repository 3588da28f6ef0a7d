-- The walk over the arguments: what passes, what halts, and that there is one reading.
use Rattle.std.proofs.Common.{◌≡◌, ◌⊎◌, ◌↔◌, ◌++◌, ◌∷◌, ◌-◌, ◌==◌, if◌then◌else◌, inl, inr, ℕ, ℤ, pos, negsuc, Bool, true, false, List, [], length, take, Option, Some, None, Result, Ok, Err, refl, ap, sym, ◌∙◌, subst, arith}
use Rattle.std.proofs.lemmas.List.{append_cancel_right, append_assoc, append-nil, length-append}
use Rattle.std.proofs.Math.Seq.{take-append_seam}
use Rattle.std.proofs.lemmas.Bool.{eqb-true}
use Rattle.std.specs.Borrow.{Bor}
use Rattle.span_io.specs.declared.cause.Cause.{Cause}
use Rattle.span_io.specs.declared.cause.Cause.TheVariants as causes
use Rattle.span_io.specs.Frames.{Framing}
use Rattle.span_io.proofs.TableLaws.{flat_more}
use Rattle.thrift_core.specs.declared.field.Field.{Field}
use Rattle.thrift_core.specs.declared.type_code.TypeCode.{TypeCode}
use Rattle.thrift_core.specs.declared.type_code.TypeCode.TheVariants as kinds
use Rattle.thrift_core.proofs.OneReading.{value_front, own_text, one_part, one_value}
use Rattle.thrift_core.specs.Parts.{Part, header, Spelling, Begins}
use Rattle.thrift_core.specs.Protocols.{ReadsExactly, PartLaws}
use Rattle.thrift_core.specs.Reading.{ReadingOf}
use Rattle.thrift_core.specs.Trees.{ValueThen, all_levels}
use Rattle.thrift_core.specs.Values.{AnswersRefusals, BeginsValue, RefusesValue}
use Rattle.thrift_core.specs.Walks.{Open, in_struct, in_value, opened_by_header, Passes}
use Rattle.thrift_core.proofs.Answering.{passed_answers}
use Rattle.thrift_core.proofs.Determined.{one_turn, passes_on}
use Rattle.thrift_core.proofs.Meanings.{value_on}
use Rattle.thrift_core.proofs.Refusing.{part_refused, next_refused}
use Rattle.thrift_core.proofs.Stopping.{value_sound}
use Rattle.span_agent.specs.Arguments.{Argument, ArgumentsThen, arguments_open, argument_texts, RefusedArguments, WhyNone, batch_of, batches_of}
use Rattle.span_agent.specs.private.Arguments.{Adds, GivesBatches, Held, SoFar}
use Rattle.span_agent.specs.declared.arguments.Batches.{Batches}
use Rattle.span_agent.specs.declared.arguments.Batches.TheVariants as kept

-- ---- the one answer

pub answers_why : {A : Type 0} (F : Framing) (EndsIn : Cause → List ℕ → Type 0) (result : Result A Cause) (bytes : List ℕ)
    → AnswersRefusals F EndsIn result bytes → (cause : Cause) → (result ≡ Err cause) ↔ WhyNone F EndsIn cause bytes
answers_why F EndsIn result bytes a causes.Truncated = a.short
answers_why F EndsIn result bytes a other = a.bad other (λ e. cc)

pub no_why : {A : Type 0} (F : Framing) (EndsIn : Cause → List ℕ → Type 0) (value : A) (bytes : List ℕ)
    → AnswersRefusals F EndsIn (Ok value) bytes → (cause : Cause) → WhyNone F EndsIn cause bytes → ⊥
no_why {A} F EndsIn value bytes a cause why =
    let same : ◌≡◌ {A = Result A Cause} (Ok value) (Err cause) = (answers_why F EndsIn (Ok value) bytes a cause).1 why in cc

-- the same of another value
pub other_value : {A B : Type 0} (F : Framing) (EndsIn : Cause → List ℕ → Type 0) (value : A) (other : B) (bytes : List ℕ)
    → AnswersRefusals F EndsIn (Ok value) bytes → AnswersRefusals F EndsIn (Ok other) bytes
other_value {A} {B} F EndsIn value other bytes a = record {
  short = (
    λ e. absurd (let never : ◌≡◌ {A = Result B Cause} (Ok other) (Err causes.Truncated) = e in cc),
    λ h. absurd (let never : ◌≡◌ {A = Result A Cause} (Ok value) (Err causes.Truncated) = a.short.1 h in cc),
  );
  bad = λ cause more. (
    λ e. absurd (let never : ◌≡◌ {A = Result B Cause} (Ok other) (Err cause) = e in cc),
    λ h. absurd (let never : ◌≡◌ {A = Result A Cause} (Ok value) (Err cause) = (a.bad cause more).1 h in cc),
  );
  within = λ e. (let never : ◌≡◌ {A = Result B Cause} (Ok other) (Err causes.UnitTooLong) = e in cc);
}

err_on : {A B : Type 0} (a b : Cause) → ◌≡◌ {A = Result A Cause} (Err a) (Err b) → ◌≡◌ {A = Result B Cause} (Err a) (Err b)
err_on a b e = (let same : a ≡ b = cc in ap (λ x. Err x) same)

pub other_refusal : {A B : Type 0} (F : Framing) (EndsIn : Cause → List ℕ → Type 0) (why : Cause) (bytes : List ℕ)
    → AnswersRefusals {A = A} F EndsIn (Err why) bytes → AnswersRefusals {A = B} F EndsIn (Err why) bytes
other_refusal {A} {B} F EndsIn why bytes a = record {
  short = (λ e. a.short.0 (err_on why causes.Truncated e), λ h. err_on why causes.Truncated (a.short.1 h));
  bad = λ cause more. (λ e. (a.bad cause more).0 (err_on why cause e), λ h. err_on why cause ((a.bad cause more).1 h));
  within = λ e. a.within (err_on why causes.UnitTooLong e);
}

-- ---- which field is a batch

pub batch_is : (id : ℤ) (kind : TypeCode) (text : List ℕ) → id ≡ pos 1 → kind ≡ kinds.Struct → batch_of (record { id = id; kind = kind; text = text }) ≡ text ∷ []
batch_is id kind text e f =
    ap (λ (i : ℤ). batch_of (record { id = i; kind = kind; text = text })) e
    ∙ ap (λ (k : TypeCode). batch_of (record { id = pos 1; kind = k; text = text })) f

no_first : (text : List ℕ) (n : ℕ) → (n ≡ 1 → ⊥) → (b : Bool) → (n == 1) ≡ b → (if b then text ∷ [] else []) ≡ []
no_first text n other true e = absurd (other (eqb-true n 1 e))
no_first text n other false e = refl

pub no_batch_is : (id : ℤ) (kind : TypeCode) (text : List ℕ) → (id ≡ pos 1 → kind ≡ kinds.Struct → ⊥) → batch_of (record { id = id; kind = kind; text = text }) ≡ []
no_batch_is (pos n) kinds.Struct text other = no_first text n (λ e. other (ap pos e) refl) (n == 1) refl
no_batch_is (negsuc n) kinds.Struct text other = refl
no_batch_is id kinds.Truth text other = refl
no_batch_is id kinds.I8 text other = refl
no_batch_is id kinds.I16 text other = refl
no_batch_is id kinds.I32 text other = refl
no_batch_is id kinds.I64 text other = refl
no_batch_is id kinds.Eight text other = refl
no_batch_is id kinds.Binary text other = refl
no_batch_is id kinds.Map text other = refl
no_batch_is id kinds.Set text other = refl
no_batch_is id kinds.List text other = refl

-- behind one batch, or more, there are more
pub more_held : (old : Batches) (held : List (List ℕ)) (text : List ℕ) → ((batch : Bor (List ℕ)) × (old ≡ kept.One batch)) ⊎ (old ≡ kept.More) → Held old held
    → Held kept.More (held ++ text ∷ [])
more_held old held text (inl one) h =
    let is : held ≡ one.0.now ∷ [] = subst (λ (b : Batches). Held b held) one.1 h in
    (one.0.now, text, [], ap (λ (l : List (List ℕ)). l ++ text ∷ []) is)
more_held old held text (inr more) h =
    let is : Held kept.More held = subst (λ (b : Batches). Held b held) more h in
    (is.0, is.1, is.2 ++ text ∷ [], ap (λ (l : List (List ℕ)). l ++ text ∷ []) is.3)

pub adds_one : (old new : Batches) (f : Field) (text : List ℕ) → f.id ≡ pos 1 → f.kind ≡ kinds.Struct
    → ((held : List (List ℕ)) → Held old held → Held new (held ++ text ∷ [])) → Adds old new f text
adds_one old new f text id kind more = λ held h.
    subst (λ (l : List (List ℕ)). Held new (held ++ l)) (sym (batch_is f.id f.kind text id kind)) (more held h)

pub adds_none : (old : Batches) (f : Field) (text : List ℕ) → (f.id ≡ pos 1 → f.kind ≡ kinds.Struct → ⊥) → Adds old old f text
adds_none old f text other = λ held h.
    subst (λ (l : List (List ℕ)). Held old l) (sym (ap (λ (l : List (List ℕ)). held ++ l) (no_batch_is f.id f.kind text other) ∙ append-nil held)) h

module _ (Spells : Spelling) (reads : ReadingOf) (ThenVarint : Part → List ℕ → Type 0) (Refuses : Part → Cause → List ℕ → Type 0) (R : ReadsExactly Spells reads ThenVarint Refuses) (L : PartLaws Spells ThenVarint Refuses) where
  -- ---- a walk passes what stands

  value_stands : (kind : TypeCode) (held : Option Bool) (text behind : List ℕ) → BeginsValue Spells all_levels kind held text []
      → BeginsValue Spells all_levels kind held (text ++ behind) behind
  value_stands kind held text behind h = (h.0, h.1, own_text Spells h.0 all_levels held text behind h.2)

  value_passes : (kind : TypeCode) (held : Option Bool) (whole rest : List ℕ) (below : List Open) → BeginsValue Spells all_levels kind held whole rest
      → Passes Spells (in_value all_levels kind held ∷ below) whole below rest
  value_passes kind held whole rest below h =
      subst (λ k. Passes Spells (in_value all_levels k held ∷ below) whole below rest) h.1 (value_on Spells h.0 all_levels held whole rest below h.2)

  -- where a value was passed over, the bytes between are its text
  pub value_lent : (kind : TypeCode) (held : Option Bool) (whole rest text : List ℕ) → BeginsValue Spells all_levels kind held whole rest
      → text ≡ take (length whole - length rest) whole → BeginsValue Spells all_levels kind held text [] × (whole ≡ text ++ rest)
  value_lent kind held whole rest text h e =
      let front = value_front Spells h.0 all_levels held whole rest h.2 in
      let size : length whole - length rest ≡ length front.text = omega (arith, ap length front.parts, length-append front.text rest) in
      let own : text ≡ front.text =
      e ∙ ap (λ n. take n whole) size ∙ ap (λ l. take (length front.text) l) front.parts ∙ take-append_seam front.text rest in (
        (h.0, h.1, subst (λ l. ValueThen Spells h.0 all_levels held l []) (append-nil front.text ∙ sym own) (front.again [])),
        front.parts ∙ ap (λ l. l ++ rest) (sym own),
      )

  pub field_passes : (last : ℤ) (f : Field) (whole between rest : List ℕ) → Begins Spells (header all_levels last) (Some f) whole between
      → BeginsValue Spells all_levels f.kind f.held between rest → Passes Spells (in_struct all_levels last ∷ []) whole (in_struct all_levels f.id ∷ []) rest
  field_passes last f whole between rest h v =
      passes_on Spells (in_struct all_levels last ∷ []) whole (in_value all_levels f.kind f.held ∷ in_struct all_levels f.id ∷ []) between (in_struct all_levels f.id ∷ []) rest
      (one_turn Spells (in_struct all_levels last) [] whole (opened_by_header all_levels (Some f)) between (Some f, h, refl))
      (value_passes f.kind f.held between rest (in_struct all_levels f.id ∷ []) v)

  pub arguments_pass : (arguments : List Argument) (last : ℤ) (whole rest : List ℕ) → ArgumentsThen Spells last arguments whole rest
      → Passes Spells (in_struct all_levels last ∷ []) whole [] rest
  unfolding ArgumentsThen
  arguments_pass [] last whole rest h = one_turn Spells (in_struct all_levels last) [] whole [] rest (None, h, refl)
  arguments_pass (this ∷ more) last whole rest h =
      passes_on Spells (in_struct all_levels last ∷ []) whole (in_struct all_levels this.id ∷ []) h.1 [] rest
      (field_passes last (record { id = this.id; kind = this.kind; held = h.0 }) whole (this.text ++ h.1) h.1 h.2 (value_stands this.kind h.0 this.text h.1 h.3))
      (arguments_pass more this.id h.1 rest h.4)

  -- ---- there is one reading

  same_argument : (a b : Argument) → a.id ≡ b.id → a.kind ≡ b.kind → a.text ≡ b.text → a ≡ b
  same_argument a b e f g = λ i. record { id = e i; kind = f i; text = g i }

  one_text : (kind : TypeCode) (held : Option Bool) (text behind other after : List ℕ) → text ++ behind ≡ other ++ after
      → BeginsValue Spells all_levels kind held text [] → BeginsValue Spells all_levels kind held other [] → (text ≡ other) × (behind ≡ after)
  one_text kind held text behind other after e h g =
      let a : ValueThen Spells h.0 all_levels held (text ++ behind) behind = own_text Spells h.0 all_levels held text behind h.2 in
      let b : ValueThen Spells g.0 all_levels held (text ++ behind) after =
      subst (λ l. ValueThen Spells g.0 all_levels held l after) (sym e) (own_text Spells g.0 all_levels held other after g.2) in
      let rest : behind ≡ after = (one_value Spells reads ThenVarint Refuses R h.0 g.0 all_levels held (text ++ behind) behind after (h.1 ∙ sym g.1) a b).1 in
      (append_cancel_right text other behind (e ∙ ap (λ l. other ++ l) (sym rest)), rest)

  pub one_arguments : (these those : List Argument) (last : ℤ) (whole rest other : List ℕ) → ArgumentsThen Spells last these whole rest
      → ArgumentsThen Spells last those whole other → (these ≡ those) × (rest ≡ other)
  unfolding ArgumentsThen
  one_arguments [] [] last whole rest other h g = (refl, (one_part Spells reads ThenVarint Refuses R (header all_levels last) None None whole rest other h g).1)
  one_arguments [] (that ∷ those) last whole rest other h g =
      let never : ◌≡◌ {A = Option Field} None (Some (record { id = that.id; kind = that.kind; held = g.0 })) =
      (one_part Spells reads ThenVarint Refuses R (header all_levels last) None _ whole rest (that.text ++ g.1) h g.2).0 in absurd (cc)
  one_arguments (this ∷ these) [] last whole rest other h g =
      let never : ◌≡◌ {A = Option Field} None (Some (record { id = this.id; kind = this.kind; held = h.0 })) =
      (one_part Spells reads ThenVarint Refuses R (header all_levels last) None _ whole other (this.text ++ h.1) g h.2).0 in absurd (cc)
  one_arguments (this ∷ these) (that ∷ those) last whole rest other h g =
      let a : Field = record { id = this.id; kind = this.kind; held = h.0 } in
      let b : Field = record { id = that.id; kind = that.kind; held = g.0 } in
      let head = one_part Spells reads ThenVarint Refuses R (header all_levels last) (Some a) (Some b) whole (this.text ++ h.1) (that.text ++ g.1) h.2 g.2 in
      let same : a ≡ b = (let some : ◌≡◌ {A = Option Field} (Some a) (Some b) = head.0 in cc) in
      let id : this.id ≡ that.id = ap (λ (f : Field). f.id) same in
      let kind : this.kind ≡ that.kind = ap (λ (f : Field). f.kind) same in
      let held : h.0 ≡ g.0 = ap (λ (f : Field). f.held) same in
      let value : BeginsValue Spells all_levels this.kind h.0 that.text [] =
      subst (λ k. BeginsValue Spells all_levels k h.0 that.text []) (sym kind) (subst (λ x. BeginsValue Spells all_levels that.kind x that.text []) (sym held) g.3) in
      let text = one_text this.kind h.0 this.text h.1 that.text g.1 head.1 h.3 value in
      let more = one_arguments these those this.id h.1 rest other h.4
      (subst (λ l. ArgumentsThen Spells this.id those l other) (sym text.1) (subst (λ n. ArgumentsThen Spells n those g.1 other) (sym id) g.4)) in
      (ap (λ x. x ∷ these) (same_argument this that id kind text.0) ∙ ap (λ l. that ∷ l) more.0, more.1)

  -- ---- what callers are told

  pub passed_arguments : {A : Type 0} (value : A) (arguments : List Argument) (whole rest : List ℕ) → ArgumentsThen Spells (pos 0) arguments whole rest
      → AnswersRefusals {A = A} (argument_texts Spells ThenVarint) (RefusedArguments Spells Refuses) (Ok value) whole
  passed_arguments value arguments whole rest h =
      passed_answers Spells reads ThenVarint Refuses R L arguments_open (inl tt) value whole rest (arguments_pass arguments (pos 0) whole rest h)

  -- the head of a field is refused
  pub head_refused : {A : Type 0} (last : ℤ) (cause : Cause) (whole between : List ℕ) → Passes Spells (arguments_open ∷ []) whole (in_struct all_levels last ∷ []) between
      → reads (header all_levels last) between ≡ Err cause
      → AnswersRefusals {A = A} (argument_texts Spells ThenVarint) (RefusedArguments Spells Refuses) (Err cause) whole
  head_refused last cause whole between h e =
      part_refused Spells reads ThenVarint Refuses R L arguments_open (inl tt) (in_struct all_levels last) [] whole between h
      (header all_levels last) (opened_by_header all_levels) cause refl e

  -- where the value of a field is refused, so are the arguments
  pub value_refused : {A B : Type 0} (last : ℤ) (f : Field) (whole between text : List ℕ) (result : Result A Cause) (cause : Cause)
      → Passes Spells (arguments_open ∷ []) whole (in_struct all_levels last ∷ []) between → Begins Spells (header all_levels last) (Some f) between text
      → result ≡ Err cause → RefusesValue Spells ThenVarint Refuses all_levels f.kind f.held result text
      → AnswersRefusals {A = B} (argument_texts Spells ThenVarint) (RefusedArguments Spells Refuses) (Err cause) whole
  value_refused last f whole between text result cause h head e a =
      let opened : Passes Spells (arguments_open ∷ []) whole (in_value all_levels f.kind f.held ∷ in_struct all_levels f.id ∷ []) text =
      passes_on Spells (arguments_open ∷ []) whole (in_struct all_levels last ∷ []) between (in_value all_levels f.kind f.held ∷ in_struct all_levels f.id ∷ []) text h
      (one_turn Spells (in_struct all_levels last) [] between (opened_by_header all_levels (Some f)) text (Some f, head, refl)) in
      next_refused Spells reads ThenVarint Refuses R L arguments_open (inl tt) (in_value all_levels f.kind f.held) (in_struct all_levels f.id ∷ []) whole text opened
      result cause (value_sound all_levels f.kind f.held) e a

  -- ---- one field further

  pub goes_further : (seen : List Argument) (last : ℤ) (f : Field) (text whole between rest : List ℕ)
      → ((more : List Argument) (behind : List ℕ) → ArgumentsThen Spells last more between behind → ArgumentsThen Spells (pos 0) (seen ++ more) whole behind)
      → Begins Spells (header all_levels last) (Some f) between (text ++ rest) → BeginsValue Spells all_levels f.kind f.held text []
      → (more : List Argument) (behind : List ℕ) → ArgumentsThen Spells f.id more rest behind
      → ArgumentsThen Spells (pos 0) ((seen ++ record { id = f.id; kind = f.kind; text = text } ∷ []) ++ more) whole behind
  unfolding ArgumentsThen
  goes_further seen last f text whole between rest on head value more behind h =
      let this : Argument = record { id = f.id; kind = f.kind; text = text } in
      subst (λ (l : List Argument). ArgumentsThen Spells (pos 0) l whole behind) (sym (append_assoc seen (this ∷ []) more))
      (on (this ∷ more) behind (f.held, rest, head, value, h))

  -- ---- the walk

  pub ended : (batches : Batches) (last : ℤ) (whole rest behind : List ℕ) → SoFar Spells batches last whole rest
      → Begins Spells (header all_levels last) None rest behind → GivesBatches Spells batches whole behind
  unfolding ArgumentsThen
  ended batches last whole rest behind so head = record {
    arguments = so.seen ++ [];
    stand = so.goes_on [] behind head;
    held = subst (λ (l : List Argument). Held batches (batches_of l)) (sym (append-nil so.seen)) so.held;
  }

  pub further : (batches more : Batches) (last id : ℤ) (f : Field) (text whole between behind rest : List ℕ) → id ≡ f.id
      → SoFar Spells batches last whole between → Begins Spells (header all_levels last) (Some f) between behind
      → BeginsValue Spells all_levels f.kind f.held text [] → behind ≡ text ++ rest → Adds batches more f text → SoFar Spells more id whole rest
  further batches more last id f text whole between behind rest same so head value parts adds =
      let this : Argument = record { id = f.id; kind = f.kind; text = text } in
      let there : Begins Spells (header all_levels last) (Some f) between (text ++ rest) = subst (λ l. Begins Spells (header all_levels last) (Some f) between l) parts head in
      record {
        seen = so.seen ++ this ∷ [];
        goes_on = subst (λ n. (others : List Argument) (after : List ℕ) → ArgumentsThen Spells n others rest after
            → ArgumentsThen Spells (pos 0) ((so.seen ++ this ∷ []) ++ others) whole after) (sym same)
            (goes_further so.seen last f text whole between rest so.goes_on there value);
        passes = subst (λ n. Passes Spells (arguments_open ∷ []) whole (in_struct all_levels n ∷ []) rest) (sym same)
            (passes_on Spells (arguments_open ∷ []) whole (in_struct all_levels last ∷ []) between (in_struct all_levels f.id ∷ []) rest so.passes
            (field_passes last f between (text ++ rest) rest there (value_stands f.kind f.held text rest value)));
        held = subst (λ (l : List (List ℕ)). Held more l) (sym (flat_more batch_of so.seen this)) (adds (batches_of so.seen) so.held);
      }
