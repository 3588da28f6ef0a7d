-- Worked rows: the outlook on the first bytes of requests.
use Rattle.std.proofs.Common.{◌≡◌, ◌≢◌, ◌-◌, ◌<◌, ◌≤◌, ◌++◌, ◌∷◌, ◌⊎◌, inl, inr, ℕ, List, [], length, refl, ap, sym, ◌∙◌, subst, arith}
use Rattle.std.proofs.Math.ListN.{replicate}
use Rattle.std.proofs.lemmas.List.{append_assoc, append-nil, length-append, length-replicate, take_all}
use Rattle.std.proofs.lemmas.List.Elements.{All-nil, All-cons, All-tail}
use Rattle.span_io.proofs.Cuts.{append_empty_right, some_length}
use Rattle.span_io.specs.Frames.{AreBytes, IsDecided, NeedsMore, ItemsThen}
use Rattle.span_io.specs.Offences.{Rules, Offence, unread, here, inside, at_end, Cut}
use Rattle.span_io.specs.Varint.{SpellsVarint, SpellsWithin}
use Rattle.span_io.specs.declared.cause.Cause.TheVariants as causes
use Rattle.span_io.specs.declared.form.Form.TheVariants as forms
use Rattle.span_io.specs.declared.limits.Limits.{Limits}
use Rattle.proto_wire.specs.StatedLaws.{OneWireReading}
use Rattle.proto_wire.specs.Messages.{messages, NoRecord}
use Rattle.proto_wire.specs.Records.{Record, bytes}
use Rattle.proto_wire.specs.Wire.{SpellsRecord, BeginsRecord, HoldsLengthPast, IsOpenRecord, records}
use Rattle.otlp_proto.specs.Group.{group_rules}
use Rattle.span_convert.specs.Outlooks.{IsOutlookOn}
use Rattle.span_convert.specs.Requests.{AreRequestUnits}
use Rattle.span_convert.specs.Targets.{Target, open_target}
use Rattle.span_convert.specs.Verdicts.{good, refused}
use Rattle.span_convert.proofs.WalkLemmas.{holds_no_unit}

and_byte : (b : ℕ) (others : List ℕ) → b < 256 → AreBytes others → AreBytes (b ∷ others)
and_byte b others low all = All-cons (λ x. x < 256) b others low all

all_behind : (front more : List ℕ) → AreBytes (front ++ more) → AreBytes more
all_behind [] more all = all
all_behind (b ∷ front) more all = all_behind front more (All-tail (λ x. x < 256) b (front ++ more) all)

-- ---- a proper front of a record

module _ (W : OneWireReading) (front more : List ℕ) (r : Record) (spelled : SpellsRecord (front ++ more) r) (some : more ≢ []) (are_bytes : AreBytes (front ++ more)) where
  -- a front of the front is one, too
  parts_of : (first rest : List ℕ) → front ≡ first ++ rest → front ++ more ≡ first ++ (rest ++ more)
  parts_of first rest e = ap (λ l. l ++ more) e ∙ append_assoc first rest more

  some_more : (rest : List ℕ) → rest ++ more ≢ []
  some_more rest e = some (append_empty_right rest more e)

  front_open : (first rest : List ℕ) → front ≡ first ++ rest → IsOpenRecord first
  front_open first rest e = inl (record {
    more = rest ++ more;
    are_bytes = all_behind first (rest ++ more) (subst AreBytes (parts_of first rest e) are_bytes);
    some = some_more rest;
    whole = (r, subst (λ (l : List ℕ). SpellsRecord l r) (parts_of first rest e) spelled);
  })

  front_not_whole : (first rest : List ℕ) → front ≡ first ++ rest → records.Whole first → ⊥
  front_not_whole first rest e (s, text) = some_more rest (W.one_record first (front ++ more) (rest ++ more) s r text spelled (parts_of first rest e)).0

  -- no record begins with it
  front_begins_none : (this : Record) (after : List ℕ) → BeginsRecord this front after → ⊥
  front_begins_none this after begins = front_not_whole begins.text after begins.parts (this, begins.spelled)

  module _ (limit : ℕ) (within : length (front ++ more) ≤ limit) where
    -- a length in it doesn't say that the record is too long
    not_past : (first rest : List ℕ) → front ≡ first ++ rest → HoldsLengthPast limit first → ⊥
    not_past first rest e h = omega (arith, missing, length-replicate {A = ℕ} left 0, ap length none)
      where
        tail : List ℕ
        tail = h.others ++ (rest ++ more)

        whole : front ++ more ≡ h.key ++ (h.size ++ tail)
        whole = parts_of first rest e
            ∙ ap (λ l. l ++ (rest ++ more)) h.parts
            ∙ append_assoc h.key (h.size ++ h.others) (rest ++ more)
            ∙ ap (λ l. h.key ++ l) (append_assoc h.size h.others (rest ++ more))

        left : ℕ
        left = h.held - length tail

        missing : 1 ≤ left
        missing = omega (arith, h.past, within, ap length whole, length-append h.key (h.size ++ tail), length-append h.size tail)

        zeros : List ℕ
        zeros = replicate left 0

        held_size : length (tail ++ zeros) ≡ h.held
        held_size = omega (arith, length-append tail zeros, length-replicate {A = ℕ} left 0, missing)

        longer : (front ++ more) ++ zeros ≡ h.key ++ (h.size ++ (tail ++ zeros))
        longer = ap (λ l. l ++ zeros) whole ∙ append_assoc h.key (h.size ++ tail) zeros ∙ ap (λ l. h.key ++ l) (append_assoc h.size tail zeros)

        full : SpellsRecord ((front ++ more) ++ zeros) (record { number = h.number; held = bytes (tail ++ zeros) })
        full = record {
          number = h.is_number;
          key = h.key;
          payload = h.size ++ (tail ++ zeros);
          key_spelled = h.key_spelled;
          payload_spelled = (h.size, subst (λ n. SpellsVarint h.size n) (sym held_size) h.size_spelled, refl);
          parts = longer;
        }

        none : zeros ≡ []
        none = (W.one_record (front ++ more) ((front ++ more) ++ zeros) zeros r (record { number = h.number; held = bytes (tail ++ zeros) }) spelled full refl).0

    undecided : (first rest : List ℕ) → front ≡ first ++ rest → IsDecided records limit first → ⊥
    undecided first rest e (inl whole) = front_not_whole first rest e whole
    undecided first rest e (inr (inl long)) = elim long.beyond [
      | inl full ↦ omega (arith, full, within, ap length (parts_of first rest e), length-append first (rest ++ more), some_length (rest ++ more) (some_more rest))
      | inr past ↦ not_past first rest e past
    ]
    undecided first rest e (inr (inr bad)) = bad.closed (front_open first rest e)

    -- so it needs more
    pub front_needs : NeedsMore records limit front
    front_needs = record { may_come = front_open front [] (sym (append-nil front)); undecided = undecided }

-- ---- rows

one_byte : (b : ℕ) → b < 128 → SpellsVarint (b ∷ []) b
unfolding SpellsVarint SpellsWithin
one_byte b low = (low, refl)

-- the record of number 1 that holds so many bytes
holding : (held : List ℕ) → length held < 128 → SpellsRecord (10 ∷ length held ∷ held) (record { number = 1; held = bytes held })
holding held short = record {
  number = (omega arith, omega arith);
  key = 10 ∷ [];
  payload = length held ∷ held;
  key_spelled = one_byte 10 (omega arith);
  payload_spelled = (length held ∷ [], one_byte (length held) short, refl);
  parts = refl;
}

module _ (W : OneWireReading) (to : Target) (none : to.partial_text [] ≡ []) (limits : Limits) (unit : 5 ≤ limits.unit) (all : 4 ≤ limits.binary) where
  no_bytes : AreBytes []
  no_bytes = All-nil (λ x. x < 256)

  two_bytes : AreBytes (10 ∷ 0 ∷ [])
  two_bytes = and_byte 10 (0 ∷ []) (omega arith) (and_byte 0 [] (omega arith) no_bytes)

  five_bytes : AreBytes (10 ∷ 3 ∷ 10 ∷ 127 ∷ 0 ∷ [])
  five_bytes = and_byte 10 (3 ∷ 10 ∷ 127 ∷ 0 ∷ []) (omega arith) (and_byte 3 (10 ∷ 127 ∷ 0 ∷ []) (omega arith) (and_byte 10 (127 ∷ 0 ∷ []) (omega arith) (and_byte 127 (0 ∷ []) (omega arith) (and_byte 0 [] (omega arith) no_bytes))))

  -- Of a record that isn't all there nothing is refused, whatever stands in it so far.
  pub nothing_refused : IsOutlookOn forms.OtlpProto to limits (10 ∷ 3 ∷ 10 ∷ 127 ∷ []) (good [] (record { units = 0; spans = 0 }))
  unfolding ItemsThen AreRequestUnits
  nothing_refused = record {
    noted = [];
    whole = record {
      rest = 10 ∷ 3 ∷ 10 ∷ 127 ∷ [];
      units_then = record { units = []; held = record { frames = []; framed = take_all limits.binary (10 ∷ 3 ∷ 10 ∷ 127 ∷ []) all; are_units = refl }; are_groups = tt };
      needs = front_needs W (10 ∷ 3 ∷ 10 ∷ 127 ∷ []) (0 ∷ []) (record { number = 1; held = bytes (10 ∷ 127 ∷ 0 ∷ []) }) (holding (10 ∷ 127 ∷ 0 ∷ []) (omega arith)) (λ e. cc) five_bytes limits.unit unit;
      within = all;
    };
    held = holds_no_unit (open_target to);
    is_text = sym none;
    counts = refl;
  }

  -- ---- a unit of one byte, in which a record begins and doesn't end

  none_begins : (this : Record) (after : List ℕ) → BeginsRecord this (10 ∷ []) after → ⊥
  none_begins = front_begins_none W (10 ∷ []) (0 ∷ []) (record { number = 1; held = bytes [] }) (holding [] (omega arith)) (λ e. cc) two_bytes

  cut_unit : NoRecord (10 ∷ []) 1
  cut_unit = inl (refl, (λ e. cc), front_open W (10 ∷ []) (0 ∷ []) (record { number = 1; held = bytes [] }) (holding [] (omega arith)) (λ e. cc) two_bytes (10 ∷ []) [] refl)

  only_cut : (seen : List Record) (rest : List ℕ) → Cut messages (10 ∷ []) seen rest → rest ≡ 10 ∷ []
  unfolding Cut
  only_cut [] rest cut = sym cut
  only_cut (this ∷ seen) rest cut = absurd (none_begins this cut.0 cut.1)

  offends : (K : Rules Record) → Offence messages K (10 ∷ []) 1 1
  unfolding Cut
  offends K = unread (record { seen = []; rest = 10 ∷ []; cut = refl; offends = cut_unit; placed = refl })

  at_least_one : (rest : List ℕ) (n : ℕ) → NoRecord rest n → 1 ≤ n
  at_least_one rest n (inl w) = omega (arith, w.0)
  at_least_one rest n (inr (inl w)) = omega (arith, w.0)
  at_least_one rest n (inr (inr w)) = omega (arith, w.0)

  -- no record begins at what is left of it
  none_at : (seen : List Record) (rest : List ℕ) → Cut messages (10 ∷ []) seen rest → (this : Record) (after : List ℕ) → BeginsRecord this rest after → ⊥
  none_at seen rest cut this after begins = none_begins this after (subst (λ (l : List ℕ). BeginsRecord this l after) (only_cut seen rest cut) begins)

  first : (K : Rules Record) (p n : ℕ) → Offence messages K (10 ∷ []) p n → (1 < p) ⊎ ((1 ≡ p) × (1 ≤ n))
  first K p n (unread h) = inr (omega (arith, h.placed, ap length (only_cut h.seen h.rest h.cut)), at_least_one h.rest n h.offends)
  first K p n (here h) = absurd (none_at h.seen h.rest h.cut h.this h.after h.begins)
  first K p n (inside h) = absurd (none_at h.seen h.rest h.cut h.this h.after h.begins)
  first K p n (at_end h) = absurd (let left : 10 ∷ [] ≡ [] = sym (only_cut h.seen h.rest h.cut) ∙ h.is_end in cc)

  -- What stands in a whole unit is refused at once: there the record ends, and so the one in it ends too early.
  pub cut_in_unit : IsOutlookOn forms.OtlpProto to limits (10 ∷ 1 ∷ 10 ∷ []) (refused (record { unit = 1; cause = causes.Truncated }) [])
  unfolding ItemsThen AreRequestUnits
  cut_in_unit = record {
    noted = [];
    refuses = record {
      why = inl (record {
        before = [];
        unit = 10 ∷ [];
        rest = [];
        held = record {
          frames = (10 ∷ 1 ∷ 10 ∷ []) ∷ [];
          framed = ((one_held, holding (10 ∷ []) (omega arith)), omega (arith, unit), [], take_all limits.binary (10 ∷ 1 ∷ 10 ∷ []) (omega (arith, all)), refl);
          are_units = (one_held, holding (10 ∷ []) (omega arith), [], refl, refl);
        };
        are_groups = tt;
        least = record { place = 1; offence = offends group_rules; least = first group_rules };
      });
      number = refl;
    };
    held = holds_no_unit (open_target to);
    is_text = sym none;
  }
    where
      one_held : Record
      one_held = record { number = 1; held = bytes (10 ∷ []) }
