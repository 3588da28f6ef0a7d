-- How the text of a document begins, and how a walk over its groups goes on and ends.
use Rattle.std.proofs.Common.{◌≡◌, ◌-◌, ◌≤◌, ◌++◌, ◌∷◌, ℕ, nat_eq, Bool, false, if◌then◌else◌, List, [], length, map, inr, refl, ap, sym, subst, ◌<◌, ◌∙◌, arith, append_assoc, append-nil}
use Rattle.std.proofs.lemmas.Bool.{ne_eqb}
use Rattle.std.proofs.lemmas.List.{length-append, take_all}
use Rattle.span_io.specs.Outside.{Outlet}
use Rattle.span_io.specs.Paths.{RefusesInput}
use Rattle.span_io.specs.declared.cause.Cause.TheVariants as causes
use Rattle.span_io.specs.declared.limits.Limits.{Limits}
use Rattle.span_io.specs.declared.refusal.Refusal.{Refusal}
use Rattle.trace_model.specs.OtlpParts.{NotedGroup}
use Rattle.trace_model.specs.declared.remark.Remark.{Remark}
use Rattle.trace_model.specs.declared.group.Group.{Group}
use Rattle.map_zipkin.specs.NotedGroups.{noted_group}
use Rattle.span_convert.specs.Documents.{DocumentForm, IsDocument, DocumentBegins, DocumentText, closing_document}
use Rattle.span_convert.specs.Reports.{written_target}
use Rattle.span_convert.specs.Targets.{open_target}
use Rattle.span_convert.specs.Units.{document_input, open_document}
use Rattle.span_convert.specs.Verdicts.{IsTextSoFar, none, first}
use Rattle.span_convert.specs.private.WalkSteps.{Converted, Exceeds, IsLookedAt, StopsUnit, StopsWalk}
use Rattle.span_convert.specs.Walks.{DocumentTaken, Reaches}
use Rattle.span_convert.specs.declared.progress.Progress.{Progress}
use Rattle.span_convert.specs.declared.progress.WalkStop.{WalkStop}
use Rattle.span_convert.specs.declared.progress.WalkStop.TheVariants as walk_stops
use Rattle.span_convert.specs.declared.written.Written.{Written}
use Rattle.span_convert.proofs.DocumentTexts.{opening}
use Rattle.span_convert.proofs.WalkLemmas.{as_it_is, as_open, converted_none, front_of_nothing, gains_nothing, holds_no_unit, stops_at_unit}

-- ---- the tally tells whether a group stands before

pub is_opening : (spelled : DocumentText) (units : ℕ) (groups : List Group) → units ≡ length groups → (if nat_eq units 0 then spelled.opens else []) ≡ opening spelled groups
is_opening spelled units [] is = ap (λ n. if nat_eq n 0 then spelled.opens else []) is
is_opening spelled units (group ∷ groups) is = ap (λ (b : Bool). if b then spelled.opens else []) (ne_eqb units 0 (omega (arith, is)))

-- what closes the text, behind what opens it where no group stands before
pub is_closing : (spelled : DocumentText) (units : ℕ) (groups : List Group) → units ≡ length groups → (if nat_eq units 0 then spelled.opens else []) ++ spelled.closes ≡ closing_document spelled groups
is_closing spelled units [] is = ap (λ n. (if nat_eq n 0 then spelled.opens else []) ++ spelled.closes) is
is_closing spelled units (group ∷ groups) is = ap (λ (b : Bool). (if b then spelled.opens else []) ++ spelled.closes) (ne_eqb units 0 (omega (arith, is)))

-- ---- units that were converted

abbrev pub ReadUnit : Type 0
ReadUnit = Group × List Remark

module _ (what : Written) (said : List ℕ) where
  -- of these units those before the rest were converted
  pub record WalkedGroups (units rest : List ReadUnit) (before now : Outlet) (progress : Progress) : Type 0 where
    pub done : List NotedGroup
    pub parts : map noted_group units ≡ done ++ map noted_group rest
    pub converted : Converted what done said before now progress

  pub walked_none : (units rest : List ReadUnit) (now : Outlet) (progress : Progress) → rest ≡ units → Converted what [] said now now progress → WalkedGroups units rest now now progress
  walked_none units rest now progress same nothing = record { done = []; parts = sym (ap (map noted_group) same); converted = nothing }

  -- all of them
  pub walked_all : (units rest : List ReadUnit) (before now : Outlet) (progress : Progress) → rest ≡ [] → WalkedGroups units rest before now progress
      → Converted what (map noted_group units) said before now progress
  walked_all units rest before now progress left w =
      subst (λ (l : List NotedGroup). Converted what l said before now progress)
      (sym (w.parts ∙ ap (λ (l : List ReadUnit). w.done ++ map noted_group l) left ∙ append-nil w.done)) w.converted

  module _ (units left rest : List ReadUnit) (unit : ReadUnit) (split : left ≡ unit ∷ rest) (before now : Outlet) (progress : Progress) (w : WalkedGroups units left before now progress) where
    next_parts : map noted_group units ≡ w.done ++ noted_group unit ∷ map noted_group rest
    next_parts = w.parts ∙ ap (λ (l : List ReadUnit). w.done ++ map noted_group l) split

    more_parts : map noted_group units ≡ (w.done ++ noted_group unit ∷ []) ++ map noted_group rest
    more_parts = next_parts ∙ sym (append_assoc w.done (noted_group unit ∷ []) (map noted_group rest))

    -- one more was converted
    pub walked_more : (later : Outlet) (next : Progress)
        → ((what : Written) (done : List NotedGroup) (said : List ℕ) (before : Outlet) → Converted what done said before now progress → Converted what (done ++ noted_group unit ∷ []) said before later next)
        → WalkedGroups units rest before later next
    walked_more later next step = record { done = w.done ++ noted_group unit ∷ []; parts = more_parts; converted = step what w.done said before w.converted }

-- ---- the walk stops

module _ (from : DocumentForm) (what : Written) (limits : Limits) (whole said : List ℕ) (units : List ReadUnit) (document : IsDocument from limits whole (map noted_group units)) where
  begins : (done rest : List NotedGroup) → map noted_group units ≡ done ++ rest → DocumentBegins from limits whole done
  begins done rest parts = record { all = map noted_group units; document = document; more = rest; parts = parts }

  -- the conversion of a unit stops it
  pub stops_unit : (before later now : Outlet) (progress : Progress) (left rest : List ReadUnit) (unit : ReadUnit) → left ≡ unit ∷ rest → WalkedGroups what said units left before now progress → (stop : WalkStop)
      → ((what : Written) (done : List NotedGroup) (said : List ℕ) (before : Outlet) → Converted what done said before now progress → StopsUnit (written_target what) done (noted_group unit) stop said before later)
      → StopsWalk (document_input from) (written_target what) limits whole stop said before later
  stops_unit before later now progress left rest unit split w stop why =
      stops_at_unit (document_input from) (written_target what) (written_target what) (as_it_is (written_target what)) limits whole w.done said before (noted_group unit) later
      (begins w.done (noted_group unit ∷ map noted_group rest) (next_parts what said units left rest unit split before now progress w))
      (begins (w.done ++ noted_group unit ∷ []) (map noted_group rest) (more_parts what said units left rest unit split before now progress w)) stop (why what w.done said before w.converted)

-- ---- the bytes of a document come

module _ (what : Written) (limits : Limits) (bytes said held : List ℕ) (progress : Progress) (taken : DocumentTaken what limits bytes said held progress) where
  -- nothing was converted
  pub nothing_yet : (now : Outlet) → Converted what [] said now now progress
  nothing_yet now = converted_none what said now progress [] taken.done taken.flushed taken.is_said

  pub taken_itself : DocumentTaken what limits held said held progress
  taken_itself = record {
    held_is = refl;
    within = subst (λ (l : List ℕ). length l ≤ limits.json) (sym taken.held_is) taken.within;
    done = taken.done;
    flushed = taken.flushed;
    is_said = taken.is_said;
    none = taken.none;
  }

  -- it isn't read
  pub stops_unread : (from : DocumentForm) (now : Outlet) (refusal : Refusal) → RefusesInput (from.Offends bytes) refusal → StopsWalk (document_input from) (written_target what) limits bytes (walk_stops.Refused refusal) said now now
  stops_unread from now refusal why = record {
    text = said;
    is_refused = record { noted = []; refuses = record { none = refl; why = inr (taken.within, why) }; held = holds_no_unit (written_target what); is_text = taken.is_said };
    so_far = none taken.none;
    gains = gains_nothing said now;
  }

  pub stays_unread : (from : DocumentForm) (now : Outlet) → StopsWalk (document_input from) (written_target what) limits bytes walk_stops.OutOfMemory said now now
  stays_unread from now = record { text = said; so_far = none taken.none; gains = front_of_nothing said now }

  module _ (more : List ℕ) where
    partial_yet : IsTextSoFar open_document (open_target (written_target what)) limits (bytes ++ more) said
    partial_yet = first (record { noted = []; begins = refl; held = (as_open (written_target what)).held [] (holds_no_unit (written_target what)); is_text = taken.is_said })

    -- nothing is read of a document that is too long
    pub stops_too_long : (now : Outlet) → limits.json < length (bytes ++ more)
        → StopsWalk open_document (open_target (written_target what)) limits (bytes ++ more) (walk_stops.Refused (record { unit = 0; cause = causes.InputTooLong })) said now now
    stops_too_long now long = record {
      text = said;
      is_refused = record {
        noted = [];
        refuses = record { none = refl; why = (long, refl) };
        held = (as_open (written_target what)).held [] (holds_no_unit (written_target what));
        is_text = taken.is_said;
      };
      so_far = partial_yet;
      gains = gains_nothing said now;
    }

    pub stays_taken : (now : Outlet) → StopsWalk open_document (open_target (written_target what)) limits (bytes ++ more) walk_stops.OutOfMemory said now now
    stays_taken now = record { text = said; so_far = partial_yet; gains = front_of_nothing said now }

    -- with a piece behind them
    pub document_goes_on : (piece kept : List ℕ) (now : Outlet) → piece ≡ more → length (bytes ++ more) ≤ limits.json → kept ≡ held ++ piece
        → Reaches (λ text. DocumentTaken what limits (bytes ++ more) text kept progress) said now now
    document_goes_on piece kept now all within is = record {
      text = said;
      is = record {
        held_is = is ∙ ap (λ l. l ++ piece) taken.held_is ∙ ap (λ l. bytes ++ l) all;
        within = within;
        done = taken.done;
        flushed = taken.flushed;
        is_said = taken.is_said;
        none = taken.none;
      };
      gains = gains_nothing said now;
    }

-- all of a piece is looked at
pub all_looked_at : (limit : ℕ) (bytes more piece : List ℕ) (too_long : Bool) → too_long ≡ false → IsLookedAt limit bytes more piece too_long → (piece ≡ more) × (length (bytes ++ more) ≤ limit)
all_looked_at limit bytes more piece too_long short looked =
    let within : length (bytes ++ more) ≤ limit = subst (λ (b : Bool). Exceeds b limit (bytes ++ more)) short looked.exceeds in
    (sym looked.front ∙ take_all (limit - length bytes) more (omega (arith, within, length-append bytes more)), within)
