-- The text of a unit that is left to be written, behind what isn't written yet.
use Rattle.std.proofs.Common.{◌≡◌, ℕ, ◌+◌, ◌<◌, ◌≤◌, ◌++◌, ◌∷◌, Bool, true, if◌then◌else◌, List, [], length, map, drop, get_or, ap, sym, subst, ◌∙◌, append_assoc, append-nil, arith}
use Rattle.std.proofs.lemmas.List.{drop_more, length-append}
use Rattle.span_io.specs.Outside.{FailsWithin, Gains, Outlet, Sure, Takes, any_number, so_many}
use Rattle.trace_model.specs.OtlpParts.{NotedGroup}
use Rattle.zipkin_json.specs.Canonical.{zspan_text}
use Rattle.zipkin_json.specs.declared.span.ZSpan.{ZSpan}
use Rattle.span_convert.specs.Documents.{pieces_added}
use Rattle.span_convert.specs.Pens.{pen_stands, written_by}
use Rattle.span_convert.specs.Reports.{written_target}
use Rattle.span_convert.specs.private.WalkSteps.{Converted, FailsFrontOf, with_text}
use Rattle.span_convert.specs.Walks.{StandsFor}
use Rattle.span_convert.specs.declared.pen.Pen.{Pen}
use Rattle.span_convert.specs.declared.progress.Progress.{Progress}
use Rattle.span_convert.specs.declared.written.Written.{Written}
use Rattle.span_convert.proofs.WalkLemmas.{failed_so_far}

-- a sink that fails within some bytes fails within these and others
takes_fewer : (sure : Sure) (few many : ℕ) → few ≤ many → Takes sure many → Takes sure few
takes_fewer (so_many most) few many less takes = omega (arith, less, takes)
takes_fewer any_number few many less takes = tt

fails_longer : (before now : Outlet) (bytes more : List ℕ) → FailsWithin before now bytes → FailsWithin before now (bytes ++ more)
fails_longer before now bytes more h =
    let others : List ℕ = h.front.is_front.0 in
    record {
      rose = h.rose;
      front = record {
        front = h.front.front;
        is_front = (others ++ more, ap (λ (l : List ℕ). l ++ more) h.front.is_front.1 ∙ append_assoc h.front.front others more);
        gains = h.front.gains;
      };
      unsure = λ takes. h.unsure (takes_fewer before.sure (length bytes) (length (bytes ++ more)) (omega (arith, length-append bytes more)) takes);
    }

module _ (what : Written) (units : List NotedGroup) (said : List ℕ) (before now : Outlet) (progress : Progress) where
  -- nothing is left
  pub none_left : Converted what units said before now (with_text progress []) → Converted what units said before now progress
  none_left w = record {
    done = record { held = w.done.held; pen = w.done.pen; counts = w.done.counts; stands = w.done.stands };
    written = w.written;
    gains = w.gains;
    is_text = ap (λ (l : List ℕ). said ++ (w.written ++ l)) (sym (append-nil progress.unwritten)) ∙ w.is_text;
  }

  module _ (left : List ℕ) (w : Converted what units said before now (with_text progress left)) (next : Progress) (tally : next.tally ≡ progress.tally) (pen : next.pen ≡ progress.pen) where
    stands_still : (text : List ℕ) → StandsFor what units (with_text next text)
    stands_still text = record {
      held = w.done.held;
      pen = ap written_by pen ∙ w.done.pen;
      counts = tally ∙ w.done.counts;
      stands = subst (λ (x : Pen). pen_stands x units) (sym pen) w.done.stands;
    }

    -- a front of it was added
    pub less_left : (added rest : List ℕ) → left ≡ added ++ rest → next.unwritten ≡ progress.unwritten ++ added → Converted what units said before now (with_text next rest)
    less_left added rest parts adds = record {
      done = stands_still rest;
      written = w.written;
      gains = w.gains;
      is_text = ap (λ (l : List ℕ). said ++ (w.written ++ (l ++ rest))) adds
          ∙ ap (λ (l : List ℕ). said ++ (w.written ++ l)) (append_assoc progress.unwritten added rest)
          ∙ ap (λ (l : List ℕ). said ++ (w.written ++ (progress.unwritten ++ l))) (sym parts)
          ∙ w.is_text;
    }

    -- what stands before it was written
    pub written_before : (both : (a b c : Outlet) (first second : List ℕ) → Gains a b first → Gains b c second → Gains a c (first ++ second)) (later : Outlet) → next.unwritten ≡ [] → Gains now later progress.unwritten
        → Converted what units said before later (with_text next left)
    written_before both later empty gains = record {
      done = stands_still left;
      written = w.written ++ progress.unwritten;
      gains = both before now later w.written progress.unwritten w.gains gains;
      is_text = ap (λ (l : List ℕ). said ++ ((w.written ++ progress.unwritten) ++ (l ++ left))) empty
          ∙ ap (λ (l : List ℕ). said ++ l) (append_assoc w.written progress.unwritten left)
          ∙ w.is_text;
    }

  -- the sink failed within what stands before it
  pub failed_before : (left : List ℕ) → Converted what units said before now (with_text progress left) → ((a b c : Outlet) (first second : List ℕ) → Gains a b first → Gains b c second → Gains a c (first ++ second)) → (later : Outlet)
      → ((a b c : Outlet) (first second : List ℕ) → Gains a b first → FailsWithin b c second → FailsWithin a c (first ++ second)) → FailsWithin now later progress.unwritten → FailsFrontOf (written_target what) units said before later
  failed_before left w both later fails failed =
      failed_so_far what units said before now (with_text progress left) w both later fails (fails_longer now later progress.unwritten left failed)

-- the spans from one on are that one, behind a comma or not, and those behind it
pub next_left : (behind : Bool) (spans : List ZSpan) (i : ℕ) (span : ZSpan) → i < length spans → span ≡ get_or spans i span
    → pieces_added behind (map zspan_text (drop i spans)) ≡ ((if behind then 44 ∷ [] else []) ++ zspan_text span) ++ pieces_added true (map zspan_text (drop (i + 1) spans))
next_left behind spans i span less is =
    ap (λ (l : List ZSpan). pieces_added behind (map zspan_text l)) (drop_more spans i span less ∙ ap (λ (s : ZSpan). s ∷ drop (i + 1) spans) (sym is))
    ∙ sym (append_assoc (if behind then 44 ∷ [] else []) (zspan_text span) (pieces_added true (map zspan_text (drop (i + 1) spans))))
