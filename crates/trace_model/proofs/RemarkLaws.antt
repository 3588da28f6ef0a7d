-- What is known of remarks: how those of a list grow with one more member, and that where nothing is noted there are none.
--     quiet x, quiet_link, quiet_span, quiet_scope     what is written, with nothing noted of it
use Rattle.std.proofs.Common.{◌≡◌, ℕ, suc, ◌+◌, false, List, [], ◌∷◌, ◌++◌, length, map, refl, sym, ap, ◌∙◌, append_assoc, arith}
use Rattle.std.specs.Prelude.{Option, Some, is_none}
use Rattle.std.specs.List.{list_any, sum_by}
use Rattle.std.proofs.lemmas.List.{append-nil}
use Rattle.std.proofs.lemmas.List.Concat.{flat_map-cons}
use Rattle.std.proofs.lemmas.List.Sums.{sum_by-cons}
use Rattle.trace_model.specs.declared.place.Place.TheVariants as places
use Rattle.trace_model.specs.declared.remark.Remark.{Remark}
use Rattle.trace_model.specs.declared.span.Link.{Link}
use Rattle.trace_model.specs.declared.span.Span.{Span}
use Rattle.trace_model.specs.declared.group.Scope.{Scope}
use Rattle.trace_model.specs.Remarks.{Keys, equal_keys, numbered}
use Rattle.trace_model.specs.GroupRemarks.{link_remarks, span_remarks, scope_remarks, scopes_remarks}
use Rattle.trace_model.specs.declared.noted.Noted.{Noted}
use Rattle.trace_model.specs.Notes.{SpanNotes, ScopeNotes}
use Rattle.trace_model.specs.OtlpParts.{kept_link, kept_links}

-- ---- one member more

pub numbered_push : {A : Type 0} (remarks : ℕ → A → List Remark) (n : ℕ) (xs : List A) (x : A) → numbered remarks n (xs ++ x ∷ []) ≡ numbered remarks n xs ++ remarks (n + length xs) x
unfolding numbered
numbered_push remarks n [] x = let first : n ≡ n + 0 = omega arith in append-nil (remarks n x) ∙ ap (λ (k : ℕ). remarks k x) first
numbered_push remarks n (y ∷ xs) x =
    let next : suc n + length xs ≡ n + suc (length xs) = omega arith in
    ap (λ l. remarks n y ++ l) (numbered_push remarks (suc n) xs x ∙ ap (λ (k : ℕ). numbered remarks (suc n) xs ++ remarks k x) next)
    ∙ sym (append_assoc (remarks n y) (numbered remarks (suc n) xs) (remarks (n + suc (length xs)) x))

-- how many spans of a scope were noted
abbrev pub spans_noted : ScopeNotes → ℕ
spans_noted notes = length notes.spans

pub scopes_push : (scope span : ℕ) (xs : List ScopeNotes) (x : ScopeNotes)
    → scopes_remarks scope span (xs ++ x ∷ []) ≡ scopes_remarks scope span xs ++ scope_remarks (scope + length xs) (span + sum_by (λ n. length n.spans) xs) x
unfolding scopes_remarks
scopes_push scope span [] x =
    let first : scope ≡ scope + 0 = omega arith in
    let first_span : span ≡ span + sum_by spans_noted [] = omega arith in
    append-nil (scope_remarks scope span x) ∙ ap (λ (k : ℕ). scope_remarks k span x) first ∙ ap (λ (k : ℕ). scope_remarks (scope + 0) k x) first_span
scopes_push scope span (y ∷ xs) x =
    let next : suc scope + length xs ≡ scope + suc (length xs) = omega arith in
    let next_span : (span + length y.spans) + sum_by spans_noted xs ≡ span + sum_by spans_noted (y ∷ xs) = omega (arith, sum_by-cons spans_noted y xs) in
    let more = scopes_remarks (suc scope) (span + length y.spans) xs in
    ap (λ l. scope_remarks scope span y ++ l) (scopes_push (suc scope) (span + length y.spans) xs x
    ∙ ap (λ (k : ℕ). more ++ scope_remarks k ((span + length y.spans) + sum_by spans_noted xs) x) next
    ∙ ap (λ (k : ℕ). more ++ scope_remarks (scope + suc (length xs)) k x) next_span)
    ∙ sym (append_assoc (scope_remarks scope span y) more (scope_remarks (scope + suc (length xs)) (span + sum_by spans_noted (y ∷ xs)) x))

-- ---- nothing noted

-- what is written has nothing noted
abbrev pub quiet : {A : Type 0} → A → Noted A Keys
quiet x = record { means = x; notes = [] }

abbrev pub quiet_link : Link → Option (Noted Link Keys)
quiet_link link = Some (quiet link)

abbrev pub quiet_notes : Span → SpanNotes
quiet_notes span = record { keys = []; dropped = false; events = map (λ e. []) span.events; links = map (λ l. []) span.links }

abbrev pub quiet_span : Span → Noted Span SpanNotes
quiet_span span = record { means = span; notes = quiet_notes span }

abbrev pub quiet_scope : Scope → Noted Scope ScopeNotes
quiet_scope scope = record { means = scope; notes = record { keys = []; spans = map quiet_notes scope.spans } }

none_numbered : {A B : Type 0} (remarks : ℕ → A → List Remark) (of : B → A) → ((n : ℕ) (x : B) → remarks n (of x) ≡ []) → (n : ℕ) (xs : List B) → numbered remarks n (map of xs) ≡ []
unfolding numbered
none_numbered remarks of none n [] = refl
none_numbered remarks of none n (x ∷ xs) = ap (λ (l : List Remark). l ++ numbered remarks (suc n) (map of xs)) (none n x) ∙ none_numbered remarks of none (suc n) xs

quiet_in_span : (n : ℕ) (s : Span) → span_remarks n (quiet_notes s) ≡ []
quiet_in_span n s =
    ap (λ (l : List Remark). l ++ link_remarks n (map (λ l. []) s.links)) (none_numbered (λ k keys. equal_keys (places.Event n k) keys) (λ e. []) (λ k x. refl) 1 s.events)
    ∙ none_numbered (λ k keys. equal_keys (places.Link n k) keys) (λ l. []) (λ k x. refl) 1 s.links

pub quiet_scopes : (scope span : ℕ) (scopes : List Scope) → scopes_remarks scope span (map (λ s. (quiet_scope s).notes) scopes) ≡ []
unfolding scopes_remarks
quiet_scopes scope span [] = refl
quiet_scopes scope span (s ∷ scopes) =
    ap (λ (l : List Remark). l ++ scopes_remarks (suc scope) (span + length (map quiet_notes s.spans)) (map (λ s. (quiet_scope s).notes) scopes)) (none_numbered span_remarks quiet_notes quiet_in_span span s.spans)
    ∙ quiet_scopes (suc scope) (span + length (map quiet_notes s.spans)) scopes

-- ---- what was put into them

pub mapped : {A B C : Type 0} (f : B → C) (g : A → B) (xs : List A) → map f (map g xs) ≡ map (λ x. f (g x)) xs
mapped f g [] = refl
mapped f g (x ∷ xs) = ap (λ l. f (g x) ∷ l) (mapped f g xs)

pub all_back : {A B : Type 0} (f : B → A) (g : A → B) → ((x : A) → f (g x) ≡ x) → (xs : List A) → map f (map g xs) ≡ xs
all_back f g back [] = refl
all_back f g back (x ∷ xs) = ap (λ y. y ∷ map f (map g xs)) (back x) ∙ ap (λ l. x ∷ l) (all_back f g back xs)

links_kept : (links : List Link) → kept_links (map quiet_link links) ≡ map quiet links
links_kept [] = refl
links_kept (l ∷ links) = flat_map-cons kept_link (quiet_link l) (map quiet_link links) ∙ ap (λ (x : List (Noted Link Keys)). quiet l ∷ x) (links_kept links)

pub none_dropped : (links : List Link) → list_any (λ (l : Option (Noted Link Keys)). is_none l) (map quiet_link links) ≡ false
none_dropped [] = refl
none_dropped (l ∷ links) = none_dropped links

pub links_back : (links : List Link) → map (λ (l : Noted Link Keys). l.means) (kept_links (map quiet_link links)) ≡ links
links_back links = ap (map (λ (l : Noted Link Keys). l.means)) (links_kept links) ∙ all_back (λ (l : Noted Link Keys). l.means) quiet (λ l. refl) links

pub links_noted : (links : List Link) → map (λ (l : Noted Link Keys). l.notes) (kept_links (map quiet_link links)) ≡ map (λ l. []) links
links_noted links = ap (map (λ (l : Noted Link Keys). l.notes)) (links_kept links) ∙ mapped (λ (l : Noted Link Keys). l.notes) quiet links
