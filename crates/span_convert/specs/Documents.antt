-- A form whose inputs are documents. A document is read whole, and its units are the groups that it is a text of.
use Rattle.std.specs.Prelude.{◌≡◌, ℕ, ◌<◌, ◌≤◌, ◌⊎◌, Bool, true, if◌then◌else◌, List, [], ◌∷◌, ◌++◌, length}
use Rattle.std.specs.List.{join_with_byte}
use Rattle.span_io.specs.Paths.{Offences, RefusesInput}
use Rattle.span_io.specs.declared.cause.Cause.TheVariants as causes
use Rattle.span_io.specs.declared.limits.Limits.{Limits}
use Rattle.span_io.specs.declared.refusal.Refusal.{Refusal}
use Rattle.trace_model.specs.OtlpParts.{NotedGroup}
use Rattle.trace_model.specs.declared.group.Group.{Group}

-- what a form says of the bytes of a document, however many they are
pub record DocumentForm : Type 1 where
  -- the bytes are a text of these groups, each with the remarks on it
  pub Reads : List ℕ → List NotedGroup → Type 0
  -- what offends in the bytes, by path
  pub Offends : List ℕ → Offences

-- ---- what an input is read as

-- These groups are all of it.
pub record IsDocument (from : DocumentForm) (limits : Limits) (bytes : List ℕ) (noted : List NotedGroup) : Type 0 where
  pub within : length bytes ≤ limits.json
  pub text : from.Reads bytes noted

-- these are the first of its groups
pub record DocumentBegins (from : DocumentForm) (limits : Limits) (bytes : List ℕ) (noted : List NotedGroup) : Type 0 where
  pub all : List NotedGroup
  pub document : IsDocument from limits bytes all
  pub more : List NotedGroup
  pub parts : all ≡ noted ++ more

-- There are more bytes than the limit; else an offence in them counts. No group stands before a refusal.
abbrev pub IsTooLongDocument : Limits → List ℕ → Refusal → Type 0
IsTooLongDocument limits bytes refusal =
    (limits.json < length bytes) × (refusal ≡ record { unit = 0; cause = causes.InputTooLong })

-- There are no more bytes than the limit, and the offence in them that counts makes the refusal.
abbrev pub OffendsInDocument : DocumentForm → Limits → List ℕ → Refusal → Type 0
OffendsInDocument from limits bytes refusal = (length bytes ≤ limits.json) × RefusesInput (from.Offends bytes) refusal

-- A document is refused as a whole: it is too long, or something offends in it.
pub record DocumentRefused (from : DocumentForm) (limits : Limits) (bytes : List ℕ) (noted : List NotedGroup) (refusal : Refusal)
    : Type 0 where
  pub none : noted ≡ []
  pub why : IsTooLongDocument limits bytes refusal ⊎ OffendsInDocument from limits bytes refusal

-- ---- what is known of its first bytes, behind which others may come

-- No group is known before the end.
pub record DocumentGoesOn (limits : Limits) (bytes : List ℕ) (noted : List NotedGroup) : Type 0 where
  pub none : noted ≡ []
  pub within : length bytes ≤ limits.json

-- More bytes than the limit are refused, whatever follows.
pub record DocumentHalted (limits : Limits) (bytes : List ℕ) (noted : List NotedGroup) (refusal : Refusal) : Type 0 where
  pub none : noted ≡ []
  pub why : IsTooLongDocument limits bytes refusal

-- ---- texts

-- The canonical text of groups is what opens it, these pieces with commas between them, and what closes it.
pub record DocumentText : Type 0 where
  pub opens : List ℕ
  pub pieces : List Group → List (List ℕ)
  pub closes : List ℕ

-- the text without what closes it
abbrev pub document_so_far : DocumentText → List Group → List ℕ
document_so_far spelled groups = spelled.opens ++ join_with_byte 44 (spelled.pieces groups)

-- Nothing opens the text of no group.
abbrev pub partial_document : DocumentText → List Group → List ℕ
partial_document spelled [] = []
partial_document spelled (group ∷ groups) = document_so_far spelled (group ∷ groups)

-- The bytes that close the text so far. Of no group nothing was written so far, so they are the whole text.
abbrev pub closing_document : DocumentText → List Group → List ℕ
closing_document spelled [] = spelled.opens ++ spelled.closes
closing_document spelled (group ∷ groups) = spelled.closes

-- pieces that are added, each with a comma before it where a piece stands before
abbrev pub pieces_added : Bool → List (List ℕ) → List ℕ
pieces_added behind [] = []
pieces_added behind (piece ∷ more) = (if behind then 44 ∷ [] else []) ++ (piece ++ pieces_added true more)
