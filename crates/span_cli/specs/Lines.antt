-- How a run ends: its status, and the line that is noted.
use Rattle.std.specs.Prelude.{ℕ, ◌==◌, if◌then◌else◌, List, [], ◌∷◌, ◌++◌, IsTrue, codes, decimal}
use Rattle.std.specs.List.{list_any}
use Rattle.span_io.specs.Causes.{cause_number, cause_name}
use Rattle.span_io.specs.declared.cause.Cause.TheVariants.{InputTooLong}
use Rattle.propagation.specs.HeaderCauses.{header_cause_number, header_cause_name}
use Rattle.propagation.specs.declared.header_cause.HeaderCause.{HeaderCause}
pub use Rattle.span_answers.specs.NoteLines.{fault_line, key_part, refusal_line}
pub use Rattle.span_notes.specs.Notes.{Notes}

-- the ends that a status tells apart
pub data Stage : Type 0 where
  -- the words are no command: 2
  usage : Stage
  -- the verdict was carried out: 0, 3, 4
  said : Stage
  -- a device failed: 5, 6
  input_failed output_failed : Stage
  -- 7
  no_memory : Stage

-- the end that a status tells; each that isn't 2, 5, 6 or 7 tells that the verdict was carried out
abbrev pub stage_of : ℕ → Stage
stage_of status =
    if status == 2 then usage else (
    if status == 5 then input_failed else (
    if status == 6 then output_failed else (
    if status == 7 then no_memory else said)))

-- the statuses that there are
abbrev pub IsRunStatus : ℕ → Type 0
IsRunStatus status = IsTrue (list_any (λ known. known == status) (0 ∷ 2 ∷ 3 ∷ 4 ∷ 5 ∷ 6 ∷ 7 ∷ []))

-- ---- notes; each line ends with a line feed

-- the words are no command: these are the modes that there are
abbrev pub usage_line : List ℕ
usage_line = codes "usage: spanx convert|losses|show|check|headers|gauge|serve OPTIONS\n"

-- ---- the lines of `headers`

-- a cause, by its number and its name
abbrev pub named_cause_line : ℕ → List ℕ → List ℕ
named_cause_line number name = codes "cause " ++ decimal number ++ codes " " ++ name ++ codes "\n"

-- the cause for which header lines tell no context, by its number and its name
abbrev pub header_cause_line : HeaderCause → List ℕ
header_cause_line cause = named_cause_line (header_cause_number cause) (header_cause_name cause)

-- there are more bytes of header lines than may be read (cause 17)
abbrev pub too_long_line : List ℕ
too_long_line = named_cause_line (cause_number InputTooLong) (cause_name InputTooLong)

-- the context has no identifiers, and the form of headers can't tell it without them (fault 36)
abbrev pub no_ids_line : List ℕ
no_ids_line = codes "fault 36 NoIds\n"

-- the line of a stage, none where a verdict was carried out
abbrev pub stage_line : Stage → List ℕ
stage_line usage = usage_line
stage_line said = []
stage_line input_failed = codes "input failed\n"
stage_line output_failed = codes "output failed\n"
stage_line no_memory = codes "out of memory\n"
