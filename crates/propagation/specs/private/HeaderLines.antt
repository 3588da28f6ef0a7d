-- A block of header lines that is read line by line.
use Rattle.std.specs.Prelude.{◌≡◌, ◌≢◌, ◌⊎◌, ℕ, List, [], ◌∷◌, ◌++◌, All}
use Rattle.propagation.specs.Blocks.{Header, HasHeaders, IsHeaderLine, header_line_text}
use Rattle.propagation.specs.Blocks.HeaderLine.{told}
use Rattle.propagation.specs.declared.header_cause.HeaderCause.{HeaderCause}
use Rattle.propagation.specs.declared.header_cause.HeaderCause.TheVariants as causes

-- a line ends in CR LF, or in LF alone where it has no CR at its end, or is the last, which has no end
abbrev pub EndsLine : List ℕ → List ℕ → List ℕ → Type 0
EndsLine text line rest =
    (text ≡ line ++ 13 ∷ 10 ∷ rest)
    ⊎ (((text ≡ line ++ 10 ∷ rest) × ((front : List ℕ) → line ≢ front ++ 13 ∷ []))
    ⊎ ((text ≡ line) × (rest ≡ [])))

-- a line stands at the front of the text, and the rest behind its end
pub record CutsLine (text line rest : List ℕ) : Type 0 where
  pub plain : All (λ c. c ≢ 10) line
  pub ended : EndsLine text line rest

-- the text has these headers, and then those of the rest
pub record HeadersThen (text : List ℕ) (headers : List Header) (rest : List ℕ) : Type 0 where
  pub whole : (more : List Header) → HasHeaders rest more → HasHeaders text (headers ++ more)
  pub only : (all : List Header) → HasHeaders text all → (more : List Header) × HasHeaders rest more × (all ≡ headers ++ more)

-- the line is of this header, with these blanks round its value
abbrev pub IsToldLine : Header → List ℕ → List ℕ → List ℕ → Type 0
IsToldLine h before after line = IsHeaderLine (told h before after) × (line ≡ header_line_text (told h before after))

-- a line of the text isn't of the form
abbrev pub RefusesLine : HeaderCause → List ℕ → Type 0
RefusesLine cause text = (cause ≡ causes.HeaderLine) × ((headers : List Header) → ¬ (HasHeaders text headers))
