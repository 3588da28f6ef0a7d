-- A text that spells no parent.
use Rattle.std.proofs.Common.{ℕ, List, Option, Some, None}
use Rattle.zipkin_json.specs.Identifiers.{AreZeros, SpellsSpan, SpellsParent}

-- a text that is neither zeros nor an identifier spells no parent
pub no_parent : (text : List ℕ) → ¬ AreZeros text → ((id : ℕ) → ¬ SpellsSpan text id) → (parent : Option ℕ) → ¬ SpellsParent text parent
no_parent text zeros none None h = zeros h
no_parent text zeros none (Some id) h = none id h
