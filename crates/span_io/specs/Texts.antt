-- The bytes of a text, wherever they are kept.
use Rattle.std.specs.Prelude.{ℕ, List, string_bytes}
use Rattle.span_io.specs.declared.text.Kept.{Kept}
use Rattle.span_io.specs.declared.text.Kept.TheVariants as places

-- the bytes of a text, be they kept in the value itself (at most 24 of them) or in memory of their own
abbrev pub kept_bytes : Kept → List ℕ
kept_bytes (places.Short text alloc) = text.bytes
kept_bytes (places.Long text) = string_bytes text
