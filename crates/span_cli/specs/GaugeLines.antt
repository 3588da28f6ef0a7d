-- What `gauge` writes of the gauge of so many spans: how many spans and groups it has, and how many bytes as a text of each form.
use Rattle.std.specs.Prelude.{◌≤◌, ℕ, List, [], ◌∷◌, ◌++◌, length, codes, decimal}
use Rattle.std.specs.List.{flat_map}
use Rattle.span_io.specs.Forms.{form_word}
use Rattle.span_io.specs.declared.form.Form.{Form}
use Rattle.span_io.specs.declared.form.Form.TheVariants.{OtlpProto, OtlpJson, JaegerBinary, JaegerCompact, ZipkinJson}
use Rattle.span_convert.specs.Units.{canonical_text}
use Rattle.span_vectors.specs.Gauge.{gauge, group_count}

-- as many spans as may be asked for
pub record IsGaugeCount (spans : ℕ) : Type 0 where
  pub some : 1 ≤ spans
  pub most : spans ≤ 1000000

-- a name, a space and a decimal, ended by LF
abbrev pub counted_line : List ℕ → ℕ → List ℕ
counted_line name n = name ++ (codes " " ++ (decimal n ++ codes "\n"))

-- how many bytes it has as a text of the form
unfoldable pub size_line : ℕ → Form → List ℕ
size_line spans form = counted_line (form_word form) (length (canonical_text form (gauge spans)))

-- the forms in the order of their lines
abbrev pub gauge_forms : List Form
gauge_forms = OtlpProto ∷ OtlpJson ∷ JaegerBinary ∷ JaegerCompact ∷ ZipkinJson ∷ []

-- the lines `spans` and `groups` with their numbers, and then one for each form with its number of bytes
unfoldable pub gauge_lines : ℕ → List ℕ
gauge_lines spans = counted_line (codes "spans") spans ++ (counted_line (codes "groups") (group_count spans) ++ flat_map (size_line spans) gauge_forms)
