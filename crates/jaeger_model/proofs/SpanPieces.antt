-- The text of a span's fields in four pieces.
use Rattle.std.proofs.Common.{◌≡◌, ℕ, pos, List, [], ◌∷◌, ◌++◌, refl, ap, ◌∙◌}
use Rattle.thrift_core.specs.Protocols.{WritingOf}
use Rattle.thrift_core.specs.Trees.{Tree, i32, leaf}
use Rattle.thrift_core.specs.Written.{Keeping, last_id}
use Rattle.thrift_core.specs.private.WrittenParts.{rows_written}
use Rattle.thrift_core.proofs.WrittenLaws.{rows_behind}
use Rattle.jaeger_model.specs.declared.span.JSpan.{JSpan}
use Rattle.jaeger_model.specs.declared.span.SpanRef.{SpanRef}
use Rattle.jaeger_model.specs.Canonical.{filled_list, reference_rows, identity_rows, reference_and_flag_rows, time_rows, tag_and_log_rows, jspan_rows}

flags_last : (references : List SpanRef) (flags : Tree) → last_id (filled_list (pos 6) reference_rows references ++ (pos 7, flags) ∷ []) (pos 5) ≡ pos 7
unfolding last_id
flags_last [] flags = refl
flags_last (x ∷ references) flags = refl

module _ (keeps : Keeping) (writes : WritingOf) (span : JSpan) (left : ℕ) where
  abbrev pub from_times : List ℕ
  from_times = rows_written keeps writes (time_rows span) left (pos 7) ++ rows_written keeps writes (tag_and_log_rows span) left (pos 9)

  abbrev pub from_references : List ℕ
  from_references = rows_written keeps writes (reference_and_flag_rows span) left (pos 5) ++ from_times

  pub span_pieces : rows_written keeps writes (jspan_rows span) left (pos 0) ≡ rows_written keeps writes (identity_rows span) left (pos 0) ++ from_references
  unfolding last_id
  span_pieces =
      let identity = rows_written keeps writes (identity_rows span) left (pos 0) in
      let flags = rows_written keeps writes (reference_and_flag_rows span) left (pos 5) in
      rows_behind keeps writes (identity_rows span) (reference_and_flag_rows span ++ (time_rows span ++ tag_and_log_rows span)) left (pos 0)
      ∙ ap (λ l. identity ++ l) (
      rows_behind keeps writes (reference_and_flag_rows span) (time_rows span ++ tag_and_log_rows span) left (pos 5)
      ∙ ap (λ z. flags ++ rows_written keeps writes (time_rows span ++ tag_and_log_rows span) left z) (flags_last span.references (leaf (i32 span.flags)))
      ∙ ap (λ l. flags ++ l) (rows_behind keeps writes (time_rows span) (tag_and_log_rows span) left (pos 7))
      )
