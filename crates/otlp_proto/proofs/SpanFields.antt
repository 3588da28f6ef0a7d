-- The text of a span in four parts of four fields.
use Rattle.std.proofs.Common.{◌≡◌, ℕ, List, ◌++◌, sym, ap, subst, ◌∙◌, append_assoc}
use Rattle.span_io.specs.Outside.{GrowsFront}
use Rattle.trace_model.specs.declared.span.Span.{Span}
use Rattle.otlp_proto.specs.Canonical.{filled_field, count_field, time_field, flags_field, trace_field, span_field, parent_field, list_text, attributes_text, status_text, otlp_event_text, link_text, span_text}
use Rattle.trace_model.specs.OtlpParts.{kind_number}
use Rattle.otlp_proto.proofs.Growth.{joins_three, grows_first, grows_at_two, grows_at_three, grows_past_three, on_err_from}

abbrev fields_1_to_4 : Span → List ℕ
fields_1_to_4 span = trace_field 1 span.trace ++ (span_field 2 span.id ++ (filled_field 3 span.state ++ parent_field 4 span.parent))

abbrev fields_5_to_8 : Span → List ℕ
fields_5_to_8 span = filled_field 5 span.name ++ (count_field 6 (kind_number span.kind) ++ (time_field 7 span.start ++ time_field 8 span.end))

abbrev fields_9_to_12 : Span → List ℕ
fields_9_to_12 span = attributes_text 9 span.attributes ++ (count_field 10 span.dropped_attributes ++ (list_text 11 otlp_event_text span.events ++ count_field 12 span.dropped_events))

abbrev fields_13_to_16 : Span → List ℕ
fields_13_to_16 span = list_text 13 link_text span.links ++ (count_field 14 span.dropped_links ++ (filled_field 15 (status_text span.status) ++ flags_field 16 span.flags))

in_fours : (s : Span) → span_text s ≡ fields_1_to_4 s ++ (fields_5_to_8 s ++ (fields_9_to_12 s ++ fields_13_to_16 s))
unfolding span_text
in_fours s = sym (simp append_assoc)

module _ (s : Span) (old m₁ new : List ℕ) where
  front : GrowsFront old new (fields_1_to_4 s ++ (fields_5_to_8 s ++ (fields_9_to_12 s ++ fields_13_to_16 s))) → GrowsFront old new (span_text s)
  front h = subst (λ l. GrowsFront old new l) (sym (in_fours s)) h

  pub span_at_one : GrowsFront old new (fields_1_to_4 s) → GrowsFront old new (span_text s)
  span_at_one h = front (grows_first old new (fields_1_to_4 s) (fields_5_to_8 s ++ (fields_9_to_12 s ++ fields_13_to_16 s)) h)

  pub span_at_two : m₁ ≡ old ++ fields_1_to_4 s → GrowsFront m₁ new (fields_5_to_8 s) → GrowsFront old new (span_text s)
  span_at_two e₁ h = front (grows_at_two old m₁ new (fields_1_to_4 s) (fields_9_to_12 s ++ fields_13_to_16 s) e₁ (fields_5_to_8 s) h)

  pub span_at_three : (m₂ : List ℕ) → m₁ ≡ old ++ fields_1_to_4 s → m₂ ≡ m₁ ++ fields_5_to_8 s → GrowsFront m₂ new (fields_9_to_12 s) → GrowsFront old new (span_text s)
  span_at_three m₂ e₁ e₂ h = front (grows_at_three old m₁ new (fields_1_to_4 s) (fields_13_to_16 s) e₁ m₂ (fields_5_to_8 s) e₂ (fields_9_to_12 s) h)

  pub span_at_four : (m₂ m₃ : List ℕ) → m₁ ≡ old ++ fields_1_to_4 s → m₂ ≡ m₁ ++ fields_5_to_8 s → m₃ ≡ m₂ ++ fields_9_to_12 s → GrowsFront m₃ new (fields_13_to_16 s) → GrowsFront old new (span_text s)
  span_at_four m₂ m₃ e₁ e₂ e₃ h = front (grows_past_three old m₁ new (fields_1_to_4 s) (fields_13_to_16 s) e₁ m₂ (fields_5_to_8 s) e₂ m₃ (fields_9_to_12 s) e₃ h)

  pub span_whole : (m₂ m₃ : List ℕ) → m₁ ≡ old ++ fields_1_to_4 s → m₂ ≡ m₁ ++ fields_5_to_8 s → m₃ ≡ m₂ ++ fields_9_to_12 s → new ≡ m₃ ++ fields_13_to_16 s → new ≡ old ++ span_text s
  span_whole m₂ m₃ e₁ e₂ e₃ e = joins_three old m₁ new (fields_1_to_4 s) (fields_13_to_16 s) e₁ m₂ (fields_5_to_8 s) e₂ m₃ (fields_9_to_12 s) e₃ e ∙ ap (λ l. old ++ l) (sym (in_fours s))

pub ruleset by_fours = (span_at_one, span_at_two, span_at_three, span_at_four, span_whole, on_err_from)
