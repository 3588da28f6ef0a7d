use Rattle.std.proofs.Common.{◌≡◌, ◌+◌, ◌-◌, ◌<◌, ◌≤◌, ℤ, pos, Some, None, [], ◌∷◌, length, refl, ap, sym, ◌∙◌, subst, inl, inr, to_z, of_z, arith, rules}
use Rattle.std.specs.Int.{w16}
use Rattle.std.proofs.lemmas.Int.{to_z-of_z}
use Rattle.thrift_core.specs.Parts.{header, list_head, map_head}
use Rattle.thrift_core.specs.Walks.{in_struct, in_value, in_elements, in_pairs, first_of, no_level, opened_elements, opened_pairs, Passes}
use Rattle.thrift_core.specs.declared.type_code.TypeCode.TheVariants as kinds
use Rattle.thrift_core.proofs.Determined.{no_turns}
use Rattle.thrift_core.proofs.WalkSteps.{first_refused, passed_in, passed_last, part_shortens, field_read, stop_read, list_read, map_read, halted_in, element_opened, no_element_left, pair_opened, no_pair_left, onward, value_first, value_below, value_without_level, level_refused, made_of_one}
use Rattle.thrift_core.proofs.passing.+passing.Goals as goal

-- ---- values

pub pass_value-returns-in_err-level_below-in-Struct-clause-passed : goal.pass_value-returns-in_err-level_below-in-Struct-clause-passed
pass_value-returns-in_err-level_below-in-Struct-clause-passed g t c =
    level_refused g.P.Parts.spells g.P.Parts.reads (in_value c.args.left c.args.kind c.args.held) c.args.c.now.rest c.args.c.now.rest c.in_err-level_below-in-Struct.field-0.0 c.from_residual.result
    (value_without_level c.args.left c.args.kind kinds.Struct c.args.held c.in_err-level_below-in-Struct.ensures.deep.1 c.in-Struct.is refl) c.in_err-level_below-in-Struct.ensures.deep.0 c.from_residual.ensures.1

pub pass_value-returns-in_err-level_below-in-Map-clause-passed : goal.pass_value-returns-in_err-level_below-in-Map-clause-passed
pass_value-returns-in_err-level_below-in-Map-clause-passed g t c =
    level_refused g.P.Parts.spells g.P.Parts.reads (in_value c.args.left c.args.kind c.args.held) c.args.c.now.rest c.args.c.now.rest c.in_err-level_below-in-Map.field-0.0 c.from_residual-in_err-level_below-in-Map.result
    (value_without_level c.args.left c.args.kind kinds.Map c.args.held c.in_err-level_below-in-Map.ensures.deep.1 c.in-Map.is refl) c.in_err-level_below-in-Map.ensures.deep.0 c.from_residual-in_err-level_below-in-Map.ensures.1

pub pass_value-returns-in_err-level_below-in-Set-clause-passed : goal.pass_value-returns-in_err-level_below-in-Set-clause-passed
pass_value-returns-in_err-level_below-in-Set-clause-passed g t c =
    let first : first_of (in_value c.args.left c.args.kind c.args.held) ≡ no_level = elim c.in-Set.is [
      | inl is ↦ value_without_level c.args.left c.args.kind kinds.Set c.args.held c.in_err-level_below-in-Set.ensures.deep.1 is refl
      | inr is ↦ value_without_level c.args.left c.args.kind kinds.List c.args.held c.in_err-level_below-in-Set.ensures.deep.1 is refl
    ] in
    level_refused g.P.Parts.spells g.P.Parts.reads (in_value c.args.left c.args.kind c.args.held) c.args.c.now.rest c.args.c.now.rest c.in_err-level_below-in-Set.field-0.0 c.from_residual-in_err-level_below-in-Set.result
    first c.in_err-level_below-in-Set.ensures.deep.0 c.from_residual-in_err-level_below-in-Set.ensures.1

pub pass_value-returns-in_ok-level_below-in-Struct-clause-passed : goal.pass_value-returns-in_ok-level_below-in-Struct-clause-passed
pass_value-returns-in_ok-level_below-in-Struct-clause-passed g t c =
    made_of_one g.P.Parts.spells g.P.Parts.reads (in_value c.args.left c.args.kind c.args.held) (in_struct c.in_ok-level_below-in-Struct.field-0 (pos 0)) c.args.c.now.rest c.pass_struct.new.c.rest c.pass_struct.result
    (value_below c.args.left c.in_ok-level_below-in-Struct.field-0 c.args.kind kinds.Struct c.args.held c.in_ok-level_below-in-Struct.ensures.value c.in-Struct.is) c.pass_struct.ensures.passed

pub pass_value-returns-in_ok-level_below-in-Map-clause-passed : goal.pass_value-returns-in_ok-level_below-in-Map-clause-passed
pass_value-returns-in_ok-level_below-in-Map-clause-passed g t c =
    c.pass_map.ensures.passed (in_value c.args.left c.args.kind c.args.held)
    (value_below c.args.left c.in_ok-level_below-in-Map.field-0 c.args.kind kinds.Map c.args.held c.in_ok-level_below-in-Map.ensures.value c.in-Map.is)

pub pass_value-returns-in_ok-level_below-in-Set-clause-passed : goal.pass_value-returns-in_ok-level_below-in-Set-clause-passed
pass_value-returns-in_ok-level_below-in-Set-clause-passed g t c =
    c.pass_list.ensures.passed (in_value c.args.left c.args.kind c.args.held)
    (elim c.in-Set.is [
      | inl is ↦ value_below c.args.left c.in_ok-level_below-in-Set.field-0 c.args.kind kinds.Set c.args.held c.in_ok-level_below-in-Set.ensures.value is
      | inr is ↦ value_below c.args.left c.in_ok-level_below-in-Set.field-0 c.args.kind kinds.List c.args.held c.in_ok-level_below-in-Set.ensures.value is
    ])

pub pass_value-returns-in-Binary-clause-passed : goal.pass_value-returns-in-Binary-clause-passed
pass_value-returns-in-Binary-clause-passed g t c = c.pass_bytes.ensures.passed (in_value c.args.left c.args.kind c.args.held) (value_first c.args.left c.args.kind kinds.Binary c.args.held c.in-Binary.is)

-- ---- structs

pub pass_struct-fields-init : goal.pass_struct-fields-init
pass_struct-fields-init g t c = record { passes = no_turns g.P.Parts.spells (in_struct c.args.left (pos 0) ∷ []) c.args.c.now.rest; stays = refl }

pub pass_struct-returns-in-None-clause-passed : goal.pass_struct-returns-in-None-clause-passed
pass_struct-returns-in-None-clause-passed g t c =
    stop_read g.P.Parts.spells g.P.Parts.reads g.met.P.Parts.reads_exactly.found (in_struct c.args.left (pos 0)) c.args.left (to_z w16 c.fields.last-bits) c.in_ok-field.field-0 c.args.c.now.rest c.fields.c.rest c.field.new.c.rest
    c.fields.invariant.passes c.in_ok-field.ensures.exact c.in-None.is

pub pass_struct-returns-in_err-pass_value-in-Some-clause-passed : goal.pass_struct-returns-in_err-pass_value-in-Some-clause-passed
pass_struct-returns-in_err-pass_value-in-Some-clause-passed g t c =
    halted_in g.P.Parts.spells g.P.Parts.reads (in_struct c.args.left (pos 0)) (in_value c.args.left c.in-Some.field.kind c.in-Some.field.held) (in_struct c.args.left c.in-Some.field.id ∷ []) c.args.c.now.rest c.field.new.c.rest c.pass_value.new.c.rest
    c.in_err-pass_value-in-Some.field-0.0 c.from_residual-in_err-pass_value-in-Some.result
    (field_read g.P.Parts.spells g.P.Parts.reads g.met.P.Parts.reads_exactly.found (in_struct c.args.left (pos 0)) c.args.left (to_z w16 c.fields.last-bits) c.in-Some.field c.in_ok-field.field-0 c.args.c.now.rest c.fields.c.rest c.field.new.c.rest
    c.fields.invariant.passes c.in_ok-field.ensures.exact c.in-Some.is)
    c.in_err-pass_value-in-Some.ensures.passed c.from_residual-in_err-pass_value-in-Some.ensures.1

pub pass_struct-fields-smaller : goal.pass_struct-fields-smaller
pass_struct-fields-smaller g t c =
    let read : length c.field.new.c.rest < length c.fields.c.rest = part_shortens g.P.Parts.spells g.P.Parts.reads g.met.P.Parts.reads_exactly.found (header c.args.left (to_z w16 c.fields.last-bits)) c.in_ok-field.field-0 c.fields.c.rest c.field.new.c.rest
    (λ text h. g.met.P.Parts.part_laws.some (header c.args.left (to_z w16 c.fields.last-bits)) c.in_ok-field.field-0 text tt h) c.in_ok-field.ensures.exact in
    let passed : length c.pass_value.new.c.rest ≤ length c.field.new.c.rest = onward g.P.Parts.spells (in_value c.args.left c.in-Some.field.kind c.in-Some.field.held ∷ []) [] c.field.new.c.rest c.pass_value.new.c.rest
    c.in_ok-pass_value-in-Some.ensures.passed in
    omega (arith, read, passed)

pub pass_struct-fields-preserved : goal.pass_struct-fields-preserved
pass_struct-fields-preserved g t c =
    let id : to_z w16 (of_z w16 c.in-Some.field.id) ≡ c.in-Some.field.id = to_z-of_z w16 c.in-Some.field.id (record { sfits = search rules }) in
    record {
      passes = subst (λ (n : ℤ). Passes g.P.Parts.spells (in_struct c.args.left (pos 0) ∷ []) c.args.c.now.rest (in_struct c.args.left n ∷ []) c.pass_value.new.c.rest) (sym id)
          (passed_in g.P.Parts.spells g.P.Parts.reads (in_struct c.args.left (pos 0)) (in_value c.args.left c.in-Some.field.kind c.in-Some.field.held) (in_struct c.args.left c.in-Some.field.id ∷ []) c.args.c.now.rest c.field.new.c.rest c.pass_value.new.c.rest
          (field_read g.P.Parts.spells g.P.Parts.reads g.met.P.Parts.reads_exactly.found (in_struct c.args.left (pos 0)) c.args.left (to_z w16 c.fields.last-bits) c.in-Some.field c.in_ok-field.field-0 c.args.c.now.rest c.fields.c.rest c.field.new.c.rest
          c.fields.invariant.passes c.in_ok-field.ensures.exact c.in-Some.is)
          c.in_ok-pass_value-in-Some.ensures.passed);
      stays = omega (arith, c.in_ok-pass_value-in-Some.ensures.place, c.in_ok-field.ensures.place, c.fields.invariant.stays);
    }

-- ---- lists and sets

pub pass_list-returns-in_err-head-clause-passed : goal.pass_list-returns-in_err-head-clause-passed
pass_list-returns-in_err-head-clause-passed g t c = λ start first.
    first_refused g.P.Parts.spells g.P.Parts.reads start c.args.c.now.rest c.list.new.c.rest (list_head c.args.left) (λ head. opened_elements c.args.left head.element head.size) c.in_err-head.field-0.0 c.from_residual.result
    first c.in_err-head.ensures.exact c.from_residual.ensures.1

pub pass_list-returns-in-Some-clause-passed : goal.pass_list-returns-in-Some-clause-passed
pass_list-returns-in-Some-clause-passed g t c = λ start first.
    passed_last g.P.Parts.spells g.P.Parts.reads start (in_elements c.args.left c.in-Some.kind c.in_ok-head.head.size) c.args.c.now.rest c.list.new.c.rest c.pass_elements.new.c.rest c.pass_elements.result
    (list_read g.P.Parts.spells g.P.Parts.reads g.met.P.Parts.reads_exactly.found start c.args.left c.in_ok-head.head (Some c.in-Some.kind) c.args.c.now.rest c.list.new.c.rest first c.in_ok-head.ensures.exact c.in-Some.is) c.pass_elements.ensures.passed

pub pass_list-returns-in-None-clause-passed : goal.pass_list-returns-in-None-clause-passed
pass_list-returns-in-None-clause-passed g t c = λ start first.
    list_read g.P.Parts.spells g.P.Parts.reads g.met.P.Parts.reads_exactly.found start c.args.left c.in_ok-head.head None c.args.c.now.rest c.list.new.c.rest first c.in_ok-head.ensures.exact c.in-None.is

pub pass_elements-elements-init : goal.pass_elements-elements-init
pass_elements-elements-init g t c = record {
  passes = subst (λ n. Passes g.P.Parts.spells (in_elements c.args.left c.args.kind c.args.many ∷ []) c.args.c.now.rest (in_elements c.args.left c.args.kind n ∷ []) c.args.c.now.rest) (omega arith)
      (no_turns g.P.Parts.spells (in_elements c.args.left c.args.kind c.args.many ∷ []) c.args.c.now.rest);
  stays = refl;
}

pub pass_elements-returns-in_err-pass_value-clause-passed : goal.pass_elements-returns-in_err-pass_value-clause-passed
pass_elements-returns-in_err-pass_value-clause-passed g t c =
    halted_in g.P.Parts.spells g.P.Parts.reads (in_elements c.args.left c.args.kind c.args.many) (in_value c.args.left c.args.kind None) (in_elements c.args.left c.args.kind (c.args.many - (c.elements._element + 1)) ∷ [])
    c.args.c.now.rest c.elements.c.rest c.pass_value.new.c.rest c.in_err-pass_value.field-0.0 c.from_residual.result
    (element_opened g.P.Parts.spells (in_elements c.args.left c.args.kind c.args.many) c.args.left c.args.many c.elements._element c.args.kind c.args.c.now.rest c.elements.c.rest c.elements-test.true c.elements.invariant.passes)
    c.in_err-pass_value.ensures.passed c.from_residual.ensures.1

pub pass_elements-elements-preserved : goal.pass_elements-elements-preserved
pass_elements-elements-preserved g t c = record {
  passes = passed_in g.P.Parts.spells g.P.Parts.reads (in_elements c.args.left c.args.kind c.args.many) (in_value c.args.left c.args.kind None) (in_elements c.args.left c.args.kind (c.args.many - (c.elements._element + 1)) ∷ [])
      c.args.c.now.rest c.elements.c.rest c.pass_value.new.c.rest
      (element_opened g.P.Parts.spells (in_elements c.args.left c.args.kind c.args.many) c.args.left c.args.many c.elements._element c.args.kind c.args.c.now.rest c.elements.c.rest c.elements-test.true c.elements.invariant.passes)
      c.in_ok-pass_value.ensures.passed;
  stays = omega (arith, c.in_ok-pass_value.ensures.place, c.elements.invariant.stays);
}

pub pass_elements-returns-clause-passed : goal.pass_elements-returns-clause-passed
pass_elements-returns-clause-passed g t c =
    no_element_left g.P.Parts.spells (in_elements c.args.left c.args.kind c.args.many) c.args.left (c.args.many - c.elements._element) c.args.kind c.args.c.now.rest c.elements.c.rest (omega (arith, c.elements-test.false)) c.elements.invariant.passes

-- ---- maps

pub pass_map-returns-in_err-head-clause-passed : goal.pass_map-returns-in_err-head-clause-passed
pass_map-returns-in_err-head-clause-passed g t c = λ start first.
    first_refused g.P.Parts.spells g.P.Parts.reads start c.args.c.now.rest c.map.new.c.rest (map_head c.args.left) (λ head. opened_pairs c.args.left head.key head.value head.size) c.in_err-head.field-0.0 c.from_residual.result
    first c.in_err-head.ensures.exact c.from_residual.ensures.1

pub pass_map-returns-in-Some-Some-clause-passed : goal.pass_map-returns-in-Some-Some-clause-passed
pass_map-returns-in-Some-Some-clause-passed g t c = λ start first.
    let kinds : opened_pairs c.args.left c.in_ok-head.head.key c.in_ok-head.head.value c.in_ok-head.head.size ≡ in_pairs c.args.left c.in-Some-Some.key c.in-Some-Some.value c.in_ok-head.head.size ∷ [] =
    ap (λ k. opened_pairs c.args.left k c.in_ok-head.head.value c.in_ok-head.head.size) c.in-Some-Some.is-0 ∙ ap (λ v. opened_pairs c.args.left (Some c.in-Some-Some.key) v c.in_ok-head.head.size) c.in-Some-Some.is-1 in
    passed_last g.P.Parts.spells g.P.Parts.reads start (in_pairs c.args.left c.in-Some-Some.key c.in-Some-Some.value c.in_ok-head.head.size) c.args.c.now.rest c.map.new.c.rest c.pass_pairs.new.c.rest c.pass_pairs.result
    (map_read g.P.Parts.spells g.P.Parts.reads g.met.P.Parts.reads_exactly.found start c.args.left c.in_ok-head.head (in_pairs c.args.left c.in-Some-Some.key c.in-Some-Some.value c.in_ok-head.head.size ∷ []) c.args.c.now.rest c.map.new.c.rest first c.in_ok-head.ensures.exact kinds)
    c.pass_pairs.ensures.passed

pub pass_map-returns-in_default-clause-passed : goal.pass_map-returns-in_default-clause-passed
pass_map-returns-in_default-clause-passed g t c = λ start first.
    map_read g.P.Parts.spells g.P.Parts.reads g.met.P.Parts.reads_exactly.found start c.args.left c.in_ok-head.head [] c.args.c.now.rest c.map.new.c.rest first c.in_ok-head.ensures.exact
    (ap (λ k. opened_pairs c.args.left k c.in_ok-head.head.value c.in_ok-head.head.size) c.in_default.is-0 ∙ ap (λ v. opened_pairs c.args.left (Some c.in_default.field-0-0) v c.in_ok-head.head.size) c.in_default.is-1)

pub pass_map-returns-in_default-2-clause-passed : goal.pass_map-returns-in_default-2-clause-passed
pass_map-returns-in_default-2-clause-passed g t c = λ start first.
    map_read g.P.Parts.spells g.P.Parts.reads g.met.P.Parts.reads_exactly.found start c.args.left c.in_ok-head.head [] c.args.c.now.rest c.map.new.c.rest first c.in_ok-head.ensures.exact
    (ap (λ k. opened_pairs c.args.left k c.in_ok-head.head.value c.in_ok-head.head.size) c.in_default.is-0)

pub pass_pairs-pairs-init : goal.pass_pairs-pairs-init
pass_pairs-pairs-init g t c = record {
  passes = subst (λ n. Passes g.P.Parts.spells (in_pairs c.args.left c.args.key c.args.value c.args.many ∷ []) c.args.c.now.rest (in_pairs c.args.left c.args.key c.args.value n ∷ []) c.args.c.now.rest) (omega arith)
      (no_turns g.P.Parts.spells (in_pairs c.args.left c.args.key c.args.value c.args.many ∷ []) c.args.c.now.rest);
  stays = refl;
}

pub pass_pairs-returns-in_err-pass_value-clause-passed : goal.pass_pairs-returns-in_err-pass_value-clause-passed
pass_pairs-returns-in_err-pass_value-clause-passed g t c =
    halted_in g.P.Parts.spells g.P.Parts.reads (in_pairs c.args.left c.args.key c.args.value c.args.many) (in_value c.args.left c.args.key None)
    (in_value c.args.left c.args.value None ∷ in_pairs c.args.left c.args.key c.args.value (c.args.many - (c.pairs._pair + 1)) ∷ [])
    c.args.c.now.rest c.pairs.c.rest c.pass_value.new.c.rest c.in_err-pass_value.field-0.0 c.from_residual.result
    (pair_opened g.P.Parts.spells (in_pairs c.args.left c.args.key c.args.value c.args.many) c.args.left c.args.many c.pairs._pair c.args.key c.args.value c.args.c.now.rest c.pairs.c.rest c.pairs-test.true c.pairs.invariant.passes)
    c.in_err-pass_value.ensures.passed c.from_residual.ensures.1

pub pass_pairs-returns-in_err-pass_value-2-clause-passed : goal.pass_pairs-returns-in_err-pass_value-2-clause-passed
pass_pairs-returns-in_err-pass_value-2-clause-passed g t c =
    let more = in_value c.args.left c.args.value None ∷ in_pairs c.args.left c.args.key c.args.value (c.args.many - (c.pairs._pair + 1)) ∷ [] in
    halted_in g.P.Parts.spells g.P.Parts.reads (in_pairs c.args.left c.args.key c.args.value c.args.many) (in_value c.args.left c.args.value None)
    (in_pairs c.args.left c.args.key c.args.value (c.args.many - (c.pairs._pair + 1)) ∷ [])
    c.args.c.now.rest c.pass_value.new.c.rest c.pass_value-in-pairs.new.c.rest c.in_err-pass_value-2.field-0.0 c.from_residual-in_err-pass_value-2.result
    (passed_in g.P.Parts.spells g.P.Parts.reads (in_pairs c.args.left c.args.key c.args.value c.args.many) (in_value c.args.left c.args.key None) more c.args.c.now.rest c.pairs.c.rest c.pass_value.new.c.rest
    (pair_opened g.P.Parts.spells (in_pairs c.args.left c.args.key c.args.value c.args.many) c.args.left c.args.many c.pairs._pair c.args.key c.args.value c.args.c.now.rest c.pairs.c.rest c.pairs-test.true c.pairs.invariant.passes)
    c.in_ok-pass_value.ensures.passed)
    c.in_err-pass_value-2.ensures.passed c.from_residual-in_err-pass_value-2.ensures.1

pub pass_pairs-pairs-preserved : goal.pass_pairs-pairs-preserved
pass_pairs-pairs-preserved g t c =
    let more = in_value c.args.left c.args.value None ∷ in_pairs c.args.left c.args.key c.args.value (c.args.many - (c.pairs._pair + 1)) ∷ [] in
    record {
      passes = passed_in g.P.Parts.spells g.P.Parts.reads (in_pairs c.args.left c.args.key c.args.value c.args.many) (in_value c.args.left c.args.value None)
          (in_pairs c.args.left c.args.key c.args.value (c.args.many - (c.pairs._pair + 1)) ∷ [])
          c.args.c.now.rest c.pass_value.new.c.rest c.pass_value-in-pairs.new.c.rest
          (passed_in g.P.Parts.spells g.P.Parts.reads (in_pairs c.args.left c.args.key c.args.value c.args.many) (in_value c.args.left c.args.key None) more c.args.c.now.rest c.pairs.c.rest c.pass_value.new.c.rest
          (pair_opened g.P.Parts.spells (in_pairs c.args.left c.args.key c.args.value c.args.many) c.args.left c.args.many c.pairs._pair c.args.key c.args.value c.args.c.now.rest c.pairs.c.rest c.pairs-test.true c.pairs.invariant.passes)
          c.in_ok-pass_value.ensures.passed)
          c.in_ok-pass_value-2.ensures.passed;
      stays = omega (arith, c.in_ok-pass_value-2.ensures.place, c.in_ok-pass_value.ensures.place, c.pairs.invariant.stays);
    }

pub pass_pairs-returns-clause-passed : goal.pass_pairs-returns-clause-passed
pass_pairs-returns-clause-passed g t c =
    no_pair_left g.P.Parts.spells (in_pairs c.args.left c.args.key c.args.value c.args.many) c.args.left (c.args.many - c.pairs._pair) c.args.key c.args.value c.args.c.now.rest c.pairs.c.rest (omega (arith, c.pairs-test.false)) c.pairs.invariant.passes
