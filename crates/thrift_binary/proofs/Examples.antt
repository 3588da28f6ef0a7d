-- The definitions on examples.
use Rattle.std.proofs.Common.{◌≡◌, ◌∷◌, ◌++◌, pos, negsuc, [], true, false, Some, None, Ok, Err, refl, arith}
use Rattle.span_io.specs.declared.cause.Cause.TheVariants as causes
use Rattle.thrift_core.specs.declared.type_code.TypeCode.TheVariants as kinds
use Rattle.thrift_core.specs.declared.field.Field.{Field}
use Rattle.thrift_core.specs.declared.stack.Level.TheVariants as levels
use Rattle.thrift_core.specs.Places.{levels_on, Place, at_part, in_binary}
use Rattle.thrift_core.specs.Walks.{opened_by_header, opened_by_size, Turns, outer_struct}
use Rattle.thrift_core.specs.Parts.{header, truth, byte, int, long, size, list_head, map_head}
use Rattle.thrift_spellings.specs.BinaryTypeCodes.{kind_among, binary_kind_of_code}
use Rattle.thrift_spellings.specs.BinarySpelling.{binary_spells, binary_writes}
use Rattle.thrift_spellings.specs.BinaryReading.{binary_reads, binary_size_at, binary_header_at, binary_list_at, binary_map_at}

-- ---- fields

stop_read : binary_reads (header 31 (pos 0)) (0 ∷ 7 ∷ []) ≡ Ok (None, 7 ∷ [])
unfolding binary_header_at
stop_read = refl

field_read : binary_reads (header 0 (pos 0)) (8 ∷ 1 ∷ 2 ∷ 7 ∷ []) ≡ Ok (Some (record { id = pos 258; kind = kinds.I32; held = None }), 7 ∷ [])
unfolding binary_header_at binary_kind_of_code kind_among
field_read = refl

negative_id : binary_reads (header 1 (pos 5)) (12 ∷ 255 ∷ 254 ∷ []) ≡ Ok (Some (record { id = negsuc 1; kind = kinds.Struct; held = None }), [])
unfolding binary_header_at binary_kind_of_code kind_among
negative_id = refl

unknown_type : binary_reads (header 31 (pos 0)) (5 ∷ []) ≡ Err causes.BadWire
unfolding binary_header_at binary_kind_of_code kind_among
unknown_type = refl

-- where no level is left the code of a container is refused at once
deep_field : binary_reads (header 0 (pos 0)) (12 ∷ []) ≡ Err causes.TooDeep
unfolding binary_header_at binary_kind_of_code kind_among
deep_field = refl

cut_id : binary_reads (header 31 (pos 0)) (12 ∷ 0 ∷ []) ≡ Err causes.Truncated
unfolding binary_header_at binary_kind_of_code kind_among
cut_id = refl

-- ---- numbers

truth_read : binary_reads (truth None) (2 ∷ []) ≡ Ok (true, [])
truth_read = refl

held_read : binary_reads (truth (Some false)) (2 ∷ []) ≡ Ok (false, 2 ∷ [])
held_read = refl

byte_read : binary_reads byte (255 ∷ []) ≡ Ok (negsuc 0, [])
byte_read = refl

int_read : binary_reads int (255 ∷ 255 ∷ 255 ∷ 254 ∷ 7 ∷ []) ≡ Ok (negsuc 1, 7 ∷ [])
int_read = refl

size_read : binary_reads size (0 ∷ 0 ∷ 1 ∷ 2 ∷ 7 ∷ []) ≡ Ok (258, 7 ∷ [])
unfolding binary_size_at
size_read = refl

-- a size is negative once its first byte is there
negative_size : binary_reads size (128 ∷ []) ≡ Err causes.BadSize
unfolding binary_size_at
negative_size = refl

cut_size : binary_reads size (127 ∷ 255 ∷ 255 ∷ []) ≡ Err causes.Truncated
unfolding binary_size_at
cut_size = refl

-- ---- lists and maps

empty_list : binary_reads (list_head 0) (255 ∷ 0 ∷ 0 ∷ 0 ∷ 0 ∷ []) ≡ Ok (record { element = None; size = 0 }, [])
unfolding binary_list_at binary_size_at binary_kind_of_code kind_among
empty_list = refl

-- elements of a type that is unknown: the fourth byte says that there are some
unknown_elements : binary_reads (list_head 31) (255 ∷ 0 ∷ 0 ∷ 1 ∷ []) ≡ Err causes.BadWire
unfolding binary_list_at binary_size_at binary_kind_of_code kind_among
unknown_elements = refl

still_open : binary_reads (list_head 31) (255 ∷ 0 ∷ 0 ∷ []) ≡ Err causes.Truncated
unfolding binary_list_at binary_size_at binary_kind_of_code kind_among
still_open = refl

-- a negative size of structs, where a level is left and where none is
negative_list : binary_reads (list_head 1) (12 ∷ 255 ∷ []) ≡ Err causes.BadSize
unfolding binary_list_at binary_size_at binary_kind_of_code kind_among
negative_list = refl

deep_list : binary_reads (list_head 0) (12 ∷ 255 ∷ []) ≡ Err causes.TooDeep
unfolding binary_list_at binary_size_at binary_kind_of_code kind_among
deep_list = refl

-- TooDeep goes before BadWire
deep_map : binary_reads (map_head 0) (255 ∷ 12 ∷ 0 ∷ 0 ∷ 0 ∷ 1 ∷ []) ≡ Err causes.TooDeep
unfolding binary_map_at binary_size_at binary_kind_of_code kind_among
deep_map = refl

unknown_map : binary_reads (map_head 1) (255 ∷ 12 ∷ 128 ∷ []) ≡ Err causes.BadWire
unfolding binary_map_at binary_size_at binary_kind_of_code kind_among
unknown_map = refl

empty_map : binary_reads (map_head 0) (255 ∷ 12 ∷ 0 ∷ 0 ∷ 0 ∷ 0 ∷ 9 ∷ []) ≡ Ok (record { key = None; value = Some kinds.Struct; size = 0 }, 9 ∷ [])
unfolding binary_map_at binary_size_at binary_kind_of_code kind_among
empty_map = refl

-- ---- writing

field_written : binary_writes (header 31 (pos 0)) (Some (record { id = pos 10; kind = kinds.List; held = None })) ++ binary_writes (list_head 30) (record { element = Some kinds.Struct; size = 1 })
    ≡ 15 ∷ 0 ∷ 10 ∷ 12 ∷ 0 ∷ 0 ∷ 0 ∷ 1 ∷ []
field_written = refl

long_written : binary_writes long (negsuc 1) ≡ 255 ∷ 255 ∷ 255 ∷ 255 ∷ 255 ∷ 255 ∷ 255 ∷ 254 ∷ []
long_written = refl

truth_written : binary_writes (truth None) true ≡ 1 ∷ []
truth_written = refl

-- ---- where a scan stands

abbrev field_1 : Field
field_1 = record { id = pos 1; kind = kinds.Binary; held = None }

-- in the head of a field: the carry has its first two bytes
cut_head : Place binary_spells outer_struct (11 ∷ 0 ∷ []) (levels.Fields (pos 0)) [] (11 ∷ 0 ∷ []) 0
unfolding Turns levels_on
cut_head = at_part refl (record { count = 0; turns = (refl, refl) }) (omega arith)

-- behind a field's head, and the first two bytes of a binary's length
cut_length : Place binary_spells outer_struct (11 ∷ 0 ∷ 1 ∷ 0 ∷ 0 ∷ []) (levels.Field (pos 1) kinds.Binary None) [] (0 ∷ 0 ∷ []) 0
unfolding Turns levels_on binary_kind_of_code kind_among
cut_length = at_part refl (record {
  count = 1;
  turns = (
    opened_by_header 31 (Some field_1),
    0 ∷ 0 ∷ [],
    (Some field_1, record { text = 11 ∷ 0 ∷ 1 ∷ []; spelled = (refl, (λ h. absurd h), (refl, refl), refl); parts = refl }, refl),
    (refl, refl),
  );
}) (omega arith)

-- in a binary of five bytes, of which two came
cut_binary : Place binary_spells outer_struct (11 ∷ 0 ∷ 1 ∷ 0 ∷ 0 ∷ 0 ∷ 5 ∷ 97 ∷ 98 ∷ []) (levels.Fields (pos 1)) [] [] 3
unfolding Turns levels_on binary_kind_of_code kind_among
cut_binary = in_binary refl (record {
  held = 5;
  rest = 97 ∷ 98 ∷ [];
  passes = record {
    count = 2;
    turns = (
      opened_by_header 31 (Some field_1),
      0 ∷ 0 ∷ 0 ∷ 5 ∷ 97 ∷ 98 ∷ [],
      (Some field_1, record { text = 11 ∷ 0 ∷ 1 ∷ []; spelled = (refl, (λ h. absurd h), (refl, refl), refl); parts = refl }, refl),
      (
        opened_by_size 5,
        97 ∷ 98 ∷ [],
        (5, record { text = 0 ∷ 0 ∷ 0 ∷ 5 ∷ []; spelled = (omega arith, refl); parts = refl }, refl),
        (refl, refl),
      ),
    );
  };
  missing = refl;
  some = omega arith;
})
