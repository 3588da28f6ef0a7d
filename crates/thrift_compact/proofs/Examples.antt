-- The definitions on examples.
use Rattle.std.proofs.Common.{◌≡◌, ◌∷◌, ◌++◌, pos, negsuc, [], true, false, Some, None, Ok, Err, refl}
use Rattle.span_io.specs.declared.cause.Cause.TheVariants as causes
use Rattle.span_io.specs.Varint.{varint_within, varint_at, shortest_within, varint_text}
use Rattle.span_io.specs.Zigzag.{zigzag_at}
use Rattle.thrift_core.specs.declared.type_code.TypeCode.TheVariants as kinds
use Rattle.thrift_core.specs.Parts.{header, truth, byte, int, long, eight, size, list_head, map_head}
use Rattle.thrift_spellings.specs.CompactTypeCodes.{compact_kind_of_code, held_by_code}
use Rattle.thrift_spellings.specs.CompactSpelling.{compact_writes}
use Rattle.thrift_spellings.specs.CompactReading.{compact_reads, signed_at, compact_size_at, compact_header_at, compact_list_at, compact_map_at}

-- ---- fields

stop_read : compact_reads (header 31 (pos 0)) (0 ∷ 7 ∷ []) ≡ Ok (None, 7 ∷ [])
unfolding compact_header_at
stop_read = refl

-- the id is 15 higher
near_field : compact_reads (header 0 (pos 1)) (248 ∷ 7 ∷ []) ≡ Ok (Some (record { id = pos 16; kind = kinds.Binary; held = None }), 7 ∷ [])
unfolding compact_header_at compact_kind_of_code held_by_code
near_field = refl

-- the id stands behind
far_field : compact_reads (header 1 (pos 5)) (12 ∷ 1 ∷ []) ≡ Ok (Some (record { id = negsuc 0; kind = kinds.Struct; held = None }), [])
unfolding compact_header_at compact_kind_of_code held_by_code signed_at zigzag_at varint_at varint_within
far_field = refl

held_field : compact_reads (header 0 (pos 0)) (18 ∷ []) ≡ Ok (Some (record { id = pos 1; kind = kinds.Truth; held = Some false }), [])
unfolding compact_header_at compact_kind_of_code held_by_code
held_field = refl

unknown_type : compact_reads (header 31 (pos 0)) (29 ∷ []) ≡ Err causes.BadWire
unfolding compact_header_at compact_kind_of_code
unknown_type = refl

-- where no level is left the code of a container is refused at once
deep_field : compact_reads (header 0 (pos 0)) (28 ∷ []) ≡ Err causes.TooDeep
unfolding compact_header_at compact_kind_of_code
deep_field = refl

-- an id of 32768
id_outside : compact_reads (header 31 (pos 0)) (5 ∷ 128 ∷ 128 ∷ 4 ∷ []) ≡ Err causes.BadWire
unfolding compact_header_at compact_kind_of_code signed_at zigzag_at varint_at varint_within
id_outside = refl

cut_id : compact_reads (header 31 (pos 0)) (5 ∷ 255 ∷ []) ≡ Err causes.Truncated
unfolding compact_header_at compact_kind_of_code signed_at zigzag_at varint_at varint_within
cut_id = refl

-- ---- numbers

truth_read : compact_reads (truth None) (2 ∷ []) ≡ Ok (false, [])
truth_read = refl

held_read : compact_reads (truth (Some true)) (2 ∷ []) ≡ Ok (true, 2 ∷ [])
held_read = refl

byte_read : compact_reads byte (255 ∷ []) ≡ Ok (negsuc 0, [])
byte_read = refl

int_read : compact_reads int (3 ∷ 7 ∷ []) ≡ Ok (negsuc 1, 7 ∷ [])
unfolding signed_at zigzag_at varint_at varint_within
int_read = refl

-- 2147483648
int_outside : compact_reads int (128 ∷ 128 ∷ 128 ∷ 128 ∷ 16 ∷ []) ≡ Err causes.BadVarint
unfolding signed_at zigzag_at varint_at varint_within
int_outside = refl

double_read : compact_reads eight (0 ∷ 0 ∷ 0 ∷ 0 ∷ 0 ∷ 0 ∷ 240 ∷ 63 ∷ []) ≡ Ok (63 ∷ 240 ∷ 0 ∷ 0 ∷ 0 ∷ 0 ∷ 0 ∷ 0 ∷ [], [])
double_read = refl

large_size : compact_reads size (128 ∷ 128 ∷ 128 ∷ 128 ∷ 8 ∷ []) ≡ Err causes.BadSize
unfolding compact_size_at varint_at varint_within
large_size = refl

-- ---- lists and maps

short_list : compact_reads (list_head 1) (44 ∷ []) ≡ Ok (record { element = Some kinds.Struct; size = 2 }, [])
unfolding compact_list_at compact_kind_of_code
short_list = refl

-- a long head of one element
long_head : compact_reads (list_head 0) (248 ∷ 1 ∷ []) ≡ Ok (record { element = Some kinds.Binary; size = 1 }, [])
unfolding compact_list_at compact_size_at compact_kind_of_code varint_at varint_within
long_head = refl

empty_list : compact_reads (list_head 0) (13 ∷ []) ≡ Ok (record { element = None; size = 0 }, [])
unfolding compact_list_at compact_kind_of_code
empty_list = refl

deep_list : compact_reads (list_head 0) (252 ∷ 128 ∷ 128 ∷ 128 ∷ 128 ∷ 8 ∷ []) ≡ Err causes.TooDeep
unfolding compact_list_at compact_size_at compact_kind_of_code varint_at varint_within
deep_list = refl

empty_map : compact_reads (map_head 0) (0 ∷ 9 ∷ []) ≡ Ok (record { key = None; value = None; size = 0 }, 9 ∷ [])
unfolding compact_map_at compact_size_at varint_at varint_within
empty_map = refl

-- TooDeep goes before BadWire
deep_map : compact_reads (map_head 0) (3 ∷ 220 ∷ []) ≡ Err causes.TooDeep
unfolding compact_map_at compact_size_at compact_kind_of_code varint_at varint_within
deep_map = refl

-- ---- writing

near_written : compact_writes (header 31 (pos 9)) (Some (record { id = pos 10; kind = kinds.List; held = None })) ++ compact_writes (list_head 30) (record { element = Some kinds.Struct; size = 1 }) ≡ 25 ∷ 28 ∷ []
near_written = refl

far_written : compact_writes (header 31 (pos 20)) (Some (record { id = pos 36; kind = kinds.I64; held = None })) ≡ 6 ∷ 72 ∷ []
unfolding varint_text shortest_within
far_written = refl

long_written : compact_writes long (negsuc 299) ≡ 215 ∷ 4 ∷ []
unfolding varint_text shortest_within
long_written = refl
