-- The fields of an image file, each at its place.
use Rattle.std.specs.Prelude.{ℕ, ◌+◌, ◌%◌, ◌^◌, ◌==◌, List, [], ◌∷◌, length, take, drop, Option, Some, None, zero, suc, if◌then◌else◌, nat_lt, slice_index, option_and_then}
use Rattle.std.specs.Option.{option_map}
use Rattle.byteorder.specs.Endian.{little_number}

-- the number in the four or eight bytes at a place
abbrev pub number4_at : List ℕ → ℕ → ℕ
number4_at bytes place = little_number 4 (drop place bytes)

abbrev pub number8_at : List ℕ → ℕ → ℕ
number8_at bytes place = little_number 8 (drop place bytes)

-- the header of 64 bytes
abbrev pub magic : List ℕ → List ℕ
magic bytes = take 4 bytes

abbrev pub version : List ℕ → ℕ
version bytes = number4_at bytes 4

abbrev pub base_address : List ℕ → ℕ
base_address bytes = number8_at bytes 8

abbrev pub code_length : List ℕ → ℕ
code_length bytes = number4_at bytes 16

abbrev pub function_count : List ℕ → ℕ
function_count bytes = number4_at bytes 20

abbrev pub entry_count : List ℕ → ℕ
entry_count bytes = number4_at bytes 24

abbrev pub entry_index : List ℕ → ℕ
entry_index bytes = number4_at bytes 28

-- a function entry: where the function begins, and its name
pub record Function : Type 0 where
  pub start : ℕ
  pub name : List ℕ

-- an entry of the sled map as the file has it, field by field; the padding after the version isn't looked at
pub record MapFields : Type 0 where
  pub sled : ℕ
  pub function : ℕ
  pub kind : ℕ
  pub always : ℕ
  pub version : ℕ

-- what an entry of the sled map says: the addresses of its sled and of its function, and the flags
pub record MapEntry : Type 0 where
  pub sled : ℕ
  pub function : ℕ
  pub kind : ℕ
  pub always : ℕ
  pub version : ℕ

-- The address that a field says which is itself at an address. In version 2 it counts from the field, modulo 2^64. In
-- all other versions it is absolute.
abbrev pub address_said : (version at field : ℕ) → ℕ
address_said version at field = if version == 2 then (at + field) % 2 ^ 64 else field

-- what an entry says whose first byte is at an address
abbrev pub entry_at : ℕ → MapFields → MapEntry
entry_at at fields = record {
  sled = address_said fields.version at fields.sled;
  function = address_said fields.version (at + 8) fields.function;
  kind = fields.kind;
  always = fields.always;
  version = fields.version;
}

-- the same for entries of 32 bytes, one after the other
abbrev pub entries_from : ℕ → List MapFields → List MapEntry
entries_from at [] = []
entries_from at (fields ∷ others) = entry_at at fields ∷ entries_from (at + 32) others

-- how far above the base address the first entry of the sled map is
abbrev pub map_distance : ℕ
map_distance = 0x100000

-- a function entry and the bytes after it, if the bytes hold a whole one
abbrev pub function_entry_at : List ℕ → Option (Function × List ℕ)
function_entry_at bytes =
    let name_length = slice_index bytes 8 in
    if nat_lt (length bytes) (9 + name_length) then None
    else Some (record { start = number8_at bytes 0; name = take name_length (drop 9 bytes) }, drop (9 + name_length) bytes)

-- the same for a map entry of 32 bytes
abbrev pub map_fields_at : List ℕ → Option (MapFields × List ℕ)
map_fields_at bytes =
    if nat_lt (length bytes) 32 then None
    else Some (record { sled = number8_at bytes 0; function = number8_at bytes 8; kind = slice_index bytes 16; always = slice_index bytes 17; version = slice_index bytes 18 }, drop 32 bytes)

-- n items, one after the other, and the bytes after them
abbrev pub several : {X : Type 0} → (List ℕ → Option (X × List ℕ)) → ℕ → List ℕ → Option (List X × List ℕ)
several item zero bytes = Some ([], bytes)
several item (suc n) bytes =
    option_and_then (λ first. option_map (λ others. (first.0 ∷ others.0, others.1)) (several item n first.1)) (item bytes)

-- the parts after the header, with what the map's entries say, and the bytes after the last of them
pub record Parts : Type 0 where
  pub code : List ℕ
  pub functions : List Function
  pub entries : List MapEntry
  pub rest : List ℕ

-- the code, the functions and the map entries that the header counts, if the file holds all of them
abbrev pub parts_of : List ℕ → Option Parts
parts_of bytes =
    let code = take (code_length bytes) (drop 64 bytes) in
    let following = drop (64 + code_length bytes) bytes in
    if nat_lt (length bytes) (64 + code_length bytes) then None
    else option_and_then
    (λ functions. option_map
    (λ entries. record { code = code; functions = functions.0; entries = entries_from (base_address bytes + map_distance) entries.0; rest = entries.1 })
    (several map_fields_at (entry_count bytes) functions.1))
    (several function_entry_at (function_count bytes) following)
