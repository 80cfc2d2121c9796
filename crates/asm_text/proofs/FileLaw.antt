-- A file whose parts are in order is accepted by the definition of image files.
use Rattle.std.proofs.Common.{◌≡◌, ℕ, ◌+◌, ◌%◌, ◌^◌, ◌<◌, ◌≤◌, List, [], ◌++◌, length, map, All, refl, sym, ap, subst, ◌∙◌, arith, append_assoc}
use Rattle.std.specs.Prelude.{codes, slice_get}
use Rattle.std.specs.Option.{option_map_or}
use Rattle.std.specs.List.{flat_map, zip}
use Rattle.byteorder.specs.Endian.{little_bytes}
use Rattle.byteorder.specs.Numbers.{little_number-reads_back}
use Rattle.xray_image.specs.Units.{Piece, IsUnits, units_from, places_from}
use Rattle.xray_image.specs.Container.{magic, version, base_address, code_length, function_count, entry_count, entry_index, number8_at}
use Rattle.xray_image.specs.Program.{Program, AreFunctions, EachSled, IsEntryOf, Reaches, BranchesReach, IsAccepted, program_of, sled_of}
use Rattle.asm_text.specs.Programs.{trampolines_at}
use Rattle.asm_text.specs.Writing.{File, image_header_bytes, function_bytes, image_bytes, map_bytes}
use Rattle.asm_text.proofs.ReadBack.{FileFits, parts_back}

-- the fields of the header, as they are read
pub record IsReadHeader (f : File) (bytes : List ℕ) : Type 0 where
  pub whole : 64 ≤ length bytes
  pub begins : magic bytes ≡ codes "XRIM"
  pub first : version bytes ≡ 1
  pub base : base_address bytes ≡ f.base
  pub code : code_length bytes ≡ length f.code
  pub functions : function_count bytes ≡ length f.functions
  pub entries : entry_count bytes ≡ length f.entries
  pub entry : entry_index bytes ≡ f.entry
  pub entry_trampoline : number8_at bytes 32 ≡ f.base + 0x200000
  pub exit_trampoline : number8_at bytes 40 ≡ f.base + 0x200010
  pub tail_trampoline : number8_at bytes 48 ≡ f.base + 0x200020
  pub args_trampoline : number8_at bytes 56 ≡ f.base + 0x200030

header_front : (f : File) (rest : List ℕ) → FileFits f → f.entry < 256 ^ 4 → IsReadHeader f (image_header_bytes f ++ rest)
header_front f rest fits entry_fits =
    let low = fits.base in
    let second = little_bytes 8 (f.base + 0x200010) in
    let third = little_bytes 8 (f.base + 0x200020) in
    let last = little_bytes 8 (f.base + 0x200030) in
    let trampolines = little_bytes 8 (f.base + 0x200000) ++ (second ++ (third ++ (last ++ rest))) in
    let entry_after = little_bytes 4 f.entry ++ trampolines in
    let entries_after = little_bytes 4 (length f.entries) ++ entry_after in
    let functions_after = little_bytes 4 (length f.functions) ++ entries_after in
    record {
      whole = omega arith;
      begins = refl;
      first = refl;
      base = little_number-reads_back 8 f.base (little_bytes 4 (length f.code) ++ functions_after) (omega arith);
      code = little_number-reads_back 4 (length f.code) functions_after fits.code;
      functions = little_number-reads_back 4 (length f.functions) entries_after fits.function_count;
      entries = little_number-reads_back 4 (length f.entries) entry_after fits.entry_count;
      entry = little_number-reads_back 4 f.entry trampolines entry_fits;
      entry_trampoline = little_number-reads_back 8 (f.base + 0x200000) (second ++ (third ++ (last ++ rest))) (omega arith);
      exit_trampoline = little_number-reads_back 8 (f.base + 0x200010) (third ++ (last ++ rest)) (omega arith);
      tail_trampoline = little_number-reads_back 8 (f.base + 0x200020) (last ++ rest) (omega arith);
      args_trampoline = little_number-reads_back 8 (f.base + 0x200030) rest (omega arith);
    }

pub header_back : (f : File) → FileFits f → f.entry < 256 ^ 4 → IsReadHeader f (image_bytes f)
header_back f fits entry_fits =
    let functions_part = flat_map function_bytes f.functions in
    let entries_part = map_bytes f.base f.entries in
    let shape : image_bytes f ≡ image_header_bytes f ++ (f.code ++ (functions_part ++ entries_part)) =
    append_assoc (image_header_bytes f ++ f.code) functions_part entries_part ∙ append_assoc (image_header_bytes f) f.code (functions_part ++ entries_part) in
    subst (IsReadHeader f) (sym shape) (header_front f (f.code ++ (functions_part ++ entries_part)) fits entry_fits)

-- the program of a file with these pieces in its code
abbrev pub program_in : File → List Piece → Program
program_in f pieces = record {
  base = f.base;
  entry = option_map_or (λ g. g.start) (slice_get f.functions f.entry) 0;
  code = f.code;
  functions = f.functions;
  units = units_from f.base 0 pieces;
  sleds = map (sled_of f.entries) (zip (places_from f.base pieces) f.entries);
  trampolines = trampolines_at f.base;
}

-- the parts of a file fit together
pub record IsInOrder (f : File) (pieces : List Piece) : Type 0 where
  pub fits : FileFits f
  pub base_aligned : f.base % 16 ≡ 0
  pub code_limit : length f.code ≤ 1048576
  pub functions_limit : length f.functions ≤ 1024
  pub sleds_limit : length f.entries ≤ 4096
  pub entry_exists : f.entry < length f.functions
  pub units : IsUnits f.code pieces
  pub even_sleds : All (λ place. place.address % 2 ≡ 0) (places_from f.base pieces)
  pub functions : AreFunctions f.base (units_from f.base 0 pieces) f.functions
  pub map_order : map (λ e. e.sled) f.entries ≡ map (λ p. p.address) (places_from f.base pieces)
  pub entries : EachSled (places_from f.base pieces) f.entries (IsEntryOf f.functions)
  pub near : EachSled (places_from f.base pieces) f.entries (Reaches (trampolines_at f.base))
  pub branches : BranchesReach (units_from f.base 0 pieces)

module _ (f : File) (pieces : List Piece) (ordered : IsInOrder f pieces) where
  small_entry : f.entry < 256 ^ 4
  small_entry = omega (arith, ordered.entry_exists, ordered.functions_limit)

  header : IsReadHeader f (image_bytes f)
  header = header_back f ordered.fits small_entry

  -- what the bytes say
  program_read : program_in f pieces ≡ program_of (image_bytes f) (record { code = f.code; functions = f.functions; entries = f.entries; rest = [] }) pieces
  program_read =
      let bytes = image_bytes f in
      let made : ℕ → ℕ → ℕ → ℕ → ℕ → ℕ → Program = λ base number entry exit tail args. record {
        base = base;
        entry = option_map_or (λ g. g.start) (slice_get f.functions number) 0;
        code = f.code;
        functions = f.functions;
        units = units_from base 0 pieces;
        sleds = map (sled_of f.entries) (zip (places_from base pieces) f.entries);
        trampolines = record { entry = entry; exit = exit; tail = tail; args = args };
      } in
      sym
      (ap (λ n. made n (entry_index bytes) (number8_at bytes 32) (number8_at bytes 40) (number8_at bytes 48) (number8_at bytes 56)) header.base
      ∙ ap (λ n. made f.base n (number8_at bytes 32) (number8_at bytes 40) (number8_at bytes 48) (number8_at bytes 56)) header.entry
      ∙ ap (λ n. made f.base f.entry n (number8_at bytes 40) (number8_at bytes 48) (number8_at bytes 56)) header.entry_trampoline
      ∙ ap (λ n. made f.base f.entry (f.base + 0x200000) n (number8_at bytes 48) (number8_at bytes 56)) header.exit_trampoline
      ∙ ap (λ n. made f.base f.entry (f.base + 0x200000) (f.base + 0x200010) n (number8_at bytes 56)) header.tail_trampoline
      ∙ ap (λ n. made f.base f.entry (f.base + 0x200000) (f.base + 0x200010) (f.base + 0x200020) n) header.args_trampoline)

  pub accepted_file : IsAccepted (image_bytes f) (program_in f pieces)
  accepted_file =
      let back = sym header.base in
      record {
        header = record {
          has_header = header.whole;
          magic_bytes = header.begins;
          first_version = header.first;
          code_limit = omega (arith, header.code, ordered.code_limit);
          some_function = omega (arith, header.functions, ordered.entry_exists);
          functions_limit = omega (arith, header.functions, ordered.functions_limit);
          sleds_limit = omega (arith, header.entries, ordered.sleds_limit);
          entry_exists = omega (arith, header.entry, header.functions, ordered.entry_exists);
          base_aligned = subst (λ n. n % 16 ≡ 0) back ordered.base_aligned;
          base_limit = subst (λ n. n ≤ 0x7FFF00000000) back ordered.fits.base;
        };
        parts = record { code = f.code; functions = f.functions; entries = f.entries; rest = [] };
        reaches = parts_back f ordered.fits;
        nothing_after = refl;
        pieces = pieces;
        units = ordered.units;
        even_sleds = subst (λ n. All (λ place. place.address % 2 ≡ 0) (places_from n pieces)) back ordered.even_sleds;
        functions = subst (λ n. AreFunctions n (units_from f.base 0 pieces) f.functions) back ordered.functions;
        map_order = subst (λ n. map (λ e. e.sled) f.entries ≡ map (λ p. p.address) (places_from n pieces)) back ordered.map_order;
        entries = subst (λ n. EachSled (places_from n pieces) f.entries (IsEntryOf f.functions)) back ordered.entries;
        near = subst (λ n. EachSled (places_from n pieces) f.entries (Reaches (trampolines_at f.base))) back ordered.near;
        branches = ordered.branches;
        holds = program_read;
      }
