-- The bytes of a file, as they are put together.
use Rattle.std.proofs.Common.{◌≡◌, ℕ, ◌+◌, ◌<◌, List, [], ◌∷◌, ◌++◌, length, take, drop, get_or, replicate, refl, sym, ap, ◌∙◌}
use Rattle.std.specs.List.{flat_map}
use Rattle.std.proofs.lemmas.List.{append-nil, take_more, take-append-drop}
use Rattle.std.proofs.lemmas.Grind.{flat_map-append}
use Rattle.byteorder.specs.Endian.{little_bytes}
use Rattle.fdr_record.specs.declared.rec.Rec.TheVariants.{Extents}
use Rattle.fdr_record.specs.Records.{record_bytes}
use Rattle.fdr_buffer.specs.Filled.{Filled, used_bytes}
use Rattle.fdr_file.specs.declared.header.Header.{Header}
use Rattle.fdr_file.specs.Files.{block_bytes, flags_of, header_bytes}

-- the parts of a header
pub header_parts : (h : Header) (version form flags frequency size : List ℕ) → version ≡ little_bytes 2 h.version → form ≡ little_bytes 2 1 → flags ≡ little_bytes 4 (flags_of h)
    → frequency ≡ little_bytes 8 h.frequency → size ≡ little_bytes 8 h.size → version ++ (form ++ (flags ++ (frequency ++ (size ++ (replicate 8 0 ++ []))))) ≡ header_bytes h
header_parts h version form flags frequency size e1 e2 e3 e4 e5 = rw (e1, e2, e3, e4, e5) refl

-- the parts of a block
pub block_parts : (buffer : Filled) (extents bytes : List ℕ) (n : ℕ) → bytes ≡ used_bytes buffer → n ≡ length bytes → extents ≡ record_bytes (Extents n) → extents ++ (bytes ++ []) ≡ block_bytes buffer
block_parts buffer extents bytes n is count named =
    ap (λ (x : List ℕ). extents ++ x) (append-nil bytes) ∙ ap (λ (x : List ℕ). x ++ bytes) (named ∙ ap (λ (k : ℕ). record_bytes (Extents k)) (count ∙ ap length is)) ∙ ap (λ (x : List ℕ). record_bytes (Extents (length (used_bytes buffer))) ++ x) is

-- the blocks of the first i buffers, and of the next one
pub blocks_more : (buffers : List Filled) (i : ℕ) (d : Filled) → i < length buffers → flat_map block_bytes (take i buffers) ++ block_bytes (get_or buffers i d) ≡ flat_map block_bytes (take (i + 1) buffers)
blocks_more buffers i d below =
    ap (λ (x : List ℕ). flat_map block_bytes (take i buffers) ++ x) (sym (append-nil (block_bytes (get_or buffers i d))))
    ∙ sym (ap (flat_map block_bytes) (take_more buffers i d below) ∙ flat_map-append block_bytes (take i buffers) (get_or buffers i d ∷ []))

-- the blocks of the first i buffers, and of the rest
pub blocks_split : (buffers : List Filled) (i : ℕ) → flat_map block_bytes (take i buffers) ++ flat_map block_bytes (drop i buffers) ≡ flat_map block_bytes buffers
blocks_split buffers i = sym (flat_map-append block_bytes (take i buffers) (drop i buffers)) ∙ ap (flat_map block_bytes) (take-append-drop i buffers)
