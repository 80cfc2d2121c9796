-- What the header of an accepted image file says.
use Rattle.std.specs.Prelude.{◌≡◌, ◌<◌, ◌≤◌, ◌%◌, ℕ, List, length, codes}
use Rattle.xray_image.specs.Container.{magic, version, base_address, code_length, function_count, entry_count, entry_index}
use Rattle.xray_image.specs.Limits.{highest_base, most_code, most_functions, most_sleds}

-- the header is whole, and each of its fields is in range
pub record HasHeader (bytes : List ℕ) : Type 0 where
  pub has_header : 64 ≤ length bytes
  pub magic_bytes : magic bytes ≡ codes "XRIM"
  pub first_version : version bytes ≡ 1
  pub code_limit : code_length bytes ≤ most_code
  pub some_function : 0 < function_count bytes
  pub functions_limit : function_count bytes ≤ most_functions
  pub sleds_limit : entry_count bytes ≤ most_sleds
  pub entry_exists : entry_index bytes < function_count bytes
  pub base_aligned : base_address bytes % 16 ≡ 0
  pub base_limit : base_address bytes ≤ highest_base
