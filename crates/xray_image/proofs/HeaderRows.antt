-- The rows of the header: which of its fields is the first out of range.
use Rattle.std.proofs.Common.{◌≡◌, ℕ, ◌<◌, ◌≤◌, ◌%◌, true, inl, inr, List, [], ◌∷◌, length, Err, refl, sym, subst, ◌∙◌, arith}
use Rattle.std.specs.Prelude.{◌⊎◌, codes, nat_eq}
use Rattle.std.specs.List.{starts_with}
use Rattle.std.proofs.lemmas.Grind.{common_steps}
use Rattle.xray_image.specs.declared.fault.ImageFault.TheVariants as faults
use Rattle.xray_image.specs.declared.fault.Which.TheVariants as limits
use Rattle.xray_image.specs.declared.header.Header.{Header}
use Rattle.xray_image.specs.Container.{magic, version, code_length, function_count, entry_count, entry_index}
use Rattle.xray_image.specs.Header.{HasHeader}
use Rattle.xray_image.specs.Table.{ImageReading, ReadsAs, ReadsParts}
use Rattle.xray_image.specs.private.Views.{IsHeaderOf}

-- the first four bytes of bytes that start with the magic are the magic
pub magic_is : (bytes : List ℕ) → true ≡ starts_with nat_eq bytes (0x58 ∷ 0x52 ∷ 0x49 ∷ 0x4D ∷ []) → magic bytes ≡ codes "XRIM"
magic_is bytes e = grind (arith, common_steps)

-- after a header in range the parts decide
pub past_header : (bytes : List ℕ) (v : ImageReading) → HasHeader bytes → ReadsParts bytes v → ReadsAs bytes v
past_header bytes v h parts =
    inr (h.has_header, inr (h.magic_bytes, inr (h.first_version, inr (h.code_limit, inr ((h.some_function, h.functions_limit), inr (h.sleds_limit, inr (h.entry_exists, inr ((h.base_aligned, h.base_limit), parts))))))))

pub version_other : (bytes : List ℕ) (h : Header) → IsHeaderOf bytes h → 64 ≤ length bytes → magic bytes ≡ codes "XRIM" → (h.version ≡ 1 → ⊥) → ReadsAs bytes (Err faults.Version)
version_other bytes h is long begins other = inr (long, inr (begins, inl (λ first. other (is.version ∙ first), refl)))

pub code_beyond : (bytes : List ℕ) (h : Header) → IsHeaderOf bytes h → 64 ≤ length bytes → magic bytes ≡ codes "XRIM" → h.version ≡ 1 → 1048576 < h.code_length
    → ReadsAs bytes (Err (faults.Limit limits.Code))
code_beyond bytes h is long begins first beyond =
    inr (long, inr (begins, inr (sym is.version ∙ first, inl (λ within. let within' : h.code_length ≤ 1048576 = subst (λ (n : ℕ). n ≤ 1048576) (sym is.code_length) within in omega arith, refl))))

module _ (bytes : List ℕ) (h : Header) (is : IsHeaderOf bytes h) (long : 64 ≤ length bytes) (begins : magic bytes ≡ codes "XRIM") (first : h.version ≡ 1) (code : h.code_length ≤ 1048576) where
  first_version : version bytes ≡ 1
  first_version = sym is.version ∙ first

  code_limit : code_length bytes ≤ 1048576
  code_limit = subst (λ (n : ℕ). n ≤ 1048576) is.code_length code

  functions_limit : (0 < h.functions) × (h.functions ≤ 1024) → (0 < function_count bytes) × (function_count bytes ≤ 1024)
  functions_limit within = subst (λ (n : ℕ). (0 < n) × (n ≤ 1024)) is.functions within

  pub functions_beyond : (h.functions ≡ 0) ⊎ ((h.functions ≡ 0 → ⊥) × (1024 < h.functions)) → ReadsAs bytes (Err (faults.Limit limits.Functions))
  functions_beyond beyond =
      inr (long, inr (begins, inr (first_version, inr (code_limit, inl (λ within. outside h.functions beyond (subst (λ (n : ℕ). (0 < n) × (n ≤ 1024)) (sym is.functions) within), refl)))))
    where
      outside : (n : ℕ) → (n ≡ 0) ⊎ ((n ≡ 0 → ⊥) × (1024 < n)) → (0 < n) × (n ≤ 1024) → ⊥
      outside n (inl none) within = let low = within.0 in omega arith
      outside n (inr many) within = let high = within.1 in let more = many.1 in omega arith

  module _ (functions : (0 < h.functions) × (h.functions ≤ 1024)) where
    pub sleds_beyond : 4096 < h.entries → ReadsAs bytes (Err (faults.Limit limits.Sleds))
    sleds_beyond beyond =
        inr (long, inr (begins, inr (first_version, inr (code_limit, inr (functions_limit functions, inl (λ within. let within' : h.entries ≤ 4096 = subst (λ (n : ℕ). n ≤ 4096) (sym is.entries) within in omega arith, refl))))))

    module _ (sleds : h.entries ≤ 4096) where
      sleds_limit : entry_count bytes ≤ 4096
      sleds_limit = subst (λ (n : ℕ). n ≤ 4096) is.entries sleds

      pub entry_beyond : h.functions ≤ h.entry_index → ReadsAs bytes (Err (faults.Limit limits.Entry))
      entry_beyond beyond =
          inr (long, inr (begins, inr (first_version, inr (code_limit, inr (functions_limit functions, inr (sleds_limit, inl (missing, refl)))))))
        where
          missing : entry_index bytes < function_count bytes → ⊥
          missing within =
              let within' : h.entry_index < h.functions = subst (λ (n : ℕ). n < h.functions) (sym is.entry_index) (subst (λ (n : ℕ). entry_index bytes < n) (sym is.functions) within) in
              omega arith

      pub base_beyond : h.entry_index < h.functions → (h.base % 16 ≡ 0 → ⊥) ⊎ (((h.base % 16 ≡ 0 → ⊥) → ⊥) × (0x7FFF00000000 < h.base)) → ReadsAs bytes (Err (faults.Limit limits.Base))
      base_beyond entry beyond =
          inr (long, inr (begins, inr (first_version, inr (code_limit, inr (functions_limit functions, inr (sleds_limit, inr (exists, inl (λ within. outside h.base beyond (subst (λ (n : ℕ). (n % 16 ≡ 0) × (n ≤ 0x7FFF00000000)) (sym is.base) within), refl))))))))
        where
          exists : entry_index bytes < function_count bytes
          exists = subst (λ (n : ℕ). n < function_count bytes) is.entry_index (subst (λ (n : ℕ). h.entry_index < n) is.functions entry)

          outside : (n : ℕ) → (n % 16 ≡ 0 → ⊥) ⊎ (((n % 16 ≡ 0 → ⊥) → ⊥) × (0x7FFF00000000 < n)) → (n % 16 ≡ 0) × (n ≤ 0x7FFF00000000) → ⊥
          outside n (inl odd) within = odd within.0
          outside n (inr high) within = let low = within.1 in let more = high.1 in omega arith
