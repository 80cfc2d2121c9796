-- The blocks of a log stand one behind the other.
use Rattle.std.proofs.Common.{◌≡◌, ℕ, zero, suc, ◌+◌, ◌-◌, ◌<◌, ◌≤◌, List, [], ◌∷◌, ◌++◌, length, drop, Result, Ok, Err, refl, sym, ap, subst, arith}
use Rattle.std.proofs.lemmas.List.{length-drop}
use Rattle.xray_io.specs.Rows.{InTurn, ◌>>=◌}
use Rattle.fdr_file.specs.declared.fault.TraceFault.{TraceFault}
use Rattle.fdr_file.specs.Places.{starts}
use Rattle.fdr_file.specs.Traces.{block_length}
use Rattle.runtime_log.specs.declared.blocks.Mode.{Mode}
use Rattle.runtime_log.specs.declared.blocks.Mode.TheVariants.{Recorder, Basic}
use Rattle.runtime_log.specs.declared.version.LogVersion.{LogVersion}
use Rattle.runtime_log.specs.Logs.{Log, LogBlock, as_log, log_block_in, log_block_rows, logged, recorder_blocks}
use Rattle.runtime_log.specs.private.Choices.{AreInFileOrder}
use Rattle.runtime_log.proofs.WholeLogs.{HasParts, block_parts, log_parts, log_whole}

order_more : (from to next : ℕ) (said : List LogBlock) (b : LogBlock) → AreInFileOrder from to said → to ≤ b.place → b.place < next → AreInFileOrder from next (said ++ b ∷ [])
order_more from to next [] b order here below = (omega (arith, order, here), omega (arith, below))
order_more from to next (s ∷ said) b order here below = (order.0, order_more (1 + s.place) to next said b order.1 here below)

order_wider : (from to next : ℕ) (said : List LogBlock) → AreInFileOrder from to said → to ≤ next → AreInFileOrder from next said
order_wider from to next [] order more = omega (arith, order, more)
order_wider from to next (s ∷ said) order more = (order.0, order_wider (1 + s.place) to next said order.1 more)

recorder_order : (version : LogVersion) (left at : ℕ) (bytes : List ℕ) (before all : List LogBlock)
    → InTurn (log_block_rows version) before (starts block_length left at bytes) ≡ Ok all → AreInFileOrder 0 at before → AreInFileOrder 0 (at + length bytes) all
unfolding starts
recorder_order version left at [] before all is order =
    let same : before ≡ all = cc in
    subst (λ (bs : List LogBlock). AreInFileOrder 0 (at + 0) bs) same (order_wider 0 at (at + 0) before order (omega arith))
recorder_order version (suc left) at (byte ∷ bytes) before all is order =
    let end : at + 1 + length bytes ≡ at + length (byte ∷ bytes) = omega arith in
    subst (λ (n : ℕ). AreInFileOrder 0 n all) end (recorder_order version left (at + 1) bytes before all is (order_wider 0 at (at + 1) before order (omega arith)))
recorder_order version zero at (byte ∷ bytes) before all is order =
    by_block (λ b h moved. recorder_order version (block_length (byte ∷ bytes) - 1) (at + 1) bytes (before ++ b ∷ []) all h moved)
    (log_block_in version (at, byte ∷ bytes)) refl is
  where
    end : at + 1 + length bytes ≡ at + length (byte ∷ bytes)
    end = omega arith

    by_block : ((b : LogBlock) → InTurn (log_block_rows version) (before ++ b ∷ []) (starts block_length (block_length (byte ∷ bytes) - 1) (at + 1) bytes) ≡ Ok all
        → AreInFileOrder 0 (at + 1) (before ++ b ∷ []) → AreInFileOrder 0 (at + 1 + length bytes) all)
        → (x : Result LogBlock TraceFault) → log_block_in version (at, byte ∷ bytes) ≡ x
        → ((x >>= λ b. Ok (before ++ b ∷ [])) >>= λ said. InTurn (log_block_rows version) said (starts block_length (block_length (byte ∷ bytes) - 1) (at + 1) bytes)) ≡ Ok all
        → AreInFileOrder 0 (at + length (byte ∷ bytes)) all
    by_block again (Ok b) e h =
        let here : b.place ≡ at = ap (λ (x : LogBlock). x.place) (block_parts version at (byte ∷ bytes) b e).is in
        subst (λ (n : ℕ). AreInFileOrder 0 n all) end (again b h (order_more 0 at (at + 1) before b order (omega (arith, here)) (omega (arith, here))))
    by_block again (Err fault) e h = absurd cc

-- the blocks of a log of this mode
mode_order : (mode : Mode) (bytes : List ℕ) (log : Log) → 32 ≤ length bytes → HasParts mode bytes log → AreInFileOrder 0 (length bytes) log.blocks
mode_order (Recorder version) bytes log whole has = by_blocks (recorder_blocks version bytes) refl has.0
  where
    by_blocks : (x : Result (List LogBlock) TraceFault) → recorder_blocks version bytes ≡ x → as_log x ≡ Ok log.blocks → AreInFileOrder 0 (length bytes) log.blocks
    by_blocks (Ok blocks) e h =
        let same : blocks ≡ log.blocks = cc in
        let end : 32 + length (drop 32 bytes) ≡ length bytes = omega (arith, length-drop 32 bytes) in
        subst (λ (bs : List LogBlock). AreInFileOrder 0 (length bytes) bs) same
        (subst (λ (n : ℕ). AreInFileOrder 0 n blocks) end (recorder_order version 0 32 (drop 32 bytes) [] blocks e (omega arith)))
    by_blocks (Err fault) e h = absurd cc
mode_order (Basic version) bytes log whole has = subst (λ (bs : List LogBlock). AreInFileOrder 0 (length bytes) bs) (sym has.0) (omega arith)

pub logged_order : (bytes : List ℕ) (log : Log) → logged bytes ≡ Ok log → AreInFileOrder 0 (length bytes) log.blocks
logged_order bytes log is =
    let parts = log_parts bytes log is in
    mode_order parts.mode bytes log (log_whole bytes parts.mode parts.headed) parts.has

-- there are fewer blocks than bytes
pub order_few : (from to : ℕ) (blocks : List LogBlock) → AreInFileOrder from to blocks → from + length blocks ≤ to
order_few from to [] order = omega (arith, order)
order_few from to (b ∷ blocks) order = omega (arith, order.0, order_few (1 + b.place) to blocks order.1)
