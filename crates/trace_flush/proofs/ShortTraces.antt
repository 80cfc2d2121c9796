-- The trace of a run is no longer than its buffers allow.
use Rattle.std.proofs.Common.{◌≡◌, ℕ, ◌+◌, ◌*◌, ◌≤◌, List, refl, arith, get_or, length, length-append, mul-le-mul_right}
use Rattle.std.specs.Prelude.{All}
use Rattle.std.specs.List.{flat_map}
use Rattle.std.proofs.lemmas.List.Concat.{length-flat_map}
use Rattle.std.proofs.lemmas.List.Sums.{sum_by-le}
use Rattle.xray_image.specs.Program.{IsAccepted, Program}
use Rattle.fdr_buffer.specs.Filled.{Filled, used_bytes}
use Rattle.fdr_buffer.specs.Fits.{BufferFits}
use Rattle.fdr_file.specs.declared.header.Header.{Header}
use Rattle.fdr_file.specs.Files.{block_bytes, header_bytes}
use Rattle.machine_step.specs.Buffers.{spare_of}
use Rattle.machine_step.specs.Setups.{IsSetup}
use Rattle.machine_step.specs.declared.setup.Setup.{Setup}
use Rattle.trace_flush.specs.Flush.{run_header, trace_bytes}
use Rattle.traced_run.specs.Kept.{kept_buffers}
use Rattle.traced_run.specs.Losses.{AreLost}
use Rattle.traced_run.specs.Runs.{IsRun, ThreadRun}

header_length : (header : Header) → length (header_bytes header) ≡ 32
header_length header = refl

block_length : (buffer : Filled) → length (block_bytes buffer) ≡ 16 + length (used_bytes buffer)
block_length buffer = omega arith

blocks_length : (size : ℕ) (buffers : List Filled) → All BufferFits buffers → All (λ buffer. buffer.size ≡ size) buffers
    → length (flat_map block_bytes buffers) ≤ length buffers * (size + 16)
blocks_length size buffers fits sizes =
    let each : All (λ buffer. length (block_bytes buffer) ≤ size + 16) buffers = λ k d at.
    omega (arith, block_length (get_or buffers k d), (fits k d at).within, sizes k d at) in
    omega (arith, length-flat_map block_bytes buffers, sum_by-le (λ buffer. length (block_bytes buffer)) (size + 16) buffers each)

-- the laws of the buffers that are left
abbrev pub FitBuffers : Type 0
FitBuffers = (bytes : List ℕ) (program : Program) (setup : Setup) (runs : List ThreadRun) → IsAccepted bytes program → IsSetup setup
    → IsRun program setup runs → All BufferFits (kept_buffers setup runs)

abbrev pub AreFew : Type 0
AreFew = (setup : Setup) (runs : List ThreadRun) → IsSetup setup → length runs ≡ setup.threads
    → AreLost setup.size (spare_of setup) runs → length (kept_buffers setup runs) ≤ setup.max

abbrev pub HaveSize : Type 0
HaveSize = (setup : Setup) (runs : List ThreadRun) → All (λ buffer. buffer.size ≡ setup.size) (kept_buffers setup runs)

pub short_trace : FitBuffers → AreFew → HaveSize → (bytes : List ℕ) (program : Program) (setup : Setup) (runs : List ThreadRun)
    → IsAccepted bytes program → IsSetup setup → IsRun program setup runs
    → AreLost setup.size (spare_of setup) runs → length (trace_bytes setup runs) ≤ setup.max * (setup.size + 16) + 32
short_trace fit few sizes bytes program setup runs accepted its is lost =
    let kept = kept_buffers setup runs in
    let blocks = blocks_length setup.size kept (fit bytes program setup runs accepted its is) (sizes setup runs) in
    let more = mul-le-mul_right (setup.size + 16) (few setup runs its is.count lost) in
    omega (arith, length-append (header_bytes (run_header setup)) (flat_map block_bytes kept), header_length (run_header setup), blocks, more)
