use Rattle.std.proofs.Common.{List, length, refl, sym, ap, subst, arith}
use Rattle.std.specs.Prelude.{All}
use Rattle.runtime_log.specs.declared.blocks.LogBlock.{LogBlock as Placed}
use Rattle.runtime_log.specs.Logs.{log_of_blocks}
use Rattle.runtime_log.specs.private.Choices.{AreAt, LiesWithin}
use Rattle.runtime_log.proofs.ImportedBlocks.{recorder_imported, taken_few, taken_some}
use Rattle.runtime_log.proofs.TakenBlocks.{at_length, at_within}
use Rattle.runtime_log.proofs.import.import_recorder.Goals as goal

pub take_blocks-requires : goal.take_blocks-requires
take_blocks-requires c =
    let bytes = c.args.bytes.now in
    let version = c.args.version in
    let read = c.in_ok-blocks.ensures.reads in
    let at = read.2.places in
    record { within = subst (λ (ps : List Placed). All (LiesWithin bytes) ps) (sym c.deref.ensures.value) (at_within bytes version c.in_ok-blocks.blocks.blocks.items read.0 at) }

pub pack_blocks-requires-clause-few : goal.pack_blocks-requires-clause-few
pack_blocks-requires-clause-few c =
    let bytes = c.args.bytes.now in
    let version = c.args.version in
    let read = c.in_ok-blocks.ensures.reads in
    let at = read.2.places in
    let t = c.in_ok-taken.ensures version read.0 (subst (λ (ps : List Placed). AreAt bytes version ps read.0) (sym c.deref.ensures.value) at) in
    let few = taken_few bytes version read.0 t.0 c.requires.mode read.1 t.1 in
    (c.requires.few.1, omega (arith, few, c.requires.few.1, ap length c.deref-2.ensures.value, at_length bytes version c.in_ok-taken.taken.items t.0 t.2))

pub pack_blocks-requires-clause-within : goal.pack_blocks-requires-clause-within
pack_blocks-requires-clause-within c =
    let bytes = c.args.bytes.now in
    let version = c.args.version in
    let read = c.in_ok-blocks.ensures.reads in
    let at = read.2.places in
    let t = c.in_ok-taken.ensures version read.0 (subst (λ (ps : List Placed). AreAt bytes version ps read.0) (sym c.deref.ensures.value) at) in
    subst (λ (ps : List Placed). All (LiesWithin bytes) ps) (sym c.deref-2.ensures.value) (at_within bytes version c.in_ok-taken.taken.items t.0 t.2)

pub returns-clause-imports : goal.returns-clause-imports
returns-clause-imports c =
    let bytes = c.args.bytes.now in
    let version = c.args.version in
    let read = c.in_ok-blocks.ensures.reads in
    let at = read.2.places in
    let t = c.in_ok-taken.ensures version read.0 (subst (λ (ps : List Placed). AreAt bytes version ps read.0) (sym c.deref.ensures.value) at) in
    let header = c.trace_header-header.result in
    let log = log_of_blocks header read.0 in
    let packed = c.in_ok-packing.ensures.packs log refl (c.log_facts-facts.ensures.log log (record { custom = read.2.custom; typed = read.2.typed; lost = refl; cut = read.2.cut; frequency = refl }) t.3) in
    let taken_at = subst (λ (ps : List Placed). AreAt bytes version ps t.0) (sym c.deref-2.ensures.value) t.2 in
    let made = c.in_ok-pack_blocks.ensures log t.0 packed taken_at (taken_some read.0 t.0 t.1) in
    recorder_imported bytes version read.0 t.0 header _ _ c.requires.mode read.1 t.1 c.trace_header-header.ensures made.0 made.1
