-- `stack`: what is kept of a trace.
use Rattle.std.proofs.Common.{◌≡◌, List, map, None, Result, Ok, Err, Vec, subst}
use Rattle.std.specs.Prelude.{IfErr, IfOk, OnOk}
use Rattle.std.specs.declared.alloc.Global.{Global}
use Rattle.fdr_file.specs.declared.trace.Block.{Block}
use Rattle.fdr_file.specs.declared.trace.Trace.{Trace}
use Rattle.stack_rebuild.specs.Stacks.{IsDeepFault, deep_in, most_open, stack_of, told}
use Rattle.stack_rebuild.specs.declared.stack_row.StackFault.{StackFault}
use Rattle.stack_rebuild.specs.declared.stack_row.StackRow.{StackRow}
use Rattle.xray_program.specs.private.Meant.{RowsMean}

-- what a fold of the blocks of a trace gives is kept of the trace
pub stacks_kept : (Took : List Block → Type 0) (kept : Result (Vec StackRow Global) StackFault) (t : Trace)
    → IfOk kept (λ rows. (blocks : List Block) → Took blocks → map told rows.items ≡ stack_of blocks)
    → OnOk kept ((blocks : List Block) → Took blocks → deep_in most_open blocks ≡ None)
    → IfErr kept (λ fault. (blocks : List Block) → Took blocks → IsDeepFault fault (deep_in most_open blocks))
    → Took t.blocks → RowsMean kept t
stacks_kept Took (Ok rows) t are shallow deep took = (are t.blocks took, shallow t.blocks took)
stacks_kept Took (Err fault) t are shallow deep took = deep t.blocks took

-- what rows say of a trace, if they are what was kept of it
pub stacks_told : (kept : Result (Vec StackRow Global) StackFault) (rows : Vec StackRow Global) (t : Trace) → kept ≡ Ok rows → RowsMean kept t
    → (map told rows.items ≡ stack_of t.blocks) × (deep_in most_open t.blocks ≡ None)
stacks_told kept rows t is means = subst (λ k. RowsMean k t) is means
