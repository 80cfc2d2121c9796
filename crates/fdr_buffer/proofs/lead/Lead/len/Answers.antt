use Rattle.std.proofs.Common.{arith, inl, inr}
use Rattle.fdr_buffer.proofs.lead.Lead.len.Goals as goal

pub returns-in-Cpu : goal.returns-in-Cpu
returns-in-Cpu c =
    let few = c.function_len.ensures.length 0 in
    elim c.in-Cpu.is [ inl is ↦ rw is (omega (arith, few)) | inr is ↦ rw is (omega (arith, few)) ]

pub returns-in-Delta : goal.returns-in-Delta
returns-in-Delta c = rw c.in-Delta.is (c.function_len-in-Delta.ensures.length c.in-Delta.field-0)
