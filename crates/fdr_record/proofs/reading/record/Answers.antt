use Rattle.std.proofs.lemmas.List.{take_rest}
use Rattle.fdr_record.proofs.OneReading.{function_answers, metadata_answers}
use Rattle.fdr_record.proofs.Fields.{are_bytes}
use Rattle.fdr_record.proofs.reading.record.Goals as goal

pub returns-then-first-eq-FUNCTION : goal.returns-then-first-eq-FUNCTION
returns-then-first-eq-FUNCTION c =
    rw c.function.ensures (function_answers c.args.bytes.now (are_bytes c.args.bytes.now (λ i. (c.type_inv.bytes i).fits)) c.in-len1-up.len_at_least c.if-first-eq-FUNCTION.true)

pub returns-else-first-eq-FUNCTION : goal.returns-else-first-eq-FUNCTION
returns-else-first-eq-FUNCTION c =
    rw (c.metadata.ensures, take_rest c.args.bytes.now 1) (metadata_answers c.args.bytes.now (are_bytes c.args.bytes.now (λ i. (c.type_inv.bytes i).fits)) c.in-len1-up.len_at_least c.if-first-eq-FUNCTION.false)
