use Rattle.subset_decode.proofs.DecodeClauses.{stands, refuses, decodes_found, decodes_refused, first_found, first_refused}
use Rattle.subset_decode.proofs.reading.decode.Goals as goal

pub overflow_sub-result : goal.overflow_sub-result
overflow_sub-result c =
    (stands c.args.bytes.now c.args.at c.in-Ok.instr c.in-Ok.rest.now c.requires c.type_inv.bytes c.in-Ok.ensures).0

pub returns-in-Ok-clause-found : goal.returns-in-Ok-clause-found
returns-in-Ok-clause-found c =
    let s = (stands c.args.bytes.now c.args.at c.in-Ok.instr c.in-Ok.rest.now c.requires c.type_inv.bytes c.in-Ok.ensures).1 in
    (s.named, s.begins, s.next_is)

pub returns-in-Ok-clause-next : goal.returns-in-Ok-clause-next
returns-in-Ok-clause-next c =
    let s = (stands c.args.bytes.now c.args.at c.in-Ok.instr c.in-Ok.rest.now c.requires c.type_inv.bytes c.in-Ok.ensures).1 in
    (s.following, s.within)

pub returns-in-Ok-clause-only : goal.returns-in-Ok-clause-only
returns-in-Ok-clause-only c =
    (decodes_found c.args.bytes.now c.args.at c.in-Ok.instr _ (stands c.args.bytes.now c.args.at c.in-Ok.instr c.in-Ok.rest.now c.requires c.type_inv.bytes c.in-Ok.ensures).1).only

pub returns-in-Ok-clause-exact : goal.returns-in-Ok-clause-exact
returns-in-Ok-clause-exact c =
    (decodes_found c.args.bytes.now c.args.at c.in-Ok.instr _ (stands c.args.bytes.now c.args.at c.in-Ok.instr c.in-Ok.rest.now c.requires c.type_inv.bytes c.in-Ok.ensures).1).exact

pub returns-in-Err-clause-only : goal.returns-in-Err-clause-only
returns-in-Err-clause-only c =
    (decodes_refused c.args.bytes.now c.args.at c.in-Err.fault (refuses c.args.bytes.now c.args.at c.in-Err.fault c.type_inv.bytes c.in-Err.ensures)).only

pub returns-in-Err-clause-fault : goal.returns-in-Err-clause-fault
returns-in-Err-clause-fault c =
    refuses c.args.bytes.now c.args.at c.in-Err.fault c.type_inv.bytes c.in-Err.ensures

pub returns-in-Err-clause-exact : goal.returns-in-Err-clause-exact
returns-in-Err-clause-exact c =
    (decodes_refused c.args.bytes.now c.args.at c.in-Err.fault (refuses c.args.bytes.now c.args.at c.in-Err.fault c.type_inv.bytes c.in-Err.ensures)).exact

pub returns-in-Ok-clause-computed : goal.returns-in-Ok-clause-computed
returns-in-Ok-clause-computed c =
    first_found c.args.bytes.now c.args.at c.in-Ok.instr c.in-Ok.rest.now c.in-Ok.ensures

pub returns-in-Err-clause-computed : goal.returns-in-Err-clause-computed
returns-in-Err-clause-computed c =
    first_refused c.args.bytes.now c.args.at c.in-Err.fault c.in-Err.ensures
