-- `codegen::lower` meets its contract. Assumes nothing.
use Rattle.std.proofs.Common.{sym}
use Rattle.codegen.proofs.Laws.{not_lowered}
use Rattle.codegen.proofs.lower.Goals as goal

pub returns-in-Err : goal.returns-in-Err
returns-in-Err c =
    let all = not_lowered _ _ _ _ _ _ _ (sym c.in-Err.ensures) _ _ _
    (λ i. (c.type_inv.code i).fits) (λ i. (c.type_inv.constants i).fits) (λ i. (c.type_inv.marks i).fits) c.refused_result.ensures in
    record { result = all.0; code = all.1.0; constants = all.1.1.0; marks = all.1.1.1 }
