-- `codegen::lower_checked` meets its contract. Assumes nothing.
use Rattle.std.proofs.Common.{refl, arith}
use Rattle.codegen.proofs.Laws.{few, ready, lowered_numbers}
use Rattle.codegen.proofs.lower_checked.Goals as goal

pub overflow_cast-arity : goal.overflow_cast-arity
overflow_cast-arity c = omega (arith, few _ _ _ _ _ c.requires)

pub lower_lent-lowered-requires : goal.lower_lent-lowered-requires
lower_lent-lowered-requires c = ready _ _ _ _ _ c.requires

pub returns : goal.returns
returns c =
    let all = lowered_numbers _ _ _ _ _ c.requires
    (record { size = refl; same = c.lower_lent-lowered.auto.code; byte = λ i. (c.type_inv.code i).fits })
    (record { size = refl; same = c.lower_lent-lowered.auto.constants; byte = λ i. (c.type_inv.constants i).fits })
    (record { size = refl; same = c.lower_lent-lowered.auto.marks; byte = λ i. (c.type_inv.marks i).fits })
    _ refl _ c.with_parameters-registers.ensures _ _ c.lower_lent-lowered.ensures (c.result_of.ensures _ _ _ _ _) in
    record { result = all.0; code = all.1.0; constants = all.1.1.0; marks = all.1.1.1 }
