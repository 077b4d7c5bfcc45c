-- `steps::sources::binary_sources` meets its contract: by where the sources are, its do-block, a step a line. Assumes nothing.
use mathlib.Core.Path.{sym}
use Rattle.runtime.specs.declared.operand.Operand.{Operand}
use Rattle.lowering.specs.Walk.{bind}
use Rattle.lowering.specs.Lower.{binary_sources}
use Rattle.steps.specs.Answers.{register_at, place_at}
use Rattle.steps.proofs.Chains.{then_by, stop_by}
use Rattle.steps.proofs.sources.binary_sources.Goals as goal

pub returns-in-RR-clause-step : goal.returns-in-RR-clause-step
unfolding binary_sources bind
returns-in-RR-clause-step g c t E left right rs n m =
    rw (sym c.as_binary_op-operator.ensures, c.in-RR.is) (c.binary_end.ensures.step t _ rs n _ m (rw (c.swaps-swap.ensures, c.reg_of.ensures, c.reg_of-in-RR.ensures) (c.binary_rr-opcode.ensures _ _ _)))

pub returns-then-is_refusal-clause-step : goal.returns-then-is_refusal-clause-step
unfolding binary_sources
returns-then-is_refusal-clause-step g c t E left right rs n m =
    rw c.in-RK.is (stop_by t _ place_at _ _ _ (c.store-stored.ensures.step t rs n _ m) (λ w. Operand.Register (register_at w)) c.is_refusal.ensures c.if-is_refusal.true)

pub returns-else-is_refusal-clause-step : goal.returns-else-is_refusal-clause-step
unfolding binary_sources bind
returns-else-is_refusal-clause-step g c t E left right rs n m =
    rw (sym c.as_binary_op-operator.ensures, c.in-RK.is)
    (then_by t _ place_at _ _ _ (c.store-stored.ensures.step t rs n _ m) c.is_refusal.ensures c.if-is_refusal.false c.value_of-k.ensures
    (c.binary_end-in-RK.ensures.step t _ rs n _ m (rw (c.swaps-swap-in-RK.ensures, c.reg_of-in-RK.ensures) (c.binary_rk-opcode.ensures _ _ _))))

pub returns-then-is_refusal-2-clause-step : goal.returns-then-is_refusal-2-clause-step
unfolding binary_sources
returns-then-is_refusal-2-clause-step g c t E left right rs n m =
    rw c.in-KR.is (stop_by t _ place_at _ _ _ (c.store-stored-in-KR.ensures.step t rs n _ m) (λ w. Operand.Register (register_at w)) c.is_refusal-in-KR.ensures c.if-is_refusal-2.true)

pub returns-else-is_refusal-2-clause-step : goal.returns-else-is_refusal-2-clause-step
unfolding binary_sources bind
returns-else-is_refusal-2-clause-step g c t E left right rs n m =
    rw (sym c.as_binary_op-operator.ensures, c.in-KR.is)
    (then_by t _ place_at _ _ _ (c.store-stored-in-KR.ensures.step t rs n _ m) c.is_refusal-in-KR.ensures c.if-is_refusal-2.false c.value_of-k-in-KR.ensures
    (c.binary_end-in-KR.ensures.step t _ rs n _ m (rw (c.swaps_kr-swap.ensures, c.reg_of-in-KR.ensures) (c.binary_kr-opcode.ensures _ _ _))))
