-- `steps::sources::fused_sources` meets its contract: by where the sources are, its do-block, a step a line. Assumes nothing.
use Rattle.lowering.specs.Lower.{fused_sources}
use Rattle.steps.specs.Answers.{place_at}
use Rattle.steps.proofs.Chains.{then_by, stop_by}
use Rattle.steps.proofs.sources.fused_sources.Goals as goal

pub returns-in-RR-clause-step : goal.returns-in-RR-clause-step
unfolding fused_sources
returns-in-RR-clause-step g c t E own op rs n m compares =
    rw c.in-RR.is
    (c.emit.ensures.step t _ rs n _ m
    (rw (c.first_of.ensures, c.first_of-in-RR.ensures, c.jump_swaps-swap.ensures op (rw c.as_binary_op-operator.ensures compares), c.reg_of-a.ensures, c.reg_of-b.ensures)
    (c.jump_rr-opcode.ensures op (rw c.as_binary_op-operator.ensures compares) _ _)))

pub returns-then-is_refusal-clause-step : goal.returns-then-is_refusal-clause-step
unfolding fused_sources
returns-then-is_refusal-clause-step g c t E own op rs n m compares =
    rw c.in-RK.is (stop_by t _ place_at _ _ _ (c.store-stored.ensures.step t rs n _ m) (λ w. place_at w) c.is_refusal.ensures c.if-is_refusal.true)

pub returns-else-is_refusal-clause-step : goal.returns-else-is_refusal-clause-step
unfolding fused_sources
returns-else-is_refusal-clause-step g c t E own op rs n m compares =
    rw c.in-RK.is
    (then_by t _ place_at _ _ _ (c.store-stored.ensures.step t rs n _ m) c.is_refusal.ensures c.if-is_refusal.false c.value_of-k.ensures
    (c.emit-in-RK.ensures.step t _ rs n _ m (rw c.reg_of.ensures (c.jump_rk-opcode.ensures op (rw c.as_binary_op-operator.ensures compares) _ _))))

pub returns-then-is_refusal-2-clause-step : goal.returns-then-is_refusal-2-clause-step
unfolding fused_sources
returns-then-is_refusal-2-clause-step g c t E own op rs n m compares =
    rw c.in-KR.is (stop_by t _ place_at _ _ _ (c.store-stored-in-KR.ensures.step t rs n _ m) (λ w. place_at w) c.is_refusal-in-KR.ensures c.if-is_refusal-2.true)

pub returns-else-is_refusal-2-clause-step : goal.returns-else-is_refusal-2-clause-step
unfolding fused_sources
returns-else-is_refusal-2-clause-step g c t E own op rs n m compares =
    rw c.in-KR.is
    (then_by t _ place_at _ _ _ (c.store-stored-in-KR.ensures.step t rs n _ m) c.is_refusal-in-KR.ensures c.if-is_refusal-2.false c.value_of-k-in-KR.ensures
    (c.emit-in-KR.ensures.step t _ rs n _ m (rw c.reg_of-in-KR.ensures (c.jump_kr-opcode.ensures op (rw c.as_binary_op-operator.ensures compares) _ _))))
