-- `steps::counted::constant_into` meets its contract: its do-block, a step a line. Assumes nothing.
use Rattle.std.proofs.Common.{refl, sym, ◌∙◌, arith}
use Rattle.runtime.specs.Instruction.{words_of}
use Rattle.lowering.specs.Walk.{bind}
use Rattle.lowering.specs.Steps.{load_constant, destination}
use Rattle.steps.specs.Answers.{register_at, place_at, settled}
use Rattle.steps.proofs.Chains.{seen_word, then, then_by, stop_by}
use Rattle.steps.proofs.counted.constant_into.Goals as goal

pub returns-then-is_refusal-clause-step : goal.returns-then-is_refusal-clause-step
unfolding load_constant destination bind
returns-then-is_refusal-clause-step c t rs n m =
    stop_by t _ place_at _ _ _ (c.store-stored.ensures.step t rs n _ m) register_at c.is_refusal.ensures c.if-is_refusal.true

pub returns-then-is_refusal-2-clause-step : goal.returns-then-is_refusal-2-clause-step
unfolding load_constant destination bind words_of
returns-then-is_refusal-2-clause-step c t rs n m =
    then_by t _ place_at _ _ _ (c.store-stored.ensures.step t rs n _ m) c.is_refusal.ensures c.if-is_refusal.false c.value_of-k.ensures
    (stop_by t _ place_at _ _ _ (c.emit-e.ensures.step t _ rs n _ m (rw c.reg_of.ensures refl)) register_at c.is_refusal-2.ensures c.if-is_refusal-2.true)

pub returns-clause-step : goal.returns-clause-step
unfolding load_constant destination bind words_of settled
returns-clause-step c t rs n m =
    rw c.answered.ensures
    (then_by t _ place_at _ _ _ (c.store-stored.ensures.step t rs n _ m) c.is_refusal.ensures c.if-is_refusal.false c.value_of-k.ensures
    (then t _ place_at _ _ _ (c.emit-e.ensures.step t _ rs n _ m (rw c.reg_of.ensures refl)) (sym c.is_refusal-2.ensures ∙ c.if-is_refusal-2.false)
    (sym (seen_word t register_at _ _ (omega arith)))))
