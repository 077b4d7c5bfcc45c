-- `steps::sources::binary_end` meets its contract. Assumes nothing.
use Rattle.std.proofs.Common.{sym, ◌∙◌, arith}
use Rattle.runtime.specs.declared.operand.Operand.{Operand}
use Rattle.steps.specs.Answers.{register_at, place_at, settled}
use Rattle.steps.proofs.Chains.{seen_word, then, stop_by}
use Rattle.steps.proofs.sources.binary_end.Goals as goal

pub returns-then-is_refusal-clause-step : goal.returns-then-is_refusal-clause-step
returns-then-is_refusal-clause-step c t i rs n p m told =
    stop_by t _ place_at _ _ _ (c.emit-e.ensures.step t i rs n p m (rw (c.reg_of.ensures, c.first_of-a.ensures, c.first_of-b.ensures) told)) (λ w. Operand.Register (register_at w)) c.is_refusal.ensures c.if-is_refusal.true

pub returns-clause-step : goal.returns-clause-step
unfolding settled
returns-clause-step c t i rs n p m told =
    rw c.answered.ensures
    (then t _ place_at _ _ _ (c.emit-e.ensures.step t i rs n p m (rw (c.reg_of.ensures, c.first_of-a.ensures, c.first_of-b.ensures) told)) (sym c.is_refusal.ensures ∙ c.if-is_refusal.false)
    (sym (seen_word t (λ w. Operand.Register (register_at w)) _ _ (omega arith))))
