-- `steps::step::load_constant` meets its contract: the destination, and then the constant in it. Assumes nothing.
use Rattle.std.proofs.Common.{sym, ◌∙◌, inl, inr, arith}
use Rattle.lowering.specs.Walk.{bind}
use Rattle.lowering.specs.Steps.{load_constant, destination}
use Rattle.steps.specs.Answers.{register_at}
use Rattle.steps.proofs.Words.{register_value}
use Rattle.steps.proofs.Chains.{then_by, stop_by}
use Rattle.steps.proofs.step.load_constant.Goals as goal

pub returns-then-is_refusal-clause-step : goal.returns-then-is_refusal-clause-step
unfolding load_constant
returns-then-is_refusal-clause-step c t m =
    stop_by t _ register_at _ _ _ (c.destination-r.ensures.step t _ _ _) register_at c.is_refusal.ensures c.if-is_refusal.true

pub returns-clause-step : goal.returns-clause-step
unfolding load_constant destination bind
returns-clause-step c t m =
    rw c.on.ensures
    (then_by t _ register_at _ _ _ (c.destination-r.ensures.step t _ _ _) c.is_refusal.ensures c.if-is_refusal.false c.value_of-d.ensures
    (c.constant_into-f.ensures.step t c.destination-r.result.after.registers c.destination-r.result.after.marks m))

pub returns-clause-word : goal.returns-clause-word
returns-clause-word c h =
    let few = register_value _ (sym c.is_refusal.ensures ∙ c.if-is_refusal.false) (c.destination-r.ensures.word h) in
    rw c.on.ensures (elim c.constant_into-f.ensures.word [ inl l ↦ inl l | inr e ↦ inr (omega (arith, e, c.value_of-d.ensures, few)) ])
