-- `codegen::lower_condition` meets its contract. Assumes nothing.
use Rattle.steps.specs.Answers.{place_at}
use Rattle.steps.proofs.Chains.{then_by, stop_by}
use Rattle.codegen.proofs.arena.NodeRef.lower_condition.Goals as goal

pub returns-then-is_refusal-clause-lowers : goal.returns-then-is_refusal-clause-lowers
returns-then-is_refusal-clause-lowers c = stop_by _ _ _ _ _ _ c.lower_jump_if-r.ensures.lowers place_at c.is_refusal.ensures c.if-is_refusal.true

pub returns-clause-lowers : goal.returns-clause-lowers
returns-clause-lowers c = then_by _ _ _ _ _ _ c.lower_jump_if-r.ensures.lowers c.is_refusal.ensures c.if-is_refusal.false c.value_of.ensures (c.patch_and_answer.ensures.step _ _)
