-- `codegen::flat::literal_into` meets its contract.
use Rattle.words.specs.Words.{words}
use Rattle.steps.specs.Answers.{register_at}
use Rattle.codegen.proofs.FlatNodes.{needing_none, needing_given}
use Rattle.codegen.proofs.arena.NodeRef.literal_into.Goals as goal

pub returns-then-d-eq-NONE-clause-step : goal.returns-then-d-eq-NONE-clause-step
returns-then-d-eq-NONE-clause-step c = rw c.refused.ensures (λ t rs n. needing_none _ _ _ t register_at c.if-d-eq-NONE.true)

pub returns-clause-step : goal.returns-clause-step
returns-clause-step c t rs n = needing_given _ _ _ c.if-d-eq-NONE.false (rw c.literal.ensures at (c.constant_into.ensures.step t rs n (words c.args.buffers.now.marks.now)))
