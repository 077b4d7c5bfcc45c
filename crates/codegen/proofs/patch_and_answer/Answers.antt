-- `codegen::patch_and_answer` meets its contract. Assumes nothing.
use Rattle.std.proofs.Common.{refl, arith}
use Rattle.lowering.specs.Steps.{patch_arguments}
use Rattle.patch.specs.Arguments.{seen_done}
use Rattle.codegen.proofs.Laws.{patched_done, patched_refused}
use Rattle.codegen.proofs.patch_and_answer.Goals as goal

pub returns-in-Ok-clause-step : goal.returns-in-Ok-clause-step
unfolding patch_arguments seen_done
returns-in-Ok-clause-step c = λ t p.
    rw c.answered.ensures (patched_done t _ _ _ _ (c.in-Ok.ensures.words p _ refl) (omega arith))

pub returns-in-Err-clause-step : goal.returns-in-Err-clause-step
unfolding patch_arguments seen_done
returns-in-Err-clause-step c = λ t p.
    rw c.refused.ensures (patched_refused t _ _ _ _ (c.in-Err.ensures.words p _ refl) (omega arith))
