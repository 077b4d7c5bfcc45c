-- `codegen::flat::name_tested` meets its contract.
use Rattle.std.proofs.Common.{arith}
use Rattle.steps.specs.Answers.{place_at}
use Rattle.codegen.proofs.FlatNodes.{condition_name_undeclared, condition_name}
use Rattle.codegen.proofs.arena.NodeRef.name_tested.Goals as goal

pub returns-in_default-clause-step : goal.returns-in_default-clause-step
returns-in_default-clause-step c =
    rw c.refused.ensures
    (λ rs n. condition_name_undeclared _ _ c.requires _ c.find.ensures.found _ _ _ (λ w. place_at w) c.in_default.is (omega arith))

pub returns-clause-step : goal.returns-clause-step
returns-clause-step c rs n =
    condition_name _ _ c.requires _ c.find.ensures.found _ _ _ c.in-Some.is
    (c.emit.ensures.step _ _ rs n _ _ (rw c.reg_of.ensures (c.jump_if.ensures _)))
