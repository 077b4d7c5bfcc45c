-- `codegen::flat::binary_into` meets its contract: its do-block, a step a line.
use Rattle.std.proofs.Common.{refl, sym, ◌∙◌, arith}
use Rattle.lowering.specs.Tree.{tree_of}
use Rattle.lowering.specs.Steps.{free_temp}
use Rattle.lowering.specs.Lower.{lower_expression}
use Rattle.steps.specs.Answers.{operand_at}
use Rattle.codegen.proofs.FlatNodes.{needing_none, needing_given, given_operand, binary_of, stop_leaves, then_leaves, not_both, binary_leaves}
use Rattle.codegen.proofs.arena.NodeRef.binary_into.Goals as goal

pub returns-then-d-eq-NONE-clause-step : goal.returns-then-d-eq-NONE-clause-step
returns-then-d-eq-NONE-clause-step c = rw c.refused.ensures (λ rs n h. needing_none _ _ _ _ (operand_at _) c.if-d-eq-NONE.true)

pub returns-in-Err-clause-step : goal.returns-in-Err-clause-step
returns-in-Err-clause-step c =
    let list = c.args.self.arena.now.list.now in
    let checked = c.args.self.arena.now.checked in
    let falling = c.args.self.arena.now.falling in
    let leaves = sym c.has_leaves.ensures ∙ c.if-not-has_leaves.false in
    rw c.refused-in-Err.ensures
    (λ rs n h.
    needing_given _ _ _ c.if-d-eq-NONE.false
    (binary_of _ _ _ c.requires.0 refl _ checked _
    (stop_leaves _ _ _ leaves list _ (c.leaf_operands.ensures.undeclared _ c.in-Err.is) (omega (arith, falling.left _ c.args.self.inside c.requires.0)) (omega (arith, falling.right _ c.args.self.inside c.requires.0)) _ _ (operand_at _))))

pub returns-in-Ok-clause-step : goal.returns-in-Ok-clause-step
returns-in-Ok-clause-step c =
    let list = c.args.self.arena.now.list.now in
    let checked = c.args.self.arena.now.checked in
    let leaves = sym c.has_leaves.ensures ∙ c.if-not-has_leaves.false in
    let nodes = c.args.self.arena.now.nodes.now in
    let names = c.args.self.arena.now.names.now in
    let words = c.leaf_operands.ensures.operands _ _ c.in-Ok.is in
    λ rs n h.
    needing_given _ _ _ c.if-d-eq-NONE.false
    (binary_of _ _ _ c.requires.0 refl _ checked _
    (then_leaves _ _ _ leaves list _ words _ _
    (binary_leaves _ _ _ leaves list _ words _ _ _ _
    (((c.binary_operation.ensures.step rs n (lower_expression free_temp (tree_of nodes list names)) (not_both _ _ _ leaves list _ words)))
    ∙ given_operand _ _ _ _ _ c.requires.1 c.binary_operation.ensures.word))))
