-- `codegen::flat::compared_leaves` meets its contract: its do-block, a step a line.
use Rattle.std.proofs.Common.{sym, ◌∙◌, ap, arith}
use Rattle.lowering.specs.Tree.{tree_of}
use Rattle.lowering.specs.Steps.{free_temp}
use Rattle.lowering.specs.Operators.{comparison}
use Rattle.lowering.specs.Lower.{lower_expression}
use Rattle.operators.proofs.Compares.{compares_some}
use Rattle.steps.specs.Answers.{place_at}
use Rattle.codegen.proofs.FlatNodes.{compared_of, stop_leaves, then_leaves, not_both, fused_leaves}
use Rattle.codegen.proofs.arena.NodeRef.compared_leaves.Goals as goal

pub returns-in-Err-clause-step : goal.returns-in-Err-clause-step
returns-in-Err-clause-step c =
    let list = c.args.self.arena.now.list.now in
    let operator_read = rw c.word.ensures at c.of-operator.ensures in
    let compares = compares_some _ (sym c.is_comparison.ensures ∙ c.if-not-is_comparison.false) in
    let falling = c.args.self.arena.now.falling in
    let leaves = sym c.has_leaves.ensures ∙ c.if-not-has_leaves.false in
    rw c.refused.ensures
    (λ rs n h.
    compared_of _ _ _ c.requires operator_read _ _ _ _ compares.0 compares.1
    (stop_leaves _ _ _ leaves list _ (c.leaf_operands.ensures.undeclared _ c.in-Err.is) (omega (arith, falling.left _ c.args.self.inside c.requires)) (omega (arith, falling.right _ c.args.self.inside c.requires)) _ _ (λ w. place_at w)))

pub returns-in-Ok-clause-step : goal.returns-in-Ok-clause-step
returns-in-Ok-clause-step c =
    let list = c.args.self.arena.now.list.now in
    let operator_read = rw c.word.ensures at c.of-operator.ensures in
    let compares = compares_some _ (sym c.is_comparison.ensures ∙ c.if-not-is_comparison.false) in
    let leaves = sym c.has_leaves.ensures ∙ c.if-not-has_leaves.false in
    let nodes = c.args.self.arena.now.nodes.now in
    let names = c.args.self.arena.now.names.now in
    let words = c.leaf_operands.ensures.operands _ _ c.in-Ok.is in
    λ rs n h.
    compared_of _ _ _ c.requires operator_read _ _ _ _ compares.0 compares.1
    (then_leaves _ _ _ leaves list _ words _ _
    (fused_leaves _ _ _ leaves list _ words _ _ _ _ _
    ((c.fused_jump.ensures.step rs n (lower_expression free_temp (tree_of nodes list names)) (lower_expression free_temp (tree_of nodes list names) c.args.self.index) compares.0 (not_both _ _ _ leaves list _ words) (sym (ap comparison operator_read) ∙ compares.1)))))
