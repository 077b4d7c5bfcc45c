-- `codegen::lower_expression::lower_literals` meets its contract: its do-block, a step a line. Assumes nothing.
use Rattle.std.proofs.Common.{refl, sym, ◌∙◌, inl, arith}
use Rattle.runtime.specs.declared.operand.Operand.{Operand}
use Rattle.steps.specs.Answers.{register_at, place_at, settled}
use Rattle.steps.proofs.Chains.{seen_word, then, then_by, stop_by}
use Rattle.codegen.specs.Walks.{arena_tree}
use Rattle.codegen.proofs.Walk.{then_freed}
use Rattle.codegen.proofs.Operands.{combined, swapped_fields, one_loaded, two_loaded}
use Rattle.codegen.proofs.Branches.{by_answer}
use Rattle.codegen.proofs.Reading.{refused_start}
use Rattle.codegen.proofs.arena.NodeRef.lower_literals.Goals as goal

pub returns-then-is_refusal-clause-by_index : goal.returns-then-is_refusal-clause-by_index
returns-then-is_refusal-clause-by_index c =
    let t = arena_tree c.args.self.arena.now in
    one_loaded t c.word.ensures c.literal.ensures _ _ _ _
    (stop_by t _ register_at _ _ _ (c.load_constant-r1.ensures.step t _) (λ w. Operand.Register (register_at w)) c.is_refusal.ensures c.if-is_refusal.true)

pub returns-then-is_refusal-clause-word : goal.returns-then-is_refusal-clause-word
returns-then-is_refusal-clause-word c = inl (refused_start _ c.is_refusal.ensures c.if-is_refusal.true)

pub returns-then-is_refusal-2-clause-by_index : goal.returns-then-is_refusal-2-clause-by_index
returns-then-is_refusal-2-clause-by_index c =
    let t = arena_tree c.args.self.arena.now in
    two_loaded t refl c.word.ensures c.word-2.ensures c.literal.ensures c.literal-2.ensures _ _
    (then_by t _ register_at _ _ _ (c.load_constant-r1.ensures.step t _) c.is_refusal.ensures c.if-is_refusal.false c.value_of-src1.ensures
    (stop_by t _ register_at _ _ _ (c.load_constant-r2.ensures.step t _) (λ w. Operand.Register (register_at w)) c.is_refusal-2.ensures c.if-is_refusal-2.true))

pub returns-then-is_refusal-2-clause-word : goal.returns-then-is_refusal-2-clause-word
returns-then-is_refusal-2-clause-word c = inl (refused_start _ c.is_refusal-2.ensures c.if-is_refusal-2.true)

pub returns-then-is_refusal-3-clause-by_index : goal.returns-then-is_refusal-3-clause-by_index
unfolding combined
returns-then-is_refusal-3-clause-by_index c =
    let t = arena_tree c.args.self.arena.now in
    let told = c.binary_rr.ensures _ _ _
    ∙ swapped_fields _ c.reg_of-5.ensures c.swaps-swap.ensures c.first_of-a.ensures c.first_of-b.ensures c.reg_of.ensures c.reg_of-2.ensures c.reg_of-4.ensures c.reg_of-3.ensures in
    two_loaded t (rw c.word-3.ensures at c.of-operator.ensures) c.word.ensures c.word-2.ensures c.literal.ensures c.literal-2.ensures _ _
    (then_by t _ register_at _ _ _ (c.load_constant-r1.ensures.step t _) c.is_refusal.ensures c.if-is_refusal.false c.value_of-src1.ensures
    (then_by t _ register_at _ _ _ (c.load_constant-r2.ensures.step t _) c.is_refusal-2.ensures c.if-is_refusal-2.false c.value_of-src2.ensures
    (stop_by t _ place_at _ _ _ (c.emit-e.ensures.step t _ _ _ told) (λ w. Operand.Register (register_at w)) c.is_refusal-3.ensures c.if-is_refusal-3.true)))

pub returns-then-is_refusal-3-clause-word : goal.returns-then-is_refusal-3-clause-word
returns-then-is_refusal-3-clause-word c = inl (refused_start _ c.is_refusal-3.ensures c.if-is_refusal-3.true)

pub returns-clause-by_index : goal.returns-clause-by_index
unfolding combined settled
returns-clause-by_index c =
    let t = arena_tree c.args.self.arena.now in
    let told = c.binary_rr.ensures _ _ _
    ∙ swapped_fields _ c.reg_of-5.ensures c.swaps-swap.ensures c.first_of-a.ensures c.first_of-b.ensures c.reg_of.ensures c.reg_of-2.ensures c.reg_of-4.ensures c.reg_of-3.ensures in
    by_answer t _ _ _ _ c.answered.ensures
    (two_loaded t (rw c.word-3.ensures at c.of-operator.ensures) c.word.ensures c.word-2.ensures c.literal.ensures c.literal-2.ensures _ _
    (then_by t _ register_at _ _ _ (c.load_constant-r1.ensures.step t _) c.is_refusal.ensures c.if-is_refusal.false c.value_of-src1.ensures
    (then_by t _ register_at _ _ _ (c.load_constant-r2.ensures.step t _) c.is_refusal-2.ensures c.if-is_refusal-2.false c.value_of-src2.ensures
    (then t _ place_at _ _ _ (c.emit-e.ensures.step t _ _ _ told) (sym c.is_refusal-3.ensures ∙ c.if-is_refusal-3.false)
    (then_freed _ _ _ c.give_back-held1.ensures
    (then_freed _ _ _ c.give_back-held2.ensures
    (sym (seen_word t (λ w. Operand.Register (register_at w)) _ _ (omega (arith, c.ranges.d))))))))))
