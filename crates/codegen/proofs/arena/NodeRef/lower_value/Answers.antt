-- `codegen::lower_value` meets its contract. Assumes nothing.
use Rattle.std.proofs.Common.{refl, sym, ◌∙◌}
use Rattle.runtime.specs.declared.instruction.Instruction.{Instruction}
use Rattle.runtime.specs.Instruction.{words_of}
use Rattle.lowering.specs.Result.{lower_root}
use Rattle.steps.specs.Answers.{place_at}
use Rattle.steps.proofs.Chains.{then, then_by, stop_by}
use Rattle.codegen.specs.Walks.{arena_tree}
use Rattle.codegen.proofs.Children.{register_of}
use Rattle.codegen.proofs.arena.NodeRef.lower_value.Goals as goal

pub returns-then-is_refusal-clause-lowers : goal.returns-then-is_refusal-clause-lowers
unfolding lower_root
returns-then-is_refusal-clause-lowers c =
    let checked = c.args.self.arena.now.checked in
    let value = register_of checked c.peek-f.ensures.inner c.lower_materializing-r.ensures.walked c.lower_materializing-r.ensures.done (λ h. c.peek-f.ensures.register h refl) in
    stop_by _ _ _ _ _ _ value place_at c.is_refusal.ensures c.if-is_refusal.true

pub returns-then-is_refusal-2-clause-lowers : goal.returns-then-is_refusal-2-clause-lowers
unfolding lower_root words_of
returns-then-is_refusal-2-clause-lowers c =
    let t = arena_tree c.args.self.arena.now in
    let checked = c.args.self.arena.now.checked in
    let value = register_of checked c.peek-f.ensures.inner c.lower_materializing-r.ensures.walked c.lower_materializing-r.ensures.done (λ h. c.peek-f.ensures.register h refl) in
    then_by t _ _ _ _ _ value c.is_refusal.ensures c.if-is_refusal.false c.value_of-src.ensures
    (stop_by t _ place_at _ _ _ (c.emit-e.ensures.step t (Instruction.Return _) _ _ (rw c.reg_of.ensures refl)) place_at c.is_refusal-2.ensures c.if-is_refusal-2.true)

pub returns-clause-lowers : goal.returns-clause-lowers
unfolding lower_root words_of
returns-clause-lowers c =
    let t = arena_tree c.args.self.arena.now in
    let checked = c.args.self.arena.now.checked in
    let value = register_of checked c.peek-f.ensures.inner c.lower_materializing-r.ensures.walked c.lower_materializing-r.ensures.done (λ h. c.peek-f.ensures.register h refl) in
    then_by t _ _ _ _ _ value c.is_refusal.ensures c.if-is_refusal.false c.value_of-src.ensures
    (then t _ place_at _ _ _ (c.emit-e.ensures.step t (Instruction.Return _) _ _ (rw c.reg_of.ensures refl)) (sym c.is_refusal-2.ensures ∙ c.if-is_refusal-2.false)
    (c.patch_and_answer.ensures.step _ _))
