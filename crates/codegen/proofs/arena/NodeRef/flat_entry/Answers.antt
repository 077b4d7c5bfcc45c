-- `codegen::flat::flat_entry` meets its contract: its do-block, a step a line.
use Rattle.std.proofs.Common.{refl, sym, ◌∙◌, true≢false, arith}
use Rattle.steps.specs.Answers.{source_at, place_at}
use Rattle.steps.proofs.Words.{source_operand}
use Rattle.steps.proofs.Chains.{then_by, stop_by}
use Rattle.codegen.specs.Walks.{arena_tree}
use Rattle.codegen.proofs.FlatNodes.{no_inner, stop_leaf, then_leaf}
use Rattle.codegen.proofs.Entries.{field_of, by_fields, set_words, field_step, alone, not_alone, both_leaves, has_value, key_alone, leaf_key}
use Rattle.codegen.proofs.arena.NodeRef.flat_entry.Goals as goal

pub returns-then-ne-is_none-clause-step : goal.returns-then-ne-is_none-clause-step
returns-then-ne-is_none-clause-step c =
    let no_name = alone _ _ _ c.kind-kind.ensures c.ne.ensures c.node_of.ensures c.is_none.ensures c.if-ne-is_none.true in
    rw c.refused.ensures (λ rs n h. key_alone _ _ _ _ _ _ no_name.0 no_name.1 (omega arith))

pub returns-then-is_leaf-clause-inner : goal.returns-then-is_leaf-clause-inner
returns-then-is_leaf-clause-inner c h =
    let has = not_alone _ _ _ c.kind-kind.ensures c.ne.ensures c.node_of.ensures c.is_none.ensures c.if-ne-is_none.false in
    (c.left_to_walk.ensures, ((refl, (refl, refl)), has_value _ _ c.kind-kind.ensures c.kind.ensures c.is_leaf.ensures c.is_leaf-2.ensures c.if-is_leaf.true (λ e. rw (c.value_or_key.ensures, e)) has))

pub returns-in_default-clause-step : goal.returns-in_default-clause-step
returns-in_default-clause-step c =
    let leaves = both_leaves _ _ c.kind-kind.ensures c.kind.ensures c.is_leaf.ensures c.is_leaf-2.ensures c.if-is_leaf.false in
    let has = not_alone _ _ _ c.kind-kind.ensures c.ne.ensures c.node_of.ensures c.is_none.ensures c.if-ne-is_none.false in
    rw c.refused-in_default.ensures
    (λ rs n h.
    leaf_key _ _ _ _ _ _ leaves.0 has c.value_or_key.ensures
    (stop_leaf _ _ _ (c.leaf_operand.ensures.name, c.leaf_operand.ensures.literal) _ _ (λ w. place_at w) c.in_default.is (omega arith)))

pub returns-then-is_refusal-clause-step : goal.returns-then-is_refusal-clause-step
unfolding source_at field_of
returns-then-is_refusal-clause-step c rs n h =
    let t = arena_tree c.args.self.arena.now in
    let leaves = both_leaves _ _ c.kind-kind.ensures c.kind.ensures c.is_leaf.ensures c.is_leaf-2.ensures c.if-is_leaf.false in
    let has = not_alone _ _ _ c.kind-kind.ensures c.ne.ensures c.node_of.ensures c.is_none.ensures c.if-ne-is_none.false in
    let first = rw c.key_operand.ensures at (c.store-first_field.ensures.step t rs n) in
    leaf_key t _ _ _ _ _ leaves.0 has c.value_or_key.ensures
    (then_leaf t _ _ (c.leaf_operand.ensures.name, c.leaf_operand.ensures.literal) c.in-Some.is _ _ leaves.1
    (rw (source_operand _ _)
    (by_fields t _ _ _ _ _
    (stop_by t _ place_at _ _ _ (first _ _) place_at c.is_refusal.ensures c.if-is_refusal.true))))

pub returns-then-is_refusal-clause-inner : goal.returns-then-is_refusal-clause-inner
returns-then-is_refusal-clause-inner c h = absurd (true≢false (sym h ∙ no_inner _ c.store-first_field.ensures.word))

pub returns-then-is_refusal-2-clause-step : goal.returns-then-is_refusal-2-clause-step
unfolding source_at field_of
returns-then-is_refusal-2-clause-step c rs n h =
    let t = arena_tree c.args.self.arena.now in
    let leaves = both_leaves _ _ c.kind-kind.ensures c.kind.ensures c.is_leaf.ensures c.is_leaf-2.ensures c.if-is_leaf.false in
    let has = not_alone _ _ _ c.kind-kind.ensures c.ne.ensures c.node_of.ensures c.is_none.ensures c.if-ne-is_none.false in
    let first = rw c.key_operand.ensures at (c.store-first_field.ensures.step t rs n) in
    let value = rw c.literal.ensures at c.field_of-second_field.ensures.literal in
    leaf_key t _ _ _ _ _ leaves.0 has c.value_or_key.ensures
    (then_leaf t _ _ (c.leaf_operand.ensures.name, c.leaf_operand.ensures.literal) c.in-Some.is _ _ leaves.1
    (rw (source_operand _ _)
    (by_fields t _ _ _ _ _
    (then_by t _ place_at _ _ _ (first _ _) c.is_refusal.ensures c.if-is_refusal.false c.value_of-first.ensures
    (stop_by t _ place_at _ _ _ (field_step t _ _ _ _ _ _ value c.field_of-second_field.ensures.register) place_at c.is_refusal-2.ensures c.if-is_refusal-2.true)))))

pub returns-then-is_refusal-2-clause-inner : goal.returns-then-is_refusal-2-clause-inner
returns-then-is_refusal-2-clause-inner c h = absurd (true≢false (sym h ∙ no_inner _ c.field_of-second_field.ensures.word))

pub returns-clause-step : goal.returns-clause-step
unfolding source_at field_of
returns-clause-step c rs n h =
    let t = arena_tree c.args.self.arena.now in
    let leaves = both_leaves _ _ c.kind-kind.ensures c.kind.ensures c.is_leaf.ensures c.is_leaf-2.ensures c.if-is_leaf.false in
    let has = not_alone _ _ _ c.kind-kind.ensures c.ne.ensures c.node_of.ensures c.is_none.ensures c.if-ne-is_none.false in
    let first = rw c.key_operand.ensures at (c.store-first_field.ensures.step t rs n) in
    let value = rw c.literal.ensures at c.field_of-second_field.ensures.literal in
    let emitted = rw (c.set_opcode-opcode.ensures, c.reg_of.ensures) at (c.emit.ensures.step t) in
    leaf_key t _ _ _ _ _ leaves.0 has c.value_or_key.ensures
    (then_leaf t _ _ (c.leaf_operand.ensures.name, c.leaf_operand.ensures.literal) c.in-Some.is _ _ leaves.1
    (rw (source_operand _ _)
    (by_fields t _ _ _ _ _
    (then_by t _ place_at _ _ _ (first _ _) c.is_refusal.ensures c.if-is_refusal.false c.value_of-first.ensures
    (then_by t _ place_at _ _ _ (field_step t _ _ _ _ _ _ value c.field_of-second_field.ensures.register) c.is_refusal-2.ensures c.if-is_refusal-2.false c.value_of-second.ensures
    (emitted _ rs n _ _ (set_words _ _ _ _ _ _ _)))))))

pub returns-clause-inner : goal.returns-clause-inner
returns-clause-inner c h = absurd (true≢false (sym h ∙ no_inner _ c.emit.ensures.word))
