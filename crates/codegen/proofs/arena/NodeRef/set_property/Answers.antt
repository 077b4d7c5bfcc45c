-- `lower_expression::set_property` meets its contract: the two fields, key before value, and the instruction. Assumes nothing.
use Rattle.steps.specs.Answers.{place_at}
use Rattle.steps.proofs.Chains.{then_by, stop_by}
use Rattle.codegen.proofs.Entries.{by_fields, set_words, field_step}
use Rattle.codegen.proofs.arena.NodeRef.set_property.Goals as goal

pub returns-then-is_refusal-clause-lowers : goal.returns-then-is_refusal-clause-lowers
returns-then-is_refusal-clause-lowers c t E =
    let key = rw c.key_operand.ensures at c.field_of-first_field.ensures.literal in
    let held = c.field_of-first_field.ensures.register in
    rw c.on.ensures
    (by_fields t E _ _ _ _
    (stop_by t _ place_at _ _ _ (field_step t _ _ _ _ _ _ key held) place_at c.is_refusal.ensures c.if-is_refusal.true))

pub returns-then-is_refusal-2-clause-lowers : goal.returns-then-is_refusal-2-clause-lowers
returns-then-is_refusal-2-clause-lowers c t E =
    let key = rw c.key_operand.ensures at c.field_of-first_field.ensures.literal in
    let held = c.field_of-first_field.ensures.register in
    let value = rw c.literal.ensures at c.field_of-second_field.ensures.literal in
    rw c.on-then-is_refusal-2.ensures
    (by_fields t E _ _ _ _
    (then_by t _ place_at _ _ _ (field_step t _ _ _ _ _ _ key held) c.is_refusal.ensures c.if-is_refusal.false c.value_of-first.ensures
    (stop_by t _ place_at _ _ _ (field_step t _ _ _ _ _ _ value c.field_of-second_field.ensures.register) place_at c.is_refusal-2.ensures c.if-is_refusal-2.true)))

pub returns-clause-lowers : goal.returns-clause-lowers
returns-clause-lowers c t E =
    let key = rw c.key_operand.ensures at c.field_of-first_field.ensures.literal in
    let held = c.field_of-first_field.ensures.register in
    let value = rw c.literal.ensures at c.field_of-second_field.ensures.literal in
    let emitted = rw (c.set_opcode-opcode.ensures, c.reg_of.ensures) at (c.emit-e.ensures.step t) in
    rw c.on-2.ensures
    (by_fields t E _ _ _ _
    (then_by t _ place_at _ _ _ (field_step t _ _ _ _ _ _ key held) c.is_refusal.ensures c.if-is_refusal.false c.value_of-first.ensures
    (then_by t _ place_at _ _ _ (field_step t _ _ _ _ _ _ value c.field_of-second_field.ensures.register) c.is_refusal-2.ensures c.if-is_refusal-2.false c.value_of-second.ensures
    (emitted _ _ _ _ _ (set_words _ _ _ _ _ _ _)))))
