-- The needs of the walk, arm by arm. Each returns what its clause of the definition gives, a step a line. Assumes nothing.
use Rattle.std.proofs.Common.{rules, refl, ap, sym, ◌∙◌, inr, arith, None, Some}
use native.Mathlib.Nat.{sub-zero}
use borrow.Author.Tests.{leb-true, leb-false, ltb-true, ltb-false, eq-eqb, ne_eqb}
use Rattle.words.specs.Words.{words}
use Rattle.syntax.specs.declared.kind.Kind.{Kind}
use Rattle.syntax.proofs.KindWords.{number_is_not}
use Rattle.runtime.specs.Instruction.{words_of}
use Rattle.lowering.specs.Steps.{free_temp}
use Rattle.lowering.specs.Lower.{lower_materializing, lower_node, lower_tail, test, lower_expression}
use Rattle.lowering.proofs.Questions.Checked.{kind_word, checked_at}
use Rattle.lowering.proofs.Bound.Lowering.{jump_false_at}
use Rattle.steps.specs.Answers.{register_at, dest_of, operand_at, place_at, unit_at, settled}
use Rattle.steps.proofs.Words.{source_operand}
use Rattle.steps.proofs.Chains.{then, then_by, stop_by, then_done, then_marked, stop_marked}
use Rattle.codegen.specs.Walks.{arena_tree}
use Rattle.codegen.specs.Ready.{Lowers}
use Rattle.codegen.specs.Kinds.{block_kind, map_kind}
use Rattle.codegen.proofs.Reading.{node_there, node_absent}
use Rattle.codegen.proofs.Walk.{below_of, expression_of, then_into, then_freed, then_freed_source, then_patched, ended}
use Rattle.codegen.proofs.Children.{child_in, walk_in, operand_of, register_of, into_of}
use Rattle.codegen.proofs.FlatNodes.{given_operand}
use Rattle.codegen.proofs.Operands.{register_word, operated, single_words, single_below, single_of, fetched, property_below, property_of, operator_below, operator_of, both_literal, word_literal, then_literals, then_operator}
use Rattle.codegen.proofs.Branches.{same_fields, by_answer, lower_logical, logical_below, logical_of, jump_words, if_below, if_of, then_else, stop_else, call_below, call_of, arguments_of, arguments_none, then_argument, marked, stop_unmarked}
use Rattle.codegen.proofs.Conditions.{past, literal_left, literal_value, answered_value, at_meeting, not_compared, compared_kind, compared_below, compared_jump, two_literals, two_sources}
use Rattle.codegen.proofs.Entries.{below_absent, past_name, valued, leaf_key, key_and_value, store_both, entries_none, entries_again, entries_stop, at_next}
use Rattle.codegen.proofs.arena.NodeRef.+walk.Goals as goal
use Rattle.codegen.proofs.arena.NodeRef.+walk.Goals.{lower_map-then-is_inner+else-is_refusal-3, lower_map-else-is_inner+else-is_refusal-4, test-then-is_literal, test-else-is_literal}

-- ---- `arguments`: each is tried, walked into its local, and marked

pub arguments-invariant_of-argument : goal.arguments-invariant_of-argument
arguments-invariant_of-argument t c =
    let lower = (call_below c.args.self.arena.now.checked _ c.requires refl c.word-first.ensures c.word-count.ensures).argument _ c.loop-i-test.true in
    record { inside = child_in _ _ _ c.args.self.inside (rw c.word.ensures lower) }

pub arguments-peek_into-f1-requires : goal.arguments-peek_into-f1-requires
arguments-peek_into-f1-requires t c = omega (arith, c.local-d.ensures)

pub arguments-lower_materializing-r1-requires : goal.arguments-lower_materializing-r1-requires
arguments-lower_materializing-r1-requires t c =
    let lower = (call_below c.args.self.arena.now.checked _ c.requires refl c.word-first.ensures c.word-count.ensures).argument _ c.loop-i-test.true in
    walk_in {i = c.args.self.index} _ (Some _) _ (rw c.word.ensures lower) (omega (arith, c.decreases)) (omega (arith, c.local-d.ensures)) (λ h. (c.peek_into-f1.ensures.inner h).1.0)

pub arguments-returns-then-is_refusal-clause-lowers : goal.arguments-returns-then-is_refusal-clause-lowers
arguments-returns-then-is_refusal-clause-lowers t c =
    let few = (call_below c.args.self.arena.now.checked _ c.requires refl c.word-first.ensures c.word-count.ensures).few in
    let checked = c.args.self.arena.now.checked in
    let argument = into_of checked _ c.peek_into-f1.ensures.inner c.peek_into-f1.ensures.same c.lower_materializing-r1.ensures.walked c.lower_materializing-r1.ensures.done c.peek_into-f1.ensures.done in
    arguments_of _ _ _ c.word-first.ensures c.word-count.ensures
    (c.loop-i.invariant.0 ∙ then_argument _ _ _ _ _ _ c.loop-i-test.true (omega (arith, c.loop-i-test.true, few)) c.word.ensures c.local-d.ensures
    (stop_by _ _ register_at _ _ _ argument unit_at c.is_refusal.ensures c.if-is_refusal.true))

pub arguments-returns-then-s-eq0-clause-lowers : goal.arguments-returns-then-s-eq0-clause-lowers
arguments-returns-then-s-eq0-clause-lowers t c =
    let few = (call_below c.args.self.arena.now.checked _ c.requires refl c.word-first.ensures c.word-count.ensures).few in
    let checked = c.args.self.arena.now.checked in
    let argument = into_of checked _ c.peek_into-f1.ensures.inner c.peek_into-f1.ensures.same c.lower_materializing-r1.ensures.walked c.lower_materializing-r1.ensures.done c.peek_into-f1.ensures.done in
    by_answer _ _ _ _ _ c.refused.ensures
    (arguments_of _ _ _ c.word-first.ensures c.word-count.ensures
    (c.loop-i.invariant.0 ∙ then_argument _ _ _ _ _ _ c.loop-i-test.true (omega (arith, c.loop-i-test.true, few)) c.word.ensures c.local-d.ensures
    (then_into _ _ _ _ _ _ _ argument (sym c.is_refusal.ensures ∙ c.if-is_refusal.false)
    (stop_unmarked _ _ _ _ unit_at c.if-s-eq0.true (omega arith)))))

pub arguments-returns-in-Err-clause-lowers : goal.arguments-returns-in-Err-clause-lowers
arguments-returns-in-Err-clause-lowers t c =
    let few = (call_below c.args.self.arena.now.checked _ c.requires refl c.word-first.ensures c.word-count.ensures).few in
    let checked = c.args.self.arena.now.checked in
    let argument = into_of checked _ c.peek_into-f1.ensures.inner c.peek_into-f1.ensures.same c.lower_materializing-r1.ensures.walked c.lower_materializing-r1.ensures.done c.peek_into-f1.ensures.done in
    by_answer _ _ _ _ _ c.refused-in-Err.ensures
    (arguments_of _ _ _ c.word-first.ensures c.word-count.ensures
    (c.loop-i.invariant.0 ∙ then_argument _ _ _ _ _ _ c.loop-i-test.true (omega (arith, c.loop-i-test.true, few)) c.word.ensures c.local-d.ensures
    (then_into _ _ _ _ _ _ _ argument (sym c.is_refusal.ensures ∙ c.if-is_refusal.false)
    (stop_marked _ _ _ _ _ _ _ c.if-s-eq0.false (marked _ _ _ c.if-s-eq0.false c.mark_argument-marked.ensures.words) unit_at c.in-Err.is))))

pub arguments-loop-i-preserved : goal.arguments-loop-i-preserved
arguments-loop-i-preserved t c =
    let few = (call_below c.args.self.arena.now.checked _ c.requires refl c.word-first.ensures c.word-count.ensures).few in
    let checked = c.args.self.arena.now.checked in
    let argument = into_of checked _ c.peek_into-f1.ensures.inner c.peek_into-f1.ensures.same c.lower_materializing-r1.ensures.walked c.lower_materializing-r1.ensures.done c.peek_into-f1.ensures.done in
    let tree = arena_tree c.args.self.arena.now in (
      c.loop-i.invariant.0 ∙ then_argument _ _ _ _ _ _ c.loop-i-test.true (omega (arith, c.loop-i-test.true, few)) c.word.ensures c.local-d.ensures
          (then_into _ _ _ _ _ _ _ argument (sym c.is_refusal.ensures ∙ c.if-is_refusal.false)
          (then_marked tree _ _ _ _ _ _ c.if-s-eq0.false (marked _ _ _ c.if-s-eq0.false c.mark_argument-marked.ensures.words) c.in-Ok.is refl)),
      search rules,
    )

pub arguments-returns-clause-lowers : goal.arguments-returns-clause-lowers
arguments-returns-clause-lowers t c =
    by_answer _ _ _ _ _ c.answered.ensures
    (arguments_of _ _ _ c.word-first.ensures c.word-count.ensures
    (c.loop-i.invariant.0 ∙ arguments_none _ _ _ _ _ _ c.loop-i-test.false))

-- ---- `entry`: a key that is a name or a literal, and its value; or the key, and then its value

pub entry-returns-then-is_refusal-clause-lowers : goal.entry-returns-then-is_refusal-clause-lowers
entry-returns-then-is_refusal-clause-lowers t c =
    let checked = c.args.self.arena.now.checked in
    let value = operand_of checked c.peek-f1.ensures.inner c.lower_materializing-r1.ensures.walked c.lower_materializing-r1.ensures.done (λ h. c.peek-f1.ensures.operand h refl) in
    let has = below_absent _ _ c.requires.1 (omega arith) in
    leaf_key _ _ _ _ _ _ (leb-true _ _ (rw c.kind.ensures at (sym c.is_leaf.ensures ∙ c.if-is_leaf.true))) (λ e. has) (valued _ _ has)
    (stop_by _ _ _ _ _ _ value place_at c.is_refusal.ensures c.if-is_refusal.true)

pub entry-returns-then-is_leaf-clause-lowers : goal.entry-returns-then-is_leaf-clause-lowers
entry-returns-then-is_leaf-clause-lowers t c =
    let checked = c.args.self.arena.now.checked in
    let value = operand_of checked c.peek-f1.ensures.inner c.lower_materializing-r1.ensures.walked c.lower_materializing-r1.ensures.done (λ h. c.peek-f1.ensures.operand h refl) in
    let has = below_absent _ _ c.requires.1 (omega arith) in
    leaf_key _ _ _ _ _ _ (leb-true _ _ (rw c.kind.ensures at (sym c.is_leaf.ensures ∙ c.if-is_leaf.true))) (λ e. has) (valued _ _ has)
    (then_by _ _ _ _ _ _ value c.is_refusal.ensures c.if-is_refusal.false c.value_of-src.ensures
    (rw (source_operand _ _) (c.set_property.ensures.lowers _ _)))

pub entry-returns-then-is_refusal-2-clause-lowers : goal.entry-returns-then-is_refusal-2-clause-lowers
entry-returns-then-is_refusal-2-clause-lowers t c =
    let checked = c.args.self.arena.now.checked in
    let key = operand_of checked c.peek-f2.ensures.inner c.lower_materializing-r2.ensures.walked c.lower_materializing-r2.ensures.done (λ h. c.peek-f2.ensures.operand h refl) in
    key_and_value _ _ _ _ _ _ (past_name (leb-false _ _ (rw c.kind.ensures at (sym c.is_leaf.ensures ∙ c.if-is_leaf.false)))) (below_absent _ _ c.requires.1 (omega arith))
    (stop_by _ _ _ _ _ _ key place_at c.is_refusal-2.ensures c.if-is_refusal-2.true)

pub entry-returns-then-is_refusal-3-clause-lowers : goal.entry-returns-then-is_refusal-3-clause-lowers
entry-returns-then-is_refusal-3-clause-lowers t c =
    let checked = c.args.self.arena.now.checked in
    let key = operand_of checked c.peek-f2.ensures.inner c.lower_materializing-r2.ensures.walked c.lower_materializing-r2.ensures.done (λ h. c.peek-f2.ensures.operand h refl) in
    let value = operand_of checked c.peek-f3.ensures.inner c.lower_materializing-r3.ensures.walked c.lower_materializing-r3.ensures.done (λ h. c.peek-f3.ensures.operand h refl) in
    key_and_value _ _ _ _ _ _ (past_name (leb-false _ _ (rw c.kind.ensures at (sym c.is_leaf.ensures ∙ c.if-is_leaf.false)))) (below_absent _ _ c.requires.1 (omega arith))
    (then_by _ _ _ _ _ _ key c.is_refusal-2.ensures c.if-is_refusal-2.false c.value_of-src1.ensures
    (stop_by _ _ _ _ _ _ value place_at c.is_refusal-3.ensures c.if-is_refusal-3.true))

pub entry-returns-clause-lowers : goal.entry-returns-clause-lowers
entry-returns-clause-lowers t c =
    let checked = c.args.self.arena.now.checked in
    let key = operand_of checked c.peek-f2.ensures.inner c.lower_materializing-r2.ensures.walked c.lower_materializing-r2.ensures.done (λ h. c.peek-f2.ensures.operand h refl) in
    let value = operand_of checked c.peek-f3.ensures.inner c.lower_materializing-r3.ensures.walked c.lower_materializing-r3.ensures.done (λ h. c.peek-f3.ensures.operand h refl) in
    let kind = past_name (leb-false _ _ (rw c.kind.ensures at (sym c.is_leaf.ensures ∙ c.if-is_leaf.false))) in
    key_and_value _ _ _ _ _ _ kind (below_absent _ _ c.requires.1 (omega arith))
    (then_by _ _ _ _ _ _ key c.is_refusal-2.ensures c.if-is_refusal-2.false c.value_of-src1.ensures
    (then_by _ _ _ _ _ _ value c.is_refusal-3.ensures c.if-is_refusal-3.false c.value_of-src2.ensures
    (store_both _ _ _ _ _ _ kind _ _ (c.set_property-2.ensures.lowers _ _))))

-- ---- `fuse`: the left side, the right side, and the jump of both; each side is tried and then walked

pub fuse-invariant_of-left : goal.fuse-invariant_of-left
fuse-invariant_of-left t c = record { inside = child_in _ _ _ c.args.self.inside (compared_below _ _ c.requires c.word.ensures c.word-2.ensures c.args.self.arena.now.checked).0 }

pub fuse-lower_materializing-r1-requires : goal.fuse-lower_materializing-r1-requires
fuse-lower_materializing-r1-requires t c = walk_in _ None _ (compared_below _ _ c.requires c.word.ensures c.word-2.ensures c.args.self.arena.now.checked).0 (omega (arith, c.decreases)) tt (λ h. omega (arith, (c.peek-f1.ensures.inner h).1.0))

pub fuse-returns-then-is_refusal-clause-lowers : goal.fuse-returns-then-is_refusal-clause-lowers
fuse-returns-then-is_refusal-clause-lowers t c =
    let checked = c.args.self.arena.now.checked in
    let left = operand_of checked c.peek-f1.ensures.inner c.lower_materializing-r1.ensures.walked c.lower_materializing-r1.ensures.done (λ h. c.peek-f1.ensures.operand h refl) in
    compared_jump _ _ c.requires c.word.ensures c.word-2.ensures _ _ _ _
    (λ k e. stop_by _ _ _ _ _ _ left place_at c.is_refusal.ensures c.if-is_refusal.true)

pub fuse-invariant_of-right : goal.fuse-invariant_of-right
fuse-invariant_of-right t c = record { inside = child_in _ _ _ c.args.self.inside (compared_below _ _ c.requires c.word.ensures c.word-2.ensures c.args.self.arena.now.checked).1 }

pub fuse-lower_materializing-r2-requires : goal.fuse-lower_materializing-r2-requires
fuse-lower_materializing-r2-requires t c = walk_in _ None _ (compared_below _ _ c.requires c.word.ensures c.word-2.ensures c.args.self.arena.now.checked).1 (omega (arith, c.decreases)) tt (λ h. omega (arith, (c.peek-f2.ensures.inner h).1.0))

pub fuse-returns-then-is_refusal-2-clause-lowers : goal.fuse-returns-then-is_refusal-2-clause-lowers
fuse-returns-then-is_refusal-2-clause-lowers t c =
    let checked = c.args.self.arena.now.checked in
    let left = operand_of checked c.peek-f1.ensures.inner c.lower_materializing-r1.ensures.walked c.lower_materializing-r1.ensures.done (λ h. c.peek-f1.ensures.operand h refl) in
    let right = operand_of checked c.peek-f2.ensures.inner c.lower_materializing-r2.ensures.walked c.lower_materializing-r2.ensures.done (λ h. c.peek-f2.ensures.operand h refl) in
    compared_jump _ _ c.requires c.word.ensures c.word-2.ensures _ _ _ _
    (λ k e. then_by _ _ _ _ _ _ left c.is_refusal.ensures c.if-is_refusal.false c.value_of-src1.ensures
    (stop_by _ _ _ _ _ _ right place_at c.is_refusal-2.ensures c.if-is_refusal-2.true))

pub fuse-returns-then-src1-src2-clause-lowers : goal.fuse-returns-then-src1-src2-clause-lowers
fuse-returns-then-src1-src2-clause-lowers t c =
    let checked = c.args.self.arena.now.checked in
    let left = operand_of checked c.peek-f1.ensures.inner c.lower_materializing-r1.ensures.walked c.lower_materializing-r1.ensures.done (λ h. c.peek-f1.ensures.operand h refl) in
    let right = operand_of checked c.peek-f2.ensures.inner c.lower_materializing-r2.ensures.walked c.lower_materializing-r2.ensures.done (λ h. c.peek-f2.ensures.operand h refl) in
    compared_jump _ _ c.requires c.word.ensures c.word-2.ensures _ _ _ _
    (λ k e. then_by _ _ _ _ _ _ left c.is_refusal.ensures c.if-is_refusal.false c.value_of-src1.ensures
    (then_by _ _ _ _ _ _ right c.is_refusal-2.ensures c.if-is_refusal-2.false c.value_of-src2.ensures
    (two_literals _ _ c.requires c.word.ensures c.word-2.ensures _ _ _ _ k _ _ c.if-src1-src2.true c.test.ensures.lowers)))

pub fuse-fused_jump-f-requires : goal.fuse-fused_jump-f-requires
fuse-fused_jump-f-requires t c = compared_kind _ _ c.requires

pub fuse-returns-clause-lowers : goal.fuse-returns-clause-lowers
fuse-returns-clause-lowers t c =
    let tree = arena_tree c.args.self.arena.now in
    let checked = c.args.self.arena.now.checked in
    let left = operand_of checked c.peek-f1.ensures.inner c.lower_materializing-r1.ensures.walked c.lower_materializing-r1.ensures.done (λ h. c.peek-f1.ensures.operand h refl) in
    let right = operand_of checked c.peek-f2.ensures.inner c.lower_materializing-r2.ensures.walked c.lower_materializing-r2.ensures.done (λ h. c.peek-f2.ensures.operand h refl) in
    rw c.on.ensures
    (compared_jump _ _ c.requires c.word.ensures c.word-2.ensures _ _ _ _
    (λ k e. then_by _ _ _ _ _ _ left c.is_refusal.ensures c.if-is_refusal.false c.value_of-src1.ensures
    (then_by _ _ _ _ _ _ right c.is_refusal-2.ensures c.if-is_refusal-2.false c.value_of-src2.ensures
    (two_sources _ _ c.requires c.word.ensures c.word-2.ensures _ _ _ _ k _ _
    (c.fused_jump-f.ensures.step c.lower_materializing-r2.result.after.registers c.lower_materializing-r2.result.after.marks
    (lower_expression free_temp (arena_tree c.args.self.arena.now)) (lower_expression free_temp (arena_tree c.args.self.arena.now) c.args.self.index) k c.if-src1-src2.false e)))))

-- ---- `logical`: the left side into the destination, the jump, the right side into the same

pub logical-returns-then-is_refusal-clause-lowers : goal.logical-returns-then-is_refusal-clause-lowers
unfolding lower_logical
logical-returns-then-is_refusal-clause-lowers t c =
    let checked = c.args.self.arena.now.checked in
    logical_of checked _ c.word.ensures c.word-2.ensures c.requires.1 _ _
    (stop_by _ _ register_at _ _ _ (c.destination-t.ensures.step _ _ _ _) (operand_at _) c.is_refusal.ensures c.if-is_refusal.true)

pub logical-invariant_of-left : goal.logical-invariant_of-left
logical-invariant_of-left t c = record { inside = child_in _ _ _ c.args.self.inside (logical_below c.args.self.arena.now.checked _ c.word.ensures c.word-2.ensures c.requires.1).0 }

pub logical-peek_into-f1-requires : goal.logical-peek_into-f1-requires
logical-peek_into-f1-requires t c = register_word _ c.is_refusal.ensures c.if-is_refusal.false c.value_of-d.ensures (c.destination-t.ensures.word c.requires.0)

pub logical-lower_materializing-r1-requires : goal.logical-lower_materializing-r1-requires
logical-lower_materializing-r1-requires t c =
    let few = register_word _ c.is_refusal.ensures c.if-is_refusal.false c.value_of-d.ensures (c.destination-t.ensures.word c.requires.0) in
    walk_in _ (Some _) _ (logical_below c.args.self.arena.now.checked _ c.word.ensures c.word-2.ensures c.requires.1).0 (omega (arith, c.decreases)) few (λ h. (c.peek_into-f1.ensures.inner h).1.0)

pub logical-returns-then-is_refusal-2-clause-lowers : goal.logical-returns-then-is_refusal-2-clause-lowers
unfolding lower_logical
logical-returns-then-is_refusal-2-clause-lowers t c =
    let tree = arena_tree c.args.self.arena.now in
    let checked = c.args.self.arena.now.checked in
    let left = into_of checked _ c.peek_into-f1.ensures.inner c.peek_into-f1.ensures.same c.lower_materializing-r1.ensures.walked c.lower_materializing-r1.ensures.done c.peek_into-f1.ensures.done in
    logical_of checked _ c.word.ensures c.word-2.ensures c.requires.1 _ _
    (then_by tree _ register_at _ _ _ (c.destination-t.ensures.step tree _ _ _) c.is_refusal.ensures c.if-is_refusal.false c.value_of-d.ensures
    (stop_by _ _ register_at _ _ _ left (operand_at _) c.is_refusal-2.ensures c.if-is_refusal-2.true))

pub logical-returns-then-is_refusal-3-clause-lowers : goal.logical-returns-then-is_refusal-3-clause-lowers
unfolding lower_logical
logical-returns-then-is_refusal-3-clause-lowers t c =
    let tree = arena_tree c.args.self.arena.now in
    let checked = c.args.self.arena.now.checked in
    let left = into_of checked _ c.peek_into-f1.ensures.inner c.peek_into-f1.ensures.same c.lower_materializing-r1.ensures.walked c.lower_materializing-r1.ensures.done c.peek_into-f1.ensures.done in
    let told = jump_words _ _ (c.logical_jump-opcode.ensures.and, c.logical_jump-opcode.ensures.or) c.requires.1 c.reg_of.ensures in
    logical_of checked _ c.word.ensures c.word-2.ensures c.requires.1 _ _
    (then_by tree _ register_at _ _ _ (c.destination-t.ensures.step tree _ _ _) c.is_refusal.ensures c.if-is_refusal.false c.value_of-d.ensures
    (then_into _ _ _ _ _ _ _ left (sym c.is_refusal-2.ensures ∙ c.if-is_refusal-2.false)
    (stop_by tree _ place_at _ _ _ (c.emit-e.ensures.step tree _ _ _ told) (operand_at _) c.is_refusal-3.ensures c.if-is_refusal-3.true)))

pub logical-invariant_of-right : goal.logical-invariant_of-right
logical-invariant_of-right t c = record { inside = child_in _ _ _ c.args.self.inside (logical_below c.args.self.arena.now.checked _ c.word.ensures c.word-2.ensures c.requires.1).1 }

pub logical-peek_into-f2-requires : goal.logical-peek_into-f2-requires
logical-peek_into-f2-requires t c = register_word _ c.is_refusal.ensures c.if-is_refusal.false c.value_of-d.ensures (c.destination-t.ensures.word c.requires.0)

pub logical-lower_materializing-r2-requires : goal.logical-lower_materializing-r2-requires
logical-lower_materializing-r2-requires t c =
    let few = register_word _ c.is_refusal.ensures c.if-is_refusal.false c.value_of-d.ensures (c.destination-t.ensures.word c.requires.0) in
    walk_in _ (Some _) _ (logical_below c.args.self.arena.now.checked _ c.word.ensures c.word-2.ensures c.requires.1).1 (omega (arith, c.decreases)) few (λ h. (c.peek_into-f2.ensures.inner h).1.0)

pub logical-returns-then-is_refusal-4-clause-lowers : goal.logical-returns-then-is_refusal-4-clause-lowers
unfolding lower_logical
logical-returns-then-is_refusal-4-clause-lowers t c =
    let tree = arena_tree c.args.self.arena.now in
    let checked = c.args.self.arena.now.checked in
    let left = into_of checked _ c.peek_into-f1.ensures.inner c.peek_into-f1.ensures.same c.lower_materializing-r1.ensures.walked c.lower_materializing-r1.ensures.done c.peek_into-f1.ensures.done in
    let right = into_of checked _ c.peek_into-f2.ensures.inner c.peek_into-f2.ensures.same c.lower_materializing-r2.ensures.walked c.lower_materializing-r2.ensures.done c.peek_into-f2.ensures.done in
    let told = jump_words _ _ (c.logical_jump-opcode.ensures.and, c.logical_jump-opcode.ensures.or) c.requires.1 c.reg_of.ensures in
    logical_of checked _ c.word.ensures c.word-2.ensures c.requires.1 _ _
    (then_by tree _ register_at _ _ _ (c.destination-t.ensures.step tree _ _ _) c.is_refusal.ensures c.if-is_refusal.false c.value_of-d.ensures
    (then_into _ _ _ _ _ _ _ left (sym c.is_refusal-2.ensures ∙ c.if-is_refusal-2.false)
    (then_by tree _ place_at _ _ _ (c.emit-e.ensures.step tree _ _ _ told) c.is_refusal-3.ensures c.if-is_refusal-3.false c.value_of-place.ensures
    (stop_by _ _ register_at _ _ _ right (operand_at _) c.is_refusal-4.ensures c.if-is_refusal-4.true))))

pub logical-returns-clause-lowers : goal.logical-returns-clause-lowers
unfolding lower_logical settled
logical-returns-clause-lowers t c =
    let tree = arena_tree c.args.self.arena.now in
    let checked = c.args.self.arena.now.checked in
    let left = into_of checked _ c.peek_into-f1.ensures.inner c.peek_into-f1.ensures.same c.lower_materializing-r1.ensures.walked c.lower_materializing-r1.ensures.done c.peek_into-f1.ensures.done in
    let right = into_of checked _ c.peek_into-f2.ensures.inner c.peek_into-f2.ensures.same c.lower_materializing-r2.ensures.walked c.lower_materializing-r2.ensures.done c.peek_into-f2.ensures.done in
    let few = register_word _ c.is_refusal.ensures c.if-is_refusal.false c.value_of-d.ensures (c.destination-t.ensures.word c.requires.0) in
    let told = jump_words _ _ (c.logical_jump-opcode.ensures.and, c.logical_jump-opcode.ensures.or) c.requires.1 c.reg_of.ensures in
    by_answer _ _ _ _ _ c.answered.ensures
    (logical_of checked _ c.word.ensures c.word-2.ensures c.requires.1 _ _
    (then_by tree _ register_at _ _ _ (c.destination-t.ensures.step tree _ _ _) c.is_refusal.ensures c.if-is_refusal.false c.value_of-d.ensures
    (then_into _ _ _ _ _ _ _ left (sym c.is_refusal-2.ensures ∙ c.if-is_refusal-2.false)
    (then_by tree _ place_at _ _ _ (c.emit-e.ensures.step tree _ _ _ told) c.is_refusal-3.ensures c.if-is_refusal-3.false c.value_of-place.ensures
    (then_into _ _ _ _ _ _ _ right (sym c.is_refusal-4.ensures ∙ c.if-is_refusal-4.false)
    (then_patched _ _ _ _ c.patch_to_next.ensures.words
    (ended _ _ _ _ few)))))))

-- ---- `lower_binary`: destination first, left, right; then two literals loaded, or the instruction and the operands' registers given back

pub lower_binary-returns-then-is_refusal-clause-lowers : goal.lower_binary-returns-then-is_refusal-clause-lowers
lower_binary-returns-then-is_refusal-clause-lowers t c =
    let checked = c.args.self.arena.now.checked in
    operator_of checked _ c.requires.1 c.word.ensures c.word-2.ensures _ _
    (stop_by _ _ register_at _ _ _ (c.destination-t.ensures.step _ _ _ _) (operand_at _) c.is_refusal.ensures c.if-is_refusal.true)

pub lower_binary-lower_materializing-r1-requires : goal.lower_binary-lower_materializing-r1-requires
lower_binary-lower_materializing-r1-requires t c = walk_in _ None _ (operator_below c.args.self.arena.now.checked _ c.requires.1 c.word.ensures c.word-2.ensures).0 (omega (arith, c.decreases)) tt (λ h. omega (arith, (c.peek-f1.ensures.inner h).1.0))

pub lower_binary-returns-then-is_refusal-2-clause-lowers : goal.lower_binary-returns-then-is_refusal-2-clause-lowers
lower_binary-returns-then-is_refusal-2-clause-lowers t c =
    let tree = arena_tree c.args.self.arena.now in
    let checked = c.args.self.arena.now.checked in
    let left = operand_of checked c.peek-f1.ensures.inner c.lower_materializing-r1.ensures.walked c.lower_materializing-r1.ensures.done (λ h. c.peek-f1.ensures.operand h refl) in
    operator_of checked _ c.requires.1 c.word.ensures c.word-2.ensures _ _
    (then_by tree _ register_at _ _ _ (c.destination-t.ensures.step tree _ _ _) c.is_refusal.ensures c.if-is_refusal.false c.value_of-d.ensures
    (stop_by tree _ (operand_at _) _ _ _ left (operand_at _) c.is_refusal-2.ensures c.if-is_refusal-2.true))

pub lower_binary-lower_materializing-r2-requires : goal.lower_binary-lower_materializing-r2-requires
lower_binary-lower_materializing-r2-requires t c = walk_in _ None _ (operator_below c.args.self.arena.now.checked _ c.requires.1 c.word.ensures c.word-2.ensures).1 (omega (arith, c.decreases)) tt (λ h. omega (arith, (c.peek-f2.ensures.inner h).1.0))

pub lower_binary-returns-then-is_refusal-3-clause-lowers : goal.lower_binary-returns-then-is_refusal-3-clause-lowers
lower_binary-returns-then-is_refusal-3-clause-lowers t c =
    let tree = arena_tree c.args.self.arena.now in
    let checked = c.args.self.arena.now.checked in
    let left = operand_of checked c.peek-f1.ensures.inner c.lower_materializing-r1.ensures.walked c.lower_materializing-r1.ensures.done (λ h. c.peek-f1.ensures.operand h refl) in
    let right = operand_of checked c.peek-f2.ensures.inner c.lower_materializing-r2.ensures.walked c.lower_materializing-r2.ensures.done (λ h. c.peek-f2.ensures.operand h refl) in
    operator_of checked _ c.requires.1 c.word.ensures c.word-2.ensures _ _
    (then_by tree _ register_at _ _ _ (c.destination-t.ensures.step tree _ _ _) c.is_refusal.ensures c.if-is_refusal.false c.value_of-d.ensures
    (then_by tree _ (operand_at _) _ _ _ left c.is_refusal-2.ensures c.if-is_refusal-2.false c.value_of-src1.ensures
    (stop_by tree _ (operand_at _) _ _ _ right (operand_at _) c.is_refusal-3.ensures c.if-is_refusal-3.true)))

pub lower_binary-returns-then-src1-src2-clause-lowers : goal.lower_binary-returns-then-src1-src2-clause-lowers
lower_binary-returns-then-src1-src2-clause-lowers t c =
    let tree = arena_tree c.args.self.arena.now in
    let checked = c.args.self.arena.now.checked in
    let left = operand_of checked c.peek-f1.ensures.inner c.lower_materializing-r1.ensures.walked c.lower_materializing-r1.ensures.done (λ h. c.peek-f1.ensures.operand h refl) in
    let right = operand_of checked c.peek-f2.ensures.inner c.lower_materializing-r2.ensures.walked c.lower_materializing-r2.ensures.done (λ h. c.peek-f2.ensures.operand h refl) in
    let few = register_word _ c.is_refusal.ensures c.if-is_refusal.false c.value_of-d.ensures (c.destination-t.ensures.word c.requires.0) in
    let both = both_literal _ _ c.if-src1-src2.true in
    let left_literal = word_literal tree _ None _ _ _ left c.is_refusal-2.ensures c.if-is_refusal-2.false c.value_of-src1.ensures both.0 in
    let right_literal = word_literal tree _ None _ _ _ right c.is_refusal-3.ensures c.if-is_refusal-3.false c.value_of-src2.ensures both.1 in
    operator_of checked _ c.requires.1 c.word.ensures c.word-2.ensures _ _
    (then_by tree _ register_at _ _ _ (c.destination-t.ensures.step tree _ _ _) c.is_refusal.ensures c.if-is_refusal.false c.value_of-d.ensures
    (then_by tree _ (operand_at _) _ _ _ left c.is_refusal-2.ensures c.if-is_refusal-2.false c.value_of-src1.ensures
    (then_by tree _ (operand_at _) _ _ _ right c.is_refusal-3.ensures c.if-is_refusal-3.false c.value_of-src2.ensures
    (then_literals tree _ c.word.ensures c.word-2.ensures _ _ _ _ both left_literal right_literal
    (c.lower_literals.ensures.by_index ∙ given_operand _ _ _ _ _ (inr few) c.lower_literals.ensures.word)))))

pub lower_binary-returns-then-is_refusal-4-clause-lowers : goal.lower_binary-returns-then-is_refusal-4-clause-lowers
lower_binary-returns-then-is_refusal-4-clause-lowers t c =
    let tree = arena_tree c.args.self.arena.now in
    let checked = c.args.self.arena.now.checked in
    let left = operand_of checked c.peek-f1.ensures.inner c.lower_materializing-r1.ensures.walked c.lower_materializing-r1.ensures.done (λ h. c.peek-f1.ensures.operand h refl) in
    let right = operand_of checked c.peek-f2.ensures.inner c.lower_materializing-r2.ensures.walked c.lower_materializing-r2.ensures.done (λ h. c.peek-f2.ensures.operand h refl) in
    let operated = by_answer _ _ _ _ _ c.on-e.ensures (c.binary_operation-f.ensures.step c.lower_materializing-r2.result.after.registers c.lower_materializing-r2.result.after.marks
    (lower_expression free_temp tree) c.if-src1-src2.false) in
    operator_of checked _ c.requires.1 c.word.ensures c.word-2.ensures _ _
    (then_by tree _ register_at _ _ _ (c.destination-t.ensures.step tree _ _ _) c.is_refusal.ensures c.if-is_refusal.false c.value_of-d.ensures
    (then_by tree _ (operand_at _) _ _ _ left c.is_refusal-2.ensures c.if-is_refusal-2.false c.value_of-src1.ensures
    (then_by tree _ (operand_at _) _ _ _ right c.is_refusal-3.ensures c.if-is_refusal-3.false c.value_of-src2.ensures
    (then_operator tree _ c.word.ensures c.word-2.ensures _ _ _ _ c.if-src1-src2.false
    (stop_by _ _ _ _ _ _ operated (operand_at _) c.is_refusal-4.ensures c.if-is_refusal-4.true)))))

pub lower_binary-returns-clause-lowers : goal.lower_binary-returns-clause-lowers
unfolding settled
lower_binary-returns-clause-lowers t c =
    let tree = arena_tree c.args.self.arena.now in
    let checked = c.args.self.arena.now.checked in
    let left = operand_of checked c.peek-f1.ensures.inner c.lower_materializing-r1.ensures.walked c.lower_materializing-r1.ensures.done (λ h. c.peek-f1.ensures.operand h refl) in
    let right = operand_of checked c.peek-f2.ensures.inner c.lower_materializing-r2.ensures.walked c.lower_materializing-r2.ensures.done (λ h. c.peek-f2.ensures.operand h refl) in
    let few = register_word _ c.is_refusal.ensures c.if-is_refusal.false c.value_of-d.ensures (c.destination-t.ensures.word c.requires.0) in
    let operated = by_answer _ _ _ _ _ c.on-e.ensures (c.binary_operation-f.ensures.step c.lower_materializing-r2.result.after.registers c.lower_materializing-r2.result.after.marks
    (lower_expression free_temp tree) c.if-src1-src2.false) in
    by_answer _ _ _ _ _ c.answered.ensures
    (operator_of checked _ c.requires.1 c.word.ensures c.word-2.ensures _ _
    (then_by tree _ register_at _ _ _ (c.destination-t.ensures.step tree _ _ _) c.is_refusal.ensures c.if-is_refusal.false c.value_of-d.ensures
    (then_by tree _ (operand_at _) _ _ _ left c.is_refusal-2.ensures c.if-is_refusal-2.false c.value_of-src1.ensures
    (then_by tree _ (operand_at _) _ _ _ right c.is_refusal-3.ensures c.if-is_refusal-3.false c.value_of-src2.ensures
    (then_operator tree _ c.word.ensures c.word-2.ensures _ _ _ _ c.if-src1-src2.false
    (then _ _ _ _ _ _ operated (sym c.is_refusal-4.ensures ∙ c.if-is_refusal-4.false)
    (then_freed_source _ _ _ _ c.give_back-held1.ensures
    (then_freed_source _ _ _ _ c.give_back-held2.ensures
    (ended _ _ _ _ few)))))))))

-- ---- `lower_block`: destination, then the tail or nil

pub lower_block-returns-then-is_refusal-clause-lowers : goal.lower_block-returns-then-is_refusal-clause-lowers
unfolding lower_node
lower_block-returns-then-is_refusal-clause-lowers t c =
    let checked = c.args.self.arena.now.checked in
    expression_of checked _ block_kind c.requires.1 _ _
    (stop_by _ _ register_at _ _ _ (c.destination-t.ensures.step _ _ _ _) (operand_at _) c.is_refusal.ensures c.if-is_refusal.true)

pub lower_block-returns-then-is_refusal-2-clause-lowers : goal.lower_block-returns-then-is_refusal-2-clause-lowers
unfolding lower_node lower_tail
lower_block-returns-then-is_refusal-2-clause-lowers t c =
    let tree = arena_tree c.args.self.arena.now in
    let checked = c.args.self.arena.now.checked in
    let absent_tail = eq-eqb _ _ (rw c.word.ensures at (node_absent c.node_of.ensures c.in_default.is)) in
    expression_of checked _ block_kind c.requires.1 _ _
    (then_by tree _ register_at _ _ _ (c.destination-t.ensures.step tree _ _ _) c.is_refusal.ensures c.if-is_refusal.false c.value_of-d.ensures
    (rw absent_tail (stop_by tree _ register_at _ _ _ (c.load_constant-r.ensures.step tree _) (operand_at _) c.is_refusal-in_default.ensures c.if-is_refusal-2.true)))

pub lower_block-returns-in_default-clause-lowers : goal.lower_block-returns-in_default-clause-lowers
unfolding lower_node lower_tail settled
lower_block-returns-in_default-clause-lowers t c =
    let tree = arena_tree c.args.self.arena.now in
    let checked = c.args.self.arena.now.checked in
    let few = register_word _ c.is_refusal.ensures c.if-is_refusal.false c.value_of-d.ensures (c.destination-t.ensures.word c.requires.0) in
    let absent_tail = eq-eqb _ _ (rw c.word.ensures at (node_absent c.node_of.ensures c.in_default.is)) in
    by_answer _ _ _ _ _ c.answered.ensures
    (expression_of checked _ block_kind c.requires.1 _ _
    (then_by tree _ register_at _ _ _ (c.destination-t.ensures.step tree _ _ _) c.is_refusal.ensures c.if-is_refusal.false c.value_of-d.ensures
    (rw absent_tail (then tree _ register_at _ _ _ (c.load_constant-r.ensures.step tree _) (sym c.is_refusal-in_default.ensures ∙ c.if-is_refusal-2.false)
    (ended _ _ _ _ few)))))

pub lower_block-invariant_of-tail : goal.lower_block-invariant_of-tail
lower_block-invariant_of-tail t c =
    let there = node_there c.node_of.ensures c.in-Some.is in
    let tail_read = rw c.word.ensures at there.0 in
    let below = rw (← tail_read) at (below_of c.args.self.arena.now.checked _ block_kind c.requires.1) in
    record { inside = child_in _ _ _ c.args.self.inside (below (rw (← there.0) at there.1)) }

pub lower_block-peek_into-f1-requires : goal.lower_block-peek_into-f1-requires
lower_block-peek_into-f1-requires t c = register_word _ c.is_refusal.ensures c.if-is_refusal.false c.value_of-d.ensures (c.destination-t.ensures.word c.requires.0)

pub lower_block-lower_materializing-r1-requires : goal.lower_block-lower_materializing-r1-requires
lower_block-lower_materializing-r1-requires t c =
    let there = node_there c.node_of.ensures c.in-Some.is in
    let tail_read = rw c.word.ensures at there.0 in
    let few = register_word _ c.is_refusal.ensures c.if-is_refusal.false c.value_of-d.ensures (c.destination-t.ensures.word c.requires.0) in
    let below = rw (← tail_read) at (below_of c.args.self.arena.now.checked _ block_kind c.requires.1) in
    walk_in _ (Some _) _ (below (rw (← there.0) at there.1)) (omega (arith, c.decreases)) few (λ h. (c.peek_into-f1.ensures.inner h).1.0)

pub lower_block-returns-then-is_refusal-3-clause-lowers : goal.lower_block-returns-then-is_refusal-3-clause-lowers
unfolding lower_node lower_tail
lower_block-returns-then-is_refusal-3-clause-lowers t c =
    let there = node_there c.node_of.ensures c.in-Some.is in
    let tail_read = rw c.word.ensures at there.0 in
    let tree = arena_tree c.args.self.arena.now in
    let checked = c.args.self.arena.now.checked in
    let some_tail = ne_eqb _ _ (rw c.word.ensures at there.1) in
    let tried = c.peek_into-f1.ensures in
    let walked = c.lower_materializing-r1.ensures in
    let tail = rw tail_read at (into_of checked _ tried.inner tried.same walked.walked walked.done tried.done) in
    expression_of checked _ block_kind c.requires.1 _ _
    (then_by tree _ register_at _ _ _ (c.destination-t.ensures.step tree _ _ _) c.is_refusal.ensures c.if-is_refusal.false c.value_of-d.ensures
    (rw some_tail (stop_by tree _ register_at _ _ _ tail (operand_at _) c.is_refusal-2.ensures c.if-is_refusal-3.true)))

pub lower_block-returns-clause-lowers : goal.lower_block-returns-clause-lowers
unfolding lower_node lower_tail settled
lower_block-returns-clause-lowers t c =
    let there = node_there c.node_of.ensures c.in-Some.is in
    let tail_read = rw c.word.ensures at there.0 in
    let tree = arena_tree c.args.self.arena.now in
    let checked = c.args.self.arena.now.checked in
    let few = register_word _ c.is_refusal.ensures c.if-is_refusal.false c.value_of-d.ensures (c.destination-t.ensures.word c.requires.0) in
    let some_tail = ne_eqb _ _ (rw c.word.ensures at there.1) in
    let tried = c.peek_into-f1.ensures in
    let walked = c.lower_materializing-r1.ensures in
    let tail = rw tail_read at (into_of checked _ tried.inner tried.same walked.walked walked.done tried.done) in
    by_answer _ _ _ _ _ c.answered-2.ensures
    (expression_of checked _ block_kind c.requires.1 _ _
    (then_by tree _ register_at _ _ _ (c.destination-t.ensures.step tree _ _ _) c.is_refusal.ensures c.if-is_refusal.false c.value_of-d.ensures
    (rw some_tail (then tree _ register_at _ _ _ tail (sym c.is_refusal-2.ensures ∙ c.if-is_refusal-3.false)
    (ended _ _ _ _ few)))))

-- ---- `lower_call`: the arguments, destination, callee, one instruction, and the callee's register given back

pub lower_call-returns-then-is_refusal-clause-lowers : goal.lower_call-returns-then-is_refusal-clause-lowers
unfolding lower_node
lower_call-returns-then-is_refusal-clause-lowers t c =
    let checked = c.args.self.arena.now.checked in
    call_of checked _ c.requires.1 c.word.ensures _ _
    (stop_by _ _ unit_at _ _ _ c.arguments-a.ensures.lowers (operand_at _) c.is_refusal.ensures c.if-is_refusal.true)

pub lower_call-returns-then-is_refusal-2-clause-lowers : goal.lower_call-returns-then-is_refusal-2-clause-lowers
unfolding lower_node
lower_call-returns-then-is_refusal-2-clause-lowers t c =
    let tree = arena_tree c.args.self.arena.now in
    let checked = c.args.self.arena.now.checked in
    call_of checked _ c.requires.1 c.word.ensures _ _
    (then_by tree _ unit_at _ _ _ c.arguments-a.ensures.lowers c.is_refusal.ensures c.if-is_refusal.false refl
    (stop_by _ _ register_at _ _ _ (c.destination-t.ensures.step _ _ _ _) (operand_at _) c.is_refusal-2.ensures c.if-is_refusal-2.true))

pub lower_call-invariant_of-callee : goal.lower_call-invariant_of-callee
lower_call-invariant_of-callee t c = record { inside = child_in _ _ _ c.args.self.inside (call_below c.args.self.arena.now.checked _ c.requires.1 c.word.ensures refl refl).callee }

pub lower_call-lower_materializing-r1-requires : goal.lower_call-lower_materializing-r1-requires
lower_call-lower_materializing-r1-requires t c = walk_in _ None _ (call_below c.args.self.arena.now.checked _ c.requires.1 c.word.ensures refl refl).callee (omega (arith, c.decreases)) tt (λ h. omega (arith, (c.peek-f1.ensures.inner h).1.0))

pub lower_call-returns-then-is_refusal-3-clause-lowers : goal.lower_call-returns-then-is_refusal-3-clause-lowers
unfolding lower_node
lower_call-returns-then-is_refusal-3-clause-lowers t c =
    let tree = arena_tree c.args.self.arena.now in
    let checked = c.args.self.arena.now.checked in
    let callee = register_of checked c.peek-f1.ensures.inner c.lower_materializing-r1.ensures.walked c.lower_materializing-r1.ensures.done (λ h. c.peek-f1.ensures.register h refl) in
    call_of checked _ c.requires.1 c.word.ensures _ _
    (then_by tree _ unit_at _ _ _ c.arguments-a.ensures.lowers c.is_refusal.ensures c.if-is_refusal.false refl
    (then_by tree _ register_at _ _ _ (c.destination-t.ensures.step tree _ _ _) c.is_refusal-2.ensures c.if-is_refusal-2.false c.value_of-d.ensures
    (stop_by _ _ register_at _ _ _ callee (operand_at _) c.is_refusal-3.ensures c.if-is_refusal-3.true)))

pub lower_call-returns-then-is_refusal-4-clause-lowers : goal.lower_call-returns-then-is_refusal-4-clause-lowers
unfolding lower_node words_of
lower_call-returns-then-is_refusal-4-clause-lowers t c =
    let tree = arena_tree c.args.self.arena.now in
    let checked = c.args.self.arena.now.checked in
    let callee = register_of checked c.peek-f1.ensures.inner c.lower_materializing-r1.ensures.walked c.lower_materializing-r1.ensures.done (λ h. c.peek-f1.ensures.register h refl) in
    let told = same_fields _ c.reg_of.ensures c.reg_of-2.ensures c.word-count.ensures in
    call_of checked _ c.requires.1 c.word.ensures _ _
    (then_by tree _ unit_at _ _ _ c.arguments-a.ensures.lowers c.is_refusal.ensures c.if-is_refusal.false refl
    (then_by tree _ register_at _ _ _ (c.destination-t.ensures.step tree _ _ _) c.is_refusal-2.ensures c.if-is_refusal-2.false c.value_of-d.ensures
    (then_by tree _ register_at _ _ _ callee c.is_refusal-3.ensures c.if-is_refusal-3.false c.value_of-src.ensures
    (stop_by tree _ place_at _ _ _ (c.emit-e.ensures.step tree _ _ _ told) (operand_at _) c.is_refusal-4.ensures c.if-is_refusal-4.true))))

pub lower_call-returns-clause-lowers : goal.lower_call-returns-clause-lowers
unfolding lower_node words_of settled
lower_call-returns-clause-lowers t c =
    let tree = arena_tree c.args.self.arena.now in
    let checked = c.args.self.arena.now.checked in
    let callee = register_of checked c.peek-f1.ensures.inner c.lower_materializing-r1.ensures.walked c.lower_materializing-r1.ensures.done (λ h. c.peek-f1.ensures.register h refl) in
    let few = register_word _ c.is_refusal-2.ensures c.if-is_refusal-2.false c.value_of-d.ensures (c.destination-t.ensures.word c.requires.0) in
    let told = same_fields _ c.reg_of.ensures c.reg_of-2.ensures c.word-count.ensures in
    by_answer _ _ _ _ _ (rw c.given_back.ensures at c.answered.ensures)
    (call_of checked _ c.requires.1 c.word.ensures _ _
    (then_by tree _ unit_at _ _ _ c.arguments-a.ensures.lowers c.is_refusal.ensures c.if-is_refusal.false refl
    (then_by tree _ register_at _ _ _ (c.destination-t.ensures.step tree _ _ _) c.is_refusal-2.ensures c.if-is_refusal-2.false c.value_of-d.ensures
    (then_by tree _ register_at _ _ _ callee c.is_refusal-3.ensures c.if-is_refusal-3.false c.value_of-src.ensures
    (then tree _ place_at _ _ _ (c.emit-e.ensures.step tree _ _ _ told) (sym c.is_refusal-4.ensures ∙ c.if-is_refusal-4.false)
    (then_freed _ _ _ refl
    (ended _ _ _ _ few)))))))

-- ---- `lower_expression`: each kind goes to its arm, a literal is left as it is

pub lower_expression-returns-then-is_literal-clause-lowers : goal.lower_expression-returns-then-is_literal-clause-lowers
lower_expression-returns-then-is_literal-clause-lowers t c =
    rw c.answered.ensures
    (literal_left c.args.self.arena.now.checked c.args.self.index (ltb-true _ _ (rw c.kind-kind.ensures at (sym c.is_literal.ensures ∙ c.if-is_literal.true))) (dest_of c.args.dest) _)

pub lower_expression-lower_map-requires : goal.lower_expression-lower_map-requires
lower_expression-lower_map-requires t c =
    let kind = c.kind-kind.ensures in
    let later = leb-false _ _ (rw kind at (sym c.is_leaf_or_operator.ensures ∙ c.if-is_leaf_or_operator.false)) in
    let over = past _ (rw kind at (sym c.jumps.ensures ∙ c.if-jumps.false)) later in
    let no_block = number_is_not _ Kind.Block kind c.in_default.not-Block in
    let no_call = number_is_not _ Kind.FunctionCall kind c.in_default.not-FunctionCall in
    let no_property = number_is_not _ Kind.PropertyAccess kind c.in_default.not-PropertyAccess in
    let known = kind_word (checked_at c.args.self.arena.now.checked c.args.self.index) in
    (omega (arith, c.decreases), (c.requires, omega (arith, over, known, no_block, no_call, no_property)))

-- ---- `lower_if`: the condition, destination, the branch, its jump, the patch, the other branch, the second patch

pub lower_if-invariant_of-condition : goal.lower_if-invariant_of-condition
lower_if-invariant_of-condition t c = record { inside = child_in _ _ _ c.args.self.inside (if_below c.args.self.arena.now.checked _ c.requires.1 c.word.ensures refl refl).condition }

pub lower_if-lower_jump_if_false-r-requires : goal.lower_if-lower_jump_if_false-r-requires
lower_if-lower_jump_if_false-r-requires t c =
    omega (arith, c.decreases, (if_below c.args.self.arena.now.checked _ c.requires.1 c.word.ensures c.word-2.ensures refl).condition)

pub lower_if-returns-then-is_refusal-clause-lowers : goal.lower_if-returns-then-is_refusal-clause-lowers
unfolding lower_node
lower_if-returns-then-is_refusal-clause-lowers t c =
    let checked = c.args.self.arena.now.checked in
    if_of checked _ c.requires.1 c.word.ensures c.word-2.ensures refl _ _
    (stop_by _ _ place_at _ _ _ c.lower_jump_if_false-r.ensures.lowers (operand_at _) c.is_refusal.ensures c.if-is_refusal.true)

pub lower_if-returns-then-is_refusal-2-clause-lowers : goal.lower_if-returns-then-is_refusal-2-clause-lowers
unfolding lower_node
lower_if-returns-then-is_refusal-2-clause-lowers t c =
    let tree = arena_tree c.args.self.arena.now in
    let checked = c.args.self.arena.now.checked in
    if_of checked _ c.requires.1 c.word.ensures c.word-2.ensures refl _ _
    (then_by tree _ place_at _ _ _ c.lower_jump_if_false-r.ensures.lowers c.is_refusal.ensures c.if-is_refusal.false c.value_of-jump_if_false.ensures
    (stop_by _ _ register_at _ _ _ (c.destination-t.ensures.step _ _ _ _) (operand_at _) c.is_refusal-2.ensures c.if-is_refusal-2.true))

pub lower_if-invariant_of-then_branch : goal.lower_if-invariant_of-then_branch
lower_if-invariant_of-then_branch t c = record { inside = child_in _ _ _ c.args.self.inside (if_below c.args.self.arena.now.checked _ c.requires.1 c.word.ensures c.word-2.ensures refl).then }

pub lower_if-peek_into-f1-requires : goal.lower_if-peek_into-f1-requires
lower_if-peek_into-f1-requires t c = register_word _ c.is_refusal-2.ensures c.if-is_refusal-2.false c.value_of-d.ensures (c.destination-t.ensures.word c.requires.0)

pub lower_if-lower_materializing-r1-requires : goal.lower_if-lower_materializing-r1-requires
lower_if-lower_materializing-r1-requires t c =
    let few = register_word _ c.is_refusal-2.ensures c.if-is_refusal-2.false c.value_of-d.ensures (c.destination-t.ensures.word c.requires.0) in
    walk_in _ (Some _) _ (if_below c.args.self.arena.now.checked _ c.requires.1 c.word.ensures c.word-2.ensures refl).then (omega (arith, c.decreases)) few (λ h. (c.peek_into-f1.ensures.inner h).1.0)

pub lower_if-returns-then-is_refusal-3-clause-lowers : goal.lower_if-returns-then-is_refusal-3-clause-lowers
unfolding lower_node
lower_if-returns-then-is_refusal-3-clause-lowers t c =
    let tree = arena_tree c.args.self.arena.now in
    let checked = c.args.self.arena.now.checked in
    let then_value = into_of checked _ c.peek_into-f1.ensures.inner c.peek_into-f1.ensures.same c.lower_materializing-r1.ensures.walked c.lower_materializing-r1.ensures.done c.peek_into-f1.ensures.done in
    if_of checked _ c.requires.1 c.word.ensures c.word-2.ensures refl _ _
    (then_by tree _ place_at _ _ _ c.lower_jump_if_false-r.ensures.lowers c.is_refusal.ensures c.if-is_refusal.false c.value_of-jump_if_false.ensures
    (then_by tree _ register_at _ _ _ (c.destination-t.ensures.step tree _ _ _) c.is_refusal-2.ensures c.if-is_refusal-2.false c.value_of-d.ensures
    (stop_by _ _ register_at _ _ _ then_value (operand_at _) c.is_refusal-3.ensures c.if-is_refusal-3.true)))

pub lower_if-returns-then-is_refusal-4-clause-lowers : goal.lower_if-returns-then-is_refusal-4-clause-lowers
unfolding lower_node words_of
lower_if-returns-then-is_refusal-4-clause-lowers t c =
    let tree = arena_tree c.args.self.arena.now in
    let checked = c.args.self.arena.now.checked in
    let then_value = into_of checked _ c.peek_into-f1.ensures.inner c.peek_into-f1.ensures.same c.lower_materializing-r1.ensures.walked c.lower_materializing-r1.ensures.done c.peek_into-f1.ensures.done in
    if_of checked _ c.requires.1 c.word.ensures c.word-2.ensures refl _ _
    (then_by tree _ place_at _ _ _ c.lower_jump_if_false-r.ensures.lowers c.is_refusal.ensures c.if-is_refusal.false c.value_of-jump_if_false.ensures
    (then_by tree _ register_at _ _ _ (c.destination-t.ensures.step tree _ _ _) c.is_refusal-2.ensures c.if-is_refusal-2.false c.value_of-d.ensures
    (then_into _ _ _ _ _ _ _ then_value (sym c.is_refusal-3.ensures ∙ c.if-is_refusal-3.false)
    (stop_by tree _ place_at _ _ _ (c.emit-e.ensures.step tree _ _ _ refl) (operand_at _) c.is_refusal-4.ensures c.if-is_refusal-4.true))))

pub lower_if-returns-in_default-clause-lowers : goal.lower_if-returns-in_default-clause-lowers
unfolding lower_node words_of
lower_if-returns-in_default-clause-lowers t c =
    let tree = arena_tree c.args.self.arena.now in
    let checked = c.args.self.arena.now.checked in
    let then_value = into_of checked _ c.peek_into-f1.ensures.inner c.peek_into-f1.ensures.same c.lower_materializing-r1.ensures.walked c.lower_materializing-r1.ensures.done c.peek_into-f1.ensures.done in
    by_answer _ _ _ _ _ c.refused.ensures
    (if_of checked _ c.requires.1 c.word.ensures c.word-2.ensures refl _ _
    (then_by tree _ place_at _ _ _ c.lower_jump_if_false-r.ensures.lowers c.is_refusal.ensures c.if-is_refusal.false c.value_of-jump_if_false.ensures
    (then_by tree _ register_at _ _ _ (c.destination-t.ensures.step tree _ _ _) c.is_refusal-2.ensures c.if-is_refusal-2.false c.value_of-d.ensures
    (then_into _ _ _ _ _ _ _ then_value (sym c.is_refusal-3.ensures ∙ c.if-is_refusal-3.false)
    (then_by tree _ place_at _ _ _ (c.emit-e.ensures.step tree _ _ _ refl) c.is_refusal-4.ensures c.if-is_refusal-4.false c.value_of-jump_end.ensures
    (then_patched _ _ _ _ c.patch_to_next.ensures.words
    (stop_else _ _ _ _ _ _ (operand_at _) (rw c.word-3.ensures at (node_absent c.node_of.ensures c.in_default.is)) (omega arith))))))))

pub lower_if-invariant_of-else_branch : goal.lower_if-invariant_of-else_branch
lower_if-invariant_of-else_branch t c =
    let there = node_there c.node_of.ensures c.in-Some.is in
    let else_read = rw c.word-3.ensures at there.0 in
    let some = rw (← there.0) at there.1 in
    record { inside = child_in _ _ _ c.args.self.inside ((if_below c.args.self.arena.now.checked _ c.requires.1 c.word.ensures c.word-2.ensures else_read).else some) }

pub lower_if-peek_into-f2-requires : goal.lower_if-peek_into-f2-requires
lower_if-peek_into-f2-requires t c = register_word _ c.is_refusal-2.ensures c.if-is_refusal-2.false c.value_of-d.ensures (c.destination-t.ensures.word c.requires.0)

pub lower_if-lower_materializing-r2-requires : goal.lower_if-lower_materializing-r2-requires
lower_if-lower_materializing-r2-requires t c =
    let there = node_there c.node_of.ensures c.in-Some.is in
    let else_read = rw c.word-3.ensures at there.0 in
    let some = rw (← there.0) at there.1 in
    let few = register_word _ c.is_refusal-2.ensures c.if-is_refusal-2.false c.value_of-d.ensures (c.destination-t.ensures.word c.requires.0) in
    walk_in _ (Some _) _ ((if_below c.args.self.arena.now.checked _ c.requires.1 c.word.ensures c.word-2.ensures else_read).else some) (omega (arith, c.decreases)) few (λ h. (c.peek_into-f2.ensures.inner h).1.0)

pub lower_if-returns-then-is_refusal-5-clause-lowers : goal.lower_if-returns-then-is_refusal-5-clause-lowers
unfolding lower_node words_of
lower_if-returns-then-is_refusal-5-clause-lowers t c =
    let there = node_there c.node_of.ensures c.in-Some.is in
    let else_read = rw c.word-3.ensures at there.0 in
    let some = rw (← there.0) at there.1 in
    let tree = arena_tree c.args.self.arena.now in
    let checked = c.args.self.arena.now.checked in
    let then_value = into_of checked _ c.peek_into-f1.ensures.inner c.peek_into-f1.ensures.same c.lower_materializing-r1.ensures.walked c.lower_materializing-r1.ensures.done c.peek_into-f1.ensures.done in
    let else_value = into_of checked _ c.peek_into-f2.ensures.inner c.peek_into-f2.ensures.same c.lower_materializing-r2.ensures.walked c.lower_materializing-r2.ensures.done c.peek_into-f2.ensures.done in
    if_of checked _ c.requires.1 c.word.ensures c.word-2.ensures else_read _ _
    (then_by tree _ place_at _ _ _ c.lower_jump_if_false-r.ensures.lowers c.is_refusal.ensures c.if-is_refusal.false c.value_of-jump_if_false.ensures
    (then_by tree _ register_at _ _ _ (c.destination-t.ensures.step tree _ _ _) c.is_refusal-2.ensures c.if-is_refusal-2.false c.value_of-d.ensures
    (then_into _ _ _ _ _ _ _ then_value (sym c.is_refusal-3.ensures ∙ c.if-is_refusal-3.false)
    (then_by tree _ place_at _ _ _ (c.emit-e.ensures.step tree _ _ _ refl) c.is_refusal-4.ensures c.if-is_refusal-4.false c.value_of-jump_end.ensures
    (then_patched _ _ _ _ c.patch_to_next.ensures.words
    (then_else _ _ _ _ _ _ some
    (stop_by _ _ register_at _ _ _ else_value (operand_at _) c.is_refusal-5.ensures c.if-is_refusal-5.true)))))))

pub lower_if-returns-clause-lowers : goal.lower_if-returns-clause-lowers
unfolding lower_node words_of settled
lower_if-returns-clause-lowers t c =
    let there = node_there c.node_of.ensures c.in-Some.is in
    let else_read = rw c.word-3.ensures at there.0 in
    let some = rw (← there.0) at there.1 in
    let tree = arena_tree c.args.self.arena.now in
    let checked = c.args.self.arena.now.checked in
    let then_value = into_of checked _ c.peek_into-f1.ensures.inner c.peek_into-f1.ensures.same c.lower_materializing-r1.ensures.walked c.lower_materializing-r1.ensures.done c.peek_into-f1.ensures.done in
    let else_value = into_of checked _ c.peek_into-f2.ensures.inner c.peek_into-f2.ensures.same c.lower_materializing-r2.ensures.walked c.lower_materializing-r2.ensures.done c.peek_into-f2.ensures.done in
    let few = register_word _ c.is_refusal-2.ensures c.if-is_refusal-2.false c.value_of-d.ensures (c.destination-t.ensures.word c.requires.0) in
    by_answer _ _ _ _ _ c.answered.ensures
    (if_of checked _ c.requires.1 c.word.ensures c.word-2.ensures else_read _ _
    (then_by tree _ place_at _ _ _ c.lower_jump_if_false-r.ensures.lowers c.is_refusal.ensures c.if-is_refusal.false c.value_of-jump_if_false.ensures
    (then_by tree _ register_at _ _ _ (c.destination-t.ensures.step tree _ _ _) c.is_refusal-2.ensures c.if-is_refusal-2.false c.value_of-d.ensures
    (then_into _ _ _ _ _ _ _ then_value (sym c.is_refusal-3.ensures ∙ c.if-is_refusal-3.false)
    (then_by tree _ place_at _ _ _ (c.emit-e.ensures.step tree _ _ _ refl) c.is_refusal-4.ensures c.if-is_refusal-4.false c.value_of-jump_end.ensures
    (then_patched _ _ _ _ c.patch_to_next.ensures.words
    (then_else _ _ _ _ _ _ some
    (then_into _ _ _ _ _ _ _ else_value (sym c.is_refusal-5.ensures ∙ c.if-is_refusal-5.false)
    (then_patched _ _ _ _ c.patch_to_next-2.ensures.words
    (ended _ _ _ _ few))))))))))

-- ---- `lower_jump_if_false`: a node that was tried is done, or it is walked as a comparison or tested

pub lower_jump_if_false-returns-then-is_inner-clause-lowers : goal.lower_jump_if_false-returns-then-is_inner-clause-lowers
lower_jump_if_false-returns-then-is_inner-clause-lowers t c =
    let same = c.peek_jump-f.ensures.inner (sym c.is_inner.ensures ∙ c.if-is_inner.true) in
    rw (jump_false_at c.args.self.arena.now.checked c.args.self.index) (rw (same.1.0, same.1.1.0, same.1.1.1) at c.lower_jump_if.ensures.lowers)

pub lower_jump_if_false-returns-clause-lowers : goal.lower_jump_if_false-returns-clause-lowers
lower_jump_if_false-returns-clause-lowers t c = rw (jump_false_at c.args.self.arena.now.checked c.args.self.index) (c.peek_jump-f.ensures.step (sym c.is_inner.ensures ∙ c.if-is_inner.false))

-- ---- `lower_jump_if`: a comparison is fused, and any other node tested

pub lower_jump_if-returns-clause-lowers : goal.lower_jump_if-returns-clause-lowers
lower_jump_if-returns-clause-lowers t c = rw (not_compared _ _ _ _ _ (sym c.is_compared.ensures ∙ c.if-is_compared.false)) c.test.ensures.lowers

-- ---- `lower_map`: destination, CreateMap, and entry by entry

pub lower_map-returns-then-is_refusal-clause-lowers : goal.lower_map-returns-then-is_refusal-clause-lowers
unfolding lower_node
lower_map-returns-then-is_refusal-clause-lowers t c =
    let checked = c.args.self.arena.now.checked in
    expression_of checked _ map_kind c.requires.1 _ _
    (stop_by _ _ register_at _ _ _ (c.destination-t.ensures.step _ _ _ _) (operand_at _) c.is_refusal.ensures c.if-is_refusal.true)

pub lower_map-returns-then-is_refusal-2-clause-lowers : goal.lower_map-returns-then-is_refusal-2-clause-lowers
unfolding lower_node words_of
lower_map-returns-then-is_refusal-2-clause-lowers t c =
    let tree = arena_tree c.args.self.arena.now in
    let checked = c.args.self.arena.now.checked in
    expression_of checked _ map_kind c.requires.1 _ _
    (then_by tree _ register_at _ _ _ (c.destination-t.ensures.step tree _ _ _) c.is_refusal.ensures c.if-is_refusal.false c.value_of-d.ensures
    (stop_by tree _ place_at _ _ _ (c.emit-e.ensures.step tree _ _ _ (same_fields _ c.reg_of.ensures refl refl)) (operand_at _) c.is_refusal-2.ensures c.if-is_refusal-2.true))

pub lower_map-loop-i-init : goal.lower_map-loop-i-init
lower_map-loop-i-init t c = (omega arith, (rw (sub-zero _), search rules))

pub lower_map-invariant_of-key : goal.lower_map-invariant_of-key
lower_map-invariant_of-key t c =
    let below = rw (← c.word-first.ensures, ← c.word-count.ensures) at (below_of c.args.self.arena.now.checked _ map_kind c.requires.1) in
    record { inside = rw c.word.ensures (child_in _ _ _ c.args.self.inside (below.key c.loop-i.i c.loop-i-test.true)) }

pub lower_map-flat_entry-f-requires : goal.lower_map-flat_entry-f-requires
lower_map-flat_entry-f-requires t c =
    let below = rw (← c.word-first.ensures, ← c.word-count.ensures) at (below_of c.args.self.arena.now.checked _ map_kind c.requires.1) in
    λ h. rw c.word-value.ensures (child_in _ _ _ c.args.self.inside (below.value c.loop-i.i c.loop-i-test.true (rw c.word-value.ensures at h)))

-- an entry that is left to the walk: nothing was done, and it has a value
pub lower_map-entry-r-requires : goal.lower_map-entry-r-requires
lower_map-entry-r-requires t c =
    let below = rw (← c.word-first.ensures, ← c.word-count.ensures) at (below_of c.args.self.arena.now.checked _ map_kind c.requires.1) in
    let left = c.flat_entry-f.ensures.inner (sym c.is_inner.ensures ∙ c.if-is_inner.true) in
    let taken = c.loop-i-test.true in (
      omega (arith, c.decreases),
      (rw c.word.ensures (below.key c.loop-i.i taken), rw c.word-value.ensures (below.value c.loop-i.i taken (rw c.word-value.ensures at left.1.1))),
    )

pub lower_map-returns-then-is_refusal-3-clause-lowers : goal.lower_map-returns-then-is_refusal-3-clause-lowers
unfolding lower_node words_of
lower_map-returns-then-is_refusal-3-clause-lowers t c =
    let tree = arena_tree c.args.self.arena.now in
    let checked = c.args.self.arena.now.checked in
    let left = c.flat_entry-f.ensures.inner (sym c.is_inner.ensures ∙ c.if-is_inner.true) in
    let walked = rw (left.1.0.0, left.1.0.1.0, left.1.0.1.1) at c.entry-r.ensures.lowers in
    expression_of checked _ map_kind c.requires.1 _ _
    (then_by tree _ register_at _ _ _ (c.destination-t.ensures.step tree _ _ _) c.is_refusal.ensures c.if-is_refusal.false c.value_of-d.ensures
    (then tree _ place_at _ _ _ (c.emit-e.ensures.step tree _ _ _ (same_fields _ c.reg_of.ensures refl refl)) (sym c.is_refusal-2.ensures ∙ c.if-is_refusal-2.false)
    (rw (← c.word-first.ensures, ← c.word-count.ensures)
    (entries_stop _ _ _ _ _ _ _ _ c.loop-i.invariant.1.0 _ _ _ _ c.loop-i-test.true c.word.ensures c.word-value.ensures walked
    c.is_refusal-then-is_inner.ensures _ (operand_at _) c.if-is_refusal-3.true))))

-- an entry of leaves
pub lower_map-returns-then-is_refusal-4-clause-lowers : goal.lower_map-returns-then-is_refusal-4-clause-lowers
unfolding lower_node words_of
lower_map-returns-then-is_refusal-4-clause-lowers t c =
    let tree = arena_tree c.args.self.arena.now in
    let checked = c.args.self.arena.now.checked in
    let done = c.flat_entry-f.ensures.step c.loop-i.s.registers c.loop-i.s.marks (sym c.is_inner.ensures ∙ c.if-is_inner.false) in
    rw c.on.ensures
    (expression_of checked _ map_kind c.requires.1 _ _
    (then_by tree _ register_at _ _ _ (c.destination-t.ensures.step tree _ _ _) c.is_refusal.ensures c.if-is_refusal.false c.value_of-d.ensures
    (then tree _ place_at _ _ _ (c.emit-e.ensures.step tree _ _ _ (same_fields _ c.reg_of.ensures refl refl)) (sym c.is_refusal-2.ensures ∙ c.if-is_refusal-2.false)
    (rw (← c.word-first.ensures, ← c.word-count.ensures)
    (entries_stop _ _ _ _ _ _ _ _ c.loop-i.invariant.1.0 _ _ _ _ c.loop-i-test.true c.word.ensures c.word-value.ensures done
    c.is_refusal-else-is_inner.ensures _ (operand_at _) c.if-is_refusal-4.true)))))

-- where the two ways meet: the entry was walked, or done in place
pub lower_map-loop-i-preserved : goal.lower_map-loop-i-preserved
lower_map-loop-i-preserved t c = (
  omega (arith, c.loop-i-test.true),
  (
    elim c.if-is_inner.branch [
      | lower_map-then-is_inner+else-is_refusal-3 w ↦
          let left = c.flat_entry-f.ensures.inner (sym c.is_inner.ensures ∙ w.if-is_inner.true) in
          at_next _ _ _ _ _ _ (ap (λ b. b.code.now) w.buffers-is) (ap (λ b. b.constants.now) w.buffers-is) (ap (λ b. b.marks.now) w.buffers-is) w.s-is
          (entries_again _ _ _ _ _ _ _ _ c.loop-i.invariant.1.0 _ _ _ _ c.loop-i-test.true c.word.ensures c.word-value.ensures (rw (left.1.0.0, left.1.0.1.0, left.1.0.1.1) at w.entry-r.ensures.lowers)
          w.is_refusal-then-is_inner.ensures w.if-is_refusal-3.false)
      | lower_map-else-is_inner+else-is_refusal-4 w ↦
          at_next _ _ _ _ _ _ (ap (λ b. b.code.now) w.buffers-is) (ap (λ b. b.constants.now) w.buffers-is) (ap (λ b. b.marks.now) w.buffers-is) w.s-is
          (entries_again _ _ _ _ _ _ _ _ c.loop-i.invariant.1.0 _ _ _ _ c.loop-i-test.true c.word.ensures c.word-value.ensures (c.flat_entry-f.ensures.step c.loop-i.s.registers c.loop-i.s.marks (sym c.is_inner.ensures ∙ w.if-is_inner.false))
          w.is_refusal-else-is_inner.ensures w.if-is_refusal-4.false)
    ],
    search rules,
  ),
)

pub lower_map-returns-clause-lowers : goal.lower_map-returns-clause-lowers
unfolding lower_node words_of settled
lower_map-returns-clause-lowers t c =
    let tree = arena_tree c.args.self.arena.now in
    let checked = c.args.self.arena.now.checked in
    let few = register_word _ c.is_refusal.ensures c.if-is_refusal.false c.value_of-d.ensures (c.destination-t.ensures.word c.requires.0) in
    rw c.answered.ensures
    (expression_of checked _ map_kind c.requires.1 _ _
    (then_by tree _ register_at _ _ _ (c.destination-t.ensures.step tree _ _ _) c.is_refusal.ensures c.if-is_refusal.false c.value_of-d.ensures
    (then tree _ place_at _ _ _ (c.emit-e.ensures.step tree _ _ _ (same_fields _ c.reg_of.ensures refl refl)) (sym c.is_refusal-2.ensures ∙ c.if-is_refusal-2.false)
    (rw (← c.word-first.ensures, ← c.word-count.ensures)
    (then_done _ (entries_none _ _ _ _ _ _ _ _ c.loop-i.invariant.1.0 (omega (arith, c.loop-i-test.false, c.loop-i.invariant.0)))
    (ended _ _ _ _ few))))))

-- ---- `lower_unary`: destination, operand, one instruction, and the operand's register given back

pub lower_unary-returns-then-is_refusal-clause-lowers : goal.lower_unary-returns-then-is_refusal-clause-lowers
lower_unary-returns-then-is_refusal-clause-lowers t c =
    single_of _ _ c.only_operand.ensures _ _ c.args.self.arena.now.checked c.requires.1 _ _
    (stop_by _ _ register_at _ _ _ (c.destination-t.ensures.step _ _ _ _) (operand_at _) c.is_refusal.ensures c.if-is_refusal.true)

pub lower_unary-invariant_of-operand : goal.lower_unary-invariant_of-operand
lower_unary-invariant_of-operand t c = record { inside = child_in _ _ _ c.args.self.inside (single_below _ _ c.only_operand.ensures _ _ c.args.self.arena.now.checked c.requires.1) }

pub lower_unary-lower_materializing-r1-requires : goal.lower_unary-lower_materializing-r1-requires
lower_unary-lower_materializing-r1-requires t c = walk_in _ None _ (single_below _ _ c.only_operand.ensures _ _ c.args.self.arena.now.checked c.requires.1) (omega (arith, c.decreases)) tt (λ h. omega (arith, (c.peek-f1.ensures.inner h).1.0))

pub lower_unary-returns-then-is_refusal-2-clause-lowers : goal.lower_unary-returns-then-is_refusal-2-clause-lowers
lower_unary-returns-then-is_refusal-2-clause-lowers t c =
    let tree = arena_tree c.args.self.arena.now in
    let checked = c.args.self.arena.now.checked in
    let operand = register_of checked c.peek-f1.ensures.inner c.lower_materializing-r1.ensures.walked c.lower_materializing-r1.ensures.done (λ h. c.peek-f1.ensures.register h refl) in
    single_of _ _ c.only_operand.ensures _ _ c.args.self.arena.now.checked c.requires.1 _ _
    (then_by tree _ register_at _ _ _ (c.destination-t.ensures.step tree _ _ _) c.is_refusal.ensures c.if-is_refusal.false c.value_of-d.ensures
    (stop_by tree _ register_at _ _ _ operand (operand_at _) c.is_refusal-2.ensures c.if-is_refusal-2.true))

pub lower_unary-returns-then-is_refusal-3-clause-lowers : goal.lower_unary-returns-then-is_refusal-3-clause-lowers
unfolding operated
lower_unary-returns-then-is_refusal-3-clause-lowers t c =
    let tree = arena_tree c.args.self.arena.now in
    let checked = c.args.self.arena.now.checked in
    let operand = register_of checked c.peek-f1.ensures.inner c.lower_materializing-r1.ensures.walked c.lower_materializing-r1.ensures.done (λ h. c.peek-f1.ensures.register h refl) in
    let told = single_words _ _ _ c.only_opcode-opcode.ensures.unary c.only_opcode-opcode.ensures.not _ _ ∙ same_fields _ c.reg_of.ensures c.reg_of-2.ensures refl in
    single_of _ _ c.only_operand.ensures _ _ c.args.self.arena.now.checked c.requires.1 _ _
    (then_by tree _ register_at _ _ _ (c.destination-t.ensures.step tree _ _ _) c.is_refusal.ensures c.if-is_refusal.false c.value_of-d.ensures
    (then_by tree _ register_at _ _ _ operand c.is_refusal-2.ensures c.if-is_refusal-2.false c.value_of-src.ensures
    (stop_by tree _ place_at _ _ _ (c.emit-e.ensures.step tree _ _ _ told) (operand_at _) c.is_refusal-3.ensures c.if-is_refusal-3.true)))

pub lower_unary-returns-clause-lowers : goal.lower_unary-returns-clause-lowers
unfolding operated settled
lower_unary-returns-clause-lowers t c =
    let tree = arena_tree c.args.self.arena.now in
    let checked = c.args.self.arena.now.checked in
    let operand = register_of checked c.peek-f1.ensures.inner c.lower_materializing-r1.ensures.walked c.lower_materializing-r1.ensures.done (λ h. c.peek-f1.ensures.register h refl) in
    let few = register_word _ c.is_refusal.ensures c.if-is_refusal.false c.value_of-d.ensures (c.destination-t.ensures.word c.requires.0) in
    let told = single_words _ _ _ c.only_opcode-opcode.ensures.unary c.only_opcode-opcode.ensures.not _ _ ∙ same_fields _ c.reg_of.ensures c.reg_of-2.ensures refl in
    by_answer _ _ _ _ _ (rw c.given_back.ensures at c.answered.ensures)
    (single_of _ _ c.only_operand.ensures _ _ c.args.self.arena.now.checked c.requires.1 _ _
    (then_by tree _ register_at _ _ _ (c.destination-t.ensures.step tree _ _ _) c.is_refusal.ensures c.if-is_refusal.false c.value_of-d.ensures
    (then_by tree _ register_at _ _ _ operand c.is_refusal-2.ensures c.if-is_refusal-2.false c.value_of-src.ensures
    (then tree _ place_at _ _ _ (c.emit-e.ensures.step tree _ _ _ told) (sym c.is_refusal-3.ensures ∙ c.if-is_refusal-3.false)
    (then_freed _ _ _ refl
    (ended _ _ _ _ few))))))

-- ---- `property`: destination, object, key pooled, GetPropertyK, and the object's register given back

pub property-returns-then-is_refusal-clause-lowers : goal.property-returns-then-is_refusal-clause-lowers
property-returns-then-is_refusal-clause-lowers t c =
    let checked = c.args.self.arena.now.checked in
    property_of checked _ c.requires.1 c.word.ensures c.word-property.ensures _ _
    (stop_by _ _ register_at _ _ _ (c.destination-t.ensures.step _ _ _ _) (operand_at _) c.is_refusal.ensures c.if-is_refusal.true)

pub property-invariant_of-object : goal.property-invariant_of-object
property-invariant_of-object t c = record { inside = child_in _ _ _ c.args.self.inside (property_below c.args.self.arena.now.checked _ c.requires.1 c.word.ensures c.word-property.ensures) }

pub property-lower_materializing-r1-requires : goal.property-lower_materializing-r1-requires
property-lower_materializing-r1-requires t c = walk_in _ None _ (property_below c.args.self.arena.now.checked _ c.requires.1 c.word.ensures c.word-property.ensures) (omega (arith, c.decreases)) tt (λ h. omega (arith, (c.peek-f1.ensures.inner h).1.0))

pub property-returns-then-is_refusal-2-clause-lowers : goal.property-returns-then-is_refusal-2-clause-lowers
property-returns-then-is_refusal-2-clause-lowers t c =
    let tree = arena_tree c.args.self.arena.now in
    let checked = c.args.self.arena.now.checked in
    let object = register_of checked c.peek-f1.ensures.inner c.lower_materializing-r1.ensures.walked c.lower_materializing-r1.ensures.done (λ h. c.peek-f1.ensures.register h refl) in
    property_of checked _ c.requires.1 c.word.ensures c.word-property.ensures _ _
    (then_by tree _ register_at _ _ _ (c.destination-t.ensures.step tree _ _ _) c.is_refusal.ensures c.if-is_refusal.false c.value_of-d.ensures
    (stop_by tree _ register_at _ _ _ object (operand_at _) c.is_refusal-2.ensures c.if-is_refusal-2.true))

pub property-returns-then-is_refusal-3-clause-lowers : goal.property-returns-then-is_refusal-3-clause-lowers
unfolding fetched
property-returns-then-is_refusal-3-clause-lowers t c =
    let tree = arena_tree c.args.self.arena.now in
    let checked = c.args.self.arena.now.checked in
    let object = register_of checked c.peek-f1.ensures.inner c.lower_materializing-r1.ensures.walked c.lower_materializing-r1.ensures.done (λ h. c.peek-f1.ensures.register h refl) in
    property_of checked _ c.requires.1 c.word.ensures c.word-property.ensures _ _
    (then_by tree _ register_at _ _ _ (c.destination-t.ensures.step tree _ _ _) c.is_refusal.ensures c.if-is_refusal.false c.value_of-d.ensures
    (then_by tree _ register_at _ _ _ object c.is_refusal-2.ensures c.if-is_refusal-2.false c.value_of-src.ensures
    (stop_by tree _ place_at _ _ _ (c.store-p.ensures.step tree _ _) (operand_at _) c.is_refusal-3.ensures c.if-is_refusal-3.true)))

pub property-returns-then-is_refusal-4-clause-lowers : goal.property-returns-then-is_refusal-4-clause-lowers
unfolding fetched words_of
property-returns-then-is_refusal-4-clause-lowers t c =
    let tree = arena_tree c.args.self.arena.now in
    let checked = c.args.self.arena.now.checked in
    let object = register_of checked c.peek-f1.ensures.inner c.lower_materializing-r1.ensures.walked c.lower_materializing-r1.ensures.done (λ h. c.peek-f1.ensures.register h refl) in
    let told = same_fields _ c.reg_of.ensures c.reg_of-2.ensures refl in
    property_of checked _ c.requires.1 c.word.ensures c.word-property.ensures _ _
    (then_by tree _ register_at _ _ _ (c.destination-t.ensures.step tree _ _ _) c.is_refusal.ensures c.if-is_refusal.false c.value_of-d.ensures
    (then_by tree _ register_at _ _ _ object c.is_refusal-2.ensures c.if-is_refusal-2.false c.value_of-src.ensures
    (then_by tree _ place_at _ _ _ (c.store-p.ensures.step tree _ _) c.is_refusal-3.ensures c.if-is_refusal-3.false c.value_of-k.ensures
    (stop_by tree _ place_at _ _ _ (c.emit-e.ensures.step tree _ _ _ told) (operand_at _) c.is_refusal-4.ensures c.if-is_refusal-4.true))))

pub property-returns-clause-lowers : goal.property-returns-clause-lowers
unfolding fetched words_of settled
property-returns-clause-lowers t c =
    let tree = arena_tree c.args.self.arena.now in
    let checked = c.args.self.arena.now.checked in
    let object = register_of checked c.peek-f1.ensures.inner c.lower_materializing-r1.ensures.walked c.lower_materializing-r1.ensures.done (λ h. c.peek-f1.ensures.register h refl) in
    let few = register_word _ c.is_refusal.ensures c.if-is_refusal.false c.value_of-d.ensures (c.destination-t.ensures.word c.requires.0) in
    let told = same_fields _ c.reg_of.ensures c.reg_of-2.ensures refl in
    by_answer _ _ _ _ _ (rw c.given_back.ensures at c.answered.ensures)
    (property_of checked _ c.requires.1 c.word.ensures c.word-property.ensures _ _
    (then_by tree _ register_at _ _ _ (c.destination-t.ensures.step tree _ _ _) c.is_refusal.ensures c.if-is_refusal.false c.value_of-d.ensures
    (then_by tree _ register_at _ _ _ object c.is_refusal-2.ensures c.if-is_refusal-2.false c.value_of-src.ensures
    (then_by tree _ place_at _ _ _ (c.store-p.ensures.step tree _ _) c.is_refusal-3.ensures c.if-is_refusal-3.false c.value_of-k.ensures
    (then tree _ place_at _ _ _ (c.emit-e.ensures.step tree _ _ _ told) (sym c.is_refusal-4.ensures ∙ c.if-is_refusal-4.false)
    (then_freed _ _ _ refl
    (ended _ _ _ _ few)))))))

-- ---- `test`: the node's value in a register, by either way, and then its jump

pub test-returns-then-is_refusal-clause-lowers : goal.test-returns-then-is_refusal-clause-lowers
unfolding test
test-returns-then-is_refusal-clause-lowers t c =
    let tree = arena_tree c.args.self.arena.now in
    -- its value, by either way
    let value : Lowers (λ t. register_at) (λ t. lower_materializing (lower_expression free_temp t c.args.self.index) None) c.args.self.arena.now.nodes.now c.args.self.arena.now.list.now c.args.self.arena.now.names.now
    c.args.buffers.now.code.now c.args.buffers.now.constants.now c.args.buffers.now.marks.now c.if-is_literal.buffers.code.now c.if-is_literal.buffers.constants.now c.if-is_literal.buffers.marks.now c.args.state c.if-is_literal.r =
    elim c.if-is_literal.branch [
      | test-then-is_literal w ↦
          at_meeting tree register_at (ap (λ b. b.code.now) w.buffers-is) (ap (λ b. b.constants.now) w.buffers-is) (ap (λ b. b.marks.now) w.buffers-is) w.r-is
          (literal_value c.args.self.arena.now.checked c.args.self.index (ltb-true _ _ (rw c.kind.ensures at (sym c.is_literal.ensures ∙ w.if-is_literal.true))) None _
          (rw w.literal.ensures at (w.load_constant-r.ensures.step tree (words c.args.buffers.now.marks.now))))
      | test-else-is_literal w ↦
          at_meeting tree register_at (ap (λ b. b.code.now) w.buffers-is) (ap (λ b. b.constants.now) w.buffers-is) (ap (λ b. b.marks.now) w.buffers-is) w.r-is
          (answered_value c.args.self.arena.now.checked c.args.self.index (ltb-false _ _ (rw c.kind.ensures at (sym c.is_literal.ensures ∙ w.if-is_literal.false))) None _ _ _ w.lower_expression-r.ensures.lowers)
    ] in
    stop_by _ _ register_at _ _ _ value place_at c.is_refusal.ensures c.if-is_refusal.true

pub test-returns-clause-lowers : goal.test-returns-clause-lowers
unfolding test
test-returns-clause-lowers t c =
    let tree = arena_tree c.args.self.arena.now in
    -- its value, by either way
    let value : Lowers (λ t. register_at) (λ t. lower_materializing (lower_expression free_temp t c.args.self.index) None) c.args.self.arena.now.nodes.now c.args.self.arena.now.list.now c.args.self.arena.now.names.now
    c.args.buffers.now.code.now c.args.buffers.now.constants.now c.args.buffers.now.marks.now c.if-is_literal.buffers.code.now c.if-is_literal.buffers.constants.now c.if-is_literal.buffers.marks.now c.args.state c.if-is_literal.r =
    elim c.if-is_literal.branch [
      | test-then-is_literal w ↦
          at_meeting tree register_at (ap (λ b. b.code.now) w.buffers-is) (ap (λ b. b.constants.now) w.buffers-is) (ap (λ b. b.marks.now) w.buffers-is) w.r-is
          (literal_value c.args.self.arena.now.checked c.args.self.index (ltb-true _ _ (rw c.kind.ensures at (sym c.is_literal.ensures ∙ w.if-is_literal.true))) None _
          (rw w.literal.ensures at (w.load_constant-r.ensures.step tree (words c.args.buffers.now.marks.now))))
      | test-else-is_literal w ↦
          at_meeting tree register_at (ap (λ b. b.code.now) w.buffers-is) (ap (λ b. b.constants.now) w.buffers-is) (ap (λ b. b.marks.now) w.buffers-is) w.r-is
          (answered_value c.args.self.arena.now.checked c.args.self.index (ltb-false _ _ (rw c.kind.ensures at (sym c.is_literal.ensures ∙ w.if-is_literal.false))) None _ _ _ w.lower_expression-r.ensures.lowers)
    ] in
    let told = c.jump_if.ensures _ ∙ same_fields _ c.reg_of.ensures refl refl in
    then_by _ _ register_at _ _ _ value c.is_refusal.ensures c.if-is_refusal.false c.value_of-src.ensures
    (c.emit.ensures.step tree _ _ _ told)
