-- The measures of the cycle: the node, and on the same node the rank of the function. The loops' invariants: what is left gives what all gives. Assumes nothing.
use Rattle.std.proofs.Common.{cond, ◌≡◌, ◌≤◌, ◌+◌, ◌-◌, ◌*◌}
use Rattle.lowering.specs.Steps.{free_temp}
use Rattle.lowering.specs.Lower.{lower_arguments, lower_entries, lower_expression}
use Rattle.steps.specs.Answers.{register_at, settled, is_inner, value_of}
use Rattle.codegen.specs.Walks.{arena_tree, made_of, Kept}
use Rattle.codegen.proofs.arena.NodeRef.+walk.Given as goal

abbrev pub decreases-arguments : goal.decreases-arguments
decreases-arguments l = 8 * l.self.index

abbrev pub decreases-entry : goal.decreases-entry
decreases-entry l = 8 * l.self.index

abbrev pub decreases-fuse : goal.decreases-fuse
decreases-fuse l = 8 * l.self.index + 4

abbrev pub decreases-logical : goal.decreases-logical
decreases-logical l = 8 * l.self.index + 1

abbrev pub decreases-lower_binary : goal.decreases-lower_binary
decreases-lower_binary l = 8 * l.self.index + 1

abbrev pub decreases-lower_block : goal.decreases-lower_block
decreases-lower_block l = 8 * l.self.index + 1

abbrev pub decreases-lower_call : goal.decreases-lower_call
decreases-lower_call l = 8 * l.self.index + 1

abbrev pub decreases-lower_expression : goal.decreases-lower_expression
decreases-lower_expression l = 8 * l.self.index + 2

abbrev pub decreases-lower_if : goal.decreases-lower_if
decreases-lower_if l = 8 * l.self.index + 1

abbrev pub decreases-lower_jump_if : goal.decreases-lower_jump_if
decreases-lower_jump_if l = 8 * l.self.index + 5

abbrev pub decreases-lower_jump_if_false : goal.decreases-lower_jump_if_false
decreases-lower_jump_if_false l = 8 * l.self.index + 6

abbrev pub decreases-lower_map : goal.decreases-lower_map
decreases-lower_map l = 8 * l.self.index + 1

abbrev pub decreases-lower_materializing : goal.decreases-lower_materializing
decreases-lower_materializing l = cond (is_inner l.peeked.answer) (8 * value_of l.peeked.answer + 3) 0

abbrev pub decreases-lower_unary : goal.decreases-lower_unary
decreases-lower_unary l = 8 * l.self.index + 1

abbrev pub decreases-property : goal.decreases-property
decreases-property l = 8 * l.self.index + 1

abbrev pub decreases-test : goal.decreases-test
decreases-test l = 8 * l.self.index + 3

abbrev pub invariant-arguments-loop-i : goal.invariant-arguments-loop-i
invariant-arguments-loop-i l =
    (settled (lower_arguments (arena_tree l.self.arena.now) (lower_expression free_temp (arena_tree l.self.arena.now)) l.self.index l.first l.count 0 (made_of l.initial.buffers l.initial.s))
    ≡ settled (lower_arguments (arena_tree l.self.arena.now) (lower_expression free_temp (arena_tree l.self.arena.now)) l.self.index l.first (l.count - l.i) l.i (made_of l.buffers l.s)))
    × Kept l.initial.buffers l.buffers

-- proposed from the loop's first test
abbrev pub invariant-lower_map-loop-i : goal.invariant-lower_map-loop-i
invariant-lower_map-loop-i l =
    (l.i ≤ l.count)
    × ((lower_entries (arena_tree l.self.arena.now) (lower_expression free_temp (arena_tree l.self.arena.now)) (register_at l.d) l.first l.count 0 (made_of l.initial.buffers l.initial.s)
    ≡ lower_entries (arena_tree l.self.arena.now) (lower_expression free_temp (arena_tree l.self.arena.now)) (register_at l.d) l.first (l.count - l.i) l.i (made_of l.buffers l.s))
    × Kept l.initial.buffers l.buffers)

-- proposed from the loop's first test
abbrev pub decreases-lower_map-loop-i : goal.decreases-lower_map-loop-i
decreases-lower_map-loop-i l = l.count - l.i

abbrev pub decreases-arguments-loop-i : goal.decreases-arguments-loop-i
decreases-arguments-loop-i l = l.count - l.i
