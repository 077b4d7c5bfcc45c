-- The root as a condition, which the program lowers by one function for both outcomes.
use Rattle.std.specs.Prelude.{ℕ, Bool}
use Rattle.lowering.specs.Tree.{Tree, node}
use Rattle.lowering.specs.Walk.{Walk, ◌>>=◌, ◌>>◌, ret}
use Rattle.lowering.specs.Steps.{free_temp, patch_arguments}
use Rattle.lowering.specs.Lower.{jump_node, lower_expression}

-- modes 1 and 2, by the outcome at which the jump is taken
abbrev pub conditional : Tree → Bool → ℕ → Walk ℕ
conditional t sense root = do
  jump ← jump_node t (lower_expression free_temp t) sense (lower_expression free_temp t root) (node t root)
  patch_arguments
  ret jump
