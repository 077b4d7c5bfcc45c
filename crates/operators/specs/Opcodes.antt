-- Whether the operands of an operator are swapped in its instruction: "Greater swaps operands, not their evaluation. A constant on the left of
-- add, multiply, equal, not-equal goes right."
use Rattle.std.specs.Prelude.{ℕ, Bool, true, false, cond, not}
use Rattle.syntax.specs.declared.ops.BinaryOp.{BinaryOp}
use Rattle.syntax.specs.declared.ops.Comparison.{Comparison}

-- of two registers, or of a register and a constant
unfoldable pub swaps : BinaryOp → Bool
swaps BinaryOp.Add = false
swaps BinaryOp.Subtract = false
swaps BinaryOp.Multiply = false
swaps BinaryOp.Divide = false
swaps BinaryOp.Modulo = false
swaps BinaryOp.Equal = false
swaps BinaryOp.NotEqual = false
swaps BinaryOp.Less = false
swaps BinaryOp.LessEqual = false
swaps BinaryOp.Greater = true
swaps BinaryOp.GreaterEqual = true

-- of a constant and a register
unfoldable pub swaps_kr : BinaryOp → Bool
swaps_kr BinaryOp.Add = true
swaps_kr BinaryOp.Multiply = true
swaps_kr BinaryOp.Equal = true
swaps_kr BinaryOp.NotEqual = true
swaps_kr BinaryOp.Subtract = false
swaps_kr BinaryOp.Divide = false
swaps_kr BinaryOp.Modulo = false
swaps_kr BinaryOp.Less = false
swaps_kr BinaryOp.LessEqual = false
swaps_kr BinaryOp.Greater = true
swaps_kr BinaryOp.GreaterEqual = true

-- of a fused jump of two registers, by the outcome of the test at which it jumps
unfoldable pub jump_swaps : Bool → Comparison → Bool
jump_swaps sense Comparison.Equal = false
jump_swaps sense Comparison.NotEqual = false
jump_swaps sense Comparison.Less = not sense
jump_swaps sense Comparison.LessEqual = not sense
jump_swaps sense Comparison.Greater = sense
jump_swaps sense Comparison.GreaterEqual = sense

-- two operands in the order in which an instruction has them
abbrev pub first_of : Bool → ℕ → ℕ → ℕ
first_of swap a b = cond swap b a

abbrev pub second_of : Bool → ℕ → ℕ → ℕ
second_of swap a b = cond swap a b

-- whether an operator is "one of the six comparisons"
unfoldable pub is_comparison : BinaryOp → Bool
is_comparison BinaryOp.Add = false
is_comparison BinaryOp.Subtract = false
is_comparison BinaryOp.Multiply = false
is_comparison BinaryOp.Divide = false
is_comparison BinaryOp.Modulo = false
is_comparison BinaryOp.Equal = true
is_comparison BinaryOp.NotEqual = true
is_comparison BinaryOp.Greater = true
is_comparison BinaryOp.GreaterEqual = true
is_comparison BinaryOp.Less = true
is_comparison BinaryOp.LessEqual = true
