-- The instructions of the eleven operators, by where their operands are: two registers (RR), a register and a constant (RK), a constant and a
-- register (KR). "Greater swaps operands, not their evaluation. A constant on the left of add, multiply, equal, not-equal goes right."
use Rattle.std.specs.Prelude.{ℕ, Bool, true, false, Option, Some, None}
use Rattle.syntax.specs.declared.ops.BinaryOp.{BinaryOp}
use Rattle.syntax.specs.declared.ops.UnaryOp.{UnaryOp}
use Rattle.syntax.specs.declared.ops.Comparison.{Comparison}
use Rattle.runtime.specs.declared.instruction.Instruction.{Instruction}

unfoldable pub binary_rr : BinaryOp → ℕ → ℕ → ℕ → Instruction
binary_rr BinaryOp.Add d a b = Instruction.Add d a b
binary_rr BinaryOp.Subtract d a b = Instruction.Subtract d a b
binary_rr BinaryOp.Multiply d a b = Instruction.Multiply d a b
binary_rr BinaryOp.Divide d a b = Instruction.Divide d a b
binary_rr BinaryOp.Modulo d a b = Instruction.Modulo d a b
binary_rr BinaryOp.Equal d a b = Instruction.Equal d a b
binary_rr BinaryOp.NotEqual d a b = Instruction.NotEqual d a b
binary_rr BinaryOp.Less d a b = Instruction.Less d a b
binary_rr BinaryOp.LessEqual d a b = Instruction.LessEqual d a b
binary_rr BinaryOp.Greater d a b = Instruction.Less d b a
binary_rr BinaryOp.GreaterEqual d a b = Instruction.LessEqual d b a

unfoldable pub binary_rk : BinaryOp → ℕ → ℕ → ℕ → Instruction
binary_rk BinaryOp.Add d a k = Instruction.AddK d a k
binary_rk BinaryOp.Subtract d a k = Instruction.SubtractRK d a k
binary_rk BinaryOp.Multiply d a k = Instruction.MultiplyK d a k
binary_rk BinaryOp.Divide d a k = Instruction.DivideRK d a k
binary_rk BinaryOp.Modulo d a k = Instruction.ModuloRK d a k
binary_rk BinaryOp.Equal d a k = Instruction.EqualK d a k
binary_rk BinaryOp.NotEqual d a k = Instruction.NotEqualK d a k
binary_rk BinaryOp.Less d a k = Instruction.LessRK d a k
binary_rk BinaryOp.LessEqual d a k = Instruction.LessEqualRK d a k
binary_rk BinaryOp.Greater d a k = Instruction.LessKR d k a
binary_rk BinaryOp.GreaterEqual d a k = Instruction.LessEqualKR d k a

unfoldable pub binary_kr : BinaryOp → ℕ → ℕ → ℕ → Instruction
binary_kr BinaryOp.Add d k b = Instruction.AddK d b k
binary_kr BinaryOp.Multiply d k b = Instruction.MultiplyK d b k
binary_kr BinaryOp.Equal d k b = Instruction.EqualK d b k
binary_kr BinaryOp.NotEqual d k b = Instruction.NotEqualK d b k
binary_kr BinaryOp.Subtract d k b = Instruction.SubtractKR d k b
binary_kr BinaryOp.Divide d k b = Instruction.DivideKR d k b
binary_kr BinaryOp.Modulo d k b = Instruction.ModuloKR d k b
binary_kr BinaryOp.Less d k b = Instruction.LessKR d k b
binary_kr BinaryOp.LessEqual d k b = Instruction.LessEqualKR d k b
binary_kr BinaryOp.Greater d k b = Instruction.LessRK d b k
binary_kr BinaryOp.GreaterEqual d k b = Instruction.LessEqualRK d b k

unfoldable pub unary : UnaryOp → ℕ → ℕ → Instruction
unary UnaryOp.Negate d a = Instruction.Negate d a
unary UnaryOp.Deref d a = Instruction.Deref d a

-- "one of the six comparisons"
unfoldable pub comparison : BinaryOp → Option Comparison
comparison BinaryOp.Add = None
comparison BinaryOp.Subtract = None
comparison BinaryOp.Multiply = None
comparison BinaryOp.Divide = None
comparison BinaryOp.Modulo = None
comparison BinaryOp.Equal = Some Comparison.Equal
comparison BinaryOp.NotEqual = Some Comparison.NotEqual
comparison BinaryOp.Greater = Some Comparison.Greater
comparison BinaryOp.GreaterEqual = Some Comparison.GreaterEqual
comparison BinaryOp.Less = Some Comparison.Less
comparison BinaryOp.LessEqual = Some Comparison.LessEqual

-- The fused jumps, by the outcome of the test at which they jump: "In `lower_jump_if_false`, a < b becomes jump if b <= a"; "Mode 2 has [..]
-- fused jumps of the test's own sense." In the KR jumps src2, the register, is declared before src1.
unfoldable pub jump_rr : Bool → Comparison → ℕ → ℕ → Instruction
jump_rr false Comparison.Equal a b = Instruction.JumpIfNotEqual a b 0
jump_rr false Comparison.NotEqual a b = Instruction.JumpIfEqual a b 0
jump_rr false Comparison.Less a b = Instruction.JumpIfLessEqual b a 0
jump_rr false Comparison.LessEqual a b = Instruction.JumpIfLess b a 0
jump_rr false Comparison.Greater a b = Instruction.JumpIfLessEqual a b 0
jump_rr false Comparison.GreaterEqual a b = Instruction.JumpIfLess a b 0
jump_rr true Comparison.Equal a b = Instruction.JumpIfEqual a b 0
jump_rr true Comparison.NotEqual a b = Instruction.JumpIfNotEqual a b 0
jump_rr true Comparison.Less a b = Instruction.JumpIfLess a b 0
jump_rr true Comparison.LessEqual a b = Instruction.JumpIfLessEqual a b 0
jump_rr true Comparison.Greater a b = Instruction.JumpIfLess b a 0
jump_rr true Comparison.GreaterEqual a b = Instruction.JumpIfLessEqual b a 0

unfoldable pub jump_rk : Bool → Comparison → ℕ → ℕ → Instruction
jump_rk false Comparison.Equal a k = Instruction.JumpIfNotEqualK a k 0
jump_rk false Comparison.NotEqual a k = Instruction.JumpIfEqualK a k 0
jump_rk false Comparison.Less a k = Instruction.JumpIfLessEqualKR a k 0
jump_rk false Comparison.LessEqual a k = Instruction.JumpIfLessKR a k 0
jump_rk false Comparison.Greater a k = Instruction.JumpIfLessEqualRK a k 0
jump_rk false Comparison.GreaterEqual a k = Instruction.JumpIfLessRK a k 0
jump_rk true Comparison.Equal a k = Instruction.JumpIfEqualK a k 0
jump_rk true Comparison.NotEqual a k = Instruction.JumpIfNotEqualK a k 0
jump_rk true Comparison.Less a k = Instruction.JumpIfLessRK a k 0
jump_rk true Comparison.LessEqual a k = Instruction.JumpIfLessEqualRK a k 0
jump_rk true Comparison.Greater a k = Instruction.JumpIfLessKR a k 0
jump_rk true Comparison.GreaterEqual a k = Instruction.JumpIfLessEqualKR a k 0

unfoldable pub jump_kr : Bool → Comparison → ℕ → ℕ → Instruction
jump_kr false Comparison.Equal k b = Instruction.JumpIfNotEqualK b k 0
jump_kr false Comparison.NotEqual k b = Instruction.JumpIfEqualK b k 0
jump_kr false Comparison.Less k b = Instruction.JumpIfLessEqualRK b k 0
jump_kr false Comparison.LessEqual k b = Instruction.JumpIfLessRK b k 0
jump_kr false Comparison.Greater k b = Instruction.JumpIfLessEqualKR b k 0
jump_kr false Comparison.GreaterEqual k b = Instruction.JumpIfLessKR b k 0
jump_kr true Comparison.Equal k b = Instruction.JumpIfEqualK b k 0
jump_kr true Comparison.NotEqual k b = Instruction.JumpIfNotEqualK b k 0
jump_kr true Comparison.Less k b = Instruction.JumpIfLessKR b k 0
jump_kr true Comparison.LessEqual k b = Instruction.JumpIfLessEqualKR b k 0
jump_kr true Comparison.Greater k b = Instruction.JumpIfLessRK b k 0
jump_kr true Comparison.GreaterEqual k b = Instruction.JumpIfLessEqualRK b k 0

-- a register tested: "JumpIfFalse. Mode 2 has JumpIfTrue there"
unfoldable pub jump_if : Bool → ℕ → Instruction
jump_if false a = Instruction.JumpIfFalse a 0
jump_if true a = Instruction.JumpIfTrue a 0
