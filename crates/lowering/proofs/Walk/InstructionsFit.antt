-- Every instruction that the walk makes fits the fields of its kind, where its registers are below 256 and its constants are pooled. Assumes nothing.
use Prim.Native.Nat.{ℕ, ◌<◌}
use native.Mathlib.Omega.{arith}
use mathlib.Core.Bool.{Bool, true, false}
use Rattle.syntax.specs.declared.ops.BinaryOp.{BinaryOp}
use Rattle.syntax.specs.declared.ops.UnaryOp.{UnaryOp}
use Rattle.syntax.specs.declared.ops.Comparison.{Comparison}
use Rattle.runtime.specs.Instruction.{words_of}
use Rattle.lowering.specs.Operators.{binary_rr, binary_rk, binary_kr, unary, jump_rr, jump_rk, jump_kr, jump_if}
use lib.ListN.{get_or}
use Rattle.lowering.specs.Fields.{Narrow}
use Rattle.lowering.specs.Trace.{JumpKind}

-- 0 in a word that is no field, and in an offset
zero_unused : 0 < 1
zero_unused = omega arith

zero_offset : 0 < 2147483648
zero_offset = omega arith

module _ (top d a b : ℕ) (x : d < 256) (y : a < 256) where
  pub narrow_RR : b < 256 → (op : BinaryOp) → Narrow top (words_of (binary_rr op d a b))
  unfolding words_of binary_rr
  narrow_RR z BinaryOp.Add = (x, y, z)
  narrow_RR z BinaryOp.Subtract = (x, y, z)
  narrow_RR z BinaryOp.Multiply = (x, y, z)
  narrow_RR z BinaryOp.Divide = (x, y, z)
  narrow_RR z BinaryOp.Modulo = (x, y, z)
  narrow_RR z BinaryOp.Equal = (x, y, z)
  narrow_RR z BinaryOp.NotEqual = (x, y, z)
  narrow_RR z BinaryOp.Less = (x, y, z)
  narrow_RR z BinaryOp.LessEqual = (x, y, z)
  narrow_RR z BinaryOp.Greater = (x, z, y)
  narrow_RR z BinaryOp.GreaterEqual = (x, z, y)

  -- a register and a constant
  pub narrow_RK : b < top → (op : BinaryOp) → Narrow top (words_of (binary_rk op d a b))
  unfolding words_of binary_rk
  narrow_RK z BinaryOp.Add = (x, y, z)
  narrow_RK z BinaryOp.Subtract = (x, y, z)
  narrow_RK z BinaryOp.Multiply = (x, y, z)
  narrow_RK z BinaryOp.Divide = (x, y, z)
  narrow_RK z BinaryOp.Modulo = (x, y, z)
  narrow_RK z BinaryOp.Equal = (x, y, z)
  narrow_RK z BinaryOp.NotEqual = (x, y, z)
  narrow_RK z BinaryOp.Less = (x, y, z)
  narrow_RK z BinaryOp.LessEqual = (x, y, z)
  narrow_RK z BinaryOp.Greater = (x, z, y)
  narrow_RK z BinaryOp.GreaterEqual = (x, z, y)

  -- a constant and a register
  pub narrow_KR : b < top → (op : BinaryOp) → Narrow top (words_of (binary_kr op d b a))
  unfolding words_of binary_kr
  narrow_KR z BinaryOp.Add = (x, y, z)
  narrow_KR z BinaryOp.Subtract = (x, z, y)
  narrow_KR z BinaryOp.Multiply = (x, y, z)
  narrow_KR z BinaryOp.Divide = (x, z, y)
  narrow_KR z BinaryOp.Modulo = (x, z, y)
  narrow_KR z BinaryOp.Equal = (x, y, z)
  narrow_KR z BinaryOp.NotEqual = (x, y, z)
  narrow_KR z BinaryOp.Less = (x, z, y)
  narrow_KR z BinaryOp.LessEqual = (x, z, y)
  narrow_KR z BinaryOp.Greater = (x, y, z)
  narrow_KR z BinaryOp.GreaterEqual = (x, y, z)

  pub narrow_unary : (op : UnaryOp) → Narrow top (words_of (unary op d a))
  unfolding words_of unary
  narrow_unary UnaryOp.Negate = (x, y, zero_unused)
  narrow_unary UnaryOp.Deref = (x, y, zero_unused)

  -- the fused jumps
  pub narrow_jump_RR : (sense : Bool) (c : Comparison) → Narrow top (words_of (jump_rr sense c d a))
  unfolding words_of jump_rr
  narrow_jump_RR false Comparison.Equal = (x, y, zero_offset)
  narrow_jump_RR false Comparison.NotEqual = (x, y, zero_offset)
  narrow_jump_RR false Comparison.Less = (y, x, zero_offset)
  narrow_jump_RR false Comparison.LessEqual = (y, x, zero_offset)
  narrow_jump_RR false Comparison.Greater = (x, y, zero_offset)
  narrow_jump_RR false Comparison.GreaterEqual = (x, y, zero_offset)
  narrow_jump_RR true Comparison.Equal = (x, y, zero_offset)
  narrow_jump_RR true Comparison.NotEqual = (x, y, zero_offset)
  narrow_jump_RR true Comparison.Less = (x, y, zero_offset)
  narrow_jump_RR true Comparison.LessEqual = (x, y, zero_offset)
  narrow_jump_RR true Comparison.Greater = (y, x, zero_offset)
  narrow_jump_RR true Comparison.GreaterEqual = (y, x, zero_offset)

module _ (top a k : ℕ) (x : a < 256) (y : k < top) where
  pub narrow_jump_RK : (sense : Bool) (c : Comparison) → Narrow top (words_of (jump_rk sense c a k))
  unfolding words_of jump_rk
  narrow_jump_RK false Comparison.Equal = (x, y, zero_offset)
  narrow_jump_RK false Comparison.NotEqual = (x, y, zero_offset)
  narrow_jump_RK false Comparison.Less = (x, y, zero_offset)
  narrow_jump_RK false Comparison.LessEqual = (x, y, zero_offset)
  narrow_jump_RK false Comparison.Greater = (x, y, zero_offset)
  narrow_jump_RK false Comparison.GreaterEqual = (x, y, zero_offset)
  narrow_jump_RK true Comparison.Equal = (x, y, zero_offset)
  narrow_jump_RK true Comparison.NotEqual = (x, y, zero_offset)
  narrow_jump_RK true Comparison.Less = (x, y, zero_offset)
  narrow_jump_RK true Comparison.LessEqual = (x, y, zero_offset)
  narrow_jump_RK true Comparison.Greater = (x, y, zero_offset)
  narrow_jump_RK true Comparison.GreaterEqual = (x, y, zero_offset)

  pub narrow_jump_KR : (sense : Bool) (c : Comparison) → Narrow top (words_of (jump_kr sense c k a))
  unfolding words_of jump_kr
  narrow_jump_KR false Comparison.Equal = (x, y, zero_offset)
  narrow_jump_KR false Comparison.NotEqual = (x, y, zero_offset)
  narrow_jump_KR false Comparison.Less = (x, y, zero_offset)
  narrow_jump_KR false Comparison.LessEqual = (x, y, zero_offset)
  narrow_jump_KR false Comparison.Greater = (x, y, zero_offset)
  narrow_jump_KR false Comparison.GreaterEqual = (x, y, zero_offset)
  narrow_jump_KR true Comparison.Equal = (x, y, zero_offset)
  narrow_jump_KR true Comparison.NotEqual = (x, y, zero_offset)
  narrow_jump_KR true Comparison.Less = (x, y, zero_offset)
  narrow_jump_KR true Comparison.LessEqual = (x, y, zero_offset)
  narrow_jump_KR true Comparison.Greater = (x, y, zero_offset)
  narrow_jump_KR true Comparison.GreaterEqual = (x, y, zero_offset)

pub narrow_jump_if : (top a : ℕ) → a < 256 → (sense : Bool) → Narrow top (words_of (jump_if sense a))
unfolding words_of jump_if
narrow_jump_if top a x false = (x, zero_offset, zero_unused)
narrow_jump_if top a x true = (x, zero_offset, zero_unused)

-- and the jumps are jumps
module _ (a b : ℕ) where
  pub kind_jump_RR : (sense : Bool) (c : Comparison) → JumpKind (get_or (words_of (jump_rr sense c a b)) 0 0)
  unfolding words_of jump_rr
  kind_jump_RR false Comparison.Equal = record { low = omega arith; high = omega arith }
  kind_jump_RR false Comparison.NotEqual = record { low = omega arith; high = omega arith }
  kind_jump_RR false Comparison.Less = record { low = omega arith; high = omega arith }
  kind_jump_RR false Comparison.LessEqual = record { low = omega arith; high = omega arith }
  kind_jump_RR false Comparison.Greater = record { low = omega arith; high = omega arith }
  kind_jump_RR false Comparison.GreaterEqual = record { low = omega arith; high = omega arith }
  kind_jump_RR true Comparison.Equal = record { low = omega arith; high = omega arith }
  kind_jump_RR true Comparison.NotEqual = record { low = omega arith; high = omega arith }
  kind_jump_RR true Comparison.Less = record { low = omega arith; high = omega arith }
  kind_jump_RR true Comparison.LessEqual = record { low = omega arith; high = omega arith }
  kind_jump_RR true Comparison.Greater = record { low = omega arith; high = omega arith }
  kind_jump_RR true Comparison.GreaterEqual = record { low = omega arith; high = omega arith }

  pub kind_jump_RK : (sense : Bool) (c : Comparison) → JumpKind (get_or (words_of (jump_rk sense c a b)) 0 0)
  unfolding words_of jump_rk
  kind_jump_RK false Comparison.Equal = record { low = omega arith; high = omega arith }
  kind_jump_RK false Comparison.NotEqual = record { low = omega arith; high = omega arith }
  kind_jump_RK false Comparison.Less = record { low = omega arith; high = omega arith }
  kind_jump_RK false Comparison.LessEqual = record { low = omega arith; high = omega arith }
  kind_jump_RK false Comparison.Greater = record { low = omega arith; high = omega arith }
  kind_jump_RK false Comparison.GreaterEqual = record { low = omega arith; high = omega arith }
  kind_jump_RK true Comparison.Equal = record { low = omega arith; high = omega arith }
  kind_jump_RK true Comparison.NotEqual = record { low = omega arith; high = omega arith }
  kind_jump_RK true Comparison.Less = record { low = omega arith; high = omega arith }
  kind_jump_RK true Comparison.LessEqual = record { low = omega arith; high = omega arith }
  kind_jump_RK true Comparison.Greater = record { low = omega arith; high = omega arith }
  kind_jump_RK true Comparison.GreaterEqual = record { low = omega arith; high = omega arith }

  pub kind_jump_KR : (sense : Bool) (c : Comparison) → JumpKind (get_or (words_of (jump_kr sense c a b)) 0 0)
  unfolding words_of jump_kr
  kind_jump_KR false Comparison.Equal = record { low = omega arith; high = omega arith }
  kind_jump_KR false Comparison.NotEqual = record { low = omega arith; high = omega arith }
  kind_jump_KR false Comparison.Less = record { low = omega arith; high = omega arith }
  kind_jump_KR false Comparison.LessEqual = record { low = omega arith; high = omega arith }
  kind_jump_KR false Comparison.Greater = record { low = omega arith; high = omega arith }
  kind_jump_KR false Comparison.GreaterEqual = record { low = omega arith; high = omega arith }
  kind_jump_KR true Comparison.Equal = record { low = omega arith; high = omega arith }
  kind_jump_KR true Comparison.NotEqual = record { low = omega arith; high = omega arith }
  kind_jump_KR true Comparison.Less = record { low = omega arith; high = omega arith }
  kind_jump_KR true Comparison.LessEqual = record { low = omega arith; high = omega arith }
  kind_jump_KR true Comparison.Greater = record { low = omega arith; high = omega arith }
  kind_jump_KR true Comparison.GreaterEqual = record { low = omega arith; high = omega arith }

pub kind_jump_if : (a : ℕ) (sense : Bool) → JumpKind (get_or (words_of (jump_if sense a)) 0 0)
unfolding words_of jump_if
kind_jump_if a false = record { low = omega arith; high = omega arith }
kind_jump_if a true = record { low = omega arith; high = omega arith }
