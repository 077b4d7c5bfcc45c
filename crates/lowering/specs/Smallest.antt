-- "The smallest free register is taken": lowering a node for which no register is asked takes the smallest free one.
use Rattle.std.specs.Prelude.{ℕ, ◌<◌, ◌≡◌, true, false, Option, None}
use Rattle.environment.specs.declared.Register.{Register}
use Rattle.environment.specs.declared.RegisterSet.{RegisterSet}
use Rattle.environment.specs.Registers.{register_count, held}
use Rattle.syntax.specs.declared.ast.Node.{Node}
use Rattle.runtime.specs.declared.operand.Operand.{Operand}
use Rattle.lowering.specs.Tree.{Tree, node}
use Rattle.lowering.specs.Walk.{Made, ends, Walk, ◌>>◌, ret}
use Rattle.lowering.specs.Lower.{lower_materializing, lower_arguments}

-- register r of the 256 is free, and every smaller one is held
pub record SmallestFree (s : RegisterSet) (r : ℕ) : Type 0 where
  pub in_range : r < register_count
  pub is_free : held s r ≡ false
  pub smaller_held : (j : ℕ) → j < r → held s j ≡ true

-- E lowers a node as an expression, J as a condition
module _ (t : Tree) (E : ℕ → Option Register → Walk Operand) (J : ℕ → Walk ℕ) where
  -- what is done for node i before its register is taken: for an if its condition, for a call its arguments, for any other kind nothing
  unfoldable pub before_register : ℕ → Node → Walk Unit
  before_register i (Node.Number low high) = ret tt
  before_register i (Node.String symbol) = ret tt
  before_register i (Node.Boolean b) = ret tt
  before_register i Node.Nil = ret tt
  before_register i (Node.Identifier symbol) = ret tt
  before_register i (Node.Binary operator left right) = ret tt
  before_register i (Node.Unary operator operand) = ret tt
  before_register i (Node.LogicalNot operand) = ret tt
  before_register i (Node.LogicalAnd left right) = ret tt
  before_register i (Node.LogicalOr left right) = ret tt
  before_register i (Node.If condition then_branch else_branch) = J condition >> ret tt
  before_register i (Node.Block tail) = ret tt
  before_register i (Node.FunctionCall callee first count) = lower_arguments t E i first count 0 >> ret tt
  before_register i (Node.PropertyAccess object property) = ret tt
  before_register i (Node.Map first count) = ret tt

  -- node i from m, no register asked for: where the answer is temporary r, r was the smallest free register when it was taken. (A name's register
  -- is its parameter's, a local.)
  pub record Took (i r : ℕ) (m : Made) : Type 0 where
    pub when : Made
    pub before : before_register i (node t i) m ≡ ends tt when
    pub smallest : SmallestFree when.state.registers r

  abbrev pub SmallestFirst : Type 0
  SmallestFirst = (i r : ℕ) (m n : Made) → lower_materializing (E i) None m ≡ ends (Register.Temp r) n → Took i r m
