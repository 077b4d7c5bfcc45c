-- Literals: the nodes that are operands as they stand, "nothing until materialized".
use Rattle.std.specs.Prelude.{Bool, true, false}
use Rattle.syntax.specs.declared.ast.Node.{Node}
use Rattle.runtime.specs.declared.operand.Operand.{Operand}
use Rattle.runtime.specs.Value.{number_of}

-- a node whose value is an operand of its own
unfoldable pub is_literal : Node → Bool
is_literal (Node.Number low high) = true
is_literal (Node.String symbol) = true
is_literal (Node.Boolean b) = true
is_literal Node.Nil = true
is_literal (Node.Identifier symbol) = false
is_literal (Node.Binary operator left right) = false
is_literal (Node.Unary operator operand) = false
is_literal (Node.LogicalNot operand) = false
is_literal (Node.LogicalAnd left right) = false
is_literal (Node.LogicalOr left right) = false
is_literal (Node.If condition then_branch else_branch) = false
is_literal (Node.Block tail) = false
is_literal (Node.FunctionCall callee first count) = false
is_literal (Node.PropertyAccess object property) = false
is_literal (Node.Map first count) = false

-- the operand of a literal; nil for any other node
unfoldable pub literal : Node → Operand
literal (Node.Number low high) = Operand.Number (number_of low high)
literal (Node.String symbol) = Operand.String symbol
literal (Node.Boolean b) = Operand.Boolean b
literal Node.Nil = Operand.Nil
literal (Node.Identifier symbol) = Operand.Nil
literal (Node.Binary operator left right) = Operand.Nil
literal (Node.Unary operator operand) = Operand.Nil
literal (Node.LogicalNot operand) = Operand.Nil
literal (Node.LogicalAnd left right) = Operand.Nil
literal (Node.LogicalOr left right) = Operand.Nil
literal (Node.If condition then_branch else_branch) = Operand.Nil
literal (Node.Block tail) = Operand.Nil
literal (Node.FunctionCall callee first count) = Operand.Nil
literal (Node.PropertyAccess object property) = Operand.Nil
literal (Node.Map first count) = Operand.Nil
