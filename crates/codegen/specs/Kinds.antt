-- The kinds of nodes by their numbers, and what the arms of the walk ask of a node's words.
use Rattle.std.specs.Prelude.{ℕ, Bool, false, cond, List, eqb, None}
use Rattle.environment.specs.declared.Register.{Register}
use Rattle.syntax.specs.declared.ast.Node.{Node}
use Rattle.syntax.specs.declared.ops.BinaryOp.{BinaryOp}
use Rattle.runtime.specs.declared.opcode.Opcode.{Opcode}
use Rattle.runtime.specs.declared.operand.Operand.{Operand}
use Rattle.runtime.specs.Operands.{reg_of}
use Rattle.operators.specs.Opcodes.{is_comparison}
use Rattle.lowering.specs.Tree.{Tree, node}
use Rattle.lowering.specs.Walk.{Walk, ◌>>=◌, ◌>>◌, ret}
use Rattle.lowering.specs.Steps.{free_temp, emit, load_constant}
use Rattle.lowering.specs.Operators.{binary_rr}
use Rattle.lowering.specs.Literals.{literal}
use Rattle.steps.specs.Answers.{literal_word}
use Rattle.codegen.specs.Ready.{node_word_of}

abbrev pub name_kind : ℕ
name_kind = 4

abbrev pub binary_kind : ℕ
binary_kind = 5

abbrev pub unary_kind : ℕ
unary_kind = 6

abbrev pub not_kind : ℕ
not_kind = 7

abbrev pub and_kind : ℕ
and_kind = 8

abbrev pub or_kind : ℕ
or_kind = 9

abbrev pub if_kind : ℕ
if_kind = 10

abbrev pub block_kind : ℕ
block_kind = 11

abbrev pub call_kind : ℕ
call_kind = 12

abbrev pub property_kind : ℕ
property_kind = 13

abbrev pub map_kind : ℕ
map_kind = 14

-- the operand of a unary operator, or of not
unfoldable pub only_operand : List ℕ → ℕ → ℕ
only_operand nodes i = cond (eqb (node_word_of nodes i 0) unary_kind) (node_word_of nodes i 2) (node_word_of nodes i 1)

-- a key that is pooled: a literal, or the name itself as a string
unfoldable pub key_operand : Node → Operand
key_operand (Node.Number low high) = literal (Node.Number low high)
key_operand (Node.String symbol) = literal (Node.String symbol)
key_operand (Node.Boolean b) = literal (Node.Boolean b)
key_operand Node.Nil = literal Node.Nil
key_operand (Node.Identifier symbol) = Operand.String symbol
key_operand (Node.Binary operator left right) = Operand.Nil
key_operand (Node.Unary operator operand) = Operand.Nil
key_operand (Node.LogicalNot operand) = Operand.Nil
key_operand (Node.LogicalAnd left right) = Operand.Nil
key_operand (Node.LogicalOr left right) = Operand.Nil
key_operand (Node.If condition then_branch else_branch) = Operand.Nil
key_operand (Node.Block tail) = Operand.Nil
key_operand (Node.FunctionCall callee first count) = Operand.Nil
key_operand (Node.PropertyAccess object property) = Operand.Nil
key_operand (Node.Map first count) = Operand.Nil

-- the opcode of a property store, by where key and value are
unfoldable pub set_opcode : ℕ → ℕ → Opcode
set_opcode key value =
    cond (eqb key literal_word)
    (cond (eqb value literal_word) Opcode.SetPropertyKK Opcode.SetPropertyKR)
    (cond (eqb value literal_word) Opcode.SetPropertyRK Opcode.SetProperty)

-- whether a condition is a comparison, whose jump is fused
unfoldable pub is_compared : Node → Bool
is_compared (Node.Number low high) = false
is_compared (Node.String symbol) = false
is_compared (Node.Boolean b) = false
is_compared Node.Nil = false
is_compared (Node.Identifier symbol) = false
is_compared (Node.Binary operator left right) = is_comparison operator
is_compared (Node.Unary operator operand) = false
is_compared (Node.LogicalNot operand) = false
is_compared (Node.LogicalAnd left right) = false
is_compared (Node.LogicalOr left right) = false
is_compared (Node.If condition then_branch else_branch) = false
is_compared (Node.Block tail) = false
is_compared (Node.FunctionCall callee first count) = false
is_compared (Node.PropertyAccess object property) = false
is_compared (Node.Map first count) = false

-- "Two literals are both loaded."
unfoldable pub lower_literals : Tree → BinaryOp → ℕ → ℕ → Register → Walk Operand
lower_literals t operator left right d = do
  src1 ← load_constant (literal (node t left)) None
  src2 ← load_constant (literal (node t right)) None
  emit (binary_rr operator (reg_of d) (reg_of src1) (reg_of src2))
  free_temp src1
  free_temp src2
  ret (Operand.Register d)
