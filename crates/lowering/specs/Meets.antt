-- What the walk meets: every node that the root reaches but for a name that is the key of an entry with a value, which "isn't looked up".
use Rattle.std.specs.Prelude.{ℕ, ◌+◌, ◌*◌, ◌<◌, ◌≡◌, ◌≢◌, ◌⊎◌, get_or, None}
use Rattle.syntax.specs.declared.ast.Node.{Node}
use Rattle.syntax.specs.declared.ops.BinaryOp.{BinaryOp}
use Rattle.syntax.specs.declared.ops.UnaryOp.{UnaryOp}
use Rattle.syntax.specs.Ast.{absent}
use Rattle.lowering.specs.Tree.{Tree, node}
use Rattle.lowering.specs.Lower.{name_of}

-- a node that is lowered with another
pub data Part (t : Tree) : Node → ℕ → Type 0 where
  left : {operator : BinaryOp} {l r : ℕ} → Part t (Node.Binary operator l r) l
  right : {operator : BinaryOp} {l r : ℕ} → Part t (Node.Binary operator l r) r
  operand : {operator : UnaryOp} {x : ℕ} → Part t (Node.Unary operator x) x
  negated : {x : ℕ} → Part t (Node.LogicalNot x) x
  and_left : {l r : ℕ} → Part t (Node.LogicalAnd l r) l
  and_right : {l r : ℕ} → Part t (Node.LogicalAnd l r) r
  or_left : {l r : ℕ} → Part t (Node.LogicalOr l r) l
  or_right : {l r : ℕ} → Part t (Node.LogicalOr l r) r
  condition : {c a b : ℕ} → Part t (Node.If c a b) c
  then_part : {c a b : ℕ} → Part t (Node.If c a b) a
  else_part : {c a b : ℕ} → b ≢ absent → Part t (Node.If c a b) b
  tail : {x : ℕ} → x ≢ absent → Part t (Node.Block x) x
  argument : {callee first count : ℕ} (k : ℕ) → k < count → Part t (Node.FunctionCall callee first count) (get_or t.list (first + k) 0)
  called : {callee first count : ℕ} → Part t (Node.FunctionCall callee first count) callee
  object : {x property : ℕ} → Part t (Node.PropertyAccess x property) x
  -- a key that is no name, or has no value
  key : {first count : ℕ} (k : ℕ) → k < count →
      (name_of (node t (get_or t.list (first + 2 * k) 0)) ≡ None) ⊎ (get_or t.list (first + 2 * k + 1) 0 ≡ absent) →
      Part t (Node.Map first count) (get_or t.list (first + 2 * k) 0)
  value : {first count : ℕ} (k : ℕ) → k < count → get_or t.list (first + 2 * k + 1) 0 ≢ absent → Part t (Node.Map first count) (get_or t.list (first + 2 * k + 1) 0)

-- what the walk of a node meets
pub data Meets (t : Tree) : ℕ → ℕ → Type 0 where
  here : {i : ℕ} → Meets t i i
  below : {i j k : ℕ} → Part t (node t i) j → Meets t j k → Meets t i k
