-- "The meaning used by demand 3": the value of a tree without calls and maps, over the arena, for any values, failures and operators.
use Rattle.std.specs.Prelude.{ℕ, zero, suc, ◌+◌, ◌≡◌, List, [], ◌∷◌, Bool, true, false, cond, not, eqb, Float, Option, Some, None}
use Rattle.syntax.specs.declared.ast.Node.{Node}
use Rattle.syntax.specs.declared.ops.BinaryOp.{BinaryOp}
use Rattle.syntax.specs.declared.ops.UnaryOp.{UnaryOp}
use Rattle.syntax.specs.Ast.{absent}
use Rattle.runtime.specs.Value.{number_of}
use Rattle.lowering.specs.Tree.{Tree, node, children}

-- ---- operators

-- "An operator turns one or two values into a value or a failure"
pub data Answer (F A : Type 0) : Type 0 where
  val : A → Answer F A
  fail : F → Answer F A

-- "arithmetic, comparisons, negate, deref, not, property (object, key) and test"
pub data Unary : Type 0 where
  negate deref invert : Unary

pub data Binary : Type 0 where
  add subtract multiply divide modulo property : Binary

pub data Compare : Type 0 where
  equal unequal less less_equal : Compare

-- Any values, among them the constants; any failures, also none; any operators that depend on their values alone. "Comparisons and tests give
-- a boolean or fail".
pub record Operators : Type 1 where
  pub Value : Type 0
  pub Failure : Type 0
  pub number : Float → Value
  pub string : ℕ → Value
  pub boolean : Bool → Value
  pub nil : Value
  pub unary : Unary → Value → Answer Failure Value
  pub binary : Binary → Value → Value → Answer Failure Value
  pub compare : Compare → Value → Value → Answer Failure Bool
  pub test : Value → Answer Failure Bool

-- the other boolean, "or fails alike"
abbrev pub opposite : {F : Type 0} → Answer F Bool → Answer F Bool
opposite (val b) = val (not b)
opposite (fail x) = fail x

-- what is asked of the operators: "addition, multiplication and equality ignore operand order, failures too, and inequality is equality's
-- opposite or fails alike"; "a boolean tests as itself"
pub record Hypotheses (M : Operators) : Type 0 where
  pub add_order : (a b : M.Value) → M.binary add a b ≡ M.binary add b a
  pub multiply_order : (a b : M.Value) → M.binary multiply a b ≡ M.binary multiply b a
  pub equal_order : (a b : M.Value) → M.compare equal a b ≡ M.compare equal b a
  pub unequal_opposite : (a b : M.Value) → M.compare unequal a b ≡ opposite (M.compare equal a b)
  pub boolean_tests : (b : Bool) → M.test (M.boolean b) ≡ val b

-- "one of a < b and b <= a is true and the other false, or both fail alike"
abbrev pub Ordered : (M : Operators) → M.Value → M.Value → Type 0
Ordered M a b = M.compare less_equal b a ≡ opposite (M.compare less a b)

-- ---- the value of a node

-- a value, a failure, or undefined: an undeclared name and an else that is missing (no accepted tree reaches either), a call and a map
pub data Evaluation (F A : Type 0) : Type 0 where
  evaluates : A → Evaluation F A
  fails : F → Evaluation F A
  undefined : Evaluation F A

abbrev pub given : {F A : Type 0} → Answer F A → Evaluation F A
given (val a) = evaluates a
given (fail x) = fails x

-- "the first failure ends it"
abbrev pub and_then : {F A B : Type 0} → Evaluation F A → (A → Evaluation F B) → Evaluation F B
and_then (evaluates a) k = k a
and_then (fails x) k = fails x
and_then undefined k = undefined

-- what is asked of the value, if there is one
pub data IfAny {F A : Type 0} (K : A → Type 0) : Evaluation F A → Type 0 where
  met : {a : A} → K a → IfAny K (evaluates a)
  unmet : {x : F} → IfAny K (fails x)
  unasked : IfAny K undefined

-- the place of the last of the names that is x
unfoldable pub last_named : List ℕ → ℕ → Option ℕ
last_named [] x = None
last_named (name ∷ names) x = elim (last_named names x) [ Some i ↦ Some (suc i) | None ↦ cond (eqb name x) (Some 0) None ]

module _ (M : Operators) where
  -- a comparison's boolean as a value
  abbrev pub truth : Answer M.Failure Bool → Answer M.Failure M.Value
  truth (val b) = val (M.boolean b)
  truth (fail x) = fail x

  -- "With a, then b worked out, a > b means b < a, a >= b means b <= a."
  unfoldable pub operate : BinaryOp → M.Value → M.Value → Answer M.Failure M.Value
  operate BinaryOp.Add a b = M.binary add a b
  operate BinaryOp.Subtract a b = M.binary subtract a b
  operate BinaryOp.Multiply a b = M.binary multiply a b
  operate BinaryOp.Divide a b = M.binary divide a b
  operate BinaryOp.Modulo a b = M.binary modulo a b
  operate BinaryOp.Equal a b = truth (M.compare equal a b)
  operate BinaryOp.NotEqual a b = truth (M.compare unequal a b)
  operate BinaryOp.Greater a b = truth (M.compare less b a)
  operate BinaryOp.GreaterEqual a b = truth (M.compare less_equal b a)
  operate BinaryOp.Less a b = truth (M.compare less a b)
  operate BinaryOp.LessEqual a b = truth (M.compare less_equal a b)

  unfoldable pub unary_of : UnaryOp → Unary
  unary_of UnaryOp.Negate = negate
  unary_of UnaryOp.Deref = deref

  -- the values of nodes
  abbrev pub Evaluations : Type 0
  Evaluations = ℕ → Evaluation M.Failure M.Value

  abbrev pub tests : Evaluation M.Failure M.Value → Evaluation M.Failure Bool
  tests w = and_then w (λ a. given (M.test a))

  module _ (t : Tree) (parameters : ℕ → M.Value) where
    -- "a name the last parameter so called"
    abbrev pub parameter : Option ℕ → Evaluation M.Failure M.Value
    parameter (Some i) = evaluates (parameters i)
    parameter None = undefined

    -- "worked out left to right". "A literal is its constant, [..] a block its tail or nil." "And gives its left value when that tests false,
    -- else works out and gives its right; or the reverse. An if works out its then where the condition tests true, otherwise its else."
    unfoldable pub node_value : Evaluations → Node → Evaluation M.Failure M.Value
    node_value W (Node.Number low high) = evaluates (M.number (number_of low high))
    node_value W (Node.String symbol) = evaluates (M.string symbol)
    node_value W (Node.Boolean b) = evaluates (M.boolean b)
    node_value W Node.Nil = evaluates M.nil
    node_value W (Node.Identifier symbol) = parameter (last_named t.names symbol)
    node_value W (Node.Binary operator left right) = and_then (W left) (λ a. and_then (W right) (λ b. given (operate operator a b)))
    node_value W (Node.Unary operator operand) = and_then (W operand) (λ a. given (M.unary (unary_of operator) a))
    node_value W (Node.LogicalNot operand) = and_then (W operand) (λ a. given (M.unary invert a))
    node_value W (Node.LogicalAnd left right) = and_then (W left) (λ a. and_then (given (M.test a)) (λ b. cond b (W right) (evaluates a)))
    node_value W (Node.LogicalOr left right) = and_then (W left) (λ a. and_then (given (M.test a)) (λ b. cond b (evaluates a) (W right)))
    node_value W (Node.If condition then_branch else_branch) =
        and_then (W condition) (λ a. and_then (given (M.test a)) (λ b. cond b (W then_branch) (cond (eqb else_branch absent) undefined (W else_branch))))
    node_value W (Node.Block tail) = cond (eqb tail absent) (evaluates M.nil) (W tail)
    node_value W (Node.FunctionCall callee start count) = undefined
    node_value W (Node.PropertyAccess object symbol) = and_then (W object) (λ a. given (M.binary property a (M.string symbol)))
    node_value W (Node.Map start count) = undefined

    -- The recursion over the arena, with a bound above the index, as in the definition of lowering. `value_at` is cited, with no bound: where
    -- question 7 is answered yes, `value_at i` is `node_value value_at` of node i (proofs/Bound/Meaning).
    unfoldable pub value_below : ℕ → Evaluations
    value_below zero i = undefined
    value_below (suc bound) i = node_value (λ n. value_below bound n) (node t i)

    unfoldable pub value_at : Evaluations
    value_at i = value_below (suc i) i

    -- ---- the order premise

    -- the order premise for the two values of a condition that is <, <=, > or >=, "taken either way round as a and b"
    unfoldable pub OrderAt : BinaryOp → M.Value → M.Value → Type 0
    OrderAt BinaryOp.Add a b = Unit {0}
    OrderAt BinaryOp.Subtract a b = Unit {0}
    OrderAt BinaryOp.Multiply a b = Unit {0}
    OrderAt BinaryOp.Divide a b = Unit {0}
    OrderAt BinaryOp.Modulo a b = Unit {0}
    OrderAt BinaryOp.Equal a b = Unit {0}
    OrderAt BinaryOp.NotEqual a b = Unit {0}
    OrderAt BinaryOp.Greater a b = Ordered M a b × Ordered M b a
    OrderAt BinaryOp.GreaterEqual a b = Ordered M a b × Ordered M b a
    OrderAt BinaryOp.Less a b = Ordered M a b × Ordered M b a
    OrderAt BinaryOp.LessEqual a b = Ordered M a b × Ordered M b a

    -- what is asked where a node is an if's condition
    unfoldable pub condition_asks : Evaluations → Node → Type 0
    condition_asks W (Node.Number low high) = Unit {0}
    condition_asks W (Node.String symbol) = Unit {0}
    condition_asks W (Node.Boolean b) = Unit {0}
    condition_asks W Node.Nil = Unit {0}
    condition_asks W (Node.Identifier symbol) = Unit {0}
    condition_asks W (Node.Binary operator left right) = IfAny (λ a. IfAny (λ b. OrderAt operator a b) (W right)) (W left)
    condition_asks W (Node.Unary operator operand) = Unit {0}
    condition_asks W (Node.LogicalNot operand) = Unit {0}
    condition_asks W (Node.LogicalAnd left right) = Unit {0}
    condition_asks W (Node.LogicalOr left right) = Unit {0}
    condition_asks W (Node.If condition then_branch else_branch) = Unit {0}
    condition_asks W (Node.Block tail) = Unit {0}
    condition_asks W (Node.FunctionCall callee start count) = Unit {0}
    condition_asks W (Node.PropertyAccess object symbol) = Unit {0}
    condition_asks W (Node.Map start count) = Unit {0}

    abbrev pub Chosen : Bool → Type 0 → Type 0 → Type 0
    Chosen true A B = A
    Chosen false A B = B

    -- what is asked while a node is worked out: A of each node worked out, C of each condition
    unfoldable pub node_asks : Evaluations → (ℕ → Type 0) → (ℕ → Type 0) → Node → Type 0
    node_asks W A C (Node.Number low high) = Unit {0}
    node_asks W A C (Node.String symbol) = Unit {0}
    node_asks W A C (Node.Boolean b) = Unit {0}
    node_asks W A C Node.Nil = Unit {0}
    node_asks W A C (Node.Identifier symbol) = Unit {0}
    node_asks W A C (Node.Binary operator left right) = A left × IfAny (λ a. A right) (W left)
    node_asks W A C (Node.Unary operator operand) = A operand
    node_asks W A C (Node.LogicalNot operand) = A operand
    node_asks W A C (Node.LogicalAnd left right) = A left × IfAny (λ b. Chosen b (A right) (Unit {0})) (tests (W left))
    node_asks W A C (Node.LogicalOr left right) = A left × IfAny (λ b. Chosen b (Unit {0}) (A right)) (tests (W left))
    node_asks W A C (Node.If condition then_branch else_branch) =
        A condition × C condition
        × IfAny (λ b. Chosen b (A then_branch) (Chosen (eqb else_branch absent) (Unit {0}) (A else_branch))) (tests (W condition))
    node_asks W A C (Node.Block tail) = Chosen (eqb tail absent) (Unit {0}) (A tail)
    node_asks W A C (Node.FunctionCall callee start count) = Unit {0}
    node_asks W A C (Node.PropertyAccess object symbol) = A object
    node_asks W A C (Node.Map start count) = Unit {0}

    unfoldable pub condition_asks_below : ℕ → ℕ → Type 0
    condition_asks_below zero i = Unit {0}
    condition_asks_below (suc bound) i = condition_asks (λ n. value_below bound n) (node t i)

    unfoldable pub asks_below : ℕ → ℕ → Type 0
    asks_below zero i = Unit {0}
    asks_below (suc bound) i = node_asks (λ n. value_below bound n) (λ n. asks_below bound n) (λ n. condition_asks_below bound n) (node t i)

    -- the order premise: of each if met while node i is worked out
    unfoldable pub OrderPremise : ℕ → Type 0
    OrderPremise i = asks_below (suc i) i

    -- and where node i is a condition, of its own two values
    unfoldable pub ConditionPremise : ℕ → Type 0
    ConditionPremise i = condition_asks_below (suc i) i

-- the root's own two values, where the root is a condition: asked where the jump is on false, as at an if; nothing is asked where it is on true
abbrev pub AtRoot : Bool → Type 0 → Type 0
AtRoot false A = A
AtRoot true A = Unit {0}

-- ---- the tree

-- i is one of the nodes named
pub data Named (i : ℕ) : List ℕ → Type 0 where
  first : {is : List ℕ} → Named i (i ∷ is)
  later : {j : ℕ} {is : List ℕ} → Named i is → Named i (j ∷ is)

-- what the root reaches
pub data Reaches (t : Tree) : ℕ → ℕ → Type 0 where
  here : {i : ℕ} → Reaches t i i
  below : {i j k : ℕ} → Named j (children t.list (node t i)) → Reaches t j k → Reaches t i k

-- neither a call nor a map
unfoldable pub Plain : Node → Type 0
Plain (Node.Number low high) = Unit {0}
Plain (Node.String symbol) = Unit {0}
Plain (Node.Boolean b) = Unit {0}
Plain Node.Nil = Unit {0}
Plain (Node.Identifier symbol) = Unit {0}
Plain (Node.Binary operator left right) = Unit {0}
Plain (Node.Unary operator operand) = Unit {0}
Plain (Node.LogicalNot operand) = Unit {0}
Plain (Node.LogicalAnd left right) = Unit {0}
Plain (Node.LogicalOr left right) = Unit {0}
Plain (Node.If condition then_branch else_branch) = Unit {0}
Plain (Node.Block tail) = Unit {0}
Plain (Node.FunctionCall callee start count) = ⊥
Plain (Node.PropertyAccess object symbol) = Unit {0}
Plain (Node.Map start count) = ⊥

-- "nodes and ifs together, each counted at every use": an if counts twice
unfoldable pub node_size : Node → ℕ
node_size (Node.Number low high) = 1
node_size (Node.String symbol) = 1
node_size (Node.Boolean b) = 1
node_size Node.Nil = 1
node_size (Node.Identifier symbol) = 1
node_size (Node.Binary operator left right) = 1
node_size (Node.Unary operator operand) = 1
node_size (Node.LogicalNot operand) = 1
node_size (Node.LogicalAnd left right) = 1
node_size (Node.LogicalOr left right) = 1
node_size (Node.If condition then_branch else_branch) = 2
node_size (Node.Block tail) = 1
node_size (Node.FunctionCall callee start count) = 1
node_size (Node.PropertyAccess object symbol) = 1
node_size (Node.Map start count) = 1

unfoldable pub total : (ℕ → ℕ) → List ℕ → ℕ
total S [] = 0
total S (i ∷ is) = S i + total S is

unfoldable pub size_below : Tree → ℕ → ℕ → ℕ
size_below t zero i = 0
size_below t (suc bound) i = node_size (node t i) + total (λ n. size_below t bound n) (children t.list (node t i))

unfoldable pub size_at : Tree → ℕ → ℕ
size_at t i = size_below t (suc i) i
