-- The tree that is lowered: the words of its nodes, of its list and of its parameters' names.
use Rattle.std.specs.Prelude.{ℕ, ◌*◌, List, [], ◌∷◌, ◌++◌, cond, eqb, take, drop}
use Rattle.words.specs.Words.{words}
use Rattle.syntax.specs.declared.ast.Node.{Node}
use Rattle.syntax.specs.Ast.{node_at, node_word, absent}

pub record Tree : Type 0 where
  pub nodes : List ℕ
  pub list : List ℕ
  pub names : List ℕ

-- the tree of three slices, by their bytes
abbrev pub tree_of : List ℕ → List ℕ → List ℕ → Tree
tree_of nodes list names = record { nodes = words nodes; list = words list; names = words names }

abbrev pub node : Tree → ℕ → Node
node t i = node_at t.nodes i

abbrev pub span_start : Tree → ℕ → ℕ
span_start t i = node_word t.nodes i 4

abbrev pub span_end : Tree → ℕ → ℕ
span_end t i = node_word t.nodes i 5

-- a node that may be absent
unfoldable pub present : ℕ → List ℕ
present i = cond (eqb i absent) [] (i ∷ [])

-- "each entry two list words: key, value or absent"
unfoldable pub entry_nodes : List ℕ → List ℕ
entry_nodes [] = []
entry_nodes (key ∷ []) = key ∷ []
entry_nodes (key ∷ value ∷ rest) = key ∷ (present value ++ entry_nodes rest)

-- the nodes that a node names
unfoldable pub children : List ℕ → Node → List ℕ
children list (Node.Number low high) = []
children list (Node.String symbol) = []
children list (Node.Boolean b) = []
children list Node.Nil = []
children list (Node.Identifier symbol) = []
children list (Node.Binary operator left right) = left ∷ right ∷ []
children list (Node.Unary operator operand) = operand ∷ []
children list (Node.LogicalNot operand) = operand ∷ []
children list (Node.LogicalAnd left right) = left ∷ right ∷ []
children list (Node.LogicalOr left right) = left ∷ right ∷ []
children list (Node.If condition then_branch else_branch) = condition ∷ then_branch ∷ present else_branch
children list (Node.Block tail) = present tail
children list (Node.FunctionCall callee first count) = callee ∷ take count (drop first list)
children list (Node.PropertyAccess object property) = object ∷ []
children list (Node.Map first count) = entry_nodes (take (2 * count) (drop first list))
