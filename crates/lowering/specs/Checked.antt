-- The questions before the walk, as laws speak of them: all answered yes, or which one is the first answered no, and where; and what
-- the walk may rely on at each node of a tree that passed.
use Rattle.std.specs.Prelude.{ℕ, ◌+◌, ◌*◌, ◌%◌, ◌≤◌, ◌<◌, ◌≡◌, ◌≢◌, Bool, true, false, List, length, get_or}
use Rattle.diagnostics.specs.declared.Refusal.{Refusal}
use Rattle.words.specs.Words.{words}
use Rattle.words.specs.Records.{capacity}
use Rattle.syntax.specs.declared.ast.Node.{Node}
use Rattle.syntax.specs.Ast.{node_width, node_word, absent}
use Rattle.lowering.specs.Tree.{tree_of, Tree, node, children}
use Rattle.lowering.specs.Questions.{max_arguments, question1, question2, question3, question4, question5, question6, question7, question8}
use Rattle.lowering.specs.Meaning.{Named}

-- questions 3 to 6, asked of node i
abbrev pub asked3 : Tree → ℕ → Bool
asked3 t i = question3 (node_word t.nodes i 0)

abbrev pub asked4 : Tree → ℕ → Bool
asked4 t i = question4 (node_word t.nodes i 0) (node_word t.nodes i 1) (node_word t.nodes i 2) (node_word t.nodes i 3)

abbrev pub asked5 : Tree → ℕ → Bool
asked5 t i = question5 (node_word t.nodes i 0) (node_word t.nodes i 1) (node_word t.nodes i 2)

abbrev pub asked6 : Tree → ℕ → Bool
asked6 t i = question6 (length t.list) (node_word t.nodes i 0) (node_word t.nodes i 1) (node_word t.nodes i 2) (node_word t.nodes i 3)

-- questions 3 to 7 of node i are answered yes
pub record CheckedNode (t : Tree) (i : ℕ) : Type 0 where
  pub kind : asked3 t i ≡ true
  pub unused : asked4 t i ≡ true
  pub number : asked5 t i ≡ true
  pub list : asked6 t i ≡ true
  pub order : question7 t i ≡ true

-- every node is whole, and its questions are answered yes
pub record Checked (t : Tree) : Type 0 where
  -- no word stands past the last whole node
  pub whole : length t.nodes % node_width ≡ 0
  pub each : (i : ℕ) → i < capacity node_width t.nodes → CheckedNode t i

-- "For each node, [..] 3 [to] 7": the first of them that is answered no for node i, with its refusal
pub data NodeNo (t : Tree) (i : ℕ) : Refusal → Type 0 where
  no_kind : asked3 t i ≡ false → NodeNo t i Refusal.Kind
  no_unused : asked3 t i ≡ true → asked4 t i ≡ false → NodeNo t i Refusal.Unused
  no_number : asked3 t i ≡ true → asked4 t i ≡ true → asked5 t i ≡ false → NodeNo t i Refusal.Number
  no_list : asked3 t i ≡ true → asked4 t i ≡ true → asked5 t i ≡ true → asked6 t i ≡ false → NodeNo t i Refusal.List
  no_order : asked3 t i ≡ true → asked4 t i ≡ true → asked5 t i ≡ true → asked6 t i ≡ true → question7 t i ≡ false → NodeNo t i Refusal.Order

-- how many whole nodes the bytes hold
abbrev pub nodes_in : List ℕ → ℕ
nodes_in nodes = capacity node_width (words nodes)

-- "Before the walk, in order": every question is answered yes
pub record AllYes (nodes list names : List ℕ) (mode root : ℕ) : Type 0 where
  pub size : question1 nodes list names ≡ true
  pub start : question2 mode root (nodes_in nodes) ≡ true
  pub checked : Checked (tree_of nodes list names)
  pub parameters : question8 (length (words names)) ≡ true

-- The first question answered no, by its refusal and place; every question before it is answered yes. In order: 1, 2, then 3 to 7 "for each node, lowest first,
-- place = node", then 8
pub data FirstNo (nodes list names : List ℕ) (mode root : ℕ) : Refusal → ℕ → Type 0 where
  no_size : question1 nodes list names ≡ false → FirstNo nodes list names mode root Refusal.Size 0
  no_root : question1 nodes list names ≡ true → question2 mode root (nodes_in nodes) ≡ false → FirstNo nodes list names mode root Refusal.Root 0
  no_node : question1 nodes list names ≡ true → question2 mode root (nodes_in nodes) ≡ true →
      (i : ℕ) → i < nodes_in nodes → ((j : ℕ) → j < i → CheckedNode (tree_of nodes list names) j) →
      {r : Refusal} → NodeNo (tree_of nodes list names) i r → FirstNo nodes list names mode root r i
  no_parameters : question1 nodes list names ≡ true → question2 mode root (nodes_in nodes) ≡ true → Checked (tree_of nodes list names) →
      question8 (length (words names)) ≡ false → FirstNo nodes list names mode root Refusal.Parameters 0

-- "Is every node it names lower than itself?", of the first n nodes
abbrev pub Falls : ℕ → Tree → Type 0
Falls n t = (i c : ℕ) → i < n → Named c (children t.list (node t i)) → c < i

-- ---- what the walk asks of node i

-- the nodes that an if, a call or a map names are lower
pub record IfBelow (i c a b : ℕ) : Type 0 where
  pub condition : c < i
  pub then : a < i
  pub else : b ≢ absent → b < i

pub record CallBelow (t : Tree) (i c first count : ℕ) : Type 0 where
  pub callee : c < i
  pub few : count ≤ max_arguments
  pub inside : first + count ≤ length t.list
  pub argument : (k : ℕ) → k < count → get_or t.list (first + k) 0 < i

pub record MapBelow (t : Tree) (i first count : ℕ) : Type 0 where
  pub inside : first + 2 * count ≤ length t.list
  pub key : (k : ℕ) → k < count → get_or t.list (first + 2 * k) 0 < i
  pub value : (k : ℕ) → k < count → get_or t.list (first + 2 * k + 1) 0 ≢ absent → get_or t.list (first + 2 * k + 1) 0 < i

-- "Is every node it names lower than itself?", "Is its part of the list inside the list [..], arguments at most 255?", by kind
abbrev pub Below : Tree → ℕ → Node → Type 0
Below t i (Node.Number low high) = Unit {0}
Below t i (Node.String symbol) = Unit {0}
Below t i (Node.Boolean b) = Unit {0}
Below t i Node.Nil = Unit {0}
Below t i (Node.Identifier symbol) = Unit {0}
Below t i (Node.Binary operator left right) = (left < i) × (right < i)
Below t i (Node.Unary operator operand) = operand < i
Below t i (Node.LogicalNot operand) = operand < i
Below t i (Node.LogicalAnd left right) = (left < i) × (right < i)
Below t i (Node.LogicalOr left right) = (left < i) × (right < i)
Below t i (Node.If condition then_branch else_branch) = IfBelow i condition then_branch else_branch
Below t i (Node.Block tail) = tail ≢ absent → tail < i
Below t i (Node.FunctionCall callee first count) = CallBelow t i callee first count
Below t i (Node.PropertyAccess object property) = object < i
Below t i (Node.Map first count) = MapBelow t i first count
