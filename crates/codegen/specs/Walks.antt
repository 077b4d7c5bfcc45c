-- The tree and the buffers that are lent to the walk, and what a function of the walk does with them.
use Rattle.std.specs.Prelude.{ℕ, Bool, ◌≡◌, ◌≢◌, length, Option, Some}
use Rattle.words.specs.Words.{words}
use Rattle.syntax.specs.declared.ast.Node.{Node}
use Rattle.syntax.specs.Ast.{node_at}
use Rattle.lowering.specs.declared.State.{State}
use Rattle.lowering.specs.Tree.{Tree, tree_of}
use Rattle.lowering.specs.Walk.{Walk, Made, made}
use Rattle.steps.specs.declared.answer.Stepped.{Stepped}
use Rattle.steps.specs.Answers.{literal_word}
use Rattle.environment.specs.Environment.{lookup}
use Rattle.codegen.specs.Ready.{Lowers, node_word_of}
use Rattle.codegen.specs.Kinds.{name_kind}
use Rattle.codegen.specs.Flat.{are_leaves, found_at, LocalOr}
use Rattle.codegen.specs.declared.arena.Arena.{Arena}
use Rattle.codegen.specs.declared.arena.NodeRef.{NodeRef}
use Rattle.codegen.specs.declared.arena.Buffers.{Buffers}

-- the tree that is lent
abbrev pub arena_tree : Arena → Tree
arena_tree a = tree_of a.nodes.now a.list.now a.names.now

-- word k of a node
abbrev pub word_at : NodeRef → ℕ → ℕ
word_at n k = node_word_of n.arena.now.nodes.now n.index k

-- what a node is in its tree
abbrev pub tree_node : NodeRef → Node
tree_node n = node_at (words n.arena.now.nodes.now) n.index

-- the operands of an operator are literals or names, and not both literals
abbrev pub has_leaves : NodeRef → Bool
has_leaves n = are_leaves n.arena.now.nodes.now (word_at n 2) (word_at n 3)

-- what was made so far: the words of the three buffers, and the state
abbrev pub made_of : Buffers → State → Made
made_of b s = made (words b.code.now) (words b.constants.now) (words b.marks.now) s

-- the fields hold the same borrows
pub record Kept (old new : Buffers) : Type 0 where
  pub code : new.code.ghost_name ≡ old.code.ghost_name
  pub constants : new.constants.ghost_name ≡ old.constants.ghost_name
  pub marks : new.marks.ghost_name ≡ old.marks.ghost_name

-- no word was written
abbrev pub Untouched : Buffers → Buffers → Type 0
Untouched old new = (words new.code.now ≡ words old.code.now) × ((words new.constants.now ≡ words old.constants.now) × (words new.marks.now ≡ words old.marks.now))

-- and no register and no count changed
abbrev pub NothingDone : Buffers → Buffers → State → Stepped State → Type 0
NothingDone old new state r = (r.after ≡ state) × Untouched old new

-- the walk's answer, and the words that it leaves, are those of w of the definition
abbrev pub Walks : {A : Type 0} → (Tree → ℕ → A) → (Tree → Walk A) → Arena → Buffers → Buffers → State → Stepped State → Type 0
Walks gives w a old new state r =
    Lowers gives w a.nodes.now a.list.now a.names.now old.code.now old.constants.now old.marks.now new.code.now new.constants.now new.marks.now state r

-- the operand of a leaf by its word: its name's register, or that of a literal; none where the name is not declared
abbrev pub LeafWord : Arena → ℕ → Option ℕ → Type 0
LeafWord a i o =
    (node_word_of a.nodes.now i 0 ≡ name_kind → (found_at o ≡ lookup (words a.names.now) (length (words a.names.now)) (node_word_of a.nodes.now i 1)) × LocalOr o)
    × (node_word_of a.nodes.now i 0 ≢ name_kind → o ≡ Some literal_word)
