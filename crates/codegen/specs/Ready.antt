-- What a function of the walk asks for, and what it does: one predicate for all of them.
use Rattle.std.specs.Prelude.{ℕ, ◌≤◌, ◌<◌, ◌≡◌, List, length}
use Rattle.words.specs.Words.{words}
use Rattle.words.specs.Records.{capacity}
use Rattle.syntax.specs.Ast.{node_width, node_word}
use Rattle.lowering.specs.declared.State.{State}
use Rattle.lowering.specs.Tree.{Tree, tree_of}
use Rattle.lowering.specs.Checked.{Checked}
use Rattle.lowering.specs.Walk.{Walk, made}
use Rattle.steps.specs.declared.answer.Stepped.{Stepped}
use Rattle.steps.specs.Answers.{settled, seen}

-- a node of the arena
abbrev pub InArena : List ℕ → ℕ → Type 0
InArena nodes i = i < capacity node_width (words nodes)

-- word k of a node, by the arena's bytes
abbrev pub node_word_of : List ℕ → ℕ → ℕ → ℕ
node_word_of nodes i k = node_word (words nodes) i k

-- a tree that passed the questions, and a node of it
abbrev pub Ready : List ℕ → List ℕ → List ℕ → ℕ → Type 0
Ready nodes list names i = Checked (tree_of nodes list names) × ((length (words names) ≤ 256) × InArena nodes i)

-- a map's entry that has a value: its key and its value are lower
abbrev pub EntryBelow : ℕ → ℕ → ℕ → Type 0
EntryBelow i key value = (key < i) × (value < i)

-- the program lowers as the walk w of the definition: what it answers, and the words that it leaves of the three buffers
abbrev pub Lowers : {A : Type 0} → (Tree → ℕ → A) → (Tree → Walk A) → (nodes list names code constants marks code' constants' marks' : List ℕ) → State → Stepped State → Type 0
Lowers gives w nodes list names code constants marks code' constants' marks' state r =
    settled (w (tree_of nodes list names) (made (words code) (words constants) (words marks) state))
    ≡ seen (tree_of nodes list names) (gives (tree_of nodes list names)) (made (words code') (words constants') (words marks') r.after) r.answer
