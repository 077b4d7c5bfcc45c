-- The bytes of node i, a part of all nodes' bytes: it is inside them, its words are the node's, and they are what is asked. Assumes nothing.
use mathlib.Core.Path.{◌≡◌, refl, sym, ◌∙◌}
use mathlib.Core.List.{List}
use Prim.Native.Nat.{ℕ, ◌+◌, ◌*◌, ◌-◌, ◌≤◌, ◌<◌}
use native.Mathlib.Omega.{arith}
use lib.Dec.{leb}
use lib.ListN.{length, get_or, take, drop, length-take, length-drop}
use lib.Seq.{get_or-take, get_or-drop}
use Rattle.diagnostics.specs.declared.Refusal.{Refusal}
use Rattle.words.specs.Words.{word_bytes, words}
use Rattle.words.specs.Records.{capacity}
use Rattle.words.proofs.Words.{length_words, word_in}
use Rattle.syntax.specs.declared.ast.Node.{Node}
use Rattle.syntax.specs.Ast.{node_width, node_kinds, node_word, node_at}
use Rattle.lowering.specs.Tree.{tree_of, children}
use Rattle.lowering.specs.Questions.{question3, question4, question5, question6, question7, all_below, Verdict, ask, ask_node}

-- the bytes of a node
abbrev node_size : ℕ
node_size = word_bytes * node_width

module _ (nodes : List ℕ) (i : ℕ) where
  -- from its first byte to its end
  abbrev pub node_bytes : List ℕ
  node_bytes = take (node_size * i + node_size - node_size * i) (drop (node_size * i) nodes)

  module _ (inside : i < capacity node_width (words nodes)) where
    pub node_end : node_size * i + node_size ≤ length nodes
    unfolding capacity
    node_end = omega (arith, length_words nodes)

    node_byte : (k n : ℕ) → k < node_size → n ≡ node_size * i + k → get_or node_bytes k 0 ≡ get_or nodes n 0
    node_byte k n h e = rw (get_or-take (node_size * i + node_size - node_size * i) (drop (node_size * i) nodes) k 0 (omega arith), get_or-drop (node_size * i) nodes k 0, e)

    pub node_word_lem : (k : ℕ) → k < node_width → get_or (words node_bytes) k 0 ≡ node_word (words nodes) i k
    unfolding node_word
    node_word_lem k h =
        let whole : length node_bytes ≡ node_size = simp (length-take, length-drop) (omega (arith, node_end)) in
        let byte_0 = node_byte (word_bytes * k) (word_bytes * (node_width * i + k)) (omega arith) (omega arith) in
        let byte_1 = node_byte (word_bytes * k + 1) (word_bytes * (node_width * i + k) + 1) (omega arith) (omega arith) in
        let byte_2 = node_byte (word_bytes * k + 2) (word_bytes * (node_width * i + k) + 2) (omega arith) (omega arith) in
        let byte_3 = node_byte (word_bytes * k + 3) (word_bytes * (node_width * i + k) + 3) (omega arith) (omega arith) in
        sym (word_in node_bytes k (omega arith) refl) ∙ word_in nodes (node_width * i + k) (omega (arith, node_end)) (omega (arith, byte_0, byte_1, byte_2, byte_3))

    -- the questions of the node, by what is read off the part
    pub asked_words : (list names : List ℕ) (next : Verdict) {kind a b c : ℕ} → kind ≡ get_or (words node_bytes) 0 0 → a ≡ get_or (words node_bytes) 1 0 → b ≡ get_or (words node_bytes) 2 0
        → c ≡ get_or (words node_bytes) 3 0
        → ask_node (tree_of nodes list names) i next
        ≡ ask (leb kind 14) Refusal.Kind i
        (ask (question4 kind a b c) Refusal.Unused i
        (ask (question5 kind a b) Refusal.Number i
        (ask (question6 (length (words list)) kind a b c) Refusal.List i
        (ask (all_below i (children (words list) (get_or node_kinds kind (λ x y z. Node.Nil) a b c))) Refusal.Order i
        next))))
    unfolding question3 ask_node question7 node_at
    asked_words list names next e0 e1 e2 e3 =
        rw (e0, e1, e2, e3, node_word_lem 0 (omega arith), node_word_lem 1 (omega arith), node_word_lem 2 (omega arith), node_word_lem 3 (omega arith))
