-- What the questions before the walk say of a tree that passes them: every node names lower ones only, and there are at most 256 parameters.
-- Assumes nothing.
use Prim.Native.Nat.{ℕ, zero, suc, ◌+◌, ◌≤◌, ◌<◌}
use native.Mathlib.Omega.{arith}
use native.Mathlib.Decide.{ℕ_discrete}
use mathlib.Core.Path.{◌≡◌, refl}
use mathlib.Core.Bool.{Bool, true, false, ◌&&◌, false≢true}
use mathlib.Core.List.{List}
use lib.Dec.{leb, ltb}
use lib.ListN.{length}
use borrow.Author.Tests.{ltb-true, leb-true}
use Rattle.diagnostics.specs.declared.Refusal.{Refusal}
use Rattle.words.specs.Records.{capacity}
use Rattle.words.specs.Words.{words}
use Rattle.syntax.specs.Ast.{node_width, node_word}
use Rattle.lowering.specs.Tree.{tree_of, Tree}
use Rattle.lowering.specs.Questions.{Verdict, passed, refused, ask, all_below, ask_node, ask_nodes, questions, question1, question2, question3, question4, question5, question6, question7, question8}
use Rattle.lowering.specs.Checked.{Falls}
use Rattle.lowering.specs.Meaning.{Named, first, later}

and_true : (a b : Bool) → (a && b) ≡ true → (a ≡ true) × (b ≡ true)
and_true true b e = (refl, e)
and_true false b e = absurd (false≢true e)

below_all : (i : ℕ) {c : ℕ} {l : List ℕ} → Named c l → all_below i l ≡ true → c < i
unfolding all_below
below_all i (first {is = is}) e = ltb-true _ i (and_true (ltb _ i) (all_below i is) e).0
below_all i (later {j = j} {is = is} m) e = below_all i m (and_true (ltb j i) (all_below i is) e).1

refused_passed : {r : Refusal} {p : ℕ} → refused r p ≡ passed → ⊥
refused_passed e = let z : ◌≡◌ {A = ℕ} 0 1 = cc in omega arith

-- 3 to 7 of a node answered yes: the last of them, and what is asked after it
five_passed : (a b c d f : Bool) (i : ℕ) (v : Verdict) →
    ask a Refusal.Kind i (ask b Refusal.Unused i (ask c Refusal.Number i (ask d Refusal.List i (ask f Refusal.Order i v)))) ≡ passed → (f ≡ true) × (v ≡ passed)
five_passed true true true true true i v e = (refl, e)
five_passed false b c d f i v e = absurd (refused_passed e)
five_passed true false c d f i v e = absurd (refused_passed e)
five_passed true true false d f i v e = absurd (refused_passed e)
five_passed true true true false f i v e = absurd (refused_passed e)
five_passed true true true true false i v e = absurd (refused_passed e)

two_passed : (a b : Bool) (v : Verdict) → ask a Refusal.Size 0 (ask b Refusal.Root 0 v) ≡ passed → v ≡ passed
two_passed true true v e = e
two_passed false b v e = absurd (refused_passed e)
two_passed true false v e = absurd (refused_passed e)

one_passed : (a : Bool) → ask a Refusal.Parameters 0 passed ≡ passed → a ≡ true
one_passed true e = refl
one_passed false e = absurd (refused_passed e)

module _ (t : Tree) where
  node_passed : (i : ℕ) (v : Verdict) → ask_node t i v ≡ passed → (question7 t i ≡ true) × (v ≡ passed)
  unfolding ask_node
  node_passed i v e =
      let kind : ℕ = node_word t.nodes i 0 in
      let a : ℕ = node_word t.nodes i 1 in
      let b : ℕ = node_word t.nodes i 2 in
      let c : ℕ = node_word t.nodes i 3 in
      five_passed (question3 kind) (question4 kind a b c) (question5 kind a b) (question6 (length t.list) kind a b c) (question7 t i) i v e

  nodes_passed : (n i : ℕ) (v : Verdict) → ask_nodes t n i v ≡ passed → v ≡ passed
  unfolding ask_nodes
  nodes_passed zero i v e = e
  nodes_passed (suc n) i v e = nodes_passed n (suc i) v (node_passed i (ask_nodes t n (suc i) v) e).1

  nodes_asked : (n i : ℕ) (v : Verdict) → ask_nodes t n i v ≡ passed → (j : ℕ) → i ≤ j → j < i + n → question7 t j ≡ true
  unfolding ask_nodes
  nodes_asked zero i v e j l h = absurd (omega arith)
  nodes_asked (suc n) i v e j l h =
      let k = node_passed i (ask_nodes t n (suc i) v) e in
      go (ℕ_discrete i j) k.0 (λ x. nodes_asked n (suc i) v k.1 j (omega arith) (omega arith))
    where
      go : Dec (i ≡ j) → question7 t i ≡ true → (suc i ≤ j → question7 t j ≡ true) → question7 t j ≡ true
      go (yes q) k more = rw q at k
      go (no q) k more = more (omega arith)

module _ (nodes list names : List ℕ) (mode root : ℕ) (e : questions nodes list names mode root ≡ passed) where
  abbrev last : Verdict
  last = ask (leb (length (words names)) 256) Refusal.Parameters 0 passed

  nodes_pass : ask_nodes (tree_of nodes list names) (capacity node_width (words nodes)) 0 last ≡ passed
  unfolding questions question8
  nodes_pass = two_passed (question1 nodes list names) (question2 mode root (capacity node_width (words nodes))) _ e

  -- question 7
  pub questions_fall : Falls (capacity node_width (words nodes)) (tree_of nodes list names)
  unfolding question7
  questions_fall i c h n = below_all i n (nodes_asked (tree_of nodes list names) (capacity node_width (words nodes)) 0 last nodes_pass i (omega arith) (omega arith))

  -- question 8
  pub few_parameters : length (words names) ≤ 256
  few_parameters = leb-true _ _ (one_passed (leb (length (words names)) 256) (nodes_passed (tree_of nodes list names) (capacity node_width (words nodes)) 0 last nodes_pass))
