-- The questions of the nodes that are left. Assumes nothing.
use mathlib.Core.Path.{◌≡◌}
use Prim.Native.Nat.{ℕ, suc, ◌+◌, ◌-◌, ◌≤◌, ◌<◌}
use native.Mathlib.Omega.{arith}
use Rattle.lowering.specs.Tree.{Tree}
use Rattle.lowering.specs.Questions.{Verdict, ask_node, ask_nodes}

module _ (t : Tree) (count : ℕ) where
  pub nodes_start : (next : Verdict) → ask_nodes t (count - 0) 0 next ≡ ask_nodes t count 0 next
  nodes_start next = let e : count - 0 ≡ count = omega arith in rw e

  pub nodes_next : (i : ℕ) → i < count → (next : Verdict) → ask_nodes t (count - i) i next ≡ ask_node t i (ask_nodes t (count - (i + 1)) (i + 1) next)
  unfolding ask_nodes
  nodes_next i h next =
      let e : count - i ≡ suc (count - (i + 1)) = omega arith in
      let s : i + 1 ≡ suc i = omega arith in
      rw (e, s)

  pub nodes_end : (i : ℕ) → count ≤ i → (next : Verdict) → ask_nodes t (count - i) i next ≡ next
  unfolding ask_nodes
  nodes_end i h next = let e : count - i ≡ 0 = omega arith in rw e
