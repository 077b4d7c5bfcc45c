-- `questions::check_nodes` meets its contract. The invariant: the nodes that are left are answered as all are. Assumes nothing.
use Rattle.std.proofs.Common.{◌≡◌, List, ℕ, ◌-◌}
use Rattle.lowering.specs.Questions.{Verdict, ask_nodes}
use Rattle.lowering.specs.Tree.{tree_of}
use Rattle.questions.proofs.check_nodes.Given as goal

abbrev pub invariant-loop-i : goal.invariant-loop-i
invariant-loop-i l =
    (names : List ℕ) (next : Verdict) → ask_nodes (tree_of l.nodes l.list names) (l.count - l.i) l.i next ≡ ask_nodes (tree_of l.nodes l.list names) l.count 0 next
