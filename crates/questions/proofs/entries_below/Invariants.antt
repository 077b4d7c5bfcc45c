-- `questions::entries_below` meets its contract. The invariant: the entries that are left are below i exactly where all are.
-- Assumes nothing.
use Rattle.std.proofs.Common.{◌≡◌, ◌*◌, take, drop}
use Rattle.words.specs.Words.{words}
use Rattle.lowering.specs.Tree.{entry_nodes}
use Rattle.lowering.specs.Questions.{all_below}
use Rattle.questions.proofs.Below.{entries_from}
use Rattle.questions.proofs.entries_below.Given as goal

abbrev pub invariant-loop-k : goal.invariant-loop-k
invariant-loop-k l =
    all_below l.i (entries_from (words l.list) l.first l.count l.k) ≡ all_below l.i (entry_nodes (take (2 * l.count) (drop l.first (words l.list))))
