-- `questions::arguments_below` meets its contract. The invariant: the arguments that are left are below i exactly where all are.
-- Assumes nothing.
use Rattle.std.proofs.Common.{◌≡◌, take, drop}
use Rattle.words.specs.Words.{words}
use Rattle.lowering.specs.Questions.{all_below}
use Rattle.questions.proofs.Below.{arguments_from}
use Rattle.questions.proofs.arguments_below.Given as goal

abbrev pub invariant-loop-k : goal.invariant-loop-k
invariant-loop-k l = all_below l.i (arguments_from (words l.list) l.first l.count l.k) ≡ all_below l.i (take l.count (drop l.first (words l.list)))
