-- The invariant is `Replayed` (Laws): what was found so far, with what is left, gives what all cases give.
use Rattle.vectors.proofs.Laws.{Replayed}
use Rattle.vectors.proofs.replay.Given as goal

abbrev pub invariant-loop : goal.invariant-loop
invariant-loop l = Replayed l.answers l.cases l.initial.at l.at l.differing l.agreeing l.counter
