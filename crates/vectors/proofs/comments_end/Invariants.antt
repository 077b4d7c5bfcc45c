-- The invariant: `at` is not past the end, and the comments from it on end where all do. The measure is what is left of `s`.
use Rattle.std.proofs.Common.{length, ◌-◌, ◌≡◌, ◌≤◌}
use Rattle.vectors.specs.Answers.{comments_end}
use Rattle.vectors.proofs.Laws.{comments_from}
use Rattle.vectors.proofs.comments_end.Given as goal

abbrev pub invariant-loop-at : goal.invariant-loop-at
invariant-loop-at l = (l.at ≤ length l.s) × (comments_from l.s l.at ≡ comments_end l.s)

abbrev pub decreases-loop-at : goal.decreases-loop-at
decreases-loop-at l = length l.s - l.at
