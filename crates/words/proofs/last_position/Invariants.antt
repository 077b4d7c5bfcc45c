-- The invariant: among the first i words stands what is found among all.
use Rattle.std.proofs.Common.{length, ◌≡◌, ◌≤◌}
use Rattle.words.specs.Words.{words}
use Rattle.words.specs.Records.{last_position}
use Rattle.words.proofs.last_position.Given as goal

abbrev pub invariant-loop-i : goal.invariant-loop-i
invariant-loop-i l = record {
  whole : l.i ≤ length (words l.s);
  counted : l.i ≤ l.count;
  found : last_position (words l.s) l.i l.x ≡ last_position (words l.s) l.count l.x;
}
