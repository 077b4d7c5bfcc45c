-- The invariant: the search from p on finds what the whole search finds.
use Rattle.std.proofs.Common.{◌≡◌, ◌≤◌, ◌-◌, length}
use Rattle.words.specs.Words.{words}
use Rattle.words.specs.Records.{capacity, position, position_from}
use Rattle.words.proofs.position.Given as goal

abbrev pub invariant-loop-p : goal.invariant-loop-p
invariant-loop-p l = record {
  before_end : l.p ≤ l.end;
  counted : l.end ≤ l.count;
  whole : l.end ≤ capacity (length l.item) (words l.s);
  found : position_from (words l.s) l.item (l.count - l.p) l.p ≡ position (words l.s) l.item l.count;
}
