-- What the lines that are left make of the buffer is what all of them make of it at entry.
use Rattle.std.proofs.Common.{◌≡◌, ◌≤◌, length, drop}
use Rattle.words.specs.Words.{words, tail}
use Rattle.listing.specs.Text.{read_lines, fill}
use Rattle.listing.proofs.Lines.{lines_left}
use Rattle.listing.proofs.text.read_lines.Given as goal

abbrev pub invariant-loop-i : goal.invariant-loop-i
invariant-loop-i l =
    (l.at ≤ length l.s)
    × (lines_left l.s l.at l.width l.count (words l.out) l.i ≡ fill (words l.initial.out) 0 (read_lines l.width l.count (drop l.at l.s)))
    × (tail l.out ≡ tail l.initial.out)
