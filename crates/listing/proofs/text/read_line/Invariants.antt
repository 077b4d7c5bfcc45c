-- What the columns that are left make of the buffer is what the whole line makes of it at entry.
use Rattle.std.proofs.Common.{◌≡◌, ◌*◌, ◌≤◌, length, drop}
use Rattle.words.specs.Words.{words, tail}
use Rattle.listing.specs.Text.{read_line, fill}
use Rattle.listing.proofs.Lines.{line_left}
use Rattle.listing.proofs.text.read_line.Given as goal

abbrev pub invariant-loop-k : goal.invariant-loop-k
invariant-loop-k l =
    (l.at ≤ length l.s)
    × (line_left l.s l.at l.width l.first (words l.out) l.k ≡ fill (words l.initial.out) (l.width * l.place) (read_line l.width (drop l.at l.s)))
    × (tail l.out ≡ tail l.initial.out)
