-- What is left of the lines makes of the slice what all of them make of it at entry.
use Rattle.std.proofs.Common.{◌≡◌, ◌≤◌, length}
use Rattle.std.proofs.lemmas.List.Edits.{sets}
use Rattle.words.specs.Words.{words}
use Rattle.listing.specs.Output.{write_lines}
use Rattle.listing.proofs.Written.{lines_to_write}
use Rattle.listing.proofs.output.write_lines.Given as goal

abbrev pub invariant-loop-i : goal.invariant-loop-i
invariant-loop-i l =
    (l.at ≤ length l.initial.out)
    × (lines_to_write l.at l.width l.count (words l.s) l.out l.i ≡ sets l.initial.out l.at (write_lines l.width l.count (words l.s)))
