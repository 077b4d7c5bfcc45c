-- What is left of the line makes of the slice what the whole line makes of it at entry.
use Rattle.std.proofs.Common.{◌≡◌, ◌*◌, ◌≤◌, length, drop}
use Rattle.std.proofs.lemmas.List.Edits.{sets}
use Rattle.words.specs.Words.{words}
use Rattle.listing.specs.Output.{write_line}
use Rattle.listing.proofs.Written.{line_to_write}
use Rattle.listing.proofs.output.write_line.Given as goal

abbrev pub invariant-loop-k : goal.invariant-loop-k
invariant-loop-k l =
    (l.at ≤ length l.initial.out)
    × (line_to_write l.at l.width l.first (words l.s) l.out l.k ≡ sets l.initial.out l.at (write_line l.width (drop (l.width * l.place) (words l.s))))
